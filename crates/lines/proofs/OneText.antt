-- No two calls share a text. Assumes nothing.
use Rattle.std.proofs.Common.{◌≡◌, ℕ, ◌*◌, ◌^◌, ◌<◌, List, ◌++◌, Some, None, Option, MatchOption, IsSomeAnd, sym, ap, ◌∙◌, subst, rules}
use Rattle.unit.specs.declared.calls.Call.{Call}
use Rattle.unit.specs.declared.calls.Call.TheVariants.{Read, Write, Merge, Scrub, Inject, Log, First, Clear}
use Rattle.word.specs.declared.words.Word.{Word}
use Rattle.lines.specs.Hex.{hex}
use Rattle.lines.specs.Texts.{field, letter_of, fields_of, line_of}
use Rattle.lines.specs.Commands.{Scripted, Parsed, command_text, low_only}
use Rattle.lines.specs.declared.commands.Command.{Command}
use Rattle.lines.proofs.HexFacts.{length_hex, hex_told}
use Rattle.lines.proofs.FieldFacts.{cut_same}

-- the numbers of a call
abbrev place_of : Call → ℕ
place_of (Read p) = p
place_of (Write p w) = p
place_of (Merge p w e) = p
place_of (Scrub p) = p
place_of (Inject p x) = p
place_of Log = 0
place_of First = 0
place_of Clear = 0

abbrev low_of : Call → ℕ
low_of (Read p) = 0
low_of (Write p w) = w.low
low_of (Merge p w e) = w.low
low_of (Scrub p) = 0
low_of (Inject p x) = 0
low_of Log = 0
low_of First = 0
low_of Clear = 0

-- the enables or the cell
abbrev byte_of : Call → ℕ
byte_of (Read p) = 0
byte_of (Write p w) = 0
byte_of (Merge p w e) = e
byte_of (Scrub p) = 0
byte_of (Inject p x) = x
byte_of Log = 0
byte_of First = 0
byte_of Clear = 0

place_below : (d : Call) → Scripted d → place_of d < 2 ^ 16
place_below d s = search rules

low_below : (d : Call) → Scripted d → low_of d < 2 ^ 64
low_below d s = search rules

byte_below : (d : Call) → Scripted d → byte_of d < 2 ^ 8
byte_below d s = search rules

-- a letter and its numbers make the call
read_is : (d : Call) → 82 ≡ letter_of d → (fields_of d ≡ field 4 (place_of d)) × (d ≡ Read (place_of d))
read_is d l = (search rules, search rules)

write_is : (d : Call) → Scripted d → 87 ≡ letter_of d → (fields_of d ≡ field 4 (place_of d) ++ field 16 (low_of d)) × (d ≡ Write (place_of d) (low_only (low_of d)))
write_is d s l = (search rules, search rules)

merge_is : (d : Call) → Scripted d → 77 ≡ letter_of d →
    (fields_of d ≡ field 4 (place_of d) ++ (field 2 (byte_of d) ++ field 16 (low_of d))) × (d ≡ Merge (place_of d) (low_only (low_of d)) (byte_of d))
merge_is d s l = (search rules, search rules)

scrub_is : (d : Call) → 83 ≡ letter_of d → (fields_of d ≡ field 4 (place_of d)) × (d ≡ Scrub (place_of d))
scrub_is d l = (search rules, search rules)

inject_is : (d : Call) → 73 ≡ letter_of d → (fields_of d ≡ field 4 (place_of d) ++ field 2 (byte_of d)) × (d ≡ Inject (place_of d) (byte_of d))
inject_is d l = (search rules, search rules)

-- one field more is the same
more_same : (k v u : ℕ) (s t : List ℕ) → v < 2 ^ (4 * k) → u < 2 ^ (4 * k) → field k v ++ s ≡ field k u ++ t → (v ≡ u) × (s ≡ t)
more_same k v u s t hv hu e =
    let tails : hex k v ++ s ≡ hex k u ++ t = cc in
    let both = cut_same (hex k v) (hex k u) s t (length_hex k v ∙ sym (length_hex k u)) tails in
    (hex_told k v u hv hu both.0, both.1)

last_same : (k v u : ℕ) → v < 2 ^ (4 * k) → u < 2 ^ (4 * k) → field k v ≡ field k u → v ≡ u
last_same k v u hv hu e = let tails : hex k v ≡ hex k u = cc in hex_told k v u hv hu tails

word_same : (w : Word) (v : ℕ) → w.low ≡ v → w.top ≡ 0 → low_only v ≡ w
word_same w v l t = ap (λ x. record { low = x; top = 0 }) (sym l) ∙ ap (λ x. record { low = w.low; top = x }) (sym t)

pub one_text : (c d : Call) → Scripted c → Scripted d → line_of c ≡ line_of d → d ≡ c
one_text (Read p) d s t e =
    let r = read_is d (cc) in
    let fields : field 4 p ≡ fields_of d = cc in
    let place = last_same 4 p (place_of d) s (place_below d t) (fields ∙ r.0) in
    cc
one_text (Write p w) d s t e =
    let r = write_is d t (cc) in
    let fields : fields_of (Write p w) ≡ fields_of d = cc in
    let first = more_same 4 p (place_of d) _ _ s.0 (place_below d t) (fields ∙ r.0) in
    let word = word_same w (low_of d) (last_same 16 w.low (low_of d) s.1 (low_below d t) first.1) s.2 in
    cc
one_text (Merge p w n) d s t e =
    let r = merge_is d t (cc) in
    let fields : fields_of (Merge p w n) ≡ fields_of d = cc in
    let first = more_same 4 p (place_of d) _ _ s.0 (place_below d t) (fields ∙ r.0) in
    let second = more_same 2 n (byte_of d) _ _ s.3 (byte_below d t) first.1 in
    let word = word_same w (low_of d) (last_same 16 w.low (low_of d) s.1 (low_below d t) second.1) s.2 in
    cc
one_text (Scrub p) d s t e =
    let r = scrub_is d (cc) in
    let fields : field 4 p ≡ fields_of d = cc in
    let place = last_same 4 p (place_of d) s (place_below d t) (fields ∙ r.0) in
    cc
one_text (Inject p x) d s t e =
    let r = inject_is d (cc) in
    let fields : fields_of (Inject p x) ≡ fields_of d = cc in
    let first = more_same 4 p (place_of d) _ _ s.0 (place_below d t) (fields ∙ r.0) in
    let cell = last_same 2 x (byte_of d) s.1 (byte_below d t) first.1 in
    cc
one_text Log d s t e = search rules
one_text First d s t e = search rules
one_text Clear d s t e = search rules

-- what the line of a command asks for
pub parsed_from : (line : List ℕ) (d : Option Command) (r : Option Call) → MatchOption d ((c : Call) → Scripted c → line ≡ line_of c → ⊥) (λ x. line ≡ command_text x) →
    MatchOption d (r ≡ None) (λ x. IsSomeAnd r (λ c. Scripted c × (command_text x ≡ line_of c))) → Parsed line r
parsed_from line None r never e = subst (Parsed line) (sym e) never
parsed_from line (Some d) None told asked = absurd asked
parsed_from line (Some d) (Some c) told asked =
    let text = told ∙ asked.1 in
    record { fits = asked.0; text = text; only = λ k s e. one_text c k asked.0 s (sym text ∙ e) }
