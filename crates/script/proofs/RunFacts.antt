-- A run, line by line. Assumes nothing.
use Rattle.std.proofs.Common.{◌≡◌, ℕ, zero, suc, ◌+◌, ◌-◌, ◌<◌, ◌≤◌, Bool, true, false, eqb, List, [], ◌∷◌, ◌++◌, length, get_or, take, drop, Some, None, Option, sym, refl, ap, ◌∙◌, subst, append_assoc, add-zero, add-one, add_assoc, arith, MatchOption}
use denote.Ref.{Bor}
use Rattle.std.specs.Bool.{◌==◌}
use Rattle.std.specs.List.{position, position_or_len}
use Rattle.std.proofs.lemmas.List.{append-nil, nil_from_length}
use Rattle.std.proofs.lemmas.List.Quantifiers.{position-Some}
use Rattle.std.proofs.lemmas.List.Sums.{fails_before_first}
use Rattle.std.proofs.lemmas.Bool.{cond-false, cond_both}
use Rattle.std.proofs.lemmas.Bool.Decides.{nat_tests}
use Rattle.code.specs.Codes.{CodeModel}
use Rattle.card.specs.Cards.{CardModel}
use Rattle.parts.specs.Units.{UnitState}
use Rattle.unit.specs.declared.calls.Call.{Call}
use Rattle.lines.specs.Texts.{answer_text}
use Rattle.lines.specs.Commands.{Parsed}
use Rattle.script.specs.declared.printing.Page.{Page}
use Rattle.script.specs.Written.{Wrote}
use Rattle.script.specs.Scripts.{Line, lines, prepend, Asked, reply, End, after, Ran, done, stop, line}

-- the place of the first 0A
abbrev ten_at : List ℕ → Option ℕ
ten_at = position (λ b. b == 10)

-- a text with a 0A at n, and none before it
cut_at : (xs : List ℕ) (n : ℕ) → n < length xs → ((k : ℕ) → k < n → eqb (get_or xs k 0) 10 ≡ false) → eqb (get_or xs n 0) 10 ≡ true →
    lines xs ≡ record { bytes = take n xs; ended = true } ∷ lines (drop (suc n) xs)
cut_at [] n within none ten = absurd (omega arith)
cut_at (b ∷ bs) zero within none ten = rw ten refl
cut_at (b ∷ bs) (suc n) within none ten =
    let later = cut_at bs n (omega arith) (λ k h. none (suc k) (omega arith)) ten in
    cond-false _ _ _ (none 0 (omega arith)) ∙ ap (prepend b) later

pub line_ended : (xs : List ℕ) (n : ℕ) → ten_at xs ≡ Some n → lines xs ≡ record { bytes = take n xs; ended = true } ∷ lines (drop (n + 1) xs)
line_ended xs n e =
    let at = position-Some (λ b. b == 10) xs n 0 e in
    rw add-one (cut_at xs n at.0 at.2 at.1)

-- a text with no 0A
no_cut : (b : ℕ) (bs : List ℕ) → ((k : ℕ) → k < length (b ∷ bs) → eqb (get_or (b ∷ bs) k 0) 10 ≡ false) → lines (b ∷ bs) ≡ record { bytes = b ∷ bs; ended = false } ∷ []
no_cut b [] none = cond-false _ _ _ (none 0 (omega arith))
no_cut b (d ∷ bs) none =
    let later = no_cut d bs (λ k h. none (suc k) (omega arith)) in
    cond-false _ _ _ (none 0 (omega arith)) ∙ ap (prepend b) later

none_at : (xs : List ℕ) → ten_at xs ≡ None → length xs ≤ position_or_len (λ b. b == 10) xs
none_at xs e = grind (arith, nat_tests)

pub line_unfinished : (xs : List ℕ) → 0 < length xs → ten_at xs ≡ None → lines xs ≡ record { bytes = xs; ended = false } ∷ []
line_unfinished [] some e = absurd (omega arith)
line_unfinished (b ∷ bs) some e =
    let none = none_at (b ∷ bs) e in
    no_cut b bs (λ k h. fails_before_first (λ d. d == 10) (b ∷ bs) k 0 (omega arith))

prepended : (b : ℕ) (ls : List Line) → (l : Line) × (k : List Line) × (prepend b ls ≡ l ∷ k)
prepended b [] = (_, _, refl)
prepended b (l ∷ ls) = (_, _, refl)

lines_some : (xs : List ℕ) → 0 < length xs → (l : Line) × (ls : List Line) × (lines xs ≡ l ∷ ls)
lines_some [] h = absurd (omega arith)
lines_some (b ∷ bs) h =
    cond_both (eqb b 10) (record { bytes = []; ended = true } ∷ lines bs) (prepend b (lines bs)) (λ ls. (l : Line) × (k : List Line) × (ls ≡ l ∷ k))
    (λ _. (_, _, refl)) (λ _. prepended b (lines bs))

-- a text's first line, and what it asks for
pub record FirstAsks (xs rest : List ℕ) (a : Option Call) : Type 0 where
  pub first : Line
  pub cut : lines xs ≡ first ∷ lines rest
  pub asks : Asked first a

pub first_asks : (xs rest : List ℕ) (text : Option (Bor (List ℕ))) (a : Option Call) →
    MatchOption text (lines xs ≡ record { bytes = xs; ended = false } ∷ lines rest) (λ t. lines xs ≡ record { bytes = t.now; ended = true } ∷ lines rest) →
    MatchOption text (a ≡ None) (λ t. Parsed t.now a) → FirstAsks xs rest a
first_asks xs rest None a cut asked = record { first = record { bytes = xs; ended = false }; cut = cut; asks = asked }
first_asks xs rest (Some t) a cut asked = record { first = record { bytes = t.now; ended = true }; cut = cut; asks = asked }

module _ (c : CodeModel) (m : CardModel) where
  -- nothing after a text and so many lines
  after_none : (s : UnitState m.State) (t : List ℕ) (n : ℕ) (b : Bool) →
      after c m t n (record { state = s; text = []; count = 0; stopped = b }) ≡ record { state = s; text = t; count = n; stopped = b }
  after_none s t n b =
      ap (λ x. record { state = s; text = x; count = n + 0; stopped = b }) (append-nil t) ∙ ap (λ x. record { state = s; text = t; count = x; stopped = b }) (add-zero n)

  -- two ends, one after the other
  after_after : (t u : List ℕ) (n k : ℕ) (e : End c m) → after c m t n (after c m u k e) ≡ after c m (t ++ u) (n + k) e
  after_after t u n k e =
      ap (λ x. record { state = e.state; text = x; count = n + (k + e.count); stopped = e.stopped }) (sym (append_assoc t u e.text)) ∙
      ap (λ x. record { state = e.state; text = (t ++ u) ++ e.text; count = x; stopped = e.stopped }) (sym (add_assoc n k e.count))

  -- what has been run so far: any end of the rest gives an end of the whole
  pub record SoFar (s0 : UnitState m.State) (room0 : ℕ) (all : List Line) (s : UnitState m.State) (p : Page) (xs : List ℕ) (n : ℕ) : Type 0 where
    pub ends : (e : End c m) → Ran c m s (length p.out.now - p.written) (lines xs) e → Ran c m s0 room0 all (after c m (take p.written p.out.now) n e)

  module _ {s0 : UnitState m.State} {room0 : ℕ} {all : List Line} {s : UnitState m.State} {p : Page} {xs : List ℕ} {n : ℕ} (so_far : SoFar s0 room0 all s p xs n) where
    pub run_done : length xs ≡ 0 → {k w : ℕ} {out : List ℕ} → k ≡ room0 → w ≡ p.written → out ≡ p.out.now → Ran c m s0 k all (record { state = s; text = take w out; count = n; stopped = false })
    run_done z r w o = rw (r, w, o) (subst (Ran c m s0 room0 all) (after_none s (take p.written p.out.now) n false) (so_far.ends _ (rw (nil_from_length xs z) done)))

    pub run_stopped : 0 < length xs → length p.out.now - p.written < 32 → {k w : ℕ} {out : List ℕ} → k ≡ room0 → w ≡ p.written → out ≡ p.out.now →
        Ran c m s0 k all (record { state = s; text = take w out; count = n; stopped = true })
    run_stopped some h r w o =
        let first = lines_some xs some in
        rw (r, w, o) (subst (Ran c m s0 room0 all) (after_none s (take p.written p.out.now) n true) (so_far.ends _ (rw first.2 (stop h))))

    -- a turn of the loop: a line, the answer to what it asks for, and its text behind the others
    pub run_again : {s' : UnitState m.State} {p' : Page} {rest : List ℕ} {a : Option Call} → FirstAsks xs rest a → 32 ≤ length p.out.now - p.written → s' ≡ (reply c m s a).state →
        Wrote p (answer_text (reply c m s a).answer) p' → SoFar s0 room0 all s' p' rest (n + 1)
    run_again {s'} {p'} {rest} {a} f room moved w = record {
      ends = λ e r.
          let t = answer_text (reply c m s a).answer in
          let left : length p'.out.now - p'.written ≡ (length p.out.now - p.written) - length t = omega (arith, w.behind, w.long) in
          let later : Ran c m (reply c m s a).state ((length p.out.now - p.written) - length t) (lines rest) e = rw (← moved, ← left) r in
          let one : Ran c m s (length p.out.now - p.written) (lines xs) (after c m t 1 e) = rw f.cut (line a room f.asks later) in
          rw w.told (subst (Ran c m s0 room0 all) (after_after (take p.written p.out.now) t n 1 e) (so_far.ends _ one));
    }
