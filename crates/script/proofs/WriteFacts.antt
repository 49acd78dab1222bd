-- Texts written one behind the other, and digit by digit. Assumes nothing.
use Rattle.std.proofs.Common.{◌≡◌, ℕ, zero, suc, ◌-◌, ◌*◌, ◌/◌, ◌%◌, ◌^◌, ◌<◌, ◌≤◌, List, [], ◌∷◌, ◌++◌, length, get_or, take, drop, Some, None, Ok, Err, sym, refl, ap, ◌∙◌, subst, append_assoc, arith, lit≤, length-append}
use Rattle.std.proofs.lemmas.List.{drop-drop}
use Rattle.unit.specs.Steps.{Answer}
use Rattle.unit.specs.declared.calls.Reply.TheVariants.{Done, Gave, Merged, LogWord, FirstWas}
use Rattle.lines.specs.Hex.{hex_digit, hex}
use Rattle.lines.specs.Texts.{answer_text}
use Rattle.script.specs.Written.{Wrote}
use Rattle.script.specs.declared.printing.Page.{Page}

-- what lay behind was never touched
pub rest_kept : {p q : Page} {a : List ℕ} (out : List ℕ) → Wrote p a q → drop p.written p.out.now ≡ drop p.written out → drop q.written q.out.now ≡ drop q.written out
rest_kept {p} {q} {a} out w e =
    w.rest ∙ ap (λ k. drop k p.out.now) w.behind ∙ sym (drop-drop (length a) p.written p.out.now) ∙ ap (drop (length a)) e ∙ drop-drop (length a) p.written out ∙ ap (λ k. drop k out) (sym w.behind)

-- a second text behind the first
pub wrote_more : {p q r : Page} {a b : List ℕ} → Wrote p a q → Wrote q b r → Wrote p (a ++ b) r
wrote_more {p} {q} {r} {a} {b} w v =
    record {
      told = v.told ∙ ap (λ t. t ++ b) w.told ∙ append_assoc (take p.written p.out.now) a b;
      behind = omega (arith, w.behind, v.behind, length-append a b);
      rest = rest_kept p.out.now v w.rest;
      same = v.same ∙ w.same;
      long = v.long ∙ w.long;
    }

-- the same text by another name
pub wrote_as : {p q : Page} {a b : List ℕ} → a ≡ b → Wrote p a q → Wrote p b q
wrote_as {p} {q} e w = subst (λ t. Wrote p t q) e w

-- a number's digits, one at each place
pub hex_from_digits : (xs : List ℕ) (k v : ℕ) → length xs ≡ k → ((i : ℕ) → i < k → get_or xs i 0 ≡ hex_digit (v / 2 ^ (4 * (k - 1 - i)) % 16)) → xs ≡ hex k v
hex_from_digits [] zero v l each = refl
hex_from_digits [] (suc k) v l each = absurd (omega arith)
hex_from_digits (x ∷ xs) zero v l each = absurd (omega arith)
hex_from_digits (x ∷ xs) (suc k) v l each =
    let first : suc k - 1 - 0 ≡ k = omega arith in
    let head : x ≡ hex_digit (v / 2 ^ (4 * k) % 16) = each 0 (omega arith) ∙ ap (λ n. hex_digit (v / 2 ^ (4 * n) % 16)) first in
    let tail = hex_from_digits xs k v (omega arith)
    (λ i h. let next : suc k - 1 - suc i ≡ k - 1 - i = omega arith in each (suc i) (omega arith) ∙ ap (λ n. hex_digit (v / 2 ^ (4 * n) % 16)) next) in
    cc

-- no answer's line is longer than 32 bytes
pub text_short : (a : Answer) → length (answer_text a) ≤ 32
text_short (Ok Done) = lit≤ tt
text_short (Ok (Gave w)) = lit≤ tt
text_short (Ok (Merged o)) = lit≤ tt
text_short (Ok (LogWord v)) = lit≤ tt
text_short (Ok (FirstWas None)) = lit≤ tt
text_short (Ok (FirstWas (Some e))) = lit≤ tt
text_short (Err f) = lit≤ tt
