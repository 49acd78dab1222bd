-- A blank and a field at the front of a text. Assumes nothing.
use Rattle.std.proofs.Common.{◌≡◌, ℕ, suc, ◌-◌, ◌*◌, ◌^◌, ◌<◌, Bool, eqb, List, [], ◌∷◌, ◌++◌, length, take, drop, sym, refl, ap, ◌∙◌, arith, MatchOption}
use Rattle.std.specs.Bool.{then_some}
use Rattle.std.proofs.lemmas.List.{take_all, take_at, drop_at, append-nil}
use Rattle.std.proofs.lemmas.Bool.{ne_eqb}
use Rattle.lines.specs.Texts.{field}
use Rattle.lines.specs.declared.commands.Field.{Field}
use Rattle.lines.proofs.HexFacts.{length_hex}

-- what stands behind the first byte
pub rest_is : (xs r : List ℕ) (b : ℕ) → xs ≡ b ∷ r → take (length xs - 1) (drop 1 xs) ≡ r
rest_is xs r b e = ap (λ ys. take (length ys - 1) (drop 1 ys)) e ∙ take_all _ r (omega arith)

-- fronts of one length, and what follows them
pub cut_same : (a b s t : List ℕ) → length a ≡ length b → a ++ s ≡ b ++ t → (a ≡ b) × (s ≡ t)
cut_same a b s t l e = (
  sym (take_at a s (length a) refl) ∙ ap (take (length a)) e ∙ take_at b t (length a) (sym l),
  sym (drop_at a s (length a) refl) ∙ ap (drop (length a)) e ∙ drop_at b t (length a) (sym l),
)

-- what follows a field that was cut off, known in two ways
pub rest_same : {k : ℕ} (f : Field k) (u : ℕ) (xs s t : List ℕ) → xs ≡ (32 ∷ f.text.now) ++ s → xs ≡ field k u ++ t → s ≡ t
rest_same {k} f u xs s t a b =
    (cut_same (32 ∷ f.text.now) (field k u) s t (ap suc (ap length f.spelled ∙ length_hex k f.number ∙ sym (length_hex k u))) (sym a ∙ b)).1

-- a field that was cut off is all there is, or there is more than one field
pub only_field : {k : ℕ} (f : Field k) (xs r : List ℕ) (b : Bool) → b ≡ eqb (length r) 0 → xs ≡ (32 ∷ f.text.now) ++ r →
    MatchOption (then_some b f) ((v : ℕ) → v < 2 ^ (4 * k) → xs ≡ field k v → ⊥) (λ g. xs ≡ 32 ∷ g.text.now)
only_field f xs [] b e cut = rw e (cut ∙ append-nil (32 ∷ f.text.now))
only_field {k} f xs (y ∷ r) b e cut =
    rw (e ∙ ne_eqb (length (y ∷ r)) 0 (λ z. absurd (omega arith))) (λ v h is. let more = rest_same f v xs (y ∷ r) [] cut (is ∙ sym (append-nil (field k v))) in cc)
