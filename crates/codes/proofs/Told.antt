-- What a syndrome says that belongs to no cell. Assumes nothing.
use Rattle.std.proofs.Common.{◌≡◌, ℕ, suc, ◌%◌, List, [], ◌∷◌, sym, refl, ◌∙◌}
use Rattle.std.proofs.lemmas.Bool.{ne_eqb, eq-eqb, cond-true, cond-false}
use lib.Count.{ones}
use Rattle.code.specs.Codes.{told, found, powers, by_count}
use Rattle.code.specs.declared.syndromes.Located.TheVariants.{Data, Check, Two, Many}

-- s is none of the list's
abbrev pub Absent : ℕ → List ℕ → Type 0
Absent s [] = Unit {0}
Absent s (x ∷ xs) = (s ≡ x → ⊥) × Absent s xs

found_none : {X : Type 0} (at : ℕ → X) (other : X) (i : ℕ) (xs : List ℕ) (s : ℕ) → Absent s xs → found at other i xs s ≡ other
found_none at other i [] s h = refl
found_none at other i (x ∷ xs) s h = cond-false _ _ _ (ne_eqb s x h.0) ∙ found_none at other (suc i) xs s h.1

rest_told : (k : ℕ) (columns : List ℕ) (s : ℕ) → (s ≡ 0 → ⊥) → Absent s columns → Absent s (powers k 1) →
    told k columns s ≡ by_count s
rest_told k columns s h d p =
    cond-false _ _ _ (ne_eqb s 0 h) ∙ found_none Data _ 0 columns s d ∙ found_none Check (by_count s) 0 (powers k 1) s p

pub told_two : (k : ℕ) (columns : List ℕ) (s : ℕ) → (s ≡ 0 → ⊥) → Absent s columns → Absent s (powers k 1) → ones s % 2 ≡ 0 →
    Two ≡ told k columns s
told_two k columns s h d p e = sym (rest_told k columns s h d p ∙ cond-true _ _ _ (eq-eqb _ _ e))

pub told_many : (k : ℕ) (columns : List ℕ) (s : ℕ) → (s ≡ 0 → ⊥) → Absent s columns → Absent s (powers k 1) → (ones s % 2 ≡ 0 → ⊥) →
    Many ≡ told k columns s
told_many k columns s h d p e = sym (rest_told k columns s h d p ∙ cond-false _ _ _ (ne_eqb _ _ e))
