-- The marks of the 64-bit code lead to the same data as its located cells. Assumes nothing.
use Rattle.std.specs.Prelude.{◌≡◌, ℕ, ◌+◌, ◌-◌, ◌%◌, ◌<◌, Bool, true, ◌&&◌, List, length, ◌==◌, nat_eq, refl}
use Rattle.std.proofs.Common.{◌∙◌, arith, lit<}
use Rattle.std.specs.Int.Count.{ones, ones_in}
use Rattle.std.proofs.lemmas.Bool.{eqb-true, and_parts, lt-ltb, le-ltb, cond-true, cond-false, cond_both}
use Rattle.code.specs.Codes.{CodeLaws, located}
use Rattle.code.specs.Decoding.{at_cell, corrected}
use Rattle.codes.specs.Marks.{mark, Marks64, followed}
use Rattle.codes.specs.Tables.{code64, columns64}
use Rattle.code.specs.declared.syndromes.Located.{Located}
use Rattle.code.specs.declared.syndromes.Located.TheVariants.{Two, Many}
use Rattle.code.proofs.Distances.{Cell, of_data, of_check, cell_of, Says, clean, cell, far, says}
use Rattle.codes.specs.Entries.{every, entry}
use Rattle.codes.specs.Lawful.{lawful}

pub lawful64 : CodeLaws code64
unfolding columns64 ones ones_in
lawful64 = lawful code64 refl (λ d. lit< tt)

abbrev pub marks_test : List ℕ → Bool
marks_test table = length table == 256 && every (λ s x. nat_eq x (mark (located code64 s))) 0 table

pub marks_right : (table : List ℕ) → marks_test table ≡ true → Marks64 table
marks_right table t =
    let parts = and_parts _ _ t in
    let size : length table ≡ 256 = eqb-true _ _ parts.0 in
    record { long = size; at = λ s h. eqb-true _ _ (entry (λ s x. nat_eq x (mark (located code64 s))) table parts.1 s (rw size h)) }

followed_cell : (d x : ℕ) → Cell code64 lawful64 x → followed d (mark (at_cell code64 x)) ≡ corrected d (at_cell code64 x)
followed_cell d x (of_data h _ e) =
    let low = cond-true _ _ _ (lt-ltb x 64 h) in
    rw e low
followed_cell d x (of_check h k _ e) =
    let high = le-ltb (64 + (x - 64)) 64 (omega arith) in
    let some = lt-ltb (64 + (x - 64)) 73 (omega arith) in
    rw e (cond-false _ _ _ high ∙ cond-true _ _ _ some)

pub followed_right : (d s : ℕ) → s < 256 → followed d (mark (located code64 s)) ≡ corrected d (located code64 s)
followed_right d s h = at (says code64 lawful64 s h)
  where
    same : Located → Type 0
    same l = followed d (mark l) ≡ corrected d l

    at : Says code64 lawful64 s → same (located code64 s)
    at (clean _ e) = rw e refl
    at (cell x l _ e) = rw e (followed_cell d x (cell_of code64 lawful64 x l))
    at (far _ _ e) = rw e (cond_both (ones s % 2 == 0) Two Many same (λ _. refl) (λ _. refl))
