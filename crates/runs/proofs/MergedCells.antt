-- The lanes of a merge are its cells, eight and eight. Assumes nothing.
use Rattle.std.proofs.Common.{◌≡◌, ℕ, zero, suc, ◌+◌, ◌*◌, ◌/◌, ◌%◌, ◌^◌, ◌<◌, Bool, cond, sym, refl, ap, ◌∙◌, ⊎_elim, mul_comm, arith}
use native.Mathlib.Nat.{mod-one}
use lib.Pow.{mod-pow-add}
use Rattle.std.proofs.lemmas.Nat.{mod_below}
use Rattle.std.proofs.lemmas.Bool.{cases_Bool, cond-true, cond-false, eqb-true, eqb-false}
use Rattle.word.specs.Lanes.{lane}
use Rattle.parts.specs.Merges.{bit, merged_lane, joined}
use Rattle.runs.specs.Histories.{is_set, of_cells, merged_cell}

-- what one cell adds
cell_adds : (v w : ℕ) → cond (is_set v w) (2 ^ w) 0 ≡ (v / 2 ^ w % 2 ^ 1) * 2 ^ w
cell_adds v w =
    let b = mod_below (v / 2 ^ w) 2 (omega arith) in
    ⊎_elim
    (λ t. let q = ap (λ x. x * 2 ^ w) (eqb-true (v / 2 ^ w % 2) 1 t) in cond-true _ _ _ t ∙ omega arith)
    (λ f.
    let other = eqb-false (v / 2 ^ w % 2) 1 f in
    let none : v / 2 ^ w % 2 ≡ 0 = omega arith in
    let q = ap (λ x. x * 2 ^ w) none in
    cond-false _ _ _ f ∙ omega arith)
    (cases_Bool (is_set v w))

-- the cells of a word put together again
cells_whole : (v w : ℕ) → of_cells (is_set v) w ≡ v % 2 ^ w
cells_whole v zero = sym (mod-one v)
cells_whole v (suc w) =
    let r = cells_whole v w in
    let a = cell_adds v w in
    let s = mod-pow-add v 1 w in
    let e : v % 2 ^ (1 + w) ≡ v % 2 ^ suc w = ap (λ x. v % 2 ^ x) (let n : 1 + w ≡ suc w = omega arith in n) in
    omega arith

-- two tests that agree on k cells from b on add the same there
same_above : (f g : ℕ → Bool) (b k : ℕ) → ((i : ℕ) → i < k → f (i + b) ≡ g (i + b)) → of_cells f (k + b) + of_cells g b ≡ of_cells g (k + b) + of_cells f b
same_above f g b zero h =
    let e : zero + b ≡ b = omega arith in
    let fe = ap (of_cells f) e in
    let ge = ap (of_cells g) e in
    omega arith
same_above f g b (suc k) h =
    let e : suc k + b ≡ suc (k + b) = omega arith in
    let fe : of_cells f (suc k + b) ≡ of_cells f (k + b) + cond (f (k + b)) (2 ^ (k + b)) 0 = ap (of_cells f) e in
    let ge : of_cells g (suc k + b) ≡ of_cells g (k + b) + cond (g (k + b)) (2 ^ (k + b)) 0 = ap (of_cells g) e in
    let r = same_above f g b k (λ i lt. h i (omega arith)) in
    let c = ap (λ t. cond t (2 ^ (k + b)) 0) (h k (omega arith)) in
    omega arith

-- cells that are those of v in lane m add that lane
lane_adds : (f : ℕ → Bool) (v m : ℕ) → ((i : ℕ) → i < 8 → f (i + 8 * m) ≡ is_set v (i + 8 * m)) → of_cells f (8 * suc m) ≡ of_cells f (8 * m) + 2 ^ (8 * m) * lane m v
lane_adds f v m h =
    let e : 8 + 8 * m ≡ 8 * suc m = omega arith in
    let fe = ap (of_cells f) e in
    let r = same_above f (is_set v) (8 * m) 8 h in
    let low = cells_whole v (8 * m) in
    let all = cells_whole v (8 + 8 * m) in
    let s = mod-pow-add v 8 (8 * m) in
    let q = mul_comm (lane m v) (2 ^ (8 * m)) in
    omega arith

-- a cell of lane m goes by the enable of that lane
of_lane : (e old new m i : ℕ) → i < 8 → merged_cell e old new (i + 8 * m) ≡ cond (bit m e) (is_set old (i + 8 * m)) (is_set new (i + 8 * m))
of_lane e old new m i h = ap (λ j. cond (is_set e j) (is_set old (i + 8 * m)) (is_set new (i + 8 * m))) (let q : (i + 8 * m) / 8 ≡ m = omega arith in q)

pub cells_joined : (e old new m : ℕ) → of_cells (merged_cell e old new) (8 * m) ≡ joined m e old new
cells_joined e old new zero = refl
cells_joined e old new (suc m) =
    let r = cells_joined e old new m in
    let f = merged_cell e old new in
    ⊎_elim
    (λ t.
    let l = lane_adds f old m (λ i h. of_lane e old new m i h ∙ cond-true _ _ _ t) in
    let k : merged_lane e old new m ≡ lane m old = cond-true _ _ _ t in
    l ∙ ap (λ x. x + 2 ^ (8 * m) * lane m old) r ∙ ap (λ x. joined m e old new + 2 ^ (8 * m) * x) (sym k))
    (λ t.
    let l = lane_adds f new m (λ i h. of_lane e old new m i h ∙ cond-false _ _ _ t) in
    let k : merged_lane e old new m ≡ lane m new = cond-false _ _ _ t in
    l ∙ ap (λ x. x + 2 ^ (8 * m) * lane m new) r ∙ ap (λ x. joined m e old new + 2 ^ (8 * m) * x) (sym k))
    (cases_Bool (bit m e))
