-- What is known of merged lanes, over any number of them. Assumes nothing.
use Rattle.std.proofs.Common.{◌≡◌, ℕ, zero, suc, ◌+◌, ◌-◌, ◌*◌, ◌/◌, ◌%◌, ◌^◌, ◌<◌, ◌≤◌, true, false, sym, ap, ◌∙◌, lt_of_lt_of_le, mod-eq_of_lt, mul_comm, mul-zero, arith, pow_pos, pow_mono, pow-add}
use native.Mathlib.Nat.{div-eq_of_lt, zero-div}
use lib.Pow.{high, ones_split, ones_lt}
use Rattle.std.proofs.lemmas.Nat.{mod_below, mul-add-lt}
use Rattle.std.proofs.lemmas.Bool.{cond_both, cond-true, cond-false, eq-eqb, ne_eqb}
use Rattle.word.specs.Lanes.{lane, lane_sum}
use Rattle.word.proofs.LaneFacts.{lane_sum_same, lanes_whole}
use Rattle.parts.specs.Merges.{bit, merged_lane, joined}

-- one lane more
eight_more : (m : ℕ) → 8 + 8 * m ≡ 8 * suc m
eight_more m = omega arith

pow_more : (m : ℕ) → 2 ^ (8 * suc m) ≡ 2 ^ 8 * 2 ^ (8 * m)
pow_more m = ap (λ x. 2 ^ x) (sym (eight_more m)) ∙ pow-add 2 8 (8 * m)

pub lane_sum_below : (m : ℕ) (f : ℕ → ℕ) → ((j : ℕ) → f j < 256) → lane_sum m f < 2 ^ (8 * m)
lane_sum_below zero f h = pow_pos (8 * 0)
lane_sum_below (suc m) f h =
    let l = mul-add-lt (f m) (2 ^ (8 * m)) (lane_sum m f) 256 (h m) (lane_sum_below m f h) in
    let p = pow_more m in
    let q = mul_comm (f m) (2 ^ (8 * m)) in
    omega arith

-- lanes that are zero add nothing
pub lane_sum_short : (k m : ℕ) (f : ℕ → ℕ) → ((j : ℕ) → m ≤ j → f j ≡ 0) → lane_sum (k + m) f ≡ lane_sum m f
lane_sum_short zero m f h = ap (λ n. lane_sum n f) (let e : zero + m ≡ m = omega arith in e)
lane_sum_short (suc k) m f h =
    let e : suc k + m ≡ suc (k + m) = omega arith in
    let z : 2 ^ (8 * (k + m)) * f (k + m) ≡ 0 = ap (λ x. 2 ^ (8 * (k + m)) * x) (h (k + m) (omega arith)) ∙ mul-zero (2 ^ (8 * (k + m))) in
    let r = lane_sum_short k m f h in
    ap (λ n. lane_sum n f) e ∙ omega arith

byte_below : (j v : ℕ) → lane j v < 256
byte_below j v = mod_below (v / 2 ^ (8 * j)) 256 (omega arith)

-- a number below 2 ^ (8 m) has no lane from the m-th on
lane_past : (m v j : ℕ) → v < 2 ^ (8 * m) → m ≤ j → lane j v ≡ 0
lane_past m v j h b =
    let e : 8 * m ≤ 8 * j = omega arith in
    ap (λ x. x % 256) (div-eq_of_lt (lt_of_lt_of_le h (pow_mono e)))

module _ (e old new : ℕ) where
  merged_below : (j : ℕ) → merged_lane e old new j < 256
  merged_below j = cond_both (bit j e) _ _ (λ x. x < 256) (λ _. byte_below j old) (λ _. byte_below j new)

  pub joined_below : (m : ℕ) → joined m e old new < 2 ^ (8 * m)
  joined_below m = lane_sum_below m (merged_lane e old new) merged_below

  -- eight lanes give what the m lanes of a narrower word give
  pub joined_short : (m : ℕ) → m ≤ 8 → old < 2 ^ (8 * m) → new < 2 ^ (8 * m) → joined 8 e old new ≡ joined m e old new
  joined_short m b ho hn =
      let k : 8 ≡ (8 - m) + m = omega arith in
      ap (λ x. joined x e old new) k ∙
      lane_sum_short (8 - m) m (merged_lane e old new)
      (λ j a. cond_both (bit j e) _ _ (λ x. x ≡ 0) (λ _. lane_past m old j ho a) (λ _. lane_past m new j hn a))

-- bit j of 2 ^ m - 1 is set for each j below m
all_set : (m j : ℕ) → j < m → bit j (2 ^ m - 1) ≡ true
all_set m j h =
    let k = m - suc j in
    let e : suc k + j ≡ m = omega arith in
    let split : 2 ^ m - 1 ≡ (2 ^ suc k - 1) * 2 ^ j + (2 ^ j - 1) = ap (λ x. 2 ^ x - 1) (sym e) ∙ ones_split (suc k) j in
    let quotient : (2 ^ m - 1) / 2 ^ j ≡ 2 ^ suc k - 1 = ap (λ x. x / 2 ^ j) split ∙ high (2 ^ suc k - 1) j (ones_lt j) in
    let double : 2 ^ suc k ≡ 2 * 2 ^ k = let one : suc k ≡ 1 + k = omega arith in ap (λ x. 2 ^ x) one ∙ pow-add 2 1 k in
    let pos = pow_pos k in
    let odd : (2 ^ suc k - 1) % 2 ≡ 1 = omega arith in
    eq-eqb _ 1 (ap (λ x. x % 2) quotient ∙ odd)

none_set : (j : ℕ) → bit j 0 ≡ false
none_set j = ne_eqb _ 1 (λ e. let z : 0 / 2 ^ j ≡ 0 = zero-div (2 ^ j) in let y : 0 / 2 ^ j % 2 ≡ 0 = ap (λ x. x % 2) z in omega arith)

-- with every lane kept the old word stays, with none the new one comes
pub joined_all : (m old new : ℕ) → old < 2 ^ (8 * m) → joined m (2 ^ m - 1) old new ≡ old
joined_all m old new h =
    lane_sum_same m (merged_lane (2 ^ m - 1) old new) (λ j. lane j old) (λ j b. cond-true _ _ _ (all_set m j b)) ∙ lanes_whole m old ∙ mod-eq_of_lt h

pub joined_none : (m old new : ℕ) → new < 2 ^ (8 * m) → joined m 0 old new ≡ new
joined_none m old new h =
    lane_sum_same m (merged_lane 0 old new) (λ j. lane j new) (λ j b. cond-false _ _ _ (none_set j)) ∙ lanes_whole m new ∙ mod-eq_of_lt h
