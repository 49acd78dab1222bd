-- What is known of a number's lanes. Assumes nothing.
use Rattle.std.proofs.Common.{◌≡◌, ℕ, zero, suc, ◌+◌, ◌-◌, ◌*◌, ◌/◌, ◌%◌, ◌^◌, ◌<◌, ◌≤◌, get_or, sym, refl, mod-eq_of_lt, mul_comm, arith}
use lib.Pow.{mod-mod-pow}
use Rattle.std.proofs.lemmas.Nat.{mod-pow-add, field_of}
use Rattle.word.specs.Lanes.{lane, lane_list, lane_sum}

-- a sum of lanes asks of each only what stands there
pub lane_sum_same : (m : ℕ) (f g : ℕ → ℕ) → ((j : ℕ) → j < m → f j ≡ g j) → lane_sum m f ≡ lane_sum m g
lane_sum_same zero f g h = refl
lane_sum_same (suc m) f g h =
    let below = lane_sum_same m f g (λ j k. h j (omega arith)) in
    let here = h m (omega arith) in
    cc

-- the lanes of a number make it up again
pub lanes_whole : (m v : ℕ) → lane_sum m (λ j. lane j v) ≡ v % 2 ^ (8 * m)
lanes_whole zero v = omega arith
lanes_whole (suc m) v =
    let below = lanes_whole m v in
    let step = mod-pow-add v 8 (8 * m) in
    let turned = mul_comm (2 ^ (8 * m)) (lane m v) in
    let next : 8 * suc m ≡ 8 + 8 * m = omega arith in
    rw next (omega arith)

-- c cells from the k-th on are not touched by what lies above
pub cells_below : (c k m v : ℕ) → c + k ≤ m → v % 2 ^ m / 2 ^ k % 2 ^ c ≡ v / 2 ^ k % 2 ^ c
cells_below c k m v h =
    let rest : m ≡ (m - (c + k)) + (c + k) = omega arith in
    let low : v % 2 ^ m % 2 ^ (c + k) ≡ v % 2 ^ (c + k) = rw rest (mod-mod-pow v (m - (c + k)) (c + k)) in
    let whole = field_of v c k in
    let part = field_of (v % 2 ^ m) c k in
    cc

pub lane_below : (j m v : ℕ) → j < m → lane j (v % 2 ^ (8 * m)) ≡ lane j v
lane_below j m v h = cells_below 8 (8 * j) (8 * m) v (omega arith)

-- a lane by its place in the list
pub lane_list_at : (v j : ℕ) → j < 8 → get_or (lane_list v) j 0 ≡ lane j v
lane_list_at v zero h = refl
lane_list_at v (suc zero) h = refl
lane_list_at v (suc (suc zero)) h = refl
lane_list_at v (suc (suc (suc zero))) h = refl
lane_list_at v (suc (suc (suc (suc zero)))) h = refl
lane_list_at v (suc (suc (suc (suc (suc zero))))) h = refl
lane_list_at v (suc (suc (suc (suc (suc (suc zero)))))) h = refl
lane_list_at v (suc (suc (suc (suc (suc (suc (suc zero))))))) h = refl
lane_list_at v (suc (suc (suc (suc (suc (suc (suc (suc j)))))))) h = absurd (omega arith)

-- the eight lanes of a word's low part are the word's first eight
pub lane_list_below : (v : ℕ) → lane_list (v % 2 ^ 64) ≡ lane_list v
lane_list_below v =
    cc (
      lane_below 0 8 v (omega arith),
      lane_below 1 8 v (omega arith),
      lane_below 2 8 v (omega arith),
      lane_below 3 8 v (omega arith),
      lane_below 4 8 v (omega arith),
      lane_below 5 8 v (omega arith),
      lane_below 6 8 v (omega arith),
      lane_below 7 8 v (omega arith),
    )

-- the ninth lane is a word's top part
pub lane_top : (a b : ℕ) → a < 2 ^ 64 → b < 2 ^ 8 → b ≡ lane 8 (a + 2 ^ 64 * b)
lane_top a b h k =
    let q : (a + 2 ^ 64 * b) / 2 ^ 64 ≡ b = omega arith in
    rw q (sym (mod-eq_of_lt k))
