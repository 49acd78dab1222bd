-- A number that is cut in two at cell a. Assumes nothing.
use Rattle.std.specs.Prelude.{◌≡◌, ℕ, ◌+◌, ◌*◌, ◌/◌, ◌%◌, ◌^◌, ◌<◌}
use Rattle.std.proofs.Common.{mul_comm, arith, pow_pos, pow-add}
use Rattle.std.proofs.lemmas.Nat.{mod_below, shr_below, div-add-mod', mul-add-lt, mod_low, shr_high}

pub low_part : (a v : ℕ) → v % 2 ^ a < 2 ^ a
low_part a v = mod_below v (2 ^ a) (pow_pos a)

pub high_part : (a b v : ℕ) → v < 2 ^ (a + b) → v / 2 ^ a < 2 ^ b
high_part a b v h = let e : a + b ≡ b + a = omega arith in shr_below v b a (rw e at h)

-- the parts make the number
pub parts_whole : (a v : ℕ) → v % 2 ^ a + 2 ^ a * (v / 2 ^ a) ≡ v
parts_whole a v = let e = div-add-mod' v (2 ^ a) in let t = mul_comm (2 ^ a) (v / 2 ^ a) in omega arith

pub whole_below : (a b x y : ℕ) → x < 2 ^ a → y < 2 ^ b → x + 2 ^ a * y < 2 ^ (a + b)
whole_below a b x y h k =
    let e = mul-add-lt y (2 ^ a) x (2 ^ b) k h in
    let t = mul_comm (2 ^ a) y in
    let p = pow-add 2 a b in
    omega arith

-- and are found in it again
pub whole_low : (a x y : ℕ) → x < 2 ^ a → (x + 2 ^ a * y) % 2 ^ a ≡ x
whole_low a x y h =
    let e : x + 2 ^ a * y ≡ y * 2 ^ a + x = let t = mul_comm (2 ^ a) y in omega arith in
    rw e (mod_low y a x h)

pub whole_high : (a x y : ℕ) → x < 2 ^ a → (x + 2 ^ a * y) / 2 ^ a ≡ y
whole_high a x y h =
    let e : x + 2 ^ a * y ≡ y * 2 ^ a + x = let t = mul_comm (2 ^ a) y in omega arith in
    rw e (shr_high y a x h)
