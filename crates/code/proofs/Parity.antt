-- How many ones a xor has, up to evenness. Assumes nothing.
use Rattle.std.proofs.Common.{◌≡◌, ℕ, zero, suc, ◌+◌, ◌*◌, ◌/◌, ◌%◌, ◌^◌, ◌<◌, ◌⊎◌, sym, ap, ◌∙◌, inl, inr, pow-suc, arith, pow_pos}
use lib.Bits.{bit_xor, xor_mod, xor_shr}
use lib.Count.{ones, ones_in, ones_step, ones_cat}
use Rattle.code.proofs.Picked.{even_or_odd}

digits_xor : (p q : ℕ) → (p ≡ 0) ⊎ (p ≡ 1) → (q ≡ 0) ⊎ (q ≡ 1) → bit_xor p q % 2 ≡ (p + q) % 2
digits_xor p q (inl e) (inl f) = rw (e, f)
digits_xor p q (inl e) (inr f) = rw (e, f)
digits_xor p q (inr e) (inl f) = rw (e, f)
digits_xor p q (inr e) (inr f) = rw (e, f)

-- the ones that two numbers share go away in pairs
pub ones_xor : (k a b : ℕ) → a < 2 ^ k → b < 2 ^ k → ones (bit_xor a b) % 2 ≡ (ones a + ones b) % 2
unfolding ones ones_in
ones_xor zero a b h l =
    let e : a ≡ 0 = omega arith in
    let f : b ≡ 0 = omega arith in
    rw (e, f)
ones_xor (suc k) a b h l =
    let double = pow-suc 2 k in
    let ih = ones_xor k (a / 2) (b / 2) (omega arith) (omega arith) in
    let x = ones_step (bit_xor a b) in
    let low : bit_xor a b % 2 ≡ bit_xor (a % 2) (b % 2) = xor_mod a b 1 in
    let high : bit_xor a b / 2 ≡ bit_xor (a / 2) (b / 2) = xor_shr a b 1 in
    let digit = digits_xor (a % 2) (b % 2) (even_or_odd a) (even_or_odd b) in
    let p = ones_step a in
    let q = ones_step b in
    let count : ones (bit_xor a b / 2) ≡ ones (bit_xor (a / 2) (b / 2)) = ap ones high in
    omega arith

pub ones_power : (j : ℕ) → ones (2 ^ j) ≡ 1
unfolding ones ones_in
ones_power j =
    let cat = ones_cat j 1 0 (pow_pos j) in
    let e : 1 * 2 ^ j + 0 ≡ 2 ^ j = omega arith in
    ap ones (sym e) ∙ cat
