-- What is known of a word's number. Assumes nothing.
use Rattle.std.proofs.Common.{◌≡◌, ℕ, ◌+◌, ◌-◌, ◌*◌, ◌/◌, ◌%◌, ◌^◌, ◌<◌, ◌≤◌, min, ltb, ◌⊎◌, sym, ap, ◌∙◌, inl, inr, ⊎_elim, lt_of_lt_of_le, mod-eq_of_lt, mul_comm, mul_right_comm, arith, pow_pos, pow_mono, pow-add}
use native.Mathlib.Nat.{div-eq_of_lt}
use lib.Bits.{bit_xor, xor_block, xor_zero_r, xor_lt}
use lib.Pow.{mod-mod-pow}
use Rattle.std.proofs.lemmas.Nat.{pow_below, one_shl}
use Rattle.std.proofs.lemmas.Bool.{lt-ltb, cond-true, cases_lt}
use Rattle.word.specs.Words.{value, of_value, toggled}
use Rattle.word.specs.declared.words.Word.{Word}

-- a word by its two parts
pub word_is : (a b v : ℕ) → a < 2 ^ 64 → v ≡ a + 2 ^ 64 * b → ◌≡◌ {A = Word} (record { low = a; top = b }) (of_value v)
word_is a b v h e =
    let l : a ≡ v % 2 ^ 64 = omega arith in
    let t : b ≡ v / 2 ^ 64 = omega arith in
    cc

-- 72 cells suffice for every word
pub value_below : (a b : ℕ) → a < 2 ^ 64 → b < 2 ^ 8 → a + 2 ^ 64 * b < 2 ^ 72
value_below a b h k = omega arith

-- what is below 2 ^ 72 is below every wider power
pub below_wider : (v w : ℕ) → v < 2 ^ 72 → 72 ≤ w → v < 2 ^ w
below_wider v w h k = lt_of_lt_of_le h (pow_mono k)

-- a cell of the low part
pub toggled_low : (a b x : ℕ) → a < 2 ^ 64 → x < 64 → bit_xor (a + 2 ^ 64 * b) (2 ^ x) ≡ bit_xor a (2 ^ x) + 2 ^ 64 * b
toggled_low a b x h k =
    let e = xor_block 64 b 0 a (2 ^ x) h (pow_below x 64 k) in
    let z = xor_zero_r b in
    let one : a + 2 ^ 64 * b ≡ b * 2 ^ 64 + a = omega arith in
    let two : 0 * 2 ^ 64 + 2 ^ x ≡ 2 ^ x = omega arith in
    let three : bit_xor b 0 * 2 ^ 64 + bit_xor a (2 ^ x) ≡ bit_xor a (2 ^ x) + 2 ^ 64 * b = omega arith in
    ap (λ v. bit_xor v (2 ^ x)) one ∙ ap (bit_xor (b * 2 ^ 64 + a)) (sym two) ∙ e ∙ three

-- a cell of the top part
pub toggled_top : (a b x : ℕ) → a < 2 ^ 64 → bit_xor (a + 2 ^ 64 * b) (2 ^ (x + 64)) ≡ a + 2 ^ 64 * bit_xor b (2 ^ x)
toggled_top a b x h =
    let e = xor_block 64 b (2 ^ x) a 0 h (pow_pos 64) in
    let z = xor_zero_r a in
    let p = pow-add 2 x 64 in
    let one : a + 2 ^ 64 * b ≡ b * 2 ^ 64 + a = omega arith in
    let two : 2 ^ x * 2 ^ 64 + 0 ≡ 2 ^ (x + 64) = omega arith in
    let three : bit_xor b (2 ^ x) * 2 ^ 64 + bit_xor a 0 ≡ a + 2 ^ 64 * bit_xor b (2 ^ x) = omega arith in
    ap (λ v. bit_xor v (2 ^ (x + 64))) one ∙ ap (bit_xor (b * 2 ^ 64 + a)) (sym two) ∙ e ∙ three

-- the two writes of a flip, each as the whole word
pub flipped_low : (a b x : ℕ) → a < 2 ^ 64 → x < 64 →
    ◌≡◌ {A = Word} (record { low = bit_xor a (1 * 2 ^ x % 2 ^ 64); top = b }) (of_value (toggled x (a + 2 ^ 64 * b)))
flipped_low a b x h k =
    let s = one_shl x 64 k in
    let below : bit_xor a (2 ^ x) < 2 ^ 64 = xor_lt 64 a (2 ^ x) h (pow_below x 64 k) in
    let t : toggled x (a + 2 ^ 64 * b) ≡ bit_xor a (2 ^ x) + 2 ^ 64 * b =
    cond-true _ _ _ (lt-ltb x 72 (omega arith)) ∙ toggled_low a b x h k in
    rw s (word_is (bit_xor a (2 ^ x)) b (toggled x (a + 2 ^ 64 * b)) below t)

pub flipped_top : (a b x : ℕ) → a < 2 ^ 64 → 64 ≤ x → x < 72 →
    ◌≡◌ {A = Word} (record { low = a; top = bit_xor b (1 * 2 ^ (x - 64) % 2 ^ 8) }) (of_value (toggled x (a + 2 ^ 64 * b)))
flipped_top a b x h m k =
    let s = one_shl (x - 64) 8 (omega arith) in
    let whole : (x - 64) + 64 ≡ x = omega arith in
    let t : toggled x (a + 2 ^ 64 * b) ≡ a + 2 ^ 64 * bit_xor b (2 ^ (x - 64)) =
    cond-true _ _ _ (lt-ltb x 72 k) ∙ ap (λ y. bit_xor (a + 2 ^ 64 * b) (2 ^ y)) (sym whole) ∙ toggled_top a b (x - 64) h in
    rw s (word_is a (bit_xor b (2 ^ (x - 64))) (toggled x (a + 2 ^ 64 * b)) h t)

-- a power that holds a word's cells may as well stop at the 72nd
held : (w : ℕ) → (min w 72 ≡ w) ⊎ ((min w 72 ≡ 72) × (72 ≤ w))
held w = ⊎_elim (λ h. inl (omega arith)) (λ h. inr (omega arith, omega arith)) (cases_lt w 72)

pub fits_held : (v w : ℕ) → v < 2 ^ 72 → ltb v (1 * 2 ^ min w 72 % 2 ^ 128) ≡ ltb v (2 ^ w)
fits_held v w h =
    ap (ltb v) (one_shl (min w 72) 128 (omega arith)) ∙
    ⊎_elim (λ e. ap (λ m. ltb v (2 ^ m)) e)
    (λ e. ap (λ m. ltb v (2 ^ m)) e.0 ∙ lt-ltb v (2 ^ 72) h ∙ sym (lt-ltb v (2 ^ w) (below_wider v w h e.1))) (held w)

pub power_held : (w : ℕ) → 0 < 1 * 2 ^ min w 72 % 2 ^ 128
power_held w = rw (one_shl (min w 72) 128 (omega arith)) (pow_pos (min w 72))

pub mod_held : (v w : ℕ) → v < 2 ^ 72 → v % (1 * 2 ^ min w 72 % 2 ^ 128) ≡ v % 2 ^ w
mod_held v w h =
    ap (λ m. v % m) (one_shl (min w 72) 128 (omega arith)) ∙
    ⊎_elim (λ e. ap (λ m. v % 2 ^ m) e)
    (λ e. ap (λ m. v % 2 ^ m) e.0 ∙ mod-eq_of_lt h ∙ sym (mod-eq_of_lt (below_wider v w h e.1))) (held w)

pub div_held : (v w : ℕ) → v < 2 ^ 72 → v / 2 ^ min w 72 ≡ v / 2 ^ w
div_held v w h =
    ⊎_elim (λ e. ap (λ m. v / 2 ^ m) e)
    (λ e. ap (λ m. v / 2 ^ m) e.0 ∙ div-eq_of_lt h ∙ sym (div-eq_of_lt (below_wider v w h e.1))) (held w)

-- what a join moves past the 72nd cell is dropped, in however many steps
pub join_held : (l h w : ℕ) → ((h * 2 ^ min w 72 % 2 ^ 128) % 2 ^ 72 + l) % 2 ^ 72 ≡ (l + 2 ^ w * h) % 2 ^ 72
join_held l h w =
    let low : (h * 2 ^ min w 72 % 2 ^ 128) % 2 ^ 72 ≡ (h * 2 ^ min w 72) % 2 ^ 72 = mod-mod-pow (h * 2 ^ min w 72) 56 72 in
    let sum : ((h * 2 ^ min w 72 % 2 ^ 128) % 2 ^ 72 + l) % 2 ^ 72 ≡ (l + h * 2 ^ min w 72) % 2 ^ 72 = omega arith in
    sum ∙ ⊎_elim
    (λ e. ap (λ m. (l + m) % 2 ^ 72) (ap (λ m. h * 2 ^ m) e ∙ mul_comm h (2 ^ w)))
    (λ e.
    let whole : (w - 72) + 72 ≡ w = let k : 72 ≤ w = e.1 in omega arith in
    let q : 2 ^ w ≡ 2 ^ (w - 72) * 2 ^ 72 = ap (λ m. 2 ^ m) (sym whole) ∙ pow-add 2 (w - 72) 72 in
    let q2 : 2 ^ w * h ≡ (2 ^ (w - 72) * h) * 2 ^ 72 = ap (λ m. m * h) q ∙ mul_right_comm (2 ^ (w - 72)) (2 ^ 72) h in
    let flat : (l + h * 2 ^ min w 72) % 2 ^ 72 ≡ (l + h * 2 ^ 72) % 2 ^ 72 = ap (λ m. (l + h * 2 ^ m) % 2 ^ 72) e.0 in
    flat ∙ omega arith)
    (held w)

-- a number is told back by its word
pub value_of_value : (v : ℕ) → value (of_value v) ≡ v
value_of_value v = omega arith
