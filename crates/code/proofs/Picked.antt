-- The xor of the columns at the set cells of a number. Assumes nothing.
use Rattle.std.proofs.Common.{◌≡◌, ℕ, zero, suc, ◌/◌, ◌%◌, ◌^◌, ◌<◌, ◌≤◌, cond, eqb, ◌⊎◌, List, [], ◌∷◌, ◌++◌, length, get_or, sym, refl, ap, ◌∙◌, inl, inr, ⊎_elim, le_of_suc-le-suc, not-suc-le-zero, pow-suc, div-one, add-one, one-add, arith, lit<, pow_pos, shr-shr}
use lib.Bits.{bit_xor, xor_assoc, xor_comm, xor_self, xor_zero_r, xor_mod, xor_shr, xor_lt}
use lib.Pow.{mod-mod-pow}
use Rattle.std.proofs.lemmas.Nat.{field_of, mod_below}
use Rattle.std.proofs.lemmas.Bool.{cases_eq, cond_both}
use Rattle.code.specs.Codes.{picked}

-- one cell less
pub half_shr : (d m : ℕ) → d / 2 / 2 ^ m ≡ d / 2 ^ suc m
half_shr d m = shr-shr d 1 m ∙ ap (λ x. d / 2 ^ x) (one-add m)

-- the first columns see the low cells, and the others what is above
pub picked_append : (xs ys : List ℕ) (d : ℕ) → picked (xs ++ ys) d ≡ bit_xor (picked xs d) (picked ys (d / 2 ^ length xs))
unfolding picked
picked_append [] ys d = ap (picked ys) (sym (div-one d))
picked_append (x ∷ xs) ys d =
    let ih = picked_append xs ys (d / 2) in
    let h = half_shr d (length xs) in
    let a = xor_assoc (cond (eqb (d % 2) 1) x 0) (picked xs (d / 2)) (picked ys (d / 2 / 2 ^ length xs)) in
    cc

-- no cell past the last column counts
pub picked_mod : (xs : List ℕ) (d m : ℕ) → length xs ≤ m → picked xs (d % 2 ^ m) ≡ picked xs d
unfolding picked
picked_mod [] d m h = refl
picked_mod (x ∷ xs) d zero h = absurd (not-suc-le-zero h)
picked_mod (x ∷ xs) d (suc m) h =
    let ih = picked_mod xs (d / 2) m (le_of_suc-le-suc h) in
    let low : d % 2 ^ suc m % 2 ≡ d % 2 = rw (← add-one m) (mod-mod-pow d m 1) in
    let high : d % 2 ^ suc m / 2 ≡ d / 2 % 2 ^ m = rw (← add-one m) (field_of d m 1) in
    cc

-- the four letters of two xors may change places
pub xor_swap : (a b c d : ℕ) → bit_xor (bit_xor a b) (bit_xor c d) ≡ bit_xor (bit_xor a c) (bit_xor b d)
xor_swap a b c d =
    xor_assoc a b (bit_xor c d) ∙ ap (bit_xor a) (sym (xor_assoc b c d) ∙ ap (λ x. bit_xor x d) (xor_comm b c) ∙ xor_assoc c b d)
    ∙ sym (xor_assoc a c (bit_xor b d))

-- a number is even or odd
pub even_or_odd : (a : ℕ) → (a % 2 ≡ 0) ⊎ (a % 2 ≡ 1)
even_or_odd a = ⊎_elim (λ e. inl e) (λ h. inr (let l : a % 2 < 2 = mod_below a 2 (lit< tt) in omega arith)) (cases_eq (a % 2) 0)

cell_xor : (x p q : ℕ) → (p ≡ 0) ⊎ (p ≡ 1) → (q ≡ 0) ⊎ (q ≡ 1) →
    cond (eqb (bit_xor p q) 1) x 0 ≡ bit_xor (cond (eqb p 1) x 0) (cond (eqb q 1) x 0)
cell_xor x p q (inl e) (inl f) = rw (e, f)
cell_xor x p q (inl e) (inr f) = rw (e, f)
cell_xor x p q (inr e) (inl f) = rw (e, f) (sym (xor_zero_r x))
cell_xor x p q (inr e) (inr f) = rw (e, f) (sym (xor_self x))

pub picked_xor : (xs : List ℕ) (a b : ℕ) → picked xs (bit_xor a b) ≡ bit_xor (picked xs a) (picked xs b)
unfolding picked
picked_xor [] a b = refl
picked_xor (x ∷ xs) a b =
    let ih = picked_xor xs (a / 2) (b / 2) in
    let low : bit_xor a b % 2 ≡ bit_xor (a % 2) (b % 2) = xor_mod a b 1 in
    let high : bit_xor a b / 2 ≡ bit_xor (a / 2) (b / 2) = xor_shr a b 1 in
    let cell = cell_xor x (a % 2) (b % 2) (even_or_odd a) (even_or_odd b) in
    let swap = xor_swap (cond (eqb (a % 2) 1) x 0) (cond (eqb (b % 2) 1) x 0) (picked xs (a / 2)) (picked xs (b / 2)) in
    cc

pub picked_zero : (xs : List ℕ) → picked xs 0 ≡ 0
unfolding picked
picked_zero [] = refl
picked_zero (x ∷ xs) = picked_zero xs

-- a lone cell gives its column
pub picked_power : (xs : List ℕ) (i : ℕ) → i < length xs → picked xs (2 ^ i) ≡ get_or xs i 0
unfolding picked
picked_power [] i h = absurd (not-suc-le-zero h)
picked_power (x ∷ xs) zero h = ap (bit_xor x) (picked_zero xs) ∙ xor_zero_r x
picked_power (x ∷ xs) (suc i) h =
    let ih = picked_power xs i (le_of_suc-le-suc h) in
    let double = pow-suc 2 i in
    let low : 2 ^ suc i % 2 ≡ 0 = omega arith in
    let high : 2 ^ suc i / 2 ≡ 2 ^ i = omega arith in
    rw (low, high) ih

-- columns below 2 ^ k give check bits below it
pub picked_below : (k : ℕ) (xs : List ℕ) → ((i : ℕ) → i < length xs → get_or xs i 0 < 2 ^ k) → (d : ℕ) → picked xs d < 2 ^ k
unfolding picked
picked_below k [] h d = pow_pos k
picked_below k (x ∷ xs) h d =
    xor_lt k _ _
    (cond_both (eqb (d % 2) 1) x 0 (λ y. y < 2 ^ k) (λ _. h 0 (omega arith)) (λ _. pow_pos k))
    (picked_below k xs (λ i b. h (suc i) (omega arith)) (d / 2))
