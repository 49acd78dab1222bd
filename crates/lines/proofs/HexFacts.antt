-- Numbers and their hexadecimal digits. Assumes nothing.
use Rattle.std.proofs.Common.{◌≡◌, ℕ, zero, suc, ◌+◌, ◌*◌, ◌/◌, ◌%◌, ◌^◌, ◌<◌, ◌≤◌, List, [], ◌∷◌, ◌++◌, length, get_or, take, sym, refl, ap, ◌∙◌, subst, mod-eq_of_lt, arith, pow_mono, pow-add, shr-shr}
use native.Mathlib.Nat.{mod-one}
use lib.Pow.{mod-pow-add}
use Rattle.std.proofs.lemmas.Nat.{mod_below}
use Rattle.std.proofs.lemmas.List.{take_more, take_all}
use Rattle.std.proofs.lemmas.Bool.Decides.{nat_tests}
use Rattle.lines.specs.Hex.{hex_digit, hex}

pub length_hex : (k v : ℕ) → length (hex k v) ≡ k
length_hex zero v = refl
length_hex (suc k) v = ap suc (length_hex k v)

-- one digit more, at the low end
pub hex_more : (k v d : ℕ) → d < 16 → hex (suc k) (v * 16 + d) ≡ hex k v ++ (hex_digit d ∷ [])
hex_more zero v d h = ap (λ x. hex_digit x ∷ []) (let e : (v * 16 + d) / 1 % 16 ≡ d = omega arith in e)
hex_more (suc k) v d h =
    let four : 4 * suc k ≡ 4 + 4 * k = omega arith in
    let low : (v * 16 + d) / 2 ^ 4 ≡ v = omega arith in
    let top : (v * 16 + d) / 2 ^ (4 * suc k) ≡ v / 2 ^ (4 * k) =
    ap (λ x. (v * 16 + d) / 2 ^ x) four ∙ sym (shr-shr (v * 16 + d) 4 (4 * k)) ∙ ap (λ x. x / 2 ^ (4 * k)) low in
    ap (λ x. hex_digit (x % 16) ∷ hex (suc k) (v * 16 + d)) top ∙ ap (λ l. hex_digit (v / 2 ^ (4 * k) % 16) ∷ l) (hex_more k v d h)

pow_four : (k : ℕ) → 2 ^ (4 * suc k) ≡ 16 * 2 ^ (4 * k)
pow_four k = let four : 4 * suc k ≡ 4 + 4 * k = omega arith in ap (λ x. 2 ^ x) four ∙ pow-add 2 4 (4 * k)

pub below_more : (k v d : ℕ) → v < 2 ^ (4 * k) → d < 16 → v * 16 + d < 2 ^ (4 * suc k)
below_more k v d h b = let p = pow_four k in omega arith

-- each byte is a digit's
pub hex_at : (k v i : ℕ) → i < k → (d : ℕ) × (d < 16) × (get_or (hex k v) i 0 ≡ hex_digit d)
hex_at zero v i h = absurd (omega arith)
hex_at (suc k) v zero h = (v / 2 ^ (4 * k) % 16, mod_below (v / 2 ^ (4 * k)) 16 (omega arith), refl)
hex_at (suc k) v (suc i) h = hex_at k v i (omega arith)

-- two digits of one character are one
digit_apart : (a b : ℕ) → a < 16 → b < 16 → hex_digit a ≡ hex_digit b → a ≡ b
digit_apart a b h k e = grind (arith, nat_tests)

head_same : {a b : ℕ} {xs ys : List ℕ} → a ∷ xs ≡ b ∷ ys → (a ≡ b) × (xs ≡ ys)
head_same e = (cc, cc)

-- as many digits as a number needs tell it
hex_apart : (k v u : ℕ) → hex k v ≡ hex k u → v % 2 ^ (4 * k) ≡ u % 2 ^ (4 * k)
hex_apart zero v u e = mod-one v ∙ sym (mod-one u)
hex_apart (suc k) v u e =
    let parts = head_same e in
    let four : 4 + 4 * k ≡ 4 * suc k = omega arith in
    let tops : v / 2 ^ (4 * k) % 16 ≡ u / 2 ^ (4 * k) % 16 =
    digit_apart _ _ (mod_below (v / 2 ^ (4 * k)) 16 (omega arith)) (mod_below (u / 2 ^ (4 * k)) 16 (omega arith)) parts.0 in
    let rest = hex_apart k v u parts.1 in
    let sv : v % 2 ^ (4 * suc k) ≡ (v / 2 ^ (4 * k) % 16) * 2 ^ (4 * k) + v % 2 ^ (4 * k) = ap (λ x. v % 2 ^ x) (sym four) ∙ mod-pow-add v 4 (4 * k) in
    let su : u % 2 ^ (4 * suc k) ≡ (u / 2 ^ (4 * k) % 16) * 2 ^ (4 * k) + u % 2 ^ (4 * k) = ap (λ x. u % 2 ^ x) (sym four) ∙ mod-pow-add u 4 (4 * k) in
    sv ∙ ap (λ x. x * 2 ^ (4 * k) + v % 2 ^ (4 * k)) tops ∙ ap (λ x. (u / 2 ^ (4 * k) % 16) * 2 ^ (4 * k) + x) rest ∙ sym su

pub hex_told : (k v u : ℕ) → v < 2 ^ (4 * k) → u < 2 ^ (4 * k) → hex k v ≡ hex k u → v ≡ u
hex_told k v u h b e = sym (mod-eq_of_lt h) ∙ hex_apart k v u e ∙ mod-eq_of_lt b

-- a number of fewer than sixteen digits has room for one more in 64 bits
pub room_for_digit : (i : ℕ) → i < 16 → 2 ^ (4 * i) ≤ 2 ^ 60
room_for_digit i h = pow_mono (let four : 4 * i ≤ 60 = omega arith in four)

-- a list that shows a byte which is no digit's is no number's
pub no_number : (xs : List ℕ) (k i : ℕ) → i < k → ((d : ℕ) → d < 16 → get_or xs i 0 ≡ hex_digit d → ⊥) → (v : ℕ) → xs ≡ hex k v → ⊥
no_number xs k i h never v e =
    let some = hex_at k v i h in
    never some.0 some.1 (ap (λ l. get_or l i 0) e ∙ some.2)

-- one digit more was read
pub number_more : (xs : List ℕ) (i v d : ℕ) → i < length xs → d < 16 → get_or xs i 0 ≡ hex_digit d → v < 2 ^ (4 * i) → take i xs ≡ hex i v →
    (v * 16 + d < 2 ^ (4 * (i + 1))) × (take (i + 1) xs ≡ hex (i + 1) (v * 16 + d))
number_more xs i v d h b e below read =
    let one : suc i ≡ i + 1 = omega arith in (
      subst (λ n. v * 16 + d < 2 ^ (4 * n)) one (below_more i v d below b),
      take_more xs i 0 h ∙ ap (λ y. take i xs ++ (y ∷ [])) e ∙ ap (λ l. l ++ (hex_digit d ∷ [])) read ∙ sym (hex_more i v d b) ∙ ap (λ n. hex n (v * 16 + d)) one,
    )

-- all digits were read
pub number_all : (xs : List ℕ) (k i v : ℕ) → i ≡ length xs → length xs ≡ k → v < 2 ^ (4 * i) → take i xs ≡ hex i v → (v < 2 ^ (4 * k)) × (xs ≡ hex k v)
number_all xs k i v e l below read =
    let all : i ≡ k = e ∙ l in
    (subst (λ n. v < 2 ^ (4 * n)) all below, sym (take_all i xs (omega arith)) ∙ read ∙ ap (λ n. hex n v) all)
