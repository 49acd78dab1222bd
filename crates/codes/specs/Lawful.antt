-- The laws of a code from one test over its table. Assumes nothing.
use Rattle.std.specs.Prelude.{◌≡◌, ℕ, zero, suc, ◌*◌, ◌/◌, ◌%◌, ◌^◌, ◌<◌, ◌≤◌, Bool, true, not, ◌&&◌, List, [], ◌∷◌, length, ◌==◌, ◌≢◌, count_ones, nat_le, nat_lt, slice_index, refl}
use Rattle.std.proofs.Common.{sym, ap, le_of_suc-le-suc, not-suc-le-zero}
use Rattle.std.proofs.lemmas.Bool.{eqb-true, eqb-false, ltb-true, leb-true, not-true, and_parts}
use Rattle.code.specs.Codes.{CodeModel, CodeLaws, column}
use Rattle.codes.specs.Entries.{every, entry}

-- below 2 ^ k, with an odd number of ones, at least three
abbrev right_column : ℕ → ℕ → ℕ → Bool
right_column k i x = nat_lt x (2 ^ k) && (count_ones x % 2 == 1 && nat_le 3 (count_ones x))

-- no entry is x
abbrev without : ℕ → List ℕ → Bool
without x ys = every (λ i y. not (x == y)) 0 ys

-- no entry stands a second time
abbrev distinct : List ℕ → Bool
distinct [] = true
distinct (x ∷ xs) = without x xs && distinct xs

abbrev right_widths : CodeModel → Bool
right_widths c = c.n == 8 * (c.n / 8) && (nat_le 8 c.n && (nat_le c.n 64 && nat_le c.k 8))

-- every law of the table, computed
abbrev pub lawful_test : CodeModel → Bool
lawful_test c =
    right_widths c && (length c.columns == c.n && (nat_lt c.z (2 ^ c.k) && (every (right_column c.k) 0 c.columns && distinct c.columns)))

without_at : (x : ℕ) (ys : List ℕ) → without x ys ≡ true → (k : ℕ) → k < length ys → x ≢ slice_index ys k
without_at x ys t k h = eqb-false x _ (not-true _ (entry (λ i y. not (x == y)) ys t k h))

distinct_at : (xs : List ℕ) → distinct xs ≡ true → (i j : ℕ) → i < length xs → j < length xs → slice_index xs i ≡ slice_index xs j → i ≡ j
distinct_at [] t i j h k e = absurd (not-suc-le-zero h)
distinct_at (x ∷ xs) t zero zero h k e = refl
distinct_at (x ∷ xs) t zero (suc j) h k e =
    absurd (without_at x xs (and_parts (without x xs) (distinct xs) t).0 j (le_of_suc-le-suc k) e)
distinct_at (x ∷ xs) t (suc i) zero h k e =
    absurd (without_at x xs (and_parts (without x xs) (distinct xs) t).0 i (le_of_suc-le-suc h) (sym e))
distinct_at (x ∷ xs) t (suc i) (suc j) h k e =
    ap suc (distinct_at xs (and_parts (without x xs) (distinct xs) t).1 i j (le_of_suc-le-suc h) (le_of_suc-le-suc k) e)

column_parts : (k i x : ℕ) → right_column k i x ≡ true → (x < 2 ^ k) × (count_ones x % 2 ≡ 1) × (3 ≤ count_ones x)
column_parts k i x t =
    let low = and_parts (nat_lt x (2 ^ k)) (count_ones x % 2 == 1 && nat_le 3 (count_ones x)) t in
    let count = and_parts (count_ones x % 2 == 1) (nat_le 3 (count_ones x)) low.1 in
    (ltb-true _ _ low.0, eqb-true _ _ count.0, leb-true _ _ count.1)

-- a code that passes the test, and whose partial check bits are bytes, is lawful
pub lawful : (c : CodeModel) → lawful_test c ≡ true → ((d : ℕ) → c.partial d < 256) → CodeLaws c
lawful c t bytes =
    let widths = and_parts _ _ t in
    let lanes = and_parts _ _ widths.0 in
    let least = and_parts _ _ lanes.1 in
    let most = and_parts _ _ least.1 in
    let count = and_parts _ _ widths.1 in
    let start = and_parts _ _ count.1 in
    let table = and_parts _ _ start.1 in
    let one : length c.columns ≡ c.n = eqb-true _ _ count.0 in
    let inside : (i : ℕ) → i < c.n → i < length c.columns = λ i h. rw one h in
    let at : (i : ℕ) → i < c.n → (column c i < 2 ^ c.k) × (count_ones (column c i) % 2 ≡ 1) × (3 ≤ count_ones (column c i)) =
    λ i h. column_parts c.k i _ (entry (right_column c.k) c.columns table.0 i (inside i h)) in
    record {
      whole_lanes = eqb-true _ _ lanes.0;
      n_least = leb-true _ _ least.0;
      n_most = leb-true _ _ most.0;
      k_most = leb-true _ _ most.1;
      one_each = one;
      z_below = ltb-true _ _ start.0;
      below = λ i h. (at i h).0;
      odd = λ i h. (at i h).1;
      three = λ i h. (at i h).2;
      apart = λ i j h k. distinct_at c.columns table.1 i j (inside i h) (inside j k);
      partial_byte = bytes;
    }
