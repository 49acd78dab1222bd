-- A code by its columns: what it generates, what its syndromes say, and the laws it keeps. Assumes nothing.
use Rattle.std.specs.Prelude.{◌≡◌, ℕ, zero, suc, ◌+◌, ◌*◌, ◌/◌, ◌%◌, ◌^◌, ◌<◌, ◌≤◌, cond, List, [], ◌∷◌, length, ◌==◌, bit_xor, count_ones, slice_index}
use Rattle.code.specs.declared.syndromes.Located.{Located}
use Rattle.code.specs.declared.syndromes.Located.TheVariants.{Clean, Data, Check, Two, Many}

-- n data cells, k check cells, the value z, a column for each data cell, and the partial check bits
pub record CodeModel : Type 0 where
  pub n : ℕ
  pub k : ℕ
  pub z : ℕ
  pub columns : List ℕ
  pub partial : ℕ → ℕ

-- column i
abbrev pub column : CodeModel → ℕ → ℕ
column c i = slice_index c.columns i

pub record CodeLaws (c : CodeModel) : Type 0 where
  pub whole_lanes : c.n ≡ 8 * (c.n / 8)
  pub n_least : 8 ≤ c.n
  pub n_most : c.n ≤ 64
  pub k_most : c.k ≤ 8
  pub one_each : length c.columns ≡ c.n
  pub z_below : c.z < 2 ^ c.k
  pub below : (i : ℕ) → i < c.n → column c i < 2 ^ c.k
  pub odd : (i : ℕ) → i < c.n → count_ones (column c i) % 2 ≡ 1
  pub three : (i : ℕ) → i < c.n → 3 ≤ count_ones (column c i)
  pub apart : (i j : ℕ) → i < c.n → j < c.n → column c i ≡ column c j → i ≡ j
  pub partial_byte : (d : ℕ) → c.partial d < 256

-- the xor of the columns at which d has a 1, cell 0 at the first column
unfoldable pub picked : List ℕ → ℕ → ℕ
picked [] d = 0
picked (x ∷ xs) d = bit_xor (cond (d % 2 == 1) x 0) (picked xs (d / 2))

-- the check bits of the data d modulo 2 ^ n: there are n columns, and no more cells than columns count
abbrev pub generated : CodeModel → ℕ → ℕ
generated c d = bit_xor c.z (picked c.columns d)

-- the place at which s stands in the list, told by `at`; `other` where it stands nowhere
abbrev pub found : {X : Type 0} → (ℕ → X) → X → ℕ → List ℕ → ℕ → X
found at other i [] s = other
found at other i (x ∷ xs) s = cond (s == x) (at i) (found at other (suc i) xs s)

-- x, 2 x, 4 x and so on, k of them
abbrev pub powers : ℕ → ℕ → List ℕ
powers zero x = []
powers (suc k) x = x ∷ powers k (2 * x)

-- what a syndrome that is no column and no power of two says
abbrev pub by_count : ℕ → Located
by_count s = cond (count_ones s % 2 == 0) Two Many

-- what a syndrome below 2 ^ k says under these columns
abbrev pub told : ℕ → List ℕ → ℕ → Located
told k columns s = cond (s == 0) Clean (found Data (found Check (by_count s) 0 (powers k 1) s) 0 columns s)

abbrev pub reduced : CodeModel → ℕ → Located
reduced c s = told c.k c.columns s

abbrev pub located : CodeModel → ℕ → Located
located c s = reduced c (s % 2 ^ c.k)

-- the raw word of the data d with its generated check bits
abbrev pub codeword : CodeModel → ℕ → ℕ
codeword c d = d + 2 ^ c.n * generated c d

-- what the check bits of a raw word differ in from those that its data generate
abbrev pub syndrome : CodeModel → ℕ → ℕ
syndrome c raw = bit_xor (generated c (raw % 2 ^ c.n)) (raw / 2 ^ c.n)
