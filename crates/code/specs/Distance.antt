-- What the laws promise of every code. Assumes nothing.
use Rattle.std.specs.Prelude.{◌≡◌, ℕ, ◌+◌, ◌%◌, ◌^◌, ◌<◌, false, ◌⊎◌, is_ok, Ok, Err, ◌≢◌, bit_xor}
use Rattle.word.specs.declared.refusals.Refusal.TheVariants.{Two as TWO}
use Rattle.code.specs.Codes.{CodeModel, codeword, syndrome}
use Rattle.code.specs.Decoding.{cell_column, decoded}

-- a complemented cell adds its column to the syndrome
abbrev pub FlipAddsColumn : CodeModel → Type 0
FlipAddsColumn c =
    (raw x : ℕ) → x < c.n + c.k → syndrome c (bit_xor raw (2 ^ x)) ≡ bit_xor (syndrome c raw) (cell_column c x)

-- the codewords are the raw words whose syndrome is 0
abbrev pub CodewordsClean : CodeModel → Type 0
CodewordsClean c =
    ((d : ℕ) → d < 2 ^ c.n → syndrome c (codeword c d) ≡ 0) × ((raw : ℕ) → syndrome c raw ≡ 0 → raw ≡ codeword c (raw % 2 ^ c.n))

-- one complemented cell is put right
abbrev pub SingleCorrected : CodeModel → Type 0
SingleCorrected c = (d x : ℕ) → d < 2 ^ c.n → x < c.n + c.k → decoded c (bit_xor (codeword c d) (2 ^ x)) ≡ Ok d

-- two different complemented cells are refused as a double error
abbrev pub DoubleRefused : CodeModel → Type 0
DoubleRefused c =
    (d x y : ℕ) → d < 2 ^ c.n → x < c.n + c.k → y < c.n + c.k → (x ≢ y) →
    decoded c (bit_xor (bit_xor (codeword c d) (2 ^ x)) (2 ^ y)) ≡ Err TWO

-- raw is the codeword of d, or that with one cell complemented
abbrev pub Near : CodeModel → ℕ → ℕ → Type 0
Near c raw d =
    (d < 2 ^ c.n) × ((raw ≡ codeword c d) ⊎ ((x : ℕ) × (x < c.n + c.k) × (raw ≡ bit_xor (codeword c d) (2 ^ x))))

-- no raw word is near two codewords
abbrev pub NearOne : CodeModel → Type 0
NearOne c = (raw d e : ℕ) → Near c raw d → Near c raw e → d ≡ e

-- a raw word decodes to the data of the codeword that it is near
abbrev pub DecodesNear : CodeModel → Type 0
DecodesNear c =
    (raw d : ℕ) → raw < 2 ^ (c.n + c.k) → (decoded c raw ≡ Ok d → Near c raw d) × (Near c raw d → decoded c raw ≡ Ok d)

-- a raw word is refused exactly when it is near no codeword
abbrev pub RefusedFar : CodeModel → Type 0
RefusedFar c =
    (raw : ℕ) → raw < 2 ^ (c.n + c.k) →
    (is_ok (decoded c raw) ≡ false → (d : ℕ) → Near c raw d → ⊥) × (((d : ℕ) → Near c raw d → ⊥) → is_ok (decoded c raw) ≡ false)
