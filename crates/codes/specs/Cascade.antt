-- The 64-bit code in two slices of 32 cells each. Assumes nothing.
use Rattle.std.specs.Prelude.{◌≡◌, ℕ, ◌/◌, ◌%◌, ◌^◌, take, drop, bit_xor}
use Rattle.code.specs.Codes.{CodeModel, picked, generated, syndrome, codeword}
use Rattle.code.specs.Decoding.{decoded}
use Rattle.codes.specs.Tables.{columns64, inverted, code64}

-- the partial check bits of cells 0 to 31; the inversion is made here and nowhere else
abbrev pub lower_slice : ℕ → ℕ
lower_slice low = bit_xor inverted (picked (take 32 columns64) low)

-- the partial check bits with cells 32 to 63 added
abbrev pub upper_slice : ℕ → ℕ → ℕ
upper_slice partial high = bit_xor partial (picked (drop 32 columns64) high)

-- the check bits of a data word that the two slices make
abbrev pub sliced : ℕ → ℕ
sliced d = upper_slice (lower_slice (d % 2 ^ 32)) (d / 2 ^ 32)

abbrev pub cascaded64 : CodeModel
cascaded64 = record { n = 64; k = 8; z = inverted; columns = columns64; partial = λ d. lower_slice (d % 2 ^ 32) }

-- the cascade has the check bits, syndromes, codewords and decoded words of the single code
abbrev pub SameAsSingle : Type 0
SameAsSingle =
    (v : ℕ) →
    (sliced v ≡ generated code64 v) × (generated cascaded64 v ≡ generated code64 v) × (syndrome cascaded64 v ≡ syndrome code64 v)
    × (codeword cascaded64 v ≡ codeword code64 v) × (decoded cascaded64 v ≡ decoded code64 v)
