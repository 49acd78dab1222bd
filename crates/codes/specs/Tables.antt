-- The codes by their numbers, with the columns in the order of the cells. Assumes nothing.
use Rattle.std.specs.Prelude.{ℕ, List, [], ◌∷◌}
use Rattle.code.specs.Codes.{CodeModel}
use Rattle.codes.specs.Lanes.{ordered}

abbrev pub table64 : List ℕ
table64 =
    0xce ∷ 0xcb ∷ 0xd3 ∷ 0xd5 ∷ 0xd6 ∷ 0xd9 ∷ 0xda ∷ 0xdc ∷
    0x23 ∷ 0x25 ∷ 0x26 ∷ 0x29 ∷ 0x2a ∷ 0x2c ∷ 0x31 ∷ 0x34 ∷
    0x0e ∷ 0x0b ∷ 0x13 ∷ 0x15 ∷ 0x16 ∷ 0x19 ∷ 0x1a ∷ 0x1c ∷
    0xe3 ∷ 0xe5 ∷ 0xe6 ∷ 0xe9 ∷ 0xea ∷ 0xec ∷ 0xf1 ∷ 0xf4 ∷
    0x4f ∷ 0x4a ∷ 0x52 ∷ 0x54 ∷ 0x57 ∷ 0x58 ∷ 0x5b ∷ 0x5d ∷
    0xa2 ∷ 0xa4 ∷ 0xa7 ∷ 0xa8 ∷ 0xab ∷ 0xad ∷ 0xb0 ∷ 0xb5 ∷
    0x8f ∷ 0x8a ∷ 0x92 ∷ 0x94 ∷ 0x97 ∷ 0x98 ∷ 0x9b ∷ 0x9d ∷
    0x62 ∷ 0x64 ∷ 0x67 ∷ 0x68 ∷ 0x6b ∷ 0x6d ∷ 0x70 ∷ 0x75 ∷ []

-- the same under a name that stays shut
unfoldable pub columns64 : List ℕ
columns64 = table64

-- the lanes of the 64-bit columns that the 32-bit code has, in the order of its own
abbrev pub order32 : List ℕ
order32 = 4 ∷ 1 ∷ 2 ∷ 7 ∷ []

-- four lanes of the 64-bit code
abbrev pub table32 : List ℕ
table32 = ordered table64 order32

unfoldable pub columns32 : List ℕ
columns32 = ordered columns64 order32

abbrev pub table16 : List ℕ
table16 =
    0x38 ∷ 0x19 ∷ 0x1a ∷ 0x0b ∷ 0x1c ∷ 0x0d ∷ 0x0e ∷ 0x1f ∷
    0x2c ∷ 0x25 ∷ 0x26 ∷ 0x23 ∷ 0x34 ∷ 0x31 ∷ 0x32 ∷ 0x37 ∷ []

unfoldable pub columns16 : List ℕ
columns16 = table16

-- z where check bits 2 and 3 are kept inverted
abbrev pub inverted : ℕ
inverted = 0x0c

abbrev pub z16 : ℕ
z16 = 0x00

abbrev pub code64 : CodeModel
code64 = record { n = 64; k = 8; z = inverted; columns = columns64; partial = λ _. 0 }

abbrev pub code32 : CodeModel
code32 = record { n = 32; k = 7; z = inverted; columns = columns32; partial = λ _. 0 }

abbrev pub code16 : CodeModel
code16 = record { n = 16; k = 6; z = z16; columns = columns16; partial = λ _. 0 }
