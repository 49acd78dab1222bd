-- Where the entries of published tables stand. Assumes nothing.
use Rattle.std.specs.Prelude.{ℕ, ◌+◌, ◌-◌, ◌*◌, ◌/◌, ◌%◌, if◌then◌else◌, nat_lt}
use Rattle.code.specs.declared.syndromes.Located.{Located}
use Rattle.code.specs.declared.syndromes.Located.TheVariants.{Clean, Data, Check}
use Rattle.std.specs.Int.{reverse_bits_onto}

-- the syndrome of an entry of the first maker's, in a table of so many columns
abbrev pub first_syndrome : ℕ → ℕ → ℕ → ℕ
first_syndrome columns row column = (column % 16) * 16 + row % 16

-- the second maker's rows and columns count in the syndrome bits from the lowest on: eight of them where there are 16 columns, seven where there are 8
abbrev pub second_syndrome : ℕ → ℕ → ℕ → ℕ
second_syndrome columns row column = reverse_bits_onto 8 ((row % 16) * columns + column % columns) 0 / (16 / columns)

-- what the columns of the 16-bit table stand for: data bits, check bits, no error
abbrev pub located_column : ℕ → Located
located_column i = if nat_lt i 16 then Data i else if nat_lt i 22 then Check (i - 16) else Clean
