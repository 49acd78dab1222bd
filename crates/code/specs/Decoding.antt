-- Raw words decoded. Assumes nothing.
use Rattle.std.specs.Prelude.{ℕ, ◌-◌, ◌/◌, ◌%◌, ◌^◌, cond, Ok, Err, Result, bit_xor, nat_lt}
use Rattle.word.specs.declared.refusals.Refusal.{Refusal}
use Rattle.word.specs.declared.refusals.Refusal.TheVariants.{Two as TWO, Many as MANY}
use Rattle.code.specs.Codes.{CodeModel, column, generated, located}
use Rattle.code.specs.declared.syndromes.Located.{Located}
use Rattle.code.specs.declared.syndromes.Located.TheVariants.{Clean, Data, Check, Two, Many}

-- what a cell of the raw word adds to the syndrome: a data cell its column, check cell j 2 ^ j
abbrev pub cell_column : CodeModel → ℕ → ℕ
cell_column c x = cond (nat_lt x c.n) (column c x) (2 ^ (x - c.n))

-- what is located where cell x of the raw word alone is wrong
abbrev pub at_cell : CodeModel → ℕ → Located
at_cell c x = cond (nat_lt x c.n) (Data x) (Check (x - c.n))

-- the data once the located cell is put right, or the refusal
abbrev pub corrected : ℕ → Located → Result ℕ Refusal
corrected d Clean = Ok d
corrected d (Data i) = Ok (bit_xor d (2 ^ i))
corrected d (Check j) = Ok d
corrected d Two = Err TWO
corrected d Many = Err MANY

-- data and check bits decoded
abbrev pub decoded_parts : CodeModel → ℕ → ℕ → Result ℕ Refusal
decoded_parts c d check = corrected d (located c (bit_xor (generated c d) check))

-- a raw word decoded
abbrev pub decoded : CodeModel → ℕ → Result ℕ Refusal
decoded c raw = decoded_parts c (raw % 2 ^ c.n) (raw / 2 ^ c.n)
