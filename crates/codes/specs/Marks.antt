-- What a syndrome of the 64-bit code says, as one number. Assumes nothing.
use Rattle.std.specs.Prelude.{◌≡◌, ℕ, ◌+◌, ◌^◌, ◌<◌, cond, List, length, Ok, Err, Result, ◌==◌, bit_xor, nat_lt, slice_index}
use Rattle.word.specs.declared.refusals.Refusal.{Refusal}
use Rattle.word.specs.declared.refusals.Refusal.TheVariants.{Two as TWO, Many as MANY}
use Rattle.code.specs.Codes.{located}
use Rattle.codes.specs.Tables.{code64}
use Rattle.code.specs.declared.syndromes.Located.{Located}
use Rattle.code.specs.declared.syndromes.Located.TheVariants.{Clean, Data, Check, Two, Many}

-- the cell of the raw word, or a number past the last cell
abbrev pub mark : Located → ℕ
mark Clean = 72
mark (Data i) = i
mark (Check j) = 64 + j
mark Two = 73
mark Many = 74

-- a table of the marks of all syndromes
pub record Marks64 (table : List ℕ) : Type 0 where
  pub long : length table ≡ 256
  pub at : (s : ℕ) → s < 256 → slice_index table s ≡ mark (located code64 s)

-- the data with the marked cell put right, or the refusal
abbrev pub followed : ℕ → ℕ → Result ℕ Refusal
followed d m = cond (nat_lt m 64) (Ok (bit_xor d (2 ^ m))) (cond (nat_lt m 73) (Ok d) (cond (m == 73) (Err TWO) (Err MANY)))
