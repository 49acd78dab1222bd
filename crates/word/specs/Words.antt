-- Words as numbers. Assumes nothing.
use Rattle.std.specs.Prelude.{ℕ, ◌+◌, ◌*◌, ◌/◌, ◌%◌, ◌^◌, cond, bit_xor, nat_lt}
use Rattle.word.specs.declared.words.Word.{Word}

-- the number that a word stands for
abbrev pub value : Word → ℕ
value w = w.low + 2 ^ 64 * w.top

-- the word that stands for a number below 2 ^ 72
abbrev pub of_value : ℕ → Word
of_value v = record { low = v % 2 ^ 64; top = v / 2 ^ 64 }

-- a number with one of its first 72 cells complemented; no other cell exists
abbrev pub toggled : ℕ → ℕ → ℕ
toggled x v = cond (nat_lt x 72) (bit_xor v (2 ^ x)) v
