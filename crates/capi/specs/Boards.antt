-- A buffer of a caller in C, and the unit that each call puts over it. Assumes nothing.
use Rattle.std.specs.Prelude.{ℕ, List, Ok, Err, Result}
use Rattle.std.specs.Borrow.{MutBor}
use Rattle.word.specs.Faults.{number_of}
use Rattle.word.specs.declared.words.Word.{Word}
use Rattle.word.specs.declared.faults.Fault.{Fault}
use Rattle.codes.specs.Tables.{code64}
use Rattle.card.specs.Cards.{CardModel}
use Rattle.card.specs.Bytes.{ByteState, byte_card, lent}
use Rattle.error_log.specs.Logs.{new_log}
use Rattle.parts.specs.Units.{UnitState, unit_card}

-- a 64-bit unit over a byte card of 72 cells
abbrev pub board : CardModel
board = unit_card code64 byte_card

-- with a new log over the caller's buffer
abbrev pub over : MutBor (List ℕ) → UnitState ByteState
over bytes = record { log = new_log; card = lent 72 bytes }

-- 0, or the number of the refusal
abbrev pub read_status : Result Word Fault → ℕ
read_status (Ok w) = 0
read_status (Err f) = number_of f.refusal

abbrev pub write_status : Result (Unit {0}) Fault → ℕ
write_status (Ok d) = 0
write_status (Err f) = number_of f.refusal

-- what the caller's data become: the word read in place of `before`, unless refused
abbrev pub read_data : ℕ → Result Word Fault → ℕ
read_data before (Ok w) = w.low
read_data before (Err f) = before
