-- A run of the program. Assumes nothing.
use Rattle.std.specs.Prelude.{◌≡◌, ℕ, zero, suc, ◌-◌, ◌≤◌, List, [], ◌∷◌, ◌++◌, length, take, drop, replicate}
use Rattle.word.specs.Words.{of_value}
use Rattle.word.specs.declared.words.Word.{Word}
use Rattle.code.specs.Codes.{codeword}
use Rattle.codes.specs.Tables.{code64}
use Rattle.card.specs.Builtin.{Builtin, builtin_card, blank, no_word}
use Rattle.error_log.specs.Logs.{new_log}
use Rattle.parts.specs.Units.{UnitState}
use Rattle.unit.specs.declared.calls.Call.{Call}
use Rattle.unit.specs.declared.calls.Call.TheVariants.{Write}
use Rattle.script.specs.Scripts.{lines, Ran, GoesOn}
use Rattle.script.specs.declared.running.Report.{Report}

-- the raw word of zero
abbrev pub raw_zero : Word
raw_zero = of_value (codeword code64 0)

-- the built-in card of 72 cells once zero was stored at the first i places
abbrev pub laid_out : ℕ → Builtin
laid_out i = record { made_with = 72; words = replicate i raw_zero ++ replicate (128 - i) no_word }

-- the unit that the program starts with: a new log, and zero stored everywhere
abbrev pub fresh : UnitState Builtin
fresh = record { log = new_log; card = record { made_with = 72; words = replicate 128 raw_zero } }

-- zero written at n places, from p on
abbrev pub zero_writes : ℕ → ℕ → List Call
zero_writes p zero = []
zero_writes p (suc n) = Write p no_word ∷ zero_writes (suc p) n

-- a script that is not too long was run on a fresh unit: the report, the output before and after
pub record Session (script out out' : List ℕ) (r : Report) : Type 0 where
  pub short : length script ≤ 4096
  -- the unit as the run left it
  pub state : UnitState Builtin
  pub ran : Ran code64 builtin_card fresh (length out) (lines script) (record { state = state; text = take r.written out'; count = r.lines; stopped = r.stopped })
  -- the zeros stored at the start and the calls of the script keep the promise over runs
  pub promise : GoesOn code64 builtin_card (lines script) r.lines (blank 72) (zero_writes 0 128) state
  pub within : r.written ≤ length out
  pub rest : drop r.written out' ≡ drop r.written out
