-- One step of a unit for each of its calls. Assumes nothing.
use Rattle.std.specs.Prelude.{Ok, Err, Result}
use Rattle.word.specs.Words.{value}
use Rattle.word.specs.declared.faults.Fault.{Fault}
use Rattle.code.specs.Codes.{CodeModel}
use Rattle.card.specs.Cards.{CardModel, read_answer, read_state, write_answer, write_state}
use Rattle.error_log.specs.Logs.{new_log, log_word}
use Rattle.parts.specs.Units.{UnitState, Outcome, unit_card, merged, scrubbed, injected}
use Rattle.unit.specs.declared.calls.Call.{Call}
use Rattle.unit.specs.declared.calls.Call.TheVariants.{Read, Write, Merge, Scrub, Inject, Log, First, Clear}
use Rattle.unit.specs.declared.calls.Reply.{Reply}
use Rattle.unit.specs.declared.calls.Reply.TheVariants.{Done, Gave, Merged, LogWord, FirstWas}

-- what a call is answered: a reply, or the fault with which it is refused
abbrev pub Answer : Type 0
Answer = Result Reply Fault

-- what is answered for what a call returned, where this makes a reply of what it gives
abbrev pub replied : {A : Type 0} → (A → Reply) → Result A Fault → Answer
replied reply (Ok given) = Ok (reply given)
replied reply (Err fault) = Err fault

module _ (c : CodeModel) (m : CardModel) where
  abbrev pub step : UnitState m.State → Call → Outcome m.State Answer
  step s (Read p) = record { state = read_state (unit_card c m) s p; answer = replied Gave (read_answer (unit_card c m) s p) }
  step s (Write p w) = record { state = write_state (unit_card c m) s p (value w); answer = replied (λ _. Done) (write_answer (unit_card c m) s p (value w)) }
  step s (Merge p w e) = record { state = (merged c m s p (value w) e).state; answer = replied Merged (merged c m s p (value w) e).answer }
  step s (Scrub p) = record { state = (scrubbed c m s p).state; answer = replied Merged (scrubbed c m s p).answer }
  step s (Inject p x) = record { state = (injected c m s p x).state; answer = replied (λ _. Done) (injected c m s p x).answer }
  step s Log = record { state = s; answer = Ok (LogWord (log_word c s.log)) }
  step s First = record { state = s; answer = Ok (FirstWas s.log.first) }
  step s Clear = record { state = record { log = new_log; card = s.card }; answer = Ok Done }
