-- Runs of calls on a new unit, and what they keep. Assumes nothing.
use Rattle.std.specs.Prelude.{List, [], ◌∷◌}
use Rattle.code.specs.Codes.{CodeModel}
use Rattle.card.specs.Cards.{CardModel}
use Rattle.error_log.specs.Logs.{new_log}
use Rattle.parts.specs.Units.{UnitState, unit_card}
use Rattle.runs.specs.Stacks.{StacksStand}
use Rattle.unit.specs.Steps.{step}
use Rattle.runs.specs.Histories.{History, past}
use Rattle.runs.specs.Promises.{AllOwed, Counts}
use Rattle.unit.specs.declared.calls.Call.{Call}
use Rattle.unit.specs.Steps.{Answer}

module _ (c : CodeModel) (m : CardModel) where
  -- a unit with a new log over a card, whatever the card holds
  abbrev pub new_unit : m.State → UnitState m.State
  new_unit t = record { log = new_log; card = t }

  -- the answers to some calls, each meeting what the earlier ones left, and the unit after them
  abbrev pub answers : UnitState m.State → List Call → List Answer
  answers s [] = []
  answers s (k ∷ calls) = (step c m s k).answer ∷ answers (step c m s k).state calls

  abbrev pub final : UnitState m.State → List Call → UnitState m.State
  final s [] = s
  final s (k ∷ calls) = final (step c m s k).state calls

  -- what holds after a history h that led a new unit to the state s
  pub record Kept (h : History) (s : UnitState m.State) : Type 0 where
    -- the unit is a card, and so is every stack over it and the card below; each shows what is worked out from the cards below as they stand
    pub stacks : StacksStand m (unit_card c m)
    -- each answer is the one that the calls before it make owed
    pub owed : AllOwed c.n c.k ((unit_card c m).count s) h
    -- the counter is the number of readings that met an upset cell, held at 15, once every reading since the log was new or cleared met a place in hand
    pub counted : Counts c.n c.k ((unit_card c m).count s) h s.log.counter

  -- so it is after every list of calls on a new unit over every state of the card
  abbrev pub RunsKeep : Type 0
  RunsKeep = (t : m.State) (calls : List Call) → Kept (past [] calls (answers (new_unit t) calls)) (final (new_unit t) calls)

-- some calls and their answers led a new unit to a state at which the promise holds
abbrev pub Promised : (c : CodeModel) (m : CardModel) → List Call → List Answer → Type 0
Promised c m calls told = (s : UnitState m.State) × Kept c m (past [] calls told) s
