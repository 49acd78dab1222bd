-- Scripts: their lines, and what it means to run them. Assumes nothing.
use Rattle.std.specs.Prelude.{◌≡◌, ℕ, ◌+◌, ◌-◌, ◌<◌, ◌≤◌, Bool, true, false, cond, List, [], ◌∷◌, ◌++◌, length, take, Some, None, Option, Err, ◌==◌}
use Rattle.word.specs.Faults.{arisen}
use Rattle.word.specs.declared.refusals.Refusal.TheVariants.{Line as LINE}
use Rattle.code.specs.Codes.{CodeModel}
use Rattle.card.specs.Cards.{CardModel}
use Rattle.parts.specs.Units.{UnitState, Outcome}
use Rattle.unit.specs.Steps.{step, Answer}
use Rattle.runs.specs.Histories.{past}
use Rattle.runs.specs.Runs.{new_unit, answers, final, Kept}
use Rattle.unit.specs.declared.calls.Call.{Call}
use Rattle.lines.specs.Texts.{answer_text}
use Rattle.lines.specs.Commands.{Parsed}

-- a line: its bytes, and whether a 0A ended it
pub record Line : Type 0 where
  pub bytes : List ℕ
  pub ended : Bool

-- one byte more at the front of the first line
abbrev pub prepend : ℕ → List Line → List Line
prepend b [] = record { bytes = b ∷ []; ended = false } ∷ []
prepend b (l ∷ ls) = record { bytes = b ∷ l.bytes; ended = l.ended } ∷ ls

-- a text cut behind each 0A
abbrev pub lines : List ℕ → List Line
lines [] = []
lines (b ∷ bs) = cond (b == 10) (record { bytes = []; ended = true } ∷ lines bs) (prepend b (lines bs))

-- what a line asks for: a call by its text, or nothing; an unfinished line asks for nothing
abbrev pub Asked : Line → Option Call → Type 0
Asked l a = cond l.ended (Parsed l.bytes a) (a ≡ None)

module _ (c : CodeModel) (m : CardModel) where
  -- the answer to a line, and the unit after it; a line that asks for nothing is refused, and alters nothing
  abbrev pub reply : UnitState m.State → Option Call → Outcome m.State Answer
  reply s None = record { state = s; answer = Err (arisen LINE 0) }
  reply s (Some call) = step c m s call

  -- how a run ended: the unit, the text that was written, the lines run, and whether it stopped for want of space
  pub record End : Type 0 where
    pub state : UnitState m.State
    pub text : List ℕ
    pub count : ℕ
    pub stopped : Bool

  -- the same end, after a text and so many lines before it
  abbrev pub after : List ℕ → ℕ → End → End
  after t n e = record { state = e.state; text = t ++ e.text; count = n + e.count; stopped = e.stopped }

  -- a run from a unit, with so much room for output, over some lines
  pub data Ran : UnitState m.State → ℕ → List Line → End → Type 0 where
    -- no line is left
    done : {s : UnitState m.State} {room : ℕ} → Ran s room [] (record { state = s; text = []; count = 0; stopped = false })
    -- fewer than 32 bytes are left before a line
    stop : {s : UnitState m.State} {room : ℕ} {l : Line} {ls : List Line} → room < 32 →
        Ran s room (l ∷ ls) (record { state = s; text = []; count = 0; stopped = true })
    -- a line is run, and its answer written
    line : {s : UnitState m.State} {room : ℕ} {l : Line} {ls : List Line} {e : End} (a : Option Call) → 32 ≤ room → Asked l a →
        Ran (reply s a).state (room - length (answer_text (reply s a).answer)) ls e →
        Ran s room (l ∷ ls) (after (answer_text (reply s a).answer) 1 e)

-- the calls that some lines ask for, in their order
pub data CallsOf : List Line → List Call → Type 0 where
  none : CallsOf [] []
  silent : {l : Line} {ls : List Line} {ks : List Call} → Asked l None → CallsOf ls ks → CallsOf (l ∷ ls) ks
  asks : {l : Line} {ls : List Line} {ks : List Call} (k : Call) → Asked l (Some k) → CallsOf ls ks → CallsOf (l ∷ ls) (k ∷ ks)

-- The calls of a script go on from the calls before it: if those led a new unit to where the script began, then these lead it to where
-- the script ended, after so many lines, and the promise over runs holds of them all.
pub record GoesOn (c : CodeModel) (m : CardModel) (script : List Line) (count : ℕ) (t : m.State) (before : List Call) (s : UnitState m.State) : Type 0 where
  pub calls : List Call
  pub asked : CallsOf (take count script) calls
  pub state : s ≡ final c m (new_unit c m t) (before ++ calls)
  pub kept : Kept c m (past [] (before ++ calls) (answers c m (new_unit c m t) (before ++ calls))) s
