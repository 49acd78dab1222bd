-- What is promised of any run of calls on a unit. Assumes nothing.
use Rattle.std.specs.Prelude.{◌≡◌, ℕ, ◌+◌, ◌/◌, ◌%◌, ◌^◌, ◌<◌, ◌≤◌, min, Ok, Err, Bool, true, false, cond, not, ◌&&◌, T, [], ◌∷◌, Some, None, Option, ◌==◌, nat_lt}
use Rattle.word.specs.Words.{value, of_value}
use Rattle.word.specs.Faults.{arisen}
use Rattle.word.specs.declared.words.Word.{Word}
use Rattle.word.specs.declared.refusals.Refusal.TheVariants.{Cell as CELL, Two as TWO}
use Rattle.runs.specs.Histories.{History, upset_cells, is_in_hand, last_laid}
use Rattle.unit.specs.declared.calls.Call.{Call}
use Rattle.unit.specs.declared.calls.Call.TheVariants.{Read, Write, Merge, Scrub, Inject, Log, First, Clear}
use Rattle.unit.specs.Steps.{Answer}
use Rattle.unit.specs.declared.calls.Reply.TheVariants.{Done, Gave, Merged, LogWord}

-- a unit of n data cells and k check cells, with so many places
module _ (n k places : ℕ) where
  abbrev pub cells : ℕ
  cells = n + k

  abbrev pub lanes : ℕ
  lanes = n / 8

  -- a merge that keeps a lane, and whose word and enables fit
  abbrev pub keeps : Word → ℕ → Bool
  keeps w e = nat_lt (value w) (2 ^ n) && (nat_lt e (2 ^ lanes) && not (e == 0))

  -- the place that a call reads: a read, a scrub or a merge that keeps a lane, unless its own arguments are refused
  abbrev pub meets : Call → Option ℕ
  meets (Read p) = cond (nat_lt p places) (Some p) None
  meets (Write p w) = None
  meets (Merge p w e) = cond (nat_lt p places && keeps w e) (Some p) None
  meets (Scrub p) = cond (nat_lt p places) (Some p) None
  meets (Inject p x) = None
  meets Log = None
  meets First = None
  meets Clear = None

  -- a reading of a place in hand gives the last word stored there while fewer than two of its cells are upset,
  -- and is refused as a double error, at this place, with depth 0 and way 0, while two are
  abbrev pub Reads : History → ℕ → (Word → Answer) → Answer → Type 0
  Reads h p gives a =
      T (is_in_hand cells h p) →
      (upset_cells cells h p < 2 → a ≡ gives (of_value (last_laid lanes h p))) × (2 ≤ upset_cells cells h p → a ≡ Err (arisen TWO p))

  -- every reading since the log was last new or cleared met a place in hand
  abbrev pub MetInHand : History → Option ℕ → Type 0
  MetInHand h (Some p) = T (is_in_hand cells h p)
  MetInHand h None = Unit {0}

  abbrev pub is_clear : Call → Bool
  is_clear (Read p) = false
  is_clear (Write p w) = false
  is_clear (Merge p w e) = false
  is_clear (Scrub p) = false
  is_clear (Inject p x) = false
  is_clear Log = false
  is_clear First = false
  is_clear Clear = true

  abbrev pub AllInHand : History → Type 0
  AllInHand [] = Unit {0}
  AllInHand (d ∷ h) = cond (is_clear d.call) (Unit {0}) (MetInHand h (meets d.call) × AllInHand h)

  -- how many of those readings met an upset cell
  abbrev pub upset_met : History → Option ℕ → ℕ
  upset_met h (Some p) = cond (nat_lt 0 (upset_cells cells h p)) 1 0
  upset_met h None = 0

  abbrev pub met_errors : History → ℕ
  met_errors [] = 0
  met_errors (d ∷ h) = cond (is_clear d.call) 0 (upset_met h (meets d.call) + met_errors h)

  -- the counter, once every reading since the log was new or cleared met a place in hand
  abbrev pub Counts : History → ℕ → Type 0
  Counts h counter = AllInHand h → counter ≡ min 15 (met_errors h)

  -- what the calls before it make of an answer
  abbrev pub Owed : History → Call → Answer → Type 0
  Owed h (Read p) a = Reads h p (λ old. Ok (Gave old)) a
  Owed h (Write p w) a = Unit {0}
  Owed h (Merge p w e) a = T (keeps w e) → Reads h p (λ old. Ok (Merged (Some old))) a
  Owed h (Scrub p) a = Reads h p (λ old. Ok (Merged (Some old))) a
  Owed h (Inject p x) a = T (is_in_hand cells h p) → (x < cells → a ≡ Ok Done) × (cells ≤ x → a ≡ Err (arisen CELL p))
  Owed h Log a = (v : ℕ) × (a ≡ Ok (LogWord v)) × Counts h (v / 2 ^ 24 % 16)
  Owed h First a = Unit {0}
  Owed h Clear a = Unit {0}

  abbrev pub AllOwed : History → Type 0
  AllOwed [] = Unit {0}
  AllOwed (d ∷ h) = Owed h d.call d.answer × AllOwed h
