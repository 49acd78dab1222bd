-- What a watch makes owed to a call, and what pays it. Assumes nothing.
use Rattle.std.specs.Prelude.{◌≡◌, ℕ, ◌+◌, ◌/◌, ◌%◌, ◌^◌, if◌then◌else◌, Some, None, Ok, Err, Option, Result, ◌≢◌, nat_lt}
use Rattle.word.specs.Faults.{arisen}
use Rattle.word.specs.declared.words.Word.{Word}
use Rattle.word.specs.declared.faults.Fault.{Fault}
use Rattle.word.specs.declared.refusals.Refusal.TheVariants.{Cell as CELL, Two as TWO}
use Rattle.unit.specs.declared.calls.Call.{Call}
use Rattle.unit.specs.declared.calls.Call.TheVariants.{Read, Write, Merge, Scrub, Inject, Log, First, Clear}
use Rattle.unit.specs.Steps.{Answer, replied}
use Rattle.unit.specs.declared.calls.Reply.{Reply}
use Rattle.unit.specs.declared.calls.Reply.TheVariants.{Done, Gave, Merged, LogWord}
use Rattle.runs.specs.Histories.{number_of}
use Rattle.runs.specs.Promises.{keeps}
use Rattle.audit.specs.Watching.{marked}
use Rattle.audit.specs.declared.watching.Watch.{Watch}
use Rattle.audit.specs.declared.owing.Due.{Due}
use Rattle.audit.specs.declared.owing.Due.TheVariants.{This, LogWord as LOGWORD}
use Rattle.audit.specs.declared.owing.Verdict.{Verdict}
use Rattle.audit.specs.declared.owing.Verdict.TheVariants.{Free, Agrees, Differs}

-- an answer pays what is due
abbrev pub Pays : Due → Answer → Type 0
Pays (This b) a = a ≡ b
Pays (LOGWORD None) a = (v : ℕ) × (a ≡ Ok (LogWord v))
Pays (LOGWORD (Some counter)) a = (v : ℕ) × (a ≡ Ok (LogWord v)) × (v / 2 ^ 24 % 16 ≡ counter)

-- where nothing is due, any answer will do
abbrev pub Settles : Option Due → Answer → Type 0
Settles None a = Unit {0}
Settles (Some d) a = Pays d a

-- a verdict on an answer: nothing was due, it was paid, or it was not
abbrev pub Judged : Option Due → Answer → Verdict → Type 0
Judged r a Free = r ≡ None
Judged r a Agrees = (r ≢ None) × Settles r a
Judged r a Differs = Settles r a → ⊥

-- the place that a call names
abbrev pub named : Call → Option ℕ
named (Read p) = Some p
named (Write p w) = Some p
named (Merge p w e) = Some p
named (Scrub p) = Some p
named (Inject p x) = Some p
named Log = None
named First = None
named Clear = None

-- what a reading of a watched place is to find, if the place is in hand
abbrev pub finding : ℕ → Watch → Option (Result Word Fault)
finding cells w =
    if w.in_hand then Some (if nat_lt (number_of (marked w.upset) cells) 2 then Ok w.laid else Err (arisen TWO w.place)) else None

-- what is due to a reading that is to find this, and makes this reply of a word
abbrev pub due_reading : (Word → Reply) → Option (Result Word Fault) → Option Due
due_reading reply None = None
due_reading reply (Some found) = Some (This (replied reply found))

abbrev pub due_inject : ℕ → Watch → ℕ → Option Due
due_inject cells w x = if w.in_hand then Some (This (if nat_lt x cells then Ok Done else Err (arisen CELL w.place))) else None

-- what is due to a call that names the place of a watch, at a unit of n data cells and k check cells
abbrev pub due_at : ℕ → ℕ → Watch → Call → Option Due
due_at n k w (Read p) = due_reading Gave (finding (n + k) w)
due_at n k w (Write p v) = None
due_at n k w (Merge p v e) = if keeps n k 0 v e then due_reading (λ old. Merged (Some old)) (finding (n + k) w) else None
due_at n k w (Scrub p) = due_reading (λ old. Merged (Some old)) (finding (n + k) w)
due_at n k w (Inject p x) = due_inject (n + k) w x
due_at n k w Log = None
due_at n k w First = None
due_at n k w Clear = None
