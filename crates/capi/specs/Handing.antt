-- How an answer is handed to C. Assumes nothing.
use Rattle.std.specs.Prelude.{ℕ, Ok, Err, Result}
use Rattle.word.specs.Faults.{number_of}
use Rattle.word.specs.declared.refusals.Refusal.{Refusal}

-- 0, or the number of the refusal
abbrev pub status : Result ℕ Refusal → ℕ
status (Ok d) = 0
status (Err r) = number_of r

-- what the caller's data become: d in place of `before`, unless refused
abbrev pub handed : ℕ → Result ℕ Refusal → ℕ
handed before (Ok d) = d
handed before (Err r) = before
