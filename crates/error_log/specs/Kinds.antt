-- The kinds of errors that a log tells. Assumes nothing.
use Rattle.std.specs.Prelude.{ℕ, Bool, true, false, cond}
use Rattle.error_log.specs.declared.records.Kind.{Kind}
use Rattle.error_log.specs.declared.records.Kind.TheVariants.{Quiet, Damaged, Single}

abbrev pub is_quiet : Kind → Bool
is_quiet Quiet = true
is_quiet Damaged = false
is_quiet Single = false

-- the two top bits of the log word
abbrev pub kind_bits : Kind → ℕ
kind_bits Quiet = 0
kind_bits Damaged = 1
kind_bits Single = 2

-- the kind of an error
abbrev pub kind_of : Bool → Kind
kind_of damaged = cond damaged Damaged Single
