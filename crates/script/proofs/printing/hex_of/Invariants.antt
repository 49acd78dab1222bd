use Rattle.std.proofs.Common.{◌≡◌, ℕ, ◌-◌, ◌*◌, ◌/◌, ◌%◌, ◌^◌, ◌<◌, length, get_or}
use Rattle.lines.specs.Hex.{hex_digit}
use Rattle.script.proofs.printing.hex_of.Given as goal

abbrev pub invariant-loop-place : goal.invariant-loop-place
invariant-loop-place g l =
    (length l.digit-items ≡ g.row.DIGITS) × ((k : ℕ) → k < l.place → get_or l.digit-items k 0 ≡ hex_digit (l.number / 2 ^ (4 * (g.row.DIGITS - 1 - k)) % 16))
