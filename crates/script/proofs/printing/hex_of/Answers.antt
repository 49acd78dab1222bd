use Rattle.std.proofs.Common.{rules}
use Rattle.script.proofs.WriteFacts.{hex_from_digits}
use Rattle.script.proofs.printing.hex_of.Goals as goal

pub returns : goal.returns
returns g c = hex_from_digits c.loop-place.digit-items g.row.DIGITS c.args.number c.loop-place.invariant.0 (λ i h. c.loop-place.invariant.1 i (search rules))
