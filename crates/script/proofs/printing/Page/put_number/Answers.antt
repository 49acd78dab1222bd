use Rattle.std.proofs.Common.{arith}
use Rattle.lines.proofs.HexFacts.{length_hex}
use Rattle.script.proofs.WriteFacts.{wrote_more}
use Rattle.script.proofs.printing.Page.put_number.Goals as goal

pub returns : goal.returns
returns g c = wrote_more c.put.ensures (wrote_more c.put_field.ensures c.put-2.ensures)

pub put-requires-2 : goal.put-requires-2
put-requires-2 g c = omega (arith, c.put.ensures.behind, c.put.ensures.long, c.put_field.ensures.behind, c.put_field.ensures.long, length_hex g.row.DIGITS c.args.number)
