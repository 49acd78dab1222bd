use Rattle.std.proofs.Common.{◌≡◌, length, arith, rules}
use Rattle.lines.proofs.HexFacts.{number_more, number_all, no_number}
use Rattle.lines.proofs.hex.number.Goals as goal

pub returns-in_err-digit : goal.returns-in_err-digit
returns-in_err-digit g c =
    let long : length c.args.text.now ≡ g.row.DIGITS = search rules in
    rw c.from_residual.ensures (λ v _. no_number c.args.text.now g.row.DIGITS c.loop-byte.byte-index (omega arith) c.in_err-digit.ensures.told v)

pub loop-byte-preserved : goal.loop-byte-preserved
loop-byte-preserved g c =
    let long : length c.args.text.now ≡ g.row.DIGITS = search rules in
    let d = c.in_ok-digit.ensures.told in
    rw c.from.ensures
    (number_more c.args.text.now c.loop-byte.byte-index c.loop-byte.value c.in_ok-digit.field-0 (omega arith) d.0 d.1 c.loop-byte.invariant.0 c.loop-byte.invariant.1)

pub returns : goal.returns
returns g c = number_all c.args.text.now g.row.DIGITS c.loop-byte.byte-index c.loop-byte.value (omega arith) (search rules) c.loop-byte.invariant.0 c.loop-byte.invariant.1
