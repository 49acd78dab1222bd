use Rattle.std.proofs.Common.{Ok, Err, ap}
use Rattle.word.specs.Words.{value}
use Rattle.layers.specs.ParityFacts.{tested_right, tested_wrong}
use Rattle.layers.proofs.parity.Lanes.check.Goals as goal

pub returns-then-bits : goal.returns-then-bits
returns-then-bits c =
    let right = tested_right c.args.self.sense c.args.self.count c.args.self.few (value c.args.raw) c.split.result c.lanes_of.result c.bits.result
    c.requires c.split.ensures c.lanes_of.ensures c.bits.ensures c.if-bits.true in
    rw right (ap (λ r. Ok r.0) c.split.ensures)

pub returns-else-bits : goal.returns-else-bits
returns-else-bits c =
    let wrong = tested_wrong c.args.self.sense c.args.self.count c.args.self.few (value c.args.raw) c.split.result c.lanes_of.result c.bits.result
    c.requires c.split.ensures c.lanes_of.ensures c.bits.ensures c.if-bits.false in
    rw wrong (ap Err c.arise.ensures)
