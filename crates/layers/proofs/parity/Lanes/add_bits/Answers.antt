use Rattle.std.proofs.Common.{ap, ◌∙◌, arith}
use Rattle.word.specs.Words.{of_value}
use Rattle.layers.specs.ParityFacts.{raw_joined}
use Rattle.layers.proofs.parity.Lanes.add_bits.Goals as goal

pub returns : goal.returns
returns c =
    c.join.ensures ∙ rw c.from.ensures
    (ap of_value (raw_joined c.args.self.sense c.args.self.count c.args.self.few c.args.word c.lanes_of.result c.bits-bits.result (omega arith)
    c.requires c.lanes_of.ensures c.bits-bits.ensures))
