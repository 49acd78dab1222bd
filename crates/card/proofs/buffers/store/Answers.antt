use Rattle.std.proofs.Common.{◌+◌, ◌-◌, ◌∙◌, arith}
use Rattle.card.specs.BufferFacts.{stored_is}
use Rattle.card.proofs.buffers.store.Goals as goal

pub returns : goal.returns
returns c =
    stored_is c.args.bytes.now c.copy_from_slice.new.self c.args.at (c.args.at + 8 - c.args.at)
    c.args.word.low c.args.word.top c.requires (omega arith)
    (c.copy_from_slice.ensures.after ∙ c.lanes_of.ensures) (omega arith) (omega arith)
