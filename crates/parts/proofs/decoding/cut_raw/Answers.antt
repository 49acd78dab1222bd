use Rattle.word.specs.Words.{value}
use Rattle.parts.proofs.CodeFacts.{cut_held}
use Rattle.parts.proofs.decoding.cut_raw.Goals as goal

pub returns : goal.returns
returns g c =
    cut_held g.C.Code.code g.met.C.Code.lawful (value c.args.raw) c.data_width.result c.split.result c.data_width.ensures c.split.ensures c.requires
