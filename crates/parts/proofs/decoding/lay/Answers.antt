use Rattle.std.proofs.Common.{ap, ◌∙◌}
use Rattle.word.specs.Words.{of_value}
use Rattle.parts.proofs.CodeFacts.{laid_held}
use Rattle.parts.proofs.decoding.lay.Goals as goal

pub returns : goal.returns
returns g c =
    c.join.ensures ∙ rw (c.from.ensures, c.data_width.ensures, c.check_word.ensures)
    (ap of_value (laid_held g.C.Code.code g.met.C.Code.lawful c.args.data c.requires))
