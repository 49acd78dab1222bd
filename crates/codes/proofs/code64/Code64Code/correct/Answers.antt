use Rattle.std.proofs.Common.{◌<◌, ap, ◌∙◌, arith}
use Rattle.codes.specs.Marks.{followed}
use Rattle.codes.specs.Marked.{followed_right}
use Rattle.codes.proofs.code64.Code64Code.correct.Goals as goal

pub returns : goal.returns
returns c =
    let small : c.args.syndrome < 256 = omega arith in
    c.follow.ensures ∙ ap (followed c.args.«data») (c.marks.ensures.at _ small) ∙ followed_right c.args.«data» _ small
