use Rattle.std.proofs.Common.{◌≡◌, ◌%◌, ◌^◌, ap, ◌∙◌, arith}
use Rattle.code.specs.Codes.{told}
use Rattle.codes.specs.Tables.{columns64, table64}
use Rattle.codes.proofs.code64.Code64Code.locate.Goals as goal

pub returns : goal.returns
unfolding columns64
returns c =
    let whole : c.args.syndrome ≡ c.args.syndrome % 2 ^ 8 = omega arith in
    c.look_up.ensures ∙ ap (told 8 table64) whole
