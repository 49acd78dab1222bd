use Rattle.std.proofs.Common.{rules}
use Rattle.codes.specs.Tables.{table64}
use Rattle.codes.proofs.Told.{told_two, told_many}
use Rattle.codes.proofs.code64.look_up.Goals as goal

pub returns-in_default : goal.returns-in_default
returns-in_default c =
    told_two 8 table64 c.args.syndrome (search rules) (search rules) (search rules) c.if-even-eq0.true

pub returns-in_default-2 : goal.returns-in_default-2
returns-in_default-2 c =
    told_many 8 table64 c.args.syndrome (search rules) (search rules) (search rules) c.if-even-eq0.false
