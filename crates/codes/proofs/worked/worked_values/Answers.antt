use Rattle.std.proofs.Common.{refl}
use lib.Count.{ones, ones_in}
use Rattle.code.specs.Codes.{picked}
use Rattle.codes.specs.Tables.{columns16, columns32, columns64}
use Rattle.codes.specs.Worked.{WorkedHold}
use Rattle.codes.proofs.worked.worked_values.Goals as goal

hold : WorkedHold
unfolding picked columns16 columns32 columns64 ones ones_in
hold = (refl, (refl, (refl, (refl, (refl, (refl, (refl, (refl, (refl, (refl, (refl, (refl, (refl, tt)))))))))))))

pub returns : goal.returns
returns c = record { count = refl; hold = hold }
