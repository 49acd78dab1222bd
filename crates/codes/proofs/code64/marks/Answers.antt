use Rattle.std.proofs.Common.{refl}
use lib.Count.{ones, ones_in}
use Rattle.codes.specs.Tables.{columns64}
use Rattle.codes.specs.Marked.{marks_right}
use Rattle.codes.proofs.code64.marks.Goals as goal

pub returns : goal.returns
unfolding columns64 ones ones_in
returns c = marks_right _ refl
