use Rattle.std.proofs.Common.{refl}
use Rattle.codes.specs.Slices.{same_as_single}
use Rattle.codes.proofs.cascaded.slice_width.Goals as goal

pub returns : goal.returns
returns c = record { width = refl; same = same_as_single }
