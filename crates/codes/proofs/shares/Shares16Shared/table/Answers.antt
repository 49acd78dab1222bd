use Rattle.std.proofs.Common.{refl}
use Rattle.code.specs.Codes.{picked}
use Rattle.codes.specs.Tables.{columns16}
use Rattle.codes.proofs.LaneShares.{shares_right}
use Rattle.codes.proofs.shares.Shares16Shared.table.Goals as goal

pub returns : goal.returns
unfolding picked columns16
returns c = shares_right columns16 _ 2 refl
