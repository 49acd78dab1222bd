use Rattle.std.proofs.Common.{refl}
use Rattle.code.specs.Codes.{picked}
use Rattle.codes.specs.Tables.{columns64}
use Rattle.codes.proofs.LaneShares.{shares_right}
use Rattle.codes.proofs.shares.Shares64Shared.table.Goals as goal

pub returns : goal.returns
unfolding picked columns64
returns c = shares_right columns64 _ 8 refl
