use Rattle.std.proofs.Common.{◌∙◌}
use Rattle.codes.proofs.LaneShares.{shares_add_up}
use Rattle.codes.proofs.shares.add_columns.Goals as goal

pub returns : goal.returns
returns g c =
    c.fold_shares.ensures ∙
    shares_add_up g.T.Shared.columns c.lanes_of.result g.T.Shared.count c.args.z c.args.«data» c.args.order.now c.lanes_of.ensures
    c.requires.few g.met.T.Shared.long c.requires.known
