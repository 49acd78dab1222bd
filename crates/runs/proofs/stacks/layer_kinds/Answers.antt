use Rattle.runs.proofs.Keeping.{stacks_stand}
use Rattle.runs.proofs.stacks.layer_kinds.Goals as goal

pub returns : goal.returns
returns g c = record { kinds = c.kinds.ensures; stand = stacks_stand g.A.Card.model g.B.Card.model g.met.A.Card.laws g.met.B.Card.laws }
