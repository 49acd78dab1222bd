use Rattle.audit.proofs.Merging.{MergedTo}
use Rattle.audit.proofs.watching.merge_lanes.Given as goal

abbrev pub invariant-loop-lane : goal.invariant-loop-lane
invariant-loop-lane l = MergedTo l.enables l.olds l.news l.lane l.bytes
