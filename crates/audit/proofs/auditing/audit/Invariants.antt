use Rattle.std.proofs.Common.{[], length, take}
use Rattle.runs.specs.Histories.{past}
use Rattle.audit.proofs.Audited.{Audited}
use Rattle.audit.proofs.auditing.audit.Given as goal

abbrev pub invariant-loop-call : goal.invariant-loop-call
invariant-loop-call l =
    (goal.iterator-loop-call).can_next l.call-iterator × (goal.iterator-loop-call).is_finite l.call-iterator ×
    Audited l.fn.shape (past [] (take (length l.yielded) l.calls) (take (length l.yielded) l.answers)) l.watcher l.differing (length l.yielded)
