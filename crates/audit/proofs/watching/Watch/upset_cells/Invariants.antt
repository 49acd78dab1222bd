use Rattle.std.proofs.Common.{◌≡◌, ◌≤◌}
use Rattle.runs.specs.Histories.{number_of}
use Rattle.audit.specs.Watching.{marked}
use Rattle.audit.proofs.watching.Watch.upset_cells.Given as goal

abbrev pub invariant-loop-upset : goal.invariant-loop-upset
invariant-loop-upset l = (l.count ≤ l.upset-index) × (l.count ≡ number_of (marked l.self.upset) l.upset-index)
