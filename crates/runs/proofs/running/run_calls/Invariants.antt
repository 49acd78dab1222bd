use Rattle.std.proofs.Common.{◌≡◌, ◌++◌, take, drop}
use Rattle.unit.specs.States.{state_of}
use Rattle.runs.specs.Runs.{answers, final}
use Rattle.runs.proofs.running.run_calls.Given as goal

abbrev pub invariant-loop-index : goal.invariant-loop-index
invariant-loop-index g l =
    (l.answers ≡ answers g.C.Code.code g.D.Card.model (state_of g.D.Card.state l.initial.unit) (take l.index l.calls) ++ drop l.index l.initial.answers) ×
    (state_of g.D.Card.state l.unit ≡ final g.C.Code.code g.D.Card.model (state_of g.D.Card.state l.initial.unit) (take l.index l.calls))
