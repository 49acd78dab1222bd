use Rattle.std.proofs.Common.{◌≡◌, ◌+◌, ◌≤◌, length, drop}
use Rattle.unit.specs.States.{state_of}
use Rattle.script.specs.Scripts.{lines}
use Rattle.script.proofs.RunFacts.{SoFar}
use Rattle.script.proofs.running.run.Given as goal

abbrev pub invariant-loop-rest : goal.invariant-loop-rest
invariant-loop-rest g l = record {
  counted : l.lines + length l.rest ≤ length l.script;
  same : l.page.out.ghost_name ≡ l.initial.page.out.ghost_name;
  long : length l.page.out.now ≡ length l.initial.page.out.now;
  kept : drop l.page.written l.page.out.now ≡ drop l.page.written l.initial.page.out.now;
  so_far : SoFar g.C.Code.code g.D.Card.model (state_of g.D.Card.state l.initial.unit) (length l.initial.page.out.now) (lines l.script) (state_of g.D.Card.state l.unit) l.page l.rest l.lines;
}

abbrev pub decreases-loop-rest : goal.decreases-loop-rest
decreases-loop-rest g l = length l.rest
