use Rattle.std.proofs.Common.{◌≡◌}
use Rattle.card.specs.Builtin.{builtin_of}
use Rattle.unit.specs.States.{state_of}
use Rattle.script.proofs.FreshFacts.{started}
use Rattle.script.proofs.session.bring_up.Given as goal

abbrev pub invariant-loop-place : goal.invariant-loop-place
invariant-loop-place l = state_of builtin_of l.unit ≡ started l.place
