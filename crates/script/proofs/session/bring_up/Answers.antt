use Rattle.std.proofs.Common.{ap, ◌∙◌, arith}
use Rattle.codes.specs.Tables.{code64}
use Rattle.card.specs.Builtin.{builtin_card}
use Rattle.card.specs.Cards.{write_state}
use Rattle.parts.specs.Units.{unit_card}
use Rattle.script.proofs.FreshFacts.{start_more, started_all}
use Rattle.script.proofs.session.bring_up.Goals as goal

pub loop-place-preserved : goal.loop-place-preserved
loop-place-preserved c =
    c.write.ensures.after ∙ ap (λ s. write_state (unit_card code64 builtin_card) s c.loop-place.place 0) c.loop-place.invariant ∙ start_more c.loop-place.place c.loop-place-test.true

pub returns : goal.returns
returns c = c.loop-place.invariant ∙ started_all c.loop-place.place (omega arith)
