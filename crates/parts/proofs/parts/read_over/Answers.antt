use Rattle.std.proofs.Common.{◌<◌, ap, subst, sym, ◌∙◌}
use Rattle.word.proofs.FaultFacts.{granted_below}
use Rattle.parts.specs.Units.{UnitState}
use Rattle.parts.proofs.UnitSteps.{read_sound, read_logged}
use Rattle.parts.proofs.parts.read_over.Goals as goal

pub returns : goal.returns
returns g c =
    let s : UnitState g.D.Card.model.State = record { log = c.args.log.now.state; card = g.D.Card.state c.args.card.now } in
    let h = subst (λ n. c.args.place < n) c.places.ensures c.in_ok-check_place.ensures in
    let below = granted_below c.read.result c.map_err.result _ c.in_ok-raw.raw c.map_err.ensures.cases c.map_err.ensures.variant c.in_ok-raw.was in
    let e = sym below ∙ c.read.ensures.answer in
    let logged = read_logged g.C.Code.code g.D.Card.model g.met.C.Code.lawful g.met.D.Card.laws s c.args.place h c.in_ok-raw.raw e
    c.take.new.log.state (g.D.Card.state c.read.new.self) c.take.ensures.after c.read.ensures.after in
    record {
      answer = read_sound g.C.Code.code g.D.Card.model g.met.C.Code.lawful g.met.D.Card.laws s c.args.place h c.in_ok-raw.raw e c.take.result c.take.ensures.answer;
      noted = ap (λ (t : UnitState g.D.Card.model.State). t.log) logged;
      after = ap (λ (t : UnitState g.D.Card.model.State). t.card) logged;
    }
