use Rattle.std.proofs.Common.{◌<◌, subst, sym, ◌∙◌}
use Rattle.word.proofs.FaultFacts.{granted_below}
use Rattle.unit.specs.States.{state_of}
use Rattle.parts.proofs.UnitSteps.{inject_sound, inject_done}
use Rattle.unit.proofs.units.Unit.inject.Goals as goal

pub returns : goal.returns
returns g c =
    let s = state_of g.D.Card.state c.args.self.now in
    let h = subst (λ n. c.args.place < n) c.count.ensures c.in_ok-check_place.ensures in
    let i = subst (λ n. c.args.cell < n) c.raw_width.ensures c.if-cell-raw_width.false in
    let below = granted_below c.read.result c.map_err.result _ c.in_ok-raw.raw c.map_err.ensures.cases c.map_err.ensures.variant c.in_ok-raw.was in
    let e = sym below ∙ c.read.ensures.answer in
    let sound = inject_sound g.C.Code.code g.D.Card.model g.met.C.Code.lawful g.met.D.Card.laws s c.args.place h c.args.cell i c.in_ok-raw.raw c.flip.result e c.flip.ensures (g.D.Card.state c.read.new.self) c.read.ensures.after in
    let done = inject_done g.C.Code.code g.D.Card.model g.met.C.Code.lawful g.met.D.Card.laws s c.args.place h c.args.cell i c.in_ok-raw.raw c.flip.result e c.flip.ensures (g.D.Card.state c.read.new.self) c.read.ensures.after in
    record {
      answer = sound c.write.result c.write.ensures.answer;
      after = done (g.D.Card.state c.write.new.self) c.write.ensures.after;
    }
