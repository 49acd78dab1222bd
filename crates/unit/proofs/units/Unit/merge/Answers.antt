use Rattle.std.proofs.Common.{◌^◌, ◌<◌, ap, ◌∙◌, subst, arith}
use Rattle.std.proofs.lemmas.Nat.{one_shl}
use Rattle.word.specs.Words.{value}
use Rattle.unit.specs.States.{state_of}
use Rattle.parts.proofs.UnitSteps.{merge_is}
use Rattle.unit.proofs.units.Unit.merge.Goals as goal

pub returns : goal.returns
returns g c =
    let s = state_of g.D.Card.state c.args.self.now in
    let h = subst (λ n. c.args.place < n) c.count.ensures c.in_ok-check_place.ensures in
    let b = subst (λ n. value c.args.word < 2 ^ n) c.data_width.ensures c.in_ok-check_width.ensures in
    let shift = one_shl c.lanes.result 16 (omega (arith, c.lanes.ensures.few)) in
    let f = subst (λ n. c.args.enables < n) (shift ∙ ap (λ n. 2 ^ n) c.lanes.ensures.lanes) c.if-enables-lanes.false in
    let whole = merge_is g.C.Code.code g.D.Card.model g.met.C.Code.lawful g.met.D.Card.laws s c.args.place h c.args.word c.args.enables b f c.if-enables-eq0.false in
    record {
      answer = c.merge_kept.ensures.answer ∙ ap (λ o. o.answer) whole;
      after = c.merge_kept.ensures.after ∙ ap (λ o. o.state) whole;
    }
