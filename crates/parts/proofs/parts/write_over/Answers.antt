use Rattle.std.proofs.Common.{◌^◌, ◌<◌, ap, subst}
use Rattle.word.specs.Words.{value}
use Rattle.error_log.specs.Logs.{new_log}
use Rattle.parts.specs.Units.{UnitState}
use Rattle.parts.proofs.UnitSteps.{write_sound, write_done}
use Rattle.parts.proofs.parts.write_over.Goals as goal

pub returns : goal.returns
returns g c =
    let s : UnitState g.D.Card.model.State = record { log = new_log; card = g.D.Card.state c.args.card.now } in
    let h = subst (λ n. c.args.place < n) c.places.ensures c.in_ok-check_place.ensures in
    let b = subst (λ n. value c.args.word < 2 ^ n) c.data_width.ensures c.in_ok-check_width.ensures in
    record {
      answer = write_sound g.C.Code.code g.D.Card.model g.met.C.Code.lawful g.met.D.Card.laws s c.args.place h c.args.word c.lay.result b c.lay.ensures c.write.result c.write.ensures.answer;
      after = ap (λ (t : UnitState g.D.Card.model.State). t.card) (write_done g.C.Code.code g.D.Card.model g.met.C.Code.lawful g.met.D.Card.laws s c.args.place h c.args.word c.lay.result b c.lay.ensures (g.D.Card.state c.write.new.self) c.write.ensures.after);
    }
