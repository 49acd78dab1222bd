use Rattle.std.proofs.Common.{◌≡◌, ◌-◌, ◌<◌, ◌≤◌, None, MatchOption, length, refl, ap, ◌∙◌, rules, arith}
use Rattle.lines.specs.Texts.{answer_text}
use Rattle.lines.specs.Commands.{Parsed}
use Rattle.script.proofs.GoingOn.{goes_on}
use Rattle.script.proofs.WriteFacts.{wrote_as, rest_kept}
use Rattle.script.proofs.RunFacts.{first_asks, run_done, run_stopped, run_again}
use Rattle.script.proofs.running.run.Goals as goal

pub loop-rest-preserved : goal.loop-rest-preserved
loop-rest-preserved g c =
    let l = c.loop-rest in
    let w = c.tell-lines.ensures.wrote in
    let room : 32 ≤ length l.page.out.now - l.page.written = omega (arith, c.room.ensures) in
    let some : 0 < length l.rest.now = search rules in
    let asks : MatchOption c.first_line.result.0 (c.asked.result ≡ None) (λ t. Parsed t.now c.asked.result) = search rules in
    record {
      counted = omega (arith, c.first_line.ensures.shorter, c.tell-lines.ensures.counted);
      same = w.same ∙ l.invariant.same;
      long = w.long ∙ l.invariant.long;
      kept = rest_kept _ w l.invariant.kept;
      so_far = rw c.tell-lines.ensures.counted (run_again g.C.Code.code g.D.Card.model l.invariant.so_far (first_asks l.rest.now c.first_line.result.1.now c.first_line.result.0 c.asked.result c.first_line.ensures.cut asks) room
          c.answer_to-answer.ensures.after (wrote_as (ap answer_text c.answer_to-answer.ensures.answer) w));
    }

pub returns-clause-ran : goal.returns-clause-ran
returns-clause-ran g c =
    let none : length c.loop-rest.rest.now ≡ 0 = search rules in
    run_done g.C.Code.code g.D.Card.model c.loop-rest.invariant.so_far none (search rules) (search rules) (search rules)

pub returns-clause-promise : goal.returns-clause-promise
returns-clause-promise g c =
    let none : length c.loop-rest.rest.now ≡ 0 = search rules in
    goes_on g.C.Code.code g.D.Card.model g.met.C.Code.lawful g.met.D.Card.laws _ _ _ _ _ _ (run_done g.C.Code.code g.D.Card.model c.loop-rest.invariant.so_far none refl refl refl) refl refl

pub returns-then-room-lt-LINE_MOST-clause-ran : goal.returns-then-room-lt-LINE_MOST-clause-ran
returns-then-room-lt-LINE_MOST-clause-ran g c =
    let some : 0 < length c.loop-rest.rest.now = search rules in
    let room : length c.loop-rest.page.out.now - c.loop-rest.page.written < 32 = search rules in
    run_stopped g.C.Code.code g.D.Card.model c.loop-rest.invariant.so_far some room (search rules) (search rules) (search rules)

pub returns-then-room-lt-LINE_MOST-clause-promise : goal.returns-then-room-lt-LINE_MOST-clause-promise
returns-then-room-lt-LINE_MOST-clause-promise g c =
    let some : 0 < length c.loop-rest.rest.now = search rules in
    let room : length c.loop-rest.page.out.now - c.loop-rest.page.written < 32 = search rules in
    goes_on g.C.Code.code g.D.Card.model g.met.C.Code.lawful g.met.D.Card.laws _ _ _ _ _ _ (run_stopped g.C.Code.code g.D.Card.model c.loop-rest.invariant.so_far some room refl refl refl) refl refl
