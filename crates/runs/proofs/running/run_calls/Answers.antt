use Rattle.std.proofs.Common.{rules, ◌≡◌, ◌<◌, ◌≤◌, min, [], ◌++◌, length, get_or, take, drop, sym, ap, ◌∙◌, subst, arith}
use Rattle.std.proofs.lemmas.List.{length-take-le, get_or-take}
use Rattle.unit.specs.States.{state_of}
use Rattle.unit.specs.Steps.{step}
use Rattle.unit.specs.declared.calls.Call.TheVariants.{Read}
use Rattle.runs.specs.Histories.{past}
use Rattle.runs.specs.Runs.{new_unit, answers, final, Kept}
use Rattle.runs.proofs.Keeping.{runs_keep}
use Rattle.runs.proofs.RunSteps.{final_more, answers_more, answers_front}
use Rattle.runs.proofs.running.run_calls.Goals as goal

pub loop-index-preserved : goal.loop-index-preserved
loop-index-preserved g c =
    let code = g.C.Code.code in
    let card = g.D.Card.model in
    let l = c.loop-index in
    let made = c.min-made.result in
    let s = state_of g.D.Card.state c.new-unit.result in
    let u = state_of g.D.Card.state l.unit in
    let calls = c.args.calls.now in
    let few : made ≤ length calls = search rules in
    let room : made ≤ length c.args.answers.now = search rules in
    let long : length (take made calls) ≡ made = length-take-le made calls few in
    let soon : l.index < made = omega arith in
    let same : get_or (take made calls) l.index (Read 0) ≡ get_or calls l.index (Read 0) = get_or-take made calls l.index (Read 0) soon in
    let told : c.make.result ≡ (step code card u (get_or calls l.index (Read 0))).answer = search rules in
    let left : state_of g.D.Card.state c.make.new.self ≡ (step code card u (get_or calls l.index (Read 0))).state = search rules in (
      answers_more code card s calls l.index (Read 0) (omega arith) c.args.answers.now l.answers u c.make.result (omega arith) l.invariant.1 l.invariant.0 told,
      final_more code card s calls l.index (Read 0) (omega arith) u (state_of g.D.Card.state c.make.new.self) l.invariant.1 left,
    )

pub returns : goal.returns
returns g c =
    let code = g.C.Code.code in
    let card = g.D.Card.model in
    let l = c.loop-index in
    let made = c.min-made.result in
    let many : made ≡ min (length c.args.calls.now) (length c.args.answers.now) = search rules in
    let few : made ≤ length c.args.calls.now = omega (arith, many) in
    let long = length-take-le made c.args.calls.now few in
    let all : l.index ≡ made = omega arith in
    let t = g.D.Card.state c.args.card in
    let calls = take made c.args.calls.now in
    let told : l.answers ≡ answers code card (new_unit code card t) calls ++ drop made c.args.answers.now =
    l.invariant.0 ∙ ap (λ n. answers code card (state_of g.D.Card.state c.new-unit.result) (take n c.args.calls.now) ++ drop n c.args.answers.now) all ∙
    ap (λ s. answers code card s calls ++ drop made c.args.answers.now) c.new-unit.ensures in
    let after : state_of g.D.Card.state l.unit ≡ final code card (new_unit code card t) calls =
    l.invariant.1 ∙ ap (λ n. final code card (state_of g.D.Card.state c.new-unit.result) (take n c.args.calls.now)) all ∙ ap (λ s. final code card s calls) c.new-unit.ensures in
    let front = answers_front code card (new_unit code card t) c.args.calls.now made c.args.answers.now l.answers few told in
    record {
      made = many;
      told = told;
      after = after;
      kept = subst (λ s. Kept code card (past [] calls (take made l.answers)) s) (sym after)
          (subst (λ a. Kept code card (past [] calls a) (final code card (new_unit code card t) calls)) (sym front) (runs_keep code card g.met.C.Code.lawful g.met.D.Card.laws t calls));
    }
