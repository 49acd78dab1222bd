use Rattle.std.proofs.Common.{rules, ◌≡◌, ◌+◌, [], ◌∷◌, ◌++◌, length, take, sym, ◌∙◌, subst, refl, arith, length-append}
use Rattle.std.proofs.lemmas.Bool.{both_ways}
use Rattle.std.proofs.lemmas.Slice.Zip.{zip_turn, zip_end}
use Rattle.runs.specs.Histories.{History, past}
use Rattle.runs.specs.Promises.{AllOwed}
use Rattle.audit.specs.Watchers.{OwedAt, WatchedOwed}
use Rattle.audit.specs.declared.shapes.Shape.{Shape}
use Rattle.audit.proofs.Audited.{Audited, past_more}
use Rattle.audit.proofs.auditing.audit.Goals as goal
use Rattle.audit.proofs.auditing.audit.Goals.{then-does_differ, else-does_differ}

pub returns : goal.returns
returns c =
    let l = c.loop-call in
    let s = c.args.shape in
    let calls = c.args.calls.now in
    let answers = c.args.answers.now in
    let all =
    zip_end calls answers l.yielded c.into_iter-call-iterator.result l.call-iterator c.next.new.self c.next.result (search rules) (search rules) l.yielded_by c.in-None.is
    c.next.ensures.steps in
    let made : c.min.result ≡ length l.yielded = c.min.ensures ∙ sym all in
    record {
      made = c.min.ensures;
      fair = λ kept. l.invariant.2.fair (subst (λ m. AllOwed s.width s.checks s.places (past [] (take m calls) (take m answers))) made kept);
      found = λ none. subst (λ m. WatchedOwed s (past [] (take m calls) (take m answers))) (sym made) (l.invariant.2.found none);
    }

pub loop-call-init : goal.loop-call-init
loop-call-init c =
    let s = c.new-watcher.result.shape in
    ((tt, tt), tt, record { shape_is = c.new-watcher.ensures.shape; counted = omega arith; sees = c.new-watcher.ensures.seen s.width s.checks s.places s.fits.1; fair = λ _. refl; found = λ _. tt })

pub overflow_add-differing : goal.overflow_add-differing
overflow_add-differing c =
    let l = c.loop-call in
    let at =
    zip_turn c.args.calls.now c.args.answers.now l.yielded c.into_iter-call-iterator.result l.call-iterator c.next.new.self c.next.result (search rules) (search rules) l.yielded_by
    (c.in-Some.call, c.in-Some.answer) c.in-Some.is c.next.ensures.steps in
    let few = l.invariant.2.counted in
    omega (arith, at.0)

pub loop-call-preserved : goal.loop-call-preserved
loop-call-preserved c =
    let l = c.loop-call in
    let i = l.invariant.2 in
    let calls = c.args.calls.now in
    let answers = c.args.answers.now in
    let k = c.in-Some.call.now in
    let a = c.in-Some.answer.now in
    let h = past [] (take (length l.yielded) calls) (take (length l.yielded) answers) in
    let at =
    zip_turn calls answers l.yielded c.into_iter-call-iterator.result l.call-iterator c.next.new.self c.next.result (search rules) (search rules) l.yielded_by
    (c.in-Some.call, c.in-Some.answer) c.in-Some.is c.next.ensures.steps in
    let made = length (l.yielded ++ ((c.in-Some.call, c.in-Some.answer) ∷ [])) in
    let one : made ≡ length l.yielded + 1 = length-append l.yielded ((c.in-Some.call, c.in-Some.answer) ∷ []) in
    let more = past_more calls answers (length l.yielded) made k a at.0 at.1 (at.2 k) (at.3 a) one in (
      (tt, tt),
      tt,
      subst (λ (g : History). Audited c.args.shape g c.after-watcher.result c.if-does_differ.differing made) (sym more) (record {
        shape_is = c.after-watcher.ensures.shape ∙ i.shape_is;
        counted = let few = i.counted in elim c.if-does_differ.branch [ then-does_differ w ↦ omega (arith, w.differing-is) | else-does_differ w ↦ omega (arith, w.differing-is) ];
        sees = c.after-watcher.ensures.seen h i.sees;
        fair = λ kept.
            elim c.if-does_differ.branch [
              | then-does_differ w ↦
                  absurd (both_ways _ (c.does_differ.ensures.fair h i.sees (subst (λ (s : Shape). OwedAt s h k a) (sym i.shape_is) kept.0)) w.if-does_differ.true)
              | else-does_differ w ↦ w.differing-is ∙ i.fair kept.1
            ];
        found = λ none.
            elim c.if-does_differ.branch [
              | then-does_differ w ↦ absurd (omega (arith, w.differing-is))
              | else-does_differ w ↦ (
                λ p e b. subst (λ (s : Shape). OwedAt s h k a) i.shape_is (c.does_differ.ensures.found h i.sees p e b w.if-does_differ.false),
                i.found (sym w.differing-is ∙ none),
              )
            ];
      }),
    )
