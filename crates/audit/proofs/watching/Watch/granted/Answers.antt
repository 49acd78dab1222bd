use Rattle.std.proofs.Common.{false, sym, refl, ap, ◌∙◌}
use Rattle.std.proofs.lemmas.List.{get_or-replicate}
use Rattle.std.proofs.lemmas.Bool.{cond-true}
use Rattle.word.specs.Words.{value}
use Rattle.runs.specs.Histories.{laid_by}
use Rattle.audit.proofs.watching.Watch.granted.Goals as goal

pub returns-then-does_store : goal.returns-then-does_store
returns-then-does_store c =
    let loud = sym c.does_store.ensures ∙ c.if-does_store.true in
    record {
      same_place = refl;
      same_hand = refl;
      marks = λ x b. get_or-replicate 72 x false false b ∙ sym (cond-true _ _ _ loud);
      word = c.lay_over.ensures ∙ ap (λ m. laid_by m (value c.args.self.laid) c.args.call) c.lanes.ensures.all ∙ sym (cond-true _ _ _ loud);
    }
