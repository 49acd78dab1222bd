use Rattle.std.proofs.Common.{rules}
use Rattle.audit.proofs.Owes.{none_differs, not_paid}
use Rattle.audit.proofs.watchers.Watcher.does_differ.Goals as goal

pub returns : goal.returns
returns c =
    let settled = none_differs c.owed.result c.args.answer c.is_some_and.result c.is_some_and.ensures (λ d k. search (rules, not_paid)) in
    record {
      fair = λ h s o. settled.1 ((c.owed.ensures.fair h s).asked c.args.answer o);
      found = λ h s p e b f. (c.owed.ensures.fair h s).watched p e b c.args.answer (settled.0 f);
    }
