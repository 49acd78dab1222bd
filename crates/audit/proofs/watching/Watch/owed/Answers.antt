use Rattle.std.proofs.Common.{◌↔◌, Option, sym, subst, arith}
use Rattle.runs.specs.Promises.{Owed}
use Rattle.audit.specs.Owing.{Settles}
use Rattle.audit.specs.declared.owing.Due.{Due}
use Rattle.audit.proofs.Owes.{due_same}
use Rattle.audit.proofs.watching.Watch.owed.Goals as goal

pub returns : goal.returns
returns c places h s e a =
    subst (λ (r : Option Due). Settles r a ↔ Owed c.args.shape.width c.args.shape.checks places h c.args.call a) (sym c.owe.ensures)
    (due_same c.args.shape.width c.args.shape.checks places h c.args.self s (omega arith) c.args.call e a)
