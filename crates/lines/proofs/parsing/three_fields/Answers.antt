use Rattle.lines.proofs.FieldFacts.{rest_same}
use Rattle.lines.proofs.parsing.three_fields.Goals as goal

pub returns-in_err-second : goal.returns-in_err-second
returns-in_err-second g c =
    rw c.from_residual-in_err-second.ensures (λ u v w _ bv bw e. c.in_err-second.ensures v w bv bw (rest_same c.in_ok-first.first u _ _ _ c.in_ok-first.ensures e))
