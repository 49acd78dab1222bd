use Rattle.std.proofs.Common.{false, refl, arith}
use Rattle.std.proofs.lemmas.List.{get_or-replicate}
use Rattle.audit.proofs.watching.Watch.new.Goals as goal

pub returns-clause-seen : goal.returns-clause-seen
returns-clause-seen c cells lanes b = record { cells_upset = λ x l. get_or-replicate 72 x false false (omega arith); hand = refl; word = refl }
