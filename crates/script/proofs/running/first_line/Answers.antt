use Rattle.std.proofs.Common.{◌+◌, sym, ◌∙◌}
use Rattle.std.proofs.lemmas.List.{take_rest}
use Rattle.script.proofs.RunFacts.{line_ended}
use Rattle.script.proofs.running.first_line.Goals as goal

pub returns-in-Some-clause-cut : goal.returns-in-Some-clause-cut
returns-in-Some-clause-cut c = rw (take_rest c.args.text.now (c.in-Some.end + 1)) (line_ended c.args.text.now c.in-Some.end (sym c.line_end.ensures ∙ c.in-Some.is))
