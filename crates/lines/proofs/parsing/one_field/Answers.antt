use Rattle.std.proofs.Common.{[], sym, ◌∙◌}
use Rattle.std.proofs.lemmas.List.{append-nil}
use Rattle.lines.specs.Texts.{field}
use Rattle.lines.proofs.FieldFacts.{only_field}
use Rattle.lines.proofs.parsing.one_field.Goals as goal

pub returns-in_err-field : goal.returns-in_err-field
returns-in_err-field g c = rw c.from_residual.ensures (λ v b e. c.in_err-field.ensures v [] b (e ∙ sym (append-nil (field g.row.DIGITS v))))

pub returns : goal.returns
returns g c = rw c.then_some.ensures (only_field c.in_ok-field.field c.args.text.now c.in_ok-field.rest.now c.is_empty.result c.is_empty.ensures c.in_ok-field.ensures)
