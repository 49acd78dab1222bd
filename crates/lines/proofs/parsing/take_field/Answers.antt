use Rattle.std.proofs.Common.{◌++◌, length, take, ap, ◌∙◌, arith, length-append}
use Rattle.std.proofs.lemmas.List.{take_at}
use Rattle.lines.specs.Hex.{hex}
use Rattle.lines.proofs.HexFacts.{length_hex}
use Rattle.lines.proofs.FieldFacts.{rest_is}
use Rattle.lines.proofs.parsing.take_field.Goals as goal

pub returns-in_err-text : goal.returns-in_err-text
returns-in_err-text g c =
    rw c.from_residual.ensures
    (λ v t _ e. let rest = rest_is c.args.text.now (hex g.row.DIGITS v ++ t) 32 e in omega (arith, ap length rest, length-append (hex g.row.DIGITS v) t, length_hex g.row.DIGITS v, c.in_err-text.ensures.cases))

pub returns-in_err-number : goal.returns-in_err-number
returns-in_err-number g c =
    rw c.from_residual-in_err-number.ensures
    (λ v t b e. c.in_err-number.ensures v b
    (c.in_ok-text.ensures.cases.0 ∙ ap (take g.row.DIGITS) (rest_is c.args.text.now (hex g.row.DIGITS v ++ t) 32 e) ∙ take_at (hex g.row.DIGITS v) t g.row.DIGITS (length_hex g.row.DIGITS v)))
