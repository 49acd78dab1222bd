use Rattle.std.proofs.Common.{sym, ◌∙◌, arith}
use Rattle.code.proofs.Distances.{located_data}
use Rattle.code.proofs.codes.Code.correct.Goals as goal

pub put_right-requires : goal.put_right-requires
put_right-requires g c i e =
    let laws = g.met.Self.Code.lawful in
    let low = located_data _ laws _ i (sym c.locate.ensures ∙ e) in
    omega (arith, laws.n_most)
