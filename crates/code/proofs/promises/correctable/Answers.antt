use Rattle.std.proofs.Common.{refl}
use Rattle.code.proofs.Decoded.{single_corrected, decodes_near, near_one}
use Rattle.code.proofs.promises.correctable.Goals as goal

pub returns : goal.returns
returns g c =
    let laws = g.met.C.Code.lawful in
    record { count = refl; single = single_corrected _ laws; near = decodes_near _ laws; one = near_one _ laws }
