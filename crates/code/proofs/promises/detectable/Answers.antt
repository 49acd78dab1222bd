use Rattle.std.proofs.Common.{refl}
use Rattle.code.proofs.Decoded.{double_refused, refused_far}
use Rattle.code.proofs.promises.detectable.Goals as goal

pub returns : goal.returns
returns g c =
    let laws = g.met.C.Code.lawful in
    record { count = refl; double = double_refused _ laws; far = refused_far _ laws }
