use Rattle.std.proofs.Common.{refl}
use Rattle.code.proofs.Distances.{codeword_clean, codeword_from_clean, flip_adds}
use Rattle.code.proofs.promises.clean_syndrome.Goals as goal

pub returns : goal.returns
returns g c =
    let laws = g.met.C.Code.lawful in
    record { zero = refl; clean = (codeword_clean _ laws, codeword_from_clean _ laws); adds = flip_adds _ laws }
