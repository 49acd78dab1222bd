use Rattle.std.proofs.Common.{◌≡◌, get_or}
use Rattle.layers.specs.Parities.{parity_bits}
use Rattle.layers.proofs.parity.Lanes.bits.Given as goal

abbrev pub invariant-loop-j : goal.invariant-loop-j
invariant-loop-j l = l.bits ≡ parity_bits l.self.sense l.j (λ j. get_or l.lane-items j 0)
