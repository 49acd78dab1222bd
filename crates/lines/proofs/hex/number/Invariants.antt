use Rattle.std.proofs.Common.{◌≡◌, ◌*◌, ◌^◌, ◌<◌, take}
use Rattle.lines.specs.Hex.{hex}
use Rattle.lines.proofs.hex.number.Given as goal

abbrev pub invariant-loop-byte : goal.invariant-loop-byte
invariant-loop-byte g l = (l.value < 2 ^ (4 * l.byte-index)) × (take l.byte-index l.text ≡ hex l.byte-index l.value)
