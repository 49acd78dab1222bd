use Rattle.std.proofs.Common.{length}
use Rattle.decode_tables.proofs.equations.+check_bits.Given as goal

abbrev pub decreases-check_bits : goal.decreases-check_bits
decreases-check_bits l = length l.masks.now
