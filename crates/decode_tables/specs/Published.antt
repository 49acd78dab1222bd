-- The equations of the first maker's chips. Assumes nothing.
use Rattle.std.specs.Prelude.{ℕ, ◌+◌, ◌*◌, ◌/◌, ◌%◌, ◌^◌, List, [], ◌∷◌, map, bit_and, bit_xor, count_ones}
use Rattle.codes.specs.Cascade.{lower_slice}
use Rattle.decode_tables.specs.declared.equations.Equations.{Equations}

-- the exclusive or of the masked bits
abbrev pub parity_of : ℕ → ℕ → ℕ
parity_of bits mask = count_ones (bit_and bits mask) % 2

-- the number of some binary digits, the lowest first
abbrev pub weighted : List ℕ → ℕ
weighted [] = 0
weighted (b ∷ bs) = b + 2 * weighted bs

-- a digit for each mask
abbrev pub masked : List ℕ → ℕ → ℕ
masked masks d = weighted (map (parity_of d) masks)

-- check bits 2 and 3, which a chip alone and the lower of two invert
abbrev pub inverted : ℕ
inverted = 2 ^ 2 + 2 ^ 3

abbrev pub single_bits : Equations → ℕ → ℕ
single_bits e d = bit_xor (masked (e.ph0 ∷ e.pa ∷ e.pb ∷ e.pc ∷ e.pd ∷ e.pe ∷ e.pf ∷ []) d) inverted

abbrev pub lower_bits : Equations → ℕ → ℕ
lower_bits e d = bit_xor (masked (e.ph1 ∷ e.pa ∷ e.pb ∷ e.pc ∷ e.pd ∷ e.pe ∷ e.pf ∷ e.pf ∷ []) d) inverted

-- the upper slice, which inverts nothing and adds the lower one's
abbrev pub upper_bits : Equations → ℕ → ℕ → ℕ
upper_bits e partial d = bit_xor (masked (e.ph2 ∷ e.pa ∷ e.pb ∷ e.pc ∷ e.pd ∷ e.pe ∷ e.pf ∷ e.pg ∷ []) d) partial

-- the check bits of a 64-bit word, by what the chip is strapped to: the two slices take a half each, and a single chip the low half
abbrev pub single_printed : Equations → ℕ → ℕ
single_printed e w = single_bits e (w % 2 ^ 32)

abbrev pub lower_printed : Equations → ℕ → ℕ
lower_printed e w = lower_bits e (w % 2 ^ 32)

abbrev pub upper_printed : Equations → ℕ → ℕ
upper_printed e w = upper_bits e (lower_bits e (w % 2 ^ 32)) (w / 2 ^ 32)

-- the check bits that the lower slice's code has in their place
abbrev pub lower_generated : ℕ → ℕ
lower_generated w = lower_slice (w % 2 ^ 32)
