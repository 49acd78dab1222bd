-- Lower-case hexadecimal digits. Assumes nothing.
use Rattle.std.specs.Prelude.{ℕ, zero, suc, ◌+◌, ◌-◌, ◌*◌, ◌/◌, ◌%◌, ◌^◌, cond, List, [], ◌∷◌, Some, None, Option, nat_lt}

-- the character of a number below 16
abbrev pub hex_digit : ℕ → ℕ
hex_digit d = cond (nat_lt d 10) (48 + d) (87 + d)

-- the number of a character, if it is a digit's
abbrev pub digit_value : ℕ → Option ℕ
digit_value b = cond (nat_lt b 48) None (cond (nat_lt b 58) (Some (b - 48)) (cond (nat_lt b 97) None (cond (nat_lt b 103) (Some (b - 87)) None)))

-- the k lowest digits of a number, the highest of them first
abbrev pub hex : ℕ → ℕ → List ℕ
hex zero v = []
hex (suc k) v = hex_digit (v / 2 ^ (4 * k) % 16) ∷ hex k v
