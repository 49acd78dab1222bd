-- The width that a card is made with, and the one that it shows. Assumes nothing.
use Rattle.std.specs.Prelude.{ℕ, Bool, cond, ◌&&◌, nat_le}

-- a width that a card can have
abbrev pub proper : ℕ → Bool
proper w = nat_le 1 w && nat_le w 72

-- a card that was made with another width shows 72, and no places
abbrev pub shown_width : ℕ → ℕ
shown_width w = cond (proper w) w 72
