-- The cells and the lanes of a unit of some shape. Assumes nothing.
use Rattle.std.specs.Prelude.{ℕ, ◌+◌, ◌/◌}
use Rattle.audit.specs.declared.shapes.Shape.{Shape}

-- how many cells a raw word has
abbrev pub cells_of : Shape → ℕ
cells_of s = s.width + s.checks

-- how many lanes a word has
abbrev pub lanes_of : Shape → ℕ
lanes_of s = s.width / 8
