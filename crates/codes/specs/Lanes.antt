-- What each lane of a data word adds to its check bits. Assumes nothing.
use Rattle.std.specs.Prelude.{◌≡◌, ℕ, ◌+◌, ◌*◌, ◌<◌, List, [], ◌∷◌, ◌++◌, length, take, drop, slice_index}
use Rattle.code.specs.Codes.{picked}

-- the columns of cells 8 j to 8 j + 7
abbrev pub lane_columns : List ℕ → ℕ → List ℕ
lane_columns columns j = take 8 (drop (8 * j) columns)

-- a table for m lanes: entry 256 j + b is the xor of the columns of lane j at which the byte b has a 1
pub record Shares (columns : List ℕ) (m : ℕ) (table : List ℕ) : Type 0 where
  pub long : length table ≡ m * 256
  pub share : (j b : ℕ) → j < m → b < 256 → slice_index table (j * 256 + b) ≡ picked (lane_columns columns j) b

-- the columns of these lanes, one lane after the other
abbrev pub ordered : List ℕ → List ℕ → List ℕ
ordered columns [] = []
ordered columns (o ∷ os) = lane_columns columns o ++ ordered columns os
