-- The byte lanes of a number. Assumes nothing.
use Rattle.std.specs.Prelude.{ℕ, zero, suc, ◌+◌, ◌*◌, ◌/◌, ◌%◌, ◌^◌, List, [], ◌∷◌, slice_index}

-- lane j: cells 8j to 8j + 7
abbrev pub lane : ℕ → ℕ → ℕ
lane j v = (v / 2 ^ (8 * j)) % 256

-- the eight lanes of a number below 2 ^ 64, lane 0 first
abbrev pub lane_list : ℕ → List ℕ
lane_list v = lane 0 v ∷ lane 1 v ∷ lane 2 v ∷ lane 3 v ∷ lane 4 v ∷ lane 5 v ∷ lane 6 v ∷ lane 7 v ∷ []

-- the number whose lane j is f j, for each j below m
abbrev pub lane_sum : ℕ → (ℕ → ℕ) → ℕ
lane_sum zero f = 0
lane_sum (suc m) f = lane_sum m f + 2 ^ (8 * m) * f m

-- the number whose eight lanes these bytes are
abbrev pub from_lanes : List ℕ → ℕ
from_lanes bytes = lane_sum 8 (λ j. slice_index bytes j)
