-- A merge: which lanes are kept and which are taken. Assumes nothing.
use Rattle.std.specs.Prelude.{ℕ, ◌/◌, ◌%◌, ◌^◌, Bool, cond, List, [], ◌∷◌, ◌==◌, slice_index}
use Rattle.word.specs.Lanes.{lane, lane_sum}

-- bit j of a number
abbrev pub bit : ℕ → ℕ → Bool
bit j e = (e / 2 ^ j) % 2 == 1

-- lane j of a merge: a set enable keeps the old one, a clear enable takes the new one
abbrev pub merged_lane : ℕ → ℕ → ℕ → ℕ → ℕ
merged_lane e old new j = cond (bit j e) (lane j old) (lane j new)

-- the m lanes of a merge put together
abbrev pub joined : ℕ → ℕ → ℕ → ℕ → ℕ
joined m e old new = lane_sum m (merged_lane e old new)

-- one byte of the merged lanes
abbrev pub merged_byte : ℕ → List ℕ → List ℕ → ℕ → ℕ
merged_byte e old new j = cond (bit j e) (slice_index old j) (slice_index new j)

-- the eight lanes of a merge as bytes
abbrev pub merged_list : ℕ → List ℕ → List ℕ → List ℕ
merged_list e old new =
    merged_byte e old new 0 ∷ merged_byte e old new 1 ∷ merged_byte e old new 2 ∷ merged_byte e old new 3 ∷
    merged_byte e old new 4 ∷ merged_byte e old new 5 ∷ merged_byte e old new 6 ∷ merged_byte e old new 7 ∷ []
