-- How words lie in bytes: nine bytes each, lowest first. Assumes nothing.
use Rattle.std.specs.Prelude.{ℕ, ◌+◌, cond, List, [], ◌∷◌, ◌++◌, length, take, drop, nat_le, slice_index}
use Rattle.word.specs.Lanes.{lane, lane_list, lane_sum}

-- the number in the nine bytes from a on
abbrev pub loaded : List ℕ → ℕ → ℕ
loaded bytes a = lane_sum 9 (λ j. slice_index bytes (a + j))

-- the nine bytes of a number below 2 ^ 72
abbrev pub word_bytes : ℕ → List ℕ
word_bytes v = lane_list v ++ (lane 8 v ∷ [])

-- the bytes with a number in the nine from a on, and all others as they were
abbrev pub stored : List ℕ → ℕ → ℕ → List ℕ
stored bytes a v = take a bytes ++ (word_bytes v ++ drop (a + 9) bytes)

-- the same where there are nine, and else no change
abbrev pub put_word : List ℕ → ℕ → ℕ → List ℕ
put_word bytes a v = cond (nat_le (a + 9) (length bytes)) (stored bytes a v) bytes
