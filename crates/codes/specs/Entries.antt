-- A rule of a table, shown at each of its entries by one test that computes. Assumes nothing.
use Rattle.std.specs.Prelude.{◌≡◌, ℕ, zero, suc, ◌+◌, ◌<◌, Bool, true, ◌&&◌, List, [], ◌∷◌, length, slice_index}
use Rattle.std.proofs.Common.{add-zero, zero-add, add-suc, suc-add, le_of_suc-le-suc, not-suc-le-zero}
use Rattle.std.proofs.lemmas.Bool.{and_parts}

-- the test f passes at each entry of the list, with its place counted from i
abbrev pub every : (ℕ → ℕ → Bool) → ℕ → List ℕ → Bool
every f i [] = true
every f i (x ∷ xs) = f i x && every f (suc i) xs

from : (f : ℕ → ℕ → Bool) (xs : List ℕ) (i : ℕ) → every f i xs ≡ true → (k : ℕ) → k < length xs →
    f (i + k) (slice_index xs k) ≡ true
from f [] i t k h = absurd (not-suc-le-zero h)
from f (x ∷ xs) i t zero h = rw add-zero (and_parts (f i x) (every f (suc i) xs) t).0
from f (x ∷ xs) i t (suc k) h =
    rw (add-suc, ← suc-add) (from f xs (suc i) (and_parts (f i x) (every f (suc i) xs) t).1 k (le_of_suc-le-suc h))

pub entry : (f : ℕ → ℕ → Bool) (xs : List ℕ) → every f 0 xs ≡ true → (k : ℕ) → k < length xs → f k (slice_index xs k) ≡ true
entry f xs t k h = rw zero-add at (from f xs 0 t k h)
