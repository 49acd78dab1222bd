-- Words for a unit's past, told from the calls that were made on it and their answers alone. Assumes nothing.
use Rattle.std.specs.Prelude.{ℕ, zero, suc, is_ok, ◌+◌, ◌/◌, ◌%◌, ◌^◌, Bool, true, false, cond, ◌&&◌, List, [], ◌∷◌, ◌==◌, nat_lt}
use Rattle.word.specs.Words.{value}
use Rattle.parts.specs.Merges.{joined}
use Rattle.unit.specs.declared.calls.Call.{Call}
use Rattle.unit.specs.declared.calls.Call.TheVariants.{Read, Write, Merge, Scrub, Inject, Log, First, Clear}
use Rattle.unit.specs.Steps.{Answer}

-- a call and its answer
pub record Made : Type 0 where
  pub call : Call
  pub answer : Answer

-- the calls made so far, the newest first
abbrev pub History : Type 0
History = List Made

-- some calls and their answers, in the order in which they were made, onto a history
abbrev pub past : History → List Call → List Answer → History
past h [] answers = h
past h (k ∷ calls) [] = h
past h (k ∷ calls) (a ∷ answers) = past (record { call = k; answer = a } ∷ h) calls answers

-- not refused
abbrev pub granted : Answer → Bool
granted a = is_ok a

-- a call that stores a whole word at p: a write, or a merge that keeps no lane
abbrev pub writes : ℕ → Call → Bool
writes p (Read q) = false
writes p (Write q w) = p == q
writes p (Merge q w e) = p == q && e == 0
writes p (Scrub q) = false
writes p (Inject q x) = false
writes p Log = false
writes p First = false
writes p Clear = false

-- a call that stores fresh check bits at p: a write, a merge or a scrub
abbrev pub stores : ℕ → Call → Bool
stores p (Read q) = false
stores p (Write q w) = p == q
stores p (Merge q w e) = p == q
stores p (Scrub q) = p == q
stores p (Inject q x) = false
stores p Log = false
stores p First = false
stores p Clear = false

-- an inject that hits cell x of p
abbrev pub hits : ℕ → ℕ → Call → Bool
hits p x (Read q) = false
hits p x (Write q w) = false
hits p x (Merge q w e) = false
hits p x (Scrub q) = false
hits p x (Inject q y) = p == q && x == y
hits p x Log = false
hits p x First = false
hits p x Clear = false

-- how many granted injects have hit cell x of p, counted from the latest granted call that stored there
abbrev pub hits_since : History → ℕ → ℕ → ℕ
hits_since [] p x = 0
hits_since (d ∷ h) p x =
    cond (granted d.answer && stores p d.call) 0
    (cond (granted d.answer && hits p x d.call) (suc (hits_since h p x)) (hits_since h p x))

-- a cell is upset while that number is odd
abbrev pub upset : History → ℕ → ℕ → Bool
upset h p x = hits_since h p x % 2 == 1

-- how many of the first w numbers pass a test
abbrev pub number_of : (ℕ → Bool) → ℕ → ℕ
number_of f zero = 0
number_of f (suc w) = number_of f w + cond (f w) 1 0

-- how many cells of p are upset, where a raw word has so many cells
abbrev pub upset_cells : ℕ → History → ℕ → ℕ
upset_cells cells h p = number_of (upset h p) cells

-- from a granted write on, a place is in hand for as long as three of its cells are never upset at once
abbrev pub is_in_hand : ℕ → History → ℕ → Bool
is_in_hand cells [] p = false
is_in_hand cells (d ∷ h) p =
    cond (granted d.answer && writes p d.call) true (is_in_hand cells h p && nat_lt (upset_cells cells (d ∷ h) p) 3)

-- whether cell x of a word is set
abbrev pub is_set : ℕ → ℕ → Bool
is_set v x = v / 2 ^ x % 2 == 1

-- the word of w cells in which just the cells that pass a test are set
abbrev pub of_cells : (ℕ → Bool) → ℕ → ℕ
of_cells f zero = 0
of_cells f (suc w) = of_cells f w + cond (f w) (2 ^ w) 0

-- each cell of a merge is the old word's where the enable of its lane is set, else the new word's
abbrev pub merged_cell : ℕ → ℕ → ℕ → ℕ → Bool
merged_cell e old new x = cond (is_set e (x / 8)) (is_set old x) (is_set new x)

-- the word that a call stores over an old one: a merge keeps the lanes whose enables are set, a scrub all of them
abbrev pub laid_by : ℕ → ℕ → Call → ℕ
laid_by lanes old (Read q) = old
laid_by lanes old (Write q w) = value w
laid_by lanes old (Merge q w e) = joined lanes e old (value w)
laid_by lanes old (Scrub q) = old
laid_by lanes old (Inject q x) = old
laid_by lanes old Log = old
laid_by lanes old First = old
laid_by lanes old Clear = old

-- the last word stored at p, where a word has so many lanes
abbrev pub last_laid : ℕ → History → ℕ → ℕ
last_laid lanes [] p = 0
last_laid lanes (d ∷ h) p =
    cond (granted d.answer && stores p d.call) (laid_by lanes (last_laid lanes h p) d.call) (last_laid lanes h p)
