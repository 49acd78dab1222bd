-- What a watch of a place has to tell of the calls made so far. Assumes nothing.
use Rattle.std.specs.Prelude.{◌≡◌, ℕ, ◌<◌, Bool, false, if◌then◌else◌, not, List, slice_index_or}
use Rattle.word.specs.Words.{value}
use Rattle.unit.specs.declared.calls.Call.{Call}
use Rattle.runs.specs.Histories.{History, stores, hits, upset, is_in_hand, laid_by, last_laid}
use Rattle.audit.specs.declared.watching.Watch.{Watch}

-- whether a watch marks cell x
abbrev pub marked : List Bool → ℕ → Bool
marked marks x = slice_index_or marks x false

-- a watch tells of its place, after the calls of h, what the promise calls upset, in hand and the last word stored
pub record Sees (cells lanes : ℕ) (h : History) (w : Watch) : Type 0 where
  pub cells_upset : (x : ℕ) → x < cells → marked w.upset x ≡ upset h w.place x
  pub hand : w.in_hand ≡ is_in_hand cells h w.place
  pub word : value w.laid ≡ last_laid lanes h w.place

-- what one more granted call makes of a watch, but for its being in hand
pub record Told (cells lanes : ℕ) (k : Call) (w v : Watch) : Type 0 where
  pub same_place : v.place ≡ w.place
  pub same_hand : v.in_hand ≡ w.in_hand
  pub marks : (x : ℕ) → x < cells → marked v.upset x ≡ (if stores w.place k then false else if hits w.place x k then not (marked w.upset x) else marked w.upset x)
  pub word : value v.laid ≡ (if stores w.place k then laid_by lanes (value w.laid) k else value w.laid)
