-- What a watcher has to tell of the calls made so far. Assumes nothing.
use Rattle.std.specs.Prelude.{◌≡◌, ℕ, ◌+◌, ◌/◌, ◌<◌, min, false, if◌then◌else◌, List, [], ◌∷◌, Some, None, Option, nat_lt, slice_index_or}
use Rattle.unit.specs.declared.calls.Call.{Call}
use Rattle.unit.specs.Steps.{Answer}
use Rattle.runs.specs.Histories.{Made, History, number_of}
use Rattle.runs.specs.Promises.{Owed, MetInHand, AllInHand, is_clear, meets, upset_met, met_errors}
use Rattle.audit.specs.Shapes.{cells_of}
use Rattle.audit.specs.Watching.{marked, Sees}
use Rattle.audit.specs.Owing.{Settles, named}
use Rattle.audit.specs.declared.shapes.Shape.{Shape}
use Rattle.audit.specs.declared.watching.Watch.{Watch}
use Rattle.audit.specs.declared.watchers.Watcher.{Watcher}
use Rattle.audit.specs.declared.owing.Due.{Due}
use Rattle.audit.specs.declared.owing.Due.TheVariants.{This, LogWord as LOGWORD}

-- no place's watch
abbrev pub nowhere : Watch
nowhere = record { place = 0; upset = []; in_hand = false; laid = record { low = 0; top = 0 } }

-- the watch of p
abbrev pub watch_of : List Watch → ℕ → Watch
watch_of watches p = slice_index_or watches p nowhere

-- a count of the log's errors is told only where every reading since the log was new or cleared met a place in hand,
-- and then it is the number of those that met an upset cell, held at 15
pub record SeesLog (n k places : ℕ) (h : History) (l : Option ℕ) : Type 0 where
  pub all : (e : ℕ) → l ≡ Some e → AllInHand n k places h
  pub counted : (e : ℕ) → l ≡ Some e → e ≡ min 15 (met_errors n k places h)

-- a watcher of a unit of n data cells, k check cells and so many places
pub record SeesAll (n k places : ℕ) (h : History) (w : Watcher) : Type 0 where
  pub place_is : (p : ℕ) → p < 4 → (watch_of w.watches p).place ≡ p
  pub place_seen : (p : ℕ) → p < 4 → Sees (n + k) (n / 8) h (watch_of w.watches p)
  pub log_seen : SeesLog n k places h w.errors_met

-- a watcher of a unit of its own shape
abbrev pub Watches : Watcher → History → Type 0
Watches w h = SeesAll w.shape.width w.shape.checks w.shape.places h w

-- one watch after another, and what it makes of a call
pub record Follows (cells lanes : ℕ) (d : Made) (w v : Watch) : Type 0 where
  pub here : v.place ≡ w.place
  pub seen : (h : History) → Sees cells lanes h w → Sees cells lanes (d ∷ h) v

-- the same of the log after one more call, which is no clear and reads this place or none
pub record SeesReading (n k places : ℕ) (h : History) (met : Option ℕ) (l : Option ℕ) : Type 0 where
  pub all_then : (e : ℕ) → l ≡ Some e → MetInHand n k places h met × AllInHand n k places h
  pub counted_then : (e : ℕ) → l ≡ Some e → e ≡ min 15 (upset_met n k places h met + met_errors n k places h)

-- what is told of the log after a reading that met the place of a watch
abbrev pub log_met : ℕ → Option ℕ → Watch → Option ℕ
log_met cells None w = None
log_met cells (Some e) w = if w.in_hand then Some (if nat_lt 0 (number_of (marked w.upset) cells) then min 15 (e + 1) else e) else None

-- and after one that met p, which may be a place that is not watched
abbrev pub log_read : Watcher → ℕ → Option ℕ
log_read w p = if nat_lt p 4 then log_met (cells_of w.shape) w.errors_met (watch_of w.watches p) else None

-- after a call that reads this place or none
abbrev pub log_reads : Watcher → Option ℕ → Option ℕ
log_reads w None = w.errors_met
log_reads w (Some p) = log_read w p

-- after any call
abbrev pub log_next : Watcher → Call → Option ℕ
log_next w c =
    if is_clear w.shape.width w.shape.checks w.shape.places c then Some 0 else log_reads w (meets w.shape.width w.shape.checks w.shape.places c)

-- what the promise makes of an answer, at a unit of some shape
abbrev pub OwedAt : Shape → History → Call → Answer → Type 0
OwedAt s = Owed s.width s.checks s.places

-- what is due names an answer, or a counter
abbrev pub Definite : Option Due → Type 0
Definite None = ⊥
Definite (Some (This a)) = Unit {0}
Definite (Some (LOGWORD None)) = ⊥
Definite (Some (LOGWORD (Some counter))) = Unit {0}

-- what is said to be due to a call after the calls of h is asked for by the promise; where it names an answer or a counter, or the call names a watched place,
-- it is all that is asked for
pub record Fair (s : Shape) (h : History) (c : Call) (r : Option Due) : Type 0 where
  pub asked : (a : Answer) → OwedAt s h c a → Settles r a
  pub whole : Definite r → (a : Answer) → Settles r a → OwedAt s h c a
  pub watched : (p : ℕ) → named c ≡ Some p → p < 4 → (a : Answer) → Settles r a → OwedAt s h c a

-- each call that names a watched place got what the calls before it make owed
abbrev pub WatchedOwed : Shape → History → Type 0
WatchedOwed s [] = Unit {0}
WatchedOwed s (d ∷ h) = ((p : ℕ) → named d.call ≡ Some p → p < 4 → OwedAt s h d.call d.answer) × WatchedOwed s h
