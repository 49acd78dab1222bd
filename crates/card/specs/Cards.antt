-- A memory by what its four calls show of it: its states, what each shows, and where a read or a write leads. Assumes nothing.
use Rattle.std.specs.Prelude.{◌≡◌, ℕ, ◌^◌, ◌<◌, ◌≤◌, cond, ◌≢◌, Ok, Err, Result, nat_lt}
use Rattle.word.specs.Words.{of_value}
use Rattle.word.specs.Faults.{arisen}
use Rattle.word.specs.declared.words.Word.{Word}
use Rattle.word.specs.declared.faults.Fault.{Fault}
use Rattle.word.specs.declared.refusals.Refusal.TheVariants.{Place as PLACE, Wide as WIDE}

-- what a place holds: a word's number, or the fault with which a read is refused
pub data Entry : Type 0 where
  holds : ℕ → Entry
  faulty : Fault → Entry

pub record CardModel : Type 1 where
  pub State : Type 0
  pub width : State → ℕ
  pub count : State → ℕ
  pub entry : State → ℕ → Entry
  -- the state that follows a read of a place, and the one that follows a granted write
  pub after_read : State → ℕ → State
  pub after_write : State → ℕ → ℕ → State

-- a word of an entry is below 2 ^ w
abbrev pub Within : ℕ → Entry → Type 0
Within w (holds v) = v < 2 ^ w
Within w (faulty f) = Unit {0}

-- A read changes nothing that the four calls show. A write changes the entry of its own place alone.
pub record CardLaws (m : CardModel) : Type 0 where
  pub wide_least : (s : m.State) → 1 ≤ m.width s
  pub wide_most : (s : m.State) → m.width s ≤ 72
  pub few : (s : m.State) → m.count s ≤ 65536
  pub within : (s : m.State) (p : ℕ) → p < m.count s → Within (m.width s) (m.entry s p)
  pub read_width : (s : m.State) (p : ℕ) → p < m.count s → m.width (m.after_read s p) ≡ m.width s
  pub read_count : (s : m.State) (p : ℕ) → p < m.count s → m.count (m.after_read s p) ≡ m.count s
  pub read_entry : (s : m.State) (p q : ℕ) → p < m.count s → q < m.count s → m.entry (m.after_read s p) q ≡ m.entry s q
  pub write_width : (s : m.State) (p v : ℕ) → p < m.count s → v < 2 ^ m.width s → m.width (m.after_write s p v) ≡ m.width s
  pub write_count : (s : m.State) (p v : ℕ) → p < m.count s → v < 2 ^ m.width s → m.count (m.after_write s p v) ≡ m.count s
  pub write_here : (s : m.State) (p v : ℕ) → p < m.count s → v < 2 ^ m.width s → m.entry (m.after_write s p v) p ≡ holds v
  pub write_there : (s : m.State) (p q v : ℕ) → p < m.count s → q < m.count s → q ≢ p → v < 2 ^ m.width s → m.entry (m.after_write s p v) q ≡ m.entry s q

-- what a read answers: refused for a place that the card has not, else the entry
abbrev pub shown : Entry → Result Word Fault
shown (holds v) = Ok (of_value v)
shown (faulty f) = Err f

abbrev pub read_answer : (m : CardModel) → m.State → ℕ → Result Word Fault
read_answer m s p = cond (nat_lt p (m.count s)) (shown (m.entry s p)) (Err (arisen PLACE p))

abbrev pub read_state : (m : CardModel) → m.State → ℕ → m.State
read_state m s p = cond (nat_lt p (m.count s)) (m.after_read s p) s

-- what a write answers: refused for the place, then for the width
abbrev pub write_answer : (m : CardModel) → m.State → ℕ → ℕ → Result (Unit {0}) Fault
write_answer m s p v = cond (nat_lt p (m.count s)) (cond (nat_lt v (2 ^ m.width s)) (Ok tt) (Err (arisen WIDE p))) (Err (arisen PLACE p))

abbrev pub write_state : (m : CardModel) → m.State → ℕ → ℕ → m.State
write_state m s p v = cond (nat_lt p (m.count s)) (cond (nat_lt v (2 ^ m.width s)) (m.after_write s p v) s) s
