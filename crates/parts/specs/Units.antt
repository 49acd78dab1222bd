-- A unit: the card that it shows, made from its code and the card below. Assumes nothing.
use Rattle.std.specs.Prelude.{ℕ, ◌+◌, ◌-◌, ◌/◌, ◌%◌, ◌^◌, cond, is_err, Some, None, Ok, Err, Option, Result, ◌==◌, bit_xor, nat_lt}
use Rattle.word.specs.Words.{of_value}
use Rattle.word.specs.declared.words.Word.{Word}
use Rattle.word.specs.Faults.{arisen, passed}
use Rattle.word.specs.declared.faults.Fault.{Fault}
use Rattle.word.specs.declared.refusals.Refusal.{Refusal}
use Rattle.word.specs.declared.refusals.Refusal.TheVariants.{Place as PLACE, Wide as WIDE, Enable as ENABLE, Cell as CELL}
use Rattle.code.specs.Codes.{CodeModel, codeword, syndrome}
use Rattle.code.specs.Decoding.{decoded}
use Rattle.card.specs.Cards.{CardModel, Entry, holds, faulty}
use Rattle.error_log.specs.Logs.{LogState, noted}
use Rattle.parts.specs.Merges.{joined}
use Rattle.error_log.specs.declared.records.RawWord.{RawWord}

-- a raw word cut at the data width
abbrev pub cut : CodeModel → ℕ → RawWord
cut c raw = record { «data» = raw % 2 ^ c.n; check = raw / 2 ^ c.n }

-- what was decoded, shown at p
abbrev pub told : ℕ → Result ℕ Refusal → Entry
told p (Ok d) = holds d
told p (Err r) = faulty (arisen r p)

-- what a unit shows at p where the card below shows this
abbrev pub unit_entry : CodeModel → ℕ → Entry → Entry
unit_entry c p (holds raw) = told p (decoded c raw)
unit_entry c p (faulty f) = faulty (passed f)

-- the log after a reading of p found this below: a raw word is recorded, a fault is not
abbrev pub logged : CodeModel → ℕ → Entry → LogState → LogState
logged c p (holds raw) l = noted p (cut c raw) (syndrome c raw) (is_err (decoded c raw)) l
logged c p (faulty f) l = l

pub record UnitState (S : Type 0) : Type 0 where
  pub log : LogState
  pub card : S

-- the unit as a card of the data width; it has places only over a card as wide as its raw words
abbrev pub unit_card : CodeModel → CardModel → CardModel
unit_card c m = record {
  State = UnitState m.State;
  width = λ s. c.n;
  count = λ s. cond (m.width s.card == c.n + c.k) (m.count s.card) 0;
  entry = λ s p. unit_entry c p (m.entry s.card p);
  after_read = λ s p. record { log = logged c p (m.entry s.card p) s.log; card = m.after_read s.card p };
  after_write = λ s p v. record { log = s.log; card = m.after_write s.card p (codeword c v) };
}

-- what a call answers, and the unit after it
pub record Outcome (S A : Type 0) : Type 0 where
  pub state : UnitState S
  pub answer : A

module _ (c : CodeModel) (m : CardModel) where
  -- refused, and nothing is altered
  abbrev pub refused : {A : Type 0} → Refusal → ℕ → UnitState m.State → Outcome m.State (Result A Fault)
  refused r p s = record { state = s; answer = Err (arisen r p) }

  -- a raw word below has one cell complemented, unlogged; a fault is passed up
  abbrev pub injecting : UnitState m.State → ℕ → ℕ → Entry → Outcome m.State (Result (Unit {0}) Fault)
  injecting s p x (holds raw) = record {
    state = record { log = s.log; card = m.after_write (m.after_read s.card p) p (bit_xor raw (2 ^ x)) };
    answer = Ok tt;
  }
  injecting s p x (faulty f) = record {
    state = record { log = s.log; card = m.after_read s.card p };
    answer = Err (passed f);
  }

  abbrev pub injected : UnitState m.State → ℕ → ℕ → Outcome m.State (Result (Unit {0}) Fault)
  injected s p x =
      cond (nat_lt p ((unit_card c m).count s))
      (cond (nat_lt x (c.n + c.k)) (injecting s p x (m.entry s.card p)) (refused CELL p s))
      (refused PLACE p s)

  -- with a lane kept, the joined word is stored over the one read, which is given; a refused reading stores nothing
  abbrev pub merging : UnitState m.State → ℕ → ℕ → ℕ → Entry → Outcome m.State (Result (Option Word) Fault)
  merging s p v e (holds old) = record {
    state = (unit_card c m).after_write ((unit_card c m).after_read s p) p (joined (c.n / 8) e old v);
    answer = Ok (Some (of_value old));
  }
  merging s p v e (faulty f) = record { state = (unit_card c m).after_read s p; answer = Err f }

  abbrev pub kept : UnitState m.State → ℕ → ℕ → ℕ → Outcome m.State (Result (Option Word) Fault)
  kept s p v e = merging s p v e ((unit_card c m).entry s p)

  -- with no lane kept it is a write, and gives no word
  abbrev pub writing : UnitState m.State → ℕ → ℕ → Outcome m.State (Result (Option Word) Fault)
  writing s p v = record { state = (unit_card c m).after_write s p v; answer = Ok None }

  abbrev pub merged : UnitState m.State → ℕ → ℕ → ℕ → Outcome m.State (Result (Option Word) Fault)
  merged s p v e =
      cond (nat_lt p ((unit_card c m).count s))
      (cond (nat_lt v (2 ^ c.n))
      (cond (nat_lt e (2 ^ (c.n / 8))) (cond (e == 0) (writing s p v) (kept s p v e)) (refused ENABLE p s))
      (refused WIDE p s))
      (refused PLACE p s)

  -- the enables that keep every lane
  abbrev pub all_lanes : ℕ
  all_lanes = 2 ^ (c.n / 8) - 1

  -- a merge that keeps every lane
  abbrev pub scrubbed : UnitState m.State → ℕ → Outcome m.State (Result (Option Word) Fault)
  scrubbed s p = merged s p 0 all_lanes
