-- The pair: two cards side by side, whose words are cut in two. Assumes nothing.
use Rattle.std.specs.Prelude.{ℕ, ◌+◌, ◌*◌, ◌/◌, ◌%◌, ◌^◌, min, cond, nat_le}
use Rattle.word.specs.Faults.{sided}
use Rattle.word.specs.declared.faults.Side.TheVariants.{Low, High}
use Rattle.card.specs.Cards.{CardModel, Entry, holds, faulty}

-- the states of the low card and of the high one
pub record Both (L H : Type 0) : Type 0 where
  pub low : L
  pub high : H

-- the entry of a pair whose low card has width a: a low fault comes first, then a high one
abbrev pub joined : ℕ → Entry → Entry → Entry
joined a (holds l) (holds h) = holds (l + 2 ^ a * h)
joined a (holds l) (faulty f) = faulty (sided High f)
joined a (faulty f) high = faulty (sided Low f)

-- the high card's state after a read of the pair: a low fault keeps it from being read
abbrev pub unless_faulty : {S : Type 0} → Entry → S → S → S
unless_faulty (holds l) read untouched = read
unless_faulty (faulty f) read untouched = untouched

module _ (l h : CardModel) where
  abbrev widths : Both l.State h.State → ℕ
  widths s = l.width s.low + h.width s.high

  -- a pair that is wider than any word shows 72, and no places
  abbrev pub pair_card : CardModel
  pair_card = record {
    State = Both l.State h.State;
    width = λ s. min (widths s) 72;
    count = λ s. cond (nat_le (widths s) 72) (min (l.count s.low) (h.count s.high)) 0;
    entry = λ s p. joined (l.width s.low) (l.entry s.low p) (h.entry s.high p);
    after_read = λ s p. record {
      low = l.after_read s.low p;
      high = unless_faulty (l.entry s.low p) (h.after_read s.high p) s.high;
    };
    after_write = λ s p v. record {
      low = l.after_write s.low p (v % 2 ^ l.width s.low);
      high = h.after_write s.high p (v / 2 ^ l.width s.low);
    };
  }
