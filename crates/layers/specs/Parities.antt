-- The parity layer: a bit for each lane of the data, above it. Assumes nothing.
use Rattle.std.specs.Prelude.{ℕ, zero, suc, ◌+◌, ◌*◌, ◌/◌, ◌%◌, ◌^◌, Bool, true, cond, ◌&&◌, ◌==◌, count_ones}
use Rattle.word.specs.Faults.{arisen, passed}
use Rattle.word.specs.Lanes.{lane}
use Rattle.word.specs.declared.refusals.Refusal.TheVariants.{Parity as PARITY}
use Rattle.card.specs.Cards.{CardModel, Entry, holds, faulty}
use Rattle.layers.specs.declared.parity.Sense.{Sense}
use Rattle.layers.specs.declared.parity.Sense.TheVariants.{Even, Odd}

-- what the ones of a lane and its parity bit come to, modulo 2
abbrev pub sense_number : Sense → ℕ
sense_number Even = 0
sense_number Odd = 1

-- a lane and its parity bit have together an even or an odd number of ones
abbrev pub lane_right : Sense → ℕ → ℕ → Bool
lane_right s x bit = (count_ones x + bit) % 2 == sense_number s

-- the parity bit with which a lane is right
abbrev pub parity_bit : Sense → ℕ → ℕ
parity_bit s x = cond (lane_right s x 0) 0 1

-- the number whose bit j is f j, for each j below m
abbrev pub bit_sum : ℕ → (ℕ → ℕ) → ℕ
bit_sum zero f = 0
bit_sum (suc m) f = bit_sum m f + 2 ^ m * f m

-- the parity bits of m lanes
abbrev pub parity_bits : Sense → ℕ → (ℕ → ℕ) → ℕ
parity_bits s m lanes = bit_sum m (λ j. parity_bit s (lanes j))

-- each of m lanes is right, bit j of p being lane j's
abbrev pub lanes_right : Sense → ℕ → (ℕ → ℕ) → ℕ → Bool
lanes_right s zero lanes p = true
lanes_right s (suc m) lanes p = lanes_right s m lanes p && lane_right s (lanes m) (p / 2 ^ m % 2)

-- the raw word of m lanes of data
abbrev pub with_parity : Sense → ℕ → ℕ → ℕ
with_parity s m d = d + 2 ^ (8 * m) * parity_bits s m (λ j. lane j d)

-- what the layer shows of a place, from the entry below
abbrev pub checked : Sense → ℕ → ℕ → Entry → Entry
checked s m p (holds raw) =
    cond (lanes_right s m (λ j. lane j (raw % 2 ^ (8 * m))) (raw / 2 ^ (8 * m))) (holds (raw % 2 ^ (8 * m))) (faulty (arisen PARITY p))
checked s m p (faulty f) = faulty (passed f)

-- a width of nine cells for each lane, and how many lanes that makes
abbrev pub by_nines : ℕ → Bool
by_nines w = w % 9 == 0

abbrev pub lanes_in : ℕ → ℕ
lanes_in w = w / 9

-- the sense, and the state of the card below
pub record Sensed (S : Type 0) : Type 0 where
  pub sense : Sense
  pub card : S

-- over a width that is not made of nines it shows 64, and no places
abbrev pub parity_card : CardModel → CardModel
parity_card b = record {
  State = Sensed b.State;
  width = λ s. cond (by_nines (b.width s.card)) (8 * lanes_in (b.width s.card)) 64;
  count = λ s. cond (by_nines (b.width s.card)) (b.count s.card) 0;
  entry = λ s p. checked s.sense (lanes_in (b.width s.card)) p (b.entry s.card p);
  after_read = λ s p. record { sense = s.sense; card = b.after_read s.card p };
  after_write = λ s p v. record {
    sense = s.sense;
    card = b.after_write s.card p (with_parity s.sense (lanes_in (b.width s.card)) v);
  };
}
