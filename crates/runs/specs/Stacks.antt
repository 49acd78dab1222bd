-- Every stack of units, pairs and parity layers over two given cards. Assumes nothing.
use Rattle.std.specs.Prelude.{◌≡◌, ℕ, ◌+◌, ◌*◌, min, cond, ◌==◌, nat_le}
use Rattle.code.specs.Codes.{CodeModel, CodeLaws}
use Rattle.card.specs.Cards.{CardModel, CardLaws}
use Rattle.layers.specs.Pairs.{pair_card, joined}
use Rattle.layers.specs.Parities.{parity_card, checked, by_nines, lanes_in}
use Rattle.parts.specs.Units.{unit_card, unit_entry}

-- a stack, by its layers; its lowest cards are the two given ones, as often as is wanted
pub data Stack : Type 0 where
  one : Stack
  other : Stack
  unit : (c : CodeModel) → CodeLaws c → Stack → Stack
  pair : Stack → Stack → Stack
  parity : Stack → Stack

-- the card that a stack shows
abbrev pub stacked : CardModel → CardModel → Stack → CardModel
stacked a b one = a
stacked a b other = b
stacked a b (unit c laws x) = unit_card c (stacked a b x)
stacked a b (pair x y) = pair_card (stacked a b x) (stacked a b y)
stacked a b (parity x) = parity_card (stacked a b x)

-- width, count and entries of a layer, worked out from the cards below it as they stand
abbrev pub WorkedOut : (a b : CardModel) (x : Stack) → (stacked a b x).State → Type 0
WorkedOut a b one s = Unit {0}
WorkedOut a b other s = Unit {0}
WorkedOut a b (unit c laws x) s =
    ((stacked a b (unit c laws x)).width s ≡ c.n) ×
    ((stacked a b (unit c laws x)).count s ≡ cond ((stacked a b x).width s.card == c.n + c.k) ((stacked a b x).count s.card) 0) ×
    ((p : ℕ) → (stacked a b (unit c laws x)).entry s p ≡ unit_entry c p ((stacked a b x).entry s.card p)) ×
    WorkedOut a b x s.card
WorkedOut a b (pair x y) s =
    ((stacked a b (pair x y)).width s ≡ min ((stacked a b x).width s.low + (stacked a b y).width s.high) 72) ×
    ((stacked a b (pair x y)).count s ≡
    cond (nat_le ((stacked a b x).width s.low + (stacked a b y).width s.high) 72) (min ((stacked a b x).count s.low) ((stacked a b y).count s.high)) 0) ×
    ((p : ℕ) → (stacked a b (pair x y)).entry s p ≡ joined ((stacked a b x).width s.low) ((stacked a b x).entry s.low p) ((stacked a b y).entry s.high p)) ×
    WorkedOut a b x s.low × WorkedOut a b y s.high
WorkedOut a b (parity x) s =
    ((stacked a b (parity x)).width s ≡ cond (by_nines ((stacked a b x).width s.card)) (8 * lanes_in ((stacked a b x).width s.card)) 64) ×
    ((stacked a b (parity x)).count s ≡ cond (by_nines ((stacked a b x).width s.card)) ((stacked a b x).count s.card) 0) ×
    ((p : ℕ) → (stacked a b (parity x)).entry s p ≡ checked s.sense (lanes_in ((stacked a b x).width s.card)) p ((stacked a b x).entry s.card p)) ×
    WorkedOut a b x s.card

-- every stack over the two cards is a card, and shows what is worked out from below, in every state
pub record StacksStand (a b : CardModel) : Type 0 where
  pub lawful : (x : Stack) → CardLaws (stacked a b x)
  pub worked : (x : Stack) (s : (stacked a b x).State) → WorkedOut a b x s
