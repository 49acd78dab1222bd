-- The byte card: words of nine bytes in a lent buffer. Assumes nothing.
use Rattle.std.specs.Prelude.{ℕ, ◌*◌, ◌/◌, ◌%◌, ◌^◌, min, cond, List, length}
use Rattle.std.specs.Borrow.{MutBor}
use Rattle.card.specs.Buffers.{loaded, stored}
use Rattle.card.specs.Cards.{CardModel, holds}
use Rattle.card.specs.Widths.{proper, shown_width}

-- the width that it was made with, the bytes of the buffer, and the loan, which tells that buffer from another
pub record ByteState : Type 0 where
  pub made_with : ℕ
  pub bytes : List ℕ
  pub loan : ℕ

-- a card over the buffer that a reference lends
abbrev pub lent : ℕ → MutBor (List ℕ) → ByteState
lent w r = record { made_with = w; bytes = r.now; loan = r.ghost_name }

abbrev pub byte_card : CardModel
byte_card = record {
  State = ByteState;
  width = λ s. shown_width s.made_with;
  count = λ s. cond (proper s.made_with) (min (length s.bytes / 9) 65536) 0;
  entry = λ s p. holds (loaded s.bytes (9 * p) % 2 ^ shown_width s.made_with);
  after_read = λ s p. s;
  after_write = λ s p v. record { made_with = s.made_with; bytes = stored s.bytes (9 * p) v; loan = s.loan };
}
