-- A card of eight cells whose places are faulty until they are written. Assumes nothing.
use Rattle.std.specs.Prelude.{ℕ, ◌%◌, min, List, length, Some, None, Option, slice_index_or, slice_set}
use Rattle.word.specs.Faults.{arisen}
use Rattle.word.specs.declared.refusals.Refusal.TheVariants.{Many}
use Rattle.card.specs.Cards.{CardModel, Entry, holds, faulty}

-- what a place shows: its byte, or a fault
abbrev pub shows : ℕ → Option ℕ → Entry
shows p (Some v) = holds (v % 256)
shows p None = faulty (arisen Many p)

abbrev pub worn_card : CardModel
worn_card = record {
  State = List (Option ℕ);
  width = λ s. 8;
  count = λ s. min 65536 (length s);
  entry = λ s p. shows p (slice_index_or s p None);
  after_read = λ s p. s;
  after_write = λ s p v. slice_set s p (Some v);
}
