-- The built-in card: 128 words by value. Assumes nothing.
use Rattle.std.specs.Prelude.{ℕ, ◌%◌, ◌^◌, min, cond, List, length, replicate, slice_index_or, slice_set}
use Rattle.word.specs.Words.{value, of_value}
use Rattle.word.specs.declared.words.Word.{Word}
use Rattle.card.specs.Cards.{CardModel, holds}
use Rattle.card.specs.declared.builtin.BuiltinCard.{BuiltinCard}
use Rattle.card.specs.Widths.{proper, shown_width}

-- the width that it was made with, and its words, of which the program holds 128
pub record Builtin : Type 0 where
  pub made_with : ℕ
  pub words : List Word

-- what the program's card stands for
abbrev pub builtin_of : BuiltinCard → Builtin
builtin_of c = record { made_with = c.width; words = c.words }

abbrev pub no_word : Word
no_word = record { low = 0; top = 0 }

-- the card as it is made
abbrev pub blank : ℕ → Builtin
blank w = record { made_with = w; words = replicate 128 no_word }

abbrev pub builtin_card : CardModel
builtin_card = record {
  State = Builtin;
  width = λ s. shown_width s.made_with;
  count = λ s. cond (proper s.made_with) (min 128 (length s.words)) 0;
  entry = λ s p. holds (value (slice_index_or s.words p no_word) % 2 ^ shown_width s.made_with);
  after_read = λ s p. s;
  after_write = λ s p v. record { made_with = s.made_with; words = slice_set s.words p (of_value v) };
}
