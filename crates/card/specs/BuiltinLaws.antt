-- The built-in card keeps the laws of a card. Assumes nothing.
use Rattle.std.specs.Prelude.{◌≡◌, ℕ, ◌%◌, ◌^◌, ◌<◌, ◌≤◌, min, cond, length, refl}
use Rattle.std.proofs.Common.{ap, ◌∙◌, mod-eq_of_lt, arith, pow_pos, length-set, get_or-set_same, get_or-set_other}
use Rattle.std.proofs.lemmas.Nat.{mod_below}
use Rattle.std.proofs.lemmas.Bool.{cond_both}
use Rattle.word.specs.Words.{value, of_value}
use Rattle.word.proofs.Values.{value_of_value}
use Rattle.card.specs.Cards.{CardLaws, holds}
use Rattle.card.specs.Widths.{proper, shown_width}
use Rattle.card.specs.Builtin.{Builtin, builtin_card, no_word}
use Rattle.card.specs.WidthFacts.{shown_within, place_from}

few : (s : Builtin) → builtin_card.count s ≤ 65536
few s = cond_both (proper s.made_with) (min 128 (length s.words)) 0 (λ n. n ≤ 65536) (λ _. omega arith) (λ _. omega arith)

write_here : (s : Builtin) (p v : ℕ) → p < builtin_card.count s → v < 2 ^ shown_width s.made_with →
    builtin_card.entry (builtin_card.after_write s p v) p ≡ holds v
write_here s p v h below =
    let inside : p < length s.words = let q = (place_from (proper s.made_with) _ p h).1 in omega arith in
    let stored = get_or-set_same s.words p (of_value v) no_word inside in
    ap (λ w. holds (value w % 2 ^ shown_width s.made_with)) stored ∙
    ap (λ x. holds (x % 2 ^ shown_width s.made_with)) (value_of_value v) ∙ ap holds (mod-eq_of_lt below)

pub builtin_laws : CardLaws builtin_card
builtin_laws = record {
  wide_least = λ s. (shown_within s.made_with).0;
  wide_most = λ s. (shown_within s.made_with).1;
  few = few;
  within = λ s p h. mod_below _ (2 ^ shown_width s.made_with) (pow_pos (shown_width s.made_with));
  read_width = λ s p h. refl;
  read_count = λ s p h. refl;
  read_entry = λ s p q h k. refl;
  write_width = λ s p v h k. refl;
  write_count = λ s p v h k. ap (λ n. cond (proper s.made_with) (min 128 n) 0) (length-set s.words p (of_value v));
  write_here = write_here;
  write_there = λ s p q v h k ne below.
      ap (λ w. holds (value w % 2 ^ shown_width s.made_with)) (get_or-set_other s.words p q (of_value v) no_word ne);
}
