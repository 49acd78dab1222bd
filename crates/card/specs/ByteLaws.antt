-- The byte card keeps the laws of a card. Assumes nothing.
use Rattle.std.proofs.Common.{ap, ◌∙◌, inl, inr, ⊎_elim, mod-eq_of_lt, lt_of_lt_of_le, arith, pow_pos, pow_mono}
use Rattle.std.specs.Prelude.{ℕ, ◌+◌, ◌*◌, ◌/◌, ◌%◌, ◌^◌, ◌<◌, ◌≤◌, min, cond, ◌≢◌, ◌⊎◌, length, refl}
use Rattle.std.proofs.lemmas.Nat.{mod_below}
use Rattle.std.proofs.lemmas.Bool.{cond_both, cases_lt}
use Rattle.card.specs.Cards.{CardLaws, holds}
use Rattle.card.specs.Widths.{proper, shown_width}
use Rattle.card.specs.Bytes.{ByteState, byte_card}
use Rattle.card.specs.WidthFacts.{shown_within, place_from}
use Rattle.card.specs.BufferFacts.{length_stored, loaded_here, loaded_there}

few : (s : ByteState) → byte_card.count s ≤ 65536
few s = cond_both (proper s.made_with) (min (length s.bytes / 9) 65536) 0 (λ n. n ≤ 65536) (λ _. omega arith) (λ _. omega arith)

-- the nine bytes of a place lie in the buffer
pub place_inside : (s : ByteState) (p : ℕ) → p < byte_card.count s → 9 * p + 9 ≤ length s.bytes
place_inside s p h = let k = (place_from (proper s.made_with) _ p h).1 in omega arith

-- the nine bytes of two places do not meet
apart : (p q : ℕ) → q ≢ p → (9 * q + 9 ≤ 9 * p) ⊎ (9 * p + 9 ≤ 9 * q)
apart p q ne = ⊎_elim (λ h. inl (omega arith)) (λ h. inr (omega arith)) (cases_lt q p)

pub byte_laws : CardLaws byte_card
byte_laws = record {
  wide_least = λ s. (shown_within s.made_with).0;
  wide_most = λ s. (shown_within s.made_with).1;
  few = few;
  within = λ s p h. mod_below _ (2 ^ shown_width s.made_with) (pow_pos (shown_width s.made_with));
  read_width = λ s p h. refl;
  read_count = λ s p h. refl;
  read_entry = λ s p q h k. refl;
  write_width = λ s p v h k. refl;
  write_count = λ s p v h k.
      ap (λ n. cond (proper s.made_with) (min (n / 9) 65536) 0) (length_stored s.bytes (9 * p) v (place_inside s p h));
  write_here = λ s p v h k.
      let whole = mod-eq_of_lt (lt_of_lt_of_le k (pow_mono (shown_within s.made_with).1)) in
      ap (λ x. holds (x % 2 ^ shown_width s.made_with)) (loaded_here s.bytes (9 * p) v (place_inside s p h) ∙ whole) ∙
      ap holds (mod-eq_of_lt k);
  write_there = λ s p q v h k ne below.
      ap (λ x. holds (x % 2 ^ shown_width s.made_with))
      (loaded_there s.bytes (9 * p) v (place_inside s p h) (9 * q) (apart p q ne));
}
