-- A parity layer over a lawful card is a lawful card. Assumes nothing.
use Rattle.std.specs.Prelude.{◌≡◌, ℕ, ◌*◌, ◌/◌, ◌%◌, ◌^◌, ◌<◌, ◌≤◌, Ok, Err, ◌≢◌, refl}
use Rattle.std.proofs.Common.{sym, ap, subst, ◌∙◌, arith}
use Rattle.std.proofs.lemmas.Bool.{cond_both, cond-true, eqb-true}
use Rattle.word.specs.Lanes.{lane}
use Rattle.word.specs.Words.{value, of_value}
use Rattle.word.specs.declared.words.Word.{Word}
use Rattle.word.specs.declared.faults.Fault.{Fault}
use Rattle.word.proofs.Values.{value_of_value}
use Rattle.card.specs.Cards.{CardModel, CardLaws, Entry, holds, faulty, Within, read_answer, write_answer, write_state}
use Rattle.layers.specs.Parities.{Sensed, parity_card, parity_bits, lanes_right, with_parity, checked, by_nines, lanes_in}
use Rattle.layers.specs.declared.parity.Sense.{Sense}
use Rattle.card.proofs.CardFacts.{read_within, write_granted, write_not_refused, write_leads}
use Rattle.layers.specs.CutFacts.{low_part, whole_low, whole_high}
use Rattle.layers.specs.ParityFacts.{parities_right, raw_below}
use Rattle.card.specs.WidthFacts.{place_from}

checked_within : (s : Sense) (m p : ℕ) (e : Entry) → Within (8 * m) (checked s m p e)
checked_within s m p (holds raw) =
    cond_both (lanes_right s m (λ j. lane j (raw % 2 ^ (8 * m))) (raw / 2 ^ (8 * m))) (holds (raw % 2 ^ (8 * m))) (faulty _) (Within (8 * m))
    (λ _. low_part (8 * m) raw) (λ _. tt)
checked_within s m p (faulty f) = tt

-- what was laid down with its parity shows as it was
checked_laid : (s : Sense) (m p v : ℕ) → v < 2 ^ (8 * m) → checked s m p (holds (with_parity s m v)) ≡ holds v
checked_laid s m p v h =
    let low = whole_low (8 * m) v (parity_bits s m (λ j. lane j v)) h in
    let high = whole_high (8 * m) v (parity_bits s m (λ j. lane j v)) h in
    rw (low, high, parities_right s m (λ j. lane j v))

module _ (b : CardModel) (lower : CardLaws b) where
  abbrev State : Type 0
  State = Sensed b.State

  abbrev lanes : State → ℕ
  lanes s = lanes_in (b.width s.card)

  -- a layer that has a place stands over one to eight lanes of nine cells
  pub record Placed (s : State) (p : ℕ) : Type 0 where
    pub nines : b.width s.card ≡ 9 * lanes s
    pub most : lanes s ≤ 8
    pub below : p < b.count s.card
    pub wide : (parity_card b).width s ≡ 8 * lanes s

  pub placed : (s : State) (p : ℕ) → p < (parity_card b).count s → Placed s p
  placed s p k =
      let both = place_from (by_nines (b.width s.card)) (b.count s.card) p k in
      let whole = eqb-true (b.width s.card % 9) 0 both.0 in
      let most = lower.wide_most s.card in
      record { nines = omega arith; most = omega arith; below = both.1; wide = cond-true _ _ _ both.0 }

  -- the raw word of data that fits the layer fits the card
  pub raw_fits : (s : State) (p v : ℕ) → p < (parity_card b).count s → v < 2 ^ (parity_card b).width s →
      with_parity s.sense (lanes s) v < 2 ^ b.width s.card
  raw_fits s p v k fit =
      let at = placed s p k in
      let h = raw_below s.sense (lanes s) at.most v (rw at.wide at fit) in
      subst (λ w. with_parity s.sense (lanes s) v < 2 ^ w) (sym at.nines) h

  -- what the layer shows is what its card shows
  record Alike (s t : State) : Type 0 where
    same_sense : t.sense ≡ s.sense
    same_width : b.width t.card ≡ b.width s.card
    same_count : b.count t.card ≡ b.count s.card

  alike_width : (s t : State) → Alike s t → (parity_card b).width t ≡ (parity_card b).width s
  alike_width s t e = let w = e.same_width in cc

  alike_count : (s t : State) → Alike s t → (parity_card b).count t ≡ (parity_card b).count s
  alike_count s t e = cc

  alike_entry : (s t : State) (q : ℕ) → Alike s t → b.entry t.card q ≡ b.entry s.card q → (parity_card b).entry t q ≡ (parity_card b).entry s q
  alike_entry s t q e same = let w = e.same_width in let i = e.same_sense in cc

  alike_read : (s : State) (p : ℕ) → p < (parity_card b).count s → Alike s ((parity_card b).after_read s p)
  alike_read s p k =
      let at = placed s p k in
      record {
        same_sense = refl;
        same_width = lower.read_width s.card p at.below;
        same_count = lower.read_count s.card p at.below;
      }

  alike_write : (s : State) (p v : ℕ) → p < (parity_card b).count s → v < 2 ^ (parity_card b).width s → Alike s ((parity_card b).after_write s p v)
  alike_write s p v k fit =
      let at = placed s p k in
      let raw = raw_fits s p v k fit in
      record {
        same_sense = refl;
        same_width = lower.write_width s.card p _ at.below raw;
        same_count = lower.write_count s.card p _ at.below raw;
      }

  wide_between : (s : State) → (1 ≤ (parity_card b).width s) × ((parity_card b).width s ≤ 72)
  wide_between s =
      let least = lower.wide_least s.card in
      let most = lower.wide_most s.card in
      cond_both (by_nines (b.width s.card)) (8 * lanes s) 64 (λ w. (1 ≤ w) × (w ≤ 72))
      (λ e. let whole = eqb-true (b.width s.card % 9) 0 e in (omega arith, omega arith)) (λ _. (omega arith, omega arith))

  write_here : (s : State) (p v : ℕ) → p < (parity_card b).count s → v < 2 ^ (parity_card b).width s →
      (parity_card b).entry ((parity_card b).after_write s p v) p ≡ holds v
  write_here s p v k fit =
      let at = placed s p k in
      let same = (alike_write s p v k fit).same_width in
      let raw = lower.write_here s.card p _ at.below (raw_fits s p v k fit) in
      rw (same, raw) (checked_laid s.sense (lanes s) p v (rw at.wide at fit))

  pub parity_laws : CardLaws (parity_card b)
  parity_laws = record {
    wide_least = λ s. (wide_between s).0;
    wide_most = λ s. (wide_between s).1;
    few = λ s.
        let k = lower.few s.card in
        cond_both (by_nines (b.width s.card)) (b.count s.card) 0 (λ n. n ≤ 65536) (λ _. k) (λ _. omega arith);
    within = λ s p k.
        let e = (placed s p k).wide in
        rw e (checked_within s.sense (lanes s) p (b.entry s.card p));
    read_width = λ s p k. alike_width s _ (alike_read s p k);
    read_count = λ s p k. alike_count s _ (alike_read s p k);
    read_entry = λ s p q k m. alike_entry s _ q (alike_read s p k) (lower.read_entry s.card p q (placed s p k).below (placed s q m).below);
    write_width = λ s p v k fit. alike_width s _ (alike_write s p v k fit);
    write_count = λ s p v k fit. alike_count s _ (alike_write s p v k fit);
    write_here = write_here;
    write_there = λ s p q v k m ne fit.
        alike_entry s _ q (alike_write s p v k fit)
        (lower.write_there s.card p q _ (placed s p k).below (placed s q m).below ne (raw_fits s p v k fit));
  }

  -- a write of the raw word to the card is the layer's write of data that fits
  pub raw_written : (s : State) (p v : ℕ) (raw : Word) → p < (parity_card b).count s → v < 2 ^ (parity_card b).width s →
      raw ≡ of_value (with_parity s.sense (lanes s) v) →
      (write_answer b s.card p (value raw) ≡ write_answer (parity_card b) s p v) ×
      (◌≡◌ {A = State} (record { sense = s.sense; card = write_state b s.card p (value raw) }) (write_state (parity_card b) s p v))
  raw_written s p v raw k fit made =
      let below = (placed s p k).below in
      let fits = raw_fits s p v k fit in
      let laid : value raw ≡ with_parity s.sense (lanes s) v = ap value made ∙ value_of_value _ in
      let card : write_state b s.card p (value raw) ≡ b.after_write s.card p (with_parity s.sense (lanes s) v) =
      ap (write_state b s.card p) laid ∙ write_leads b s.card p below _ fits in (
        ap (write_answer b s.card p) laid ∙ write_granted b s.card p below _ fits ∙ sym (write_granted (parity_card b) s p k v fit),
        (λ i. record { sense = s.sense; card = card i }) ∙ sym (write_leads (parity_card b) s p k v fit),
      )

  -- a raw word that the card gave is one of nine cells for each lane
  pub raw_given : (s : State) (p w : ℕ) (raw : Word) → p < (parity_card b).count s → w ≡ b.width s.card → Ok raw ≡ read_answer b s.card p →
      (lanes_in w ≤ 8) × (value raw < 2 ^ (9 * lanes_in w))
  raw_given s p w raw k e given =
      let at = placed s p k in
      let most = at.most in
      let nines = at.nines in
      let whole : 9 * lanes_in w ≡ b.width s.card = omega arith in
      (omega arith, rw whole (read_within b s.card p at.below lower raw given))

  -- a write that the layer lets pass is not refused by the card
  pub card_grants : (s : State) (p v w : ℕ) (raw : Word) (f : Fault) → p < (parity_card b).count s → v < 2 ^ (parity_card b).width s →
      w ≡ b.width s.card → raw ≡ of_value (with_parity s.sense (lanes_in w) v) → Err f ≢ write_answer b s.card p (value raw)
  card_grants s p v w raw f k fit e made refused =
      let laid : value raw ≡ with_parity s.sense (lanes s) v =
      ap value made ∙ value_of_value _ ∙ ap (λ n. with_parity s.sense (lanes_in n) v) e in
      write_not_refused b s.card p (placed s p k).below (with_parity s.sense (lanes s) v) (raw_fits s p v k fit) f (rw laid at refused)
