-- The calls of a unit, step by step, from what the calls below answer. Assumes nothing.
use Rattle.std.proofs.Common.{◌≡◌, ℕ, ◌+◌, ◌*◌, ◌/◌, ◌^◌, ◌<◌, ◌≤◌, Some, Ok, Result, sym, ap, ◌∙◌, subst, lt_of_lt_of_le, arith, pow_mono}
use lib.Bits.{bit_xor, xor_lt}
use Rattle.std.proofs.lemmas.Nat.{pow_below}
use Rattle.std.proofs.lemmas.Bool.{cond-true, cond-false, lt-ltb, ne_eqb}
use Rattle.word.specs.Words.{value, of_value, toggled}
use Rattle.word.specs.declared.words.Word.{Word}
use Rattle.word.specs.declared.faults.Fault.{Fault}
use Rattle.word.proofs.Values.{value_of_value}
use Rattle.code.specs.Codes.{CodeModel, CodeLaws, codeword}
use Rattle.card.specs.Cards.{CardModel, CardLaws, Entry, holds, faulty, shown, read_answer, read_state, write_answer, write_state}
use Rattle.error_log.specs.Logs.{LogState}
use Rattle.parts.specs.Units.{UnitState, unit_card, unit_entry, logged, injecting, injected, merging, kept, merged}
use Rattle.card.proofs.CardFacts.{read_entered, read_leads, read_within, write_granted, write_leads}
use Rattle.parts.specs.Merges.{joined}
use Rattle.parts.proofs.UnitLaws.{fits_from_place, codeword_fits, unit_laws}
use Rattle.parts.proofs.MergeFacts.{joined_below, joined_short}

shown_ok : (e : Entry) (w : Word) → Ok w ≡ shown e → e ≡ holds (value w)
shown_ok (holds v) w e = let f : of_value v ≡ w = cc in ap holds (sym (value_of_value v) ∙ ap value f)
shown_ok (faulty f) w e = let z : ◌≡◌ {A = ℕ} 0 1 = cc in absurd (omega arith)

-- what a read that gave a word says of the entry
pub entry_read : (m : CardModel) (s : m.State) (p : ℕ) → p < m.count s → (w : Word) → Ok w ≡ read_answer m s p → m.entry s p ≡ holds (value w)
entry_read m s p h w e = shown_ok (m.entry s p) w (e ∙ read_entered m s p h)

module _ (c : CodeModel) (m : CardModel) (cl : CodeLaws c) (ml : CardLaws m) (s : UnitState m.State) (p : ℕ) (h : p < (unit_card c m).count s) where
  below : p < m.count s.card
  below = (fits_from_place c m s p h).1

  -- a raw word that was read is below 2 ^ (n + k)
  pub raw_read : (w : Word) → Ok w ≡ read_answer m s.card p → value w < 2 ^ (c.n + c.k)
  raw_read w e = subst (λ n. value w < 2 ^ n) (fits_from_place c m s p h).0 (read_within m s.card p below ml w e)

  pub read_sound : (w : Word) → Ok w ≡ read_answer m s.card p → (r : Result Word Fault) → r ≡ shown (unit_entry c p (holds (value w))) → r ≡ read_answer (unit_card c m) s p
  read_sound w e r t = t ∙ ap (λ x. shown (unit_entry c p x)) (sym (entry_read m s.card p below w e)) ∙ sym (read_entered (unit_card c m) s p h)

  pub read_logged : (w : Word) → Ok w ≡ read_answer m s.card p → (l : LogState) (t : m.State) → l ≡ logged c p (holds (value w)) s.log → t ≡ read_state m s.card p →
      ◌≡◌ {A = UnitState m.State} (record { log = l; card = t }) (read_state (unit_card c m) s p)
  read_logged w e l t el et =
      let log : l ≡ logged c p (m.entry s.card p) s.log = el ∙ ap (λ x. logged c p x s.log) (sym (entry_read m s.card p below w e)) in
      let card : t ≡ m.after_read s.card p = et ∙ read_leads m s.card p below in
      ap (λ x. record { log = x; card = t }) log ∙ ap (λ x. record { log = logged c p (m.entry s.card p) s.log; card = x }) card ∙
      sym (read_leads (unit_card c m) s p h)

  -- a write that fits lays the codeword below
  module _ (w x : Word) (b : value w < 2 ^ c.n) (e : x ≡ of_value (codeword c w.low)) where
    laid : value x ≡ codeword c (value w)
    laid =
        let wide : value w < 2 ^ 64 = lt_of_lt_of_le b (pow_mono cl.n_most) in
        let low : w.low ≡ value w = omega arith in
        ap value e ∙ value_of_value (codeword c w.low) ∙ ap (codeword c) low

    fits : codeword c (value w) < 2 ^ m.width s.card
    fits = codeword_fits c m cl ml s p (value w) h b

    pub write_sound : (r : Result (Unit {0}) Fault) → r ≡ write_answer m s.card p (value x) → r ≡ write_answer (unit_card c m) s p (value w)
    write_sound r a = a ∙ ap (write_answer m s.card p) laid ∙ write_granted m s.card p below (codeword c (value w)) fits ∙ sym (write_granted (unit_card c m) s p h (value w) b)

    pub write_done : (t : m.State) → t ≡ write_state m s.card p (value x) → ◌≡◌ {A = UnitState m.State} (record { log = s.log; card = t }) (write_state (unit_card c m) s p (value w))
    write_done t a =
        ap (λ y. record { log = s.log; card = y }) (a ∙ ap (write_state m s.card p) laid ∙ write_leads m s.card p below (codeword c (value w)) fits) ∙
        sym (write_leads (unit_card c m) s p h (value w) b)

  -- an inject that found a raw word writes it back with the cell complemented
  module _ (x : ℕ) (i : x < c.n + c.k) (w y : Word) (e : Ok w ≡ read_answer m s.card p) (f : y ≡ of_value (toggled x (value w))) (t : m.State) (et : t ≡ read_state m s.card p) where
    after : t ≡ m.after_read s.card p
    after = et ∙ read_leads m s.card p below

    flipped : value y ≡ bit_xor (value w) (2 ^ x)
    flipped =
        let n = cl.n_most in
        let k = cl.k_most in
        ap value f ∙ value_of_value (toggled x (value w)) ∙ cond-true _ _ _ (lt-ltb x 72 (omega arith))

    same_width : m.width t ≡ c.n + c.k
    same_width = ap m.width after ∙ ml.read_width s.card p below ∙ (fits_from_place c m s p h).0

    flipped_fits : value y < 2 ^ m.width t
    flipped_fits = rw (same_width, flipped) (xor_lt (c.n + c.k) (value w) (2 ^ x) (raw_read w e) (pow_below x (c.n + c.k) i))

    same_place : p < m.count t
    same_place = subst (λ n. p < n) (sym (ap m.count after ∙ ml.read_count s.card p below)) below

    inject_is : injected c m s p x ≡ injecting c m s p x (holds (value w))
    inject_is =
        cond-true _ _ _ (lt-ltb p ((unit_card c m).count s) h) ∙ cond-true _ _ _ (lt-ltb x (c.n + c.k) i) ∙
        ap (injecting c m s p x) (entry_read m s.card p below w e)

    pub inject_sound : (r : Result (Unit {0}) Fault) → r ≡ write_answer m t p (value y) → r ≡ (injected c m s p x).answer
    inject_sound r a = a ∙ write_granted m t p same_place (value y) flipped_fits ∙ sym (ap (λ o. o.answer) inject_is)

    pub inject_done : (u : m.State) → u ≡ write_state m t p (value y) → ◌≡◌ {A = UnitState m.State} (record { log = s.log; card = u }) (injected c m s p x).state
    inject_done u a =
        let card : u ≡ m.after_write (m.after_read s.card p) p (bit_xor (value w) (2 ^ x)) =
        a ∙ write_leads m t p same_place (value y) flipped_fits ∙ ap (m.after_write t p) flipped ∙ ap (λ z. m.after_write z p (bit_xor (value w) (2 ^ x))) after in
        ap (λ z. record { log = s.log; card = z }) card ∙ sym (ap (λ o. o.state) inject_is)

  -- a merge that keeps a lane, once the word w was read
  module _ (v e : ℕ) (b : v < 2 ^ c.n) (w : Word) (r : Ok w ≡ read_answer (unit_card c m) s p) (t : UnitState m.State) (et : t ≡ read_state (unit_card c m) s p) where
    laws : CardLaws (unit_card c m)
    laws = unit_laws c m cl ml

    old_is : (unit_card c m).entry s p ≡ holds (value w)
    old_is = entry_read (unit_card c m) s p h w r

    old_below : value w < 2 ^ c.n
    old_below = read_within (unit_card c m) s p h laws w r

    after_reading : t ≡ (unit_card c m).after_read s p
    after_reading = et ∙ read_leads (unit_card c m) s p h

    still_there : p < (unit_card c m).count t
    still_there = subst (λ n. p < n) (sym (ap (unit_card c m).count after_reading ∙ laws.read_count s p h)) h

    joined_fits : joined (c.n / 8) e (value w) v < 2 ^ c.n
    joined_fits = subst (λ n. joined (c.n / 8) e (value w) v < 2 ^ n) (sym cl.whole_lanes) (joined_below e (value w) v (c.n / 8))

    module _ (x : Word) (ex : x ≡ record { low = joined 8 e w.low v; top = 0 }) where
      joined_is : value x ≡ joined (c.n / 8) e (value w) v
      joined_is =
          let wide : value w < 2 ^ 64 = lt_of_lt_of_le old_below (pow_mono cl.n_most) in
          let low : w.low ≡ value w = omega arith in
          let lanes = cl.whole_lanes in
          let few : c.n / 8 ≤ 8 = let most = cl.n_most in omega arith in
          let j = joined 8 e w.low v in
          let flat : j + 2 ^ 64 * 0 ≡ j = omega arith in
          ap value ex ∙ flat ∙ ap (λ y. joined 8 e y v) low ∙
          joined_short e (value w) v (c.n / 8) few (subst (λ n. value w < 2 ^ n) lanes old_below) (subst (λ n. v < 2 ^ n) lanes b)

      fits_again : value x < 2 ^ c.n
      fits_again = rw joined_is joined_fits

      pub merge_granted : write_answer (unit_card c m) t p (value x) ≡ Ok tt
      merge_granted = write_granted (unit_card c m) t p still_there (value x) fits_again

      pub merge_done : (u : UnitState m.State) → u ≡ write_state (unit_card c m) t p (value x) → u ≡ (kept c m s p v e).state
      merge_done u eu =
          eu ∙ write_leads (unit_card c m) t p still_there (value x) fits_again ∙
          ap ((unit_card c m).after_write t p) joined_is ∙
          ap (λ y. (unit_card c m).after_write y p (joined (c.n / 8) e (value w) v)) after_reading ∙
          sym (ap (λ y. (merging c m s p v e y).state) old_is)

    pub merge_sound : Ok (Some w) ≡ (kept c m s p v e).answer
    merge_sound =
        let same : Ok w ≡ Ok (of_value (value w)) = r ∙ read_entered (unit_card c m) s p h ∙ ap shown old_is in
        let word : w ≡ of_value (value w) = cc in
        ap (λ y. Ok (Some y)) word ∙ sym (ap (λ y. (merging c m s p v e y).answer) old_is)

  -- a merge whose arguments are granted, and that keeps a lane
  pub merge_is : (w : Word) (e : ℕ) → value w < 2 ^ c.n → e < 2 ^ (c.n / 8) → (e ≡ 0 → ⊥) → kept c m s p w.low e ≡ merged c m s p (value w) e
  merge_is w e b f k =
      let wide : value w < 2 ^ 64 = lt_of_lt_of_le b (pow_mono cl.n_most) in
      let low : w.low ≡ value w = omega arith in
      ap (λ v. kept c m s p v e) low ∙
      sym (cond-true _ _ _ (lt-ltb p ((unit_card c m).count s) h) ∙ cond-true _ _ _ (lt-ltb (value w) (2 ^ c.n) b) ∙
      cond-true _ _ _ (lt-ltb e (2 ^ (c.n / 8)) f) ∙ cond-false _ _ _ (ne_eqb e 0 k))
