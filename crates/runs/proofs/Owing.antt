-- Each answer is the one owed, and the counter counts. Assumes nothing.
use Rattle.std.proofs.Common.{◌≡◌, ℕ, ◌+◌, ◌/◌, ◌^◌, ◌<◌, ◌≤◌, min, cond, not, ◌&&◌, T, eqb, ltb, ◌∷◌, Some, None, Option, Ok, Err, Result, sym, refl, ap, ◌∙◌, ⊎_elim, arith, pow_pos}
use lib.Bits.{bit_xor}
use lib.Pow.{ones_lt}
use Rattle.std.proofs.lemmas.Bool.{cases_eq, cond-true, cond-false, and_parts, ltb-true, lt-ltb, le-ltb, eq-eqb, ne_eqb, eqb-false, not-true}
use Rattle.word.specs.Words.{value, of_value}
use Rattle.word.specs.Faults.{arisen}
use Rattle.word.specs.declared.faults.Fault.{Fault}
use Rattle.word.specs.declared.words.Word.{Word}
use Rattle.word.specs.declared.refusals.Refusal.TheVariants.{Cell as CELL, Two as TWO}
use Rattle.code.specs.Codes.{CodeModel, CodeLaws, codeword, syndrome}
use Rattle.card.specs.Cards.{CardModel, CardLaws, Entry, holds, faulty, shown}
use Rattle.card.proofs.CardFacts.{read_entered}
use Rattle.error_log.specs.Logs.{LogState, log_word}
use Rattle.parts.specs.Units.{UnitState, Outcome, unit_card, unit_entry, cut, logged, merging, kept, merged, injecting, injected, all_lanes}
use Rattle.unit.specs.Steps.{step, replied}
use Rattle.runs.specs.Histories.{History, upset, upset_cells, is_in_hand, last_laid}
use Rattle.runs.specs.Promises.{meets, Reads, Owed, Counts, AllInHand, MetInHand, upset_met, met_errors}
use Rattle.unit.specs.declared.calls.Call.{Call}
use Rattle.unit.specs.declared.calls.Call.TheVariants.{Read, Write, Merge, Scrub, Inject, Log, First, Clear}
use Rattle.unit.specs.Steps.{Answer}
use Rattle.unit.specs.declared.calls.Reply.TheVariants.{Done, Gave, Merged}
use Rattle.runs.proofs.Masks.{mask, struck_syndrome}
use Rattle.runs.proofs.Pasts.{holds_true}
use Rattle.runs.proofs.Effects.{places, lane_some}
use Rattle.runs.proofs.Hands.{Hand, Hands, hand_read, hand_refused}
use Rattle.runs.proofs.LogSteps.{LogStep, log_step, Fine, counter_shown, counter_noted}

module _ (c : CodeModel) (m : CardModel) (cl : CodeLaws c) (ml : CardLaws m) (h : History) (s : UnitState m.State) (hands : Hands c m cl h s.card) where
  -- the answer to a reading of a place in hand, told by what the entry shows
  reads : (p : ℕ) (gives : Word → Answer) (a : Answer) (tell : Entry → Answer) →
      (p < places c m s.card → a ≡ tell (unit_entry c p (m.entry s.card p))) → ((v : ℕ) → tell (holds v) ≡ gives (of_value v)) → tell (faulty (arisen TWO p)) ≡ Err (arisen TWO p) →
      Reads c.n c.k (places c m s.card) h p gives a
  reads p gives a tell is word two t =
      let hand = hands p t in (
        λ l. is hand.there ∙ ap tell (hand_read c m cl h s.card p hand l) ∙ word (last_laid (c.n / 8) h p),
        λ l. is hand.there ∙ ap tell (hand_refused c m cl h s.card p hand l) ∙ two,
      )

  -- a merge whose arguments fit, and that keeps a lane
  merged_is : (p v e : ℕ) → v < 2 ^ c.n → e < 2 ^ (c.n / 8) → (e ≡ 0 → ⊥) → p < places c m s.card → merged c m s p v e ≡ kept c m s p v e
  merged_is p v e b l nz i =
      cond-true _ _ _ (lt-ltb p (places c m s.card) i) ∙ cond-true _ _ _ (lt-ltb v (2 ^ c.n) b) ∙ cond-true _ _ _ (lt-ltb e (2 ^ (c.n / 8)) l) ∙ cond-false _ _ _ (ne_eqb e 0 nz)

  merge_reads : (p v e : ℕ) → v < 2 ^ c.n → e < 2 ^ (c.n / 8) → (e ≡ 0 → ⊥) →
      Reads c.n c.k (places c m s.card) h p (λ old. Ok (Merged (Some old))) (replied Merged (merged c m s p v e).answer)
  merge_reads p v e b l nz =
      reads p (λ old. Ok (Merged (Some old))) (replied Merged (merged c m s p v e).answer) (λ y. replied Merged (merging c m s p v e y).answer)
      (λ i. ap (λ o. replied Merged o.answer) (merged_is p v e b l nz i)) (λ w. refl) refl

  -- an inject into a place in hand
  inject_owed : (p x : ℕ) → T (is_in_hand (c.n + c.k) h p) → (x < c.n + c.k → replied (λ _. Done) (injected c m s p x).answer ≡ Ok Done) × (c.n + c.k ≤ x → replied (λ _. Done) (injected c m s p x).answer ≡ Err (arisen CELL p))
  inject_owed p x t =
      let hand = hands p t in
      let inside = lt-ltb p (places c m s.card) hand.there in
      let tell : Outcome m.State (Result (Unit {0}) Fault) → Answer = λ o. replied (λ _. Done) o.answer in (
        λ l. ap tell (cond-true _ _ _ inside ∙ cond-true _ _ _ (lt-ltb x (c.n + c.k) l) ∙ ap (injecting c m s p x) hand.entry),
        λ l. ap tell (cond-true _ _ _ inside ∙ cond-false _ _ _ (le-ltb x (c.n + c.k) l)),
      )

  pub owed : (k : Call) → Fine s.log → Counts c.n c.k (places c m s.card) h s.log.counter → Owed c.n c.k (places c m s.card) h k (step c m s k).answer
  owed (Read p) f n =
      reads p (λ w. Ok (Gave w)) (step c m s (Read p)).answer (λ y. replied Gave (shown y)) (λ i. ap (replied Gave) (read_entered (unit_card c m) s p i)) (λ v. refl) refl
  owed (Write p w) f n = tt
  owed (Merge p w e) f n = λ t.
      let all = and_parts (ltb (value w) (2 ^ c.n)) (ltb e (2 ^ (c.n / 8)) && not (eqb e 0)) (holds_true _ t) in
      let rest = and_parts (ltb e (2 ^ (c.n / 8))) (not (eqb e 0)) all.1 in
      merge_reads p (value w) e (ltb-true _ _ all.0) (ltb-true _ _ rest.0) (eqb-false e 0 (not-true (eqb e 0) rest.1))
  owed (Scrub p) f n = merge_reads p 0 (all_lanes c m) (pow_pos c.n) (ones_lt (c.n / 8)) (lane_some c m cl ml s)
  owed (Inject p x) f n = inject_owed p x
  owed Log f n = (log_word c s.log, refl, λ all. counter_shown c cl s.log f ∙ n all)
  owed First f n = tt
  owed Clear f n = tt

  -- a reading of a place in hand counts one where a cell is upset
  counted_one : (p e : ℕ) → Hand c m cl h s.card p → s.log.counter ≡ min 15 e →
      (logged c p (m.entry s.card p) s.log).counter ≡ min 15 (cond (ltb 0 (upset_cells (c.n + c.k) h p)) 1 0 + e)
  counted_one p e hand n =
      let raw = bit_xor (codeword c (last_laid (c.n / 8) h p)) (mask (upset h p) (c.n + c.k)) in
      let u = upset_cells (c.n + c.k) h p in
      ap (λ y. (logged c p y s.log).counter) hand.entry ∙ counter_noted p (cut c raw) (syndrome c raw) _ s.log ∙
      ap (λ b. cond b s.log.counter (min 15 (s.log.counter + 1))) (struck_syndrome c cl (upset h p) (last_laid (c.n / 8) h p) hand.word hand.few) ∙
      ⊎_elim
      (λ z. cond-true _ _ _ (eq-eqb u 0 z) ∙ n ∙ sym (ap (λ x. min 15 (x + e)) (cond-false _ _ _ (le-ltb 0 u (omega arith))) ∙ omega arith))
      (λ nz. cond-false _ _ _ (ne_eqb u 0 nz) ∙ sym (ap (λ x. min 15 (x + e)) (cond-true _ _ _ (lt-ltb 0 u (omega arith))) ∙ omega arith))
      (cases_eq u 0)

  counted_step : (mt : Option ℕ) (l : LogState) → LogStep c m s mt l → Counts c.n c.k (places c m s.card) h s.log.counter →
      MetInHand c.n c.k (places c m s.card) h mt → AllInHand c.n c.k (places c m s.card) h →
      l.counter ≡ min 15 (upset_met c.n c.k (places c m s.card) h mt + met_errors c.n c.k (places c m s.card) h)
  counted_step None l e n met all = ap (λ (y : LogState). y.counter) e ∙ n all ∙ ap (min 15) (let z : met_errors c.n c.k (places c m s.card) h ≡ 0 + met_errors c.n c.k (places c m s.card) h = omega arith in z)
  counted_step (Some p) l e n met all = ap (λ (y : LogState). y.counter) e.1 ∙ counted_one p (met_errors c.n c.k (places c m s.card) h) (hands p met) (n all)

  -- one more call, and its count
  pub counts_kept : (k : Call) → Counts c.n c.k (places c m s.card) h s.log.counter →
      Counts c.n c.k (places c m s.card) (record { call = k; answer = (step c m s k).answer } ∷ h) (step c m s k).state.log.counter
  counts_kept (Read p) n all = counted_step (meets c.n c.k (places c m s.card) (Read p)) _ (log_step c m cl ml s (Read p) refl) n all.0 all.1
  counts_kept (Write p w) n all = counted_step None _ (log_step c m cl ml s (Write p w) refl) n tt all.1
  counts_kept (Merge p w e) n all = counted_step (meets c.n c.k (places c m s.card) (Merge p w e)) _ (log_step c m cl ml s (Merge p w e) refl) n all.0 all.1
  counts_kept (Scrub p) n all = counted_step (meets c.n c.k (places c m s.card) (Scrub p)) _ (log_step c m cl ml s (Scrub p) refl) n all.0 all.1
  counts_kept (Inject p x) n all = counted_step None _ (log_step c m cl ml s (Inject p x) refl) n tt all.1
  counts_kept Log n all = counted_step None _ (log_step c m cl ml s Log refl) n tt all.1
  counts_kept First n all = counted_step None _ (log_step c m cl ml s First refl) n tt all.1
  counts_kept Clear n all = refl
