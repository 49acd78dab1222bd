-- What each call does to the log. Assumes nothing.
use Rattle.std.proofs.Common.{◌≡◌, ℕ, ◌+◌, ◌/◌, ◌%◌, ◌^◌, ◌<◌, ◌≤◌, min, Bool, true, false, cond, not, ◌&&◌, eqb, ltb, Some, None, Option, Result, sym, refl, ap, ◌∙◌, subst, ⊎_elim, lt_of_lt_of_le, arith, pow_pos, pow_mono}
use lib.Pow.{ones_lt}
use Rattle.word.specs.Words.{value}
use Rattle.word.specs.declared.faults.Fault.{Fault}
use Rattle.std.proofs.lemmas.Bool.{cases_eq, cond-true, cond-false, cond_both, ltb-true, eq-eqb, ne_eqb, lt-ltb, and_from}
use Rattle.code.specs.Codes.{CodeModel, CodeLaws, syndrome}
use Rattle.code.proofs.Distances.{check_below, syndrome_below}
use Rattle.card.specs.Cards.{CardModel, CardLaws, Entry, holds, faulty, Within}
use Rattle.error_log.specs.Kinds.{kind_bits}
use Rattle.error_log.specs.Logs.{LogState, new_log, noted, log_word, taken_half}
use Rattle.parts.specs.Units.{UnitState, Outcome, unit_card, cut, logged, merging, merged, injecting, all_lanes}
use Rattle.unit.specs.Steps.{step}
use Rattle.runs.specs.Promises.{meets, is_clear}
use Rattle.error_log.specs.declared.records.Kind.{Kind}
use Rattle.error_log.specs.declared.records.Kind.TheVariants.{Quiet, Damaged, Single}
use Rattle.error_log.specs.declared.records.RawWord.{RawWord}
use Rattle.unit.specs.declared.calls.Call.{Call}
use Rattle.unit.specs.declared.calls.Call.TheVariants.{Read, Write, Merge, Scrub, Inject, Log, First, Clear}
use Rattle.runs.proofs.Effects.{places, merge_ways, kept_place, lane_some}

module _ (c : CodeModel) (m : CardModel) where
  -- a call that reads a place records what it met there; any other leaves the log
  abbrev pub LogStep : UnitState m.State → Option ℕ → LogState → Type 0
  LogStep s None l = l ≡ s.log
  LogStep s (Some p) l = (p < places c m s.card) × (l ≡ logged c p (m.entry s.card p) s.log)

module _ (c : CodeModel) (m : CardModel) (cl : CodeLaws c) (ml : CardLaws m) (s : UnitState m.State) where
  -- a merge that keeps a lane records the same, whatever it met
  kept_log : (p v e : ℕ) (y : Entry) → (merging c m s p v e y).state.log ≡ logged c p (m.entry s.card p) s.log
  kept_log p v e (holds old) = refl
  kept_log p v e (faulty f) = refl

  merge_log : (p v e : ℕ) → LogStep c m s (kept_place c m cl ml s.card p v e) (merged c m s p v e).state.log
  merge_log p v e = merge_ways c m cl ml s p v e (λ o mt. LogStep c m s mt o.state.log) (λ r. refl) (λ h b z. refl) (λ h b l nz. (h, kept_log p v e ((unit_card c m).entry s p)))

  -- a scrub reads its place wherever the unit has it
  scrub_place : (p : ℕ) → kept_place c m cl ml s.card p 0 (all_lanes c m) ≡ meets c.n c.k (places c m s.card) (Scrub p)
  scrub_place p =
      let zero-fits = lt-ltb 0 (2 ^ c.n) (pow_pos c.n) in
      let all_fit = lt-ltb (all_lanes c m) (2 ^ (c.n / 8)) (ones_lt (c.n / 8)) in
      let some = ap not (ne_eqb (all_lanes c m) 0 (lane_some c m cl ml s)) in
      let passes : (ltb 0 (2 ^ c.n) && (ltb (all_lanes c m) (2 ^ (c.n / 8)) && not (eqb (all_lanes c m) 0))) ≡ true = and_from _ _ zero-fits (and_from _ _ all_fit some) in
      ap (λ b. cond (ltb p (places c m s.card) && b) (Some p) None) passes ∙ ap (λ b. cond b (Some p) None) (and_true (ltb p (places c m s.card)))
    where
      and_true : (b : Bool) → (b && true) ≡ b
      and_true true = refl
      and_true false = refl

  inject_log : (p x : ℕ) → (step c m s (Inject p x)).state.log ≡ s.log
  inject_log p x =
      let P : Outcome m.State (Result (Unit {0}) Fault) → Type 0 = λ o. o.state.log ≡ s.log in
      cond_both (ltb p (places c m s.card)) _ _ P (λ _. cond_both (ltb x (c.n + c.k)) _ _ P (λ _. by_entry (m.entry s.card p)) (λ _. refl)) (λ _. refl)
    where
      by_entry : (y : Entry) → (injecting c m s p x y).state.log ≡ s.log
      by_entry (holds raw) = refl
      by_entry (faulty f) = refl

  pub log_step : (k : Call) → is_clear c.n c.k (places c m s.card) k ≡ false → LogStep c m s (meets c.n c.k (places c m s.card) k) (step c m s k).state.log
  log_step (Read p) e = go (ltb p (places c m s.card)) (ltb-true p (places c m s.card))
    where
      go : (b : Bool) → (b ≡ true → p < places c m s.card) → LogStep c m s (cond b (Some p) None) (cond b ((unit_card c m).after_read s p) s).log
      go true f = (f refl, refl)
      go false f = refl
  log_step (Write p w) e =
      cond_both (ltb p (places c m s.card)) _ _ (λ (y : UnitState m.State). y.log ≡ s.log)
      (λ _. cond_both (ltb (value w) (2 ^ c.n)) _ _ (λ (y : UnitState m.State). y.log ≡ s.log) (λ _. refl) (λ _. refl)) (λ _. refl)
  log_step (Merge p w n) e = merge_log p (value w) n
  log_step (Scrub p) e = subst (λ mt. LogStep c m s mt (merged c m s p 0 (all_lanes c m)).state.log) (scrub_place p) (merge_log p 0 (all_lanes c m))
  log_step (Inject p x) e = inject_log p x
  log_step Log e = refl
  log_step First e = refl
  log_step Clear e = let z : ◌≡◌ {A = ℕ} 0 1 = cc in absurd (omega arith)

-- the parts of a log fit the fields of the log word
abbrev pub TakenFits : Option RawWord → Type 0
TakenFits None = Unit {0}
TakenFits (Some r) = r.check < 2 ^ 8

pub record Fine (l : LogState) : Type 0 where
  pub held : l.counter ≤ 15
  pub narrow : l.syndrome < 2 ^ 8
  pub taken : TakenFits l.taken

pub fine_new : Fine new_log
fine_new = record { held = omega arith; narrow = omega arith; taken = tt }

pub fine_noted : (p : ℕ) (r : RawWord) (x : ℕ) (b : Bool) (l : LogState) → x < 2 ^ 8 → r.check < 2 ^ 8 → Fine l → Fine (noted p r x b l)
fine_noted p r x b l hx hr f =
    cond_both (eqb x 0) _ _ Fine
    (λ _. record { held = f.held; narrow = f.narrow; taken = hr })
    (λ _. record { held = omega arith; narrow = hx; taken = hr })

module _ (c : CodeModel) (laws : CodeLaws c) where
  pub fine_logged : (p : ℕ) (y : Entry) (l : LogState) → Within (c.n + c.k) y → Fine l → Fine (logged c p y l)
  fine_logged p (holds raw) l b f =
      let wide = pow_mono laws.k_most in
      fine_noted p (cut c raw) (syndrome c raw) _ l (lt_of_lt_of_le (syndrome_below c laws raw b) wide) (lt_of_lt_of_le (check_below c laws raw b) wide) f
  fine_logged p (faulty e) l b f = f

  half_below : (o : Option RawWord) → TakenFits o → taken_half c o < 2 ^ 16
  half_below None t = omega arith
  half_below (Some r) t = let p = laws.partial_byte r.data in omega arith

  kind_low : (k : Kind) → kind_bits k ≤ 2
  kind_low Quiet = omega arith
  kind_low Damaged = omega arith
  kind_low Single = omega arith

  -- bits 27 to 24 of the log word are the counter
  pub counter_shown : (l : LogState) → Fine l → log_word c l / 2 ^ 24 % 16 ≡ l.counter
  counter_shown l f =
      let h = half_below l.taken f.taken in
      let k = kind_low l.kind in
      let a = f.held in
      let b = f.narrow in
      omega arith

-- the counter after a raw word was recorded
pub counter_noted : (p : ℕ) (r : RawWord) (x : ℕ) (b : Bool) (l : LogState) → (noted p r x b l).counter ≡ cond (eqb x 0) l.counter (min 15 (l.counter + 1))
counter_noted p r x b l =
    ⊎_elim
    (λ z. ap (λ (y : LogState). y.counter) (cond-true _ _ _ (eq-eqb x 0 z)) ∙ sym (cond-true _ _ _ (eq-eqb x 0 z)))
    (λ nz. ap (λ (y : LogState). y.counter) (cond-false _ _ _ (ne_eqb x 0 nz)) ∙ sym (cond-false _ _ _ (ne_eqb x 0 nz)))
    (cases_eq x 0)
