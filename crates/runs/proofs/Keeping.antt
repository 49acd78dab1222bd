-- Every run keeps the promise. Assumes nothing.
use Rattle.std.proofs.Common.{◌≡◌, ℕ, true, false, List, [], ◌∷◌, Some, None, Option, sym, refl, ◌∙◌, subst, ⊎_elim, arith}
use Rattle.code.specs.Codes.{CodeModel, CodeLaws}
use Rattle.card.specs.Cards.{CardModel, CardLaws, Within}
use Rattle.layers.specs.PairLaws.{pair_laws}
use Rattle.layers.specs.ParityLaws.{parity_laws}
use Rattle.parts.specs.Units.{UnitState, unit_card}
use Rattle.runs.specs.Stacks.{Stack, one, other, unit, pair, parity, stacked, WorkedOut, StacksStand}
use Rattle.std.proofs.lemmas.Bool.{cases_Bool}
use Rattle.error_log.specs.Logs.{LogState}
use Rattle.unit.specs.Steps.{step}
use Rattle.runs.specs.Histories.{Made, History, past}
use Rattle.runs.specs.Promises.{meets, is_clear, Owed, AllOwed, Counts}
use Rattle.runs.specs.Runs.{new_unit, answers, final, Kept, RunsKeep}
use Rattle.unit.specs.declared.calls.Call.{Call}
use Rattle.unit.specs.declared.calls.Call.TheVariants.{Read, Write, Merge, Scrub, Inject, Log, First, Clear}
use Rattle.parts.proofs.UnitLaws.{fits_from_place, unit_laws}
use Rattle.runs.proofs.Effects.{places, Effect, idle, stored, flipped, effect}
use Rattle.runs.proofs.Hands.{Hands, hands_kept}
use Rattle.runs.proofs.LogSteps.{LogStep, log_step, Fine, fine_new, fine_logged}
use Rattle.runs.proofs.Owing.{owed, counts_kept}

module _ (a b : CardModel) (al : CardLaws a) (bl : CardLaws b) where
  stack_laws : (x : Stack) → CardLaws (stacked a b x)
  stack_laws one = al
  stack_laws other = bl
  stack_laws (unit c laws x) = unit_laws c (stacked a b x) laws (stack_laws x)
  stack_laws (pair x y) = pair_laws (stacked a b x) (stacked a b y) (stack_laws x) (stack_laws y)
  stack_laws (parity x) = parity_laws (stacked a b x) (stack_laws x)

  worked_out : (x : Stack) (s : (stacked a b x).State) → WorkedOut a b x s
  worked_out one s = tt
  worked_out other s = tt
  worked_out (unit c laws x) s = (refl, refl, λ p. refl, worked_out x s.card)
  worked_out (pair x y) s = (refl, refl, λ p. refl, worked_out x s.low, worked_out y s.high)
  worked_out (parity x) s = (refl, refl, λ p. refl, worked_out x s.card)

  pub stacks_stand : StacksStand a b
  stacks_stand = record { lawful = stack_laws; worked = worked_out }

module _ (c : CodeModel) (m : CardModel) (cl : CodeLaws c) (ml : CardLaws m) where
  -- what the induction carries: a unit of so many places that a history led to a state
  pub record Held (n : ℕ) (h : History) (s : UnitState m.State) : Type 0 where
    pub count : places c m s.card ≡ n
    pub hands : Hands c m cl h s.card
    pub fine : Fine s.log
    pub counts : Counts c.n c.k n h s.log.counter
    pub owes : AllOwed c.n c.k n h

  held_new : (t : m.State) → Held (places c m t) [] (new_unit c m t)
  held_new t = record { count = refl; hands = λ p z. absurd z; fine = fine_new; counts = λ _. refl; owes = tt }

  same_count : (t u : m.State) (d : Made) → Effect c m t u d → places c m u ≡ places c m t
  same_count t u d (idle s st hi) = s.count
  same_count t u d (stored q v l b put g st hi la) = put.count
  same_count t u d (flipped q x raw l is put g st hi) = put.count

  fine_kept : (s : UnitState m.State) (mt : Option ℕ) (l : LogState) → LogStep c m s mt l → Fine s.log → Fine l
  fine_kept s None l e f = subst Fine (sym e) f
  fine_kept s (Some p) l e f =
      let i = fits_from_place c m s p e.0 in
      subst Fine (sym e.1) (fine_logged c cl p (m.entry s.card p) s.log (subst (λ w. Within w (m.entry s.card p)) i.0 (ml.within s.card p i.1)) f)

  fine_step : (s : UnitState m.State) (k : Call) → Fine s.log → Fine (step c m s k).state.log
  fine_step s k f =
      ⊎_elim
      (λ e. fine_clear k e)
      (λ e. fine_kept s (meets c.n c.k (places c m s.card) k) (step c m s k).state.log (log_step c m cl ml s k e) f)
      (cases_Bool (is_clear c.n c.k (places c m s.card) k))
    where
      never : {A : Type 0} → false ≡ true → A
      never e = let z : ◌≡◌ {A = ℕ} 0 1 = cc in absurd (omega arith)

      fine_clear : (k : Call) → is_clear c.n c.k (places c m s.card) k ≡ true → Fine (step c m s k).state.log
      fine_clear (Read p) e = never e
      fine_clear (Write p w) e = never e
      fine_clear (Merge p w n) e = never e
      fine_clear (Scrub p) e = never e
      fine_clear (Inject p x) e = never e
      fine_clear Log e = never e
      fine_clear First e = never e
      fine_clear Clear e = fine_new

  held_step : (n : ℕ) (h : History) (s : UnitState m.State) (k : Call) → Held n h s → Held n (record { call = k; answer = (step c m s k).answer } ∷ h) (step c m s k).state
  held_step n h s k held =
      let e = effect c m cl ml s k in
      let counts = subst (λ x. Counts c.n c.k x h s.log.counter) (sym held.count) held.counts in
      record {
        count = same_count s.card (step c m s k).state.card _ e ∙ held.count;
        hands = hands_kept c m cl h s.card (step c m s k).state.card _ held.hands e;
        fine = fine_step s k held.fine;
        counts = subst (λ x. Counts c.n c.k x (record { call = k; answer = (step c m s k).answer } ∷ h) (step c m s k).state.log.counter) held.count (counts_kept c m cl ml h s held.hands k counts);
        owes = (subst (λ x. Owed c.n c.k x h k (step c m s k).answer) held.count (owed c m cl ml h s held.hands k held.fine counts), held.owes);
      }

  held_run : (n : ℕ) (h : History) (s : UnitState m.State) (calls : List Call) → Held n h s → Held n (past h calls (answers c m s calls)) (final c m s calls)
  held_run n h s [] held = held
  held_run n h s (k ∷ calls) held = held_run n (record { call = k; answer = (step c m s k).answer } ∷ h) (step c m s k).state calls (held_step n h s k held)

  -- the promise, from what the induction carries
  kept_held : (n : ℕ) (h : History) (s : UnitState m.State) → Held n h s → Kept c m h s
  kept_held n h s held = record {
    stacks = stacks_stand m (unit_card c m) ml (unit_laws c m cl ml);
    owed = subst (λ x. AllOwed c.n c.k x h) (sym held.count) held.owes;
    counted = subst (λ x. Counts c.n c.k x h s.log.counter) (sym held.count) held.counts;
  }

  pub runs_keep : RunsKeep c m
  runs_keep t calls = kept_held (places c m t) _ _ (held_run (places c m t) [] (new_unit c m t) calls (held_new t))
