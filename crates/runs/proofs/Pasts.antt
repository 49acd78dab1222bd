-- How one more call changes the words for the past. Assumes nothing.
use Rattle.std.proofs.Common.{◌≡◌, ℕ, suc, ◌%◌, ◌<◌, Bool, true, false, not, ◌&&◌, T, eqb, ltb, ◌∷◌, sym, refl, ap, ◌∙◌, subst, ⊎_elim, arith}
use Rattle.std.proofs.lemmas.Bool.{cases_eq, cond-true, cond-false, and_parts, and_left, ltb-true, eq-eqb, ne_eqb}
use Rattle.runs.specs.Histories.{Made, History, granted, writes, stores, hits, hits_since, upset, upset_cells, is_in_hand, laid_by, last_laid}
use Rattle.unit.specs.declared.calls.Call.{Call}
use Rattle.unit.specs.declared.calls.Call.TheVariants.{Read, Write, Merge, Scrub, Inject, Log, First, Clear}

pub holds_true : (b : Bool) → T b → b ≡ true
holds_true true t = refl
holds_true false t = absurd t

pub true_holds : (b : Bool) → b ≡ true → T b
true_holds true e = tt
true_holds false e = let z : ◌≡◌ {A = ℕ} 0 1 = cc in absurd (omega arith)

-- whoever writes stores
pub not_writes : (p : ℕ) (k : Call) → stores p k ≡ false → writes p k ≡ false
not_writes p (Read q) e = refl
not_writes p (Write q w) e = e
not_writes p (Merge q w n) e = and_left (eqb p q) (eqb n 0) e
not_writes p (Scrub q) e = refl
not_writes p (Inject q x) e = refl
not_writes p Log e = refl
not_writes p First e = refl
not_writes p Clear e = refl

-- one more is odd just where it was even
turned : (n : ℕ) → eqb (suc n % 2) 1 ≡ not (eqb (n % 2) 1)
turned n =
    ⊎_elim
    (λ e. ne_eqb _ 1 (λ f. omega arith) ∙ sym (ap not (eq-eqb (n % 2) 1 e)))
    (λ ne. eq-eqb _ 1 (omega arith) ∙ sym (ap not (ne_eqb (n % 2) 1 ne)))
    (cases_eq (n % 2) 1)

-- a place in hand that was not written just now was in hand before
pub hand_over : (cells : ℕ) (d : Made) (h : History) (p : ℕ) → (granted d.answer && writes p d.call) ≡ false → T (is_in_hand cells (d ∷ h) p) → T (is_in_hand cells h p)
hand_over cells d h p w t =
    true_holds _ (and_parts (is_in_hand cells h p) (ltb (upset_cells cells (d ∷ h) p) 3) (holds_true _ (subst T (cond-false _ _ _ w) t))).0

pub few_upset : (cells : ℕ) (d : Made) (h : History) (p : ℕ) → (granted d.answer && writes p d.call) ≡ false → T (is_in_hand cells (d ∷ h) p) → upset_cells cells (d ∷ h) p < 3
few_upset cells d h p w t =
    ltb-true _ 3 (and_parts (is_in_hand cells h p) (ltb (upset_cells cells (d ∷ h) p) 3) (holds_true _ (subst T (cond-false _ _ _ w) t))).1

module _ (cells lanes : ℕ) (d : Made) (h : History) (p : ℕ) where
  -- a call that neither stores nor hits here
  module _ (quiet : (granted d.answer && stores p d.call) ≡ false) where
    pub laid_kept : last_laid lanes (d ∷ h) p ≡ last_laid lanes h p
    laid_kept = cond-false _ _ _ quiet

    pub upset_kept : (x : ℕ) → (granted d.answer && hits p x d.call) ≡ false → upset (d ∷ h) p x ≡ upset h p x
    upset_kept x e = ap (λ n. eqb (n % 2) 1) (cond-false _ _ _ quiet ∙ cond-false _ _ _ e)

    pub upset_turned : (x : ℕ) → (granted d.answer && hits p x d.call) ≡ true → upset (d ∷ h) p x ≡ not (upset h p x)
    upset_turned x e = ap (λ n. eqb (n % 2) 1) (cond-false _ _ _ quiet ∙ cond-true _ _ _ e) ∙ turned (hits_since h p x)

  -- a granted call that stores here
  module _ (loud : (granted d.answer && stores p d.call) ≡ true) where
    pub laid_new : last_laid lanes (d ∷ h) p ≡ laid_by lanes (last_laid lanes h p) d.call
    laid_new = cond-true _ _ _ loud

    pub upset_none : (x : ℕ) → upset (d ∷ h) p x ≡ false
    upset_none x = ap (λ n. eqb (n % 2) 1) (cond-true _ _ _ loud)
