-- A watcher's places and its log, one call after another. Assumes nothing.
use Rattle.std.proofs.Common.{◌≡◌, ℕ, zero, suc, ◌+◌, ◌/◌, ◌<◌, ◌≤◌, min, cond, ltb, List, length, set, Some, None, Option, sym, refl, ap, ◌∙◌, subst, ⊎_elim, arith, length-set}
use Rattle.std.proofs.lemmas.List.{get_or-set_same, get_or-set_other}
use Rattle.std.proofs.lemmas.Bool.{cases_Bool, cases_lt, cases_eq, cond-true, cond-false, lt-ltb, le-ltb}
use Rattle.std.proofs.lemmas.Option.{same_Some}
use Rattle.runs.specs.Histories.{Made, History, upset, number_of, upset_cells}
use Rattle.runs.specs.Promises.{upset_met, met_errors}
use Rattle.runs.proofs.Masks.{number_same}
use Rattle.runs.proofs.Pasts.{true_holds}
use Rattle.audit.specs.Watching.{marked, Sees}
use Rattle.audit.specs.Watchers.{nowhere, watch_of, Follows, SeesLog, SeesReading, Watches, log_met, log_read}
use Rattle.audit.specs.declared.watching.Watch.{Watch}
use Rattle.audit.specs.declared.watchers.Watcher.{Watcher}

-- the first i of four watches have seen one more call, and the others are as they were
pub record MovedTo (cells lanes : ℕ) (d : Made) (start : List Watch) (i : ℕ) (moved : List Watch) : Type 0 where
  pub four_long : length moved ≡ 4
  pub follow : (p : ℕ) → p < i → Follows cells lanes d (watch_of start p) (watch_of moved p)
  pub rest : (p : ℕ) → i ≤ p → watch_of moved p ≡ watch_of start p

pub moved_more : (cells lanes : ℕ) (d : Made) (start : List Watch) (i : ℕ) (moved : List Watch) (v : Watch) → i < 4 →
    MovedTo cells lanes d start i moved → Follows cells lanes d (watch_of start i) v → MovedTo cells lanes d start (i + 1) (set moved i v)
moved_more cells lanes d start i moved v b m f = record {
  four_long = length-set moved i v ∙ m.four_long;
  follow = λ p l.
      ⊎_elim
      (λ q. subst (λ k. Follows cells lanes d (watch_of start k) (watch_of (set moved i v) k)) (sym q)
      (subst (λ (x : Watch). Follows cells lanes d (watch_of start i) x) (sym (get_or-set_same moved i v nowhere (subst (λ n. i < n) (sym m.four_long) b))) f))
      (λ ne. subst (λ (x : Watch). Follows cells lanes d (watch_of start p) x) (sym (get_or-set_other moved i p v nowhere ne)) (m.follow p (omega arith)))
      (cases_eq p i);
  rest = λ p l. get_or-set_other moved i p v nowhere (λ q. omega arith) ∙ m.rest p (omega arith);
}

-- what holds of each number below four
pub each_of_four : (P : ℕ → Type 0) → P 0 → P 1 → P 2 → P 3 → (p : ℕ) → p < 4 → P p
each_of_four P a b c d zero l = a
each_of_four P a b c d (suc zero) l = b
each_of_four P a b c d (suc (suc zero)) l = c
each_of_four P a b c d (suc (suc (suc zero))) l = d
each_of_four P a b c d (suc (suc (suc (suc p)))) l = absurd (omega arith)

module _ (n k places : ℕ) (h : History) where
  -- where nothing is told of the log
  nothing_told : (met : Option ℕ) → SeesReading n k places h met None
  nothing_told met = record { all_then = λ e q. cc; counted_then = λ e q. cc }

  module _ (w : Watch) (seen : Sees (n + k) (n / 8) h w) where
    count_there : number_of (marked w.upset) (n + k) ≡ upset_cells (n + k) h w.place
    count_there = number_same (upset h w.place) (marked w.upset) (n + k) seen.cells_upset

    counted_met : (v : ℕ) → v ≡ min 15 (met_errors n k places h) →
        cond (ltb 0 (number_of (marked w.upset) (n + k))) (min 15 (v + 1)) v ≡ min 15 (upset_met n k places h (Some w.place) + met_errors n k places h)
    counted_met v c =
        ⊎_elim
        (λ t.
        let u : upset_met n k places h (Some w.place) ≡ 1 = cond-true _ _ _ (sym (ap (ltb 0) count_there) ∙ t) in
        cond-true _ _ _ t ∙ omega arith)
        (λ f.
        let u : upset_met n k places h (Some w.place) ≡ 0 = cond-false _ _ _ (sym (ap (ltb 0) count_there) ∙ f) in
        cond-false _ _ _ f ∙ omega arith)
        (cases_Bool (ltb 0 (number_of (marked w.upset) (n + k))))

    pub place_met : (l : Option ℕ) → SeesLog n k places h l → SeesReading n k places h (Some w.place) (log_met (n + k) l w)
    place_met None s = nothing_told (Some w.place)
    place_met (Some v) s =
        ⊎_elim
        (λ e.
        subst (λ o. SeesReading n k places h (Some w.place) o) (sym (cond-true _ _ _ e))
        (record {
          all_then = λ _ _. (true_holds _ (sym seen.hand ∙ e), s.all v refl);
          counted_then = λ x q. sym (same_Some _ _ q) ∙ counted_met v (s.counted v refl);
        }))
        (λ e. subst (λ o. SeesReading n k places h (Some w.place) o) (sym (cond-false _ _ _ e)) (nothing_told (Some w.place)))
        (cases_Bool w.in_hand)

-- after a reading of p, which may be a place that is not watched
pub place_read : (h : History) (w : Watcher) → Watches w h → (p : ℕ) → SeesReading w.shape.width w.shape.checks w.shape.places h (Some p) (log_read w p)
place_read h w s p =
    let n = w.shape.width in
    let k = w.shape.checks in
    let places = w.shape.places in
    let met = watch_of w.watches p in
    ⊎_elim
    (λ l.
    subst (λ o. SeesReading n k places h (Some p) o) (sym (cond-true _ _ _ (lt-ltb p 4 l)))
    (subst (λ q. SeesReading n k places h (Some q) (log_met (n + k) w.errors_met met)) (s.place_is p l)
    (place_met n k places h met (s.place_seen p l) w.errors_met s.log_seen)))
    (λ l. subst (λ o. SeesReading n k places h (Some p) o) (sym (cond-false _ _ _ (le-ltb p 4 l))) (nothing_told n k places h (Some p)))
    (cases_lt p 4)
