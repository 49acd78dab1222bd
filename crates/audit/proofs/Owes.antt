-- What a watch that sees makes owed is what the promise makes owed. Assumes nothing.
use Rattle.std.proofs.Common.{◌≡◌, ℕ, ◌+◌, ◌/◌, ◌^◌, ◌<◌, ◌≤◌, ◌↔◌, Bool, true, false, MatchOption, not, T, Some, None, Ok, Err, Option, sym, ap, ◌∙◌, subst, ⊎_elim, arith}
use Rattle.std.proofs.lemmas.Bool.{cases_Bool, cases_lt, cond-true, cond-false, not-false, both_ways, lt-ltb, le-ltb}
use Rattle.word.specs.Words.{of_value}
use Rattle.word.specs.Faults.{arisen}
use Rattle.word.specs.declared.words.Word.{Word}
use Rattle.word.specs.declared.refusals.Refusal.TheVariants.{Two as TWO}
use Rattle.word.proofs.Values.{word_is}
use Rattle.unit.specs.declared.calls.Call.{Call}
use Rattle.unit.specs.declared.calls.Call.TheVariants.{Read, Write, Merge, Scrub, Inject, Log, First, Clear}
use Rattle.unit.specs.Steps.{Answer}
use Rattle.unit.specs.declared.calls.Reply.{Reply}
use Rattle.unit.specs.declared.calls.Reply.TheVariants.{Gave, Merged}
use Rattle.runs.specs.Histories.{History, upset, number_of, upset_cells, is_in_hand, last_laid}
use Rattle.runs.specs.Promises.{keeps, Reads, Owed}
use Rattle.runs.proofs.Masks.{number_same}
use Rattle.runs.proofs.Pasts.{holds_true, true_holds}
use Rattle.audit.specs.Watching.{marked, Sees}
use Rattle.audit.specs.Owing.{Pays, Settles, named, finding, due_reading, due_inject, due_at}
use Rattle.audit.specs.declared.watching.Watch.{Watch}
use Rattle.audit.specs.declared.owing.Due.{Due}
use Rattle.audit.specs.declared.owing.Due.TheVariants.{This}

module _ (n k places : ℕ) (h : History) (w : Watch) (s : Sees (n + k) (n / 8) h w) where
  in_hand_is : w.in_hand ≡ true → T (is_in_hand (n + k) h w.place)
  in_hand_is e = true_holds _ (sym s.hand ∙ e)

  out_of_hand : w.in_hand ≡ false → T (is_in_hand (n + k) h w.place) → ⊥
  out_of_hand e t = both_ways _ (sym s.hand ∙ e) (holds_true _ t)

  count_is : number_of (marked w.upset) (n + k) ≡ upset_cells (n + k) h w.place
  count_is = number_same (upset h w.place) (marked w.upset) (n + k) s.cells_upset

  module _ (fits : w.laid.low < 2 ^ 64) where
    word_there : w.laid ≡ of_value (last_laid (n / 8) h w.place)
    word_there = word_is w.laid.low w.laid.top (last_laid (n / 8) h w.place) fits (sym s.word)

    reads_same : (told : Word → Reply) (a : Answer) → Settles (due_reading told (finding (n + k) w)) a ↔ Reads n k places h w.place (λ old. Ok (told old)) a
    reads_same told a =
        ⊎_elim
        (λ e.
        ⊎_elim
        (λ l.
        let found : finding (n + k) w ≡ Some (Ok w.laid) = cond-true _ _ _ e ∙ ap Some (cond-true _ _ _ (lt-ltb _ 2 l)) in
        let less : upset_cells (n + k) h w.place < 2 = subst (λ c. c < 2) count_is l in
        subst (λ o. Settles (due_reading told o) a ↔ Reads n k places h w.place (λ old. Ok (told old)) a) (sym found)
        (λ is t. (λ _. is ∙ ap (λ old. Ok (told old)) word_there, λ two. absurd (omega arith)), λ r. (r (in_hand_is e)).0 less ∙ ap (λ old. Ok (told old)) (sym word_there)))
        (λ l.
        let found : finding (n + k) w ≡ Some (Err (arisen TWO w.place)) = cond-true _ _ _ e ∙ ap Some (cond-false _ _ _ (le-ltb _ 2 l)) in
        let more : 2 ≤ upset_cells (n + k) h w.place = subst (λ c. 2 ≤ c) count_is l in
        subst (λ o. Settles (due_reading told o) a ↔ Reads n k places h w.place (λ old. Ok (told old)) a) (sym found)
        (λ is t. (λ less. absurd (omega arith), λ _. is), λ r. (r (in_hand_is e)).1 more))
        (cases_lt (number_of (marked w.upset) (n + k)) 2))
        (λ e.
        let found : finding (n + k) w ≡ None = cond-false _ _ _ e in
        subst (λ o. Settles (due_reading told o) a ↔ Reads n k places h w.place (λ old. Ok (told old)) a) (sym found)
        (λ _ t. absurd (out_of_hand e t), λ _. tt))
        (cases_Bool w.in_hand)

    inject_same : (x : ℕ) (a : Answer) → Settles (due_inject (n + k) w x) a ↔ Owed n k places h (Inject w.place x) a
    inject_same x a =
        ⊎_elim
        (λ e.
        ⊎_elim
        (λ l.
        subst (λ (o : Option Due). Settles o a ↔ Owed n k places h (Inject w.place x) a) (sym (cond-true _ _ _ e ∙ ap (λ b. Some (This b)) (cond-true _ _ _ (lt-ltb _ (n + k) l))))
        (λ is t. (λ _. is, λ m. absurd (omega arith)), λ r. (r (in_hand_is e)).0 l))
        (λ l.
        subst (λ (o : Option Due). Settles o a ↔ Owed n k places h (Inject w.place x) a) (sym (cond-true _ _ _ e ∙ ap (λ b. Some (This b)) (cond-false _ _ _ (le-ltb _ (n + k) l))))
        (λ is t. (λ m. absurd (omega arith), λ _. is), λ r. (r (in_hand_is e)).1 l))
        (cases_lt x (n + k)))
        (λ e.
        subst (λ (o : Option Due). Settles o a ↔ Owed n k places h (Inject w.place x) a) (sym (cond-false _ _ _ e))
        (λ _ t. absurd (out_of_hand e t), λ _. tt))
        (cases_Bool w.in_hand)

    kept_same : (v : Word) (e : ℕ) (a : Answer) → Settles (due_at n k w (Merge w.place v e)) a ↔ Owed n k places h (Merge w.place v e) a
    kept_same v e a =
        let old = reads_same (λ o. Merged (Some o)) a in
        ⊎_elim
        (λ y.
        subst (λ (o : Option Due). Settles o a ↔ Owed n k places h (Merge w.place v e) a) (sym (cond-true _ _ _ y))
        (λ p t. old.0 p, λ r. old.1 (r (true_holds _ y))))
        (λ z.
        subst (λ (o : Option Due). Settles o a ↔ Owed n k places h (Merge w.place v e) a) (sym (cond-false _ _ _ z))
        (λ _ t. absurd (both_ways _ z (holds_true _ t)), λ _. tt))
        (cases_Bool (keeps n k places v e))

    -- at every call that names the place
    pub due_same : (c : Call) → named c ≡ Some w.place → (a : Answer) → Settles (due_at n k w c) a ↔ Owed n k places h c a
    due_same (Read p) e a = let q : w.place ≡ p = cc in subst (λ x. Settles (due_at n k w (Read p)) a ↔ Owed n k places h (Read x) a) q (reads_same Gave a)
    due_same (Write p v) e a = (λ x. x, λ x. x)
    due_same (Merge p v m) e a = let q : w.place ≡ p = cc in subst (λ x. Settles (due_at n k w (Merge p v m)) a ↔ Owed n k places h (Merge x v m) a) q (kept_same v m a)
    due_same (Scrub p) e a = let q : w.place ≡ p = cc in subst (λ x. Settles (due_at n k w (Scrub p)) a ↔ Owed n k places h (Scrub x) a) q (reads_same (λ o. Merged (Some o)) a)
    due_same (Inject p x) e a = let q : w.place ≡ p = cc in subst (λ y. Settles (due_at n k w (Inject p x)) a ↔ Owed n k places h (Inject y x) a) q (inject_same x a)
    due_same Log e a = cc
    due_same First e a = (λ x. x, λ x. x)
    due_same Clear e a = (λ x. x, λ x. x)

pub not_paid : {P : Type 0} (r q : Bool) → r ≡ not q → (q ≡ true → P) × (P → q ≡ true) → (r ≡ false) ↔ P
not_paid r q e p = (λ f. p.0 (not-false q (sym e ∙ f)), λ x. e ∙ ap not (p.1 x))

-- a test of what is due, which fails where nothing is
pub none_differs : {P : Due → Type 0} (o : Option Due) (a : Answer) (r : Bool) → MatchOption o (r ≡ false) P → ((d : Due) → P d → (r ≡ false) ↔ Pays d a) → (r ≡ false) ↔ Settles o a
none_differs None a r m f = (λ _. tt, λ _. m)
none_differs (Some d) a r m f = f d m
