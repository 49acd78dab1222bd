-- One more call, seen by a watch. Assumes nothing.
use Rattle.std.proofs.Common.{◌≡◌, ℕ, ◌<◌, ◌≤◌, Bool, true, false, cond, not, ◌&&◌, ltb, ◌∷◌, sym, ap, ◌∙◌, ⊎_elim, arith}
use Rattle.std.proofs.lemmas.Bool.{cases_Bool, cond-true, cond-false}
use Rattle.word.specs.Words.{value}
use Rattle.runs.specs.Histories.{Made, History, granted, writes, stores, hits, upset, number_of, upset_cells, is_in_hand, laid_by, last_laid}
use Rattle.runs.proofs.Masks.{number_same}
use Rattle.runs.proofs.Pasts.{laid_kept, laid_new, upset_kept, upset_turned, upset_none}
use Rattle.audit.specs.Watching.{marked, Sees, Told}
use Rattle.audit.specs.declared.watching.Watch.{Watch}

-- what a call makes of a watch w, but for its being in hand
pub record Stepped (cells lanes : ℕ) (d : Made) (w u : Watch) : Type 0 where
  pub here : u.place ≡ w.place
  pub turned : (x : ℕ) → x < cells → marked u.upset x ≡
      cond (granted d.answer && stores w.place d.call) false
      (cond (granted d.answer && hits w.place x d.call) (not (marked w.upset x)) (marked w.upset x))
  pub laid_then : value u.laid ≡ cond (granted d.answer && stores w.place d.call) (laid_by lanes (value w.laid) d.call) (value w.laid)

module _ (cells lanes : ℕ) (d : Made) (w u : Watch) where
  pub step_granted : granted d.answer ≡ true → cells ≤ 72 → Told 72 lanes d.call w u → Stepped cells lanes d w u
  step_granted g b t = record {
    here = t.same_place;
    turned = λ x l. t.marks x (omega arith) ∙
        ap (λ a. cond (a && stores w.place d.call) false (cond (a && hits w.place x d.call) (not (marked w.upset x)) (marked w.upset x))) (sym g);
    laid_then = t.word ∙ ap (λ a. cond (a && stores w.place d.call) (laid_by lanes (value w.laid) d.call) (value w.laid)) (sym g);
  }

  pub step_refused : granted d.answer ≡ false → u ≡ w → Stepped cells lanes d w u
  step_refused g e = record {
    here = ap (λ (a : Watch). a.place) e;
    turned = λ x l. ap (λ (a : Watch). marked a.upset x) e ∙
        ap (λ a. cond (a && stores w.place d.call) false (cond (a && hits w.place x d.call) (not (marked w.upset x)) (marked w.upset x))) (sym g);
    laid_then = ap (λ (a : Watch). value a.laid) e ∙
        ap (λ a. cond (a && stores w.place d.call) (laid_by lanes (value w.laid) d.call) (value w.laid)) (sym g);
  }

module _ (cells lanes : ℕ) (d : Made) (h : History) (w u : Watch) (s : Sees cells lanes h w) (t : Stepped cells lanes d w u) where
  cells_next : (x : ℕ) → x < cells → marked u.upset x ≡ upset (d ∷ h) w.place x
  cells_next x b =
      ⊎_elim
      (λ loud. t.turned x b ∙ cond-true _ _ _ loud ∙ sym (upset_none cells lanes d h w.place loud x))
      (λ quiet.
      t.turned x b ∙ cond-false _ _ _ quiet ∙
      ⊎_elim
      (λ hit. cond-true _ _ _ hit ∙ ap not (s.cells_upset x b) ∙ sym (upset_turned cells lanes d h w.place quiet x hit))
      (λ calm. cond-false _ _ _ calm ∙ s.cells_upset x b ∙ sym (upset_kept cells lanes d h w.place quiet x calm))
      (cases_Bool (granted d.answer && hits w.place x d.call)))
      (cases_Bool (granted d.answer && stores w.place d.call))

  word_next : value u.laid ≡ last_laid lanes (d ∷ h) w.place
  word_next =
      ⊎_elim
      (λ loud. t.laid_then ∙ cond-true _ _ _ loud ∙ ap (λ o. laid_by lanes o d.call) s.word ∙ sym (laid_new cells lanes d h w.place loud))
      (λ quiet. t.laid_then ∙ cond-false _ _ _ quiet ∙ s.word ∙ sym (laid_kept cells lanes d h w.place quiet))
      (cases_Bool (granted d.answer && stores w.place d.call))

  module _ (b : Bool) (e : b ≡ cond (granted d.answer && writes w.place d.call) true (w.in_hand && ltb (number_of (marked u.upset) cells) 3)) where
    hand_next : b ≡ is_in_hand cells (d ∷ h) w.place
    hand_next =
        e ∙ ap (λ n. cond (granted d.answer && writes w.place d.call) true (w.in_hand && ltb n 3))
        (number_same (upset (d ∷ h) w.place) (marked u.upset) cells cells_next) ∙
        ap (λ a. cond (granted d.answer && writes w.place d.call) true (a && ltb (upset_cells cells (d ∷ h) w.place) 3)) s.hand

    -- so the watch with that for its being in hand sees the call
    pub sees_next : Sees cells lanes (d ∷ h) (record { place = u.place; upset = u.upset; in_hand = b; laid = u.laid })
    sees_next = record {
      cells_upset = λ x l. cells_next x l ∙ ap (λ q. upset (d ∷ h) q x) (sym t.here);
      hand = hand_next ∙ ap (is_in_hand cells (d ∷ h)) (sym t.here);
      word = word_next ∙ ap (last_laid lanes (d ∷ h)) (sym t.here);
    }
