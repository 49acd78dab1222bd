-- A unit over a lawful card, with a lawful code, is a lawful card. Assumes nothing.
use Rattle.std.proofs.Common.{◌≡◌, ℕ, ◌+◌, ◌^◌, ◌<◌, ◌≤◌, cond, eqb, refl, ap, ◌∙◌, subst, arith}
use Rattle.std.proofs.lemmas.Bool.{cond_both, eqb-true}
use Rattle.code.specs.Codes.{CodeModel, CodeLaws, codeword}
use Rattle.card.specs.Cards.{CardModel, CardLaws, Within}
use Rattle.parts.specs.Units.{UnitState, unit_card, unit_entry}
use Rattle.card.specs.WidthFacts.{place_from}
use Rattle.code.proofs.Distances.{codeword_below}
use Rattle.parts.proofs.CodeFacts.{entry_within, entry_codeword}

module _ (c : CodeModel) (m : CardModel) where
  -- a unit that has a place fits the card below, which has that place too
  pub fits_from_place : (s : UnitState m.State) (p : ℕ) → p < (unit_card c m).count s → (m.width s.card ≡ c.n + c.k) × (p < m.count s.card)
  fits_from_place s p h =
      let both = place_from (eqb (m.width s.card) (c.n + c.k)) (m.count s.card) p h in
      (eqb-true _ _ both.0, both.1)

module _ (c : CodeModel) (m : CardModel) (cl : CodeLaws c) (ml : CardLaws m) where
  unit_few : (s : UnitState m.State) → (unit_card c m).count s ≤ 65536
  unit_few s = cond_both (eqb (m.width s.card) (c.n + c.k)) (m.count s.card) 0 (λ n. n ≤ 65536) (λ _. ml.few s.card) (λ _. omega arith)

  -- a word that fits the unit is laid in a raw word that fits the card below
  pub codeword_fits : (s : UnitState m.State) (p v : ℕ) → p < (unit_card c m).count s → v < 2 ^ c.n → codeword c v < 2 ^ m.width s.card
  codeword_fits s p v h b = rw (fits_from_place c m s p h).0 (codeword_below c cl v b)

  -- the same width and count below are the same count above
  same_count : (s t : UnitState m.State) → m.width t.card ≡ m.width s.card → m.count t.card ≡ m.count s.card → (unit_card c m).count t ≡ (unit_card c m).count s
  same_count s t w n = ap (λ x. cond (eqb x (c.n + c.k)) (m.count t.card) 0) w ∙ ap (λ x. cond (eqb (m.width s.card) (c.n + c.k)) x 0) n

  pub unit_laws : CardLaws (unit_card c m)
  unit_laws = record {
    wide_least = λ s. let l = cl.n_least in omega arith;
    wide_most = λ s. let l = cl.n_most in omega arith;
    few = unit_few;
    within = λ s p h.
        let f = fits_from_place c m s p h in
        entry_within c cl p (m.entry s.card p) (subst (λ w. Within w (m.entry s.card p)) f.0 (ml.within s.card p f.1));
    read_width = λ s p h. refl;
    read_count = λ s p h. let q = (fits_from_place c m s p h).1 in same_count s ((unit_card c m).after_read s p) (ml.read_width s.card p q) (ml.read_count s.card p q);
    read_entry = λ s p q h k. ap (unit_entry c q) (ml.read_entry s.card p q (fits_from_place c m s p h).1 (fits_from_place c m s q k).1);
    write_width = λ s p v h b. refl;
    write_count = λ s p v h b.
        let q = (fits_from_place c m s p h).1 in
        let f = codeword_fits s p v h b in
        same_count s ((unit_card c m).after_write s p v) (ml.write_width s.card p (codeword c v) q f) (ml.write_count s.card p (codeword c v) q f);
    write_here = λ s p v h b. ap (unit_entry c p) (ml.write_here s.card p (codeword c v) (fits_from_place c m s p h).1 (codeword_fits s p v h b)) ∙ entry_codeword c cl p v b;
    write_there = λ s p q v h k ne b. ap (unit_entry c q) (ml.write_there s.card p q (codeword c v) (fits_from_place c m s p h).1 (fits_from_place c m s q k).1 ne (codeword_fits s p v h b));
  }
