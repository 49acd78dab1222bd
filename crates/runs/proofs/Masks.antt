-- Cells complemented by a test, and what a unit makes of at most two of them. Assumes nothing.
use Rattle.std.proofs.Common.{◌≡◌, ℕ, zero, suc, ◌+◌, ◌^◌, ◌<◌, Bool, true, false, cond, not, eqb, sym, refl, ap, ◌∙◌, subst, ⊎_elim, arith}
use lib.Bits.{bit_xor, xor_assoc, xor_comm, xor_zero_r}
use lib.Count.{ones}
use Rattle.std.proofs.lemmas.Bool.{cases_Bool, cases_eq, not_from_true, not_from_false, eq-eqb, ne_eqb}
use Rattle.word.specs.Faults.{arisen}
use Rattle.word.specs.declared.refusals.Refusal.TheVariants.{Two as TWO}
use Rattle.code.specs.Codes.{CodeModel, CodeLaws, codeword, syndrome}
use Rattle.code.specs.Decoding.{cell_column, decoded}
use Rattle.code.proofs.Distances.{same_from_xor, xor_twice, cell_odd, cell_apart, codeword_clean}
use Rattle.code.proofs.Decoded.{single_syndrome, double_syndrome, single_corrected, double_refused, decoded_codeword}
use Rattle.card.specs.Cards.{holds, faulty}
use Rattle.parts.specs.Units.{told, unit_entry}
use Rattle.runs.specs.Histories.{number_of}

-- the cells among the first w that pass a test, each as its power of two
abbrev pub mask : (ℕ → Bool) → ℕ → ℕ
mask f zero = 0
mask f (suc w) = bit_xor (mask f w) (cond (f w) (2 ^ w) 0)

module _ (f : ℕ → Bool) where
  -- the last cell passes or does not
  count_passed : (w : ℕ) → f w ≡ true → number_of f (suc w) ≡ number_of f w + 1
  count_passed w e = ap (λ b. number_of f w + cond b 1 0) e

  count_failed : (w : ℕ) → f w ≡ false → number_of f (suc w) ≡ number_of f w
  count_failed w e = ap (λ b. number_of f w + cond b 1 0) e ∙ omega arith

  mask_passed : (w : ℕ) → f w ≡ true → mask f (suc w) ≡ bit_xor (mask f w) (2 ^ w)
  mask_passed w e = ap (λ b. bit_xor (mask f w) (cond b (2 ^ w) 0)) e

  mask_failed : (w : ℕ) → f w ≡ false → mask f (suc w) ≡ mask f w
  mask_failed w e = ap (λ b. bit_xor (mask f w) (cond b (2 ^ w) 0)) e ∙ xor_zero_r (mask f w)

  pub mask_none : (w : ℕ) → number_of f w ≡ 0 → mask f w ≡ 0
  mask_none zero z = refl
  mask_none (suc w) z =
      ⊎_elim
      (λ e. let c = count_passed w e in absurd (omega arith))
      (λ e. mask_failed w e ∙ mask_none w (sym (count_failed w e) ∙ z))
      (cases_Bool (f w))

  pub mask_one : (w : ℕ) → number_of f w ≡ 1 → (x : ℕ) × (x < w) × (mask f w ≡ 2 ^ x)
  mask_one zero o = absurd (omega arith)
  mask_one (suc w) o =
      ⊎_elim
      (λ e.
      let c = count_passed w e in
      (w, omega arith, mask_passed w e ∙ ap (λ m. bit_xor m (2 ^ w)) (mask_none w (omega arith))))
      (λ e. let r = mask_one w (sym (count_failed w e) ∙ o) in let b = r.1 in (r.0, omega arith, mask_failed w e ∙ r.2))
      (cases_Bool (f w))

  pub mask_two : (w : ℕ) → number_of f w ≡ 2 → (x y : ℕ) × (x < y) × (y < w) × (mask f w ≡ bit_xor (2 ^ x) (2 ^ y))
  mask_two zero o = absurd (omega arith)
  mask_two (suc w) o =
      ⊎_elim
      (λ e.
      let c = count_passed w e in
      let r = mask_one w (omega arith) in
      (r.0, w, r.1, omega arith, mask_passed w e ∙ ap (λ m. bit_xor m (2 ^ w)) r.2))
      (λ e. let r = mask_two w (sym (count_failed w e) ∙ o) in let b = r.3 in (r.0, r.1, r.2, omega arith, mask_failed w e ∙ r.4))
      (cases_Bool (f w))

module _ (f g : ℕ → Bool) where
  pub mask_same : (w : ℕ) → ((x : ℕ) → x < w → g x ≡ f x) → mask g w ≡ mask f w
  mask_same zero h = refl
  mask_same (suc w) h =
      ap (λ m. bit_xor m (cond (g w) (2 ^ w) 0)) (mask_same w (λ x b. h x (omega arith))) ∙ ap (λ b. bit_xor (mask f w) (cond b (2 ^ w) 0)) (h w (omega arith))

  pub number_same : (w : ℕ) → ((x : ℕ) → x < w → g x ≡ f x) → number_of g w ≡ number_of f w
  number_same zero h = refl
  number_same (suc w) h =
      ap (λ m. m + cond (g w) 1 0) (number_same w (λ x b. h x (omega arith))) ∙ ap (λ b. number_of f w + cond b 1 0) (h w (omega arith))

  -- one cell passes that failed, or fails that passed
  pub mask_toggled : (w x : ℕ) → x < w → g x ≡ not (f x) → ((y : ℕ) → (y ≡ x → ⊥) → g y ≡ f y) → mask g w ≡ bit_xor (mask f w) (2 ^ x)
  mask_toggled zero x h t s = absurd (omega arith)
  mask_toggled (suc w) x h t s =
      ⊎_elim
      (λ e.
      let below : mask g w ≡ mask f w = mask_same w (λ y b. s y (λ q. omega arith)) in
      let here : g w ≡ not (f w) = subst (λ y. g y ≡ not (f y)) e t in
      ⊎_elim
      (λ p. mask_failed g w (here ∙ not_from_true (f w) p) ∙ below ∙ sym (xor_twice (mask f w) (2 ^ w)) ∙ ap (λ m. bit_xor m (2 ^ w)) (sym (mask_passed f w p)) ∙ ap (λ y. bit_xor (mask f (suc w)) (2 ^ y)) (sym e))
      (λ p. mask_passed g w (here ∙ not_from_false (f w) p) ∙ ap (λ m. bit_xor m (2 ^ w)) (below ∙ sym (mask_failed f w p)) ∙ ap (λ y. bit_xor (mask f (suc w)) (2 ^ y)) (sym e))
      (cases_Bool (f w)))
      (λ ne.
      let below = mask_toggled w x (omega arith) t s in
      let last = cond (f w) (2 ^ w) 0 in
      ap (λ b. bit_xor (mask g w) (cond b (2 ^ w) 0)) (s w (λ q. ne (sym q))) ∙ ap (λ m. bit_xor m last) below ∙
      xor_assoc (mask f w) (2 ^ x) last ∙ ap (bit_xor (mask f w)) (xor_comm (2 ^ x) last) ∙ sym (xor_assoc (mask f w) last (2 ^ x)))
      (cases_eq x w)

module _ (c : CodeModel) (laws : CodeLaws c) (f : ℕ → Bool) (d : ℕ) (b : d < 2 ^ c.n) where
  -- a codeword with the cells complemented that pass the test
  abbrev pub struck : ℕ
  struck = bit_xor (codeword c d) (mask f (c.n + c.k))

  struck_none : number_of f (c.n + c.k) ≡ 0 → struck ≡ codeword c d
  struck_none z = ap (bit_xor (codeword c d)) (mask_none f (c.n + c.k) z) ∙ xor_zero_r (codeword c d)

  struck_one : number_of f (c.n + c.k) ≡ 1 → (x : ℕ) × (x < c.n + c.k) × (struck ≡ bit_xor (codeword c d) (2 ^ x))
  struck_one o = let r = mask_one f (c.n + c.k) o in (r.0, r.1, ap (bit_xor (codeword c d)) r.2)

  struck_two : number_of f (c.n + c.k) ≡ 2 →
      (x y : ℕ) × (x < c.n + c.k) × (y < c.n + c.k) × (x ≡ y → ⊥) × (struck ≡ bit_xor (bit_xor (codeword c d) (2 ^ x)) (2 ^ y))
  struck_two o =
      let r = mask_two f (c.n + c.k) o in
      let lt = r.2 in
      let le = r.3 in
      (r.0, r.1, omega arith, r.3, λ e. omega arith, ap (bit_xor (codeword c d)) r.4 ∙ sym (xor_assoc (codeword c d) (2 ^ r.0) (2 ^ r.1)))

  -- with fewer than two such cells the data come back
  pub struck_read : (p : ℕ) → number_of f (c.n + c.k) < 2 → unit_entry c p (holds struck) ≡ holds d
  struck_read p h =
      ap (told p)
      (⊎_elim
      (λ z. ap (decoded c) (struck_none z) ∙ decoded_codeword c laws d b)
      (λ nz. let r = struck_one (omega arith) in ap (decoded c) r.2 ∙ single_corrected c laws d r.0 b r.1)
      (cases_eq (number_of f (c.n + c.k)) 0))

  -- with two it is a double error
  pub struck_refused : (p : ℕ) → number_of f (c.n + c.k) ≡ 2 → unit_entry c p (holds struck) ≡ faulty (arisen TWO p)
  struck_refused p o =
      let r = struck_two o in
      ap (told p) (ap (decoded c) r.5 ∙ double_refused c laws d r.0 r.1 b r.2 r.3 r.4)

  -- an odd number is not 0
  column_not_zero : (x : ℕ) → x < c.n + c.k → cell_column c x ≡ 0 → ⊥
  unfolding ones
  column_not_zero x h e = let o = cell_odd c laws x h in let z : ones (cell_column c x) ≡ 0 = ap ones e in omega arith

  -- with up to two such cells, the syndrome is 0 just where there is none
  pub struck_syndrome : number_of f (c.n + c.k) < 3 → eqb (syndrome c struck) 0 ≡ eqb (number_of f (c.n + c.k)) 0
  struck_syndrome h =
      ⊎_elim
      (λ z. eq-eqb _ 0 (ap (syndrome c) (struck_none z) ∙ codeword_clean c laws d b) ∙ sym (eq-eqb _ 0 z))
      (λ nz.
      ne_eqb _ 0
      (⊎_elim
      (λ o e. let r = struck_one o in column_not_zero r.0 r.1 (sym (single_syndrome c laws d r.0 b r.1) ∙ ap (syndrome c) (sym r.2) ∙ e))
      (λ no e.
      let r = struck_two (omega arith) in
      let both = sym (double_syndrome c laws d r.0 r.1 b r.2 r.3) ∙ ap (syndrome c) (sym r.5) ∙ e in
      r.4 (cell_apart c laws r.0 r.1 r.2 r.3 (same_from_xor _ _ both)))
      (cases_eq (number_of f (c.n + c.k)) 1)) ∙ sym (ne_eqb _ 0 nz))
      (cases_eq (number_of f (c.n + c.k)) 0)
