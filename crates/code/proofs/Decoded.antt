-- How raw words decode, from the laws of their code. Assumes nothing.
use Rattle.std.proofs.Common.{◌≡◌, ℕ, ◌+◌, ◌%◌, ◌^◌, ◌<◌, false, ◌⊎◌, is_ok, Ok, sym, refl, ap, ◌∙◌, inl, inr, pow_pos}
use lib.Bits.{bit_xor, xor_self}
use Rattle.std.proofs.lemmas.Nat.{mod_below}
use Rattle.std.proofs.lemmas.Bool.{cond_both, true≢false}
use Rattle.code.specs.Codes.{CodeModel, CodeLaws, codeword, syndrome, located}
use Rattle.code.specs.Decoding.{cell_column, at_cell, corrected, decoded}
use Rattle.code.specs.Distance.{SingleCorrected, DoubleRefused, Near, NearOne, DecodesNear, RefusedFar}
use Rattle.code.specs.declared.syndromes.Located.TheVariants.{Two, Many}
use Rattle.code.proofs.Distances.{Cell, of_data, of_check, cell_of, Says, clean, cell, far, says, flip_adds, codeword_clean, codeword_data, codeword_from_clean, syndrome_below, located_cell, located_two, located_zero, low_flip, high_rest, xor_twice}

module _ (c : CodeModel) (laws : CodeLaws c) where
  -- the located cell is complemented, wherever it lies
  pub corrected_cell : (raw x : ℕ) → x < c.n + c.k → corrected (raw % 2 ^ c.n) (at_cell c x) ≡ Ok (bit_xor raw (2 ^ x) % 2 ^ c.n)
  corrected_cell raw x h = at (cell_of c laws x h)
    where
      at : Cell c laws x → corrected (raw % 2 ^ c.n) (at_cell c x) ≡ Ok (bit_xor raw (2 ^ x) % 2 ^ c.n)
      at (of_data l _ e) = let low = low_flip c.n raw x l in rw e (ap Ok (sym low))
      at (of_check l _ _ e) = let low = high_rest c.n raw x l in rw e (ap Ok (sym low))

  -- a raw word with the syndrome of one cell is decoded by complementing that cell
  pub decoded_cell : (raw x : ℕ) → x < c.n + c.k → syndrome c raw ≡ cell_column c x → decoded c raw ≡ Ok (bit_xor raw (2 ^ x) % 2 ^ c.n)
  decoded_cell raw x h e =
      ap (λ s. corrected (raw % 2 ^ c.n) (located c s)) e ∙ ap (corrected (raw % 2 ^ c.n)) (located_cell c laws x h) ∙ corrected_cell raw x h

  pub decoded_clean : (raw : ℕ) → syndrome c raw ≡ 0 → decoded c raw ≡ Ok (raw % 2 ^ c.n)
  decoded_clean raw e =
      ap (λ s. corrected (raw % 2 ^ c.n) (located c s)) e ∙ ap (corrected (raw % 2 ^ c.n)) (located_zero c laws)

  -- the syndrome of a codeword with one cell complemented is that cell's column
  pub single_syndrome : (d x : ℕ) → d < 2 ^ c.n → x < c.n + c.k → syndrome c (bit_xor (codeword c d) (2 ^ x)) ≡ cell_column c x
  single_syndrome d x h l =
      flip_adds c laws (codeword c d) x l ∙ ap (λ s. bit_xor s (cell_column c x)) (codeword_clean c laws d h)

  pub double_syndrome : (d x y : ℕ) → d < 2 ^ c.n → x < c.n + c.k → y < c.n + c.k →
      syndrome c (bit_xor (bit_xor (codeword c d) (2 ^ x)) (2 ^ y)) ≡ bit_xor (cell_column c x) (cell_column c y)
  double_syndrome d x y h l m =
      flip_adds c laws (bit_xor (codeword c d) (2 ^ x)) y m ∙ ap (λ s. bit_xor s (cell_column c y)) (single_syndrome d x h l)

  pub decoded_codeword : (d : ℕ) → d < 2 ^ c.n → decoded c (codeword c d) ≡ Ok d
  decoded_codeword d h = decoded_clean (codeword c d) (codeword_clean c laws d h) ∙ ap Ok (codeword_data c laws d h)

  pub single_corrected : SingleCorrected c
  single_corrected d x h l =
      decoded_cell (bit_xor (codeword c d) (2 ^ x)) x l (single_syndrome d x h l)
      ∙ ap (λ w. Ok (w % 2 ^ c.n)) (xor_twice (codeword c d) (2 ^ x)) ∙ ap Ok (codeword_data c laws d h)

  pub double_refused : DoubleRefused c
  double_refused d x y h l m apart =
      let raw = bit_xor (bit_xor (codeword c d) (2 ^ x)) (2 ^ y) in
      ap (λ s. corrected (raw % 2 ^ c.n) (located c s)) (double_syndrome d x y h l m)
      ∙ ap (corrected (raw % 2 ^ c.n)) (located_two c laws x y l m apart)

  pub near_decoded : (raw d : ℕ) → Near c raw d → decoded c raw ≡ Ok d
  near_decoded raw d (h, inl e) = ap (decoded c) e ∙ decoded_codeword d h
  near_decoded raw d (h, inr (x, l, e)) = ap (decoded c) e ∙ single_corrected d x h l

  pub near_one : NearOne c
  near_one raw d e a b =
      let p = near_decoded raw d a in
      let q = near_decoded raw e b in
      cc

  -- every raw word is near a codeword and decodes to its data, or is refused
  pub nearest : (raw : ℕ) → raw < 2 ^ (c.n + c.k) → ((d : ℕ) × (decoded c raw ≡ Ok d) × Near c raw d) ⊎ (is_ok (decoded c raw) ≡ false)
  nearest raw h = at (says c laws (syndrome c raw) (syndrome_below c laws raw h))
    where
      below : (w : ℕ) → w % 2 ^ c.n < 2 ^ c.n
      below w = mod_below w (2 ^ c.n) (pow_pos c.n)

      at : Says c laws (syndrome c raw) → ((d : ℕ) × (decoded c raw ≡ Ok d) × Near c raw d) ⊎ (is_ok (decoded c raw) ≡ false)
      at (clean e _) = inl (raw % 2 ^ c.n, decoded_clean raw e, (below raw, inl (codeword_from_clean c laws raw e)))
      at (cell x l e _) =
          let put = bit_xor raw (2 ^ x) in
          let none : syndrome c put ≡ 0 = flip_adds c laws raw x l ∙ ap (λ s. bit_xor s (cell_column c x)) e ∙ xor_self (cell_column c x) in
          let back = sym (xor_twice raw (2 ^ x)) ∙ ap (λ w. bit_xor w (2 ^ x)) (codeword_from_clean c laws put none) in
          inl (put % 2 ^ c.n, decoded_cell raw x l e, (below put, inr (x, l, back)))
      at (far _ _ e) =
          inr (ap (λ l. is_ok (corrected (raw % 2 ^ c.n) l)) e
          ∙ cond_both _ Two Many (λ l. is_ok (corrected (raw % 2 ^ c.n) l) ≡ false) (λ _. refl) (λ _. refl))

  pub decodes_near : DecodesNear c
  decodes_near raw d h = (back (nearest raw h), near_decoded raw d)
    where
      back : ((e : ℕ) × (decoded c raw ≡ Ok e) × Near c raw e) ⊎ (is_ok (decoded c raw) ≡ false) → decoded c raw ≡ Ok d → Near c raw d
      back (inl (e, f, near)) g = let same : e ≡ d = cc in rw (sym same) near
      back (inr f) g = let z = ap is_ok g in absurd (true≢false (sym z ∙ f))

  pub refused_far : RefusedFar c
  refused_far raw h = (none, refused (nearest raw h))
    where
      none : is_ok (decoded c raw) ≡ false → (d : ℕ) → Near c raw d → ⊥
      none e d near = true≢false (sym (ap is_ok (near_decoded raw d near)) ∙ e)

      refused : ((d : ℕ) × (decoded c raw ≡ Ok d) × Near c raw d) ⊎ (is_ok (decoded c raw) ≡ false) →
          ((d : ℕ) → Near c raw d → ⊥) → is_ok (decoded c raw) ≡ false
      refused (inl (d, _, near)) n = absurd (n d near)
      refused (inr e) n = e
