-- What is known of parity bits, for both senses and any number of lanes. Assumes nothing.
use Rattle.std.specs.Prelude.{◌≡◌, ℕ, zero, suc, ◌+◌, ◌*◌, ◌/◌, ◌%◌, ◌^◌, ◌<◌, ◌≤◌, Bool, true, false, List, count_ones, slice_index, refl}
use Rattle.std.proofs.Math.Nat.{mod-one}
use Rattle.std.proofs.Common.{sym, ap, ◌∙◌, ⊎_elim, mul_comm, mod-eq_of_lt, pow-suc, lt_of_lt_of_le, arith, pow_mono}
use Rattle.std.proofs.lemmas.Nat.{mod-pow-add, mod_low, shr_high, shl_whole, mul-le}
use Rattle.std.proofs.lemmas.Bool.{eq-eqb, ne_eqb, eqb-true, eqb-false, and_parts, false_from_ne_true, cond-true, cond_both, and_from, and_left, and_right, cases_lt}
use Rattle.word.specs.Words.{value, of_value}
use Rattle.word.specs.Lanes.{lane, lane_list}
use Rattle.word.specs.declared.words.Word.{Word}
use Rattle.word.proofs.LaneFacts.{cells_below, lane_below, lane_list_at}
use Rattle.layers.specs.Parities.{parity_bit, bit_sum, parity_bits, lane_right, lanes_right, with_parity}
use Rattle.layers.specs.CutFacts.{high_part, whole_below}
use Rattle.layers.specs.declared.parity.Sense.{Sense}
use Rattle.layers.specs.declared.parity.Sense.TheVariants.{Even, Odd}

pub bit_small : (s : Sense) (x : ℕ) → parity_bit s x < 2
bit_small s x = cond_both (lane_right s x 0) 0 1 (λ b. b < 2) (λ _. omega arith) (λ _. omega arith)

module _ (f : ℕ → ℕ) (small : (j : ℕ) → f j < 2) where
  pub bit_sum_below : (m : ℕ) → bit_sum m f < 2 ^ m
  bit_sum_below zero = omega arith
  bit_sum_below (suc m) =
      let below = bit_sum_below m in
      let k = small m in
      let last = mul-le (2 ^ m) (f m) (2 ^ m) 1 (omega arith) (omega arith) in
      let twice = pow-suc 2 m in
      omega arith

  -- each bit of the sum
  bit_at : (m j : ℕ) → j < m → bit_sum m f / 2 ^ j % 2 ≡ f j
  bit_at zero j h = absurd (omega arith)
  bit_at (suc m) j h =
      let turned : bit_sum (suc m) f ≡ f m * 2 ^ m + bit_sum m f = let e = mul_comm (2 ^ m) (f m) in omega arith in
      ⊎_elim
      (λ k.
      let low = mod_low (f m) m (bit_sum m f) (bit_sum_below m) in
      let same = cells_below 1 j m (f m * 2 ^ m + bit_sum m f) (omega arith) in
      let here = bit_at m j k in
      rw turned (sym same ∙ ap (λ v. v / 2 ^ j % 2) low ∙ here))
      (λ k.
      let e : j ≡ m = omega arith in
      rw (turned, e, shr_high (f m) m (bit_sum m f) (bit_sum_below m)) (mod-eq_of_lt (small m)))
      (cases_lt j m)

-- a lane that is not right with one bit is right with the other
other_right : (s : Sense) (x : ℕ) → lane_right s x 0 ≡ false → lane_right s x 1 ≡ true
other_right Even x e = let ne = eqb-false _ 0 e in eq-eqb ((count_ones x + 1) % 2) 0 (omega arith)
other_right Odd x e = let ne = eqb-false _ 1 e in eq-eqb ((count_ones x + 1) % 2) 1 (omega arith)

-- and one that is right with no bit is not with a bit
one_wrong : (s : Sense) (x : ℕ) → lane_right s x 0 ≡ true → lane_right s x 1 ≡ false
one_wrong Even x e = let is = eqb-true _ 0 e in ne_eqb ((count_ones x + 1) % 2) 0 (λ k. omega arith)
one_wrong Odd x e = let is = eqb-true _ 1 e in ne_eqb ((count_ones x + 1) % 2) 1 (λ k. omega arith)

-- so a lane is right with its own
own_right : (s : Sense) (x : ℕ) → lane_right s x (parity_bit s x) ≡ true
own_right s x = cond_both (lane_right s x 0) 0 1 (λ b. lane_right s x b ≡ true) (λ e. e) (other_right s x)

module _ (s : Sense) where
  -- sums and tests ask of each lane only what stands there
  pub lanes_right_same : (m : ℕ) (f g : ℕ → ℕ) (p : ℕ) → ((j : ℕ) → j < m → f j ≡ g j) → lanes_right s m f p ≡ lanes_right s m g p
  lanes_right_same zero f g p h = refl
  lanes_right_same (suc m) f g p h =
      let below = lanes_right_same m f g p (λ j k. h j (omega arith)) in
      let here = h m (omega arith) in
      cc

  pub parity_bits_same : (m : ℕ) (f g : ℕ → ℕ) → ((j : ℕ) → j < m → f j ≡ g j) → parity_bits s m f ≡ parity_bits s m g
  parity_bits_same zero f g h = refl
  parity_bits_same (suc m) f g h =
      let below = parity_bits_same m f g (λ j k. h j (omega arith)) in
      let here = h m (omega arith) in
      cc

  module _ (f : ℕ → ℕ) (p : ℕ) where
    -- right is each lane or none
    right_from : (m : ℕ) → ((j : ℕ) → j < m → lane_right s (f j) (p / 2 ^ j % 2) ≡ true) → lanes_right s m f p ≡ true
    right_from zero h = refl
    right_from (suc m) h = and_from _ _ (right_from m (λ j k. h j (omega arith))) (h m (omega arith))

    pub wrong_from : (m j : ℕ) → j < m → lane_right s (f j) (p / 2 ^ j % 2) ≡ false → lanes_right s m f p ≡ false
    wrong_from zero j h e = absurd (omega arith)
    wrong_from (suc m) j h e =
        ⊎_elim (λ k. and_left _ _ (wrong_from m j k e))
        (λ k. let i : j ≡ m = omega arith in and_right (lanes_right s m f p) _ (rw i at e)) (cases_lt j m)

  -- the bit with which a lane is right
  right_bit : (x b : ℕ) → b < 2 → lane_right s x b ≡ true → b ≡ parity_bit s x
  right_bit x b h t =
      ⊎_elim (λ k. let e : b ≡ 0 = omega arith in e ∙ sym (cond-true (lane_right s x 0) 0 1 (rw e at t)))
      (λ k.
      let e : b ≡ 1 = omega arith in
      e ∙ cond_both (lane_right s x 0) 0 1 (λ c. 1 ≡ c) (λ o. absurd (let w = one_wrong s x o in let u = rw e at t in cc)) (λ _. refl))
      (cases_lt b 1)

  -- the bits with which all lanes are
  right_bits : (f : ℕ → ℕ) (p m : ℕ) → lanes_right s m f p ≡ true → p % 2 ^ m ≡ parity_bits s m f
  right_bits f p zero t = mod-one p
  right_bits f p (suc m) t =
      let parts = and_parts (lanes_right s m f p) (lane_right s (f m) (p / 2 ^ m % 2)) t in
      let below = right_bits f p m parts.0 in
      let here = right_bit (f m) (p / 2 ^ m % 2) (omega arith) parts.1 in
      let cut : p % 2 ^ (1 + m) ≡ p / 2 ^ m % 2 ^ 1 * 2 ^ m + p % 2 ^ m = mod-pow-add p 1 m in
      let next : suc m ≡ 1 + m = omega arith in
      let turned : p / 2 ^ m % 2 * 2 ^ m ≡ 2 ^ m * parity_bit s (f m) = mul_comm (p / 2 ^ m % 2) (2 ^ m) ∙ ap (λ b. 2 ^ m * b) here in
      ap (λ n. p % 2 ^ n) next ∙ cut ∙ omega arith

  -- so are those of all lanes
  pub parities_right : (m : ℕ) (f : ℕ → ℕ) → lanes_right s m f (parity_bits s m f) ≡ true
  parities_right m f =
      right_from f (parity_bits s m f) m (λ j h.
      ap (lane_right s (f j)) (bit_at (λ i. parity_bit s (f i)) (λ i. bit_small s (f i)) m j h) ∙ own_right s (f j))

  pub parities_below : (m : ℕ) (f : ℕ → ℕ) → parity_bits s m f < 2 ^ m
  parities_below m f = bit_sum_below (λ j. parity_bit s (f j)) (λ j. bit_small s (f j)) m

  -- one lane more, in a byte
  pub next_parity : (f : ℕ → ℕ) (j bits bit : ℕ) → j < 8 → bits ≡ parity_bits s j f → bit ≡ parity_bit s (f j) →
      bits + bit * 2 ^ j % 2 ^ 8 ≡ parity_bits s (suc j) f
  next_parity f j bits bit h e k =
      let small : bit < 2 ^ 1 = let b = bit_small s (f j) in omega arith in
      let whole = shl_whole bit 1 j 8 small (omega arith) in
      let turned = mul_comm bit (2 ^ j) in
      cc

-- a word's lanes as its low part hands them out
handed_out : (v j : ℕ) → j < 8 → slice_index (lane_list (v % 2 ^ 64)) j ≡ lane j v
handed_out v j h = lane_list_at (v % 2 ^ 64) j h ∙ lane_below j 8 v h

nine : (m : ℕ) → 8 * m + m ≡ 9 * m
nine m = omega arith

module _ (s : Sense) (m : ℕ) (k : m ≤ 8) where
  pub raw_below : (d : ℕ) → d < 2 ^ (8 * m) → with_parity s m d < 2 ^ (9 * m)
  raw_below d h = rw (sym (nine m)) (whole_below (8 * m) m d (parity_bits s m (λ j. lane j d)) h (parities_below s m (λ j. lane j d)))

  -- the raw word as it is joined from the data and a byte
  pub raw_joined : (w : Word) (lanes : List ℕ) (bits : ℕ) → w.low < 2 ^ 64 → value w < 2 ^ (8 * m) → lanes ≡ lane_list w.low →
      bits ≡ parity_bits s m (λ j. slice_index lanes j) → (value w + 2 ^ (8 * m) * (bits + 2 ^ 64 * 0)) % 2 ^ 72 ≡ with_parity s m (value w)
  raw_joined w lanes bits l h e f =
      let low : w.low ≡ value w % 2 ^ 64 = omega arith in
      let same : bits ≡ parity_bits s m (λ j. lane j (value w)) =
      f ∙ parity_bits_same s m (λ j. slice_index lanes j) (λ j. lane j (value w))
      (λ j i. ap (λ x. slice_index x j) (e ∙ ap lane_list low) ∙ handed_out (value w) j (omega arith)) in
      let byte : bits + 2 ^ 64 * 0 ≡ parity_bits s m (λ j. lane j (value w)) = omega arith in
      let wide : 9 * m ≤ 72 = omega arith in
      rw byte (mod-eq_of_lt (lt_of_lt_of_le (raw_below (value w) h) (pow_mono wide)))

  -- the bits of a raw word are a byte
  pub bits_byte : (v : ℕ) → v < 2 ^ (9 * m) → v / 2 ^ (8 * m) < 2 ^ 8
  bits_byte v h = lt_of_lt_of_le (high_part (8 * m) m v (rw (nine m) h)) (pow_mono k)

  -- what is tested of the two parts of a raw word is what the raw word says
  pub tested : (v : ℕ) (parts : Word × Word) (lanes : List ℕ) (b : Bool) → v < 2 ^ (9 * m) →
      parts ≡ (of_value (v % 2 ^ (8 * m)), of_value (v / 2 ^ (8 * m))) → lanes ≡ lane_list parts.0.low →
      b ≡ lanes_right s m (λ j. slice_index lanes j) parts.1.low → b ≡ lanes_right s m (λ j. lane j (v % 2 ^ (8 * m))) (v / 2 ^ (8 * m))
  tested v parts lanes b h cut e f =
      let bits : parts.1.low ≡ v / 2 ^ (8 * m) =
      ap (λ r. r.1.low) cut ∙ mod-eq_of_lt (lt_of_lt_of_le (bits_byte v h) (omega arith)) in
      f ∙ ap (lanes_right s m (λ j. slice_index lanes j)) bits ∙
      lanes_right_same s m (λ j. slice_index lanes j) (λ j. lane j (v % 2 ^ (8 * m))) (v / 2 ^ (8 * m))
      (λ j i. ap (λ x. slice_index x j) (e ∙ ap (λ r. lane_list r.0.low) cut) ∙ handed_out (v % 2 ^ (8 * m)) j (omega arith))

  -- the bits of a raw word beside those that its lanes have
  module _ (v : ℕ) (parts : Word × Word) (lanes : List ℕ) (bits : ℕ) (h : v < 2 ^ (9 * m))
      (cut : parts ≡ (of_value (v % 2 ^ (8 * m)), of_value (v / 2 ^ (8 * m)))) (e : lanes ≡ lane_list parts.0.low)
      (f : bits ≡ parity_bits s m (λ j. slice_index lanes j)) where
    high : parts.1.low ≡ v / 2 ^ (8 * m)
    high = ap (λ r. r.1.low) cut ∙ mod-eq_of_lt (lt_of_lt_of_le (bits_byte v h) (omega arith))

    own : bits ≡ parity_bits s m (λ j. lane j (v % 2 ^ (8 * m)))
    own =
        f ∙ parity_bits_same s m (λ j. slice_index lanes j) (λ j. lane j (v % 2 ^ (8 * m)))
        (λ j i. ap (λ x. slice_index x j) (e ∙ ap (λ r. lane_list r.0.low) cut) ∙ handed_out (v % 2 ^ (8 * m)) j (omega arith))

    pub tested_right : parts.1.low ≡ bits → lanes_right s m (λ j. lane j (v % 2 ^ (8 * m))) (v / 2 ^ (8 * m)) ≡ true
    tested_right t = rw (sym high ∙ t ∙ own) (parities_right s m (λ j. lane j (v % 2 ^ (8 * m))))

    pub tested_wrong : (parts.1.low ≡ bits → ⊥) → lanes_right s m (λ j. lane j (v % 2 ^ (8 * m))) (v / 2 ^ (8 * m)) ≡ false
    tested_wrong ne =
        false_from_ne_true _ (λ t.
        ne (high ∙ sym (mod-eq_of_lt (high_part (8 * m) m v (rw (nine m) h))) ∙
        right_bits s (λ j. lane j (v % 2 ^ (8 * m))) (v / 2 ^ (8 * m)) m t ∙ sym own))
