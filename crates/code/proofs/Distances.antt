-- What the laws of a code give: syndromes of flipped words, and how far codewords lie apart. Assumes nothing.
use Rattle.std.proofs.Common.{◌≡◌, ℕ, ◌+◌, ◌-◌, ◌*◌, ◌/◌, ◌%◌, ◌^◌, ◌<◌, ◌≤◌, eqb, length, get_or, sym, refl, ap, ◌∙◌, ⊎_elim, mod-eq_of_lt, mul_comm, add_comm, zero-add, mul-one, arith, pow_pos, pow-add}
use native.Mathlib.Nat.{mod-mod, div-eq_of_lt, div-add-mod}
use lib.Bits.{bit_xor, xor_assoc, xor_comm, xor_self, xor_zero_r, xor_mod, xor_shr, xor_lt}
use lib.Count.{ones, ones_in}
use Rattle.std.proofs.lemmas.Nat.{shl-shr, mod_low, pow_below, shr_below, mod_below, mul-add-lt, div-mul-add, mod-mul-add}
use Rattle.std.proofs.lemmas.Bool.{cases_lt, cases_eq, cases_order, lt-ltb, le-ltb, eq-eqb, ne_eqb, cond-true, cond-false, cond_both}
use Rattle.code.specs.Codes.{CodeModel, CodeLaws, column, picked, generated, codeword, syndrome, located, told, found, powers, by_count}
use Rattle.code.specs.Decoding.{cell_column, at_cell}
use Rattle.code.specs.declared.syndromes.Located.TheVariants.{Clean, Data, Check, Two, Many}
use Rattle.code.proofs.Picked.{picked_xor, picked_power, picked_below}
use Rattle.code.proofs.Parity.{ones_xor, ones_power}
use Rattle.code.proofs.Found.{Nowhere, Finding, here, nowhere, finding, length_powers, powers_at}

xor_aside : (a b c : ℕ) → bit_xor (bit_xor a b) c ≡ bit_xor (bit_xor a c) b
xor_aside a b c = xor_assoc a b c ∙ ap (bit_xor a) (xor_comm b c) ∙ sym (xor_assoc a c b)

-- numbers whose xor is 0 are the same
pub same_from_xor : (a b : ℕ) → bit_xor a b ≡ 0 → a ≡ b
same_from_xor a b e =
    sym (xor_zero_r a) ∙ ap (bit_xor a) (sym (xor_self b)) ∙ sym (xor_assoc a b b) ∙ ap (λ x. bit_xor x b) e

-- twice complemented is as before
pub xor_twice : (a b : ℕ) → bit_xor (bit_xor a b) b ≡ a
xor_twice a b = xor_assoc a b b ∙ ap (bit_xor a) (xor_self b) ∙ xor_zero_r a

power_same : (i j : ℕ) → 2 ^ i ≡ 2 ^ j → i ≡ j
power_same i j e =
    ⊎_elim (λ s. s)
    (λ o. ⊎_elim (λ h. let l = pow_below i j h in absurd (omega arith)) (λ h. let l = pow_below j i h in absurd (omega arith)) o)
    (cases_order i j)

-- a cell of the first n, in the two parts of a number cut at n
pub low_flip : (n raw x : ℕ) → x < n → bit_xor raw (2 ^ x) % 2 ^ n ≡ bit_xor (raw % 2 ^ n) (2 ^ x)
low_flip n raw x h = xor_mod raw (2 ^ x) n ∙ ap (bit_xor (raw % 2 ^ n)) (mod-eq_of_lt (pow_below x n h))

low_rest : (n raw x : ℕ) → x < n → bit_xor raw (2 ^ x) / 2 ^ n ≡ raw / 2 ^ n
low_rest n raw x h =
    xor_shr raw (2 ^ x) n ∙ ap (bit_xor (raw / 2 ^ n)) (div-eq_of_lt (pow_below x n h)) ∙ xor_zero_r (raw / 2 ^ n)

-- a cell above
power_split : (n x : ℕ) → n ≤ x → 2 ^ x ≡ 2 ^ (x - n) * 2 ^ n
power_split n x h = let whole : x ≡ (x - n) + n = omega arith in ap (λ y. 2 ^ y) whole ∙ pow-add 2 (x - n) n

pub high_rest : (n raw x : ℕ) → n ≤ x → bit_xor raw (2 ^ x) % 2 ^ n ≡ raw % 2 ^ n
high_rest n raw x h =
    let none : 2 ^ x % 2 ^ n ≡ 0 =
    ap (λ y. y % 2 ^ n) (power_split n x h ∙ (let z : 2 ^ (x - n) * 2 ^ n ≡ 2 ^ (x - n) * 2 ^ n + 0 = omega arith in z))
    ∙ mod_low (2 ^ (x - n)) n 0 (pow_pos n) in
    xor_mod raw (2 ^ x) n ∙ ap (bit_xor (raw % 2 ^ n)) none ∙ xor_zero_r (raw % 2 ^ n)

high_flip : (n raw x : ℕ) → n ≤ x → bit_xor raw (2 ^ x) / 2 ^ n ≡ bit_xor (raw / 2 ^ n) (2 ^ (x - n))
high_flip n raw x h =
    xor_shr raw (2 ^ x) n ∙ ap (bit_xor (raw / 2 ^ n)) (ap (λ y. y / 2 ^ n) (power_split n x h) ∙ shl-shr (2 ^ (x - n)) n)

module _ (c : CodeModel) (laws : CodeLaws c) where
  -- a cell of the raw word is a data cell or a check cell
  pub data Cell (x : ℕ) : Type 0 where
    of_data : x < c.n → cell_column c x ≡ column c x → at_cell c x ≡ Data x → Cell x
    of_check : c.n ≤ x → x - c.n < c.k → cell_column c x ≡ 2 ^ (x - c.n) → at_cell c x ≡ Check (x - c.n) → Cell x

  pub cell_of : (x : ℕ) → x < c.n + c.k → Cell x
  cell_of x h =
      ⊎_elim
      (λ l. let t = lt-ltb x c.n l in of_data l (cond-true _ _ _ t) (cond-true _ _ _ t))
      (λ l. let t = le-ltb x c.n l in of_check l (omega arith) (cond-false _ _ _ t) (cond-false _ _ _ t))
      (cases_lt x c.n)

  inside : (i : ℕ) → i < c.n → i < length c.columns
  inside i h = rw laws.one_each h

  pub generated_below : (d : ℕ) → generated c d < 2 ^ c.k
  generated_below d =
      xor_lt c.k _ _ laws.z_below (picked_below c.k c.columns (λ i h. laws.below i (rw laws.one_each at h)) d)

  generated_flip : (d x : ℕ) → x < c.n → generated c (bit_xor d (2 ^ x)) ≡ bit_xor (generated c d) (column c x)
  generated_flip d x h =
      ap (bit_xor c.z) (picked_xor c.columns d (2 ^ x) ∙ ap (bit_xor (picked c.columns d)) (picked_power c.columns x (inside x h)))
      ∙ sym (xor_assoc c.z _ _)

  flip_cell : (raw x : ℕ) → Cell x → syndrome c (bit_xor raw (2 ^ x)) ≡ bit_xor (syndrome c raw) (cell_column c x)
  flip_cell raw x (of_data h e _) =
      let low = low_flip c.n raw x h in
      let high = low_rest c.n raw x h in
      let flip = generated_flip (raw % 2 ^ c.n) x h in
      let aside = xor_aside (generated c (raw % 2 ^ c.n)) (column c x) (raw / 2 ^ c.n) in
      cc
  flip_cell raw x (of_check h _ e _) =
      let low = high_rest c.n raw x h in
      let high = high_flip c.n raw x h in
      let assoc = xor_assoc (generated c (raw % 2 ^ c.n)) (raw / 2 ^ c.n) (2 ^ (x - c.n)) in
      cc

  pub flip_adds : (raw x : ℕ) → x < c.n + c.k → syndrome c (bit_xor raw (2 ^ x)) ≡ bit_xor (syndrome c raw) (cell_column c x)
  flip_adds raw x h = flip_cell raw x (cell_of x h)

  codeword_block : (d : ℕ) → codeword c d ≡ generated c d * 2 ^ c.n + d
  codeword_block d = add_comm d _ ∙ ap (λ x. x + d) (mul_comm (2 ^ c.n) (generated c d))

  pub codeword_data : (d : ℕ) → d < 2 ^ c.n → codeword c d % 2 ^ c.n ≡ d
  codeword_data d h = ap (λ x. x % 2 ^ c.n) (codeword_block d) ∙ mod-mul-add (generated c d) (2 ^ c.n) d h

  pub codeword_check : (d : ℕ) → d < 2 ^ c.n → codeword c d / 2 ^ c.n ≡ generated c d
  codeword_check d h = ap (λ x. x / 2 ^ c.n) (codeword_block d) ∙ div-mul-add (generated c d) (2 ^ c.n) d h

  pub codeword_below : (d : ℕ) → d < 2 ^ c.n → codeword c d < 2 ^ (c.n + c.k)
  codeword_below d h =
      let p = pow-add 2 c.n c.k in
      let m = mul-add-lt (generated c d) (2 ^ c.n) d (2 ^ c.k) (generated_below d) h in
      let b = codeword_block d in
      omega arith

  pub codeword_clean : (d : ℕ) → d < 2 ^ c.n → syndrome c (codeword c d) ≡ 0
  codeword_clean d h =
      let low = codeword_data d h in
      let high = codeword_check d h in
      let self = xor_self (generated c d) in
      cc

  pub check_below : (raw : ℕ) → raw < 2 ^ (c.n + c.k) → raw / 2 ^ c.n < 2 ^ c.k
  check_below raw h = shr_below raw c.k c.n (rw (add_comm c.k c.n) h)

  pub syndrome_below : (raw : ℕ) → raw < 2 ^ (c.n + c.k) → syndrome c raw < 2 ^ c.k
  syndrome_below raw h = xor_lt c.k _ _ (generated_below (raw % 2 ^ c.n)) (check_below raw h)

  -- what has no syndrome is a codeword
  pub codeword_from_clean : (raw : ℕ) → syndrome c raw ≡ 0 → raw ≡ codeword c (raw % 2 ^ c.n)
  codeword_from_clean raw e =
      let same = same_from_xor (generated c (raw % 2 ^ c.n)) (raw / 2 ^ c.n) e in
      let whole = div-add-mod raw (2 ^ c.n) in
      let order = add_comm (raw % 2 ^ c.n) (2 ^ c.n * (raw / 2 ^ c.n)) in
      cc

  pub cell_below : (x : ℕ) → x < c.n + c.k → cell_column c x < 2 ^ c.k
  cell_below x h = below (cell_of x h)
    where
      below : Cell x → cell_column c x < 2 ^ c.k
      below (of_data l e _) = rw e (laws.below x l)
      below (of_check _ l e _) = rw e (pow_below (x - c.n) c.k l)

  pub cell_odd : (x : ℕ) → x < c.n + c.k → ones (cell_column c x) % 2 ≡ 1
  cell_odd x h = odd (cell_of x h)
    where
      odd : Cell x → ones (cell_column c x) % 2 ≡ 1
      odd (of_data l e _) = rw e (laws.odd x l)
      odd (of_check _ _ e _) = rw (e, ones_power)

  -- no column is a power of two
  column_no_power : (i j : ℕ) → i < c.n → column c i ≡ 2 ^ j → ⊥
  column_no_power i j h e =
      let three = laws.three i h in
      let one = ones_power j in
      let same = ap ones e in
      omega arith

  pub cell_apart : (x y : ℕ) → x < c.n + c.k → y < c.n + c.k → cell_column c x ≡ cell_column c y → x ≡ y
  cell_apart x y h l same = apart (cell_of x h) (cell_of y l)
    where
      apart : Cell x → Cell y → x ≡ y
      apart (of_data a e _) (of_data b f _) = laws.apart x y a b (sym e ∙ same ∙ f)
      apart (of_data a e _) (of_check _ _ f _) = absurd (column_no_power x (y - c.n) a (sym e ∙ same ∙ f))
      apart (of_check _ _ e _) (of_data b f _) = absurd (column_no_power y (x - c.n) b (sym f ∙ sym same ∙ e))
      apart (of_check a _ e _) (of_check b _ f _) =
          let p = power_same (x - c.n) (y - c.n) (sym e ∙ same ∙ f) in
          omega arith

  cell_nonzero : (x : ℕ) → x < c.n + c.k → cell_column c x ≡ 0 → ⊥
  unfolding ones ones_in
  cell_nonzero x h e =
      let odd = cell_odd x h in
      let same = ap ones e in
      omega arith

  -- what a syndrome below 2 ^ k can say
  pub data Says (s : ℕ) : Type 0 where
    clean : s ≡ 0 → located c s ≡ Clean → Says s
    cell : (x : ℕ) → x < c.n + c.k → s ≡ cell_column c x → located c s ≡ at_cell c x → Says s
    far : (s ≡ 0 → ⊥) → ((x : ℕ) → x < c.n + c.k → s ≡ cell_column c x → ⊥) → located c s ≡ by_count s → Says s

  column_cell : (i : ℕ) → i < c.n → (column c i ≡ cell_column c i) × (Data i ≡ at_cell c i)
  column_cell i h = let t = lt-ltb i c.n h in (sym (cond-true _ _ _ t), sym (cond-true _ _ _ t))

  power_cell : (j : ℕ) → (2 ^ j ≡ cell_column c (c.n + j)) × (Check j ≡ at_cell c (c.n + j))
  power_cell j =
      let t = le-ltb (c.n + j) c.n (omega arith) in
      let e : (c.n + j) - c.n ≡ j = omega arith in (
        sym (cond-false _ _ _ t ∙ ap (λ x. 2 ^ x) e),
        sym (cond-false _ _ _ t ∙ ap Check e),
      )

  power_at : (j : ℕ) → j < c.k → get_or (powers c.k 1) j 0 ≡ 2 ^ j
  power_at j h = powers_at c.k 1 j h ∙ mul-one (2 ^ j)

  -- a syndrome that no column and no power has belongs to no cell
  no_cell : (s : ℕ) → Nowhere s c.columns → Nowhere s (powers c.k 1) → (x : ℕ) → x < c.n + c.k → s ≡ cell_column c x → ⊥
  no_cell s a b x h same = none (cell_of x h)
    where
      none : Cell x → ⊥
      none (of_data l e _) = a x (inside x l) (same ∙ e)
      none (of_check _ l e _) = b (x - c.n) (rw (length_powers c.k 1) l) (same ∙ e ∙ sym (power_at (x - c.n) l))

  pub says : (s : ℕ) → s < 2 ^ c.k → Says s
  says s h = ⊎_elim zero_says (λ n. data_says n (finding Data _ 0 c.columns s)) (cases_eq s 0)
    where
      whole : located c s ≡ told c.k c.columns s
      whole = ap (told c.k c.columns) (mod-eq_of_lt h)

      zero_says : s ≡ 0 → Says s
      zero_says e = clean e (whole ∙ cond-true _ _ _ (eq-eqb s 0 e))

      check_says : (s ≡ 0 → ⊥) → Nowhere s c.columns → located c s ≡ found Check (by_count s) 0 (powers c.k 1) s →
          Finding Check (by_count s) 0 (powers c.k 1) s → Says s
      check_says n a e (here j l f g) =
          let low : j < c.k = rw (length_powers c.k 1) at l in
          let at = power_cell j in
          cell (c.n + j) (omega arith) (f ∙ power_at j low ∙ at.0) (e ∙ g ∙ ap Check (zero-add j) ∙ at.1)
      check_says n a e (nowhere b g) = far n (no_cell s a b) (e ∙ g)

      data_says : (s ≡ 0 → ⊥) → Finding Data (found Check (by_count s) 0 (powers c.k 1) s) 0 c.columns s → Says s
      data_says n (here i l e f) =
          let low : i < c.n = rw laws.one_each at l in
          let at = column_cell i low in
          cell i (omega arith) (e ∙ at.0) (whole ∙ cond-false _ _ _ (ne_eqb s 0 n) ∙ f ∙ ap Data (zero-add i) ∙ at.1)
      data_says n (nowhere a f) =
          check_says n a (whole ∙ cond-false _ _ _ (ne_eqb s 0 n) ∙ f) (finding Check (by_count s) 0 (powers c.k 1) s)

  -- the syndrome of one cell locates that cell
  pub located_cell : (x : ℕ) → x < c.n + c.k → located c (cell_column c x) ≡ at_cell c x
  located_cell x h = at (says (cell_column c x) (cell_below x h))
    where
      at : Says (cell_column c x) → located c (cell_column c x) ≡ at_cell c x
      at (clean e _) = absurd (cell_nonzero x h e)
      at (cell y l e f) = f ∙ ap (at_cell c) (sym (cell_apart x y h l e))
      at (far _ n _) = absurd (n x h refl)

  two_even : (x y : ℕ) → x < c.n + c.k → y < c.n + c.k → ones (bit_xor (cell_column c x) (cell_column c y)) % 2 ≡ 0
  two_even x y h l =
      let sum = ones_xor c.k (cell_column c x) (cell_column c y) (cell_below x h) (cell_below y l) in
      let a = cell_odd x h in
      let b = cell_odd y l in
      omega arith

  -- two different cells are seen, and not taken for one
  pub located_two : (x y : ℕ) → x < c.n + c.k → y < c.n + c.k → (x ≡ y → ⊥) → located c (bit_xor (cell_column c x) (cell_column c y)) ≡ Two
  located_two x y h l apart = at (says _ (xor_lt c.k _ _ (cell_below x h) (cell_below y l)))
    where
      at : Says (bit_xor (cell_column c x) (cell_column c y)) → located c (bit_xor (cell_column c x) (cell_column c y)) ≡ Two
      at (clean e _) = absurd (apart (cell_apart x y h l (same_from_xor _ _ e)))
      at (cell v m e _) =
          let even = two_even x y h l in
          let odd = cell_odd v m in
          let same = ap ones e in
          absurd (omega arith)
      at (far _ _ e) = e ∙ cond-true _ _ _ (eq-eqb _ 0 (two_even x y h l))

  pub located_zero : located c 0 ≡ Clean
  located_zero = at (says 0 (pow_pos c.k))
    where
      at : Says 0 → located c 0 ≡ Clean
      at (clean _ e) = e
      at (cell x h e _) = absurd (cell_nonzero x h (sym e))
      at (far n _ _) = absurd (n refl)

  -- a located data cell is one of the n
  pub located_data : (s i : ℕ) → located c s ≡ Data i → i < c.n
  located_data s i e = at (says (s % 2 ^ c.k) (mod_below s (2 ^ c.k) (pow_pos c.k)))
    where
      same : located c (s % 2 ^ c.k) ≡ Data i
      same = ap (told c.k c.columns) (mod-mod s (2 ^ c.k)) ∙ e

      of_cell : (x : ℕ) → at_cell c x ≡ Data i → Cell x → i < c.n
      of_cell x f (of_data l _ g) = let y : x ≡ i = cc in omega arith
      of_cell x f (of_check _ _ _ g) = let z : ◌≡◌ {A = ℕ} 0 1 = cc in absurd (omega arith)

      at : Says (s % 2 ^ c.k) → i < c.n
      at (clean _ f) = let g = sym f ∙ same in let z : ◌≡◌ {A = ℕ} 0 1 = cc in absurd (omega arith)
      at (cell x h _ f) = of_cell x (sym f ∙ same) (cell_of x h)
      at (far _ _ f) =
          cond_both (eqb (ones (s % 2 ^ c.k) % 2) 0) Two Many (λ l. l ≡ Data i → i < c.n)
          (λ _ g. let z : ◌≡◌ {A = ℕ} 0 1 = cc in absurd (omega arith))
          (λ _ g. let z : ◌≡◌ {A = ℕ} 0 1 = cc in absurd (omega arith)) (sym f ∙ same)
