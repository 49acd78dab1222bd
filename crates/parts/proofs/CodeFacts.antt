-- What the laws of a code give a unit. Assumes nothing.
use Rattle.std.proofs.Common.{◌≡◌, ℕ, ◌+◌, ◌*◌, ◌/◌, ◌%◌, ◌^◌, ◌<◌, ◌≤◌, Ok, Err, Result, refl, ap, ◌∙◌, lt_of_lt_of_le, mod-eq_of_lt, arith, pow_pos, pow_mono}
use lib.Bits.{bit_and, and_mask}
use Rattle.std.proofs.lemmas.Nat.{mod_below}
use Rattle.word.specs.Words.{of_value}
use Rattle.word.specs.declared.words.Word.{Word}
use Rattle.word.specs.declared.refusals.Refusal.{Refusal}
use Rattle.code.specs.Codes.{CodeModel, CodeLaws, generated, codeword}
use Rattle.code.specs.Decoding.{decoded}
use Rattle.code.proofs.Distances.{codeword_below, check_below}
use Rattle.code.proofs.Decoded.{decodes_near, decoded_codeword}
use Rattle.card.specs.Cards.{Entry, holds, faulty, Within}
use Rattle.parts.specs.Units.{told, unit_entry, cut}
use Rattle.error_log.specs.declared.records.RawWord.{RawWord}

module _ (c : CodeModel) (laws : CodeLaws c) where
  -- what is decoded is below 2 ^ n
  decoded_below : (raw d : ℕ) → raw < 2 ^ (c.n + c.k) → decoded c raw ≡ Ok d → d < 2 ^ c.n
  decoded_below raw d h e = ((decodes_near c laws raw d h).0 e).0

  told_within : (p raw : ℕ) (r : Result ℕ Refusal) → raw < 2 ^ (c.n + c.k) → decoded c raw ≡ r → Within c.n (told p r)
  told_within p raw (Ok d) h e = decoded_below raw d h e
  told_within p raw (Err r) h e = tt

  pub entry_within : (p : ℕ) (x : Entry) → Within (c.n + c.k) x → Within c.n (unit_entry c p x)
  entry_within p (holds raw) h = told_within p raw (decoded c raw) h refl
  entry_within p (faulty f) h = tt

  pub entry_codeword : (p d : ℕ) → d < 2 ^ c.n → unit_entry c p (holds (codeword c d)) ≡ holds d
  entry_codeword p d h = ap (told p) (decoded_codeword c laws d h)

  -- a raw word has at most 72 cells
  pub raw_below : (v : ℕ) → v < 2 ^ (c.n + c.k) → v < 2 ^ 72
  raw_below v h =
      let a = laws.n_most in
      let b = laws.k_most in
      let w : c.n + c.k ≤ 72 = omega arith in
      lt_of_lt_of_le h (pow_mono w)

  -- the join of data and check bits drops nothing
  pub laid_held : (d : ℕ) → d < 2 ^ c.n → ((d + 2 ^ 64 * 0) + 2 ^ c.n * (generated c d + 2 ^ 64 * 0)) % 2 ^ 72 ≡ codeword c d
  laid_held d h =
      let a : d + 2 ^ 64 * 0 ≡ d = omega arith in
      let b : generated c d + 2 ^ 64 * 0 ≡ generated c d = omega arith in
      ap (λ x. (x + 2 ^ c.n * (generated c d + 2 ^ 64 * 0)) % 2 ^ 72) a ∙ ap (λ x. (d + 2 ^ c.n * x) % 2 ^ 72) b ∙
      mod-eq_of_lt (raw_below (codeword c d) (codeword_below c laws d h))

  -- the parts of a raw word are the numbers that they are held in
  data_held : (v : ℕ) → v % 2 ^ c.n % 2 ^ 64 ≡ v % 2 ^ c.n
  data_held v = mod-eq_of_lt (lt_of_lt_of_le (mod_below v (2 ^ c.n) (pow_pos c.n)) (pow_mono laws.n_most))

  check_held : (v : ℕ) → v < 2 ^ (c.n + c.k) → bit_and (v / 2 ^ c.n % 2 ^ 64) 255 ≡ v / 2 ^ c.n
  check_held v h =
      let b : v / 2 ^ c.n < 2 ^ 8 = lt_of_lt_of_le (check_below c laws v h) (pow_mono laws.k_most) in
      let m : v / 2 ^ c.n % 2 ^ 64 ≡ v / 2 ^ c.n = omega arith in
      ap (λ x. bit_and x 255) m ∙ and_mask (v / 2 ^ c.n) 8 ∙ mod-eq_of_lt b

  -- a split at the data width, as it is held, is the cut
  pub cut_held : (v w : ℕ) (r : Word × Word) → w ≡ c.n → r ≡ (of_value (v % 2 ^ w), of_value (v / 2 ^ w)) → v < 2 ^ (c.n + c.k) →
      ◌≡◌ {A = RawWord} (record { «data» = r.0.low; check = bit_and r.1.low 255 }) (cut c v)
  cut_held v w r e s h =
      let f : Word × Word → RawWord = λ x. record { «data» = x.0.low; check = bit_and x.1.low 255 } in
      let d = data_held v in
      let k = check_held v h in
      let parts : ◌≡◌ {A = RawWord} (record { «data» = v % 2 ^ c.n % 2 ^ 64; check = bit_and (v / 2 ^ c.n % 2 ^ 64) 255 }) (cut c v) = cc in
      ap f (s ∙ ap (λ x. (of_value (v % 2 ^ x), of_value (v / 2 ^ x))) e) ∙ parts
