-- What the card below holds at a place in hand, kept by every call. Assumes nothing.
use Rattle.std.proofs.Common.{◌≡◌, ℕ, zero, suc, ◌+◌, ◌/◌, ◌^◌, ◌<◌, ◌≤◌, Bool, true, false, ◌&&◌, T, eqb, ◌∷◌, sym, refl, ap, ◌∙◌, subst, ⊎_elim, arith}
use lib.Bits.{bit_xor, xor_assoc, xor_zero_r}
use Rattle.std.proofs.lemmas.Bool.{cases_eq, cases_lt, eq-eqb, ne_eqb}
use Rattle.word.specs.Faults.{arisen}
use Rattle.word.specs.declared.refusals.Refusal.TheVariants.{Two as TWO}
use Rattle.code.specs.Codes.{CodeModel, CodeLaws, codeword}
use Rattle.card.specs.Cards.{CardModel, holds, faulty}
use Rattle.parts.specs.Units.{unit_entry}
use Rattle.runs.specs.Histories.{Made, History, granted, writes, stores, hits, upset, number_of, upset_cells, is_in_hand, laid_by, last_laid}
use Rattle.runs.proofs.Masks.{mask, mask_none, mask_same, mask_toggled, number_same, struck_read, struck_refused}
use Rattle.runs.proofs.Pasts.{not_writes, laid_kept, hand_over, few_upset, upset_kept, upset_turned, laid_new, upset_none}
use Rattle.runs.proofs.Effects.{places, Put, Stores, whole, over, Effect, idle, stored, flipped}

none_pass : (w : ℕ) → number_of (λ _. false) w ≡ 0
none_pass zero = refl
none_pass (suc w) = let r = none_pass w in omega arith

module _ (c : CodeModel) (m : CardModel) (cl : CodeLaws c) where
  -- at a place in hand stands the codeword of the last word stored, with the upset cells complemented, two at most
  pub record Hand (h : History) (t : m.State) (p : ℕ) : Type 0 where
    pub there : p < places c m t
    pub word : last_laid (c.n / 8) h p < 2 ^ c.n
    pub entry : m.entry t p ≡ holds (bit_xor (codeword c (last_laid (c.n / 8) h p)) (mask (upset h p) (c.n + c.k)))
    pub few : upset_cells (c.n + c.k) h p < 3

  abbrev pub Hands : History → m.State → Type 0
  Hands h t = (p : ℕ) → T (is_in_hand (c.n + c.k) h p) → Hand h t p

  -- what a unit shows there
  module _ (h : History) (t : m.State) (p : ℕ) (hand : Hand h t p) where
    pub hand_read : upset_cells (c.n + c.k) h p < 2 → unit_entry c p (m.entry t p) ≡ holds (last_laid (c.n / 8) h p)
    hand_read l = ap (unit_entry c p) hand.entry ∙ struck_read c cl (upset h p) (last_laid (c.n / 8) h p) hand.word p l

    pub hand_refused : 2 ≤ upset_cells (c.n + c.k) h p → unit_entry c p (m.entry t p) ≡ faulty (arisen TWO p)
    hand_refused l =
        let f = hand.few in
        ap (unit_entry c p) hand.entry ∙ struck_refused c cl (upset h p) (last_laid (c.n / 8) h p) hand.word p (omega arith)

    -- a word that is shown is the last one stored
    pub hand_shown : (old : ℕ) → unit_entry c p (m.entry t p) ≡ holds old → old ≡ last_laid (c.n / 8) h p
    hand_shown old e =
        ⊎_elim
        (λ l. let both = sym e ∙ hand_read l in cc)
        (λ l. let both = sym e ∙ hand_refused l in let z : ◌≡◌ {A = ℕ} 0 1 = cc in absurd (omega arith))
        (cases_lt (upset_cells (c.n + c.k) h p) 2)

  module _ (h : History) (t u : m.State) (d : Made) (hands : Hands h t) where
    -- a place that the call neither stores nor hits
    kept_hand : (p : ℕ) → places c m u ≡ places c m t → (p < places c m t → m.entry u p ≡ m.entry t p) →
        (granted d.answer && stores p d.call) ≡ false → ((x : ℕ) → (granted d.answer && hits p x d.call) ≡ false) →
        (granted d.answer && writes p d.call) ≡ false → T (is_in_hand (c.n + c.k) (d ∷ h) p) → Hand (d ∷ h) u p
    kept_hand p n e quiet calm w t' =
        let hand = hands p (hand_over (c.n + c.k) d h p w t') in
        let laid = laid_kept (c.n + c.k) (c.n / 8) d h p quiet in
        let cells : mask (upset (d ∷ h) p) (c.n + c.k) ≡ mask (upset h p) (c.n + c.k) =
        mask_same (upset h p) (upset (d ∷ h) p) (c.n + c.k) (λ x _. upset_kept (c.n + c.k) (c.n / 8) d h p quiet x (calm x)) in
        record {
          there = subst (λ k. p < k) (sym n) hand.there;
          word = subst (λ v. v < 2 ^ c.n) (sym laid) hand.word;
          entry = e hand.there ∙ hand.entry ∙ ap (λ v. holds (bit_xor (codeword c v) (mask (upset h p) (c.n + c.k)))) (sym laid) ∙
              ap (λ k. holds (bit_xor (codeword c (last_laid (c.n / 8) (d ∷ h) p)) k)) (sym cells);
          few = few_upset (c.n + c.k) d h p w t';
        }

    -- no write where nothing is stored
    not_written : (p : ℕ) → (granted d.answer && stores p d.call) ≡ false → (granted d.answer && writes p d.call) ≡ false
    not_written p e = go (granted d.answer) e
      where
        go : (g : Bool) → (g && stores p d.call) ≡ false → (g && writes p d.call) ≡ false
        go true q = not_writes p d.call q
        go false q = refl

    -- a place at which a word was stored
    stored_hand : (q v : ℕ) → q < places c m t → v < 2 ^ c.n → Put c m q (codeword c v) t u → (granted d.answer && stores q d.call) ≡ true →
        (T (is_in_hand (c.n + c.k) (d ∷ h) q) → laid_by (c.n / 8) (last_laid (c.n / 8) h q) d.call ≡ v) → T (is_in_hand (c.n + c.k) (d ∷ h) q) → Hand (d ∷ h) u q
    stored_hand q v l b put loud laid t' =
        let none = upset_none (c.n + c.k) (c.n / 8) d h q loud in
        let zero_cells : upset_cells (c.n + c.k) (d ∷ h) q ≡ 0 = number_same (λ _. false) (upset (d ∷ h) q) (c.n + c.k) (λ x _. none x) ∙ none_pass (c.n + c.k) in
        let word = laid_new (c.n + c.k) (c.n / 8) d h q loud ∙ laid t' in
        record {
          there = subst (λ k. q < k) (sym put.count) l;
          word = subst (λ k. k < 2 ^ c.n) (sym word) b;
          entry = put.here ∙ ap holds (ap (codeword c) (sym word) ∙ sym (xor_zero_r (codeword c (last_laid (c.n / 8) (d ∷ h) q))) ∙
              ap (bit_xor (codeword c (last_laid (c.n / 8) (d ∷ h) q))) (sym (mask_none (upset (d ∷ h) q) (c.n + c.k) zero_cells)));
          few = omega arith;
        }

    -- a place one cell of which was hit
    flipped_hand : (q x raw : ℕ) → x < c.n + c.k → m.entry t q ≡ holds raw → Put c m q (bit_xor raw (2 ^ x)) t u →
        (granted d.answer && stores q d.call) ≡ false → ((y : ℕ) → (granted d.answer && hits q y d.call) ≡ eqb y x) → T (is_in_hand (c.n + c.k) (d ∷ h) q) → Hand (d ∷ h) u q
    flipped_hand q x raw l is put quiet hit t' =
        let hand = hands q (hand_over (c.n + c.k) d h q (not_written q quiet) t') in
        let laid = laid_kept (c.n + c.k) (c.n / 8) d h q quiet in
        let word = last_laid (c.n / 8) h q in
        let same = sym is ∙ hand.entry in
        let raw_is : raw ≡ bit_xor (codeword c word) (mask (upset h q) (c.n + c.k)) = cc in
        let turned : mask (upset (d ∷ h) q) (c.n + c.k) ≡ bit_xor (mask (upset h q) (c.n + c.k)) (2 ^ x) =
        mask_toggled (upset h q) (upset (d ∷ h) q) (c.n + c.k) x l
        (upset_turned (c.n + c.k) (c.n / 8) d h q quiet x (hit x ∙ eq-eqb x x refl))
        (λ y ne. upset_kept (c.n + c.k) (c.n / 8) d h q quiet y (hit y ∙ ne_eqb y x ne)) in
        record {
          there = subst (λ k. q < k) (sym put.count) hand.there;
          word = subst (λ v. v < 2 ^ c.n) (sym laid) hand.word;
          entry = put.here ∙ ap (λ r. holds (bit_xor r (2 ^ x))) raw_is ∙ ap holds (xor_assoc (codeword c word) (mask (upset h q) (c.n + c.k)) (2 ^ x)) ∙
              ap (λ k. holds (bit_xor (codeword c word) k)) (sym turned) ∙ ap (λ v. holds (bit_xor (codeword c v) (mask (upset (d ∷ h) q) (c.n + c.k)))) (sym laid);
          few = few_upset (c.n + c.k) d h q (not_written q quiet) t';
        }

    -- the word that a call stores is the last one stored from then on
    laid_is : (q v : ℕ) → Stores c m t d.call q v → (granted d.answer && stores q d.call) ≡ true → T (is_in_hand (c.n + c.k) (d ∷ h) q) →
        laid_by (c.n / 8) (last_laid (c.n / 8) h q) d.call ≡ v
    laid_is q v (whole w la) loud t' = la (last_laid (c.n / 8) h q)
    laid_is q v (over old is la w) loud t' =
        let before = hand_over (c.n + c.k) d h q (go (granted d.answer)) t' in
        ap (λ o. laid_by (c.n / 8) o d.call) (sym (hand_shown h t q (hands q before) old is)) ∙ la
      where
        go : (g : Bool) → (g && writes q d.call) ≡ false
        go true = w q
        go false = refl

    pub hands_kept : Effect c m t u d → Hands (d ∷ h) u
    hands_kept (idle s st hi) p = kept_hand p s.count (s.entry p) (st p) (hi p) (not_written p (st p))
    hands_kept (stored q v l b put g st hi la) p =
        ⊎_elim
        (λ e. subst (λ r. T (is_in_hand (c.n + c.k) (d ∷ h) r) → Hand (d ∷ h) u r) (sym e)
        (let loud = ap (λ x. x && stores q d.call) g ∙ st q ∙ eq-eqb q q refl in stored_hand q v l b put loud (laid_is q v la loud)))
        (λ ne.
        let quiet = ap (λ x. x && stores p d.call) g ∙ st p ∙ ne_eqb p q ne in
        kept_hand p put.count (λ l'. put.there p l' ne) quiet (λ x. ap (λ y. y && hits p x d.call) g ∙ hi p x) (not_written p quiet))
        (cases_eq p q)
    hands_kept (flipped q x raw l is put g st hi) p =
        let quiet = λ (r : ℕ). ap (λ y. y && stores r d.call) g ∙ st r in
        ⊎_elim
        (λ e. subst (λ r. T (is_in_hand (c.n + c.k) (d ∷ h) r) → Hand (d ∷ h) u r) (sym e)
        (flipped_hand q x raw l is put (quiet q) (λ y. ap (λ b. b && hits q y d.call) g ∙ hi q y ∙ ap (λ b. b && eqb y x) (eq-eqb q q refl))))
        (λ ne.
        kept_hand p put.count (λ l'. put.there p l' ne) (quiet p)
        (λ y. ap (λ b. b && hits p y d.call) g ∙ hi p y ∙ ap (λ b. b && eqb y x) (ne_eqb p q ne)) (not_written p (quiet p)))
        (cases_eq p q)
