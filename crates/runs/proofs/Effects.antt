-- What each call does to the card below. Assumes nothing.
use Rattle.std.proofs.Common.{◌≡◌, ℕ, ◌+◌, ◌/◌, ◌^◌, ◌<◌, ◌≤◌, Bool, true, false, cond, not, ◌&&◌, eqb, ltb, Some, None, Ok, Err, Option, Result, sym, refl, ap, ◌∙◌, subst, ⊎_elim, arith, pow_mono}
use lib.Bits.{bit_xor, xor_lt}
use Rattle.std.proofs.lemmas.Nat.{pow_below}
use Rattle.std.proofs.lemmas.Bool.{cases_lt, cond-true, cond-false, cond_both, ltb-true, eqb-true, eqb-false, lt-ltb, le-ltb, eq-eqb, ne_eqb}
use Rattle.word.specs.Words.{value}
use Rattle.word.specs.declared.faults.Fault.{Fault}
use Rattle.word.specs.declared.refusals.Refusal.{Refusal}
use Rattle.word.specs.declared.refusals.Refusal.TheVariants.{Place as PLACE, Wide as WIDE, Enable as ENABLE}
use Rattle.word.specs.declared.words.Word.{Word}
use Rattle.code.specs.Codes.{CodeModel, CodeLaws, codeword}
use Rattle.code.proofs.Distances.{codeword_below}
use Rattle.card.specs.Cards.{CardModel, CardLaws, Entry, holds, faulty, Within, read_state, write_answer}
use Rattle.card.proofs.CardFacts.{write_granted, write_leads}
use Rattle.error_log.specs.Logs.{new_log}
use Rattle.parts.specs.Merges.{joined}
use Rattle.parts.specs.Units.{UnitState, Outcome, unit_card, unit_entry, refused, injecting, merging, kept, writing, merged, all_lanes}
use Rattle.unit.specs.Steps.{step, replied}
use Rattle.runs.specs.Histories.{Made, granted, writes, stores, hits, laid_by}
use Rattle.unit.specs.declared.calls.Call.{Call}
use Rattle.unit.specs.declared.calls.Call.TheVariants.{Read, Write, Merge, Scrub, Inject, Log, First, Clear}
use Rattle.unit.specs.Steps.{Answer}
use Rattle.unit.specs.declared.calls.Reply.TheVariants.{Done, Merged}
use Rattle.parts.proofs.MergeFacts.{joined_below, joined_all, joined_none}
use Rattle.parts.proofs.UnitLaws.{fits_from_place, unit_laws}

module _ (c : CodeModel) (m : CardModel) where
  -- the places that a unit has over a card in this state
  abbrev pub places : m.State → ℕ
  places t = cond (eqb (m.width t) (c.n + c.k)) (m.count t) 0

  -- the card shows the same
  pub record Same (t u : m.State) : Type 0 where
    pub count : places u ≡ places t
    pub entry : (p : ℕ) → p < places t → m.entry u p ≡ m.entry t p

  -- the card shows the same but for one place
  pub record Put (q v : ℕ) (t u : m.State) : Type 0 where
    pub count : places u ≡ places t
    pub here : m.entry u q ≡ holds v
    pub there : (p : ℕ) → p < places t → (p ≡ q → ⊥) → m.entry u p ≡ m.entry t p

  -- the word that a call stores at q over a card in this state
  pub data Stores (t : m.State) (k : Call) (q v : ℕ) : Type 0 where
    -- a whole word
    whole : ((p : ℕ) → writes p k ≡ eqb p q) → ((old : ℕ) → laid_by (c.n / 8) old k ≡ v) → Stores t k q v
    -- one that keeps lanes of the word read
    over : (old : ℕ) → unit_entry c q (m.entry t q) ≡ holds old → laid_by (c.n / 8) old k ≡ v → ((p : ℕ) → writes p k ≡ false) → Stores t k q v

  pub data Effect (t u : m.State) (d : Made) : Type 0 where
    idle : Same t u → ((p : ℕ) → (granted d.answer && stores p d.call) ≡ false) → ((p x : ℕ) → (granted d.answer && hits p x d.call) ≡ false) → Effect t u d
    stored : (q v : ℕ) → q < places t → v < 2 ^ c.n → Put q (codeword c v) t u → granted d.answer ≡ true → ((p : ℕ) → stores p d.call ≡ eqb p q) →
        ((p x : ℕ) → hits p x d.call ≡ false) → Stores t d.call q v → Effect t u d
    flipped : (q x raw : ℕ) → x < c.n + c.k → m.entry t q ≡ holds raw → Put q (bit_xor raw (2 ^ x)) t u → granted d.answer ≡ true →
        ((p : ℕ) → stores p d.call ≡ false) → ((p y : ℕ) → hits p y d.call ≡ (eqb p q && eqb y x)) → Effect t u d

module _ (c : CodeModel) (m : CardModel) (cl : CodeLaws c) (ml : CardLaws m) where
  same_places : (t u : m.State) → m.width u ≡ m.width t → m.count u ≡ m.count t → places c m u ≡ places c m t
  same_places t u w n = ap (λ x. cond (eqb x (c.n + c.k)) (m.count u) 0) w ∙ ap (λ x. cond (eqb (m.width t) (c.n + c.k)) x 0) n

  -- a unit over a card that has the place
  module _ (t : m.State) (q : ℕ) (h : q < places c m t) where
    fits : (m.width t ≡ c.n + c.k) × (q < m.count t)
    fits = fits_from_place c m (record { log = new_log; card = t }) q h

    below_count : (p : ℕ) → p < places c m t → p < m.count t
    below_count p b = subst (λ n. p < n) (cond-true _ _ _ (eq-eqb _ _ fits.0)) b

    pub read_same : Same c m t (m.after_read t q)
    read_same = record {
      count = same_places t (m.after_read t q) (ml.read_width t q fits.1) (ml.read_count t q fits.1);
      entry = λ p b. ml.read_entry t q p fits.1 (below_count p b);
    }

    pub write_put : (v : ℕ) → v < 2 ^ (c.n + c.k) → Put c m q v t (m.after_write t q v)
    write_put v b =
        let wide : v < 2 ^ m.width t = subst (λ w. v < 2 ^ w) (sym fits.0) b in
        record {
          count = same_places t (m.after_write t q v) (ml.write_width t q v fits.1 wide) (ml.write_count t q v fits.1 wide);
          here = ml.write_here t q v fits.1 wide;
          there = λ p l ne. ml.write_there t q p v fits.1 (below_count p l) ne wide;
        }

  -- a read and then a write
  pub put_after : (t u w : m.State) (q v : ℕ) → Same c m t u → Put c m q v u w → Put c m q v t w
  put_after t u w q v s p = record {
    count = p.count ∙ s.count;
    here = p.here;
    there = λ r l ne. p.there r (subst (λ n. r < n) (sym s.count) l) ne ∙ s.entry r l;
  }

  pub same_self : (t : m.State) → Same c m t t
  same_self t = record { count = refl; entry = λ p b. refl }

  pub read_write_put : (t : m.State) (q : ℕ) → q < places c m t → (v : ℕ) → v < 2 ^ (c.n + c.k) → Put c m q v t (m.after_write (m.after_read t q) q v)
  read_write_put t q h v b =
      let s = read_same t q h in
      put_after t (m.after_read t q) (m.after_write (m.after_read t q) q v) q v s (write_put (m.after_read t q) q (subst (λ n. q < n) (sym s.count) h) v b)

  -- an outcome of the unit, told as a call's
  abbrev as_made : Call → Answer → Made
  as_made k a = record { call = k; answer = a }

  -- a call that changes nothing on the card, and is not granted or stores and hits nothing
  refused_idle : (t u : m.State) (k : Call) (a : Answer) → Same c m t u → granted a ≡ false → Effect c m t u (as_made k a)
  refused_idle t u k a s g = idle s (λ p. ap (λ b. b && stores p k) g) (λ p x. ap (λ b. b && hits p x k) g)

  and_none : (b : Bool) → (b && false) ≡ false
  and_none true = refl
  and_none false = refl

  and_true : (b : Bool) → (b && true) ≡ b
  and_true true = refl
  and_true false = refl

  harmless : (t u : m.State) (k : Call) (a : Answer) → Same c m t u → ((p : ℕ) → stores p k ≡ false) → ((p x : ℕ) → hits p x k ≡ false) → Effect c m t u (as_made k a)
  harmless t u k a s st hi =
      idle s (λ p. ap (λ b. granted a && b) (st p) ∙ and_none (granted a)) (λ p x. ap (λ b. granted a && b) (hi p x) ∙ and_none (granted a))

  -- the place that a merge reads
  abbrev pub kept_place : m.State → ℕ → ℕ → ℕ → Option ℕ
  kept_place t p v e = cond (ltb p (places c m t) && (ltb v (2 ^ c.n) && (ltb e (2 ^ (c.n / 8)) && not (eqb e 0)))) (Some p) None

  -- the arguments of a merge: refused, or whole, or with a lane kept
  pub merge_ways : (s : UnitState m.State) (p v e : ℕ) (P : Outcome m.State (Result (Option Word) Fault) → Option ℕ → Type 0) →
      ((r : Refusal) → P (refused c m r p s) None) →
      (p < places c m s.card → v < 2 ^ c.n → e ≡ 0 → P (writing c m s p v) None) →
      (p < places c m s.card → v < 2 ^ c.n → e < 2 ^ (c.n / 8) → (e ≡ 0 → ⊥) → P (kept c m s p v e) (Some p)) → P (merged c m s p v e) (kept_place s.card p v e)
  merge_ways s p v e P bad all some =
      let t = ltb p (places c m s.card) in
      let u = ltb v (2 ^ c.n) in
      let w = ltb e (2 ^ (c.n / 8)) in
      let z = eqb e 0 in
      go t u w z (ltb-true p (places c m s.card)) (ltb-true v (2 ^ c.n)) (ltb-true e (2 ^ (c.n / 8))) (eqb-true e 0) (eqb-false e 0)
    where
      go : (t u w z : Bool) → (t ≡ true → p < places c m s.card) → (u ≡ true → v < 2 ^ c.n) → (w ≡ true → e < 2 ^ (c.n / 8)) → (z ≡ true → e ≡ 0) → (z ≡ false → e ≡ 0 → ⊥) →
          P (cond t (cond u (cond w (cond z (writing c m s p v) (kept c m s p v e)) (refused c m ENABLE p s)) (refused c m WIDE p s)) (refused c m PLACE p s))
          (cond (t && (u && (w && not z))) (Some p) None)
      go false u w z ft fu fw fz nz = bad PLACE
      go true false w z ft fu fw fz nz = bad WIDE
      go true true false z ft fu fw fz nz = bad ENABLE
      go true true true true ft fu fw fz nz = all (ft refl) (fu refl) (fz refl)
      go true true true false ft fu fw fz nz = some (ft refl) (fu refl) (fw refl) (nz refl)

  module _ (s : UnitState m.State) where
    read_effect : (p : ℕ) → Effect c m s.card (step c m s (Read p)).state.card (as_made (Read p) (step c m s (Read p)).answer)
    read_effect p =
        harmless s.card (read_state (unit_card c m) s p).card (Read p) (step c m s (Read p)).answer
        (cond_both (ltb p (places c m s.card)) _ _ (λ (y : UnitState m.State). Same c m s.card y.card)
        (λ h. read_same s.card p (ltb-true _ _ h)) (λ _. same_self s.card))
        (λ q. refl) (λ q x. refl)

    -- a whole word stored
    store_effect : (k : Call) (a : Answer) (p v : ℕ) → p < places c m s.card → v < 2 ^ c.n → granted a ≡ true →
        ((q : ℕ) → stores q k ≡ eqb q p) → ((q x : ℕ) → hits q x k ≡ false) → ((q : ℕ) → writes q k ≡ eqb q p) → ((old : ℕ) → laid_by (c.n / 8) old k ≡ v) →
        Effect c m s.card ((unit_card c m).after_write s p v).card (as_made k a)
    store_effect k a p v h b g st hi wr la =
        stored p v h b (write_put s.card p h (codeword c v) (codeword_below c cl v b)) g st hi (whole wr la)

    write_effect : (p : ℕ) (w : Word) → Effect c m s.card (step c m s (Write p w)).state.card (as_made (Write p w) (step c m s (Write p w)).answer)
    write_effect p w =
        let v = value w in
        ⊎_elim
        (λ h. ⊎_elim
        (λ b.
        subst (λ (y : UnitState m.State). Effect c m s.card y.card (as_made (Write p w) (replied (λ _. Done) (write_answer (unit_card c m) s p v)))) (sym (write_leads (unit_card c m) s p h v b))
        (store_effect (Write p w) (replied (λ _. Done) (write_answer (unit_card c m) s p v)) p v h b (ap (λ r. granted (replied (λ _. Done) r)) (write_granted (unit_card c m) s p h v b)) (λ q. refl) (λ q x. refl) (λ q. refl) (λ old. refl)))
        (λ b.
        let inside = lt-ltb p (places c m s.card) h in
        let wide = le-ltb v (2 ^ c.n) b in
        subst (λ (y : UnitState m.State). Effect c m s.card y.card (as_made (Write p w) (replied (λ _. Done) (write_answer (unit_card c m) s p v)))) (sym (cond-true _ _ _ inside ∙ cond-false _ _ _ wide))
        (refused_idle s.card s.card (Write p w) _ (same_self s.card) (ap (λ r. granted (replied (λ _. Done) r)) (cond-true _ _ _ inside ∙ cond-false _ _ _ wide))))
        (cases_lt v (2 ^ c.n)))
        (λ h.
        let outside = le-ltb p (places c m s.card) h in
        subst (λ (y : UnitState m.State). Effect c m s.card y.card (as_made (Write p w) (replied (λ _. Done) (write_answer (unit_card c m) s p v)))) (sym (cond-false _ _ _ outside))
        (refused_idle s.card s.card (Write p w) _ (same_self s.card) (ap (λ r. granted (replied (λ _. Done) r)) (cond-false _ _ _ outside))))
        (cases_lt p (places c m s.card))

    -- a merge that keeps a lane, by the entry that its reading met
    keep_effect : (k : Call) (p v e : ℕ) → p < places c m s.card → ((q : ℕ) → stores q k ≡ eqb q p) → ((q x : ℕ) → hits q x k ≡ false) → ((q : ℕ) → writes q k ≡ false) →
        ((old : ℕ) → old < 2 ^ c.n → laid_by (c.n / 8) old k ≡ joined (c.n / 8) e old v) →
        (y : Entry) → (unit_card c m).entry s p ≡ y → Effect c m s.card (merging c m s p v e y).state.card (as_made k (replied Merged (merging c m s p v e y).answer))
    keep_effect k p v e h st hi wr la (holds old) is =
        let below : old < 2 ^ c.n = subst (Within c.n) is ((unit_laws c m cl ml).within s p h) in
        let b : joined (c.n / 8) e old v < 2 ^ c.n = subst (λ w. joined (c.n / 8) e old v < 2 ^ w) (sym cl.whole_lanes) (joined_below e old v (c.n / 8)) in
        stored p (joined (c.n / 8) e old v) h b (read_write_put s.card p h _ (codeword_below c cl _ b)) refl st hi (over old is (la old below) wr)
    keep_effect k p v e h st hi wr la (faulty f) is =
        refused_idle s.card (m.after_read s.card p) k (replied Merged (Err f)) (read_same s.card p h) refl

    merge_effect : (p : ℕ) (w : Word) (e : ℕ) → Effect c m s.card (step c m s (Merge p w e)).state.card (as_made (Merge p w e) (step c m s (Merge p w e)).answer)
    merge_effect p w e =
        merge_ways s p (value w) e (λ o _. Effect c m s.card o.state.card (as_made (Merge p w e) (replied Merged o.answer)))
        (λ r. refused_idle s.card s.card (Merge p w e) _ (same_self s.card) refl)
        (λ h b z.
        let none = eq-eqb e 0 z in
        store_effect (Merge p w e) (replied Merged (Ok None)) p (value w) h b refl (λ q. refl) (λ q x. refl)
        (λ q. ap (λ t. eqb q p && t) none ∙ and_true (eqb q p))
        (λ old. ap (λ t. joined (c.n / 8) t old (value w)) z ∙ joined_none (c.n / 8) old (value w) (subst (λ t. value w < 2 ^ t) cl.whole_lanes b)))
        (λ h b l nz.
        keep_effect (Merge p w e) p (value w) e h (λ q. refl) (λ q x. refl) (λ q. ap (λ t. eqb q p && t) (ne_eqb e 0 nz) ∙ and_none (eqb q p)) (λ old _. refl)
        ((unit_card c m).entry s p) refl)

    -- a word has a lane at least
    pub lane_some : all_lanes c m ≡ 0 → ⊥
    lane_some z =
        let n = cl.n_least in
        let lanes : 1 ≤ c.n / 8 = omega arith in
        let two : 2 ^ 1 ≤ 2 ^ (c.n / 8) = pow_mono lanes in
        omega arith

    scrub_effect : (p : ℕ) → Effect c m s.card (step c m s (Scrub p)).state.card (as_made (Scrub p) (step c m s (Scrub p)).answer)
    scrub_effect p =
        merge_ways s p 0 (all_lanes c m) (λ o _. Effect c m s.card o.state.card (as_made (Scrub p) (replied Merged o.answer)))
        (λ r. refused_idle s.card s.card (Scrub p) _ (same_self s.card) refl)
        (λ h b z. absurd (lane_some z))
        (λ h b l nz.
        keep_effect (Scrub p) p 0 (all_lanes c m) h (λ q. refl) (λ q x. refl) (λ q. refl)
        (λ old lt. sym (joined_all (c.n / 8) old 0 (subst (λ t. old < 2 ^ t) cl.whole_lanes lt)))
        ((unit_card c m).entry s p) refl)

    -- an inject, by the entry below
    flip_effect : (p x : ℕ) → p < places c m s.card → x < c.n + c.k → (y : Entry) → m.entry s.card p ≡ y →
        Effect c m s.card (injecting c m s p x y).state.card (as_made (Inject p x) (replied (λ _. Done) (injecting c m s p x y).answer))
    flip_effect p x h l (holds raw) is =
        let f = fits_from_place c m s p h in
        let below : raw < 2 ^ (c.n + c.k) = subst (λ w. raw < 2 ^ w) f.0 (subst (Within (m.width s.card)) is (ml.within s.card p f.1)) in
        flipped p x raw l is (read_write_put s.card p h (bit_xor raw (2 ^ x)) (xor_lt (c.n + c.k) raw (2 ^ x) below (pow_below x (c.n + c.k) l))) refl (λ q. refl) (λ q y. refl)
    flip_effect p x h l (faulty f) is = refused_idle s.card (m.after_read s.card p) (Inject p x) _ (read_same s.card p h) refl

    inject_effect : (p x : ℕ) → Effect c m s.card (step c m s (Inject p x)).state.card (as_made (Inject p x) (step c m s (Inject p x)).answer)
    inject_effect p x =
        let P : Outcome m.State (Result (Unit {0}) Fault) → Type 0 = λ o. Effect c m s.card o.state.card (as_made (Inject p x) (replied (λ _. Done) o.answer)) in
        cond_both (ltb p (places c m s.card)) _ _ P
        (λ h. cond_both (ltb x (c.n + c.k)) _ _ P
        (λ l. flip_effect p x (ltb-true _ _ h) (ltb-true _ _ l) (m.entry s.card p) refl)
        (λ _. refused_idle s.card s.card (Inject p x) _ (same_self s.card) refl))
        (λ _. refused_idle s.card s.card (Inject p x) _ (same_self s.card) refl)

    pub effect : (k : Call) → Effect c m s.card (step c m s k).state.card (record { call = k; answer = (step c m s k).answer })
    effect (Read p) = read_effect p
    effect (Write p w) = write_effect p w
    effect (Merge p w e) = merge_effect p w e
    effect (Scrub p) = scrub_effect p
    effect (Inject p x) = inject_effect p x
    effect Log = harmless s.card s.card Log _ (same_self s.card) (λ q. refl) (λ q x. refl)
    effect First = harmless s.card s.card First _ (same_self s.card) (λ q. refl) (λ q x. refl)
    effect Clear = harmless s.card s.card Clear _ (same_self s.card) (λ q. refl) (λ q x. refl)
