-- Two lawful cards side by side are a lawful card. Assumes nothing.
use Rattle.std.specs.Prelude.{◌≡◌, ℕ, ◌+◌, ◌*◌, ◌/◌, ◌%◌, ◌^◌, ◌<◌, ◌≤◌, min, Ok, Err, Result, ◌≢◌, nat_le, refl}
use Rattle.std.proofs.Common.{sym, ap, ◌∙◌, mod-eq_of_lt, lt_of_lt_of_le, arith, pow_mono}
use Rattle.std.proofs.lemmas.Bool.{cond_both, leb-true}
use Rattle.word.specs.Words.{value, of_value}
use Rattle.word.specs.declared.words.Word.{Word}
use Rattle.word.specs.declared.faults.Fault.{Fault}
use Rattle.word.proofs.Values.{value_of_value}
use Rattle.card.specs.Cards.{CardModel, CardLaws, Entry, holds, faulty, Within, shown, read_answer, read_state, write_answer, write_state}
use Rattle.layers.specs.CutFacts.{low_part, high_part, parts_whole, whole_below}
use Rattle.card.proofs.CardFacts.{read_entered, read_leads, write_granted, write_not_refused, write_leads}
use Rattle.card.specs.WidthFacts.{place_from}
use Rattle.layers.specs.Pairs.{Both, joined, unless_faulty, pair_card}

joined_within : (a b : ℕ) (x y : Entry) → Within a x → Within b y → Within (a + b) (joined a x y)
joined_within a b (holds x) (holds y) h k = whole_below a b x y h k
joined_within a b (holds x) (faulty f) h k = tt
joined_within a b (faulty f) y h k = tt

-- what two reads that gave words show of the pair
pub joined_shown : (a b : ℕ) (x y : Entry) (low high : Word) → a + b ≤ 72 → Within a x → Within b y → shown x ≡ Ok low → shown y ≡ Ok high →
    ◌≡◌ {A = Result Word Fault} (Ok (of_value ((value low + 2 ^ a * value high) % 2 ^ 72))) (shown (joined a x y))
joined_shown a b (holds x) (holds y) low high k h m e f =
    let low-is : value low ≡ x = let z : low ≡ of_value x = cc in ap value z ∙ value_of_value x in
    let high_is : value high ≡ y = let z : high ≡ of_value y = cc in ap value z ∙ value_of_value y in
    let whole : (x + 2 ^ a * y) % 2 ^ 72 ≡ x + 2 ^ a * y = mod-eq_of_lt (lt_of_lt_of_le (whole_below a b x y h m) (pow_mono k)) in
    rw (low-is, high_is, whole)
joined_shown a b (holds x) (faulty f) low high k h m e i = let z : ◌≡◌ {A = ℕ} 0 1 = cc in absurd (omega arith)
joined_shown a b (faulty f) y low high k h m e i = let z : ◌≡◌ {A = ℕ} 0 1 = cc in absurd (omega arith)

pub read_unless_faulty : {S : Type 0} (x : Entry) (low : Word) (read untouched : S) → shown x ≡ Ok low → unless_faulty x read untouched ≡ read
read_unless_faulty (holds x) low read untouched e = refl
read_unless_faulty (faulty f) low read untouched e = let z : ◌≡◌ {A = ℕ} 0 1 = cc in absurd (omega arith)

module _ (l h : CardModel) (lower : CardLaws l) (upper : CardLaws h) where
  abbrev State : Type 0
  State = Both l.State h.State

  -- a pair that has a place has it in both cards, and is as wide as they are together
  pub record Placed (s : State) (p : ℕ) : Type 0 where
    pub fitting : l.width s.low + h.width s.high ≤ 72
    pub in_low : p < l.count s.low
    pub in_high : p < h.count s.high

  pub placed : (s : State) (p : ℕ) → p < (pair_card l h).count s → Placed s p
  placed s p k =
      let w = l.width s.low + h.width s.high in
      let both = place_from (nat_le w 72) (min (l.count s.low) (h.count s.high)) p k in
      record { fitting = leb-true w 72 both.0; in_low = omega arith; in_high = omega arith }

  pub whole_width : (s : State) → l.width s.low + h.width s.high ≤ 72 → (pair_card l h).width s ≡ l.width s.low + h.width s.high
  whole_width s k = omega arith

  -- what a pair shows is what its cards show
  record Alike (s t : State) : Type 0 where
    low_width : l.width t.low ≡ l.width s.low
    high_width : h.width t.high ≡ h.width s.high
    low_count : l.count t.low ≡ l.count s.low
    high_count : h.count t.high ≡ h.count s.high

  alike_width : (s t : State) → Alike s t → (pair_card l h).width t ≡ (pair_card l h).width s
  alike_width s t e = let a = e.low_width in let b = e.high_width in cc

  alike_count : (s t : State) → Alike s t → (pair_card l h).count t ≡ (pair_card l h).count s
  alike_count s t e = cc

  alike_entry : (s t : State) (q : ℕ) → Alike s t → l.entry t.low q ≡ l.entry s.low q → h.entry t.high q ≡ h.entry s.high q →
      (pair_card l h).entry t q ≡ (pair_card l h).entry s q
  alike_entry s t q e low high = let a = e.low_width in cc

  -- after a read of a place the high card shows what it showed, read or not
  high_kept : {X : Type 0} (f : h.State → X) (s : State) (p : ℕ) (e : Entry) → f (h.after_read s.high p) ≡ f s.high →
      f (unless_faulty e (h.after_read s.high p) s.high) ≡ f s.high
  high_kept f s p (holds v) same = same
  high_kept f s p (faulty v) same = refl

  alike_read : (s : State) (p : ℕ) → p < (pair_card l h).count s → Alike s ((pair_card l h).after_read s p)
  alike_read s p k =
      let at = placed s p k in
      let low = l.entry s.low p in
      record {
        low_width = lower.read_width s.low p at.in_low;
        high_width = high_kept h.width s p low (upper.read_width s.high p at.in_high);
        low_count = lower.read_count s.low p at.in_low;
        high_count = high_kept h.count s p low (upper.read_count s.high p at.in_high);
      }

  -- the parts of a word that fits a pair with places fit its cards
  pub low_fits : (s : State) (v : ℕ) → v % 2 ^ l.width s.low < 2 ^ l.width s.low
  low_fits s v = low_part (l.width s.low) v

  pub high_fits : (s : State) (p v : ℕ) → p < (pair_card l h).count s → v < 2 ^ (pair_card l h).width s →
      v / 2 ^ l.width s.low < 2 ^ h.width s.high
  high_fits s p v k below =
      high_part (l.width s.low) (h.width s.high) v (rw (whole_width s (placed s p k).fitting) at below)

  alike_write : (s : State) (p v : ℕ) → p < (pair_card l h).count s → v < 2 ^ (pair_card l h).width s → Alike s ((pair_card l h).after_write s p v)
  alike_write s p v k below =
      let at = placed s p k in
      let low = low_fits s v in
      let high = high_fits s p v k below in
      record {
        low_width = lower.write_width s.low p _ at.in_low low;
        high_width = upper.write_width s.high p _ at.in_high high;
        low_count = lower.write_count s.low p _ at.in_low low;
        high_count = upper.write_count s.high p _ at.in_high high;
      }

  within : (s : State) (p : ℕ) → p < (pair_card l h).count s → Within ((pair_card l h).width s) ((pair_card l h).entry s p)
  within s p k =
      let at = placed s p k in
      rw (whole_width s at.fitting) (joined_within (l.width s.low) (h.width s.high) (l.entry s.low p) (h.entry s.high p)
      (lower.within s.low p at.in_low) (upper.within s.high p at.in_high))

  write_here : (s : State) (p v : ℕ) → p < (pair_card l h).count s → v < 2 ^ (pair_card l h).width s →
      (pair_card l h).entry ((pair_card l h).after_write s p v) p ≡ holds v
  write_here s p v k below =
      let at = placed s p k in
      let same = (alike_write s p v k below).low_width in
      let low = lower.write_here s.low p _ at.in_low (low_fits s v) in
      let high = upper.write_here s.high p _ at.in_high (high_fits s p v k below) in
      rw (same, low, high) (ap holds (parts_whole (l.width s.low) v))

  pub pair_laws : CardLaws (pair_card l h)
  pair_laws = record {
    wide_least = λ s. let k = lower.wide_least s.low in omega arith;
    wide_most = λ s. omega arith;
    few = λ s.
        let k = lower.few s.low in
        cond_both (nat_le (l.width s.low + h.width s.high) 72) (min (l.count s.low) (h.count s.high)) 0 (λ n. n ≤ 65536)
        (λ _. omega arith) (λ _. omega arith);
    within = within;
    read_width = λ s p k. alike_width s _ (alike_read s p k);
    read_count = λ s p k. alike_count s _ (alike_read s p k);
    read_entry = λ s p q k m.
        let at = placed s p k in
        let to = placed s q m in
        alike_entry s _ q (alike_read s p k) (lower.read_entry s.low p q at.in_low to.in_low)
        (high_kept (λ t. h.entry t q) s p (l.entry s.low p) (upper.read_entry s.high p q at.in_high to.in_high));
    write_width = λ s p v k below. alike_width s _ (alike_write s p v k below);
    write_count = λ s p v k below. alike_count s _ (alike_write s p v k below);
    write_here = write_here;
    write_there = λ s p q v k m ne below.
        let at = placed s p k in
        let to = placed s q m in
        alike_entry s _ q (alike_write s p v k below)
        (lower.write_there s.low p q _ at.in_low to.in_low ne (low_fits s v))
        (upper.write_there s.high p q _ at.in_high to.in_high ne (high_fits s p v k below));
  }

  -- a read of both cards that gave two words is a read of the pair
  pub both_read : (s t : State) (p : ℕ) (low high : Word) → p < (pair_card l h).count s →
      Ok low ≡ read_answer l s.low p → t.low ≡ read_state l s.low p →
      Ok high ≡ read_answer h s.high p → t.high ≡ read_state h s.high p →
      (Ok (of_value ((value low + 2 ^ l.width s.low * value high) % 2 ^ 72)) ≡ read_answer (pair_card l h) s p) ×
      (t ≡ read_state (pair_card l h) s p)
  both_read s t p low high k low_read low_after high_read high_after =
      let at = placed s p k in
      let low-is = sym (low_read ∙ read_entered l s.low p at.in_low) in
      let high_is = sym (high_read ∙ read_entered h s.high p at.in_high) in
      let whole = joined_shown (l.width s.low) (h.width s.high) (l.entry s.low p) (h.entry s.high p) low high at.fitting
      (lower.within s.low p at.in_low) (upper.within s.high p at.in_high) low-is high_is in
      let both = read_unless_faulty (l.entry s.low p) low (h.after_read s.high p) s.high low-is in
      let low_led = low_after ∙ read_leads l s.low p at.in_low in
      let high_led = high_after ∙ read_leads h s.high p at.in_high ∙ sym both in
      let led : t ≡ (pair_card l h).after_read s p = λ i. record { low = low_led i; high = high_led i } in
      (whole ∙ sym (read_entered (pair_card l h) s p k), led ∙ sym (read_leads (pair_card l h) s p k))

  -- a write of both parts to the two cards is the pair's write of a word that fits
  pub both_written : (s t : State) (p v a : ℕ) (parts : Word × Word) → p < (pair_card l h).count s → v < 2 ^ (pair_card l h).width s →
      a ≡ l.width s.low → parts ≡ (of_value (v % 2 ^ a), of_value (v / 2 ^ a)) →
      t.low ≡ write_state l s.low p (value parts.0) → t.high ≡ write_state h s.high p (value parts.1) →
      (write_answer h s.high p (value parts.1) ≡ write_answer (pair_card l h) s p v) × (t ≡ write_state (pair_card l h) s p v)
  both_written s t p v a parts k below w cut low_after high_after =
      let at = placed s p k in
      let low : value parts.0 ≡ v % 2 ^ l.width s.low = ap (λ r. value r.0) cut ∙ value_of_value (v % 2 ^ a) ∙ ap (λ n. v % 2 ^ n) w in
      let high : value parts.1 ≡ v / 2 ^ l.width s.low = ap (λ r. value r.1) cut ∙ value_of_value (v / 2 ^ a) ∙ ap (λ n. v / 2 ^ n) w in
      let fits = high_fits s p v k below in
      let low_led = low_after ∙ ap (write_state l s.low p) low ∙ write_leads l s.low p at.in_low _ (low_fits s v) in
      let high_led = high_after ∙ ap (write_state h s.high p) high ∙ write_leads h s.high p at.in_high _ fits in
      let led : t ≡ (pair_card l h).after_write s p v = λ i. record { low = low_led i; high = high_led i } in (
        ap (write_answer h s.high p) high ∙ write_granted h s.high p at.in_high _ fits ∙ sym (write_granted (pair_card l h) s p k v below),
        led ∙ sym (write_leads (pair_card l h) s p k v below),
      )

  -- a write that the pair lets pass is not refused by its high card, which gets the high part
  pub high_grants : (s : State) (p v a : ℕ) (parts : Word × Word) (f : Fault) → p < (pair_card l h).count s → v < 2 ^ (pair_card l h).width s →
      a ≡ l.width s.low → parts ≡ (of_value (v % 2 ^ a), of_value (v / 2 ^ a)) → Err f ≢ write_answer h s.high p (value parts.1)
  high_grants s p v a parts f k below w cut e =
      let high : value parts.1 ≡ v / 2 ^ l.width s.low =
      ap (λ r. value r.1) cut ∙ value_of_value (v / 2 ^ a) ∙ ap (λ n. v / 2 ^ n) w in
      write_not_refused h s.high p (placed s p k).in_high (v / 2 ^ l.width s.low) (high_fits s p v k below) f (rw high at e)
