-- What a call answers, and where it leads, once it has passed a card's own checks. Assumes nothing.
use Rattle.std.proofs.Common.{◌≡◌, ℕ, ◌^◌, ◌<◌, ltb, Ok, Err, sym, ap, ◌∙◌, arith}
use Rattle.std.proofs.lemmas.Bool.{lt-ltb, cond-true}
use Rattle.word.specs.Words.{value, of_value}
use Rattle.word.specs.declared.words.Word.{Word}
use Rattle.word.specs.declared.faults.Fault.{Fault}
use Rattle.word.proofs.Values.{value_of_value}
use Rattle.card.specs.Cards.{CardModel, CardLaws, Entry, holds, faulty, Within, shown, read_answer, read_state, write_answer, write_state}

shown_within : (n : ℕ) (e : Entry) (w : Word) → Within n e → shown e ≡ Ok w → value w < 2 ^ n
shown_within n (holds v) w h e = let z : value w ≡ v = let i : w ≡ of_value v = cc in ap value i ∙ value_of_value v in rw z h
shown_within n (faulty f) w h e = let z : ◌≡◌ {A = ℕ} 0 1 = cc in absurd (omega arith)

module _ (m : CardModel) (s : m.State) (p : ℕ) (h : p < m.count s) where
  pub read_entered : read_answer m s p ≡ shown (m.entry s p)
  read_entered = cond-true (ltb p (m.count s)) _ _ (lt-ltb p (m.count s) h)

  pub read_leads : read_state m s p ≡ m.after_read s p
  read_leads = cond-true (ltb p (m.count s)) _ _ (lt-ltb p (m.count s) h)

  -- what a read gives is no wider than the card
  pub read_within : CardLaws m → (w : Word) → Ok w ≡ read_answer m s p → value w < 2 ^ m.width s
  read_within laws w e = shown_within (m.width s) (m.entry s p) w (laws.within s p h) (sym (e ∙ read_entered))

  module _ (v : ℕ) (k : v < 2 ^ m.width s) where
    pub write_granted : write_answer m s p v ≡ Ok tt
    write_granted =
        cond-true (ltb p (m.count s)) _ _ (lt-ltb p (m.count s) h) ∙ cond-true (ltb v (2 ^ m.width s)) _ _ (lt-ltb v (2 ^ m.width s) k)

    pub write_not_refused : (f : Fault) → Err f ≡ write_answer m s p v → ⊥
    write_not_refused f e = let g = write_granted in let z : ◌≡◌ {A = ℕ} 0 1 = cc in omega arith

    pub write_leads : write_state m s p v ≡ m.after_write s p v
    write_leads =
        cond-true (ltb p (m.count s)) _ _ (lt-ltb p (m.count s) h) ∙ cond-true (ltb v (2 ^ m.width s)) _ _ (lt-ltb v (2 ^ m.width s) k)
