-- The lanes of two words merged one by one. Assumes nothing.
use Rattle.std.proofs.Common.{◌≡◌, ℕ, ◌+◌, ◌-◌, ◌*◌, ◌%◌, ◌^◌, ◌<◌, ◌≤◌, cond, List, length, get_or, set, sym, ap, ◌∙◌, subst, ⊎_elim, arith, length-set}
use Rattle.std.proofs.lemmas.List.{get_or-set_same, get_or-set_other}
use Rattle.std.proofs.lemmas.Bool.{cases_eq}
use Rattle.word.specs.Words.{value}
use Rattle.word.specs.Lanes.{lane, lane_list, lane_sum, from_lanes}
use Rattle.word.specs.declared.words.Word.{Word}
use Rattle.word.proofs.LaneFacts.{lane_sum_same, lane_below, lane_list_at}
use Rattle.parts.specs.Merges.{bit, merged_lane, joined, merged_byte}
use Rattle.parts.proofs.MergeFacts.{lane_sum_short}

-- the first i of eight bytes are merged, and the others are zero
pub record MergedTo (e : ℕ) (olds news : List ℕ) (i : ℕ) (bytes : List ℕ) : Type 0 where
  pub eight : length bytes ≡ 8
  pub merged : (j : ℕ) → j < i → get_or bytes j 0 ≡ merged_byte e olds news j
  pub rest : (j : ℕ) → i ≤ j → get_or bytes j 0 ≡ 0

module _ (e : ℕ) (olds news : List ℕ) (i : ℕ) (bytes : List ℕ) (m : MergedTo e olds news i bytes) where
  pub merged_more : (v : ℕ) → i < 8 → v ≡ merged_byte e olds news i → MergedTo e olds news (i + 1) (set bytes i v)
  merged_more v b is = record {
    eight = length-set bytes i v ∙ m.eight;
    merged = λ j l.
        ⊎_elim
        (λ q. subst (λ k. get_or (set bytes i v) k 0 ≡ merged_byte e olds news k) (sym q) (get_or-set_same bytes i v 0 (subst (λ n. i < n) (sym m.eight) b) ∙ is))
        (λ ne. get_or-set_other bytes i j v 0 ne ∙ m.merged j (omega arith))
        (cases_eq j i);
    rest = λ j l. get_or-set_other bytes i j v 0 (λ q. omega arith) ∙ m.rest j (omega arith);
  }

-- a lane of a word is a lane of its low cells
lane_low : (w : Word) (j : ℕ) → w.low < 2 ^ 64 → j < 8 → lane j w.low ≡ lane j (value w)
lane_low w j b l =
    let low = w.low in
    let top = w.top in
    let cut : (low + 2 ^ 64 * top) % 2 ^ 64 ≡ low = omega arith in
    ap (lane j) (sym cut) ∙ lane_below j 8 (low + 2 ^ 64 * top) l

pub merged_all : (m e : ℕ) (old new : Word) (olds news bytes : List ℕ) → m ≤ 8 → old.low < 2 ^ 64 → new.low < 2 ^ 64 →
    olds ≡ lane_list old.low → news ≡ lane_list new.low → MergedTo e olds news m bytes → from_lanes bytes ≡ joined m e (value old) (value new)
merged_all m e old new olds news bytes b bo bn io in' t =
    let f : ℕ → ℕ = λ j. get_or bytes j 0 in
    let k : 8 ≡ (8 - m) + m = omega arith in
    ap (λ x. lane_sum x f) k ∙ lane_sum_short (8 - m) m f t.rest ∙
    lane_sum_same m f (merged_lane e (value old) (value new))
    (λ j l.
    let here : j < 8 = omega arith in
    t.merged j l ∙
    ap (λ x. cond (bit j e) x (get_or news j 0)) (ap (λ s. get_or s j 0) io ∙ lane_list_at old.low j here ∙ lane_low old j bo here) ∙
    ap (λ x. cond (bit j e) (lane j (value old)) x) (ap (λ s. get_or s j 0) in' ∙ lane_list_at new.low j here ∙ lane_low new j bn here))
