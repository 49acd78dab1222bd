-- What a store into a buffer leaves. Assumes nothing.
use Rattle.std.specs.Prelude.{◌≡◌, ℕ, ◌+◌, ◌-◌, ◌*◌, ◌%◌, ◌^◌, ◌<◌, ◌≤◌, ◌⊎◌, List, ◌∷◌, ◌++◌, length, take, drop, set, slice_index, slice_index_or, slice_set, refl}
use Rattle.std.proofs.Common.{ap, ◌∙◌, inl, inr, ⊎_elim, arith, add_assoc, rules}
use borrow.Rule.Slice.PartMut.{put_mid}
use Rattle.std.proofs.lemmas.List.{places, set-append_right, drop-drop, drop_more, length-take-le}
use Rattle.word.specs.Lanes.{lane_list}
use Rattle.word.proofs.LaneFacts.{lane_list_below, lane_top, lane_sum_same, lanes_whole}
use Rattle.card.specs.Buffers.{loaded, stored, word_bytes}

-- eight bytes copied to a part of the buffer, and one behind them
store_parts : (xs ys : List ℕ) (a k t : ℕ) → a + 9 ≤ length xs → length ys ≡ 8 → k ≡ 8 →
    slice_set (put_mid a k xs ys) (a + 8) t ≡ take a xs ++ (ys ++ (t ∷ drop (a + 9) xs))
store_parts xs ys a k t h e f =
    let rest : drop k (drop a xs) ≡ slice_index xs (a + 8) ∷ drop (a + 9) xs =
    ap (λ n. drop n (drop a xs)) f ∙ drop-drop 8 a xs ∙ drop_more xs (a + 8) 0 (omega arith) ∙
    ap (λ n. slice_index xs (a + 8) ∷ drop n xs) (add_assoc a 8 1) in
    let front : set (put_mid a k xs ys) (a + 8) t ≡ take a xs ++ set (ys ++ drop k (drop a xs)) (a + 8 - a) t =
    set-append_right (take a xs) (ys ++ drop k (drop a xs)) a (a + 8) t (length-take-le a xs (omega arith)) (omega arith) in
    let middle = set-append_right ys (drop k (drop a xs)) 8 (a + 8 - a) t e (omega arith) in
    let at : a + 8 - a - 8 ≡ 0 = omega arith in
    let last : set (drop k (drop a xs)) (a + 8 - a - 8) t ≡ t ∷ drop (a + 9) xs = rw (rest, at) in
    front ∙ ap (λ l. take a xs ++ l) (middle ∙ ap (λ l. ys ++ l) last)

-- the two writes of a word, its eight lowest bytes and its top one, are its store
pub stored_is : (xs ys : List ℕ) (a k low top : ℕ) → a + 9 ≤ length xs → k ≡ 8 → ys ≡ lane_list low → low < 2 ^ 64 → top < 2 ^ 8 →
    slice_set (put_mid a k xs ys) (a + 8) top ≡ stored xs a (low + 2 ^ 64 * top)
stored_is xs ys a k low top h f e l t =
    let v : ℕ = low + 2 ^ 64 * top in
    let whole : low ≡ (low + 2 ^ 64 * top) % 2 ^ 64 = omega arith in
    let lanes : ys ≡ lane_list v = e ∙ ap lane_list whole ∙ lane_list_below v in
    store_parts xs ys a k top h (ap length e) f ∙ ap (λ l. take a xs ++ (l ++ (top ∷ drop (a + 9) xs))) lanes ∙
    ap (λ b. take a xs ++ (lane_list v ++ (b ∷ drop (a + 9) xs))) (lane_top low top l t)

-- a list with n elements, from a on, in the place of its own
abbrev spliced : List ℕ → List ℕ → ℕ → ℕ → List ℕ
spliced xs ys a n = take a xs ++ (ys ++ drop (a + n) xs)

module _ (xs ys : List ℕ) (a n : ℕ) (h : a + n ≤ length xs) (e : length ys ≡ n) where
  length_spliced : length (spliced xs ys a n) ≡ length xs
  length_spliced = search (rules, places)

  spliced_here : (j d : ℕ) → j < n → slice_index_or (spliced xs ys a n) (a + j) d ≡ slice_index_or ys j d
  spliced_here j d k = search (rules, places)

  spliced_there : (i d : ℕ) → ((i < a) ⊎ (a + n ≤ i)) → slice_index_or (spliced xs ys a n) i d ≡ slice_index_or xs i d
  spliced_there i d way = ⊎_elim (λ k. search (rules, places)) (λ k. search (rules, places)) way

module _ (xs : List ℕ) (a v : ℕ) (h : a + 9 ≤ length xs) where
  pub length_stored : length (stored xs a v) ≡ length xs
  length_stored = length_spliced xs (word_bytes v) a 9 h refl

  pub loaded_here : loaded (stored xs a v) a ≡ v % 2 ^ 72
  loaded_here =
      lane_sum_same 9 (λ j. slice_index (stored xs a v) (a + j)) (λ j. slice_index (word_bytes v) j)
      (λ j k. spliced_here xs (word_bytes v) a 9 h refl j 0 k) ∙ lanes_whole 9 v

  pub loaded_there : (b : ℕ) → ((b + 9 ≤ a) ⊎ (a + 9 ≤ b)) → loaded (stored xs a v) b ≡ loaded xs b
  loaded_there b way =
      lane_sum_same 9 (λ j. slice_index (stored xs a v) (b + j)) (λ j. slice_index xs (b + j))
      (λ j k. spliced_there xs (word_bytes v) a 9 h refl (b + j) 0 (⊎_elim (λ l. inl (omega arith)) (λ l. inr (omega arith)) way))
