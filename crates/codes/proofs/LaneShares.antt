-- Tables of lane shares: entry 256 j + b is what the byte b in lane j adds to the check bits. Assumes nothing.
use Rattle.std.proofs.Common.{◌≡◌, ℕ, zero, suc, ◌+◌, ◌*◌, ◌/◌, ◌%◌, ◌^◌, ◌<◌, ◌≤◌, Bool, true, ◌&&◌, eqb, List, All, [], ◌∷◌, length, get_or, drop, fold, sym, ap, ◌∙◌, le_of_suc-le-suc, not-suc-le-zero, add-zero, add-suc, suc-add, zero-add, div-one, arith, length-drop, shr-shr}
use lib.Bits.{bit_xor, xor_zero_r, xor_assoc}
use Rattle.std.specs.List.{zip}
use Rattle.std.proofs.Math.Seq.{drop-cons}
use Rattle.std.proofs.lemmas.Nat.{mul-add-lt, div-mul-add, mod-mul-add}
use Rattle.std.proofs.lemmas.List.{length-take-le}
use Rattle.std.proofs.lemmas.Bool.{eqb-true, and_parts}
use Rattle.word.specs.Lanes.{lane, lane_list}
use Rattle.code.specs.Codes.{picked}
use Rattle.codes.specs.Lanes.{lane_columns, Shares, ordered}
use Rattle.code.proofs.Picked.{picked_append, picked_mod}
use Rattle.codes.specs.Entries.{every, entry}

abbrev pub right_share : List ℕ → ℕ → ℕ → Bool
right_share columns i x = eqb x (picked (lane_columns columns (i / 256)) (i % 256))

-- a table for m lanes, every entry of which is its share
abbrev pub shares_test : List ℕ → ℕ → List ℕ → Bool
shares_test columns m table = eqb (length table) (m * 256) && every (right_share columns) 0 table

pub shares_right : (columns table : List ℕ) (m : ℕ) → shares_test columns m table ≡ true → Shares columns m table
shares_right columns table m t =
    let parts = and_parts _ _ t in
    let size : length table ≡ m * 256 = eqb-true _ _ parts.0 in
    record {
      long = size;
      share = λ j b h k.
          let inside : j * 256 + b < length table = omega (arith, mul-add-lt j 256 b m h k) in
          let e = eqb-true _ _ (entry (right_share columns) table parts.1 (j * 256 + b) inside) in
          let d = div-mul-add j 256 b k in
          let r = mod-mul-add j 256 b k in
          e ∙ ap (λ x. picked (lane_columns columns x) ((j * 256 + b) % 256)) d ∙ ap (picked (lane_columns columns j)) r;
    }

-- m lanes from lane i on
abbrev lanes_from : ℕ → ℕ → ℕ → List ℕ
lanes_from i zero d = []
lanes_from i (suc m) d = lane i d ∷ lanes_from (suc i) m d

lane_at : (i m d j : ℕ) → j < m → get_or (lanes_from i m d) j 0 ≡ lane (i + j) d
lane_at i zero d j h = absurd (not-suc-le-zero h)
lane_at i (suc m) d zero h = rw add-zero
lane_at i (suc m) d (suc j) h = rw (add-suc, ← suc-add) (lane_at (suc i) m d j (le_of_suc-le-suc h))

-- the shares of lanes from lane j on add up to the columns of their cells
shares_from : (columns lanes : List ℕ) (m z d j : ℕ) (order : List ℕ) → lanes ≡ lane_list d → j + length order ≤ 8 →
    8 * m ≤ length columns → All (λ o. o < m) order →
    fold (λ bits p. bit_xor bits (picked (lane_columns columns p.0) p.1)) z (zip order (drop j lanes)) ≡
    bit_xor z (picked (ordered columns order) (d / 2 ^ (8 * j)))
unfolding picked
shares_from columns lanes m z d j [] e few long t = sym (xor_zero_r z)
shares_from columns lanes m z d j (o ∷ os) e few long t =
    let low : o < m = t 0 0 (omega arith) in
    let here : List ℕ = lane_columns columns o in
    let cells : ℕ = d / 2 ^ (8 * j) in
    let share : ℕ = picked here (get_or lanes j 0) in
    let whole : length lanes ≡ 8 = ap length e in
    let inside : j < length lanes = omega arith in
    let ih = shares_from columns lanes m (bit_xor z share) d (suc j) os e (omega arith) long (λ k x h. t (suc k) x (omega arith)) in
    let eight : 8 * suc j ≡ 8 * j + 8 = omega arith in
    let up : d / 2 ^ (8 * suc j) ≡ cells / 2 ^ 8 = ap (λ x. d / 2 ^ x) eight ∙ sym (shr-shr d (8 * j) 8) in
    let size : length here ≡ 8 = length-take-le 8 (drop (8 * o) columns) (rw length-drop (omega arith)) in
    let both = picked_append here (ordered columns os) cells in
    let byte : share ≡ picked here cells =
    ap (λ l. picked here (get_or l j 0)) e ∙ ap (picked here) (lane_at 0 8 d j (omega arith) ∙ ap (λ x. lane x d) (zero-add j))
    ∙ picked_mod here cells 8 (omega arith) in
    let assoc = xor_assoc z (picked here cells) (picked (ordered columns os) (cells / 2 ^ 8)) in
    rw (drop-cons lanes j 0 inside) cc

-- the shares of all lanes
pub shares_add_up : (columns lanes : List ℕ) (m z d : ℕ) (order : List ℕ) → lanes ≡ lane_list d → length order ≤ 8 →
    8 * m ≤ length columns → All (λ o. o < m) order →
    fold (λ bits p. bit_xor bits (picked (lane_columns columns p.0) p.1)) z (zip order lanes) ≡ bit_xor z (picked (ordered columns order) d)
shares_add_up columns lanes m z d order e few long t =
    let sum = shares_from columns lanes m z d 0 order e (omega arith) long t in
    let low = div-one d in
    cc
