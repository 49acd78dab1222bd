-- The two slices make the check bits of the whole word. Assumes nothing.
use Rattle.std.specs.Prelude.{◌≡◌, ℕ, ◌/◌, ◌^◌, ◌<◌, length, take, drop, nat_lt, slice_index, refl}
use Rattle.std.specs.Int.Bits.{xor_assoc}
use Rattle.std.proofs.lemmas.Nat.{xor_lt}
use Rattle.std.proofs.Common.{lit<, lit≤}
use Rattle.std.proofs.lemmas.List.{take-append-drop}
use Rattle.std.proofs.lemmas.Bool.{ltb-true}
use Rattle.code.specs.Codes.{picked, generated}
use Rattle.codes.specs.Tables.{columns64, inverted, code64}
use Rattle.codes.specs.Cascade.{lower_slice, sliced, SameAsSingle}
use Rattle.codes.specs.Entries.{entry}
use Rattle.code.proofs.Picked.{picked_append, picked_mod, picked_below}

lower_size : length (take 32 columns64) ≡ 32
unfolding columns64
lower_size = refl

whole : (d : ℕ) → sliced d ≡ generated code64 d
whole d =
    let low = picked_mod (take 32 columns64) d 32 (rw lower_size (lit≤ tt)) in
    let both = picked_append (take 32 columns64) (drop 32 columns64) d in
    let size = lower_size in
    let all = take-append-drop 32 columns64 in
    let assoc = xor_assoc inverted (picked (take 32 columns64) d) (picked (drop 32 columns64) (d / 2 ^ 32)) in
    cc

pub same_as_single : SameAsSingle
same_as_single v = (whole v, refl, refl, refl, refl)

lower_byte : (i : ℕ) → i < length (take 32 columns64) → slice_index (take 32 columns64) i < 2 ^ 8
unfolding columns64
lower_byte i h = ltb-true _ _ (entry (λ _ x. nat_lt x (2 ^ 8)) (take 32 columns64) refl i h)

pub lower_below : (low : ℕ) → lower_slice low < 2 ^ 8
lower_below low = xor_lt 8 inverted _ (lit< tt) (picked_below 8 (take 32 columns64) lower_byte low)
