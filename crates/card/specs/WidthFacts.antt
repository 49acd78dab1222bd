-- What is known of the width that a card shows. Assumes nothing.
use Rattle.std.specs.Prelude.{◌≡◌, ℕ, ◌<◌, ◌≤◌, Bool, true, false, cond, nat_le, refl}
use Rattle.std.proofs.Common.{arith}
use Rattle.std.proofs.lemmas.Bool.{cond_both, leb-true, and_parts}
use Rattle.card.specs.Widths.{proper, shown_width}

pub proper_within : (w : ℕ) → proper w ≡ true → (1 ≤ w) × (w ≤ 72)
proper_within w e = let p = and_parts (nat_le 1 w) (nat_le w 72) e in (leb-true 1 w p.0, leb-true w 72 p.1)

pub shown_within : (w : ℕ) → (1 ≤ shown_width w) × (shown_width w ≤ 72)
shown_within w = cond_both (proper w) w 72 (λ v. (1 ≤ v) × (v ≤ 72)) (proper_within w) (λ _. (omega arith, omega arith))

-- a count that is 0 unless a test holds: where there is a place, the test held
pub place_from : (b : Bool) (n p : ℕ) → p < cond b n 0 → (b ≡ true) × (p < n)
place_from true n p h = (refl, h)
place_from false n p h = absurd (omega arith)
