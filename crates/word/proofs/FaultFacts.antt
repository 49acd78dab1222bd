-- What becomes of a fault over many layers. Assumes nothing.
use Rattle.std.proofs.Common.{◌≡◌, fold, ℕ, ◌+◌, ◌*◌, ◌/◌, ◌%◌, ◌^◌, ◌<◌, ◌≤◌, min, List, [], ◌∷◌, length, Some, None, Option, Ok, Err, Result, MatchResult, is_ok, sym, refl, ap, ◌∙◌, mul_assoc, mul_comm, mul-add, mul_left_comm, arith, pow-add}
use native.Mathlib.Nat.{div-add-mod, add-mul-mod_self_left}
use Rattle.word.specs.Faults.{passed, sided, side_number, over_layer, over_layers, pairs_in, sides_number}
use Rattle.word.specs.declared.faults.Fault.{Fault}
use Rattle.word.specs.declared.faults.Side.{Side}

-- layer by layer
pub over_each : (ls : List (Option Side)) (f : Fault) → fold (λ g l. over_layer l g) f ls ≡ over_layers ls f
over_each [] f = refl
over_each (l ∷ ls) f = over_each ls (over_layer l f)

-- the depth counts the layers, up to 255
pub depth_over : (ls : List (Option Side)) (f : Fault) → f.depth ≤ 255 → (over_layers ls f).depth ≡ min 255 (f.depth + length ls)
depth_over [] f h = omega arith
depth_over (Some s ∷ ls) f h = let e = depth_over ls (sided s f) (omega arith) in omega arith
depth_over (None ∷ ls) f h = let e = depth_over ls (passed f) (omega arith) in omega arith

-- a digit further, modulo n
shifted : (a w d m n : ℕ) → (a * ((2 * w + d) % n) + m) % n ≡ (2 * a * w + (a * d + m)) % n
shifted a w d m n =
    let v = 2 * w + d in
    let q = v / n in
    let parts : v ≡ n * q + v % n = sym (div-add-mod v n) in
    let spread : a * v ≡ a * (n * q) + a * (v % n) = ap (λ x. a * x) parts ∙ mul-add a (n * q) (v % n) in
    let turned : a * (n * q) ≡ n * (a * q) = mul_left_comm a n q in
    let summed : a * v ≡ a * (2 * w) + a * d = mul-add a (2 * w) d in
    let double : a * (2 * w) ≡ 2 * a * w = sym (mul_assoc a 2 w) ∙ ap (λ x. x * w) (mul_comm a 2) in
    let whole : 2 * a * w + (a * d + m) ≡ (a * (v % n) + m) + n * (a * q) = omega arith in
    rw whole (sym (add-mul-mod_self_left (a * (v % n) + m) n (a * q)))

-- the way has a binary digit for each pair, of which it keeps the last sixteen
pub way_over : (ls : List (Option Side)) (f : Fault) → f.way < 65536 →
    (over_layers ls f).way ≡ (2 ^ pairs_in ls * f.way + sides_number ls) % 65536
way_over [] f h = omega arith
way_over (Some s ∷ ls) f h =
    let below : (sided s f).way < 65536 = omega arith in
    let e = way_over ls (sided s f) below in
    let next = shifted (2 ^ pairs_in ls) f.way (side_number s) (sides_number ls) 65536 in
    let power : 2 ^ (1 + pairs_in ls) ≡ 2 * 2 ^ pairs_in ls = pow-add 2 1 (pairs_in ls) in
    rw power (e ∙ next)
way_over (None ∷ ls) f h = way_over ls (passed f) h

-- what came up as granted was granted below
pub granted_below : {T E D : Type 0} (below : Result T E) (above : Result T D) (P : E → Type 0) (x : T) →
    MatchResult below (λ y. above ≡ Ok y) P → is_ok above ≡ is_ok below → above ≡ Ok x → below ≡ Ok x
granted_below (Ok y) above P x cases variant up = cc
granted_below (Err e) above P x cases variant up = cc
