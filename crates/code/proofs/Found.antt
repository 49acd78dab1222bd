-- Where a number stands in a list. Assumes nothing.
use Rattle.std.proofs.Common.{◌≡◌, ℕ, zero, suc, ◌+◌, ◌*◌, ◌^◌, ◌<◌, List, [], ◌∷◌, length, get_or, sym, refl, ap, ◌∙◌, ⊎_elim, le_of_suc-le-suc, not-suc-le-zero, add-zero, add-suc, mul_assoc, suc-add, one-mul, pow-suc, arith}
use Rattle.std.proofs.lemmas.Bool.{cases_eq, eq-eqb, ne_eqb, cond-true, cond-false}
use Rattle.code.specs.Codes.{found, powers}

-- s stands nowhere in the list
abbrev pub Nowhere : ℕ → List ℕ → Type 0
Nowhere s xs = (m : ℕ) → m < length xs → s ≡ get_or xs m 0 → ⊥

-- s is found at a place where it stands, or it stands nowhere
pub data Finding {X : Type 0} (at : ℕ → X) (other : X) (i : ℕ) (xs : List ℕ) (s : ℕ) : Type 0 where
  here : (j : ℕ) → j < length xs → s ≡ get_or xs j 0 → found at other i xs s ≡ at (i + j) → Finding at other i xs s
  nowhere : Nowhere s xs → found at other i xs s ≡ other → Finding at other i xs s

nowhere_more : (s x : ℕ) (xs : List ℕ) → (s ≡ x → ⊥) → Nowhere s xs → Nowhere s (x ∷ xs)
nowhere_more s x xs n a zero h e = n e
nowhere_more s x xs n a (suc m) h e = a m (le_of_suc-le-suc h) e

step : {X : Type 0} (at : ℕ → X) (other : X) (i x : ℕ) (xs : List ℕ) (s : ℕ) → (s ≡ x → ⊥) → Finding at other (suc i) xs s → Finding at other i (x ∷ xs) s
step at other i x xs s n (here j h e f) =
    here (suc j) (omega arith) e (cond-false _ _ _ (ne_eqb s x n) ∙ f ∙ ap at (suc-add i j ∙ sym (add-suc i j)))
step at other i x xs s n (nowhere a f) = nowhere (nowhere_more s x xs n a) (cond-false _ _ _ (ne_eqb s x n) ∙ f)

pub finding : {X : Type 0} (at : ℕ → X) (other : X) (i : ℕ) (xs : List ℕ) (s : ℕ) → Finding at other i xs s
finding at other i [] s = nowhere (λ m h. absurd (not-suc-le-zero h)) refl
finding at other i (x ∷ xs) s =
    ⊎_elim
    (λ e. here zero (omega arith) e (cond-true _ _ _ (eq-eqb s x e) ∙ ap at (sym (add-zero i))))
    (λ n. step at other i x xs s n (finding at other (suc i) xs s))
    (cases_eq s x)

pub length_powers : (k x : ℕ) → length (powers k x) ≡ k
length_powers zero x = refl
length_powers (suc k) x = ap suc (length_powers k (2 * x))

pub powers_at : (k x j : ℕ) → j < k → get_or (powers k x) j 0 ≡ 2 ^ j * x
powers_at zero x j h = absurd (not-suc-le-zero h)
powers_at (suc k) x zero h = sym (one-mul x)
powers_at (suc k) x (suc j) h =
    powers_at k (2 * x) j (le_of_suc-le-suc h) ∙ sym (mul_assoc (2 ^ j) 2 x) ∙ ap (λ y. y * x) (sym (pow-suc 2 j))
