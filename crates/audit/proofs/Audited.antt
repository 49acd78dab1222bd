-- One call more of a recorded run. Assumes nothing.
use Rattle.std.proofs.Common.{◌≡◌, ℕ, ◌+◌, ◌<◌, ◌≤◌, List, [], ◌∷◌, ◌++◌, length, get_or, take, sym, refl, ap, ◌∙◌, arith}
use Rattle.std.proofs.lemmas.List.{take_more, length-take-le}
use Rattle.unit.specs.declared.calls.Call.{Call}
use Rattle.unit.specs.Steps.{Answer}
use Rattle.runs.specs.Histories.{History, past}
use Rattle.runs.specs.Promises.{AllOwed}
use Rattle.audit.specs.Watchers.{Watches, WatchedOwed}
use Rattle.audit.specs.declared.shapes.Shape.{Shape}
use Rattle.audit.specs.declared.watchers.Watcher.{Watcher}

-- an audit of the calls of h, so many
pub record Audited (s : Shape) (h : History) (w : Watcher) (differing made : ℕ) : Type 0 where
  pub shape_is : w.shape ≡ s
  pub counted : differing ≤ made
  pub sees : Watches w h
  pub fair : AllOwed s.width s.checks s.places h → differing ≡ 0
  pub found : differing ≡ 0 → WatchedOwed s h

past_push : (h : History) (calls : List Call) (answers : List Answer) (k : Call) (a : Answer) → length calls ≡ length answers →
    past h (calls ++ (k ∷ [])) (answers ++ (a ∷ [])) ≡ record { call = k; answer = a } ∷ past h calls answers
past_push h [] [] k a e = refl
past_push h [] (b ∷ answers) k a e = absurd (omega arith)
past_push h (j ∷ calls) [] k a e = absurd (omega arith)
past_push h (j ∷ calls) (b ∷ answers) k a e = past_push (record { call = j; answer = b } ∷ h) calls answers k a (omega arith)

pub past_more : (calls : List Call) (answers : List Answer) (i n : ℕ) (k : Call) (a : Answer) → i < length calls → i < length answers →
    k ≡ get_or calls i k → a ≡ get_or answers i a → n ≡ i + 1 →
    past [] (take n calls) (take n answers) ≡ record { call = k; answer = a } ∷ past [] (take i calls) (take i answers)
past_more calls answers i n k a b c ke ae e =
    ap (λ m. past [] (take m calls) (take m answers)) e ∙
    ap (λ l. past [] l (take (i + 1) answers)) (take_more calls i k b ∙ ap (λ x. take i calls ++ (x ∷ [])) (sym ke)) ∙
    ap (λ l. past [] (take i calls ++ (k ∷ [])) l) (take_more answers i a c ∙ ap (λ x. take i answers ++ (x ∷ [])) (sym ae)) ∙
    past_push [] (take i calls) (take i answers) k a (length-take-le i calls (omega arith) ∙ sym (length-take-le i answers (omega arith)))
