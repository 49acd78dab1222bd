-- One call more of a run. Assumes nothing.
use Rattle.std.proofs.Common.{◌≡◌, ℕ, suc, ◌+◌, ◌<◌, ◌≤◌, List, [], ◌∷◌, ◌++◌, length, get_or, take, drop, set, sym, refl, ap, ◌∙◌, append_assoc, arith}
use Rattle.std.proofs.lemmas.List.{take_more, drop_more, set_at, take_at, length-take-le}
use Rattle.code.specs.Codes.{CodeModel}
use Rattle.card.specs.Cards.{CardModel}
use Rattle.parts.specs.Units.{UnitState}
use Rattle.unit.specs.Steps.{step}
use Rattle.runs.specs.Runs.{answers, final}
use Rattle.unit.specs.declared.calls.Call.{Call}
use Rattle.unit.specs.Steps.{Answer}

module _ (c : CodeModel) (m : CardModel) where
  pub length_answers : (s : UnitState m.State) (calls : List Call) → length (answers c m s calls) ≡ length calls
  length_answers s [] = refl
  length_answers s (k ∷ calls) = ap suc (length_answers (step c m s k).state calls)

  answers_push : (s : UnitState m.State) (calls : List Call) (k : Call) → answers c m s (calls ++ (k ∷ [])) ≡ answers c m s calls ++ ((step c m (final c m s calls) k).answer ∷ [])
  answers_push s [] k = refl
  answers_push s (j ∷ calls) k = ap (λ l. (step c m s j).answer ∷ l) (answers_push (step c m s j).state calls k)

  final_push : (s : UnitState m.State) (calls : List Call) (k : Call) → final c m s (calls ++ (k ∷ [])) ≡ (step c m (final c m s calls) k).state
  final_push s [] k = refl
  final_push s (j ∷ calls) k = final_push (step c m s j).state calls k

  module _ (s : UnitState m.State) (calls : List Call) (n : ℕ) (d : Call) (h : n < length calls) where
    k : Call
    k = get_or calls n d

    more_calls : take (n + 1) calls ≡ take n calls ++ (k ∷ [])
    unfolding k
    more_calls = take_more calls n d h

    pub final_more : (u v : UnitState m.State) → u ≡ final c m s (take n calls) → v ≡ (step c m u (get_or calls n d)).state → v ≡ final c m s (take (n + 1) calls)
    unfolding k
    final_more u v e f = f ∙ ap (λ x. (step c m x k).state) e ∙ sym (ap (final c m s) more_calls ∙ final_push s (take n calls) k)

    -- the answer behind the others
    pub answers_more : (old new : List Answer) (u : UnitState m.State) (a : Answer) → n < length old → u ≡ final c m s (take n calls) →
        new ≡ answers c m s (take n calls) ++ drop n old → a ≡ (step c m u (get_or calls n d)).answer → set new n a ≡ answers c m s (take (n + 1) calls) ++ drop (n + 1) old
    unfolding k
    answers_more old new u a b e w f =
        let front = answers c m s (take n calls) in
        let long : length front ≡ n = length_answers s (take n calls) ∙ length-take-le n calls (omega arith) in
        let told : a ≡ (step c m (final c m s (take n calls)) k).answer = f ∙ ap (λ x. (step c m x k).answer) e in
        ap (λ l. set l n a) (w ∙ ap (λ l. front ++ l) (drop_more old n a b)) ∙ set_at front (get_or old n a) (drop (n + 1) old) a n long ∙
        ap (λ x. front ++ (x ∷ drop (n + 1) old)) told ∙ sym (append_assoc front ((step c m (final c m s (take n calls)) k).answer ∷ []) (drop (n + 1) old)) ∙
        ap (λ l. l ++ drop (n + 1) old) (sym (ap (answers c m s) more_calls ∙ answers_push s (take n calls) k))

  -- the answers are at the front of the buffer
  pub answers_front : (s : UnitState m.State) (calls : List Call) (n : ℕ) (old new : List Answer) → n ≤ length calls → new ≡ answers c m s (take n calls) ++ drop n old → take n new ≡ answers c m s (take n calls)
  answers_front s calls n old new h w = ap (take n) w ∙ take_at (answers c m s (take n calls)) (drop n old) n (length_answers s (take n calls) ∙ length-take-le n calls h)
