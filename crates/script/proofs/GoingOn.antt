-- The calls of a script, and the promise over them. Assumes nothing.
use Rattle.std.proofs.Common.{◌≡◌, ℕ, suc, ◌+◌, List, [], ◌∷◌, ◌++◌, take, Some, None, sym, refl, ap, ◌∙◌, subst, arith}
use Rattle.code.specs.Codes.{CodeModel, CodeLaws}
use Rattle.card.specs.Cards.{CardModel, CardLaws}
use Rattle.parts.specs.Units.{UnitState}
use Rattle.unit.specs.Steps.{step}
use Rattle.runs.specs.Runs.{new_unit, final, Kept}
use Rattle.unit.specs.declared.calls.Call.{Call}
use Rattle.runs.proofs.Keeping.{runs_keep}
use Rattle.script.specs.Scripts.{Line, End, Ran, done, stop, line, CallsOf, none, silent, asks, GoesOn}

module _ (c : CodeModel) (m : CardModel) where
  final_append : (s : UnitState m.State) (a b : List Call) → final c m s (a ++ b) ≡ final c m (final c m s a) b
  final_append s [] b = refl
  final_append s (k ∷ a) b = final_append (step c m s k).state a b

  -- what a run says of its calls
  record MadeBy (s : UnitState m.State) (ls : List Line) (e : End c m) : Type 0 where
    calls : List Call
    asked : CallsOf (take e.count ls) calls
    state : e.state ≡ final c m s calls

  one_more : (l : Line) (ls : List Line) (n : ℕ) (ks : List Call) → CallsOf (l ∷ take n ls) ks → CallsOf (take (1 + n) (l ∷ ls)) ks
  one_more l ls n ks x = let e : suc n ≡ 1 + n = omega arith in subst (λ k. CallsOf (take k (l ∷ ls)) ks) e x

  calls_made : {s : UnitState m.State} {room : ℕ} {ls : List Line} {e : End c m} → Ran c m s room ls e → MadeBy s ls e
  calls_made done = record { calls = []; asked = none; state = refl }
  calls_made (stop h) = record { calls = []; asked = none; state = refl }
  calls_made (line {s = s} {l = l} {ls = ls} {e = e} None h a r) =
      let rest = calls_made r in
      record { calls = rest.calls; asked = one_more l ls e.count rest.calls (silent a rest.asked); state = rest.state }
  calls_made (line {s = s} {l = l} {ls = ls} {e = e} (Some k) h a r) =
      let rest = calls_made r in
      record { calls = k ∷ rest.calls; asked = one_more l ls e.count (k ∷ rest.calls) (asks k a rest.asked); state = rest.state }

  pub goes_on : CodeLaws c → CardLaws m → (s u : UnitState m.State) (room n : ℕ) (ls : List Line) (e : End c m) → Ran c m s room ls e → n ≡ e.count → u ≡ e.state →
      (t : m.State) (before : List Call) → s ≡ final c m (new_unit c m t) before → GoesOn c m ls n t before u
  goes_on cl ml s u room n ls e r en eu t before led =
      let made = calls_made r in
      let led_on : u ≡ final c m (new_unit c m t) (before ++ made.calls) =
      eu ∙ made.state ∙ ap (λ x. final c m x made.calls) led ∙ sym (final_append (new_unit c m t) before made.calls) in
      record {
        calls = made.calls;
        asked = subst (λ k. CallsOf (take k ls) made.calls) (sym en) made.asked;
        state = led_on;
        kept = subst (Kept c m _) (sym led_on) (runs_keep c m cl ml t (before ++ made.calls));
      }
