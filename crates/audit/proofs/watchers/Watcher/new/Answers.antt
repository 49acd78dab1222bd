use Rattle.std.proofs.Common.{rules, ◌≡◌, ℕ, ◌+◌, ◌/◌, List, [], ◌∷◌, slice_index_or, refl, ◌∙◌}
use Rattle.audit.specs.Watching.{Sees}
use Rattle.audit.specs.Watchers.{nowhere, watch_of}
use Rattle.audit.proofs.Watchful.{each_of_four}
use Rattle.audit.proofs.watchers.Watcher.new.Goals as goal

pub returns-clause-seen : goal.returns-clause-seen
returns-clause-seen c n k places b =
    let four : List ℕ = 0 ∷ 1 ∷ 2 ∷ 3 ∷ [] in
    record {
      place_is = λ p l.
          let made = c.map.ensures.items.at p 0 nowhere l in
          let e : (watch_of c.map.result p).place ≡ slice_index_or four p 0 = search rules in
          e ∙ each_of_four (λ q. slice_index_or four q 0 ≡ q) refl refl refl refl p l;
      place_seen = λ p l.
          let made = c.map.ensures.items.at p 0 nowhere l in
          let s : Sees (n + k) (n / 8) [] (watch_of c.map.result p) = search rules in
          s;
      log_seen = record { all = λ _ _. tt; counted = λ e q. search rules };
    }
