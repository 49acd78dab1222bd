use Rattle.std.proofs.Common.{◌≡◌, Some, rules, sym, subst}
use Rattle.audit.specs.Watchers.{SeesReading, log_read}
use Rattle.audit.proofs.Watchful.{place_read}
use Rattle.audit.proofs.watchers.Watcher.read.Goals as goal

pub returns-clause-seen : goal.returns-clause-seen
returns-clause-seen c h s =
    let w = c.args.self in
    let exact : c.count_met.result ≡ log_read w c.args.place = search rules in
    subst (λ o. SeesReading w.shape.width w.shape.checks w.shape.places h (Some c.args.place) o) (sym exact) (place_read h w s c.args.place)
