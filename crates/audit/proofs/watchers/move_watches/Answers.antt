use Rattle.std.proofs.Common.{◌≡◌, sym, ap, ◌∙◌, subst, arith}
use Rattle.audit.specs.Shapes.{cells_of, lanes_of}
use Rattle.audit.specs.Watching.{Sees}
use Rattle.audit.specs.Watchers.{watch_of}
use Rattle.audit.specs.declared.watching.Watch.{Watch}
use Rattle.audit.proofs.Watchful.{moved_more}
use Rattle.audit.proofs.watchers.move_watches.Goals as goal

pub loop-watch-preserved : goal.loop-watch-preserved
loop-watch-preserved c =
    let l = c.loop-watch in
    let i = l.watch-index in
    let cells = cells_of c.args.shape in
    let lanes = lanes_of c.args.shape in
    let same : watch_of l.watch-items i ≡ watch_of c.args.watches i = l.invariant.rest i (omega arith) in
    moved_more cells lanes (record { call = c.args.call; answer = c.args.answer }) c.args.watches i l.watch-items c.after.result c.loop-watch-test.true l.invariant (record {
      here = c.after.ensures.here ∙ ap (λ (w : Watch). w.place) same;
      seen = λ h s. c.after.ensures.seen h (subst (λ (w : Watch). Sees cells lanes h w) (sym same) s);
    })
