use Rattle.audit.specs.Shapes.{cells_of, lanes_of}
use Rattle.audit.proofs.Watchful.{MovedTo}
use Rattle.audit.proofs.watchers.move_watches.Given as goal

abbrev pub invariant-loop-watch : goal.invariant-loop-watch
invariant-loop-watch l = MovedTo (cells_of l.shape) (lanes_of l.shape) (record { call = l.call; answer = l.answer }) l.fn.watches l.watch-index l.watch-items
