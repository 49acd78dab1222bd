use Rattle.std.proofs.Common.{◌≡◌, ap, ◌∙◌, arith}
use Rattle.word.specs.Faults.{over_layers}
use Rattle.word.proofs.FaultFacts.{over_each, depth_over, way_over}
use Rattle.word.proofs.faults.Fault.pass_up_through.Goals as goal

pub returns : goal.returns
returns c =
    let all : c.climb.result ≡ over_layers c.args.layers.now c.args.self = c.climb.ensures ∙ over_each c.args.layers.now c.args.self in
    record {
      passed_by_each = all;
      deep = ap (λ f. f.depth) all ∙ depth_over c.args.layers.now c.args.self (omega arith);
      wound = ap (λ f. f.way) all ∙ way_over c.args.layers.now c.args.self (omega arith);
    }
