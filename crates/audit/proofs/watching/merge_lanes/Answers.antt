use Rattle.std.proofs.Common.{◌≡◌, ℕ, sym, ap, ◌∙◌, subst, arith}
use Rattle.word.specs.Words.{value}
use Rattle.runs.proofs.MergedCells.{cells_joined}
use Rattle.audit.proofs.Merging.{MergedTo, merged_more, merged_all}
use Rattle.audit.proofs.watching.merge_lanes.Goals as goal

pub loop-lane-preserved : goal.loop-lane-preserved
loop-lane-preserved c =
    let l = c.loop-lane in
    merged_more c.args.enables c.lanes_of-olds.result c.lanes_of-news.result l.lane l.bytes l.invariant c.kept_byte.result (omega (arith, c.requires)) c.kept_byte.ensures

pub returns : goal.returns
returns c =
    let end = c.loop-lane-test.false in
    let kept = c.loop-lane.auto.lane-end in
    let all : c.loop-lane.lane ≡ c.args.lanes = omega arith in
    let merged = subst (λ (n : ℕ). MergedTo c.args.enables c.lanes_of-olds.result c.lanes_of-news.result n c.loop-lane.bytes) all c.loop-lane.invariant in
    let whole = merged_all c.args.lanes c.args.enables c.args.old c.args.new c.lanes_of-olds.result c.lanes_of-news.result c.loop-lane.bytes c.requires (omega arith) (omega arith) c.lanes_of-olds.ensures c.lanes_of-news.ensures merged in
    let cells = cells_joined c.args.enables (value c.args.old) (value c.args.new) c.args.lanes in
    let low = c.join_lanes.ensures ∙ whole ∙ sym cells in
    omega (arith, low, ap value c.from.ensures)
