use Rattle.std.proofs.Common.{sym, ap, ◌∙◌}
use Rattle.word.specs.Words.{value}
use Rattle.runs.specs.Histories.{laid_by}
use Rattle.runs.proofs.MergedCells.{cells_joined}
use Rattle.audit.proofs.watching.lay_over.Goals as goal

-- the cells merged are the lanes joined
pub returns-in-Merge : goal.returns-in-Merge
returns-in-Merge c =
    c.merge_lanes.ensures ∙ cells_joined c.in-Merge.enables (value c.args.old) (value c.in-Merge.word) c.args.lanes ∙
    ap (laid_by c.args.lanes (value c.args.old)) (sym c.in-Merge.is)
