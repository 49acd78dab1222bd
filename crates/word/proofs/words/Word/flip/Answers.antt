use Rattle.std.proofs.Common.{◌^◌, ◌<◌, arith}
use Rattle.word.proofs.Values.{flipped_low, flipped_top}
use Rattle.word.proofs.words.Word.flip.Goals as goal

pub returns-then-cell-lt64 : goal.returns-then-cell-lt64
returns-then-cell-lt64 c =
    let l : c.args.self.low < 2 ^ 64 = omega arith in
    flipped_low c.args.self.low c.args.self.top c.args.cell l c.if-cell-lt64.true

pub returns-then-cell-lt72 : goal.returns-then-cell-lt72
returns-then-cell-lt72 c =
    let l : c.args.self.low < 2 ^ 64 = omega arith in
    flipped_top c.args.self.low c.args.self.top c.args.cell l c.if-cell-lt64.false c.if-cell-lt72.true
