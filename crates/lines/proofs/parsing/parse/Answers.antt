use Rattle.std.proofs.Common.{rules}
use Rattle.lines.proofs.OneText.{parsed_from}
use Rattle.lines.proofs.parsing.parse.Goals as goal

pub returns : goal.returns
returns c = parsed_from c.args.line.now c.command_of.result _ c.command_of.ensures (search rules)
