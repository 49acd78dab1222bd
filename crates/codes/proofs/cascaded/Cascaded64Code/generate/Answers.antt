use Rattle.std.proofs.Common.{◌∙◌}
use Rattle.codes.specs.Slices.{same_as_single}
use Rattle.codes.proofs.cascaded.Cascaded64Code.generate.Goals as goal

pub returns : goal.returns
returns c = c.cascade.ensures ∙ (same_as_single c.args.«data»).0
