use Rattle.script.proofs.WriteFacts.{wrote_more, wrote_as}
use Rattle.script.proofs.printing.Page.put_field.Goals as goal

pub returns : goal.returns
returns g c = let wrote = wrote_more c.put.ensures c.put-2.ensures in wrote_as (cc) wrote
