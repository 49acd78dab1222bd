use Rattle.script.proofs.WriteFacts.{wrote_more, wrote_as}
use Rattle.script.proofs.printing.Page.put_fault.Goals as goal

pub returns : goal.returns
returns c =
    let wrote = wrote_more c.put.ensures (wrote_more c.put_field.ensures (wrote_more c.put_field-2.ensures (wrote_more c.put_field-3.ensures (wrote_more c.put_field-4.ensures c.put-2.ensures)))) in
    wrote_as (cc) wrote
