use Rattle.std.proofs.Common.{◌^◌, ◌<◌, arith, ◌∙◌}
use Rattle.word.specs.Words.{value}
use Rattle.layers.specs.Parities.{Sensed, parity_card}
use Rattle.layers.specs.ParityLaws.{raw_written}
use Rattle.layers.proofs.parity.ParityCardCard.write.Goals as goal

pub returns : goal.returns
returns g c =
    let b = g.C.Card.model in
    let s : Sensed b.State = record { sense = c.args.self.now.sense; card = g.C.Card.state c.args.self.now.card } in
    let here : c.args.place < (parity_card b).count s = omega arith in
    let fit : value c.args.word < 2 ^ (parity_card b).width s = rw (← c.width.ensures) c.in_ok-check_width.ensures in
    let made = rw (c.lanes.ensures.sense, c.lanes.ensures.count) at c.add_bits-raw.ensures in
    let written = raw_written b g.met.C.Card.laws s c.args.place (value c.args.word) c.add_bits-raw.result here fit made in
    record { answer = c.write.ensures.answer ∙ written.0; after = (λ i. record { sense = c.args.self.now.sense; card = c.write.ensures.after i }) ∙ written.1 }
