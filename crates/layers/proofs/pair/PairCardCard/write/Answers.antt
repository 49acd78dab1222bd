use Rattle.std.proofs.Common.{◌^◌, ◌<◌, ◌∙◌, arith}
use Rattle.word.specs.Words.{value}
use Rattle.layers.specs.Pairs.{Both, pair_card}
use Rattle.layers.specs.PairLaws.{both_written}
use Rattle.layers.proofs.pair.PairCardCard.write.Goals as goal

pub returns : goal.returns
returns g c =
    let l = g.L.Card.model in
    let h = g.H.Card.model in
    let s : Both l.State h.State = record { low = g.L.Card.state c.args.self.now.low; high = g.H.Card.state c.args.self.now.high } in
    let t : Both l.State h.State = record { low = g.L.Card.state c.write.new.self; high = g.H.Card.state c.write-2.new.self } in
    let here : c.args.place < (pair_card l h).count s = omega arith in
    let fit : value c.args.word < 2 ^ (pair_card l h).width s = rw (← c.width.ensures) c.in_ok-check_width.ensures in
    let written = both_written l h g.met.L.Card.laws g.met.H.Card.laws s t c.args.place (value c.args.word) c.width-2.result c.split.result
    here fit c.width-2.ensures c.split.ensures c.write.ensures.after c.write-2.ensures.after in
    record { answer = c.write-2.ensures.answer ∙ written.0; after = written.1 }
