use Rattle.std.proofs.Common.{◌<◌, sym, ◌∙◌, arith}
use Rattle.word.proofs.FaultFacts.{granted_below}
use Rattle.layers.specs.Pairs.{Both, pair_card}
use Rattle.layers.specs.PairLaws.{both_read}
use Rattle.layers.proofs.pair.PairCardCard.read.Goals as goal

-- both cards gave a word
pub returns : goal.returns
returns g c =
    let l = g.L.Card.model in
    let h = g.H.Card.model in
    let s : Both l.State h.State = record { low = g.L.Card.state c.args.self.now.low; high = g.H.Card.state c.args.self.now.high } in
    let t : Both l.State h.State = record { low = g.L.Card.state c.read.new.self; high = g.H.Card.state c.read-2.new.self } in
    let here : c.args.place < (pair_card l h).count s = omega arith in
    let low = granted_below c.read.result c.map_err.result _ c.in_ok-low.low c.map_err.ensures.cases c.map_err.ensures.variant c.in_ok-low.was in
    let high = granted_below c.read-2.result c.map_err-2.result _ c.in_ok-high.high c.map_err-2.ensures.cases c.map_err-2.ensures.variant c.in_ok-high.was in
    let read = both_read l h g.met.L.Card.laws g.met.H.Card.laws s t c.args.place c.in_ok-low.low c.in_ok-high.high here
    (sym low ∙ c.read.ensures.answer) c.read.ensures.after (sym high ∙ c.read-2.ensures.answer) c.read-2.ensures.after in
    record {
      answer = let made = c.join.ensures in let wide = c.width-at.ensures in let whole = read.0 in cc;
      after = read.1;
    }
