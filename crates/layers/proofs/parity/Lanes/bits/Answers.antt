use Rattle.std.proofs.Common.{◌≡◌, ℕ, suc, ◌+◌, ◌*◌, ◌%◌, ◌^◌, ◌<◌, ◌≤◌, take, get_or, lt_of_lt_of_le, arith, pow_mono, ◌∙◌}
use Rattle.std.proofs.lemmas.List.{length-take-le, get_or-take}
use Rattle.layers.specs.Parities.{parity_bits}
use Rattle.layers.specs.ParityFacts.{next_parity, parities_below, parity_bits_same}
use Rattle.layers.proofs.parity.Lanes.bits.Goals as goal

abbrev items : goal.After-parity → ℕ → ℕ
items c j = get_or (take c.args.self.count c.args.lanes) j 0

more : (c : goal.After-parity) →
    c.loop-j.bits + c.parity.result * 2 ^ c.loop-j.j % 2 ^ 8 ≡ parity_bits c.args.self.sense (suc c.loop-j.j) (items c)
more c =
    let few = length-take-le c.args.self.count c.args.lanes (omega arith) in
    next_parity c.args.self.sense (items c) c.loop-j.j c.loop-j.bits c.parity.result (omega arith) c.loop-j.invariant c.parity.ensures

pub overflow_add-bits : goal.overflow_add-bits
overflow_add-bits c =
    let e = more c in
    let few = length-take-le c.args.self.count c.args.lanes (omega arith) in
    let eighth : suc c.loop-j.j ≤ 8 = omega arith in
    let below : parity_bits c.args.self.sense (suc c.loop-j.j) (items c) < 2 ^ 8 =
    lt_of_lt_of_le (parities_below c.args.self.sense (suc c.loop-j.j) (items c)) (pow_mono eighth) in
    omega arith

pub returns : goal.returns
returns c =
    let few = length-take-le c.args.self.count c.args.lanes (omega arith) in
    let all : c.loop-j.j ≡ c.args.self.count = omega arith in
    rw all at c.loop-j.invariant ∙
    parity_bits_same c.args.self.sense c.args.self.count (λ j. get_or (take c.args.self.count c.args.lanes) j 0) (λ j. get_or c.args.lanes j 0)
    (λ j h. get_or-take c.args.self.count c.args.lanes j 0 h)
