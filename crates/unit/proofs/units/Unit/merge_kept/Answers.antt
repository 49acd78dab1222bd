use Rattle.std.proofs.Common.{◌≡◌, ℕ, sym, refl, ◌∙◌, arith}
use Rattle.parts.specs.Merges.{joined}
use Rattle.unit.specs.States.{state_of}
use Rattle.parts.proofs.UnitSteps.{merge_granted, merge_done, merge_sound}
use Rattle.unit.proofs.units.Unit.merge_kept.Goals as goal

pub returns-in_err-store_merged : goal.returns-in_err-store_merged
returns-in_err-store_merged g c =
    let s = state_of g.D.Card.state c.args.self.now in
    let t = state_of g.D.Card.state c.read.new.self in
    let granted = merge_granted g.C.Code.code g.D.Card.model g.met.C.Code.lawful g.met.D.Card.laws s c.args.place c.requires.place_bound c.args.new c.args.enables c.requires.word_bound c.in_ok-old.old c.in_ok-old.ensures.answer t c.read.ensures.after (record { low = joined 8 c.args.enables c.in_ok-old.old.low c.args.new; top = 0 }) refl in
    let never = sym c.in_err-store_merged.was ∙ c.store_merged.ensures.answer ∙ granted in
    let z : ◌≡◌ {A = ℕ} 0 1 = cc in
    absurd (omega arith)

pub returns : goal.returns
returns g c =
    let s = state_of g.D.Card.state c.args.self.now in
    let t = state_of g.D.Card.state c.read.new.self in
    record {
      answer = merge_sound g.C.Code.code g.D.Card.model g.met.C.Code.lawful g.met.D.Card.laws s c.args.place c.requires.place_bound c.args.new c.args.enables c.requires.word_bound c.in_ok-old.old c.in_ok-old.ensures.answer t c.read.ensures.after;
      after = merge_done g.C.Code.code g.D.Card.model g.met.C.Code.lawful g.met.D.Card.laws s c.args.place c.requires.place_bound c.args.new c.args.enables c.requires.word_bound c.in_ok-old.old c.in_ok-old.ensures.answer t c.read.ensures.after (record { low = joined 8 c.args.enables c.in_ok-old.old.low c.args.new; top = 0 }) refl (state_of g.D.Card.state c.store_merged.new.self) c.store_merged.ensures.after;
    }
