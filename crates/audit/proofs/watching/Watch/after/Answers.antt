use Rattle.std.proofs.Common.{◌≡◌, ℕ, ◌+◌, ◌/◌, Bool, true, cond, ◌&&◌, ltb, sym, ap, ◌∙◌, subst}
use Rattle.std.proofs.lemmas.Bool.{and_left}
use Rattle.runs.specs.Histories.{Made, granted, writes, number_of}
use Rattle.audit.specs.Watching.{marked}
use Rattle.audit.specs.declared.watching.Watch.{Watch}
use Rattle.audit.proofs.Seeing.{Stepped, step_granted, step_refused, sees_next}
use Rattle.audit.proofs.watching.Watch.after.Goals as goal
use Rattle.audit.proofs.watching.Watch.after.Goals.{then-granted, else-granted, then-granted-2, else-granted-2}

pub returns : goal.returns
returns c =
    let w = c.args.self in
    let u = c.if-granted.told in
    let cells = c.args.shape.width + c.args.shape.checks in
    let lanes = c.args.shape.width / 8 in
    let d : Made = record { call = c.args.call; answer = c.args.answer } in
    let is = c.grants-granted.ensures in
    let step : Stepped cells lanes d w u =
    elim c.if-granted.branch [
      | then-granted v ↦
          subst (λ (x : Watch). Stepped cells lanes d w x) (sym v.told-is)
          (step_granted cells lanes d w v.granted-told.result (sym is ∙ v.if-granted.true) c.args.shape.fits.1 v.granted-told.ensures)
      | else-granted v ↦ step_refused cells lanes d w u (sym is ∙ v.if-granted.false) v.told-is
    ] in
    let written : c.if-granted-2.written ≡ (granted c.args.answer && writes w.place c.args.call) =
    elim c.if-granted-2.branch [
      | then-granted-2 v ↦ v.written-is ∙ v.does_write-written.ensures ∙ ap (λ g. g && writes w.place c.args.call) (sym v.if-granted-2.true ∙ is)
      | else-granted-2 v ↦ v.written-is ∙ v.if-granted-2.false ∙ sym (and_left (granted c.args.answer) (writes w.place c.args.call) (sym is ∙ v.if-granted-2.false))
    ] in
    let few = c.upset_cells-few.ensures ∙ ap (number_of (marked u.upset)) c.cells.ensures.all in
    let held =
    c.keep_in_hand.ensures ∙ ap (λ (b : Bool). cond b true (w.in_hand && ltb c.upset_cells-few.result 3)) written ∙
    ap (λ (n : ℕ). cond (granted c.args.answer && writes w.place c.args.call) true (w.in_hand && ltb n 3)) few in
    record {
      here = step.here;
      seen = λ h s. sees_next cells lanes d h w u s step c.keep_in_hand.result held;
    }
