use Rattle.std.proofs.Common.{◌≡◌, ◌+◌, ◌-◌, ◌++◌, length, take, refl, ap, ◌∙◌, arith}
use Rattle.std.proofs.lemmas.Slice.{take-put_mid, drop-put_mid}
use borrow.Rule.Slice.PartMut.{same_len_mid}
use Rattle.script.proofs.printing.Page.put.Goals as goal

pub returns : goal.returns
returns c =
    let s = c.args.self.now in
    let end = s.written + length c.args.text.now in
    let written = c.copy_from_slice.new.self in
    let same = c.copy_from_slice.ensures.after in
    let long : length written ≡ length c.args.text.now = ap length same in
    record {
      told = take-put_mid s.written (end - s.written) s.out.now written end (omega arith) (omega arith) ∙ ap (λ t. take s.written s.out.now ++ t) same;
      behind = refl;
      rest = drop-put_mid s.written (end - s.written) s.out.now written end (omega arith) (omega arith) (omega arith);
      same = refl;
      long = same_len_mid s.written (end - s.written) s.out.now written c.copy_from_slice.ensures.len;
    }
