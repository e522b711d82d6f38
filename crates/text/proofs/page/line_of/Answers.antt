-- Two columns, written over the front of a line of bytes 10.
use Rattle.std.proofs.Common.{ℕ, List, ◌++◌, replicate, ap, ◌∙◌, arith}
use borrow.Rule.Slice.PartMut.{put_mid}
use Rattle.text.proofs.Placing.{two_columns}
use Rattle.text.proofs.page.line_of.Goals as goal

pub returns : goal.returns
returns c =
    let first = c.args.first.now in
    ap (λ (a : List ℕ). put_mid 14 14 (a ++ replicate 15 10) c.copy_from_slice-2.new.self) c.copy_from_slice.ensures.after
    ∙ ap (λ (b : List ℕ). put_mid 14 14 (first ++ replicate 15 10) b) c.copy_from_slice-2.ensures.after
    ∙ two_columns first c.args.second.now (omega arith) (omega arith)
