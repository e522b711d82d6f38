use Rattle.std.proofs.Common.{◌≡◌, List, ap, ◌∙◌, subst}
use Rattle.registers.specs.declared.pattern.Pattern.{Pattern}
use Rattle.registers.specs.Values.{Value}
use Rattle.sheets.specs.Written.{values}
use Rattle.bench.specs.Calls.{fuse_answer, root_answer}
use Rattle.bench.specs.Distances.{length_flags, length_in, square_in, sum_in}
use Rattle.bench.specs.Raised.{joined_flags}
use Rattle.bench.specs.Worksheets.{RootLeaves}
use Rattle.bench.proofs.Raising.{raised_thrice}
use Rattle.bench.proofs.desk.Desk.length.Goals as goal

pub returns : goal.returns
unfolding length_flags length_in square_in sum_in
returns g c =
    let m = c.args.mode in
    let x = c.args.x in
    let y = c.args.y in
    let square : c.fuse-square.result ≡ (square_in m y).pattern = c.fuse-square.ensures.answer ∙ ap (λ (z : Pattern). (fuse_answer m y y z).pattern) c.zero.ensures in
    let sum : c.fuse-sum.result ≡ (sum_in m x y).pattern = c.fuse-sum.ensures.answer ∙ ap (λ (z : Pattern). (fuse_answer m x x z).pattern) square in
    let lines : List Value = values c.root.new.self.sheet in
    record {
      answer = c.root.ensures.answer ∙ ap (λ (z : Pattern). (root_answer m z).pattern) sum;
      after = record {
        flags = raised_thrice c.args.self.now.flags _ _ _ _ _ _
            (c.fuse-square.ensures.after.flags ∙ ap (λ (z : Pattern). joined_flags c.args.self.now.flags (fuse_answer m y y z).flags) c.zero.ensures)
            (c.fuse-sum.ensures.after.flags ∙ ap (λ (z : Pattern). joined_flags c.fuse-square.new.self.flags (fuse_answer m x x z).flags) square)
            (c.root.ensures.after.flags ∙ ap (λ (z : Pattern). joined_flags c.fuse-sum.new.self.flags (root_answer m z).flags) sum);
        origin = c.root.ensures.after.origin ∙ c.fuse-sum.ensures.after.origin ∙ c.fuse-square.ensures.after.origin;
      };
      sheet =
          let e = c.fuse-sum.ensures.after.origin ∙ c.fuse-square.ensures.after.origin in
          subst (λ z. RootLeaves (g.S.Source.roots z) m (sum_in m x y).pattern lines c.root.result) e
          (subst (λ (z : Pattern). RootLeaves (g.S.Source.roots c.fuse-sum.new.self.source) m z lines c.root.result) sum c.root.ensures.sheet);
    }
