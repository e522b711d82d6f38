-- Each column passed has digits, and each number passed is in range.
use Rattle.std.proofs.Common.{◌≡◌, ℕ, ◌<◌, get_or, length, pos, Some, None, Ok}
use Rattle.text.specs.Columns.{narrowed}
use Rattle.text.specs.Judging.{wides_of}
use Rattle.text.proofs.line.numbers.Given as goal

abbrev pub invariant-loop-k : goal.invariant-loop-k
invariant-loop-k g l =
    record {
      columns : length l.columns ≡ g.row.N;
      wides : length l.wides ≡ g.row.N;
      passed : (j : ℕ) → j < l.k → get_or (wides_of l.columns) j None ≡ Some (get_or l.wides j (pos 0));
    }

abbrev pub invariant-loop-k-2 : goal.invariant-loop-k-2
invariant-loop-k-2 g l =
    record {
      numbers : length l.numbers ≡ g.row.N;
      passed : (j : ℕ) → j < l.k → narrowed (get_or l.wide-items j (pos 0)) ≡ Ok (get_or l.numbers j (pos 0));
    }
