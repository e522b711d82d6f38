-- What holds of the list of written lines.
use Rattle.std.proofs.Common.{◌≡◌, ◌≤◌, length, arith}
use Rattle.std.proofs.lemmas.List.{length-take-le}
use Rattle.sheets.specs.declared.sheet.Sheet.{Sheet}
use Rattle.sheets.specs.Written.{written}

pub count_written : (s : Sheet) → length (written s) ≡ s.used
count_written s = let h : s.used ≤ length s.lines = omega (arith, s.few, s.whole) in length-take-le _ _ h
