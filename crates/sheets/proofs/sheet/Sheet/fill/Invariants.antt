-- The lines passed are written, and no other.
use Rattle.std.proofs.Common.{◌≡◌, take}
use Rattle.sheets.specs.Written.{written}
use Rattle.sheets.proofs.sheet.Sheet.fill.Given as goal

abbrev pub invariant-loop-line : goal.invariant-loop-line
invariant-loop-line l = written l.self ≡ take l.line-index l.lines
