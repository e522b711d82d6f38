use Rattle.std.proofs.Common.{◌≡◌, drop}
use Rattle.words.specs.Digits.{more_in}
use Rattle.words.specs.Reading.{read_on}
use Rattle.words.proofs.digits.number.Given as goal

abbrev pub invariant-loop-byte : goal.invariant-loop-byte
invariant-loop-byte g l = read_on (more_in g.row.BASE) l.n (drop l.byte-index l.word) ≡ read_on (more_in g.row.BASE) 0 l.word
