-- What is left of the digits, read after the number so far, gives the whole number; i digits write a number below 10^i.
use Rattle.std.proofs.Common.{◌≡◌, ◌^◌, ◌<◌, true, drop}
use Rattle.text.specs.Columns.{needed, digits, read_on}
use Rattle.text.proofs.column.whole.Given as goal

abbrev pub invariant-loop-byte : goal.invariant-loop-byte
invariant-loop-byte l =
    record {
      needed : needed l.digits ≡ true;
      left : digits (drop l.byte-index l.digits) ≡ digits l.digits;
      read : read_on l.n (drop l.byte-index l.digits) ≡ read_on 0 l.digits;
      below : l.n < 10 ^ l.byte-index;
    }
