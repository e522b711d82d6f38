-- A value, unless something stands in its place.
use Rattle.std.specs.Prelude.{Some, None, Ok, Err, Option, Result}

abbrev pub unless : {E T : Type 0} → Option E → T → Result T E
unless (Some e) v = Err e
unless None v = Ok v
