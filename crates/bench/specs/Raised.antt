-- Flags, and the flags of two taken together.
use Rattle.std.specs.Prelude.{Bool, false, ◌||◌}
use Rattle.bench.specs.declared.flags.Flags.{Flags}

-- no flag but denormal, where `subnormal` says so
abbrev pub only_denormal : Bool → Flags
only_denormal subnormal = record { invalid = false; zero_divide = false; overflow = false; underflow = false; inexact = false; denormal = subnormal }

abbrev pub no_flags : Flags
no_flags = only_denormal false

-- a flag is up where it is up in either
abbrev pub joined_flags : Flags → Flags → Flags
joined_flags f g = record {
  invalid = f.invalid || g.invalid;
  zero_divide = f.zero_divide || g.zero_divide;
  overflow = f.overflow || g.overflow;
  underflow = f.underflow || g.underflow;
  inexact = f.inexact || g.inexact;
  denormal = f.denormal || g.denormal;
}
