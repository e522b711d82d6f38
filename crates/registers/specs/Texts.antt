-- How patterns, register numbers and unknown modes are printed.
use Rattle.std.specs.Prelude.{ℕ, ◌-◌, true, cond, List, ◌++◌, length, replicate, codes}
use Rattle.std.specs.Fmt.{decimal, digits, signed_decimal}
use Rattle.registers.specs.declared.mode.UnknownMode.{UnknownMode}
use Rattle.registers.specs.declared.pattern.Pattern.{Pattern}
use Rattle.registers.specs.declared.register.Number.{Number}
use Rattle.registers.specs.declared.register.Register.{Register}
use Rattle.registers.specs.declared.register.Register.TheVariants.{Zero, Nonzero}
use Rattle.registers.specs.Values.{exponent_of}

-- the bits in upper-case hexadecimal digits, with zeros before them up to eight
abbrev pub pattern_text : Pattern → List ℕ
pattern_text p = replicate (8 - length (digits 16 true p.bits)) 48 ++ digits 16 true p.bits

-- sign, exponent, colon, significand
abbrev pub number_text : Number → List ℕ
number_text x = cond x.negative (codes "-") (codes "+") ++ signed_decimal (exponent_of x.exponent) ++ codes ":" ++ decimal x.significand

abbrev pub register_text : Register → List ℕ
register_text Zero = codes "0"
register_text (Nonzero x) = number_text x

abbrev pub unknown_mode_text : UnknownMode → List ℕ
unknown_mode_text e = codes "no mode has the number " ++ decimal e.0
