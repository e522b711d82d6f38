-- What the calls make of a bench.
use Rattle.std.specs.Prelude.{◌≡◌, [], Some, None, Ok, Err, Option, Result}
use Rattle.registers.specs.declared.mode.Mode.{Mode}
use Rattle.registers.specs.declared.mode.Mode.TheVariants.{NearestEven}
use Rattle.sheets.specs.Written.{written}
use Rattle.bench.specs.declared.bench.Bench.{Bench}
use Rattle.bench.specs.declared.flags.Flags.{Flags}
use Rattle.bench.specs.declared.refusal.Refusal.{Refusal}
use Rattle.bench.specs.declared.refusal.Refusal.TheVariants.{HighMode}
use Rattle.bench.specs.Desks.{lowered}
use Rattle.bench.specs.Raised.{joined_flags, no_flags}

-- setting a mode by its number: above 3 it is refused, and the old one stands
abbrev pub set_answer : Option Mode → Result (Unit {0}) Refusal
set_answer (Some m) = Ok tt
set_answer None = Err HighMode

abbrev pub or_kept : Option Mode → Mode → Mode
or_kept (Some m) old = m
or_kept None old = old

module _ {S : Type 0} where
  -- the mode that stands
  abbrev pub standing_mode : Bench S → Mode
  standing_mode b = b.standing.mode

  -- a bench on which nothing was done
  pub record Fresh (source : S) (b : Bench S) : Type 0 where
    pub mode : standing_mode b ≡ NearestEven
    pub flags : b.desk.flags ≡ no_flags
    pub sheet : written b.desk.sheet ≡ []
    pub origin : b.desk.source ≡ source

  -- the mode alone changes
  abbrev pub with_mode : Option Mode → Bench S → Bench S
  with_mode m b = record { standing = record { mode = or_kept m (standing_mode b) }; desk = b.desk }

  -- the flags alone change
  abbrev pub cleared : Bench S → Bench S
  cleared b = record { standing = b.standing; desk = lowered b.desk }

  -- a call raises flags, and leaves the mode and the source as they were
  pub record Raises (raised : Flags) (before after : Bench S) : Type 0 where
    pub flags : after.desk.flags ≡ joined_flags before.desk.flags raised
    pub mode : standing_mode after ≡ standing_mode before
    pub origin : after.desk.source ≡ before.desk.source

  -- a call may change the sheet alone
  pub record SheetOnly (before after : Bench S) : Type 0 where
    pub flags : after.desk.flags ≡ before.desk.flags
    pub mode : standing_mode after ≡ standing_mode before
    pub origin : after.desk.source ≡ before.desk.source

-- a refused call leaves everything as it was
abbrev pub KeptIfRefused : {B T : Type 0} → Result T Refusal → B → B → Type 0
KeptIfRefused (Ok r) before after = Unit {0}
KeptIfRefused (Err e) before after = after ≡ before
