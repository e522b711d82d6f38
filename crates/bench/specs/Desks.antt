-- What the calls make of a desk: the flags, the sheet and the source that they work on.
use Rattle.std.specs.Prelude.{◌≡◌}
use Rattle.bench.specs.declared.desk.Desk.{Desk}
use Rattle.bench.specs.declared.flags.Flags.{Flags}
use Rattle.bench.specs.Raised.{joined_flags, no_flags}

module _ {S : Type 0} where
  -- the flags alone change: none is up
  abbrev pub lowered : Desk S → Desk S
  lowered d = record { flags = no_flags; sheet = d.sheet; source = d.source }

  -- a call raises flags, and leaves the source as it was
  pub record RaisesThere (raised : Flags) (before after : Desk S) : Type 0 where
    pub flags : after.flags ≡ joined_flags before.flags raised
    pub origin : after.source ≡ before.source

  -- a step may change the sheet alone
  pub record SheetAlone (before after : Desk S) : Type 0 where
    pub flags : after.flags ≡ before.flags
    pub origin : after.source ≡ before.source
