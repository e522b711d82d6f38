-- Flags that are raised one after the other are raised together.
use Rattle.std.proofs.Common.{◌≡◌, refl, ap, ◌∙◌}
use Rattle.std.proofs.Math.Bool.{or_assoc, or-false}
use Rattle.bench.specs.declared.desk.Desk.{Desk}
use Rattle.bench.specs.declared.flags.Flags.{Flags}
use Rattle.bench.specs.Desks.{RaisesThere}
use Rattle.bench.specs.Raised.{joined_flags, no_flags}

pub joined_assoc : (f g h : Flags) → joined_flags (joined_flags f g) h ≡ joined_flags f (joined_flags g h)
joined_assoc f g h = rw (
  or_assoc f.invalid g.invalid h.invalid,
  or_assoc f.zero_divide g.zero_divide h.zero_divide,
  or_assoc f.overflow g.overflow h.overflow,
  or_assoc f.underflow g.underflow h.underflow,
  or_assoc f.inexact g.inexact h.inexact,
  or_assoc f.denormal g.denormal h.denormal,
) refl

-- flags raised in three steps
pub raised_thrice : (f a b c : Flags) (g h i : Flags) → g ≡ joined_flags f a → h ≡ joined_flags g b → i ≡ joined_flags h c → i ≡ joined_flags f (joined_flags (joined_flags a b) c)
raised_thrice f a b c g h i eg eh ei =
    ei ∙ ap (λ (x : Flags). joined_flags x c) (eh ∙ ap (λ (x : Flags). joined_flags x b) eg ∙ joined_assoc f a b)
    ∙ joined_assoc f (joined_flags a b) c

-- raised after a step that leaves the flags and the source as they were
pub raises_as : {S : Type 0} (f g : Flags) (old middle after : Desk S) → f ≡ g → middle.flags ≡ old.flags → middle.source ≡ old.source → RaisesThere f middle after → RaisesThere g old after
raises_as f g old middle after e ef es r = record {
  flags = r.flags ∙ ap (λ (x : Flags). joined_flags x f) ef ∙ ap (joined_flags old.flags) e;
  origin = r.origin ∙ es;
}

-- no flag raises nothing
pub joined_none : (f : Flags) → joined_flags f no_flags ≡ f
joined_none f = rw (or-false f.invalid, or-false f.zero_divide, or-false f.overflow, or-false f.underflow, or-false f.inexact, or-false f.denormal) refl
