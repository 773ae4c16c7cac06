-- `math::quotient` meets its contract: the divisor is not 0, and the sum fits, since magnitudes are at most 2 ^ 31. Assumes nothing.
use mathlib.Core.Path.{refl}
use Prim.Native.Nat.{◌+◌, ◌*◌, ◌/◌, ◌^◌, ◌<◌}
use native.Mathlib.Omega.{arith}
use native.Mathlib.Nat.{div-le_self, lt_of_le_of_lt, mul-le-mul}
use borrow.Author.Tests.{ne_eqb}
use Rattle.math.specs.Fixed.{half_up}
use Rattle.math.proofs.quotient.Goals as goal

small : (s : goal.Start) → s.args.a * s.args.b + s.args.c / 2 < 2 ^ 63
small s = omega (arith, mul-le-mul s.requires.0 s.requires.1.0, s.requires.1.1.1)

pub returns : goal.returns
unfolding half_up
returns s =
    rw (ne_eqb s.args.c 0 (λ e. omega (arith, e, s.requires.1.1.0)))
    (refl, lt_of_le_of_lt (div-le_self (s.args.a * s.args.b + s.args.c / 2) s.args.c) (small s))
