-- What two direct calls of IUP return and leave, by the contract. Assumes nothing.
use mathlib.Core.List.{List}
use mathlib.Core.Path.{◌≡◌, subst, sym}
use Prim.Native.Nat.{ℕ, ◌<◌}
use lib.IntN.{ℤ, pos}
use lib.ListN.{length}
use Rattle.flags.specs.declared.Axis.{Axis}
use Rattle.iup.specs.Iup.{Swept, tried_of}
use Rattle.laws_iup.specs.Agree.{SweptAgreeBut}
use Rattle.laws_iup.specs.Contours.{AgreeBut}
use Rattle.laws_iup.proofs.Direct.{direct_agrees}

module _ (axis : Axis) (contours : List ℕ) where
  module _ (k : ℕ) (h : k < length contours) (fs fs' : List ℕ) (us us' os os' cs cs' : List ℤ) where
    -- whatever two calls of `try_iup` return and leave, by its contract
    pub direct_calls_agree : (r s : Swept) → r ≡ tried_of axis fs contours us os cs → s ≡ tried_of axis fs' contours us' os' cs' → AgreeBut 0 contours k fs fs'
        → AgreeBut (pos 0) contours k us us' → AgreeBut (pos 0) contours k os os' → AgreeBut (pos 0) contours k cs cs'
        → SweptAgreeBut contours k r s
    direct_calls_agree r s er es f u o c =
        subst (λ (x : Swept). SweptAgreeBut contours k x s) (sym er)
        (subst (λ (y : Swept). SweptAgreeBut contours k (tried_of axis fs contours us os cs) y) (sym es) (direct_agrees axis contours k h fs fs' us us' os os' cs cs' f u o c))
