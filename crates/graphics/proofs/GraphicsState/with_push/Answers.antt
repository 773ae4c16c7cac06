-- `graphics::GraphicsState::with_push` meets its contract: the tallies are those that `Tallies::with_push` ensures. Assumes nothing.
use mathlib.Core.Path.{◌∙◌, ap}
use Prim.Native.Nat.{◌<◌, ◌^◌}
use native.Mathlib.Omega.{arith}
use lib.Signed.{mag}
use Rattle.int.proofs.Words.{back32}
use Rattle.graphics.specs.State.{pushed_on, with_push, with_tallies}
use Rattle.graphics.proofs.GraphicsState.with_push.Goals as goal

pub returns : goal.returns
unfolding with_push
returns c = let a = c.args in
    let fits : mag a.value < 2 ^ 31 = omega arith in
    ap (with_tallies a.self) (c.with_push-self.ensures ∙ ap (λ v. pushed_on v a.self.tallies) (back32 a.value fits))
