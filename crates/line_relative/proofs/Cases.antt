-- The references set, and a line that finds a point outside, in each case. Assumes nothing.
use Prim.Native.Nat.{ℕ}
use mathlib.Core.Bool.{Bool, cond, false, true}
use mathlib.Core.Path.{◌≡◌, ap, sym, ◌∙◌}
use Rattle.answer.specs.declared.Refusal.{Refusal}
use Rattle.graphics.specs.State.{rp0_at, rp1_at, rp2_at, with_references}
use Rattle.graphics.specs.declared.GraphicsState.{GraphicsState}
use Rattle.line.specs.World.{Lined, World}
use Rattle.line_steps.specs.Steps.{done_in, refused_in}
use Rattle.line_relative.specs.Relative.{related, related_by, related_or}

-- ---- the references
module _ (s : GraphicsState) (at : ℕ) where
  pub all_set : {sets : Bool} {t u r : GraphicsState} → sets ≡ true → t ≡ with_references s (rp1_at s.references s.references.rp0) → u ≡ with_references t (rp2_at t.references at) → r ≡ with_references u (rp0_at u.references at) → r ≡ related_by sets at s
  unfolding related_by
  all_set b e f g =
      rw b
      (g ∙ ap (λ (u : GraphicsState). with_references u (rp0_at u.references at)) (f ∙ ap (λ (t : GraphicsState). with_references t (rp2_at t.references at)) e))

  pub rp0_left : {sets : Bool} {t u : GraphicsState} → sets ≡ false → t ≡ with_references s (rp1_at s.references s.references.rp0) → u ≡ with_references t (rp2_at t.references at) → u ≡ related_by sets at s
  unfolding related_by
  rp0_left b e f = rw b (f ∙ ap (λ (t : GraphicsState). with_references t (rp2_at t.references at)) e)

-- ---- a point outside
module _ (sets : Bool) (at : ℕ) (w : World) (why : Refusal) {r : Lined} where
  pub related_pedantic : w.state.facts.pedantic ≡ true → r ≡ refused_in w why → r ≡ related_or sets at w why
  unfolding related_or
  related_pedantic e q = q ∙ sym (ap (λ (b : Bool). cond b (refused_in w why) (done_in (related sets at w))) e)

  pub related_lenient : w.state.facts.pedantic ≡ false → r ≡ done_in (related sets at w) → r ≡ related_or sets at w why
  unfolding related_or
  related_lenient e q = q ∙ sym (ap (λ (b : Bool). cond b (refused_in w why) (done_in (related sets at w))) e)
