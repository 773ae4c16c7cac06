-- IUP in each of its cases, over a plain world: the functions' proofs cite these. Assumes nothing.
use Rattle.std.specs.Prelude.{Ok}
use Prim.Native.Nat.{ℕ}
use mathlib.Core.Bool.{Bool, cond, false, true}
use mathlib.Core.List.{List}
use mathlib.Core.Path.{◌≡◌, ap, refl, sym, ◌∙◌}
use lib.IntN.{ℤ}
use Rattle.graphics.specs.State.{marked_x, marked_y, past_both_iups, with_facts}
use Rattle.graphics.specs.declared.GraphicsState.{GraphicsState}
use Rattle.iup.specs.Iup.{iup_of}
use Rattle.line_steps.specs.Steps.{done_in, in_state, into}
use Rattle.line.specs.Line.{done_with}
use Rattle.line.specs.Operands.{is_odd}
use Rattle.flags.specs.declared.Axis.TheVariants.{X, Y}
use Rattle.line.specs.World.{Fixed, Lined, World}
use Rattle.line.specs.declared.Stepped.{Stepped}
use Rattle.line_iup.specs.Iup.{iup_line_of, marked_for, walked_in, with_x, with_y}

-- ---- the mark
module _ (s : GraphicsState) (opcode : ℕ) where
  abbrev by_facts : Bool → Bool → GraphicsState
  by_facts compatible odd = cond compatible (cond odd (with_facts s (marked_x s.facts)) (with_facts s (marked_y s.facts))) s

  module _ {odd : Bool} {r : GraphicsState} (e : s.facts.backward_compatibility ≡ true) (o : odd ≡ is_odd opcode) where
    by_odd : r ≡ by_facts true odd → r ≡ marked_for s opcode
    unfolding marked_for
    by_odd q = q ∙ ap (by_facts true) o ∙ sym (ap (λ (c : Bool). by_facts c (is_odd opcode)) e)

    pub marked_x_lem : odd ≡ true → r ≡ with_facts s (marked_x s.facts) → r ≡ marked_for s opcode
    marked_x_lem b q = by_odd (q ∙ sym (ap (by_facts true) b))

    pub marked_y_lem : odd ≡ false → r ≡ with_facts s (marked_y s.facts) → r ≡ marked_for s opcode
    marked_y_lem b q = by_odd (q ∙ sym (ap (by_facts true) b))

  pub not_marked : s.facts.backward_compatibility ≡ false → s ≡ marked_for s opcode
  unfolding marked_for
  not_marked e = sym (ap (λ (c : Bool). by_facts c (is_odd opcode)) e)

-- ---- the walk
module _ (f : Fixed) (w : World) {x : Bool} where
  pub walked_x : {xs : List ℤ} → x ≡ true → xs ≡ iup_of X w.gflags f.contours f.gux f.gox w.gx → with_x w xs ≡ walked_in f w x
  walked_x t e = ap (with_x w) e ∙ sym (ap (walked_in f w) t)

  pub walked_y : {ys : List ℤ} → x ≡ false → ys ≡ iup_of Y w.gflags f.contours f.guy f.goy w.gy → with_y w ys ≡ walked_in f w x
  walked_y t e = ap (with_y w) e ∙ sym (ap (walked_in f w) t)

-- ---- the line
-- it is done, whatever the contours are
pub iup_done : (f : Fixed) (opcode : ℕ) (operands : List ℤ) (w : World) → (iup_line_of f opcode operands w).call ≡ Ok tt
unfolding iup_line_of
iup_done f opcode operands w = refl

module _ (f : Fixed) (opcode : ℕ) (operands : List ℤ) (w : World) {past : Bool} (p : past ≡ past_both_iups w.state.facts) where
  pub iup_past : {r : Lined} → past ≡ true → r ≡ done_in w → r ≡ iup_line_of f opcode operands w
  unfolding iup_line_of
  iup_past b e = rw (sym p ∙ b) e

  pub iup_walked : {odd : Bool} {s : GraphicsState} {r : Stepped} {gx gy : List ℤ} → past ≡ false → odd ≡ is_odd opcode → s ≡ marked_for w.state opcode
      → with_x (with_y (in_state w s) gy) gx ≡ walked_in f (in_state w s) odd → r ≡ done_with s → into (with_x (with_y w gy) gx) r ≡ iup_line_of f opcode operands w
  unfolding iup_line_of
  iup_walked {odd = odd} {gx = gx} {gy = gy} b o m e q =
      rw (sym p ∙ b)
      (ap (into (with_x (with_y w gy) gx)) q
      ∙ ap done_in
      (e
      ∙ ap (λ (s : GraphicsState). walked_in f (in_state w s) odd) m
      ∙ ap (walked_in f (in_state w (marked_for w.state opcode))) o))
