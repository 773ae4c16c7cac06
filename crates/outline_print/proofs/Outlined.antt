-- The loop over the steps of a glyph: what is left to put is the lines of the steps before the walk, and the box with their points. Assumes nothing.
use Rattle.std.specs.Prelude.{Option, Some, None}
use Rattle.outline_print.specs.declared.Frame.{Frame}
use mathlib.Core.List.{List, [], ◌∷◌, ◌++◌, append_assoc, append-nil}
use mathlib.Core.Path.{◌≡◌, refl, sym, ap, ◌∙◌, subst}
use mathlib.Core.Bool.{true}
use Prim.Native.Nat.{ℕ, suc, ◌+◌, ◌≤◌, ◌<◌}
use native.Mathlib.Omega.{arith}
use lib.ListN.{length}
use Rattle.outline_numbers.proofs.Bounded.{spots_joined, step_within}
use Rattle.outline_numbers.specs.Drawing.{Extent, extent_of, handed_out, is_near, spots_of, with_spots}
use Rattle.outline_numbers.specs.declared.Stroke.{Stroke}
use Rattle.outline_steps.proofs.OneByOne.{Close-by, Goes, NearWalk, close_of, fresh_has, near_by, remaining, walk_law}
use Rattle.outline_steps.specs.Outline.{Entry, Glyph, drawable, entry_of, steps_of}
use Rattle.outline_steps.specs.Pen.{fresh, walk_of}
use Rattle.outline_steps.specs.declared.Stroked.{Stroked}
use Rattle.outline_steps.specs.declared.Walk.{Walk}
use Rattle.record_print.specs.Steps.{Put}
use Rattle.outline_print.specs.Lines.{AllNear, box_line, extent_in, outline_text, stroke_line, stroke_lines}
use Rattle.outline_print.proofs.Putting.{Putting, piece_fits, put_end, put_piece, put_start}

-- what is left
abbrev pub left : Glyph → Walk → Extent → List ℕ
left g w k = stroke_lines (remaining g w) ++ box_line (with_spots k (handed_out (remaining g w)))

pub record Drawing (g : Glyph) (at : ℕ) (before now : List ℕ) (w : Walk) (f : Option Frame) (next : ℕ) : Type 0 where
  pub putting : Putting (outline_text g) at before now next (left g w (extent_in f))
  pub near : AllNear (extent_in f)

pub draw_start : (g : Glyph) (at : ℕ) (l : List ℕ) {w : Walk} → w ≡ fresh.walk → at + length (outline_text g) ≤ length l → Drawing g at l l w None at
unfolding outline_text
draw_start g at l {w} e h = record {
  putting = subst (λ (rest : List ℕ). Putting (outline_text g) at l l at rest) (sym whole) (put_start (outline_text g) at l h);
  near = tt;
}
  where
    steps : remaining g w ≡ steps_of g
    steps = ap (remaining g) e ∙ fresh_has g

    whole : left g w (extent_in None) ≡ outline_text g
    whole = ap (λ (s : List Stroke). stroke_lines s ++ box_line (extent_of s)) steps

module _ {g : Glyph} {at : ℕ} {l₀ l : List ℕ} {w : Walk} {f : Option Frame} {next : ℕ} (close : Close-by g) (v : Drawing g at l₀ l w f next) {x : Option Stroked} (is : x ≡ walk_of g w) where
  -- ---- a step
  module _ {s : Stroked} (went : x ≡ Some s) where
    walked : walk_of g w ≡ Some s
    walked = sym is ∙ went

    goes : remaining g w ≡ s.stroke ∷ remaining g s.walk
    goes = subst (Goes g (remaining g w)) walked (walk_law g w)

    pub step_near : is_near s.stroke ≡ true
    step_near = subst NearWalk walked (near_by g close w w.stage)

    more : List ℕ
    more = left g s.walk (with_spots (extent_in f) (spots_of s.stroke))

    rest_is : left g w (extent_in f) ≡ stroke_line s.stroke ++ more
    unfolding more
    rest_is =
        ap (λ (r : List Stroke). stroke_lines r ++ box_line (with_spots (extent_in f) (handed_out r))) goes
        ∙ append_assoc (stroke_line s.stroke) (stroke_lines (remaining g s.walk)) _
        ∙ ap (λ (k : Extent). stroke_line s.stroke ++ (stroke_lines (remaining g s.walk) ++ box_line k)) (spots_joined (extent_in f) (spots_of s.stroke) (handed_out (remaining g s.walk)))

    pub step_fits : next + length (stroke_line s.stroke) ≤ length l
    step_fits = piece_fits v.putting (stroke_line s.stroke) more rest_is

    pub draw_on : {h : Option Frame} {then : ℕ} {l' : List ℕ} → Put (stroke_line s.stroke) next then l l' → extent_in h ≡ with_spots (extent_in f) (spots_of s.stroke) → Drawing g at l₀ l' s.walk h then
    unfolding more
    draw_on {h} {then} {l'} p e = record {
      putting = subst (λ (k : Extent). Putting (outline_text g) at l₀ l' then (left g s.walk k)) (sym e) (put_piece v.putting rest_is p);
      near = subst AllNear (sym e) (step_within (extent_in f) s.stroke step_near v.near);
    }

    pub less : length (remaining g s.walk) < length (remaining g w)
    less = omega (arith, ap length goes)

  -- ---- the end
  module _ (ended : x ≡ None) where
    nothing : remaining g w ≡ []
    nothing = subst (Goes g (remaining g w)) (sym is ∙ ended) (walk_law g w)

    box_is : left g w (extent_in f) ≡ box_line (extent_in f) ++ []
    box_is = ap (λ (r : List Stroke). stroke_lines r ++ box_line (with_spots (extent_in f) (handed_out r))) nothing ∙ sym (append-nil (box_line (extent_in f)))

    pub box_fits : next + length (box_line (extent_in f)) ≤ length l
    box_fits = piece_fits v.putting (box_line (extent_in f)) [] box_is

    pub draw_end : {then : ℕ} {l' : List ℕ} → Put (box_line (extent_in f)) next then l l' → Put (outline_text g) at then l₀ l'
    draw_end p = put_end (put_piece v.putting box_is p) refl
