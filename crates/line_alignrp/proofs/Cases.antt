-- What ALIGNRP comes to in each of its cases, over plain lists: the functions' proofs cite these. Assumes nothing.
use Rattle.std.specs.Prelude.{Result}
use Rattle.answer.specs.declared.Refusal.{Refusal}
use Rattle.graphics.specs.declared.Vector.{Vector}
use mathlib.Core.Path.{◌≡◌, sym, ap, ◌∙◌}
use mathlib.Core.List.{List}
use Prim.Native.Nat.{ℕ}
use lib.IntN.{ℤ}
use Rattle.line.specs.Places.{fetch_in}
use Rattle.line_alignrp.specs.Loop.{align_from, aligning_of, align_by, align_at}
use Rattle.graphics.specs.declared.GraphicsState.{GraphicsState}
use Rattle.int.specs.Word.{neg32}
use Rattle.line_steps.specs.Loop.{Zones}
use Rattle.moves.specs.Move.{move_of}
use Rattle.moves.specs.declared.Move.{Move}

-- ---- ALIGNRP's two places
module _ (s : GraphicsState) (at : ℕ) (gx gy tx ty : List ℤ) where
  pub point_is : {g h : Result Vector Refusal} → g ≡ fetch_in at gx gy tx ty s.pointers.zp1 → g ≡ h → align_from s (fetch_in s.references.rp0 gx gy tx ty s.pointers.zp0) h ≡ aligning_of s at gx gy tx ty
  unfolding aligning_of
  point_is e q = ap (align_from s (fetch_in s.references.rp0 gx gy tx ty s.pointers.zp0)) (sym q ∙ e)

  pub both_are : {g h k l : Result Vector Refusal} → g ≡ fetch_in at gx gy tx ty s.pointers.zp1 → g ≡ h → k ≡ fetch_in s.references.rp0 gx gy tx ty s.pointers.zp0 → k ≡ l → align_from s l h ≡ aligning_of s at gx gy tx ty
  both_are {h = h} e q f r = ap (λ (o : Result Vector Refusal). align_from s o h) (sym r ∙ f) ∙ point_is e q

-- the distance is measured, negated and made a move
pub aligned_by : (s : GraphicsState) {m : Move} {n d distance : ℤ} → m ≡ move_of s.vectors s.facts n → n ≡ neg32 d → d ≡ distance → m ≡ move_of s.vectors s.facts (neg32 distance)
aligned_by s e p q = e ∙ ap (move_of s.vectors s.facts) (p ∙ ap neg32 q)

pub found_is : (s : GraphicsState) (at : ℕ) (z : Zones) {g h : Result Move Refusal} → g ≡ aligning_of s at z.glyph.xs z.glyph.ys z.twilight.xs z.twilight.ys → g ≡ h → align_by s at z h ≡ align_at s at z
found_is s at z e q = ap (align_by s at z) (sym q ∙ e)
