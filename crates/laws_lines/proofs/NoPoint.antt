-- Where the reference point is there, SHC and SHZ refuse no point. Assumes nothing.
use Rattle.std.specs.Prelude.{Ok, Err}
use Prim.Native.Nat.{ℕ, ◌-◌}
use mathlib.Core.List.{List, [], ◌∷◌}
use mathlib.Core.Path.{◌≡◌, refl}
use native.Mathlib.Omega.{arith}
use lib.Dec.{ltb}
use lib.IntN.{ℤ}
use lib.ListN.{length}
use Rattle.answer.specs.declared.Refusal.TheVariants.{Missing, Point}
use Rattle.int.specs.Word.{index_of}
use Rattle.line.specs.Places.{size_of}
use Rattle.line.specs.World.{Fixed, Lined, Sound, World}
use Rattle.line_shc_shz.specs.Shc.{shc_of, shz_of}
use Rattle.line_steps.specs.Steps.{one, reference_moved}
use Rattle.moves.specs.declared.Displacement.{Displacement}
use Rattle.laws_lines.proofs.Spans.{by_contour, by_zone, other_number}

module _ (f : Fixed) (op : ℕ) (w : World) (sound : Sound f w) {d : Displacement} (there : reference_moved f op w ≡ Ok d) (at : ℕ) where
  abbrev NoPoint : Lined → Type 0
  NoPoint l = l.call ≡ Err (Point at) → ⊥

  -- where the reference point is there, SHC and SHZ refuse no point
  pub shc_refuses_none : (operands : List ℤ) → NoPoint (shc_of f op operands w)
  unfolding shc_of one
  shc_refuses_none [] e = other_number f op w sound there at Missing (λ z. omega (arith, z)) e
  shc_refuses_none (contour ∷ more) e = by_contour f op w sound there at (index_of contour) (ltb (index_of contour) (size_of (length f.contours) 1 w.state.pointers.zp2)) refl e

  pub shz_refuses_none : (operands : List ℤ) → NoPoint (shz_of f op operands w)
  unfolding shz_of one
  shz_refuses_none [] e = other_number f op w sound there at Missing (λ z. omega (arith, z)) e
  shz_refuses_none (zone ∷ more) e = by_zone f op w sound there at (index_of zone) (ltb 1 (index_of zone)) e
