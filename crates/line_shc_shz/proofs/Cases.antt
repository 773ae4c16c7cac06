-- SHC and SHZ in each of their cases, over a plain world: the functions' proofs cite these. Assumes nothing.
use Prim.Native.Nat.{ℕ, ◌+◌, ◌-◌, ◌<◌, ◌≤◌, suc, zero}
use mathlib.Core.Bool.{false, true}
use mathlib.Core.List.{List}
use mathlib.Core.Path.{◌≡◌, ap, ◌∙◌}
use native.Mathlib.Omega.{arith}
use borrow.Author.Tests.{le-ltb, lt-ltb}
use lib.IntN.{ℤ}
use lib.ListN.{get_or, length}
use Rattle.answer.specs.declared.Refusal.TheVariants.{Contour, Missing}
use Rattle.answer.specs.declared.Refusal.TheVariants.{ZonePointer as BadZone}
use Rattle.line_steps.proofs.Laws.{one_missing, one_there}
use Rattle.line_steps.specs.Steps.{passed_over, refused_in}
use Rattle.line.specs.Operands.{index_at}
use Rattle.line.specs.Places.{size_of}
use Rattle.line.specs.World.{Fixed, Lined, World}
use Rattle.line_span.specs.Span.{span_in}
use Rattle.line_shc_shz.specs.Shc.{point_after, shc_of, shz_of}

-- the point after some contours, read off the last of them
pub after_some : (contours : List ℕ) (count : ℕ) → 0 < count → {end : ℕ} → end ≡ get_or contours (count - 1) 0 → end + 1 ≡ point_after contours count
after_some contours zero h e = absurd (omega arith)
after_some contours (suc k) h {end} e =
    let next : end + 1 ≡ suc end = omega arith in let last : suc k - 1 ≡ k = omega arith in
    next ∙ ap suc (e ∙ ap (λ (i : ℕ). get_or contours i 0) last)

-- ---- the lines
module _ (f : Fixed) (opcode : ℕ) (operands : List ℤ) (w : World) {r : Lined} where
  -- ---- SHC
  pub shc_missing : length operands < 1 → r ≡ refused_in w Missing → r ≡ shc_of f opcode operands w
  unfolding shc_of
  shc_missing h e = one_missing w operands _ h e

  module _ (h : 1 ≤ length operands) {index size : ℕ} (i : index ≡ index_at operands 0) (n : size ≡ size_of (length f.contours) 1 w.state.pointers.zp2) where
    pub no_such_contour : size ≤ index → r ≡ passed_over w (Contour index) → r ≡ shc_of f opcode operands w
    unfolding shc_of
    no_such_contour k e = one_there w operands _ h (rw (← i, ← n, le-ltb index size k) e)

    pub contour_shifted : index < size → {start after end : ℕ} → start ≡ point_after f.contours index → after ≡ point_after f.contours (index + 1)
        → end ≡ size_of after (length w.tx) w.state.pointers.zp2 → r ≡ span_in f opcode true start end w → r ≡ shc_of f opcode operands w
    unfolding shc_of
    contour_shifted k {end = end} a b e q = one_there w operands _ h (rw (← i, ← n, lt-ltb index size k, ← until, ← a) q)
      where
        next : index + 1 ≡ suc index
        next = omega arith

        until : end ≡ size_of (point_after f.contours (suc index)) (length w.tx) w.state.pointers.zp2
        until = e ∙ ap (λ (n : ℕ). size_of n (length w.tx) w.state.pointers.zp2) (b ∙ ap (point_after f.contours) next)

  -- ---- SHZ
  pub shz_missing : length operands < 1 → r ≡ refused_in w Missing → r ≡ shz_of f opcode operands w
  unfolding shz_of
  shz_missing h e = one_missing w operands _ h e

  module _ (h : 1 ≤ length operands) {zone : ℕ} (i : zone ≡ index_at operands 0) where
    pub no_such_zone : 1 < zone → r ≡ refused_in w (BadZone zone) → r ≡ shz_of f opcode operands w
    unfolding shz_of
    no_such_zone k e = one_there w operands _ h (rw (← i, lt-ltb 1 zone k) e)

    pub zone_shifted : zone ≤ 1 → {after end : ℕ} → after ≡ point_after f.contours (length f.contours) → end ≡ size_of after (length w.tx) w.state.pointers.zp2
        → r ≡ span_in f opcode false 0 end w → r ≡ shz_of f opcode operands w
    unfolding shz_of
    zone_shifted k a e q = one_there w operands _ h (rw (← i, le-ltb 1 zone k, ← a, ← e) q)
