-- Each case of the walk, over plain values: what the tests say, and what the calls gave. Assumes nothing.
use Rattle.std.specs.Prelude.{Ok, Err, Option, Some, None}
use Rattle.outline_numbers.specs.declared.Edges.{Edges}
use mathlib.Core.Path.{◌≡◌, refl, sym, ap, ◌∙◌, subst}
use Prim.Native.Nat.{ℕ, ◌+◌, ◌≤◌, ◌<◌, ◌^◌}
use mathlib.Core.Bool.{Bool, true, false, ◌&&◌}
use borrow.Author.Tests.{lt-ltb, le-ltb, le-leb, lt-leb}
use lib.IntN.{ℤ, ◌+ℤ◌}
use lib.ListN.{length, get_or}
use lib.Signed.{mag}
use mir.Syntax.{w32, w64}
use mir.Val.{SFits, to_z, of_z}
use mir.ValLaws.{to_z-of_z}
use Rattle.int.proofs.Words.{back32, read64, sum_fits}
use Rattle.answer.specs.declared.Refusal.TheVariants.{Ends, Far, Sizes}
use Rattle.contour_ends.specs.Ends.{ends_rise}
use Rattle.outline_numbers.specs.Drawing.{is_near, step_of, drawn_by}
use Rattle.outline_numbers.specs.declared.Spot.{Spot}
use Rattle.outline_numbers.specs.declared.Step.{Step}
use Rattle.outline_numbers.specs.declared.Stroke.{Stroke}
use Rattle.outline_numbers.specs.declared.Stroke.TheVariants.{Close}
use Rattle.outline_steps.specs.Outline.{Glyph, on, between, own, move_to, line_to, curve_to, sizes_fit, all_close, entry_of}
use Rattle.outline_steps.specs.Pen.{stroked, on_to, curve_from, onward_from, begun_at, start_from, next_contour, asked, handed, fresh, begin_of}
use Rattle.outline_steps.specs.declared.Pen.{Pen}
use Rattle.outline_steps.specs.declared.Stage.TheVariants.{Between, Onward, Waiting}
use Rattle.outline_steps.specs.declared.Stroked.{Stroked}
use Rattle.outline_steps.specs.declared.Walk.{Walk}

-- ---- two words add up at 64 bits
module _ (a b : ℤ) (f : mag a < 2 ^ 31) (g : mag b < 2 ^ 31) {p q : ℤ} (x : p ≡ to_z w32 (of_z w32 a)) (y : q ≡ to_z w32 (of_z w32 b)) where
  fit_a : SFits w32 a
  fit_a = record { sfits = f }

  fit_b : SFits w32 b
  fit_b = record { sfits = g }

  summands : to_z w64 (of_z w64 p) +ℤ to_z w64 (of_z w64 q) ≡ a +ℤ b
  summands =
      let u = x ∙ back32 a f in let v = y ∙ back32 b g in
      let l = ap (λ (z : ℤ). to_z w64 (of_z w64 z)) u ∙ read64 fit_a in
      let r = ap (λ (z : ℤ). to_z w64 (of_z w64 z)) v ∙ read64 fit_b in
      λ i. l i +ℤ r i

  pub sum_holds : SFits w64 (to_z w64 (of_z w64 p) +ℤ to_z w64 (of_z w64 q))
  sum_holds = subst (SFits w64) (sym summands) (sum_fits a b fit_a fit_b)

  pub sum_read : to_z w64 (of_z w64 (to_z w64 (of_z w64 p) +ℤ to_z w64 (of_z w64 q))) ≡ a +ℤ b
  sum_read = to_z-of_z w64 (to_z w64 (of_z w64 p) +ℤ to_z w64 (of_z w64 q)) sum_holds ∙ summands

-- ---- the walk
module _ (g : Glyph) (w : Walk) where
  -- ---- a contour begun
  pub begun_here : (last from to at stop : ℕ) {s : Spot} {d : Stroke} → s ≡ between g from to → d ≡ move_to s
      → stroked d (begun_at g w last from to at stop).walk ≡ begun_at g w last from to at stop
  begun_here last from to at stop e m = ap (λ (d : Stroke). stroked d (begun_at g w last from to at stop).walk) (m ∙ ap move_to e)

  module _ (last : ℕ) where
    pub start_single : last ≤ w.past → begun_at g w last w.past w.past (last + 1) (last + 1) ≡ start_from g w last
    unfolding start_from
    start_single h = sym (rw (le-leb last w.past h))

    pub start_first : w.past < last → on g w.past ≡ true → begun_at g w last w.past w.past (w.past + 1) (last + 1) ≡ start_from g w last
    unfolding start_from
    start_first h e = sym (rw (lt-leb last w.past h, e))

    pub start_last : w.past < last → on g w.past ≡ false → on g last ≡ true → begun_at g w last last last w.past last ≡ start_from g w last
    unfolding start_from
    start_last h e f = sym (rw (lt-leb last w.past h, e, f))

    pub start_midway : w.past < last → on g w.past ≡ false → on g last ≡ false → begun_at g w last w.past last w.past (last + 1) ≡ start_from g w last
    unfolding start_from
    start_midway h e f = sym (rw (lt-leb last w.past h, e, f))

  pub contour_next : {s : Stroked} {last : ℕ} → w.contour < length g.contours → last ≡ get_or g.contours w.contour 0 → s ≡ start_from g w last → Some s ≡ next_contour g w
  unfolding next_contour
  contour_next h e f = ap Some (f ∙ ap (start_from g w) e) ∙ sym (rw (lt-ltb w.contour (length g.contours) h))

  pub contour_none : length g.contours ≤ w.contour → None ≡ next_contour g w
  unfolding next_contour
  contour_none h = sym (rw (le-ltb w.contour (length g.contours) h))

  -- ---- a point waits
  module _ (c at : ℕ) {control s : Spot} {d : Stroke} {v : Walk} (is : control ≡ own g c) (made : d ≡ curve_to control s) where
    drawn_to : {r : Spot} {u : Walk} → s ≡ r → v ≡ u → stroked d v ≡ stroked (curve_to (own g c) r) u
    drawn_to e f = let m = made ∙ (λ i. curve_to (is i) (e i)) in λ i. stroked (m i) (f i)

    pub curve_on : at < w.stop → on g at ≡ true → s ≡ own g at → v ≡ on_to w (at + 1) Onward → stroked d v ≡ curve_from g w c at
    unfolding curve_from
    curve_on h t e f = drawn_to e f ∙ sym (rw (lt-ltb at w.stop h, t))

    pub curve_off : at < w.stop → on g at ≡ false → s ≡ between g c at → v ≡ on_to w (at + 1) (Waiting at) → stroked d v ≡ curve_from g w c at
    unfolding curve_from
    curve_off h t e f = drawn_to e f ∙ sym (rw (lt-ltb at w.stop h, t))

    pub curve_back : w.stop ≤ at → s ≡ between g w.from w.to → v ≡ on_to w at Onward → stroked d v ≡ curve_from g w c at
    unfolding curve_from
    curve_back h e f = drawn_to e f ∙ sym (rw (le-ltb at w.stop h))

  -- ---- no point waits
  pub line_on : {s : Spot} {d : Stroke} {v : Walk} → w.at < w.stop → on g w.at ≡ true → s ≡ own g w.at → d ≡ line_to s → v ≡ on_to w (w.at + 1) Onward → stroked d v ≡ onward_from g w
  unfolding onward_from
  line_on h t e m f = let d = m ∙ ap line_to e in (λ i. stroked (d i) (f i)) ∙ sym (rw (lt-ltb w.at w.stop h, t))

  pub line_off : {r : Stroked} → w.at < w.stop → on g w.at ≡ false → r ≡ curve_from g w w.at (w.at + 1) → r ≡ onward_from g w
  unfolding onward_from
  line_off h t e = e ∙ sym (rw (lt-ltb w.at w.stop h, t))

  pub line_none : {v : Walk} → w.stop ≤ w.at → v ≡ on_to w w.at Between → stroked Close v ≡ onward_from g w
  unfolding onward_from
  line_none h f = ap (stroked Close) f ∙ sym (rw (le-ltb w.at w.stop h))

-- ---- the pen
module _ (p : Pen) (s : Stroked) where
  pub handed_over : {step : Step} {bounds : Option Edges} → is_near s.stroke ≡ true → step ≡ step_of s.stroke → bounds ≡ drawn_by p.bounds step
      → asked (Ok (Some step)) (record { walk = s.walk; bounds = bounds }) ≡ handed p (Some s)
  handed_over t e f =
      let b = f ∙ ap (drawn_by p.bounds) e in
      (λ i. asked (Ok (Some (e i))) (record { walk = s.walk; bounds = b i })) ∙ sym (rw t)

  pub held_back : is_near s.stroke ≡ false → asked (Err Far) p ≡ handed p (Some s)
  held_back t = sym (rw t)

-- ---- the start
module _ (g : Glyph) where
  pub begun_sizes : sizes_fit g ≡ false → Err Sizes ≡ begin_of g
  unfolding entry_of
  begun_sizes e = sym (rw e)

  pub begun_ends : sizes_fit g ≡ true → ends_rise (length g.xs) g.contours ≡ false → Err Ends ≡ begin_of g
  unfolding entry_of
  begun_ends e f = sym (rw (e, f))

  pub begun_ready : {p : Pen} → p ≡ fresh → sizes_fit g ≡ true → ends_rise (length g.xs) g.contours ≡ true → all_close g.xs && all_close g.ys ≡ true → Ok p ≡ begin_of g
  unfolding entry_of
  begun_ready is e f h = ap Ok is ∙ sym (rw (e, f, h))

  pub begun_far : sizes_fit g ≡ true → ends_rise (length g.xs) g.contours ≡ true → all_close g.xs && all_close g.ys ≡ false → Err Far ≡ begin_of g
  unfolding entry_of
  begun_far e f h = sym (rw (e, f, h))
