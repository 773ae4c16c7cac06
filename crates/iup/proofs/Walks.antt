-- A turn of the walk over the contours: a contour's part comes back as the definition says; and the direct call by its tests. Assumes nothing.
use Rattle.std.specs.Prelude.{Ok, Err}
use mathlib.Core.Path.{◌≡◌, refl, sym, ap, ap₂, ◌∙◌}
use mathlib.Core.Bool.{Bool, true, false, ◌&&◌}
use mathlib.Core.List.{List, ◌++◌, append_assoc}
use Prim.Native.Nat.{ℕ, ◌+◌, ◌-◌, ◌≤◌, ◌<◌}
use native.Mathlib.Omega.{arith}
use native.Mathlib.Numerals.{add-one}
use borrow.Author.Tests.{eqb-true}
use lib.Dec.{leb, eqb}
use lib.IntN.{ℤ}
use lib.ListN.{length, take, drop, get_or, length-append, drop_of_length-le, take-append-drop}
use lib.Seq.{drop-cons, take_at, length-take-le}
use borrow.Rule.Slice.PartMut.{put_mid, Post-is, same_len_mid, drop_put, mid_len}
use Rattle.answer.specs.declared.Refusal.TheVariants.{Ends, Sizes}
use Rattle.contour_ends.proofs.Rising.{in_order}
use Rattle.contour_ends.specs.Ends.{ends_rise, rising_from}
use Rattle.iup.proofs.Points.{shown, points_take, points_drop, map_drop}
use Rattle.iup.specs.Contour.{Point, current_of, contour_of, points_of}
use Rattle.iup.specs.Iup.{walk_of, iup_of, sizes_fit, swept, tried_of}
use Rattle.flags.specs.declared.Axis.{Axis}
use Rattle.limits.specs.Limits.{most_points, most_contours}

-- what is done up to `at`, with what the contours from k on make of the points from there on, is the whole; the coordinates from there on are
-- as they were, and the ends from k on rise from there
pub record Walking (es : List ℕ) (ps : List Point) (l : List ℤ) (at k : ℕ) : Type 0 where
  pub done : take at l ++ walk_of at (drop k es) (drop at ps) ≡ walk_of 0 es ps
  pub same : drop at l ≡ current_of (drop at ps)
  pub size : length l ≡ length ps
  pub rising : rising_from at (length ps) (drop k es) ≡ true

walk_over : (at k : ℕ) (es : List ℕ) (ps : List Point) → k < length es → {e : ℕ} → e ≡ get_or es k 0 + 1 → walk_of at (drop k es) ps ≡ contour_of (take (e - at) ps) ++ walk_of e (drop (k + 1) es) (drop (e - at) ps)
unfolding walk_of
walk_over at k es ps h q = rw (drop-cons es k 0 h, q, add-one (get_or es k 0), add-one k)

-- the next contour starts at `at`, has a point, and ends within the points
pub next_part : {es : List ℕ} {ps : List Point} {l : List ℤ} {at k e : ℕ} → Walking es ps l at k → k < length es → e ≡ get_or es k 0 + 1 → (at < e) × (e ≤ length l) × (rising_from e (length ps) (drop (k + 1) es) ≡ true)
next_part {es} {ps} {l} {at} {k} {e} v h q =
    let (a, b, r) = in_order at (length ps) es k h refl v.rising in
    (omega (arith, a, q), omega (arith, b, q, v.size), ap (λ (i : ℕ). rising_from i (length ps) (drop (k + 1) es)) q ∙ r)

pub came : {es : List ℕ} {ps : List Point} {l : List ℤ} {at k : ℕ} → Walking es ps l at k → length es ≤ k → l ≡ walk_of 0 es ps
unfolding walk_of
came {es} {ps} {l} {at} {k} v h =
    sym (take-append-drop at l)
    ∙ ap (λ (x : List ℤ). take at l ++ x) v.same
    ∙ ap (λ (x : List ℕ). take at l ++ walk_of at x (drop at ps)) (sym (drop_of_length-le es {i = k} h))
    ∙ v.done

module _ (mask : ℕ) (fs : List ℕ) (us os cs : List ℤ) (a : length us ≡ length cs) (b : length os ≡ length cs) (c : length fs ≡ length cs) {es : List ℕ} {l : List ℤ} {at k : ℕ} (v : Walking es (points_of mask fs us os cs) l at k) where
  abbrev ps : List Point
  ps = points_of mask fs us os cs

  s : cs ≡ current_of ps
  s = (shown mask fs us os cs a b c).current

  -- the points of the parts are the part of the points
  part_is : (m : ℕ) → points_of mask (take m (drop at fs)) (take m (drop at us)) (take m (drop at os)) (take m (drop at l)) ≡ take m (drop at ps)
  part_is m =
      ap (λ (x : List ℤ). points_of mask (take m (drop at fs)) (take m (drop at us)) (take m (drop at os)) (take m x)) (v.same ∙ sym (ap (drop at) s ∙ map_drop (λ x. x.place.current) at ps))
      ∙ points_take mask m (drop at fs) (drop at us) (drop at os) (drop at cs)
      ∙ ap (take m) (points_drop mask at fs us os cs a b c)

  pub over :
      {e : ℕ} {ys : List ℤ} →
      k < length es →
      e ≡ get_or es k 0 + 1 →
      ys ≡ contour_of (points_of mask (take (e - at) (drop at fs)) (take (e - at) (drop at us)) (take (e - at) (drop at os)) (take (e - at) (drop at l))) →
      length ys ≡ length (take (e - at) (drop at l)) →
      Walking es ps (put_mid at (e - at) l ys) e (k + 1)
  over {e} {ys} h q y z =
      let (g, w, r) = next_part v h q in
      let y' : ys ≡ contour_of (take (e - at) (drop at ps)) = y ∙ ap contour_of (part_is (e - at)) in
      let m : length ys ≡ e - at = z ∙ mid_len at e l w in
      let n : length (take at l ++ ys) ≡ e = length-append (take at l) ys ∙ omega (arith, length-take-le at l (omega (arith, g, w)), m, g) in
      let d : drop (e - at) (drop at ps) ≡ drop e ps = Post-is at e ps (omega (arith, g)) in
      record {
        done =
            ap (λ (x : List ℤ). x ++ walk_of e (drop (k + 1) es) (drop e ps))
            (ap (take e) (sym (append_assoc (take at l) ys (drop (e - at) (drop at l)))) ∙ take_at (take at l ++ ys) (drop (e - at) (drop at l)) e n)
            ∙ append_assoc (take at l) ys (walk_of e (drop (k + 1) es) (drop e ps))
            ∙ ap (λ (x : List ℤ). take at l ++ x)
            (ap₂ (λ (x : List ℤ) (t : List Point). x ++ walk_of e (drop (k + 1) es) t) y' (sym d)
            ∙ sym (walk_over at k es (drop at ps) h q))
            ∙ v.done;
        same =
            drop_put at e l ys (omega (arith, g)) w m
            ∙ sym (Post-is at e l (omega (arith, g)))
            ∙ ap (drop (e - at)) v.same
            ∙ map_drop (λ x. x.place.current) (e - at) (drop at ps)
            ∙ ap current_of d;
        size = same_len_mid at (e - at) l ys z ∙ v.size;
        rising = r;
      }

-- ---- the test of the sizes
both_true : (a b : Bool) → (a && b) ≡ true → (a ≡ true) × (b ≡ true)
both_true true b e = (refl, e)
both_true false b e = (cc e, cc e)

pub sizes_same : (f c u o n : ℕ) → sizes_fit f c u o n ≡ true → (u ≡ n) × (o ≡ n) × (f ≡ n)
unfolding sizes_fit
sizes_same f c u o n e =
    let a = both_true (eqb u n) (eqb o n && (eqb f n && (leb n most_points && leb c most_contours))) e in
    let b = both_true (eqb o n) (eqb f n && (leb n most_points && leb c most_contours)) a.1 in
    let d = both_true (eqb f n) (leb n most_points && leb c most_contours) b.1 in
    (eqb-true u n a.0, eqb-true o n b.0, eqb-true f n d.0)

-- ---- the direct call, by its two tests
module _ (axis : Axis) (fs es : List ℕ) (us os cs : List ℤ) where
  abbrev fits : Bool
  fits = sizes_fit (length fs) (length es) (length us) (length os) (length cs)

  pub tried : {l : List ℤ} → fits ≡ true → ends_rise (length cs) es ≡ true → l ≡ iup_of axis fs es us os cs → swept (Ok tt) l ≡ tried_of axis fs es us os cs
  unfolding tried_of
  tried h g e = rw (h, g) (ap (swept (Ok tt)) e)

  pub tried_ends : fits ≡ true → ends_rise (length cs) es ≡ false → swept (Err Ends) cs ≡ tried_of axis fs es us os cs
  unfolding tried_of
  tried_ends h g = rw (h, g)

  pub tried_sizes : fits ≡ false → swept (Err Sizes) cs ≡ tried_of axis fs es us os cs
  unfolding tried_of
  tried_sizes h = rw h
