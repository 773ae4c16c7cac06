-- The steps asked for one by one are the glyph's list, then there are no more, for ever; every step of a glyph that may be drawn is near; and the box is the one around the points handed
-- out so far. Assumes nothing.
use Rattle.std.specs.Prelude.{Result, Ok, Option, Some, None}
use Rattle.answer.specs.declared.Refusal.{Refusal}
use Rattle.outline_numbers.specs.declared.Edges.{Edges}
use Rattle.outline_numbers.specs.declared.Step.{Step}
use mathlib.Core.Path.{◌≡◌, refl, sym, ap, ◌∙◌, subst}
use Prim.Native.Nat.{ℕ, zero, suc, ◌+◌, ◌-◌, ◌≤◌, ◌<◌}
use native.Mathlib.Numerals.{add-one}
use native.Mathlib.Omega.{arith}
use mathlib.Core.Bool.{Bool, true, false, cond, ◌&&◌}
use mathlib.Core.List.{List, [], ◌∷◌, ◌++◌}
use borrow.Author.Tests.{ltb-true, ltb-false, leb-true, leb-false, le-leb, lt-leb}
use lib.Dec.{leb, ltb}
use lib.IntN.{ℤ}
use lib.ListN.{length, get_or, drop, take, drop_of_length-le}
use lib.Seq.{drop-cons}
use Rattle.answer.specs.declared.Refusal.TheVariants.{Ends, Far, Sizes}
use Rattle.contour_ends.specs.Ends.{ends_rise}
use Rattle.outline_numbers.specs.Drawing.{Box, Extent, Boxed, near, is_near, step_of, drawn_by, spots_of, handed_out, with_spots, extent_of, bounds_of}
use Rattle.outline_numbers.specs.Drawing.{none as nothing, box}
use Rattle.outline_numbers.specs.declared.Spot.{Spot}
use Rattle.outline_numbers.specs.declared.Stroke.{Stroke}
use Rattle.outline_numbers.specs.declared.Stroke.TheVariants.{Move, Line, Curve, Close}
use Rattle.outline_numbers.proofs.Bounded.{Within, step_within, step_added, spots_joined}
use Rattle.outline_numbers.proofs.Near.{left_of, right_of}
use Rattle.outline_steps.specs.Outline.{Glyph, on, between, own, move_to, line_to, curve_to, Waits, none, off, visit, begun, contour_of, contours_of, steps_of, sizes_fit, all_close, entry_of, Entry, drawable, refused}
use Rattle.outline_steps.specs.Pen.{stroked, on_to, curve_from, onward_from, begun_at, start_from, next_contour, walk_by, walk_of, asked, handed, next_of, fresh, asks, pen_after, first_of}
use Rattle.outline_steps.specs.declared.Asked.{Asked}
use Rattle.outline_steps.specs.declared.Pen.{Pen}
use Rattle.outline_steps.specs.declared.Stage.{Stage}
use Rattle.outline_steps.specs.declared.Stage.TheVariants.{Between, Onward, Waiting}
use Rattle.outline_steps.specs.declared.Stroked.{Stroked}
use Rattle.outline_steps.specs.declared.Walk.{Walk}
use Rattle.outline_steps.proofs.Cases.{start_single, start_first, start_last, start_midway, contour_next, contour_none, curve_on, curve_off, curve_back, line_on, line_off, line_none}
use Rattle.outline_steps.proofs.Closeness.{midway_near}

-- ---- the steps that a walk has before it
abbrev pub start_of : Glyph → Walk → Spot
start_of g w = between g w.from w.to

-- those of the contours that were not begun
abbrev pub later : Glyph → Walk → List Stroke
later g w = contours_of g w.past (drop w.contour g.contours)

abbrev pub before : Glyph → Walk → Stage → List Stroke
before g w Between = later g w
before g w Onward = visit g (start_of g w) none w.at (w.stop - w.at) ++ later g w
before g w (Waiting c) = visit g (start_of g w) (off c) w.at (w.stop - w.at) ++ later g w

abbrev pub remaining : Glyph → Walk → List Stroke
remaining g w = before g w w.stage

-- nothing of nothing
take_none : (n : ℕ) → take {A = Stroke} n [] ≡ []
take_none zero = refl
take_none (suc n) = refl

-- ---- a visit, one point at a time
module _ (g : Glyph) (s : Spot) (at stop : ℕ) (h : at < stop) where
  one_less : stop - at ≡ suc (stop - (at + 1))
  one_less = omega arith

  none_on : on g at ≡ true → visit g s none at (stop - at) ≡ line_to (own g at) ∷ visit g s none (at + 1) (stop - (at + 1))
  unfolding visit
  none_on e = ap (visit g s none at) one_less ∙ rw (e, add-one at)

  none_off : on g at ≡ false → visit g s none at (stop - at) ≡ visit g s (off at) (at + 1) (stop - (at + 1))
  unfolding visit
  none_off e = ap (visit g s none at) one_less ∙ rw (e, add-one at)

  off_on : (c : ℕ) → on g at ≡ true → visit g s (off c) at (stop - at) ≡ curve_to (own g c) (own g at) ∷ visit g s none (at + 1) (stop - (at + 1))
  unfolding visit
  off_on c e = ap (visit g s (off c) at) one_less ∙ rw (e, add-one at)

  off_off : (c : ℕ) → on g at ≡ false → visit g s (off c) at (stop - at) ≡ curve_to (own g c) (between g c at) ∷ visit g s (off at) (at + 1) (stop - (at + 1))
  unfolding visit
  off_off c e = ap (visit g s (off c) at) one_less ∙ rw (e, add-one at)

module _ (g : Glyph) (s : Spot) (at stop : ℕ) (h : stop ≤ at) where
  none_left : stop - at ≡ 0
  none_left = omega arith

  none_done : visit g s none at (stop - at) ≡ Close ∷ []
  unfolding visit
  none_done = ap (visit g s none at) none_left

  off_done : (c : ℕ) → visit g s (off c) at (stop - at) ≡ curve_to (own g c) s ∷ Close ∷ []
  unfolding visit
  off_done c = ap (visit g s (off c) at) none_left

-- ---- one step of the walk is the next of those before it
-- the step, then what the walk behind it has before it
abbrev pub Continues : Glyph → List Stroke → Stroked → Type 0
Continues g l s = l ≡ s.stroke ∷ remaining g s.walk

-- where a step is known by an equation
by : (g : Glyph) {l : List Stroke} {s t : Stroked} → s ≡ t → Continues g l s → Continues g l t
by g e c = subst (Continues g _) e c

module _ (g : Glyph) (w : Walk) where
  off_law : (c at : ℕ) → Continues g (visit g (start_of g w) (off c) at (w.stop - at) ++ later g w) (curve_from g w c at)
  off_law c at = go (ltb at w.stop) (ltb-true at w.stop) (ltb-false at w.stop) (on g at) refl
    where
      go : (t : Bool) → (t ≡ true → at < w.stop) → (t ≡ false → w.stop ≤ at) → (b : Bool) → on g at ≡ b → Continues g (visit g (start_of g w) (off c) at (w.stop - at) ++ later g w) (curve_from g w c at)
      go true h k true e =
          by g (curve_on g w c at refl refl (h refl) e refl refl)
          (ap (λ (l : List Stroke). l ++ later g w) (off_on g (start_of g w) at w.stop (h refl) c e))
      go true h k false e =
          by g (curve_off g w c at refl refl (h refl) e refl refl)
          (ap (λ (l : List Stroke). l ++ later g w) (off_off g (start_of g w) at w.stop (h refl) c e))
      go false h k b e =
          by g (curve_back g w c at refl refl (k refl) refl refl)
          (ap (λ (l : List Stroke). l ++ later g w) (off_done g (start_of g w) at w.stop (k refl) c)
          ∙ ap (λ (l : List Stroke). curve_to (own g c) (start_of g w) ∷ (l ++ later g w)) (sym (none_done g (start_of g w) at w.stop (k refl))))

  none_law : Continues g (visit g (start_of g w) none w.at (w.stop - w.at) ++ later g w) (onward_from g w)
  none_law = go (ltb w.at w.stop) (ltb-true w.at w.stop) (ltb-false w.at w.stop) (on g w.at) refl
    where
      go : (t : Bool) → (t ≡ true → w.at < w.stop) → (t ≡ false → w.stop ≤ w.at) → (b : Bool) → on g w.at ≡ b → Continues g (visit g (start_of g w) none w.at (w.stop - w.at) ++ later g w) (onward_from g w)
      go true h k true e =
          by g (line_on g w (h refl) e refl refl refl)
          (ap (λ (l : List Stroke). l ++ later g w) (none_on g (start_of g w) w.at w.stop (h refl) e))
      go true h k false e =
          by g (line_off g w (h refl) e refl)
          (ap (λ (l : List Stroke). l ++ later g w) (none_off g (start_of g w) w.at w.stop (h refl) e) ∙ off_law w.at (w.at + 1))
      go false h k b e =
          by g (line_none g w (k refl) refl)
          (ap (λ (l : List Stroke). l ++ later g w) (none_done g (start_of g w) w.at w.stop (k refl)))

-- ---- a contour begun
module _ (g : Glyph) (first last : ℕ) where
  single_is : last ≤ first → contour_of g first last ≡ begun g (own g first) (last + 1) (last + 1)
  unfolding contour_of
  single_is h = rw (le-leb last first h, add-one last)

  first_is : first < last → on g first ≡ true → contour_of g first last ≡ begun g (own g first) (first + 1) (last + 1)
  unfolding contour_of
  first_is h e = rw (lt-leb last first h, e, add-one first, add-one last)

  last_is : first < last → on g first ≡ false → on g last ≡ true → contour_of g first last ≡ begun g (own g last) first last
  unfolding contour_of
  last_is h e f = rw (lt-leb last first h, e, f)

  midway_is : first < last → on g first ≡ false → on g last ≡ false → contour_of g first last ≡ begun g (between g first last) first (last + 1)
  unfolding contour_of
  midway_is h e f = rw (lt-leb last first h, e, f, add-one last)

module _ (g : Glyph) (w : Walk) where
  -- the steps of the contours behind the one that is begun
  abbrev behind : ℕ → List Stroke
  behind last = contours_of g (last + 1) (drop (w.contour + 1) g.contours)

  start_law : (last : ℕ) → Continues g (contour_of g w.past last ++ behind last) (start_from g w last)
  start_law last = go (leb last w.past) (leb-true last w.past) (leb-false last w.past) (on g w.past) refl (on g last) refl
    where
      with_behind : {l m : List Stroke} → l ≡ m → l ++ behind last ≡ m ++ behind last
      with_behind e = ap (λ (l : List Stroke). l ++ behind last) e

      go : (t : Bool) → (t ≡ true → last ≤ w.past) → (t ≡ false → w.past < last) → (b : Bool) → on g w.past ≡ b → (d : Bool) → on g last ≡ d → Continues g (contour_of g w.past last ++ behind last) (start_from g w last)
      go true h k b e d f = by g (start_single g w last (h refl)) (with_behind (single_is g w.past last (h refl)))
      go false h k true e d f = by g (start_first g w last (k refl) e) (with_behind (first_is g w.past last (k refl) e))
      go false h k false e true f = by g (start_last g w last (k refl) e f) (with_behind (last_is g w.past last (k refl) e f))
      go false h k false e false f = by g (start_midway g w last (k refl) e f) (with_behind (midway_is g w.past last (k refl) e f))

-- ---- the walk
-- the next step, then what is before the walk behind it; nothing where it ended
abbrev pub Goes : Glyph → List Stroke → Option Stroked → Type 0
Goes g l (Some s) = Continues g l s
Goes g l None = l ≡ []

abbrev last_of : Glyph → Walk → ℕ
last_of g w = get_or g.contours w.contour 0

opened : (g : Glyph) (w : Walk) → w.contour < length g.contours → later g w ≡ contour_of g w.past (last_of g w) ++ behind g w (last_of g w)
unfolding contours_of
opened g w h = rw (drop-cons g.contours w.contour 0 h, add-one w.contour, add-one (last_of g w))

ended : (g : Glyph) (w : Walk) → length g.contours ≤ w.contour → later g w ≡ []
unfolding contours_of
ended g w h = ap (contours_of g w.past) (drop_of_length-le g.contours {i = w.contour} h)

next_law : (g : Glyph) (w : Walk) → Goes g (later g w) (next_contour g w)
next_law g w = go (ltb w.contour (length g.contours)) (ltb-true w.contour (length g.contours)) (ltb-false w.contour (length g.contours))
  where
    go : (t : Bool) → (t ≡ true → w.contour < length g.contours) → (t ≡ false → length g.contours ≤ w.contour) → Goes g (later g w) (next_contour g w)
    go true h k = subst (Goes g (later g w)) (contour_next g w (h refl) refl refl) (opened g w (h refl) ∙ start_law g w (last_of g w))
    go false h k = subst (Goes g (later g w)) (contour_none g w (k refl)) (ended g w (k refl))

walk_by_lem : (g : Glyph) (w : Walk) (s : Stage) → Goes g (before g w s) (walk_by g w s)
walk_by_lem g w Between = next_law g w
walk_by_lem g w Onward = none_law g w
walk_by_lem g w (Waiting c) = off_law g w c w.at

pub walk_law : (g : Glyph) (w : Walk) → Goes g (remaining g w) (walk_of g w)
walk_law g w = walk_by_lem g w w.stage

-- ---- every step of a glyph that may be drawn is near
abbrev pub Close-by : Glyph → Type 0
Close-by g = (all_close g.xs ≡ true) × (all_close g.ys ≡ true)

abbrev pub NearStep : Stroked → Type 0
NearStep s = is_near s.stroke ≡ true

abbrev pub NearWalk : Option Stroked → Type 0
NearWalk (Some s) = NearStep s
NearWalk None = Unit {0}

both : {s t : Bool} → s ≡ true → t ≡ true → s && t ≡ true
both e f = λ i. e i && f i

either : {A : Type 0} (P : A → Type 0) (t : Bool) (a b : A) → P a → P b → P (cond t a b)
either P true a b x y = x
either P false a b x y = y

module _ (g : Glyph) (close : Close-by g) where
  spot_near : (a b : ℕ) → near (between g a b).x && near (between g a b).y ≡ true
  spot_near a b = both (midway_near g.xs close.0 a b) (midway_near g.ys close.1 a b)

  curve_near : (c a b : ℕ) → is_near (curve_to (own g c) (between g a b)) ≡ true
  curve_near c a b = both (both (spot_near c c) (midway_near g.xs close.0 a b)) (midway_near g.ys close.1 a b)

  off_near : (w : Walk) (c at : ℕ) → NearStep (curve_from g w c at)
  unfolding curve_from
  off_near w c at =
      either NearStep (ltb at w.stop) _ _
      (either NearStep (on g at) (stroked (curve_to (own g c) (own g at)) (on_to w (at + 1) Onward)) (stroked (curve_to (own g c) (between g c at)) (on_to w (at + 1) (Waiting at))) (curve_near c at at) (curve_near c c at))
      (curve_near c w.from w.to)

  none_near : (w : Walk) → NearStep (onward_from g w)
  unfolding onward_from
  none_near w =
      either NearStep (ltb w.at w.stop) _ (stroked Close (on_to w w.at Between))
      (either NearStep (on g w.at) (stroked (line_to (own g w.at)) (on_to w (w.at + 1) Onward)) (curve_from g w w.at (w.at + 1)) (spot_near w.at w.at) (off_near w w.at (w.at + 1)))
      refl

  start_near : (w : Walk) (last : ℕ) → NearStep (start_from g w last)
  unfolding start_from
  start_near w last =
      let p = w.past in
      let single = begun_at g w last p p (last + 1) (last + 1) in
      let first = begun_at g w last p p (p + 1) (last + 1) in
      let second = begun_at g w last last last p last in
      let third = begun_at g w last p last p (last + 1) in
      either NearStep (leb last p) single (cond (on g p) first (cond (on g last) second third)) (spot_near p p)
      (either NearStep (on g p) first (cond (on g last) second third) (spot_near p p)
      (either NearStep (on g last) second third (spot_near last last) (spot_near p last)))

  next_near : (w : Walk) → NearWalk (next_contour g w)
  unfolding next_contour
  next_near w = either NearWalk (ltb w.contour (length g.contours)) (Some (start_from g w (last_of g w))) None (start_near w (last_of g w)) tt

  pub near_by : (w : Walk) (s : Stage) → NearWalk (walk_by g w s)
  near_by w Between = next_near w
  near_by w Onward = none_near w
  near_by w (Waiting c) = off_near w c w.at

  -- ---- asks, one after the other
  -- the pen behind a step that was drawn
  abbrev moved : Pen → Stroked → Pen
  moved p s = record { walk = s.walk; bounds = drawn_by p.bounds (step_of s.stroke) }

  went : (p : Pen) (s : Stroked) → NearStep s → handed p (Some s) ≡ asked (Ok (Some (step_of s.stroke))) (moved p s)
  went p s e = rw e

  asks_one : (n : ℕ) (p : Pen) (l : List Stroke) (x : Option Stroked) → ((q : Pen) (m : List Stroke) → remaining g q.walk ≡ m → asks g q n ≡ first_of n m)
      → remaining g p.walk ≡ l → Goes g l x → NearWalk x → (handed p x).told ∷ asks g (handed p x).pen n ≡ first_of (suc n) l
  asks_one n p l (Some s) again e goes h =
      ap (λ (a : Asked). a.told ∷ asks g a.pen n) (went p s h)
      ∙ ap (λ (m : List (Result (Option Step) Refusal)). Ok (Some (step_of s.stroke)) ∷ m) (again (moved p s) (remaining g s.walk) refl)
      ∙ sym (ap (first_of (suc n)) goes)
  asks_one n p l None again e goes h = ap (λ (m : List (Result (Option Step) Refusal)). (Ok None) ∷ m) (again p [] (e ∙ goes)) ∙ sym (ap (first_of (suc n)) goes)

  -- what the walk of a pen comes to, of the steps before it
  goes_on : (p : Pen) (l : List Stroke) → remaining g p.walk ≡ l → Goes g l (walk_of g p.walk)
  goes_on p l e = subst (λ (m : List Stroke). Goes g m (walk_of g p.walk)) e (walk_law g p.walk)

  asks_from : (n : ℕ) (p : Pen) (l : List Stroke) → remaining g p.walk ≡ l → asks g p n ≡ first_of n l
  unfolding next_of
  asks_from zero p l e = refl
  asks_from (suc n) p l e = asks_one n p l (walk_of g p.walk) (asks_from n) e (goes_on p l e) (near_by p.walk p.walk.stage)

  -- ---- the box
  -- the box around the first n of the steps before a pen, and what was drawn already
  abbrev Bounding : ℕ → Type 0
  Bounding n = (q : Pen) (m : List Stroke) (k : Extent) → remaining g q.walk ≡ m → q.bounds ≡ bounds_of k → Within k → (pen_after g q n).bounds ≡ bounds_of (with_spots k (handed_out (take n m)))

  box_one : (n : ℕ) (p : Pen) (l : List Stroke) (k : Extent) (x : Option Stroked) → Bounding n → remaining g p.walk ≡ l → p.bounds ≡ bounds_of k → Within k → Goes g l x → NearWalk x
      → (pen_after g (handed p x).pen n).bounds ≡ bounds_of (with_spots k (handed_out (take (suc n) l)))
  box_one n p l k (Some s) again e b w goes h =
      ap (λ (a : Asked). (pen_after g a.pen n).bounds) (went p s h)
      ∙ again (moved p s) (remaining g s.walk) (with_spots k (spots_of s.stroke)) refl
      (ap (λ (c : Option Edges). drawn_by c (step_of s.stroke)) b ∙ step_added k s.stroke h w) (step_within k s.stroke h w)
      ∙ ap bounds_of (sym (spots_joined k (spots_of s.stroke) (handed_out (take n (remaining g s.walk)))))
      ∙ ap (λ (m : List Stroke). bounds_of (with_spots k (handed_out (take (suc n) m)))) (sym goes)
  box_one n p l k None again e b w goes h =
      again p [] k (e ∙ goes) b w
      ∙ ap (λ (m : List Stroke). bounds_of (with_spots k (handed_out m))) (take_none n)
      ∙ ap (λ (m : List Stroke). bounds_of (with_spots k (handed_out (take (suc n) m)))) (sym goes)

  box_from : (n : ℕ) → Bounding n
  unfolding next_of
  box_from zero p l k e b w = b
  box_from (suc n) p l k e b w = box_one n p l k (walk_of g p.walk) (box_from n) e b w (goes_on p l e) (near_by p.walk p.walk.stage)

-- ---- from a fresh pen
close_drawable : (a b c : Bool) → cond a (cond b (cond c drawable (refused Far)) (refused Ends)) (refused Sizes) ≡ drawable → c ≡ true
close_drawable true true true e = refl
close_drawable true true false e = cc e
close_drawable true false c e = cc e
close_drawable false b c e = cc e

pub close_of : (g : Glyph) → entry_of g ≡ drawable → Close-by g
unfolding entry_of
close_of g e =
    let c = close_drawable (sizes_fit g) (ends_rise (length g.xs) g.contours) (all_close g.xs && all_close g.ys) e in
    (left_of (all_close g.xs) (all_close g.ys) c, right_of (all_close g.xs) (all_close g.ys) c)

pub fresh_has : (g : Glyph) → remaining g fresh.walk ≡ steps_of g
unfolding steps_of
fresh_has g = refl

-- n asks of a glyph that may be drawn are the first n of its steps, and "no more" for each ask beyond them
pub one_by_one : (g : Glyph) → entry_of g ≡ drawable → (n : ℕ) → asks g fresh n ≡ first_of n (steps_of g)
one_by_one g e n = asks_from g (close_of g e) n fresh (steps_of g) (fresh_has g)

-- the box behind them is the one around the points handed out so far
pub boxes : (g : Glyph) → entry_of g ≡ drawable → (n : ℕ) → (pen_after g fresh n).bounds ≡ bounds_of (extent_of (take n (steps_of g)))
boxes g e n = box_from g (close_of g e) n fresh (steps_of g) nothing (fresh_has g) refl tt
