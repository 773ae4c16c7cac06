-- ISECT in each of its cases, over a plain world: the laws of its steps, in their order. Assumes nothing.
use Rattle.std.specs.Prelude.{Result, Ok, Err}
use Prim.Native.Nat.{ℕ, ◌≤◌, ◌<◌}
use mathlib.Core.Bool.{Bool, cond, false, true}
use mathlib.Core.List.{List}
use mathlib.Core.Path.{◌≡◌, ap, refl, sym, ◌∙◌}
use borrow.Author.Tests.{le-ltb, lt-ltb}
use lib.Dec.{ltb}
use lib.IntN.{ℤ}
use lib.ListN.{length}
use Rattle.answer.specs.declared.Refusal.TheVariants.{Missing, Point}
use Rattle.answer.specs.declared.Refusal.{Refusal}
use Rattle.graphics.specs.declared.Vector.{Vector}
use Rattle.graphics.specs.declared.ZonePointer.TheVariants.{Glyph, Twilight}
use Rattle.graphics.specs.declared.ZonePointer.{ZonePointer}
use Rattle.crossing.specs.Crossing.{crossing_of}
use Rattle.line_steps.proofs.Laws.{five_missing, five_there, point_out, point_there}
use Rattle.line_steps.specs.Steps.{by_fetched, done_in, point_or, refused_in, there_or, with_points}
use Rattle.moves.specs.Apply.{BothMoved, Moved, moved, moved_glyph, moved_twilight}
use Rattle.line.specs.Operands.{index_at}
use Rattle.line.specs.Places.{Pair, pair, put_at}
use Rattle.line.specs.Places.{fetch_in}
use Rattle.flags.specs.Flag.{touch_bits}
use Rattle.flags.specs.declared.CoordAxis.TheVariants.{Both}
use Rattle.line.specs.World.{Fixed, Lined, World}
use Rattle.zone.specs.Zone.{fetch_of, or_at}
use Rattle.line_isect.specs.Isect.{isect_of, put_touched}
use Rattle.line_isect.specs.Steps.{meeting_in, put_in, put_of}

-- ---- where the lines meet
module _ (zoneA : ZonePointer) (a0 a1 : ℕ) (zoneB : ZonePointer) (b0 b1 : ℕ) (w : World) (rest : Vector → Lined) where
  abbrev end : ZonePointer → ℕ → Result Vector Refusal
  end zone at = fetch_in at w.gx w.gy w.tx w.ty zone

  abbrev met_by : Result Vector Refusal → Lined
  met_by g = by_fetched (refused_in w) rest g

  module _ {g : Result Vector Refusal} (e : g ≡ end zoneA a0) where
    pub a0_out : {why : Refusal} → g ≡ Err why → met_by g ≡ meeting_in zoneA a0 a1 zoneB b0 b1 w rest
    a0_out q = point_out w zoneA a0 (refused_in w) _ e q (ap met_by q)

    module _ {aFrom : Vector} (p : g ≡ Ok aFrom) {h : Result Vector Refusal} (f : h ≡ end zoneA a1) where
      pub a1_out : {why : Refusal} → h ≡ Err why → met_by h ≡ meeting_in zoneA a0 a1 zoneB b0 b1 w rest
      a1_out q = point_there w zoneA a0 (refused_in w) _ e p (point_out w zoneA a1 (refused_in w) _ f q (ap met_by q))

      module _ {aTo : Vector} (o : h ≡ Ok aTo) {k : Result Vector Refusal} (i : k ≡ end zoneB b0) where
        pub b0_out : {why : Refusal} → k ≡ Err why → met_by k ≡ meeting_in zoneA a0 a1 zoneB b0 b1 w rest
        b0_out q =
            point_there w zoneA a0 (refused_in w) _ e p
            (point_there w zoneA a1 (refused_in w) _ f o (point_out w zoneB b0 (refused_in w) _ i q (ap met_by q)))

        module _ {bFrom : Vector} (n : k ≡ Ok bFrom) {l : Result Vector Refusal} (j : l ≡ end zoneB b1) where
          pub b1_out : {why : Refusal} → l ≡ Err why → met_by l ≡ meeting_in zoneA a0 a1 zoneB b0 b1 w rest
          b1_out q =
              point_there w zoneA a0 (refused_in w) _ e p
              (point_there w zoneA a1 (refused_in w) _ f o
              (point_there w zoneB b0 (refused_in w) _ i n (point_out w zoneB b1 (refused_in w) _ j q (ap met_by q))))

          pub lines_meet : {bTo place : Vector} → l ≡ Ok bTo → place ≡ crossing_of aFrom aTo bFrom bTo → rest place ≡ meeting_in zoneA a0 a1 zoneB b0 b1 w rest
          lines_meet m q =
              point_there w zoneA a0 (refused_in w) _ e p
              (point_there w zoneA a1 (refused_in w) _ f o
              (point_there w zoneB b0 (refused_in w) _ i n (point_there w zoneB b1 (refused_in w) _ j m (ap rest q))))

-- ---- the point, in one zone's lists
module _ (place : Vector) (at : ℕ) (xs ys : List ℤ) (flags : List ℕ) where
  pub put_out : length xs ≤ at → moved (Err (Point at)) xs ys flags ≡ put_of place at xs ys flags
  unfolding put_of
  put_out h = rw (le-ltb at (length xs) h) refl

  pub put_inside : {xs2 ys2 : List ℤ} {flags2 : List ℕ} → at < length xs → pair xs2 ys2 ≡ put_at place at xs ys → flags2 ≡ or_at flags at (touch_bits Both)
      → moved (Ok tt) xs2 ys2 flags2 ≡ put_of place at xs ys flags
  unfolding put_of
  put_inside {flags2 = flags2} h e f =
      rw (lt-ltb at (length xs) h)
      (ap (λ (p : Pair). moved (Ok tt) p.xs p.ys flags2) e ∙ ap (moved (Ok tt) (put_at place at xs ys).xs (put_at place at xs ys).ys) f)

-- ---- the point, in the world
by_test : (f : Moved → Lined) (g : Result Vector Refusal → Lined) {m n : Moved} {p q : Result Vector Refusal} → f m ≡ g p → f n ≡ g q → (b : Bool) → f (cond b m n) ≡ g (cond b p q)
by_test f g e h true = e
by_test f g e h false = h

abbrev pub put_lined : World → BothMoved → Lined
put_lined w b = record { call = b.call; world = with_points w b }

put_is : (place : Vector) (at : ℕ) (w : World) (zone : ZonePointer)
    → put_lined w (put_in place at w.gx w.gy w.gflags w.tx w.ty w.tflags zone)
    ≡ there_or zone at w (refused_in w) (done_in (put_touched at place w zone))
unfolding put_in put_of point_or fetch_in fetch_of put_touched
put_is place at w Glyph =
    by_test
    (λ (m : Moved). put_lined w (moved_glyph w.tx w.ty w.tflags m))
    (by_fetched (refused_in w) (λ (_ : Vector). done_in (put_touched at place w Glyph)))
    refl refl
    (ltb at (length w.gx))
put_is place at w Twilight =
    by_test
    (λ (m : Moved). put_lined w (moved_twilight w.gx w.gy w.gflags m))
    (by_fetched (refused_in w) (λ (_ : Vector). done_in (put_touched at place w Twilight)))
    refl refl
    (ltb at (length w.tx))

-- ---- the line
-- what the line does with the place where the lines meet
abbrev putting : ℕ → World → Vector → Lined
putting at w place = there_or w.state.pointers.zp2 at w (refused_in w) (done_in (put_touched at place w w.state.pointers.zp2))

module _ (f : Fixed) (opcode : ℕ) (operands : List ℤ) (w : World) where
  pub isect_missing : {r : Lined} → length operands < 5 → r ≡ refused_in w Missing → r ≡ isect_of f opcode operands w
  unfolding isect_of
  isect_missing h e = five_missing w operands _ h e

  -- ---- all operands are there
  module _ {a0 a1 b0 b1 at : ℕ} {g : Result Vector Refusal} (h : 5 ≤ length operands) (i0 : b1 ≡ index_at operands 0) (i1 : b0 ≡ index_at operands 1) (i2 : a1 ≡ index_at operands 2) (i3 : a0 ≡ index_at operands 3) (i4 : at ≡ index_at operands 4) (e : (rest : Vector → Lined) → by_fetched (refused_in w) rest g ≡ meeting_in w.state.pointers.zp1 a0 a1 w.state.pointers.zp0 b0 b1 w rest) where
    pub isect_out : {r : Lined} {why : Refusal} → g ≡ Err why → r ≡ refused_in w why → r ≡ isect_of f opcode operands w
    unfolding isect_of
    isect_out q p =
        five_there w operands _ h
        (rw (← i0, ← i1, ← i2, ← i3, ← i4) (p ∙ sym (ap (by_fetched (refused_in w) (putting at w)) q) ∙ e (putting at w)))

    pub isect_put : {place : Vector} {b : BothMoved} → g ≡ Ok place → b ≡ put_in place at w.gx w.gy w.gflags w.tx w.ty w.tflags w.state.pointers.zp2
        → put_lined w b ≡ isect_of f opcode operands w
    unfolding isect_of
    isect_put {place = place} q p =
        five_there w operands _ h
        (rw (← i0, ← i1, ← i2, ← i3, ← i4)
        (ap (put_lined w) p ∙ put_is place at w w.state.pointers.zp2 ∙ sym (ap (by_fetched (refused_in w) (putting at w)) q) ∙ e (putting at w)))
