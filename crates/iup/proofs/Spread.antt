-- A contour stretch by stretch: the points up to the next touched one go between the touched one before them and that one.
-- Assumes nothing.
use mathlib.Core.Path.{◌≡◌, refl, sym, ap, ap₂, ◌∙◌}
use mathlib.Core.Bool.{Bool, true, false, cond}
use mathlib.Core.List.{List, [], ◌∷◌, ◌++◌, map, append_assoc}
use Prim.Native.Nat.{ℕ, ◌+◌, ◌≤◌}
use native.Mathlib.Omega.{arith}
use lib.IntN.{ℤ}
use lib.Signed.{le_z}
use lib.ListN.{length, take, drop, length-append, length-drop, length-map}
use lib.Seq.{take-append-add, drop-append-add, length-take-le, drop-drop}
use Rattle.int.specs.Word.{low}
use Rattle.iup.proofs.Points.{unscaled_of, original_of, touch_of, map_drop}
use Rattle.iup.specs.Contour.{Point, inside, along, between, touched_places, head_or, spread, current_of}
use Rattle.iup.specs.Parts.{ahead, level, slope, inside_by, moved_by, by_references, both}
use Rattle.iup.specs.declared.Place.{Place}

-- ---- the code's references say what the definition says
inside_is : (low high p : Place) (b : Bool) → level low high ≡ b → inside_by low (level low high) (slope low high) p.unscaled ≡ inside low high p
unfolding inside_by inside
inside_is low high p true t = rw t
inside_is low high p false t = rw t

ordered_is : (low high p : Place) → moved_by low high (level low high) (slope low high) p.unscaled p.original ≡ along low high p
unfolding moved_by along
ordered_is low high p = rw (inside_is low high p (level low high) refl)

moved_by_lem : (a b p : Place) (t : Bool) → le_z a.unscaled b.unscaled ≡ t → by_references a b p.unscaled p.original ≡ between a b p
unfolding by_references between
moved_by_lem a b p true t = rw t (ordered_is a b p)
moved_by_lem a b p false t = rw t (ordered_is b a p)

pub both_is : (a b : Place) (ps : List Point) → both (by_references a b) (unscaled_of ps) (original_of ps) ≡ map (λ p. between a b p.place) ps
both_is a b [] = refl
both_is a b (p ∷ ps) = ap₂ (λ (x : ℤ) (l : List ℤ). x ∷ l) (moved_by_lem a b p.place (le_z a.unscaled b.unscaled) refl) (both_is a b ps)

-- what the code works out once for a stretch
refer_by : (a b : Place) (t : Bool) → le_z a.unscaled b.unscaled ≡ t → let low = cond t a b in let high = cond t b a in moved_by low high (level low high) (slope low high) ≡ by_references a b
unfolding by_references
refer_by a b true t = rw t
refer_by a b false t = rw t

pub refer : (a b : Place) {low high : Place} {flat : Bool} {scale : ℤ} → low ≡ cond (le_z a.unscaled b.unscaled) a b → high ≡ cond (le_z a.unscaled b.unscaled) b a → flat ≡ level low high → scale ≡ slope low high → moved_by low high flat scale ≡ by_references a b
refer a b {low} {high} {flat} {scale} l h f s =
    ap₂ (moved_by low high) f s
    ∙ ap₂ (λ (x y : Place). moved_by x y (level x y) (slope x y)) l h
    ∙ refer_by a b (le_z a.unscaled b.unscaled) refl

-- ---- the first stretch of a list of points
-- how many untouched points stand in front
abbrev pub front : List Point → ℕ
front ps = ahead (touch_of ps)

-- the first of a list of points, or another
abbrev pub head_place : Place → List Point → Place
head_place other [] = other
head_place other (p ∷ ps) = p.place

-- what a touched point leaves behind it
abbrev pub from : Place → List Point → List ℤ
from first [] = []
from first (p ∷ ps) = p.place.current ∷ spread p.place first ps

front_by : (p : Point) (ps : List Point) (t : Bool) → p.touched ≡ t → front ps ≤ length ps → front (p ∷ ps) ≤ length (p ∷ ps)
front_by p ps true t h = rw t (omega arith)
front_by p ps false t h = rw t (omega arith)

pub front_le : (ps : List Point) → front ps ≤ length ps
front_le [] = omega arith
front_le (p ∷ ps) = front_by p ps p.touched refl (front_le ps)

-- the touched points of a list whose first is touched
abbrev pub from_touched : List Point → List Place
from_touched [] = []
from_touched (p ∷ ps) = p.place ∷ touched_places ps

-- the first touched point stands behind the untouched ones in front
cut_by : (p : Point) (ps : List Point) (t : Bool) → p.touched ≡ t → touched_places ps ≡ from_touched (drop (front ps) ps) → touched_places (p ∷ ps) ≡ from_touched (drop (front (p ∷ ps)) (p ∷ ps))
unfolding touched_places
cut_by p ps true t e = rw t
cut_by p ps false t e = rw t e

pub touched_cut : (ps : List Point) → touched_places ps ≡ from_touched (drop (front ps) ps)
unfolding touched_places
touched_cut [] = refl
touched_cut (p ∷ ps) = cut_by p ps p.touched refl (touched_cut ps)

head_of : (other : Place) (ds : List Point) → head_or other (from_touched ds) ≡ head_place other ds
head_of other [] = refl
head_of other (d ∷ ds) = refl

pub ahead_is : (other : Place) (ps : List Point) → head_or other (touched_places ps) ≡ head_place other (drop (front ps) ps)
ahead_is other ps = ap (head_or other) (touched_cut ps) ∙ head_of other (drop (front ps) ps)

abbrev pub go_between : Place → Place → List Point → List ℤ
go_between a b ps = map (λ p. between a b p.place) ps

spread_by : (before first : Place) (p : Point) (ps : List Point) (t : Bool) → p.touched ≡ t → spread before first ps ≡ go_between before (head_or first (touched_places ps)) (take (front ps) ps) ++ from first (drop (front ps) ps) → spread before first (p ∷ ps) ≡ go_between before (head_or first (touched_places (p ∷ ps))) (take (front (p ∷ ps)) (p ∷ ps)) ++ from first (drop (front (p ∷ ps)) (p ∷ ps))
unfolding spread touched_places
spread_by before first p ps true t e = rw t
spread_by before first p ps false t e = rw t (ap (λ (l : List ℤ). between before (head_or first (touched_places ps)) p.place ∷ l) e)

pub spread_cut : (before first : Place) (ps : List Point) → spread before first ps ≡ go_between before (head_or first (touched_places ps)) (take (front ps) ps) ++ from first (drop (front ps) ps)
unfolding spread touched_places
spread_cut before first [] = refl
spread_cut before first (p ∷ ps) = spread_by before first p ps p.touched refl (spread_cut before first ps)

-- ---- one turn of the loop over the stretches
-- what is done up to `at`, with what the points from there on make, is the result; the coordinates from there on are as they were
pub record Spreading (first : Place) (ps : List Point) (r : List ℤ) (l : List ℤ) (before : Place) (at : ℕ) : Type 0 where
  pub done : take at l ++ spread before first (drop at ps) ≡ r
  pub same : drop at l ≡ current_of (drop at ps)
  pub size : length l ≡ length ps

-- a touched point stays, and what follows goes on from it
goes_on : (first : Place) (xs ys : List ℤ) (ds : List Point) → (xs ++ ys ++ take 1 (current_of ds)) ++ spread (head_place first ds) first (drop 1 ds) ≡ xs ++ (ys ++ from first ds)
unfolding spread
goes_on first xs ys [] = simp append_assoc
goes_on first xs ys (d ∷ ds) = simp append_assoc

drop_one : (ds : List Point) → drop 1 (current_of ds) ≡ current_of (drop 1 ds)
drop_one [] = refl
drop_one (d ∷ ds) = refl

module _ {first : Place} {ps : List Point} {r l : List ℤ} {before : Place} {at : ℕ} (v : Spreading first ps r l before at) (h : at ≤ length ps) where
  abbrev qs : List Point
  qs = drop at ps

  abbrev k : ℕ
  k = front qs

  abbrev xs : List ℤ
  xs = take at l

  abbrev ys : List ℤ
  ys = go_between before (head_or first (touched_places qs)) (take k qs)

  size_xs : length xs ≡ at
  size_xs = length-take-le at l (omega (arith, v.size))

  size_ys : length ys ≡ k
  size_ys = length-map (take k qs) (λ p. between before (head_or first (touched_places qs)) p.place) ∙ length-take-le k qs (front_le qs)

  size_front : length (xs ++ ys) ≡ at + k
  size_front = length-append xs ys ∙ omega (arith, size_xs, size_ys)

  behind : drop (at + k) l ≡ current_of (drop k qs)
  behind = sym (drop-drop k at l) ∙ ap (drop k) v.same ∙ map_drop (λ p. p.place.current) k qs

  pub next_le : at + k ≤ length ps
  next_le = omega (arith, front_le qs, length-drop at ps)

  pub step : {l' : List ℤ} → l' ≡ xs ++ (ys ++ drop (at + k) l) → length l' ≡ length ps → Spreading first ps r l' (head_or first (touched_places qs)) (at + k + 1)
  step {l'} e g =
      let ds : List Point = drop k qs in
      let w : l' ≡ (xs ++ ys) ++ current_of ds = e ∙ sym (append_assoc xs ys (drop (at + k) l)) ∙ ap (λ (z : List ℤ). (xs ++ ys) ++ z) behind in
      let t : take (at + k + 1) l' ≡ (xs ++ ys) ++ take 1 (current_of ds) = ap₂ (λ (n : ℕ) (z : List ℤ). take (n + 1) z) (sym size_front) w ∙ take-append-add (xs ++ ys) (current_of ds) 1 in
      let d : drop (at + k + 1) l' ≡ drop 1 (current_of ds) = ap₂ (λ (n : ℕ) (z : List ℤ). drop (n + 1) z) (sym size_front) w ∙ drop-append-add (xs ++ ys) (current_of ds) 1 in
      let p : drop (at + k + 1) ps ≡ drop 1 ds = sym (drop-drop 1 (at + k) ps) ∙ ap (drop 1) (sym (drop-drop k at ps)) in
      record {
        done =
            ap₂ (λ (a b : List ℤ). a ++ b) t (ap₂ (λ (z : Place) (q : List Point). spread z first q) (ahead_is first qs) p)
            ∙ goes_on first xs ys ds
            ∙ ap (λ (z : List ℤ). xs ++ z) (sym (spread_cut before first qs))
            ∙ v.done;
        same = d ∙ drop_one ds ∙ ap current_of (sym p);
        size = g;
      }
