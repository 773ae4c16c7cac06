-- The four lists of a contour and its points: each list is a field of the points, and a part of the lists gives that part of the points.
-- Assumes nothing.
use mathlib.Core.Path.{◌≡◌, refl, ap}
use mathlib.Core.Bool.{Bool}
use mathlib.Core.List.{List, [], ◌∷◌, map}
use Prim.Native.Nat.{ℕ, zero, suc}
use native.Mathlib.Omega.{arith}
use lib.IntN.{ℤ}
use lib.ListN.{length, take, drop}
use Rattle.iup.specs.Contour.{Point, current_of, points_of}
use Rattle.iup.specs.Parts.{marks}
use Rattle.flags.specs.Flag.{has_any}

abbrev pub unscaled_of : List Point → List ℤ
unscaled_of ps = map (λ p. p.place.unscaled) ps

abbrev pub original_of : List Point → List ℤ
original_of ps = map (λ p. p.place.original) ps

abbrev pub touch_of : List Point → List Bool
touch_of ps = map (λ p. p.touched) ps

-- what the four lists are of the points
pub record Shown (mask : ℕ) (fs : List ℕ) (us os cs : List ℤ) (ps : List Point) : Type 0 where
  pub flags : marks mask fs ≡ touch_of ps
  pub unscaled : us ≡ unscaled_of ps
  pub original : os ≡ original_of ps
  pub current : cs ≡ current_of ps
  pub size : length cs ≡ length ps

more : {mask : ℕ} {fs : List ℕ} {us os cs : List ℤ} {ps : List Point} (f : ℕ) (u o c : ℤ) → Shown mask fs us os cs ps → Shown mask (f ∷ fs) (u ∷ us) (o ∷ os) (c ∷ cs) (record { place = record { unscaled = u; original = o; current = c }; touched = has_any f mask } ∷ ps)
more {mask} f u o c s =
    record {
      flags = ap (λ (l : List Bool). has_any f mask ∷ l) s.flags;
      unscaled = ap (λ (l : List ℤ). u ∷ l) s.unscaled;
      original = ap (λ (l : List ℤ). o ∷ l) s.original;
      current = ap (λ (l : List ℤ). c ∷ l) s.current;
      size = ap suc s.size;
    }

pub shown : (mask : ℕ) (fs : List ℕ) (us os cs : List ℤ) → length us ≡ length cs → length os ≡ length cs → length fs ≡ length cs → Shown mask fs us os cs (points_of mask fs us os cs)
unfolding points_of
shown mask [] [] [] [] a b d = record { flags = refl; unscaled = refl; original = refl; current = refl; size = refl }
shown mask [] [] [] (c ∷ cs) a b d = absurd (omega arith)
shown mask [] [] (o ∷ os) cs a b d = absurd (omega arith)
shown mask [] (u ∷ us) os cs a b d = absurd (omega arith)
shown mask (f ∷ fs) [] os cs a b d = absurd (omega arith)
shown mask (f ∷ fs) (u ∷ us) [] cs a b d = absurd (omega arith)
shown mask (f ∷ fs) (u ∷ us) (o ∷ os) [] a b d = absurd (omega arith)
shown mask (f ∷ fs) (u ∷ us) (o ∷ os) (c ∷ cs) a b d = more f u o c (shown mask fs us os cs (omega arith) (omega arith) (omega arith))

pub points_take : (mask k : ℕ) (fs : List ℕ) (us os cs : List ℤ) → points_of mask (take k fs) (take k us) (take k os) (take k cs) ≡ take k (points_of mask fs us os cs)
unfolding points_of
points_take mask zero fs us os cs = refl
points_take mask (suc k) [] us os cs = refl
points_take mask (suc k) (f ∷ fs) [] os cs = refl
points_take mask (suc k) (f ∷ fs) (u ∷ us) [] cs = refl
points_take mask (suc k) (f ∷ fs) (u ∷ us) (o ∷ os) [] = refl
points_take mask (suc k) (f ∷ fs) (u ∷ us) (o ∷ os) (c ∷ cs) =
    ap (λ (ps : List Point). record { place = record { unscaled = u; original = o; current = c }; touched = has_any f mask } ∷ ps) (points_take mask k fs us os cs)

pub points_drop : (mask k : ℕ) (fs : List ℕ) (us os cs : List ℤ) → length us ≡ length cs → length os ≡ length cs → length fs ≡ length cs → points_of mask (drop k fs) (drop k us) (drop k os) (drop k cs) ≡ drop k (points_of mask fs us os cs)
unfolding points_of
points_drop mask zero fs us os cs a b d = refl
points_drop mask (suc k) [] us os cs a b d = refl
points_drop mask (suc k) (f ∷ fs) [] os cs a b d = absurd (omega arith)
points_drop mask (suc k) (f ∷ fs) (u ∷ us) [] cs a b d = absurd (omega arith)
points_drop mask (suc k) (f ∷ fs) (u ∷ us) (o ∷ os) [] a b d = absurd (omega arith)
points_drop mask (suc k) (f ∷ fs) (u ∷ us) (o ∷ os) (c ∷ cs) a b d = points_drop mask k fs us os cs (omega arith) (omega arith) (omega arith)

pub map_take : {A B : Type 0} (f : A → B) (k : ℕ) (l : List A) → take k (map f l) ≡ map f (take k l)
map_take f zero l = refl
map_take f (suc k) [] = refl
map_take {A} {B} f (suc k) (x ∷ l) = ap (λ (t : List B). f x ∷ t) (map_take f k l)

pub map_drop : {A B : Type 0} (f : A → B) (k : ℕ) (l : List A) → drop k (map f l) ≡ map f (drop k l)
map_drop f zero l = refl
map_drop f (suc k) [] = refl
map_drop f (suc k) (x ∷ l) = map_drop f k l
