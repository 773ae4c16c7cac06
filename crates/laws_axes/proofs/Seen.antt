-- What is seen along an axis, law by law: a list keeps its length, a place along it is read as it is, a distance along it reads no other
-- coordinate, and a move changes what is seen by what is seen. Assumes nothing.
use Rattle.std.specs.Prelude.{Result, Ok, Err}
use mathlib.Core.Bool.{Bool, cond, false, true}
use mathlib.Core.List.{List}
use mathlib.Core.Path.{◌∙◌, ◌≡◌, ap, ap₂, refl, sym}
use lib.ListN.{get_or, length, length-replicate, length-set, replicate, set}
use lib.Dec.{ltb}
use lib.IntN.{pos, ℤ}
use Prim.Native.Nat.{suc, zero, ℕ}
use Rattle.flags.specs.declared.Axis.{Axis}
use Rattle.moves.specs.declared.Move.{Move}
use Rattle.moves.specs.Apply.{Moved, apply_of, moved}
use Rattle.answer.specs.declared.Refusal.TheVariants.{Point}
use Rattle.answer.specs.declared.Refusal.{Refusal}
use Rattle.graphics.specs.declared.Vector.{Vector}
use Rattle.graphics.specs.declared.Vectors.{Vectors}
use Rattle.flags.specs.declared.Axis.TheVariants.{X, Y}
use Rattle.int.specs.Word.{add32}
use Rattle.graphics.specs.State.{all_along}
use Rattle.projection.proofs.Laws.{along_x_axis, along_y_axis}
use Rattle.zone.specs.Zone.{fetch_of, or_at, place_of}
use Rattle.laws_axes.specs.Axes.{leveled, unit_of, x_seen, y_seen}
use Rattle.moves.specs.Move.{moved_at}
use Rattle.moves.specs.Displacement.{displaced_at, displaced_from, displaced_in, displacement, displacement_of, scaled_to}
use Rattle.moves.specs.declared.Reference.{Reference}
use Rattle.graphics.specs.declared.ZonePointer.TheVariants.{Glyph, Twilight}
use Rattle.graphics.specs.declared.ZonePointer.{ZonePointer}
use Rattle.projection.specs.Projection.{project_of}

-- ---- lists
pub level_by : (xs ys : List ℤ) → length xs ≡ length ys → leveled xs ≡ leveled ys
level_by xs ys e = ap (λ (n : ℕ). replicate n (pos 0)) e

pub level_length : (zs : List ℤ) → length (leveled zs) ≡ length zs
level_length zs = length-replicate (length zs) (pos 0)

pub x_length : (a : Axis) (xs : List ℤ) → length (x_seen a xs) ≡ length xs
x_length X xs = refl
x_length Y xs = level_length xs

pub y_length : (a : Axis) (ys : List ℤ) → length (y_seen a ys) ≡ length ys
y_length X ys = level_length ys
y_length Y ys = refl

pub x_again : (a : Axis) (xs : List ℤ) → x_seen a (x_seen a xs) ≡ x_seen a xs
x_again X xs = refl
x_again Y xs = level_by (leveled xs) xs (level_length xs)

pub y_again : (a : Axis) (ys : List ℤ) → y_seen a (y_seen a ys) ≡ y_seen a ys
y_again X ys = level_by (leveled ys) ys (level_length ys)
y_again Y ys = refl

-- ---- places
abbrev pub place_seen : Axis → Vector → Vector
place_seen X p = record { x = p.x; y = pos 0 }
place_seen Y p = record { x = pos 0; y = p.y }

abbrev pub fetched_seen : Axis → Result Vector Refusal → Result Vector Refusal
fetched_seen a (Ok p) = Ok (place_seen a p)
fetched_seen a (Err why) = Err why

level_read : (n at : ℕ) → get_or (replicate n (pos 0)) at (pos 0) ≡ pos 0
level_read zero at = refl
level_read (suc n) zero = refl
level_read (suc n) (suc at) = level_read n at

pub place_seen_lem : (a : Axis) (xs ys : List ℤ) (at : ℕ) → place_of (x_seen a xs) (y_seen a ys) at ≡ place_seen a (place_of xs ys at)
place_seen_lem X xs ys at = ap (λ (z : ℤ). record { x = get_or xs at (pos 0); y = z }) (level_read (length ys) at)
place_seen_lem Y xs ys at = ap (λ (z : ℤ). record { x = z; y = get_or ys at (pos 0) }) (level_read (length xs) at)

fetched_by : (a : Axis) (t : Bool) (p : Vector) (why : Refusal)
    → cond t (Ok (place_seen a p)) (Err why) ≡ fetched_seen a (cond t (Ok p) (Err why))
fetched_by a true p why = refl
fetched_by a false p why = refl

pub fetch_seen : (a : Axis) (xs ys : List ℤ) (at : ℕ) → fetch_of (x_seen a xs) (y_seen a ys) at ≡ fetched_seen a (fetch_of xs ys at)
unfolding fetch_of
fetch_seen a xs ys at =
    ap₂ (λ (n : ℕ) (p : Vector). cond (ltb at n) (Ok p) (Err (Point at))) (x_length a xs) (place_seen_lem a xs ys at)
    ∙ fetched_by a (ltb at (length xs)) (place_of xs ys at) (Point at)

-- ---- distances
project_on : (a : Axis) (p q : Vector) → project_of (all_along (unit_of a)) (place_seen a p) (place_seen a q) ≡ project_of (all_along (unit_of a)) p q
project_on X p q = along_x_axis (place_seen X p) (place_seen X q) ∙ sym (along_x_axis p q)
project_on Y p q = along_y_axis (place_seen Y p) (place_seen Y q) ∙ sym (along_y_axis p q)

pub project_seen : (a : Axis) (v : Vectors) → v ≡ all_along (unit_of a) → (p q : Vector) → project_of v (place_seen a p) (place_seen a q) ≡ project_of v p q
project_seen a v e p q =
    ap (λ (u : Vectors). project_of u (place_seen a p) (place_seen a q)) e
    ∙ project_on a p q
    ∙ sym (ap (λ (u : Vectors). project_of u p q) e)

-- ---- moves
level_moved : (zs : List ℤ) (at : ℕ) (by : ℤ) (moves : Bool) → leveled (moved_at zs at by moves) ≡ leveled zs
level_moved zs at by true = level_by (set zs at (add32 (get_or zs at (pos 0)) by)) zs (length-set zs at (add32 (get_or zs at (pos 0)) by))
level_moved zs at by false = refl

pub x_moved : (a : Axis) (xs : List ℤ) (at : ℕ) (by : ℤ) (moves : Bool) → x_seen a (moved_at (x_seen a xs) at by moves) ≡ x_seen a (moved_at xs at by moves)
x_moved X xs at by moves = refl
x_moved Y xs at by moves = level_moved (leveled xs) at by moves ∙ x_again Y xs ∙ sym (level_moved xs at by moves)

pub y_moved : (a : Axis) (ys : List ℤ) (at : ℕ) (by : ℤ) (moves : Bool) → y_seen a (moved_at (y_seen a ys) at by moves) ≡ y_seen a (moved_at ys at by moves)
y_moved X ys at by moves = level_moved (leveled ys) at by moves ∙ y_again X ys ∙ sym (level_moved ys at by moves)
y_moved Y ys at by moves = refl

abbrev pub moved_seen : Axis → Moved → Moved
moved_seen a m = moved m.call (x_seen a m.xs) (y_seen a m.ys) m.flags

apply_by : (a : Axis) (m : Move) (at : ℕ) (xs ys : List ℤ) (flags : List ℕ) (t : Bool)
    → moved_seen a
    (cond t
    (moved (Ok tt) (moved_at (x_seen a xs) at m.dx m.moves_x) (moved_at (y_seen a ys) at m.dy m.moves_y) (or_at flags at m.touch))
    (moved (Err (Point at)) (x_seen a xs) (y_seen a ys) flags))
    ≡ moved_seen a
    (cond t
    (moved (Ok tt) (moved_at xs at m.dx m.moves_x) (moved_at ys at m.dy m.moves_y) (or_at flags at m.touch))
    (moved (Err (Point at)) xs ys flags))
apply_by a m at xs ys flags true =
    ap₂ (λ (u v : List ℤ). moved (Ok tt) u v (or_at flags at m.touch)) (x_moved a xs at m.dx m.moves_x) (y_moved a ys at m.dy m.moves_y)
apply_by a m at xs ys flags false = ap₂ (λ (u v : List ℤ). moved (Err (Point at)) u v flags) (x_again a xs) (y_again a ys)

pub apply_seen : (a : Axis) (m : Move) (at : ℕ) (xs ys : List ℤ) (flags : List ℕ)
    → moved_seen a (apply_of m at (x_seen a xs) (y_seen a ys) flags) ≡ moved_seen a (apply_of m at xs ys flags)
unfolding apply_of
apply_seen a m at xs ys flags =
    ap
    (λ (n : ℕ). moved_seen a
    (cond (ltb at n)
    (moved (Ok tt) (moved_at (x_seen a xs) at m.dx m.moves_x) (moved_at (y_seen a ys) at m.dy m.moves_y) (or_at flags at m.touch))
    (moved (Err (Point at)) (x_seen a xs) (y_seen a ys) flags)))
    (x_length a xs)
    ∙ apply_by a m at xs ys flags (ltb at (length xs))

-- ---- places that are put
level_set : (zs : List ℤ) (at : ℕ) (z : ℤ) → leveled (set zs at z) ≡ leveled zs
level_set zs at z = level_by (set zs at z) zs (length-set zs at z)

pub x_set : (a : Axis) (xs : List ℤ) (at : ℕ) (z : ℤ) → x_seen a (set (x_seen a xs) at z) ≡ x_seen a (set xs at z)
x_set X xs at z = refl
x_set Y xs at z = level_set (leveled xs) at z ∙ x_again Y xs ∙ sym (level_set xs at z)

pub y_set : (a : Axis) (ys : List ℤ) (at : ℕ) (z : ℤ) → y_seen a (set (y_seen a ys) at z) ≡ y_seen a (set ys at z)
y_set X ys at z = level_set (leveled ys) at z ∙ y_again X ys ∙ sym (level_set ys at z)
y_set Y ys at z = refl

-- ---- the reference point
displacement_seen : (a : Axis) (v : Vectors) → v ≡ all_along (unit_of a) → (p q : Vector)
    → displacement_of v (place_seen a p) (place_seen a q) ≡ displacement_of v p q
unfolding displacement_of
displacement_seen a v e p q = ap (scaled_to v) (project_seen a v e p q)

from_seen : (a : Axis) (v : Vectors) → v ≡ all_along (unit_of a) → (p : Reference) (original current : Result Vector Refusal)
    → displaced_from v p (fetched_seen a original) (fetched_seen a current) ≡ displaced_from v p original current
from_seen a v e p (Ok o) (Ok c) = ap (λ (d : Vector). Ok (displacement p d)) (displacement_seen a v e c o)
from_seen a v e p (Err why) (Ok c) = refl
from_seen a v e p (Ok o) (Err why) = refl
from_seen a v e p (Err other) (Err why) = refl

at_seen : (a : Axis) (v : Vectors) → v ≡ all_along (unit_of a) → (p : Reference) (ox oy cx cy : List ℤ)
    → displaced_at v p (x_seen a ox) (y_seen a oy) (x_seen a cx) (y_seen a cy) ≡ displaced_at v p ox oy cx cy
unfolding displaced_at
at_seen a v e p ox oy cx cy =
    ap₂ (displaced_from v p) (fetch_seen a ox oy p.at) (fetch_seen a cx cy p.at)
    ∙ from_seen a v e p (fetch_of ox oy p.at) (fetch_of cx cy p.at)

pub displaced_seen : (a : Axis) (v : Vectors) → v ≡ all_along (unit_of a) → (p : Reference) (gox goy gx gy tox toy tx ty : List ℤ) (z : ZonePointer)
    → displaced_in v p (x_seen a gox) (y_seen a goy) (x_seen a gx) (y_seen a gy) (x_seen a tox) (y_seen a toy) (x_seen a tx) (y_seen a ty) z
    ≡ displaced_in v p gox goy gx gy tox toy tx ty z
unfolding displaced_in
displaced_seen a v e p gox goy gx gy tox toy tx ty Glyph = at_seen a v e p gox goy gx gy
displaced_seen a v e p gox goy gx gy tox toy tx ty Twilight = at_seen a v e p tox toy tx ty

-- ---- by a test
-- what is seen of either outcome of a test
pub seen_by_test : {A B : Type 0} (f : A → B) (t : Bool) {p q p' q' : A} → f p ≡ f p' → f q ≡ f q' → f (cond t p q) ≡ f (cond t p' q')
seen_by_test f true e d = e
seen_by_test f false e d = d
