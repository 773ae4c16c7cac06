-- A move along an axis leaves every point's coordinate and mark across it: with the vectors along the axis, a move's
-- part across is 0 and its touch mark across is not set. Assumes nothing.
use Rattle.std.specs.Prelude.{Ok, Err}
use mathlib.Core.Bool.{Bool, cond, false, true}
use mathlib.Core.List.{List}
use mathlib.Core.Path.{◌∙◌, ◌≡◌, refl, subst, sym}
use lib.Bits.{bit_or}
use lib.Dec.{ltb}
use lib.ListN.{get_or, length}
use lib.Seq.{map-set_same}
use lib.IntN.{ℤ}
use Prim.Native.Nat.{ℕ}
use Rattle.flags.specs.declared.Axis.{Axis}
use Rattle.graphics.specs.declared.Facts.{Facts}
use Rattle.moves.specs.declared.Move.{Move}
use Rattle.answer.specs.declared.Refusal.TheVariants.{Point}
use Rattle.laws_axes.specs.Axes.{Still, across, mark_across, marks_across, unit_of}
use Rattle.graphics.specs.declared.Vectors.{Vectors}
use Rattle.flags.specs.declared.Axis.TheVariants.{X, Y}
use Rattle.graphics.specs.State.{all_along}
use Rattle.moves.specs.Apply.{apply_of, moved}
use Rattle.projection.specs.Projection.{axis_of, freedom_axis_by, raw_fdotp}
use Rattle.flags.specs.Flag.{bit}
use Rattle.zone.specs.Zone.{or_at}
use Rattle.moves.specs.Move.{move_of, moved_at, step_by, zp2_move_of}
use Rattle.flags.proofs.Bits.{or_keeps}

pub stays : (a : Axis) (xs ys : List ℤ) (flags : List ℕ) → Still a xs ys flags xs ys flags
stays a xs ys flags = record { coordinates = refl; marks = refl }

-- one thing after the other
pub then : {a : Axis} {xs ys xs' ys' xs'' ys'' : List ℤ} {flags flags' flags'' : List ℕ} → Still a xs' ys' flags' xs'' ys'' flags'' → Still a xs ys flags xs' ys' flags'
    → Still a xs ys flags xs'' ys'' flags''
then p q = record { coordinates = p.coordinates ∙ q.coordinates; marks = p.marks ∙ q.marks }

-- ---- a move along the axis
abbrev pub moves_across : Axis → Move → Bool
moves_across X m = m.moves_y
moves_across Y m = m.moves_x

pub record Inert (a : Axis) (m : Move) : Type 0 where
  pub moves : moves_across a m ≡ false
  pub touches : bit (mark_across a) m.touch ≡ 0

inert_on : (a : Axis) (facts : Facts) (d : ℤ) → Inert a (move_of (all_along (unit_of a)) facts d)
unfolding move_of step_by freedom_axis_by raw_fdotp axis_of
inert_on X facts d = record { moves = refl; touches = refl }
inert_on Y facts d = record { moves = refl; touches = refl }

pub inert_move : (a : Axis) (v : Vectors) → v ≡ all_along (unit_of a) → (facts : Facts) (d : ℤ) → Inert a (move_of v facts d)
inert_move a v e facts d = subst (λ (u : Vectors). Inert a (move_of u facts d)) (sym e) (inert_on a facts d)

-- touching or not
inert_zp2_on : (a : Axis) (facts : Facts) (dx dy : ℤ) (touches : Bool) → Inert a (zp2_move_of (all_along (unit_of a)) facts dx dy touches)
unfolding zp2_move_of
inert_zp2_on X facts dx dy true = record { moves = refl; touches = refl }
inert_zp2_on X facts dx dy false = record { moves = refl; touches = refl }
inert_zp2_on Y facts dx dy true = record { moves = refl; touches = refl }
inert_zp2_on Y facts dx dy false = record { moves = refl; touches = refl }

pub inert_zp2 : (a : Axis) (v : Vectors) → v ≡ all_along (unit_of a) → (facts : Facts) (dx dy : ℤ) (touches : Bool) → Inert a (zp2_move_of v facts dx dy touches)
inert_zp2 a v e facts dx dy touches = subst (λ (u : Vectors). Inert a (zp2_move_of u facts dx dy touches)) (sym e) (inert_zp2_on a facts dx dy touches)

unmoved : (zs : List ℤ) (at : ℕ) (by : ℤ) (moves : Bool) → moves ≡ false → moved_at zs at by moves ≡ zs
unmoved zs at by moves e = rw e

across_unmoved : (a : Axis) (m : Move) → Inert a m → (at : ℕ) (xs ys : List ℤ)
    → across a (moved_at xs at m.dx m.moves_x) (moved_at ys at m.dy m.moves_y) ≡ across a xs ys
across_unmoved X m i at xs ys = unmoved ys at m.dy m.moves_y i.moves
across_unmoved Y m i at xs ys = unmoved xs at m.dx m.moves_x i.moves

marks_or : (a : Axis) (flags : List ℕ) (at touch : ℕ) → bit (mark_across a) touch ≡ 0 → marks_across a (or_at flags at touch) ≡ marks_across a flags
marks_or a flags at touch e =
    map-set_same (bit (mark_across a)) flags at (bit_or (get_or flags at 0) touch) 0 (or_keeps (mark_across a) (get_or flags at 0) touch e)

apply_by : (a : Axis) (m : Move) → Inert a m → (at : ℕ) (xs ys : List ℤ) (flags : List ℕ) (t : Bool)
    → let r = cond t (moved (Ok tt) (moved_at xs at m.dx m.moves_x) (moved_at ys at m.dy m.moves_y) (or_at flags at m.touch)) (moved (Err (Point at)) xs ys flags) in
    Still a xs ys flags r.xs r.ys r.flags
apply_by a m i at xs ys flags true = record { coordinates = across_unmoved a m i at xs ys; marks = marks_or a flags at m.touch i.touches }
apply_by a m i at xs ys flags false = stays a xs ys flags

pub apply_still : (a : Axis) (m : Move) → Inert a m → (at : ℕ) (xs ys : List ℤ) (flags : List ℕ)
    → Still a xs ys flags (apply_of m at xs ys flags).xs (apply_of m at xs ys flags).ys (apply_of m at xs ys flags).flags
unfolding apply_of
apply_still a m i at xs ys flags = apply_by a m i at xs ys flags (ltb at (length xs))

-- ---- bit 0 is no touch mark
pub on_curve_apart : (a : Axis) → bit (mark_across a) 1 ≡ 0
on_curve_apart X = refl
on_curve_apart Y = refl
