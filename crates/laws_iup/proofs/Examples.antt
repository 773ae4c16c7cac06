-- K10 is about some glyphs: a pair that agrees but for its second contour, on either axis, whose second contour does come out another; and a pair whose ends are sloppy, as K8 refuses them,
-- of which the walk of before K8, and today's definition without its test, let one contour disturb another. All computed. Assumes nothing.
use mathlib.Core.Bool.{cond, false, true}
use mathlib.Core.List.{List, [], ◌∷◌, ◌++◌}
use mathlib.Core.Path.{◌≡◌, ap, refl, sym, ◌∙◌}
use Prim.Native.Nat.{ℕ, ◌+◌, ◌-◌}
use native.Mathlib.Omega.{arith}
use lib.Dec.{ltb}
use lib.IntN.{nat_abs, pos, ℤ}
use lib.ListN.{drop, get_or, take}
use Rattle.contour_ends.specs.Ends.{ends_rise, rising_from}
use Rattle.flags.specs.Axis.{touch_bit}
use Rattle.flags.specs.declared.Axis.TheVariants.{X, Y}
use Rattle.flags.specs.declared.Axis.{Axis}
use Rattle.graphics.specs.State.{fresh_state, marked_x, marked_y, usable_state, vector_in_range, vectors_in_range, with_facts}
use Rattle.graphics.specs.declared.GraphicsState.{GraphicsState}
use Rattle.int.specs.Word.{add32, sub32, wrap32}
use Rattle.iup.specs.Contour.{Point as Dot}
use Rattle.iup.specs.Contour.{contour_of, current_of, points_of, touched_places}
use Rattle.iup.specs.Iup.{iup_of, walk_of}
use Rattle.line.specs.Sizes.{fits}
use Rattle.line.specs.World.{Fixed, World, fixed, world}
use Rattle.line_iup.specs.Iup.{iup_line_of, marked_for}
use Rattle.opcodes.specs.Decode.{decode_by, decode_of}
use Rattle.opcodes.specs.Table.{line_of, need_of, row_of}
use Rattle.replay.specs.Run.{entry_of, on_entry, run_of}
use Rattle.rules.specs.declared.Rules.TheVariants.{FreeType}
use Rattle.run_lines.specs.Onward.{Ran, on_call, replay_of}
use Rattle.run_lines.specs.declared.Answer.TheVariants.{Finished}
use Rattle.run_step.specs.Step.{on_decoded, step_of}
use Rattle.zone.specs.Sizes.{glyph_fits, pair_fits, placed_fits, twilight_fits}
use Rattle.laws_iup.specs.Agree.{FixedAgreeBut, RunsAgreeBut, WorldsAgreeBut}
use Rattle.laws_iup.specs.Contours.{AgreeBut}
use Rattle.laws_iup.specs.Sheets.{iup_sheet}
use Rattle.laws_iup.proofs.Contour.{point_by_point}

abbrev eight : {A : Type 0} → A → A → A → A → A → A → A → A → List A
eight a b c d e f g h = a ∷ b ∷ c ∷ d ∷ e ∷ f ∷ g ∷ h ∷ []

-- ---- a pair that meets the premises
-- points 0 to 2, 3 and 4, 5 and 6; point 7 lies behind them
abbrev pub three : List ℕ
three = 2 ∷ 4 ∷ 6 ∷ []

agree : {A : Type 0} {none a b c d e d' e' f g h : A} → AgreeBut none three 1 (eight a b c d e f g h) (eight a b c d' e' f g h)
agree {none = none} = point_by_point none three 1 _ _ (record { size = refl; front = refl; back = refl })

-- the second contour's points are given, the same on both axes; unscaled and original alike
abbrev glyph : ℤ → ℤ → Fixed
glyph p q =
    let l = eight (pos 0) (pos 10) (pos 20) p q (pos 50) (pos 60) (pos 70) in
    fixed FreeType [] l l l l three

abbrev pub drawn : Fixed
drawn = glyph (pos 30) (pos 40)

abbrev pub redrawn : Fixed
redrawn = glyph (pos 33) (pos 41)

-- backward compatibility, so that IUP sets its mark
abbrev compatible : GraphicsState
compatible = with_facts fresh_state (record { backward_compatibility = true; pedantic = false; native_clear_type_x = false; did_iup_x = false; did_iup_y = false })

abbrev marked : Axis → GraphicsState
marked X = with_facts compatible (marked_x compatible.facts)
marked Y = with_facts compatible (marked_y compatible.facts)

-- points 0 and 5 are touched and moved, by 4 and by -2
abbrev begun : ℤ → ℤ → ℕ → ℕ → World
begun p q r s =
    let l = eight (pos 4) (pos 10) (pos 20) p q (pos 48) (pos 60) (pos 70) in
    world compatible l l (eight 6 0 0 r s 6 0 0) [] [] [] [] []

-- before the repair point 3 is touched, and moved by 7; after it point 4 is, and moved by 10
abbrev pub before : World
before = begun (pos 37) (pos 40) 6 0

abbrev pub repaired : World
repaired = begun (pos 33) (pos 51) 0 6

pub glyphs_agree : FixedAgreeBut 1 drawn redrawn
glyphs_agree = record { rules = refl; controls = refl; gux = agree; guy = agree; gox = agree; goy = agree; contours = refl }

pub worlds_agree : WorldsAgreeBut three 1 before repaired
worlds_agree = record { state = refl; gx = agree; gy = agree; gflags = agree; tox = refl; toy = refl; tx = refl; ty = refl; tflags = refl }

-- the mark is set in both, the second contour comes out another, and nothing else does
abbrev coordinates : Axis → World → List ℤ
coordinates X w = w.gx
coordinates Y w = w.gy

abbrev Ended : Axis → ℤ → ℤ → Ran → Type 0
Ended axis p q r = (r.answer ≡ Finished) × (r.lines ≡ 1) × (r.world.state ≡ marked axis) × (coordinates axis r.world ≡ eight (pos 4) (pos 14) (pos 24) p q (pos 48) (pos 58) (pos 70))

pub repair_shows : (axis : Axis)
    → Ended axis (pos 37) (pos 47) (run_of drawn (iup_sheet axis) 1 0 before)
    × Ended axis (pos 43) (pos 51) (run_of redrawn (iup_sheet axis) 1 0 repaired)
unfolding run_of on_entry entry_of rising_from fits glyph_fits twilight_fits pair_fits placed_fits usable_state vectors_in_range vector_in_range replay_of step_of on_decoded on_call decode_of decode_by need_of line_of row_of marked_for iup_line_of iup_of walk_of contour_of points_of touched_places add32 sub32 wrap32
repair_shows X = ((refl, refl, refl, refl), (refl, refl, refl, refl))
repair_shows Y = ((refl, refl, refl, refl), (refl, refl, refl, refl))

-- ---- a pair with sloppy ends, under the walk of before K8
-- the place past a contour's end; an end at or above n is taken as n - 1
abbrev old_past : ℕ → ℕ → ℕ
old_past end n = cond (ltb end n) (end + 1) n

-- a contour that ends before the walk's place is skipped
abbrev pub old_walk : ℕ → ℕ → List ℕ → List Dot → List ℤ
old_walk n at [] ps = current_of ps
old_walk n at (end ∷ ends) ps =
    cond (ltb at (old_past end n))
    (contour_of (take (old_past end n - at) ps) ++ old_walk n (old_past end n) ends (drop (old_past end n - at) ps))
    (old_walk n at ends ps)

-- the third contour is points 3 to 6, and the first ends at 4 and reaches into it
abbrev pub sloppy : List ℕ
sloppy = 4 ∷ 2 ∷ 6 ∷ []

pub not_rising : ends_rise 8 sloppy ≡ false
unfolding rising_from
not_rising = refl

-- point 3 is touched, and moved to a place that is given: that agrees but for the third contour
abbrev moved : ℤ → List ℤ
moved p = eight (pos 0) (pos 10) (pos 20) p (pos 40) (pos 50) (pos 60) (pos 70)

pub moved_agree : (p q : ℤ) → AgreeBut (pos 0) sloppy 2 (moved p) (moved q)
moved_agree p q = point_by_point (pos 0) sloppy 2 (moved p) (moved q) (record { size = refl; front = refl; back = refl })

-- a walk of it, touched on both axes
abbrev pub walked_by : (List ℕ → List Dot → List ℤ) → Axis → ℤ → List ℤ
walked_by walk axis p = walk sloppy (points_of (touch_bit axis) (eight 0 0 0 6 0 0 0 0) (moved (pos 30)) (moved (pos 30)) (moved p))

-- the first contour's points 0 to 2 come out others
abbrev Disturbs : (List ℕ → List Dot → List ℤ) → Axis → Type 0
Disturbs walk axis =
    walked_by walk axis (pos 37) ∷ walked_by walk axis (pos 40) ∷ []
    ≡ eight (pos 7) (pos 17) (pos 27) (pos 37) (pos 47) (pos 50) (pos 60) (pos 70) ∷ eight (pos 10) (pos 20) (pos 30) (pos 40) (pos 50) (pos 50) (pos 60) (pos 70) ∷ []

pub old_walk_disturbs : (axis : Axis) → Disturbs (old_walk 8 0) axis
unfolding contour_of points_of touched_places add32 sub32 wrap32
old_walk_disturbs X = refl
old_walk_disturbs Y = refl

-- today's would too, but for the test of the ends
pub untested_walk_disturbs : (axis : Axis) → Disturbs (walk_of 0) axis
unfolding walk_of contour_of points_of touched_places add32 sub32 wrap32
untested_walk_disturbs X = refl
untested_walk_disturbs Y = refl
