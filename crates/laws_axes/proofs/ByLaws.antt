-- What the laws of the axes say of the examples. Assumes nothing.
use mathlib.Core.List.{[], ◌∷◌, map}
use mathlib.Core.Path.{◌≡◌, ap, refl}
use Rattle.flags.specs.Flag.{bit}
use Rattle.replay.specs.Run.{run_of}
use Rattle.laws_axes.specs.Plain.{SameHorizontally, SameVertically}
use Rattle.laws_axes.specs.Reached.{none}
use Rattle.flags.specs.declared.Axis.TheVariants.{X, Y}
use Rattle.laws_axes.specs.Axes.{interpolates_across, mixes}
use Rattle.laws_axes.proofs.Plain.{horizontal_runs_agree, vertical_runs_agree}
use Rattle.laws_axes.proofs.Still.{vertical_run_still}
use Rattle.laws_axes.proofs.Examples.{begun, differ_in_x, differ_in_y, glyph, heights, held, here, marked, measuring, moving, reaches, reaches_measuring, reaches_refused, reaches_rising, refusing, rising, start, there}

pub ends_alike : SameVertically (run_of (glyph Y here) moving 3 0 (begun Y here)) (run_of (glyph Y there) moving 3 0 (begun Y there))
ends_alike =
    vertical_runs_agree (glyph Y here) (glyph Y there) moving 3 0 (begun Y here) (begun Y there) differ_in_x refl (ap (none (mixes Y)) (reaches Y))

pub ends_alike_level : SameHorizontally (run_of (glyph X here) moving 3 0 (begun X here)) (run_of (glyph X there) moving 3 0 (begun X there))
ends_alike_level =
    horizontal_runs_agree (glyph X here) (glyph X there) moving 3 0 (begun X here) (begun X there) differ_in_y refl (ap (none (mixes X)) (reaches X))

pub refused_alike : SameVertically (run_of (held here heights) refusing 9 0 (start here heights)) (run_of (held there heights) refusing 9 0 (start there heights))
refused_alike =
    vertical_runs_agree (held here heights) (held there heights) refusing 9 0 (start here heights) (start there heights) differ_in_x refl
    (ap (none (mixes Y)) reaches_refused)

pub measure_alike : SameVertically (run_of (glyph Y here) measuring 5 0 (begun Y here)) (run_of (glyph Y there) measuring 5 0 (begun Y there))
measure_alike =
    vertical_runs_agree (glyph Y here) (glyph Y there) measuring 5 0 (begun Y here) (begun Y there) differ_in_x refl (ap (none (mixes Y)) (reaches_measuring Y))

pub stays_across :
    ((run_of (held here heights) rising 2 0 marked).world.gx ≡ here)
    × (map (bit 1) (run_of (held here heights) rising 2 0 marked).world.gflags ≡ 1 ∷ 0 ∷ 1 ∷ 0 ∷ 0 ∷ [])
stays_across =
    vertical_run_still (held here heights) rising 2 0 marked refl (ap (none (mixes Y)) reaches_rising) (ap (none (interpolates_across Y)) reaches_rising)
