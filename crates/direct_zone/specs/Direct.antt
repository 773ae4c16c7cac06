-- The direct calls over one zone: document 01, "Direct calls test in the order 2, 3, then 7 or 11"; none of these has a state to refuse with
-- 3. Nothing is changed where one is refused. Assumes nothing.
use Rattle.answer.specs.declared.Refusal.{Refusal}
use Rattle.graphics.specs.declared.Vector.{Vector}
use Rattle.std.specs.Prelude.{ℕ, Bool, cond, List, ℤ, Result, Ok, Err}
use Rattle.answer.specs.declared.Refusal.TheVariants.{Sizes}
use Rattle.flags.specs.declared.CoordAxis.{CoordAxis}
use Rattle.zone.specs.Sizes.{pair_fits, flags_fit}
use Rattle.zone.specs.Zone.{Marked, marked, place_of, fetch_of, touch_of, untouch_of, flip_of, touched_of, set_on_curve_of}

abbrev pub try_fetch_of : List ℤ → List ℤ → ℕ → Result Vector Refusal
try_fetch_of xs ys at = cond (pair_fits xs ys) (fetch_of xs ys at) (Err Sizes)

abbrev pub try_unscaled_of : List ℤ → List ℤ → ℕ → Result Vector Refusal
try_unscaled_of xs ys at = cond (pair_fits xs ys) (Ok (place_of xs ys at)) (Err Sizes)

-- a call over the flags, behind the test of their number
abbrev pub sized_flags : List ℕ → Marked → Marked
sized_flags flags m = cond (flags_fit flags) m (marked (Err Sizes) flags)

abbrev pub try_touch_of : List ℕ → ℕ → CoordAxis → Marked
try_touch_of flags at axis = sized_flags flags (touch_of flags at axis)

abbrev pub try_untouch_of : List ℕ → ℕ → CoordAxis → Marked
try_untouch_of flags at axis = sized_flags flags (untouch_of flags at axis)

abbrev pub try_flip_of : List ℕ → ℕ → Marked
try_flip_of flags at = sized_flags flags (flip_of flags at)

abbrev pub try_touched_of : List ℕ → ℕ → CoordAxis → Result Bool Refusal
try_touched_of flags at axis = cond (flags_fit flags) (touched_of flags at axis) (Err Sizes)

abbrev pub try_set_on_curve_of : List ℕ → ℕ → ℕ → Bool → Marked
try_set_on_curve_of flags start end on = sized_flags flags (set_on_curve_of flags start end on)
