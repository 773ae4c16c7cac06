-- What a pen and lists come to, for every pen and all lists: one step, and where the pen is behind it. Nobody need believe the walk: proofs/OneByOne.antt says that from a fresh pen its steps are
-- `steps_of`. Assumes nothing.
use Rattle.answer.specs.declared.Refusal.{Refusal}
use Rattle.outline_numbers.specs.declared.Step.{Step}
use Rattle.std.specs.Prelude.{ℕ, zero, suc, ◌+◌, Bool, cond, List, [], ◌∷◌, leb, ltb, length, get_or, Result, Ok, Err, Option, Some, None}
use Rattle.answer.specs.declared.Refusal.TheVariants.{Far}
use Rattle.outline_numbers.specs.Drawing.{is_near, step_of, drawn_by}
use Rattle.outline_numbers.specs.declared.Spot.{Spot}
use Rattle.outline_numbers.specs.declared.Stroke.{Stroke}
use Rattle.outline_numbers.specs.declared.Stroke.TheVariants.{Close}
use Rattle.outline_steps.specs.Outline.{Glyph, on, between, own, move_to, line_to, curve_to, Entry, drawable, refused, entry_of}
use Rattle.outline_steps.specs.declared.Asked.{Asked}
use Rattle.outline_steps.specs.declared.Pen.{Pen}
use Rattle.outline_steps.specs.declared.Stage.{Stage}
use Rattle.outline_steps.specs.declared.Stage.TheVariants.{Between, Onward, Waiting}
use Rattle.outline_steps.specs.declared.Stroked.{Stroked}
use Rattle.outline_steps.specs.declared.Walk.{Walk}

-- ---- the walk
abbrev pub stroked : Stroke → Walk → Stroked
stroked d w = record { stroke = d; walk = w }

-- further on in the same contour
abbrev pub on_to : Walk → ℕ → Stage → Walk
on_to w at stage = record { contour = w.contour; past = w.past; at = at; stop = w.stop; from = w.from; to = w.to; stage = stage }

-- the off-curve point c waits, and `at` is next
unfoldable pub curve_from : Glyph → Walk → ℕ → ℕ → Stroked
curve_from g w c at =
    cond (ltb at w.stop)
    (cond (on g at)
    (stroked (curve_to (own g c) (own g at)) (on_to w (at + 1) Onward))
    (stroked (curve_to (own g c) (between g c at)) (on_to w (at + 1) (Waiting at))))
    (stroked (curve_to (own g c) (between g w.from w.to)) (on_to w at Onward))

-- no point waits
unfoldable pub onward_from : Glyph → Walk → Stroked
onward_from g w =
    cond (ltb w.at w.stop)
    (cond (on g w.at) (stroked (line_to (own g w.at)) (on_to w (w.at + 1) Onward)) (curve_from g w w.at (w.at + 1)))
    (stroked Close (on_to w w.at Between))

-- a contour begun at the midpoint of two points
abbrev pub begun_at : Glyph → Walk → ℕ → ℕ → ℕ → ℕ → ℕ → Stroked
begun_at g w last from to at stop =
    stroked (move_to (between g from to)) (record { contour = w.contour + 1; past = last + 1; at = at; stop = stop; from = from; to = to; stage = Onward })

unfoldable pub start_from : Glyph → Walk → ℕ → Stroked
start_from g w last =
    cond (leb last w.past)
    (begun_at g w last w.past w.past (last + 1) (last + 1))
    (cond (on g w.past)
    (begun_at g w last w.past w.past (w.past + 1) (last + 1))
    (cond (on g last)
    (begun_at g w last last last w.past last)
    (begun_at g w last w.past last w.past (last + 1))))

-- the next contour, where there is one
unfoldable pub next_contour : Glyph → Walk → Option Stroked
next_contour g w = cond (ltb w.contour (length g.contours)) (Some (start_from g w (get_or g.contours w.contour 0))) None

abbrev pub walk_by : Glyph → Walk → Stage → Option Stroked
walk_by g w Between = next_contour g w
walk_by g w Onward = Some (onward_from g w)
walk_by g w (Waiting c) = Some (curve_from g w c w.at)

abbrev pub walk_of : Glyph → Walk → Option Stroked
walk_of g w = walk_by g w w.stage

-- ---- the pen
abbrev pub asked : Result (Option Step) Refusal → Pen → Asked
asked told pen = record { told = told; pen = pen }

-- a step whose numbers are exact is handed out, and its points are in the box then; else, and at the end, the pen stays
abbrev pub handed : Pen → Option Stroked → Asked
handed p None = asked (Ok None) p
handed p (Some s) =
    cond (is_near s.stroke)
    (asked (Ok (Some (step_of s.stroke))) (record { walk = s.walk; bounds = drawn_by p.bounds (step_of s.stroke) }))
    (asked (Err Far) p)

unfoldable pub next_of : Glyph → Pen → Asked
next_of g p = handed p (walk_of g p.walk)

-- before the first contour
abbrev pub fresh : Pen
fresh = record { walk = record { contour = 0; past = 0; at = 0; stop = 0; from = 0; to = 0; stage = Between }; bounds = None }

abbrev pub begun_by : Entry → Result Pen Refusal
begun_by drawable = Ok fresh
begun_by (refused why) = Err why

abbrev pub begin_of : Glyph → Result Pen Refusal
begin_of g = begun_by (entry_of g)

-- ---- what n asks say, one after the other, and the pen behind them
abbrev pub asks : Glyph → Pen → ℕ → List (Result (Option Step) Refusal)
asks g p zero = []
asks g p (suc n) = (next_of g p).told ∷ asks g (next_of g p).pen n

abbrev pub pen_after : Glyph → Pen → ℕ → Pen
pen_after g p zero = p
pen_after g p (suc n) = pen_after g (next_of g p).pen n

-- n of these steps, and that there are no more for each ask behind the last
abbrev pub first_of : ℕ → List Stroke → List (Result (Option Step) Refusal)
first_of zero l = []
first_of (suc n) [] = (Ok None) ∷ first_of n []
first_of (suc n) (d ∷ l) = Ok (Some (step_of d)) ∷ first_of n l
