-- A pen, a step and a box in lent slots, and what the calls from C return and leave: document 02, K13, of lists, words and floats alone; 16 is "a word out of its range". Assumes nothing.
use Rattle.answer.specs.declared.Refusal.{Refusal}
use Rattle.outline_numbers.specs.declared.Edges.{Edges}
use Rattle.std.specs.Prelude.{ℕ, Bool, cond, ◌&&◌, List, [], ◌∷◌, eqb, leb, Float, length, get_or, Result, Ok, Err, Option, Some, None}
use Rattle.std.specs.Float.{nan, binary32}
use Rattle.std.specs.Float.Ieee.{of_bits}
use Rattle.answer.specs.Answer.{number_of}
use Rattle.outline_numbers.specs.declared.Step.{Step}
use Rattle.outline_numbers.specs.declared.Step.TheVariants.{Move, Line, Curve, Close}
use Rattle.outline_steps.specs.Outline.{Glyph}
use Rattle.outline_steps.specs.Pen.{begin_of, next_of}
use Rattle.outline_steps.specs.declared.Asked.{Asked}
use Rattle.outline_steps.specs.declared.Pen.{Pen}
use Rattle.outline_steps.specs.declared.Stage.{Stage}
use Rattle.outline_steps.specs.declared.Stage.TheVariants.{Between, Onward, Waiting}
use Rattle.outline_steps.specs.declared.Walk.{Walk}

-- ---- the pen in words: six of the walk, its stage, the point that waits, and whether there is a box
abbrev pub stage_in : ℕ → ℕ → Stage
stage_in number waiting = cond (eqb number 0) Between (cond (eqb number 1) Onward (Waiting waiting))

abbrev pub zero_float : Float
zero_float = of_bits binary32 0

abbrev pub edge : List Float → ℕ → Float
edge l i = get_or l i nan

abbrev pub bounds_in : ℕ → List Float → Option Edges
bounds_in boxed l = cond (eqb boxed 0) None (Some (record { left = edge l 0; bottom = edge l 1; right = edge l 2; top = edge l 3 }))

abbrev pub walk_in : List ℕ → Walk
walk_in l = record { contour = get_or l 0 0; past = get_or l 1 0; at = get_or l 2 0; stop = get_or l 3 0; from = get_or l 4 0; to = get_or l 5 0; stage = stage_in (get_or l 6 0) (get_or l 7 0) }

abbrev pub pen_in : List ℕ → List Float → Pen
pen_in l edges = record { walk = walk_in l; bounds = bounds_in (get_or l 8 0) edges }

unfoldable pub is_pen : List ℕ → Bool
is_pen l = eqb (length l) 9 && (leb (get_or l 6 0) 2 && leb (get_or l 8 0) 1)

abbrev pub stage_number : Stage → ℕ
stage_number Between = 0
stage_number Onward = 1
stage_number (Waiting at) = 2

abbrev pub waiting_number : Stage → ℕ
waiting_number Between = 0
waiting_number Onward = 0
waiting_number (Waiting at) = at

abbrev pub boxed_number : Option Edges → ℕ
boxed_number None = 0
boxed_number (Some e) = 1

abbrev pub words_of : Pen → List ℕ
words_of p =
    let w = p.walk in
    w.contour ∷ w.past ∷ w.at ∷ w.stop ∷ w.from ∷ w.to ∷ stage_number w.stage ∷ waiting_number w.stage ∷ boxed_number p.bounds ∷ []

-- left, bottom, right and top; as they were where there is no box
abbrev pub edges_left : List Float → Option Edges → List Float
edges_left old None = old
edges_left old (Some e) = e.left ∷ e.bottom ∷ e.right ∷ e.top ∷ []

-- ---- a step as a number and four floats, those that it hasn't 0
abbrev pub step_number : Step → ℕ
step_number (Move x y) = 1
step_number (Line x y) = 2
step_number (Curve cx cy x y) = 3
step_number Close = 4

abbrev pub numbers_of : Step → List Float
numbers_of (Move x y) = x ∷ y ∷ zero_float ∷ zero_float ∷ []
numbers_of (Line x y) = x ∷ y ∷ zero_float ∷ zero_float ∷ []
numbers_of (Curve cx cy x y) = cx ∷ cy ∷ x ∷ y ∷ []
numbers_of Close = zero_float ∷ zero_float ∷ zero_float ∷ zero_float ∷ []

-- ---- the calls
-- the number that is returned, and what every slot that can change holds afterwards
pub record Left : Type 0 where
  pub number : ℕ
  pub words : List ℕ
  pub edges : List Float
  pub step : List ℕ
  pub numbers : List Float

abbrev pub left : ℕ → List ℕ → List Float → List ℕ → List Float → Left
left number words edges step numbers = record { number = number; words = words; edges = edges; step = step; numbers = numbers }

abbrev pub bad_word : ℕ
bad_word = 16

unfoldable pub is_call : List ℕ → List Float → List ℕ → List Float → Bool
is_call words edges step numbers = is_pen words && (eqb (length edges) 4 && (eqb (length step) 1 && eqb (length numbers) 4))

-- the step is 0 where there are no more; a refusal leaves every slot as it was
abbrev pub left_by : List ℕ → List Float → List ℕ → List Float → Pen → Result (Option Step) Refusal → Left
left_by words edges step numbers p (Ok None) = left 0 words edges (0 ∷ []) numbers
left_by words edges step numbers p (Ok (Some s)) = left 0 (words_of p) (edges_left edges p.bounds) (step_number s ∷ []) (numbers_of s)
left_by words edges step numbers p (Err why) = left (number_of why) words edges step numbers

unfoldable pub next_call_of : Glyph → List ℕ → List Float → List ℕ → List Float → Left
next_call_of g words edges step numbers =
    let a = next_of g (pen_in words edges) in
    cond (is_call words edges step numbers) (left_by words edges step numbers a.pen a.told) (left bad_word words edges step numbers)

-- ---- the start
pub record Started : Type 0 where
  pub number : ℕ
  pub words : List ℕ

abbrev pub started : ℕ → List ℕ → Started
started number words = record { number = number; words = words }

abbrev pub started_by : List ℕ → Result Pen Refusal → Started
started_by words (Ok p) = started 0 (words_of p)
started_by words (Err why) = started (number_of why) words

unfoldable pub begin_call_of : Glyph → List ℕ → Started
begin_call_of g words = cond (eqb (length words) 9) (started_by words (begin_of g)) (started bad_word words)
