-- An outline as text, in ASCII: a step a line, its numbers as exact decimals of pixels, and the box on the last line; or why there is none. Assumes nothing.
use Rattle.std.specs.Prelude.{ℕ, zero, suc, ◌+◌, ◌*◌, ◌/◌, ◌%◌, cond, true, ◌≡◌, List, [], ◌∷◌, ◌++◌, eqb, ℤ, pos, negsuc, nat_abs, Option, Some, None}
use Rattle.answer.specs.Answer.{number_of}
use Rattle.outline_numbers.specs.Drawing.{Box, Extent, none, box, extent_of, lesser_z, greater_z, near}
use Rattle.outline_numbers.specs.declared.Stroke.{Stroke}
use Rattle.outline_numbers.specs.declared.Stroke.TheVariants.{Move, Line, Curve, Close}
use Rattle.outline_print.specs.declared.Frame.{Frame}
use Rattle.outline_steps.specs.Outline.{Glyph, Entry, drawable, refused, entry_of, steps_of}
use Rattle.record_print.specs.Text.{decimal, sign_of}

-- ---- a number of 128ths
-- the digits of r / 128 behind the point, r below 128: ten times the rest, digit by digit, until nothing is left. 128 divides 10 ^ 7, so seven do
abbrev pub tail_by : ℕ → ℕ → List ℕ
tail_by zero r = []
tail_by (suc n) r = cond (eqb r 0) [] ((48 + r * 10 / 128) ∷ tail_by n (r * 10 % 128))

unfoldable pub tail_of : ℕ → List ℕ
tail_of r = tail_by 7 r

-- `.` is 46, and stands only before a digit
unfoldable pub pointed : ℕ → List ℕ
pointed r = cond (eqb r 0) [] (46 ∷ tail_of r)

unfoldable pub size_text : ℕ → List ℕ
size_text n = decimal (n / 128) ++ pointed (n % 128)

unfoldable pub fraction : ℤ → List ℕ
fraction z = sign_of z ++ size_text (nat_abs z)

-- ---- lines: a space is 32, a newline 10
abbrev pub ended : List ℕ → ℕ → List ℕ
ended t end = t ++ (end ∷ [])

-- two numbers, the last of their line
unfoldable pub place_text : ℤ → ℤ → List ℕ
place_text x y = ended (fraction x) 32 ++ ended (fraction y) 10

unfoldable pub places_text : ℤ → ℤ → ℤ → ℤ → List ℕ
places_text a b x y = ended (fraction a) 32 ++ (ended (fraction b) 32 ++ place_text x y)

-- `move X Y`, `line X Y`, `curve CX CY X Y` and `close`
unfoldable pub stroke_line : Stroke → List ℕ
stroke_line (Move x y) = (109 ∷ 111 ∷ 118 ∷ 101 ∷ 32 ∷ []) ++ place_text x y
stroke_line (Line x y) = (108 ∷ 105 ∷ 110 ∷ 101 ∷ 32 ∷ []) ++ place_text x y
stroke_line (Curve cx cy x y) = (99 ∷ 117 ∷ 114 ∷ 118 ∷ 101 ∷ 32 ∷ []) ++ places_text cx cy x y
stroke_line Close = 99 ∷ 108 ∷ 111 ∷ 115 ∷ 101 ∷ 10 ∷ []

abbrev pub stroke_lines : List Stroke → List ℕ
stroke_lines [] = []
stroke_lines (d ∷ ds) = stroke_line d ++ stroke_lines ds

-- ---- the box, `box L B R T` or `box none`
abbrev pub frame_box : Frame → Box
frame_box e = record { left = e.left; bottom = e.bottom; right = e.right; top = e.top }

abbrev pub extent_in : Option Frame → Extent
extent_in None = none
extent_in (Some e) = box (frame_box e)

abbrev pub grown_to : Frame → ℤ → ℤ → Frame
grown_to e x y = record { left = lesser_z x e.left; bottom = lesser_z y e.bottom; right = greater_z x e.right; top = greater_z y e.top }

unfoldable pub box_line : Extent → List ℕ
box_line none = 98 ∷ 111 ∷ 120 ∷ 32 ∷ 110 ∷ 111 ∷ 110 ∷ 101 ∷ 10 ∷ []
box_line (box k) = (98 ∷ 111 ∷ 120 ∷ 32 ∷ []) ++ places_text k.left k.bottom k.right k.top

-- every edge is near
abbrev pub AllNear : Extent → Type 0
AllNear none = Unit {0}
AllNear (box k) = (near k.left ≡ true) × (near k.bottom ≡ true) × (near k.right ≡ true) × (near k.top ≡ true)

-- ---- an outline: a step a line, and the box behind them
unfoldable pub outline_text : Glyph → List ℕ
outline_text g = stroke_lines (steps_of g) ++ box_line (extent_of (steps_of g))

-- `outline ` and the number of the answer
abbrev pub refusal_line : ℕ → List ℕ
refusal_line n = (111 ∷ 117 ∷ 116 ∷ 108 ∷ 105 ∷ 110 ∷ 101 ∷ 32 ∷ []) ++ ended (decimal n) 10

abbrev pub text_by : Glyph → Entry → List ℕ
text_by g drawable = outline_text g
text_by g (refused why) = refusal_line (number_of why)

unfoldable pub glyph_text : Glyph → List ℕ
glyph_text g = text_by g (entry_of g)
