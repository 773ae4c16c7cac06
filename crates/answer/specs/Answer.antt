-- The number and the detail of each refusal, and what a direct call says: document 01, "What the replayer says back"; 12, 13, 14
-- and 19 are document 02's, K1, K8 and K13. Assumes nothing.
use Rattle.std.specs.Prelude.{ℕ, Result, Ok, Err}
use Rattle.answer.specs.declared.Refusal.{Refusal}
use Rattle.answer.specs.declared.Refusal.TheVariants.{Sizes, State, Line, Surplus, Missing, Point, ControlValue, ZonePointer, LoopCount, Range, Contour, Compatibility, Ends, Far}

abbrev pub number_of : Refusal → ℕ
number_of Sizes = 2
number_of State = 3
number_of Line = 4
number_of Surplus = 5
number_of Missing = 6
number_of (Point at) = 7
number_of (ControlValue at) = 8
number_of (ZonePointer operand) = 9
number_of (LoopCount operand) = 10
number_of (Range start) = 11
number_of (Contour at) = 12
number_of Compatibility = 13
number_of Ends = 14
number_of Far = 19

-- an index or an operand, widened with its sign to 64 bits; 0 where the paper names none
abbrev pub detail_of : Refusal → ℕ
detail_of Sizes = 0
detail_of State = 0
detail_of Line = 0
detail_of Surplus = 0
detail_of Missing = 0
detail_of (Point at) = at
detail_of (ControlValue at) = at
detail_of (ZonePointer operand) = operand
detail_of (LoopCount operand) = operand
detail_of (Range start) = start
detail_of (Contour at) = at
detail_of Compatibility = 0
detail_of Ends = 0
detail_of Far = 0

-- ---- what a direct call says
pub record Said : Type 0 where
  pub number : ℕ
  pub place : ℕ
  pub lines : ℕ
  pub detail : ℕ

-- "with place and lines 0"
abbrev pub said_directly : ℕ → ℕ → Said
said_directly number detail = record { number = number; place = 0; lines = 0; detail = detail }

abbrev pub said_done : Said
said_done = said_directly 0 0

abbrev pub said_by : Refusal → Said
said_by why = said_directly (number_of why) (detail_of why)

-- of a call, whatever it gives back
abbrev pub said_of : {T : Type 0} → Result T Refusal → Said
said_of (Ok given) = said_done
said_of (Err why) = said_by why
