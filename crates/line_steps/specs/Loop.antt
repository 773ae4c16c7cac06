-- The loop of a looped line as private functions say it, over whatever a line works on. Nobody need believe this: `each_in` of Steps.antt is what a line
-- is held to, and proofs/Bridge.antt says that the two are one. Assumes nothing.
use Rattle.answer.specs.declared.Refusal.{Refusal}
use Rattle.std.specs.Prelude.{ℕ, zero, suc, cond, List, [], ◌∷◌, ltb, ℤ, length, ⊤, Result, Ok, Err}
use Rattle.answer.specs.declared.Refusal.TheVariants.{Missing}
use Rattle.graphics.specs.declared.ZonePointer.TheVariants.{Glyph, Twilight}
use Rattle.graphics.specs.declared.ZonePointer.{ZonePointer}
use Rattle.int.specs.Word.{index_of}
use Rattle.moves.specs.Apply.{Moved, apply_of}
use Rattle.moves.specs.Move.{is_idle}
use Rattle.moves.specs.declared.Move.{Move}

-- what was said, and what is left of the thing worked on
pub record Ended (S : Type 0) : Type 0 where
  pub call : Result ⊤ Refusal
  pub left : S

abbrev pub ended : {S : Type 0} → Result ⊤ Refusal → S → Ended S
ended call left = record { call = call; left = left }

-- the rest, unless a step was refused
unfoldable pub onward : {S : Type 0} → (S → Ended S) → S → Result ⊤ Refusal → Ended S
onward rest left (Ok tt) = rest left
onward rest left (Err why) = ended (Err why) left

-- as many steps as the counter says, each on the next operand, widened with its sign
unfoldable pub each : {S : Type 0} → (ℕ → S → Ended S) → ℕ → List ℤ → S → Ended S
each f zero operands s = ended (Ok tt) s
each f (suc n) [] s = ended (Err Missing) s
each f (suc n) (z ∷ rest) s = onward (each f n rest) (f (index_of z) s).left (f (index_of z) s).call

-- a step that takes its operand and looks at nothing
abbrev pub pass : {S : Type 0} → ℕ → S → Ended S
pass at s = ended (Ok tt) s

-- what a line of such steps says: whether the operands suffice
abbrev pub take_of : ℕ → List ℤ → Result ⊤ Refusal
take_of count operands = cond (ltb (length operands) count) (Err Missing) (Ok tt)

-- ---- the lists that points are moved in
pub record Points : Type 0 where
  pub xs : List ℤ
  pub ys : List ℤ
  pub flags : List ℕ

abbrev pub points : List ℤ → List ℤ → List ℕ → Points
points xs ys flags = record { xs = xs; ys = ys; flags = flags }

pub record Zones : Type 0 where
  pub glyph : Points
  pub twilight : Points

abbrev pub zones : List ℤ → List ℤ → List ℕ → List ℤ → List ℤ → List ℕ → Zones
zones gx gy gflags tx ty tflags = record { glyph = points gx gy gflags; twilight = points tx ty tflags }

-- ---- points of one of them
abbrev pub glyph_left : Points → Ended Points → Ended Zones
glyph_left twilight e = ended e.call (record { glyph = e.left; twilight = twilight })

abbrev pub twilight_left : Points → Ended Points → Ended Zones
twilight_left glyph e = ended e.call (record { glyph = glyph; twilight = e.left })

-- what is done to the points of the zone that a pointer names
unfoldable pub in_zone : (Points → Ended Points) → Zones → ZonePointer → Ended Zones
in_zone f z Glyph = glyph_left z.twilight (f z.glyph)
in_zone f z Twilight = twilight_left z.glyph (f z.twilight)

-- ---- a point shifted by a move
abbrev pub points_left : Moved → Ended Points
points_left m = ended m.call (points m.xs m.ys m.flags)

abbrev pub shift_at : Move → ℕ → Points → Ended Points
shift_at m at p = points_left (apply_of m at p.xs p.ys p.flags)

-- a move that does nothing looks at no point
abbrev pub shift_unless_idle : Move → ℕ → Points → Ended Points
shift_unless_idle m = cond (is_idle m) pass (shift_at m)
