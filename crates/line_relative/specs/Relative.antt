-- The steps of the lines that bring a point of zp1 to a distance from rp0 of zp0, MSIRP, MDRP and MIRP: OpenType's instructions of these names, and FreeType 2.13.3,
-- ttinterp.c (Ins_MSIRP, Ins_MDRP, Ins_MIRP). The Rust decides which of the two points is looked at first. Assumes nothing.
use Rattle.std.specs.Prelude.{ℕ, Bool, cond}
use Rattle.answer.specs.declared.Refusal.{Refusal}
use Rattle.graphics.specs.State.{rp0_at, rp1_at, rp2_at, with_references}
use Rattle.graphics.specs.declared.GraphicsState.{GraphicsState}
use Rattle.graphics.specs.declared.References.{References}
use Rattle.graphics.specs.declared.ZonePointer.TheVariants.{Glyph, Twilight}
use Rattle.graphics.specs.declared.ZonePointer.{ZonePointer}
use Rattle.line.specs.World.{Lined, World}
use Rattle.line_steps.specs.Steps.{done_in, in_state, refused_in, there_or}

-- whether both points are there, or what the line does without: rp0 first where the point is in twilight, else the point
unfoldable pub both_there : ℕ → World → (Refusal → Lined) → Lined → ZonePointer → Lined
both_there at w out rest Glyph = there_or Glyph at w out (there_or w.state.pointers.zp0 w.state.references.rp0 w out rest)
both_there at w out rest Twilight = there_or w.state.pointers.zp0 w.state.references.rp0 w out (there_or Twilight at w out rest)

-- rp1 becomes what rp0 is, and rp2 the point; rp0 becomes the point where the opcode says so
abbrev pub rp1_and_rp2 : ℕ → GraphicsState → References
rp1_and_rp2 at s = rp2_at (rp1_at s.references s.references.rp0) at

unfoldable pub related_by : Bool → ℕ → GraphicsState → GraphicsState
related_by sets at s = cond sets (with_references s (rp0_at (rp1_and_rp2 at s) at)) (with_references s (rp1_and_rp2 at s))

abbrev pub related : Bool → ℕ → World → World
related sets at w = in_state w (related_by sets at w.state)

-- refused if pedantic, else the references are set all the same
unfoldable pub related_or : Bool → ℕ → World → Refusal → Lined
related_or sets at w why = cond w.state.facts.pedantic (refused_in w why) (done_in (related sets at w))
