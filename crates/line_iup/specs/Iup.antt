-- IUP[a] (0x30 y, 0x31 x): interpolates the glyph's points that aren't touched, on one axis. Pops nothing. OpenType's IUP, and FreeType 2.13.3, ttinterp.c (Ins_IUP): under
-- backward compatibility nothing once both axes are marked, and otherwise the line's own mark; without it the marks are neither read nor set. The walk is the crate
-- iup's, and no line of it is refused. Assumes nothing.
use Rattle.std.specs.Prelude.{ℕ, Bool, cond, false, true, List, ℤ}
use Rattle.graphics.specs.State.{marked_x, marked_y, past_both_iups, with_facts}
use Rattle.graphics.specs.declared.GraphicsState.{GraphicsState}
use Rattle.iup.specs.Iup.{iup_of}
use Rattle.line_steps.specs.Steps.{done_in, in_state}
use Rattle.line.specs.Operands.{is_odd}
use Rattle.flags.specs.declared.Axis.TheVariants.{X, Y}
use Rattle.line.specs.World.{Fixed, Lined, World, world}

-- the mark of the opcode's axis, set under backward compatibility alone
unfoldable pub marked_for : GraphicsState → ℕ → GraphicsState
marked_for s opcode =
    cond s.facts.backward_compatibility
    (cond (is_odd opcode) (with_facts s (marked_x s.facts)) (with_facts s (marked_y s.facts)))
    s

-- ---- the walk on one axis
abbrev pub with_x : World → List ℤ → World
with_x w gx = world w.state gx w.gy w.gflags w.tox w.toy w.tx w.ty w.tflags

abbrev pub with_y : World → List ℤ → World
with_y w gy = world w.state w.gx gy w.gflags w.tox w.toy w.tx w.ty w.tflags

abbrev pub walked_in : Fixed → World → Bool → World
walked_in f w true = with_x w (iup_of X w.gflags f.contours f.gux f.gox w.gx)
walked_in f w false = with_y w (iup_of Y w.gflags f.contours f.guy f.goy w.gy)

unfoldable pub iup_line_of : Fixed → ℕ → List ℤ → World → Lined
iup_line_of f opcode operands w =
    done_in (cond (past_both_iups w.state.facts) w (walked_in f (in_state w (marked_for w.state opcode)) (is_odd opcode)))
