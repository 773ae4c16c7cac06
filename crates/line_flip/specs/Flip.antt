-- FLIPPT[] (0x80), FLIPRGON[] (0x81), FLIPRGOFF[] (0x82): points of the glyph set on the curve or off it. OpenType's instructions of these names, and FreeType 2.13.3,
-- ttinterp.c (Ins_FLIPPT, Ins_FLIPRGON, Ins_FLIPRGOFF), which give up past both IUPs before they take an operand; the Rust takes them, and of what they say looks at a
-- high point of -1 alone.
-- Assumes nothing.
use Rattle.std.specs.Prelude.{ℕ, suc, Bool, ◌&&◌, cond, not, List, eqb, ℤ}
use Rattle.graphics.specs.State.{past_both_iups}
use Rattle.graphics.specs.declared.Facts.{Facts}
use Rattle.int.specs.Word.{index_of}
use Rattle.line_steps.specs.Steps.{done_in, flags_in, looped, two}
use Rattle.line.specs.Operands.{is_odd}
use Rattle.line.specs.World.{Fixed, Lined, World}
use Rattle.zone.specs.Zone.{Marked, flip_of, set_on_curve_of}

-- ---- FLIPPT: on curve to off curve and back. Pops as many points as the loop counter says, which is 1 afterwards. Refusals, at each point: a missing operand, the
-- point; the points before it stay flipped. FreeType skips a bad point where it isn't pedantic, and flips none where operands are missing
unfoldable pub flip_point : ℤ → World → Lined
flip_point point w = cond (past_both_iups w.state.facts) (done_in w) (flags_in w (flip_of w.gflags (index_of point)))

unfoldable pub flippt_of : Fixed → ℕ → List ℤ → World → Lined
flippt_of f opcode operands w = looped operands w flip_point

-- ---- FLIPRGON and FLIPRGOFF: pop the high point, then the low one, both of the range. Refusals: a missing operand; a range that ends outside or before its start is
-- answer 11 by document 02, K1, a negative operand being beyond every point. Low above high by one is an empty range
abbrev pub set_through : List ℕ → ℕ → ℕ → Bool → Marked
set_through flags low high on = set_on_curve_of flags low (suc high) on

-- -1 as an index, the end of whose range is no 64-bit number: it is outside past both IUPs too, where the Rust refuses it with 7
abbrev pub last_index : ℕ
last_index = 0xFFFFFFFFFFFFFFFF

unfoldable pub held_fast : Facts → ℕ → Bool
held_fast facts high = not (eqb high last_index) && past_both_iups facts

unfoldable pub fliprg_of : Fixed → ℕ → List ℤ → World → Lined
fliprg_of f opcode operands w =
    two operands w λ high low.
    cond (held_fast w.state.facts (index_of high)) (done_in w) (flags_in w (set_through w.gflags (index_of low) (index_of high) (is_odd opcode)))
