-- `line_flip::flip_one` meets its contract: by whether there is an operand and whether points are held fast. Assumes nothing.
use Prim.Native.Nat.{ℕ}
use mathlib.Core.Bool.{Bool}
use mathlib.Core.List.{List}
use mathlib.Core.Path.{ap, sym, ◌∙◌}
use lib.IntN.{pos}
use lib.ListN.{get_or}
use Rattle.line_steps.proofs.Walk.{once_missing, once_there, read}
use Rattle.line_steps.specs.Loop.{Ended, each, pass}
use Rattle.zone.specs.Zone.{flip_of}
use Rattle.line_flip.specs.Steps.{flags_left, flip_at, flip_unless}
use Rattle.line_flip.proofs.flip_one.Goals as goal
use Rattle.line_flip.proofs.flip_one.Goals.{Start}

-- by what is held, as it was tested
abbrev flips : Start → Bool → Ended (List ℕ)
flips s held = each (flip_unless held) 1 s.args.operands.now s.args.gflags.now

pub returns-then-operands-eq0 : goal.returns-then-operands-eq0
returns-then-operands-eq0 c = let a = c.args in once_missing (flip_unless a.held) a.operands.now a.gflags.now c.if-operands-eq0.true

pub returns-then-held : goal.returns-then-held
returns-then-held c = let a = c.args in
    once_there pass a.operands.now a.gflags.now c.if-operands-eq0.false ∙ sym (ap (flips (goal.at.returns-then-held c).Start) c.if-held.true)

pub returns-else-held : goal.returns-else-held
returns-else-held c = let a = c.args in
    ap flags_left (c.flip_on_curve.ensures ∙ ap (flip_of a.gflags.now) (read (get_or a.operands.now 0 (pos 0)) c.as_index-arg-1.given c.as_index.ensures))
    ∙ once_there flip_at a.operands.now a.gflags.now c.if-operands-eq0.false ∙ sym (ap (flips (goal.at.returns-else-held c).Start) c.if-held.false)
