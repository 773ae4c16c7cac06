-- `line_alignpts::alignpts` meets its contract: by whether both operands are there and what the two places give, in any world that holds the lists lent. Assumes nothing.
use mathlib.Core.List.{List}
use mathlib.Core.Path.{ap}
use native.Mathlib.Omega.{arith}
use lib.IntN.{ℤ}
use Rattle.int.proofs.Words.{back32}
use Rattle.line.specs.World.{World, world}
use Rattle.line_steps.proofs.Laws.{in_words}
use Rattle.line_steps.specs.Steps.{into}
use Rattle.line_alignpts.proofs.Cases.{alignpts_missing, alignpts_moved, alignpts_out}
use Rattle.line_alignpts.proofs.alignpts.Goals as goal
use Rattle.line_alignpts.proofs.alignpts.Goals.{Start}

-- ---- places of the walk, found by their types
abbrev entry : Start → List ℤ → List ℤ → World
entry s tox toy = let a = s.args in
    world a.s a.gx.now a.gy.now a.gflags.now tox toy a.tx.now a.ty.now a.tflags.now

pub returns-then-operands-lt2 : goal.returns-then-operands-lt2
returns-then-operands-lt2 c = λ f opcode tox toy. alignpts_missing f opcode c.args.operands.now (entry (goal.at.returns-then-operands-lt2 c).Start tox toy) c.if-operands-lt2.true (ap (into (entry (goal.at.returns-then-operands-lt2 c).Start tox toy)) c.refused.ensures)

pub fetch_in-there-requires : goal.fetch_in-there-requires
fetch_in-there-requires c = (c.requires.0, c.requires.2)

pub fetch_in-here-requires : goal.fetch_in-here-requires
fetch_in-here-requires c = (c.requires.0, c.requires.2)

pub move_both-call-requires : goal.move_both-call-requires
move_both-call-requires c = c.requires

pub returns-in-Err : goal.returns-in-Err
returns-in-Err c = λ f opcode tox toy. alignpts_out f opcode c.args.operands.now (entry (goal.at.returns-in-Err c).Start tox toy) c.if-operands-lt2.false c.index_at-first.ensures c.index_at-second.ensures c.fetch_in-there.ensures c.fetch_in-here.ensures
    c.half_apart-apart.ensures c.in-Err.is (ap (into (entry (goal.at.returns-in-Err c).Start tox toy)) c.refused-in-Err.ensures)

pub returns-in-Ok : goal.returns-in-Ok
returns-in-Ok c = λ f opcode tox toy. in_words c.by_words.ensures (alignpts_moved f opcode c.args.operands.now (entry (goal.at.returns-in-Ok c).Start tox toy) c.if-operands-lt2.false c.index_at-first.ensures c.index_at-second.ensures c.fetch_in-there.ensures c.fetch_in-here.ensures
    c.half_apart-apart.ensures c.in-Ok.is (back32 _ (omega (arith, c.in-Ok.known_told-in-Ok-1-own.given))) (c.move_both-call.ensures tox toy))
