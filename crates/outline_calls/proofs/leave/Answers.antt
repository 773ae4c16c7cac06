-- `outline_calls::leave` meets its contract: by what was told. Assumes nothing.
use Rattle.std.specs.Prelude.{Ok}
use mathlib.Core.Path.{ap, ◌∙◌}
use native.Mathlib.Omega.{arith}
use Rattle.outline_calls.proofs.Cases.{one_set, nine_words, four_edges, one_step, four_numbers, left_none, left_drawn, left_refused}
use Rattle.outline_calls.proofs.leave.Goals as goal

-- src/lib.rt:229:13
pub bounds-step-0 : goal.bounds-step-0
bounds-step-0 c = let a = c.args in
    omega (arith, one_step a.words.now a.edges.now a.step.now a.numbers.now c.requires)

-- src/lib.rt:235:13
pub write_pen-requires : goal.write_pen-requires
write_pen-requires c = let a = c.args in
    nine_words a.words.now a.edges.now a.step.now a.numbers.now c.requires

-- src/lib.rt:236:13
pub write_edges-requires : goal.write_edges-requires
write_edges-requires c = let a = c.args in
    four_edges a.words.now a.edges.now a.step.now a.numbers.now c.requires

-- src/lib.rt:237:13
pub write_step-requires : goal.write_step-requires
write_step-requires c = let a = c.args in
    one_step a.words.now a.edges.now a.step.now a.numbers.now c.requires

-- src/lib.rt:238:13
pub write_numbers-requires : goal.write_numbers-requires
write_numbers-requires c = let a = c.args in
    four_numbers a.words.now a.edges.now a.step.now a.numbers.now c.requires

-- src/lib.rt:216:1
pub returns-in-None : goal.returns-in-None
returns-in-None c = let a = c.args in
    left_none a.words.now a.edges.now a.step.now a.numbers.now a.asked (c.in-Ok.is ∙ ap Ok c.in-None.is) (one_set a.step.now 0 (one_step a.words.now a.edges.now a.step.now a.numbers.now c.requires))

-- src/lib.rt:216:1
pub returns-in-Some : goal.returns-in-Some
returns-in-Some c = let a = c.args in
    left_drawn a.words.now a.edges.now a.step.now a.numbers.now a.asked (c.in-Ok.is ∙ ap Ok c.in-Some.is) c.write_pen.ensures c.write_edges.ensures c.write_step.ensures c.write_numbers.ensures

-- src/lib.rt:216:1
pub returns-in-Err : goal.returns-in-Err
returns-in-Err c = let a = c.args in
    left_refused a.words.now a.edges.now a.step.now a.numbers.now a.asked c.in-Err.is c.number.ensures
