-- `opcodes::decode` meets its contract: each answer is the law of `Lines` for the tests that led there. Assumes nothing.
use mathlib.Core.Path.{◌≡◌, sym, ap, ◌∙◌, subst}
use Prim.Native.Nat.{ℕ, ◌+◌, ◌^◌, ◌≤◌, ◌<◌}
use lib.IntN.{ℤ, pos}
use lib.Signed.{mag}
use lib.ListN.{get_or}
use mir.Syntax.{w32}
use mir.Val.{to_z, of_z}
use Rattle.int.proofs.Words.{back32}
use Rattle.int.specs.Word.{index_of}
use Rattle.opcodes.proofs.Entries.{takes_back}
use Rattle.opcodes.proofs.Lines.{whole, past_end, no_opcode, not_known, no_count, too_long, too_many}
use Rattle.opcodes.specs.Steps.{takes_by}
use Rattle.opcodes.specs.Table.{need_of, operands_of, row_of, unknown}
use Rattle.opcodes.proofs.decode.Goals as goal
use Rattle.opcodes.proofs.decode.Goals.{After-as_index-count, After-as_index-opcode, After-takes_operands, Else-wants}

-- an element as an index, read back
read : (z : ℤ) (n : ℕ) → mag z < 2 ^ 31 → n ≡ index_of (to_z w32 (of_z w32 z)) → n ≡ index_of z
read z n f e = e ∙ ap index_of (back32 z f)

-- the word, as it was read
op_is : (o : After-as_index-opcode) → let a = o.args in o.as_index-opcode.result ≡ index_of (get_or a.sheet.now a.at (pos 0))
op_is o = let a = o.args in read (get_or a.sheet.now a.at (pos 0)) _ o.as_index-arg-1.given o.as_index-opcode.ensures

-- the count word
count_is : (k : After-as_index-count) → let a = k.args in k.as_index-count.result ≡ index_of (get_or a.sheet.now (a.at + 1) (pos 0))
count_is k = let a = k.args in read (get_or a.sheet.now (a.at + 1) (pos 0)) _ k.as_index-arg-2-1.given k.as_index-count.ensures

-- the opcode is a known one
known : (c : Else-wants) → need_of c.as_index-opcode.result ≡ unknown → ⊥
known c q = c.if-wants.false (c.need_of-wants.ensures ∙ q)

-- how many operands it takes
takes_is : (c : After-takes_operands) → c.takes_operands.result ≡ operands_of (row_of c.as_index-opcode.result).takes c.args.loop_counter
takes_is c =
    c.takes_operands.ensures ∙ ap (λ (m : ℕ). takes_by m c.args.loop_counter) c.need_of-wants.ensures
    ∙ takes_back c.as_index-opcode.result (λ q. c.if-wants.false (c.need_of-wants.ensures ∙ q)) c.args.loop_counter

pub returns-then-sheet-at : goal.returns-then-sheet-at
returns-then-sheet-at c = let a = c.args in sym (past_end a.sheet.now a.loop_counter a.at c.if-sheet-at.true)

pub returns-then-opcode-gt255 : goal.returns-then-opcode-gt255
returns-then-opcode-gt255 c = let a = c.args in
    sym (no_opcode a.sheet.now a.loop_counter a.at c.as_index-opcode.result c.if-sheet-at.false (op_is (goal.at.returns-then-opcode-gt255 c).After-as_index-opcode) c.if-opcode-gt255.true)

pub returns-then-wants : goal.returns-then-wants
returns-then-wants c = let a = c.args in
    sym (not_known a.sheet.now a.loop_counter a.at c.as_index-opcode.result c.if-sheet-at.false (op_is (goal.at.returns-then-wants c).After-as_index-opcode) c.if-opcode-gt255.false (sym c.need_of-wants.ensures ∙ c.if-wants.true))

pub returns-then-sheet-first : goal.returns-then-sheet-first
returns-then-sheet-first c = let a = c.args in
    sym (no_count a.sheet.now a.loop_counter a.at c.as_index-opcode.result c.if-sheet-at.false (op_is (goal.at.returns-then-sheet-first c).After-as_index-opcode) c.if-opcode-gt255.false (known (goal.at.returns-then-sheet-first c).Else-wants) c.if-sheet-first.true)

pub returns-then-sheet-first-2 : goal.returns-then-sheet-first-2
returns-then-sheet-first-2 c = let a = c.args in
    sym (too_long a.sheet.now a.loop_counter a.at c.as_index-opcode.result c.if-sheet-at.false (op_is (goal.at.returns-then-sheet-first-2 c).After-as_index-opcode) c.if-opcode-gt255.false (known (goal.at.returns-then-sheet-first-2 c).Else-wants) c.as_index-count.result c.if-sheet-first.false (count_is (goal.at.returns-then-sheet-first-2 c).After-as_index-count) c.if-sheet-first-2.true)

pub returns-then-takes_operands-count : goal.returns-then-takes_operands-count
returns-then-takes_operands-count c = let a = c.args in
    sym (too_many a.sheet.now a.loop_counter a.at c.as_index-opcode.result c.if-sheet-at.false (op_is (goal.at.returns-then-takes_operands-count c).After-as_index-opcode) c.if-opcode-gt255.false (known (goal.at.returns-then-takes_operands-count c).Else-wants) c.as_index-count.result c.if-sheet-first.false (count_is (goal.at.returns-then-takes_operands-count c).After-as_index-count) c.if-sheet-first-2.false (subst (λ (n : ℕ). n < c.as_index-count.result) (takes_is (goal.at.returns-then-takes_operands-count c).After-takes_operands) c.if-takes_operands-count.true))

pub returns : goal.returns
returns c = let a = c.args in
    sym (whole a.sheet.now a.loop_counter a.at c.as_index-opcode.result c.if-sheet-at.false (op_is (goal.at.returns c).After-as_index-opcode) c.if-opcode-gt255.false (known (goal.at.returns c).Else-wants) c.as_index-count.result c.if-sheet-first.false (count_is (goal.at.returns c).After-as_index-count) c.if-sheet-first-2.false (subst (λ (n : ℕ). c.as_index-count.result ≤ n) (takes_is (goal.at.returns c).After-takes_operands) c.if-takes_operands-count.false))
