-- `feed_look::look` meets its contract: each answer is the law of `Looks` for the tests that led there. Assumes nothing.
use mathlib.Core.Path.{◌≡◌, ap, sym, ◌∙◌}
use Prim.Native.Nat.{ℕ, ◌^◌, ◌≤◌, ◌<◌}
use lib.IntN.{ℤ, pos}
use lib.Signed.{mag}
use lib.ListN.{get_or, length}
use mir.Syntax.{w32}
use mir.Val.{to_z, of_z}
use Rattle.int.proofs.Words.{back32}
use Rattle.int.specs.Word.{index_of}
use Rattle.opcodes.specs.Table.{need_of, unknown}
use Rattle.feed_look.proofs.Looks.{all, by_both, by_opcode, no_count, no_opcode, no_word, not_all, not_known, too_long}
use Rattle.feed_look.proofs.look.Goals as goal
use Rattle.feed_look.proofs.look.Goals.{After-as_index-count, After-as_index-opcode, Else-wants}

-- an element as an index, read back
read : (z : ℤ) (n : ℕ) → mag z < 2 ^ 31 → n ≡ index_of (to_z w32 (of_z w32 z)) → n ≡ index_of z
read z n f e = e ∙ ap index_of (back32 z f)

op_is : (o : After-as_index-opcode) → o.as_index-opcode.result ≡ index_of (get_or o.args.words.now 0 (pos 0))
op_is o = read (get_or o.args.words.now 0 (pos 0)) _ o.as_index-arg-1.given o.as_index-opcode.ensures

count_is : (k : After-as_index-count) → k.as_index-count.result ≡ index_of (get_or k.args.words.now 1 (pos 0))
count_is k = read (get_or k.args.words.now 1 (pos 0)) _ k.as_index-arg-2-1.given k.as_index-count.ensures

known : (c : Else-wants) → need_of c.as_index-opcode.result ≡ unknown → ⊥
known c q = c.if-wants.false (c.need_of-wants.ensures ∙ q)

some : (o : After-as_index-opcode) → 1 ≤ length o.args.words.now
some o = o.if-words-lt1.false

pub returns-then-words-lt1 : goal.returns-then-words-lt1
returns-then-words-lt1 c = sym (no_word (length c.args.words.now) _ _ c.if-words-lt1.true)

pub returns-then-opcode-gt255 : goal.returns-then-opcode-gt255
returns-then-opcode-gt255 c = let l = c.args.words.now in
    sym (no_opcode (length l) c.as_index-opcode.result _ (some (goal.at.returns-then-opcode-gt255 c).After-as_index-opcode) c.if-opcode-gt255.true) ∙ by_opcode l (op_is (goal.at.returns-then-opcode-gt255 c).After-as_index-opcode)

pub returns-then-wants : goal.returns-then-wants
returns-then-wants c = let l = c.args.words.now in
    sym (not_known (length l) c.as_index-opcode.result _ (some (goal.at.returns-then-wants c).After-as_index-opcode) c.if-opcode-gt255.false (sym c.need_of-wants.ensures ∙ c.if-wants.true)) ∙ by_opcode l (op_is (goal.at.returns-then-wants c).After-as_index-opcode)

pub returns-then-words-lt2 : goal.returns-then-words-lt2
returns-then-words-lt2 c = let l = c.args.words.now in
    sym (no_count (length l) c.as_index-opcode.result _ (some (goal.at.returns-then-words-lt2 c).After-as_index-opcode) c.if-opcode-gt255.false (known (goal.at.returns-then-words-lt2 c).Else-wants) c.if-words-lt2.true) ∙ by_opcode l (op_is (goal.at.returns-then-words-lt2 c).After-as_index-opcode)

pub returns-then-count-gt-OPERANDS : goal.returns-then-count-gt-OPERANDS
returns-then-count-gt-OPERANDS c = let l = c.args.words.now in
    c.long.ensures
    ∙ sym (too_long (length l) c.as_index-opcode.result c.as_index-count.result (some (goal.at.returns-then-count-gt-OPERANDS c).After-as_index-opcode) c.if-opcode-gt255.false (known (goal.at.returns-then-count-gt-OPERANDS c).Else-wants) c.if-words-lt2.false c.if-count-gt-OPERANDS.true)
    ∙ by_both l (op_is (goal.at.returns-then-count-gt-OPERANDS c).After-as_index-opcode) (count_is (goal.at.returns-then-count-gt-OPERANDS c).After-as_index-count)

pub returns-then-words-whole : goal.returns-then-words-whole
returns-then-words-whole c = let l = c.args.words.now in
    sym (not_all (length l) c.as_index-opcode.result c.as_index-count.result (some (goal.at.returns-then-words-whole c).After-as_index-opcode) c.if-opcode-gt255.false (known (goal.at.returns-then-words-whole c).Else-wants) c.if-words-lt2.false c.if-count-gt-OPERANDS.false c.if-words-whole.true)
    ∙ by_both l (op_is (goal.at.returns-then-words-whole c).After-as_index-opcode) (count_is (goal.at.returns-then-words-whole c).After-as_index-count)

pub returns : goal.returns
returns c = let l = c.args.words.now in
    sym (all (length l) c.as_index-opcode.result c.as_index-count.result (some (goal.at.returns c).After-as_index-opcode) c.if-opcode-gt255.false (known (goal.at.returns c).Else-wants) c.if-words-lt2.false c.if-count-gt-OPERANDS.false c.if-words-whole.false)
    ∙ by_both l (op_is (goal.at.returns c).After-as_index-opcode) (count_is (goal.at.returns c).After-as_index-count)
