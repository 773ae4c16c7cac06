-- What the words of a line come to that is fed in pieces, before anything of it is done: document 02, K11; the tests are those of a line of a sheet
-- (document 01, "A sheet and its lines") in their order. That a line has all its operands is tested last, so that only a whole line is refused for
-- having too many (5). Assumes nothing.
use Rattle.std.specs.Prelude.{ℕ, ◌+◌, ◌^◌, cond, List, eqb, ltb, pos, ℤ, get_or, length}
use Rattle.int.specs.Word.{index_of}
use Rattle.opcodes.specs.Table.{need_of, unknown}
use Rattle.feed_look.specs.declared.Seen.{Seen}
use Rattle.feed_look.specs.declared.Seen.TheVariants.{Bad, Long, Waits, Whole}

-- operands of a line that may wait for its rest, and its words with opcode and count
abbrev pub most_operands : ℕ
most_operands = 4096

abbrev pub most_line : ℕ
most_line = 4098

-- a count above that; one below zero is read as an index of 2 ^ 31 and more, and is no count
unfoldable pub long_by : ℕ → Seen
long_by count = cond (ltb count (2 ^ 31)) Long Bad

-- by how many words there are, the opcode word and the count word, both read as indices
unfoldable pub look_by : ℕ → ℕ → ℕ → Seen
look_by n op count =
    cond (ltb n 1) Waits
    (cond (ltb 255 op) Bad
    (cond (eqb (need_of op) unknown) Bad
    (cond (ltb n 2) Waits
    (cond (ltb most_operands count) (long_by count)
    (cond (ltb n (count + 2)) Waits
    (Whole (count + 2)))))))

-- the words from the first of a line on, which may go on beyond it
abbrev pub look_of : List ℤ → Seen
look_of words = look_by (length words) (index_of (get_or words 0 (pos 0))) (index_of (get_or words 1 (pos 0)))
