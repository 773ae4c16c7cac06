-- What is printed of a record's outline, for every byte string: the answer of its replay, and the outline of the glyph that the replay leaves, where it wasn't refused. Assumes nothing.
use Rattle.std.specs.Prelude.{ℕ, cond, List, [], ◌++◌, leb}
use Rattle.record_layout.specs.Order.{list_in}
use Rattle.record_layout.specs.declared.Layout.{Layout}
use Rattle.record_print.specs.Print.{answer_line, blank, room}
use Rattle.record_read.specs.Read.{world_in}
use Rattle.record_replay.specs.Shelf.{shelf_within}
use Rattle.record_run.specs.After.{Shelved}
use Rattle.rules.specs.declared.Rules.{Rules}
use Rattle.outline_steps.specs.Outline.{Glyph, glyph}
use Rattle.words.specs.Lists.{ends_of}
use Rattle.outline_print.specs.Lines.{glyph_text}

-- the glyph of a record whose lists lie so
abbrev pub glyph_in : List ℕ → Layout → Glyph
glyph_in out l = glyph (world_in out l).gx (world_in out l).gy (world_in out l).gflags (ends_of (list_in out l 7))

-- 0 and 1 are no refusals
unfoldable pub text_of : Shelved → List ℕ
text_of s = answer_line s.said ++ cond (leb s.said.number 1) (glyph_text (glyph_in s.out s.said.layout)) []

unfoldable pub outline_of : Rules → List ℕ → List ℕ
outline_of rules bytes = text_of (shelf_within rules room bytes blank)
