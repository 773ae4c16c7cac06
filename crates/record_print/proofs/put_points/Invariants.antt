-- `record_print::put_points` meets its contract: the lines put so far and those that are left make the whole. Assumes nothing.
use Rattle.record_print.specs.Print.{glyph_lines}
use Rattle.record_print.proofs.Lines.{Printing, lines_left}
use Rattle.record_print.proofs.put_points.Given as goal

abbrev pub invariant-loop-i : goal.invariant-loop-i
invariant-loop-i l = Printing (glyph_lines l.out l.l) (lines_left l.out l.l l.i) l.at l.next l.initial.text l.text
