-- The layout that is handed on: only the private functions are held to it, and nobody need believe it. Assumes nothing.
use Rattle.state_words.specs.Words.{state_size}
use Rattle.record_layout.specs.declared.Layout.{Layout}
use Rattle.record_read.specs.Format.{layout}

-- the layout of the newest edition, with the counts of another's and no sheet
abbrev pub bare : Layout → Layout
bare l = layout state_size l.points l.contours l.twilight l.controls 0
