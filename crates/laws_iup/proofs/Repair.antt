-- K10 is about the repaired glyph: by the law, not by computing. Assumes nothing.
use native.Mathlib.Omega.{arith}
use Rattle.flags.specs.declared.Axis.{Axis}
use Rattle.replay.specs.Run.{run_of}
use Rattle.laws_iup.specs.Agree.{RunsAgreeBut}
use Rattle.laws_iup.specs.Sheets.{iup_sheet}
use Rattle.laws_iup.proofs.OneLine.{iup_runs_agree}
use Rattle.laws_iup.proofs.Examples.{before, drawn, glyphs_agree, redrawn, repaired, three, worlds_agree}

pub repairs_alike : (axis : Axis)
    → RunsAgreeBut three 1 (run_of drawn (iup_sheet axis) 1 0 before) (run_of redrawn (iup_sheet axis) 1 0 repaired)
repairs_alike axis = iup_runs_agree axis drawn 1 0 before 1 redrawn repaired (omega arith) glyphs_agree worlds_agree
