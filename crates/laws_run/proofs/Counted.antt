-- How two runs are counted as one. Assumes nothing.
use Prim.Native.Nat.{◌+◌, ℕ}
use Rattle.run_lines.specs.Onward.{Ran}

-- the lines finished before a run are added to its count
abbrev pub counted : ℕ → Ran → Ran
counted m r = record { answer = r.answer; place = r.place; lines = m + r.lines; world = r.world }
