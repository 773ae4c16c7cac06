-- What a replay says that it wrote. Assumes nothing.
use mathlib.Core.List.{List}
use Prim.Native.Nat.{ℕ}
use lib.ListN.{take}
use Rattle.record_run.specs.After.{Shelved}

-- the front of what a replay leaves, as many bytes as it says that it wrote
abbrev pub written : Shelved → List ℕ
written s = take s.said.size s.out
