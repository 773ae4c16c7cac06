-- A run between what was read and what is written. Assumes nothing.
use mathlib.Core.List.{List}
use mathlib.Core.Path.{◌∙◌, ◌≡◌, ap, ap₂, sym}
use Prim.Native.Nat.{ℕ}
use lib.IntN.{ℤ}
use lib.ListN.{length}
use Rattle.line.specs.World.{Fixed, World, world, under}
use Rattle.rules.specs.declared.Rules.{Rules}
use Rattle.run_lines.specs.Onward.{Ran, detail_of_answer, number_of_answer, ran}
use Rattle.run_lines.specs.declared.Outcome.{Outcome}
use Rattle.replay.specs.Run.{run_of}
use Rattle.record_layout.specs.declared.Layout.{Layout}
use Rattle.record_read.specs.Format.{held}
use Rattle.record_write.specs.Written.{write_of, wrote}
use Rattle.record_run.specs.After.{left_with, ran_from, shelved, shelved_as, shelved_for, told}
use Rattle.record_run.specs.declared.Replayed.{Replayed}

-- ---- what is said
abbrev replayed : ℕ → ℕ → ℕ → ℕ → ℕ → Layout → Replayed
replayed number place lines detail size l = record { number = number; place = place; lines = lines; detail = detail; size = size; layout = l }

pub said : (l : Layout) (o : Outcome) (size : ℕ) {n d : ℕ} → n ≡ number_of_answer o.answer → d ≡ detail_of_answer o.answer
    → replayed n o.place o.lines d size l ≡ told l o size
said l o size e f = ap₂ (λ (n d : ℕ). replayed n o.place o.lines d size l) e f

-- ---- what is written
pub ran_and_written : (rules : Rules) (most : ℕ) (l : Layout) (f : Fixed) (sheet : List ℤ) (w : World) (out : List ℕ)
    (o : Outcome) (gx gy : List ℤ) (gflags : List ℕ) (tox toy tx ty : List ℤ) (tflags : List ℕ) {size : ℕ} {left : List ℕ} {r : Replayed}
    → ran o gx gy gflags tox toy tx ty tflags ≡ run_of (under rules f) sheet (length sheet) 0 w
    → wrote size left ≡ write_of most (held f sheet (world o.state gx gy gflags tox toy tx ty tflags)) out
    → r ≡ told l o size
    → shelved r left ≡ shelved_for rules most l (held f sheet w) out
ran_and_written rules most l f sheet w out o gx gy gflags tox toy tx ty tflags {size} {left} e g t =
    ap (λ r. shelved r left) t
    ∙ ap (shelved_as l (ran o gx gy gflags tox toy tx ty tflags)) g
    ∙ ap (λ r. shelved_as l r (write_of most (held f sheet r.world) out)) e

-- ---- what is left in the lists
pub lists_left : (rules : Rules) (f : Fixed) (sheet : List ℤ) (w : World)
    (o : Outcome) (gx gy : List ℤ) (gflags : List ℕ) (tox toy tx ty : List ℤ) (tflags : List ℕ)
    → ran o gx gy gflags tox toy tx ty tflags ≡ run_of (under rules f) sheet (length sheet) 0 w
    → left_with rules (held f sheet w) gx gy gflags tox toy tx ty tflags ≡ (ran_from rules (held f sheet w)).world
lists_left rules f sheet w o gx gy gflags tox toy tx ty tflags e =
    ap (λ (r : Ran). world r.world.state gx gy gflags tox toy tx ty tflags) (sym e)
    ∙ ap (λ (r : Ran). r.world) e
