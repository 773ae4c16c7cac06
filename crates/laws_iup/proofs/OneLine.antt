-- A sheet of one line, IUP on an axis, whatever the budget and the start: what Runs.antt and Rest.antt say of it. Assumes nothing.
use Rattle.std.specs.Prelude.{⊤, Result, Ok, Err}
use Rattle.answer.specs.declared.Refusal.{Refusal}
use mathlib.Core.Bool.{false, true}
use mathlib.Core.List.{List, []}
use mathlib.Core.Path.{◌≡◌, ap, refl, subst, sym, ◌∙◌}
use Prim.Native.Nat.{ℕ, suc, zero, ◌<◌}
use native.Mathlib.Omega.{arith}
use lib.Dec.{ltb}
use lib.IntN.{ℤ}
use lib.ListN.{length}
use Rattle.contour_ends.specs.Ends.{ends_rise}
use Rattle.flags.specs.declared.Axis.TheVariants.{X, Y}
use Rattle.flags.specs.declared.Axis.{Axis}
use Rattle.laws_axes.specs.Reached.{after_call, lines_reached, none, opcode_at, reached_from, reached_on_entry}
use Rattle.line.specs.World.{Fixed, World}
use Rattle.line_iup.specs.Iup.{iup_line_of}
use Rattle.opcodes.specs.Decode.{decode_by, decode_of}
use Rattle.opcodes.specs.Table.{line_of, need_of, row_of}
use Rattle.replay.proofs.Entry.{run_entered}
use Rattle.replay.specs.Run.{entered, run_of}
use Rattle.run_lines.proofs.Loop.{at_end}
use Rattle.run_lines.specs.Onward.{Ran, ends, on_call, on_went, replay_of}
use Rattle.run_lines.specs.declared.Answer.TheVariants.{Finished}
use Rattle.run_step.specs.Step.{landed_in, on_decoded, step_of}
use Rattle.laws_iup.specs.Agree.{PointsAgree, FixedAgreeBut, RunsAgreeBut, WorldRestStays, WorldsAgreeBut}
use Rattle.laws_iup.specs.Contours.{Among}
use Rattle.laws_iup.specs.Sheets.{is_another, iup_code, iup_sheet}
use Rattle.laws_iup.proofs.Contour.{other_contours_agree}
use Rattle.laws_iup.proofs.Rest.{run_rest}
use Rattle.laws_iup.proofs.Runs.{runs_agree}
use Rattle.laws_iup.proofs.Tests.{one_by}

-- a sheet each word of which is such a code, read anywhere
module _ (f : Fixed) (sheet : List ℤ) (each : (at : ℕ) → is_another (opcode_at sheet at) ≡ false) where
  none_after : (b : ℕ) → ((at : ℕ) (w : World) → none is_another (reached_from f sheet b at w) ≡ true) → (place : ℕ) (w : World) (call : Result ⊤ Refusal) → none is_another (after_call (reached_from f sheet b) place w call) ≡ true
  unfolding after_call
  none_after b on place w (Ok tt) = on place w
  none_after b on place w (Err why) = refl

  none_from : (b at : ℕ) (w : World) → none is_another (reached_from f sheet b at w) ≡ true
  unfolding reached_from
  none_from zero at w = refl
  none_from (suc b) at w =
      let x = step_of f sheet at w in
      one_by (λ (ops : List ℕ). none is_another ops ≡ true) (ltb at (length sheet)) (λ here. rw (each at) (none_after b (none_from b) x.place x.world x.call)) refl

  none_on : (budget start : ℕ) (w : World) (call : Result ⊤ Refusal) → none is_another (reached_on_entry (reached_from f sheet budget start w) call) ≡ true
  unfolding reached_on_entry
  none_on budget start w (Ok tt) = none_from budget start w
  none_on budget start w (Err why) = refl

  no_other : (budget start : ℕ) (w : World) → none is_another (lines_reached f sheet budget start w) ≡ true
  unfolding lines_reached
  no_other budget start w = none_on budget start w (entered f sheet start w)

iup_words : (axis : Axis) (at : ℕ) → is_another (opcode_at (iup_sheet axis) at) ≡ false
iup_words X zero = refl
iup_words X (suc zero) = refl
iup_words X (suc (suc at)) = refl
iup_words Y zero = refl
iup_words Y (suc zero) = refl
iup_words Y (suc (suc at)) = refl

-- entered at its start with a budget, it does IUP's line and finishes
steps_so : (axis : Axis) (f : Fixed) (w : World) → step_of f (iup_sheet axis) 0 w ≡ landed_in 0 2 (iup_line_of f (iup_code axis) [] w)
unfolding step_of on_decoded decode_of decode_by need_of line_of row_of
steps_so X f w = refl
steps_so Y f w = refl

replays_so : (axis : Axis) (f : Fixed) (b : ℕ) (w : World) → replay_of f (iup_sheet axis) (suc b) 0 0 w ≡ ends Finished 1 2 (iup_line_of f (iup_code axis) [] w).world
unfolding replay_of on_call iup_line_of
replays_so axis f b w =
    ap (on_went (replay_of f (iup_sheet axis) b 1) 0) (steps_so axis f w) ∙ sym (at_end f (iup_sheet axis) b 1 2 (iup_line_of f (iup_code axis) [] w).world (omega arith))

pub iup_run_is : (axis : Axis) (f : Fixed) (b : ℕ) (w : World) → entered f (iup_sheet axis) 0 w ≡ Ok tt
    → run_of f (iup_sheet axis) (suc b) 0 w ≡ ends Finished 1 2 (iup_line_of f (iup_code axis) [] w).world
iup_run_is axis f b w e = sym (run_entered f (iup_sheet axis) (suc b) 0 w refl e) ∙ replays_so axis f b w

module _ (axis : Axis) (f : Fixed) (budget start : ℕ) (w : World) where
  pub iup_run_rest : WorldRestStays f.contours w (run_of f (iup_sheet axis) budget start w).world
  iup_run_rest = run_rest f (iup_sheet axis) budget start w (no_other f (iup_sheet axis) (iup_words axis) budget start w)

  module _ (k : ℕ) (g : Fixed) (v : World) (h : k < length f.contours) (d : FixedAgreeBut k f g) (e : WorldsAgreeBut f.contours k w v) where
    pub iup_runs_agree : RunsAgreeBut f.contours k (run_of f (iup_sheet axis) budget start w) (run_of g (iup_sheet axis) budget start v)
    iup_runs_agree = runs_agree k f g (iup_sheet axis) h d budget start w v e (no_other f (iup_sheet axis) (iup_words axis) budget start w)

    -- whatever two calls of `run` return and leave, by its contract
    pub iup_calls_agree : (r s : Ran) → r ≡ run_of f (iup_sheet axis) budget start w → s ≡ run_of g (iup_sheet axis) budget start v → RunsAgreeBut f.contours k r s
    iup_calls_agree r s er es =
        subst (λ (x : Ran). RunsAgreeBut f.contours k x s) (sym er)
        (subst (λ (y : Ran). RunsAgreeBut f.contours k (run_of f (iup_sheet axis) budget start w) y) (sym es) iup_runs_agree)

    -- point by point of every other contour
    pub other_contours_undisturbed : ends_rise (length w.gx) f.contours ≡ true → (j : ℕ) → j < length f.contours → (j ≡ k → ⊥) → (i : ℕ) → Among f.contours j i
        → PointsAgree i (run_of f (iup_sheet axis) budget start w).world (run_of g (iup_sheet axis) budget start v).world
    other_contours_undisturbed rise j there other i among =
        let a = iup_runs_agree.worlds in
        let n = length w.gx in
        record {
          x = other_contours_agree n f.contours rise h a.gx j there other i among;
          y = other_contours_agree n f.contours rise h a.gy j there other i among;
          flag = other_contours_agree n f.contours rise h a.gflags j there other i among;
        }
