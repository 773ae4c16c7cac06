-- The rules `skrifa` are what a run gave before the rules had names, on every input; and a run that reaches no MSIRP is the same under all rules. Assumes nothing.
use Rattle.opcodes.specs.declared.Operands.{Operands}
use Rattle.std.specs.Prelude.{⊤, Result, Ok, Err}
use Rattle.answer.specs.declared.Refusal.{Refusal}
use Prim.Native.Nat.{ℕ, suc, zero, ◌-◌}
use mathlib.Core.Bool.{Bool, cond, false, not, true, true≢false, ◌&&◌}
use mathlib.Core.List.{List, [], ◌∷◌, map}
use mathlib.Core.Path.{◌≡◌, ap, refl, sym, ◌∙◌}
use borrow.Author.Tests.{not-true}
use lib.Dec.{leb, ltb}
use lib.IntN.{ℤ}
use lib.ListN.{drop, length, take}
use Rattle.graphics.proofs.Laws.{and_left, and_right}
use Rattle.graphics.specs.State.{past_both_iups}
use Rattle.laws_axes.proofs.RunSteps.{Named, all_named, free_here}
use Rattle.laws_axes.specs.Reached.{after_call, after_line, lines_reached, none, opcode_at, reached_from, reached_on_entry}
use Rattle.laws_lines.proofs.Rows.{RowsHave, row_has}
use Rattle.laws_lines.proofs.Rows.RowsHave.{◌▸◌, elsewhere}
use Rattle.laws_rules.specs.Before.{line_before, msirp_before, on_decoded_by, on_entry_by, replay_by, row_before, ruled, run_before, run_by, step_by}
use Rattle.line.specs.Operands.{is_odd}
use Rattle.line.specs.Sizes.{fits}
use Rattle.line.specs.World.{Fixed, Lined, World, under}
use Rattle.line_alignpts.specs.Alignpts.{alignpts_of}
use Rattle.line_alignrp.specs.Alignrp.{alignrp_of}
use Rattle.line_flip.specs.Flip.{flippt_of, fliprg_of}
use Rattle.line_ip.specs.Ip.{ip_of}
use Rattle.line_isect.specs.Isect.{isect_of}
use Rattle.line_iup.specs.Iup.{iup_line_of, marked_for, walked_in}
use Rattle.line_mdap.specs.Mdap.{mdap_of}
use Rattle.line_mdrp.specs.Mdrp.{mdrp_of}
use Rattle.line_measure.specs.Measure.{gc_of, md_of, md_original, original_or}
use Rattle.line_miap.specs.Miap.{miap_of}
use Rattle.line_mirp.specs.Mirp.{control_by, mirp_of}
use Rattle.line_msirp.specs.Msirp.{msirp_of}
use Rattle.line_set.specs.Setters.{set_of}
use Rattle.line_shc_shz.specs.Shc.{shc_of, shz_of}
use Rattle.line_shift.specs.Shift.{shp_of, shpix_of}
use Rattle.line_utp.specs.Utp.{utp_of}
use Rattle.line_span.specs.Span.{span_in}
use Rattle.line_sizes.specs.Sizes.{sizes_of}
use Rattle.line_vectors.specs.Vectors.{to_dual_line_of, to_line_of, vector_of}
use Rattle.line_steps.specs.Steps.{control_at, done_in, in_state, reference_in}
use Rattle.opcodes.specs.Decode.{decode_of}
use Rattle.opcodes.specs.Table.{Line, Row, has, line_of, row_in, row_of, rows}
use Rattle.replay.specs.Run.{entered, on_entry, run_of}
use Rattle.rules.specs.declared.Rules.TheVariants.{Skrifa}
use Rattle.rules.specs.declared.Rules.{Rules}
use Rattle.run_lines.specs.Onward.{Ran, on_call, on_went, replay_of}
use Rattle.run_step.specs.Step.{Went, landed_in, on_decoded, step_of}

-- ---- line by line
-- the line of a row, which reads no rules
abbrev Unruled : Line → Type 0
Unruled line = (rules : Rules) (f : Fixed) (opcode : ℕ) (operands : List ℤ) (w : World) → line (under rules f) opcode operands w ≡ line f opcode operands w

set_unruled : Unruled set_of
unfolding set_of
set_unruled rules f opcode operands w = refl

size_unruled : Unruled sizes_of
unfolding sizes_of
size_unruled rules f opcode operands w = refl

to_line_unruled : Unruled to_line_of
unfolding to_line_of
to_line_unruled rules f opcode operands w = refl

vector_unruled : Unruled vector_of
unfolding vector_of
vector_unruled rules f opcode operands w = refl

to_dual_line_unruled : Unruled to_dual_line_of
unfolding to_dual_line_of original_or
to_dual_line_unruled rules f opcode operands w = refl

isect_unruled : Unruled isect_of
unfolding isect_of
isect_unruled rules f opcode operands w = refl

alignpts_unruled : Unruled alignpts_of
unfolding alignpts_of
alignpts_unruled rules f opcode operands w = refl

utp_unruled : Unruled utp_of
unfolding utp_of
utp_unruled rules f opcode operands w = refl

mdap_unruled : Unruled mdap_of
unfolding mdap_of
mdap_unruled rules f opcode operands w = refl

walked_unruled : (rules : Rules) (f : Fixed) (w : World) (odd : Bool) → walked_in (under rules f) w odd ≡ walked_in f w odd
walked_unruled rules f w true = refl
walked_unruled rules f w false = refl

iup_unruled : Unruled iup_line_of
unfolding iup_line_of
iup_unruled rules f opcode operands w =
    ap (λ (v : World). done_in (cond (past_both_iups w.state.facts) w v)) (walked_unruled rules f (in_state w (marked_for w.state opcode)) (is_odd opcode))

shp_unruled : Unruled shp_of
unfolding shp_of reference_in
shp_unruled rules f opcode operands w = refl

shc_unruled : Unruled shc_of
unfolding shc_of span_in reference_in
shc_unruled rules f opcode operands w = refl

shz_unruled : Unruled shz_of
unfolding shz_of span_in reference_in
shz_unruled rules f opcode operands w = refl

shpix_unruled : Unruled shpix_of
unfolding shpix_of
shpix_unruled rules f opcode operands w = refl

ip_unruled : Unruled ip_of
unfolding ip_of
ip_unruled rules f opcode operands w = refl

alignrp_unruled : Unruled alignrp_of
unfolding alignrp_of
alignrp_unruled rules f opcode operands w = refl

miap_unruled : Unruled miap_of
unfolding miap_of control_at
miap_unruled rules f opcode operands w = refl

gc_unruled : Unruled gc_of
unfolding gc_of original_or
gc_unruled rules f opcode operands w = refl

md_unruled : Unruled md_of
unfolding md_of md_original original_or
md_unruled rules f opcode operands w = refl

flippt_unruled : Unruled flippt_of
unfolding flippt_of
flippt_unruled rules f opcode operands w = refl

fliprg_unruled : Unruled fliprg_of
unfolding fliprg_of
fliprg_unruled rules f opcode operands w = refl

mdrp_unruled : Unruled mdrp_of
unfolding mdrp_of
mdrp_unruled rules f opcode operands w = refl

mirp_unruled : Unruled mirp_of
unfolding mirp_of control_by
mirp_unruled rules f opcode operands w = refl

-- MSIRP under the rules `skrifa`
msirp_as_before : (f : Fixed) (opcode : ℕ) (operands : List ℤ) (w : World) → msirp_of (under Skrifa f) opcode operands w ≡ msirp_before f opcode operands w
unfolding msirp_of msirp_before
msirp_as_before f opcode operands w = refl

-- ---- the table of opcodes
module _ (f : Fixed) where
  -- each row's line under the rules `skrifa` is its line before
  abbrev AsBefore : Line → Line → Type 0
  AsBefore line old = (opcode : ℕ) (operands : List ℤ) (w : World) → line (under Skrifa f) opcode operands w ≡ old f opcode operands w

  abbrev RowsAsBefore : List Row → Type 0
  RowsAsBefore [] = Unit
  RowsAsBefore (r ∷ more) = AsBefore r.line (row_before r).line × RowsAsBefore more

  chosen : (opcode : ℕ) (operands : List ℤ) (w : World) (r q s t : Row) (yes : Bool)
      → r.line (under Skrifa f) opcode operands w ≡ q.line f opcode operands w
      → s.line (under Skrifa f) opcode operands w ≡ t.line f opcode operands w
      → (cond yes r s).line (under Skrifa f) opcode operands w ≡ (cond yes q t).line f opcode operands w
  chosen opcode operands w r q s t true here there = here
  chosen opcode operands w r q s t false here there = there

  in_table : (table : List Row) → RowsAsBefore table → (opcode : ℕ) (operands : List ℤ) (w : World)
      → (row_in table opcode).line (under Skrifa f) opcode operands w ≡ (row_in (map row_before table) opcode).line f opcode operands w
  in_table [] alike opcode operands w = set_unruled Skrifa f opcode operands w
  in_table (r ∷ more) (here, alike) opcode operands w =
      chosen opcode operands w r (row_before r) (row_in more opcode) (row_in (map row_before more) opcode) (has r opcode) (here opcode operands w) (in_table more alike opcode operands w)

  all_as_before : RowsAsBefore rows
  all_as_before =
      (set_unruled Skrifa f, (to_line_unruled Skrifa f, (vector_unruled Skrifa f, (vector_unruled Skrifa f, (isect_unruled Skrifa f, (set_unruled Skrifa f, (set_unruled Skrifa f, (size_unruled Skrifa f, (size_unruled Skrifa f, (alignpts_unruled Skrifa f, (utp_unruled Skrifa f, (mdap_unruled Skrifa f, (iup_unruled Skrifa f, (shp_unruled Skrifa f, (shc_unruled Skrifa f, (shz_unruled Skrifa f, (shpix_unruled Skrifa f, (ip_unruled Skrifa f, (msirp_as_before f, (alignrp_unruled Skrifa f, (set_unruled Skrifa f, (miap_unruled Skrifa f, (gc_unruled Skrifa f, (md_unruled Skrifa f, (size_unruled Skrifa f, (set_unruled Skrifa f, (set_unruled Skrifa f, (set_unruled Skrifa f, (flippt_unruled Skrifa f, (fliprg_unruled Skrifa f, (to_dual_line_unruled Skrifa f, (mdrp_unruled Skrifa f, (mirp_unruled Skrifa f, tt)))))))))))))))))))))))))))))))))

-- every line under the rules `skrifa` is the line before, whatever rules are named beside it
pub lines_as_before : (f : Fixed) (opcode : ℕ) (operands : List ℤ) (w : World) → line_of (under Skrifa f) opcode operands w ≡ line_before f opcode operands w
unfolding line_of row_of line_before
lines_as_before f opcode operands w = in_table f rows (all_as_before f) opcode operands w

-- of an opcode that the rules don't change
module _ (rules : Rules) where
  abbrev Free : ℕ → Line → Type 0
  Free opcode line = ruled opcode ≡ false → (f : Fixed) (operands : List ℤ) (w : World) → line (under rules f) opcode operands w ≡ line f opcode operands w

  free : (line : Line) → Unruled line → (opcode : ℕ) → Free opcode line
  free line unruled opcode e f operands w = unruled rules f opcode operands w

  -- MSIRP's row has the opcodes that are left out
  left_out : (opcode : ℕ) → ruled opcode ≡ true → Free opcode msirp_of
  left_out opcode h e = absurd (true≢false (sym h ∙ e))

  all_free : RowsHave Free rows
  all_free =
      (λ op h. free _ set_unruled op)
      ▸ (λ op h. free _ to_line_unruled op)
      ▸ (λ op h. free _ vector_unruled op)
      ▸ (λ op h. free _ vector_unruled op)
      ▸ (λ op h. free _ isect_unruled op)
      ▸ (λ op h. free _ set_unruled op)
      ▸ (λ op h. free _ set_unruled op)
      ▸ (λ op h. free _ size_unruled op)
      ▸ (λ op h. free _ size_unruled op)
      ▸ (λ op h. free _ alignpts_unruled op)
      ▸ (λ op h. free _ utp_unruled op)
      ▸ (λ op h. free _ mdap_unruled op)
      ▸ (λ op h. free _ iup_unruled op)
      ▸ (λ op h. free _ shp_unruled op)
      ▸ (λ op h. free _ shc_unruled op)
      ▸ (λ op h. free _ shz_unruled op)
      ▸ (λ op h. free _ shpix_unruled op)
      ▸ (λ op h. free _ ip_unruled op)
      ▸ left_out
      ▸ (λ op h. free _ alignrp_unruled op)
      ▸ (λ op h. free _ set_unruled op)
      ▸ (λ op h. free _ miap_unruled op)
      ▸ (λ op h. free _ gc_unruled op)
      ▸ (λ op h. free _ md_unruled op)
      ▸ (λ op h. free _ size_unruled op)
      ▸ (λ op h. free _ set_unruled op)
      ▸ (λ op h. free _ set_unruled op)
      ▸ (λ op h. free _ set_unruled op)
      ▸ (λ op h. free _ flippt_unruled op)
      ▸ (λ op h. free _ fliprg_unruled op)
      ▸ (λ op h. free _ to_dual_line_unruled op)
      ▸ (λ op h. free _ mdrp_unruled op)
      ▸ (λ op h. free _ mirp_unruled op)
      ▸ elsewhere (free _ set_unruled)

-- no line but MSIRP reads the rules
pub only_msirp : (rules : Rules) (f : Fixed) (opcode : ℕ) (operands : List ℤ) (w : World) → ruled opcode ≡ false → line_of (under rules f) opcode operands w ≡ line_of f opcode operands w
unfolding line_of row_of
only_msirp rules f opcode operands w e = row_has (Free rules) rows (all_free rules) opcode e f operands w

-- ---- runs
-- lines that do the same, but for such that aren't reached, and an entry that says the same, make the same run
module _ (line : Line) (f g : Fixed) (sheet : List ℤ) (such : ℕ → Bool)
    (lines-alike : (opcode : ℕ) (operands : List ℤ) (w : World) → such opcode ≡ false → line_of f opcode operands w ≡ line g opcode operands w)
  where
    decoded_alike : (at : ℕ) (w : World) (opcode : ℕ) → such opcode ≡ false → (d : Result Operands Refusal) → Named opcode d → on_decoded f sheet at w d ≡ on_decoded_by line g sheet at w d
    unfolding on_decoded on_decoded_by Named
    decoded_alike at w opcode e (Ok read) named = ap (landed_in at read.end) (lines-alike read.opcode (take (read.end - read.first) (drop read.first sheet)) w (ap such named ∙ e))
    decoded_alike at w opcode e (Err why) named = refl

    step_alike : (at : ℕ) (w : World) → such (opcode_at sheet at) ≡ false → step_of f sheet at w ≡ step_by line g sheet at w
    unfolding step_of step_by
    step_alike at w e =
        decoded_alike at w (opcode_at sheet at) e (decode_of sheet w.state.loop_counter at) (all_named sheet w.state.loop_counter at)

    -- the lines from any place on, with this budget
    abbrev Alike : ℕ → Type 0
    Alike b = (lines at : ℕ) (w : World) → none such (reached_from f sheet b at w) ≡ true → replay_of f sheet b lines at w ≡ replay_by line g sheet b lines at w

    after : (b lines : ℕ) → Alike b → (call : Result ⊤ Refusal) (place : ℕ) (w : World) → none such (after_call (reached_from f sheet b) place w call) ≡ true
        → on_call (replay_of f sheet b (suc lines)) lines place w call ≡ on_call (replay_by line g sheet b (suc lines)) lines place w call
    unfolding on_call after_call
    after b lines ih (Ok tt) place w free = ih (suc lines) place w free
    after b lines ih (Err why) place w free = refl

    turn : (b lines at : ℕ) (w : World) → Alike b → not (such (opcode_at sheet at)) && none such (after_line (reached_from f sheet b) (step_of f sheet at w)) ≡ true
        → on_went (replay_of f sheet b (suc lines)) lines (step_of f sheet at w) ≡ on_went (replay_by line g sheet b (suc lines)) lines (step_by line g sheet at w)
    turn b lines at w ih free =
        let here = step_of f sheet at w in
        let unlike = not (such (opcode_at sheet at)) in
        after b lines ih here.call here.place here.world (and_right unlike _ free)
        ∙ ap (on_went (replay_by line g sheet b (suc lines)) lines) (step_alike at w (not-true (such (opcode_at sheet at)) (and_left unlike _ free)))

    by_test : (t : Bool) (r s other : Ran) → (t ≡ true → r ≡ s) → cond t r other ≡ cond t s other
    by_test true r s other e = e refl
    by_test false r s other e = refl

    replays_alike : (b : ℕ) → Alike b
    unfolding replay_of replay_by reached_from
    replays_alike zero lines at w free = refl
    replays_alike (suc b) lines at w free =
        by_test (ltb at (length sheet)) _ _ _ (λ here. turn b lines at w (replays_alike b) (free_here such (ltb at (length sheet)) _ _ here free))

    on_entry_lem : (budget start : ℕ) (w : World) (call : Result ⊤ Refusal) → none such (reached_on_entry (reached_from f sheet budget start w) call) ≡ true
        → on_entry f sheet budget start w call ≡ on_entry_by line g sheet budget start w call
    unfolding on_entry on_entry_by reached_on_entry
    on_entry_lem budget start w (Ok tt) free = replays_alike budget 0 start w free
    on_entry_lem budget start w (Err why) free = refl

    runs_alike : (budget start : ℕ) (w : World) → entered f sheet start w ≡ entered g sheet start w → none such (lines_reached f sheet budget start w) ≡ true
        → run_of f sheet budget start w ≡ run_by line g sheet budget start w
    unfolding run_of run_by lines_reached
    runs_alike budget start w e free = on_entry_lem budget start w (entered f sheet start w) free ∙ ap (on_entry_by line g sheet budget start w) e

-- the entry reads no rules
entry_unruled : (rules : Rules) (f : Fixed) (sheet : List ℤ) (start : ℕ) (w : World) → entered (under rules f) sheet start w ≡ entered f sheet start w
unfolding fits
entry_unruled rules f sheet start w = refl

none_at_all : (opcodes : List ℕ) → none (λ (opcode : ℕ). false) opcodes ≡ true
none_at_all [] = refl
none_at_all (opcode ∷ opcodes) = none_at_all opcodes

-- what a run gives under the rules `skrifa` is what it gave before, on every input
pub run_as_before : (f : Fixed) (sheet : List ℤ) (budget start : ℕ) (w : World) → run_of (under Skrifa f) sheet budget start w ≡ run_before f sheet budget start w
run_as_before f sheet budget start w =
    runs_alike line_before (under Skrifa f) f sheet (λ (opcode : ℕ). false) (λ opcode operands w e. lines_as_before f opcode operands w) budget start w
    (entry_unruled Skrifa f sheet start w) (none_at_all (lines_reached (under Skrifa f) sheet budget start w))

-- a run by the table's own lines is the run
by_its_own : (f : Fixed) (sheet : List ℤ) (budget start : ℕ) (w : World) → run_of f sheet budget start w ≡ run_by line_of f sheet budget start w
by_its_own f sheet budget start w =
    runs_alike line_of f f sheet (λ (opcode : ℕ). false) (λ opcode operands w e. refl) budget start w refl (none_at_all (lines_reached f sheet budget start w))

-- a run that reaches no MSIRP is the same under all rules
pub same_under_all : (rules : Rules) (f : Fixed) (sheet : List ℤ) (budget start : ℕ) (w : World) → none ruled (lines_reached f sheet budget start w) ≡ true
    → run_of (under rules f) sheet budget start w ≡ run_of f sheet budget start w
same_under_all rules f sheet budget start w free =
    by_its_own (under rules f) sheet budget start w
    ∙ sym (runs_alike line_of f (under rules f) sheet ruled (λ opcode operands w e. sym (only_msirp rules f opcode operands w e)) budget start w (sym (entry_unruled rules f sheet start w)) free)
