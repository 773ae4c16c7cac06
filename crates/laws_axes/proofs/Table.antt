-- Laws of an opcode's line along an axis, over the table of opcodes: what is seen after it, that the vectors lie along the axis still, and what stays across. Assumes nothing.
use Prim.Native.Nat.{◌<◌, suc, zero, ℕ}
use mathlib.Core.Bool.{Bool, ◌||◌, false, true, true≢false}
use mathlib.Core.List.{List, [], ◌∷◌}
use mathlib.Core.Path.{◌∙◌, ◌≡◌, ap, refl, subst, sym}
use native.Mathlib.Omega.{arith}
use borrow.Author.Tests.{eqb-false, leb-true, ltb-true}
use lib.Dec.{eqb, leb, ltb}
use lib.IntN.{pos, ℤ}
use lib.Signed.{non_neg}
use Rattle.graphics.proofs.Laws.{and_left, and_right}
use Rattle.graphics.specs.State.{measured_along, moved_along, x_axis, y_axis}
use Rattle.graphics.specs.declared.GraphicsState.{GraphicsState}
use Rattle.graphics.specs.declared.Vectors.{Vectors}
use Rattle.int.proofs.Tests.{either}
use Rattle.int.specs.Word.{eq_z}
use Rattle.laws_lines.proofs.Lines.{line_leaves, no_question}
use Rattle.laws_lines.proofs.Rows.{RowsHave, row_has, within}
use Rattle.laws_lines.proofs.Rows.RowsHave.{◌▸◌, elsewhere}
use Rattle.laws_lines.proofs.Sets.{Sets, any_state}
use Rattle.line.specs.Line.{done_with}
use Rattle.line.specs.declared.Stepped.{Stepped}
use Rattle.line_isect.specs.Isect.{isect_of}
use Rattle.line_iup.specs.Iup.{iup_line_of}
use Rattle.line_set.specs.Setters.{axis_by, loop_by, on_operand, operand_by, pointer_by, reference_by, set_by, set_of, takes_operand, vectors_by, zone_by}
use Rattle.line_sizes.specs.Sizes.{flip_by, measure_by, size_by, sizes_of}
use Rattle.line_steps.specs.Steps.{into}
use Rattle.line_vectors.specs.Vectors.{followed, vector_by, vector_of}
use Rattle.opcodes.specs.Table.{Line, line_of, row_of, rows}
use Rattle.line.specs.Operands.{is_odd}
use Rattle.flags.specs.declared.Axis.TheVariants.{X, Y}
use Rattle.flags.specs.declared.Axis.{Axis}
use Rattle.line.specs.World.{Fixed, Lined, World}
use Rattle.laws_axes.specs.Axes.{Straight, along_dual_line, along_line, fixed_seen, from_stack, interpolates_across, intersects, lined_seen, mixes, mixes_both, turns_across, world_seen}
use Rattle.laws_axes.proofs.Distances.{gc_seen, md_seen, mdrp_seen, mirp_seen}
use Rattle.laws_axes.proofs.Held.{StillSince, along_is, iup_held, iup_still, stays_still, stays_straight}
use Rattle.laws_axes.proofs.Inert.{stays}
use Rattle.laws_axes.proofs.Lines.{alignrp_seen, flippt_seen, fliprg_seen, iup_seen, mdap_seen, miap_seen, msirp_seen, shc_seen, shp_seen, shpix_seen, shz_seen}
use Rattle.laws_axes.proofs.Points.{alignpts_seen, ip_seen, utp_seen}
use Rattle.laws_axes.proofs.Steps.{Same, world_again}

-- ---- which lines mix the axes
pub or_left : (a b : Bool) → a || b ≡ false → a ≡ false
or_left false b e = refl
or_left true b e = cc e

pub or_right : (a b : Bool) → a || b ≡ false → b ≡ false
or_right false b e = e
or_right true b e = cc e

each_false : (p q r s t : Bool) → p || q || r || s || t ≡ false → (p ≡ false) × (q ≡ false) × (r ≡ false) × (s ≡ false)
each_false p q r s t e =
    let d = or_left (p || q || r || s) t e in
    let c = or_left (p || q || r) s d in
    let b = or_left (p || q) r c in
    (or_left p q b, or_right p q b, or_right (p || q) r c, or_right (p || q || r) s d)

-- the rows whose lines mix both
module _ (a : Axis) (op : ℕ) (m : mixes a op ≡ false) where
  none_mixes : (along_line op ≡ false) × (along_dual_line op ≡ false) × (from_stack op ≡ false) × (intersects op ≡ false)
  none_mixes = each_false (along_line op) (along_dual_line op) (from_stack op) (intersects op) (turns_across a op) m

  no_line : within 0x06 0x09 op ≡ true → ⊥
  no_line h = true≢false (sym h ∙ none_mixes.0)

  no_dual_line : within 0x86 0x87 op ≡ true → ⊥
  no_dual_line h = true≢false (sym h ∙ none_mixes.1)

  no_stack : within 0x0A 0x0B op ≡ true → ⊥
  no_stack h = true≢false (sym h ∙ none_mixes.2)

  no_intersection : within 0x0F 0x0F op ≡ true → ⊥
  no_intersection h = true≢false (sym h ∙ none_mixes.3)

-- ---- what is seen after a line
abbrev SeenAt : Axis → ℕ → Line → Type 0
SeenAt a op line = mixes a op ≡ false → (f : Fixed) (operands : List ℤ) (w : World) → Straight a w.state → Same a (line (fixed_seen a f) op operands (world_seen a w)) (line f op operands w)

-- what is lent no list
into_seen : (a : Axis) (w : World) (r : Stepped) → Same a (into (world_seen a w) r) (into w r)
into_seen a w r = ap (λ (u : World). into u r) (world_again a w).seen

set_seen : (a : Axis) (op : ℕ) → SeenAt a op set_of
unfolding set_of
set_seen a op m f operands w straight = into_seen a w (set_by w.state op operands)

size_seen : (a : Axis) (op : ℕ) → SeenAt a op sizes_of
unfolding sizes_of
size_seen a op m f operands w straight = into_seen a w (measure_by w.state op operands)

vector_seen : (a : Axis) (op : ℕ) → SeenAt a op vector_of
unfolding vector_of
vector_seen a op m f operands w straight = into_seen a w (vector_by w.state op operands)

rows_seen : (a : Axis) → RowsHave (SeenAt a) rows
rows_seen a =
    (λ op h. set_seen a op)
    ▸ (λ op h m. absurd (no_line a op m h))
    ▸ (λ op h. vector_seen a op)
    ▸ (λ op h. vector_seen a op)
    ▸ (λ op h m. absurd (no_intersection a op m h))
    ▸ (λ op h. set_seen a op)
    ▸ (λ op h. set_seen a op)
    ▸ (λ op h. size_seen a op)
    ▸ (λ op h. size_seen a op)
    ▸ (λ op h m f operands w s. alignpts_seen a f op operands w s)
    ▸ (λ op h m f operands w s. utp_seen a f op operands w s)
    ▸ (λ op h m f operands w s. mdap_seen a f op operands w s)
    ▸ (λ op h m f operands w s. iup_seen a f op operands w s)
    ▸ (λ op h m f operands w s. shp_seen a f op operands w s)
    ▸ (λ op h m f operands w s. shc_seen a f op operands w s)
    ▸ (λ op h m f operands w s. shz_seen a f op operands w s)
    ▸ (λ op h m f operands w s. shpix_seen a f op operands w s)
    ▸ (λ op h m f operands w s. ip_seen a f op operands w s)
    ▸ (λ op h m f operands w s. msirp_seen a f op operands w s)
    ▸ (λ op h m f operands w s. alignrp_seen a f op operands w s)
    ▸ (λ op h. set_seen a op)
    ▸ (λ op h m f operands w s. miap_seen a f op operands w s)
    ▸ (λ op h m f operands w s. gc_seen a f op operands w s)
    ▸ (λ op h m f operands w s. md_seen a f op operands w s)
    ▸ (λ op h. size_seen a op)
    ▸ (λ op h. set_seen a op)
    ▸ (λ op h. set_seen a op)
    ▸ (λ op h. set_seen a op)
    ▸ (λ op h m f operands w s. flippt_seen a f op operands w s)
    ▸ (λ op h m f operands w s. fliprg_seen a f op operands w s)
    ▸ (λ op h m. absurd (no_dual_line a op m h))
    ▸ (λ op h m f operands w s. mdrp_seen a f op operands w s)
    ▸ (λ op h m f operands w s. mirp_seen a f op operands w s)
    ▸ elsewhere (set_seen a)

pub line_seen : (a : Axis) (f : Fixed) (op : ℕ) (operands : List ℤ) (w : World) → Straight a w.state → mixes a op ≡ false
    → lined_seen a (line_of (fixed_seen a f) op operands (world_seen a w)) ≡ lined_seen a (line_of f op operands w)
unfolding line_of row_of
line_seen a f op operands w straight m = row_has (SeenAt a) rows (rows_seen a) op m f operands w straight

-- ---- the vectors
abbrev Held : GraphicsState → GraphicsState → Type 0
Held s t = t.vectors ≡ s.vectors

abbrev Leaves : GraphicsState → Stepped → Type 0
Leaves s r = Held s r.state

-- ---- the setters of anything else
zone_held : (s : GraphicsState) (op : ℕ) (word : ℤ) → Held s (zone_by s op word).state
unfolding zone_by pointer_by
zone_held s op word = either (Leaves s) (eq_z word (pos 0)) refl (either (Leaves s) (eq_z word (pos 1)) refl refl)

loop_held : (s : GraphicsState) (word : ℤ) → Held s (loop_by s word).state
unfolding loop_by
loop_held s word = either (Leaves s) (non_neg word) refl refl

operand_held : (s : GraphicsState) (op : ℕ) (word : ℤ) → Held s (operand_by s op word).state
unfolding operand_by reference_by
operand_held s op word =
    either (Leaves s) (ltb op 0x13) refl (either (Leaves s) (ltb op 0x17) (zone_held s op word) (either (Leaves s) (ltb op 0x18) (loop_held s word) refl))

operands_held : (s : GraphicsState) (op : ℕ) (operands : List ℤ) → Held s (on_operand s (operand_by s op) operands).state
operands_held s op [] = refl
operands_held s op (word ∷ words) = operand_held s op word

others_held : (s : GraphicsState) (op : ℕ) (operands : List ℤ) → ltb op 0x06 ≡ false → Held s (set_by s op operands).state
unfolding set_by
others_held s op operands e = rw e (either (Leaves s) (takes_operand op) (operands_held s op operands) refl)

vectors_straight : (a : Axis) (s : GraphicsState) → Straight a s → (op : ℕ) → turns_across a op ≡ false → op < 6 → Straight a (vectors_by s op)
unfolding vectors_by axis_by
vectors_straight X s e zero t h = cc t
vectors_straight X s e (suc zero) t h = refl
vectors_straight X s e (suc (suc zero)) t h = cc t
vectors_straight X s e (suc (suc (suc zero))) t h = ap (λ (v : Vectors). measured_along v x_axis) e
vectors_straight X s e (suc (suc (suc (suc zero)))) t h = cc t
vectors_straight X s e (suc (suc (suc (suc (suc zero))))) t h = ap (λ (v : Vectors). moved_along v x_axis) e
vectors_straight X s e (suc (suc (suc (suc (suc (suc n)))))) t h = absurd (omega (arith, h))
vectors_straight Y s e zero t h = refl
vectors_straight Y s e (suc zero) t h = cc t
vectors_straight Y s e (suc (suc zero)) t h = ap (λ (v : Vectors). measured_along v y_axis) e
vectors_straight Y s e (suc (suc (suc zero))) t h = cc t
vectors_straight Y s e (suc (suc (suc (suc zero)))) t h = ap (λ (v : Vectors). moved_along v y_axis) e
vectors_straight Y s e (suc (suc (suc (suc (suc zero))))) t h = cc t
vectors_straight Y s e (suc (suc (suc (suc (suc (suc n)))))) t h = absurd (omega (arith, h))

set_by_straight : (a : Axis) (s : GraphicsState) → Straight a s → (op : ℕ) (operands : List ℤ) → turns_across a op ≡ false → (t : Bool) → ltb op 0x06 ≡ t
    → Straight a (set_by s op operands).state
unfolding set_by
set_by_straight a s e op operands n true t = rw t (vectors_straight a s e op n (ltb-true op 0x06 t))
set_by_straight a s e op operands n false t = others_held s op operands t ∙ e

-- straight where it was
abbrev StraightSince : Axis → World → World → Type 0
StraightSince a u w = Straight a u.state → Straight a w.state

-- ---- the lines that set a measure, and SFVTPV
size_held : (s : GraphicsState) (op : ℕ) (operands : List ℤ) → Held s (on_operand s (λ (word : ℤ). done_with (size_by s op word)) operands).state
unfolding size_by
size_held s op [] = refl
size_held s op (word ∷ words) = refl

measure_held : (s : GraphicsState) (op : ℕ) (operands : List ℤ) → Held s (measure_by s op operands).state
unfolding measure_by flip_by
measure_held s op operands = either (Leaves s) (leb 0x4D op) refl (size_held s op operands)

-- the freedom vector follows a projection vector that lies along the axis
follow_straight : (a : Axis) (s : GraphicsState) → Straight a s → (op : ℕ) (operands : List ℤ) → within 0x0E 0x0E op ≡ true → Straight a (vector_by s op operands).state
unfolding vector_by followed
follow_straight a s e op operands h =
    let low = leb-true 0x0E op (and_left (leb 0x0E op) (leb op 0x0E) h) in
    let high = leb-true op 0x0E (and_right (leb 0x0E op) (leb op 0x0E) h) in
    let it : op ≡ 0x0E = omega (arith, low, high) in
    subst (λ (o : ℕ). Straight a (vector_by s o operands).state) (sym it) (ap (λ (v : Vectors). moved_along v v.projection) e)

sets_straight : (a : Axis) (op : ℕ) (operands : List ℤ) (w : World) → mixes a op ≡ false → Sets op operands w (StraightSince a w)
sets_straight a op operands w m = let s = w.state in record {
  by_setter = λ e. set_by_straight a s e op operands (or_right (mixes_both op) (turns_across a op) m) (ltb op 0x06) refl;
  by_size = λ e. measure_held s op operands ∙ e;
  along_line = λ h. absurd (no_line a op m h);
  along_dual_line = λ h. absurd (no_dual_line a op m h);
  from_stack = λ h. absurd (no_stack a op m h);
  following = λ h e. follow_straight a s e op operands h;
}

pub line_straight : (a : Axis) (f : Fixed) (op : ℕ) (operands : List ℤ) (w : World) → Straight a w.state → mixes a op ≡ false
    → Straight a (line_of f op operands w).world.state
line_straight a f op operands w e m =
    line_leaves (λ _. Unit {0}) (λ _. Unit {0}) (λ z u. u) (λ op f w. mixes a op ≡ false) (StraightSince a) (λ op f w g h. h) (λ op f w g. stays_straight a f w)
    (λ op f operands w g o. sets_straight a op operands w g)
    (λ op h f operands w g o. absurd (no_intersection a op g h))
    (λ op h f operands w g o k. iup_held f op operands w ∙ k)
    op f operands w m (no_question operands) e

-- ---- what stays across
along_code : (a : Axis) (op : ℕ) → within 0x30 0x31 op ≡ true → interpolates_across a op ≡ false → is_odd op ≡ along_is a
along_code X op b n =
    let low = leb-true 0x30 op (and_left (leb 0x30 op) (leb op 0x31) b) in
    let high = leb-true op 0x31 (and_right (leb 0x30 op) (leb op 0x31) b) in
    let other = eqb-false op 0x30 n in
    let it : op ≡ 0x31 = omega (arith, low, high, other) in
    ap is_odd it
along_code Y op b n =
    let low = leb-true 0x30 op (and_left (leb 0x30 op) (leb op 0x31) b) in
    let high = leb-true op 0x31 (and_right (leb 0x30 op) (leb op 0x31) b) in
    let other = eqb-false op 0x31 n in
    let it : op ≡ 0x30 = omega (arith, low, high, other) in
    ap is_odd it

-- what is asked of a line and a world
pub record Along (a : Axis) (op : ℕ) (w : World) : Type 0 where
  pub straight : Straight a w.state
  pub mixes_not : mixes a op ≡ false
  pub across_not : interpolates_across a op ≡ false

pub line_still : (a : Axis) (f : Fixed) (op : ℕ) (operands : List ℤ) (w : World) → Straight a w.state → mixes a op ≡ false → interpolates_across a op ≡ false
    → StillSince a w (line_of f op operands w).world
line_still a f op operands w e m n =
    line_leaves (λ _. Unit {0}) (λ _. Unit {0}) (λ z u. u) (λ op f w. Along a op w) (StillSince a) (λ op f w g. stays a w.gx w.gy w.gflags) (λ op f w g. stays_still a f w w.state g.straight)
    (λ op f operands w g o. any_state op operands w (λ s. stays a w.gx w.gy w.gflags))
    (λ op h f operands w g o. absurd (no_intersection a op g.mixes_not h))
    (λ op h f operands w g o. iup_still a f op operands w (along_code a op h g.across_not))
    op f operands w (record { straight = e; mixes_not = m; across_not = n }) (no_question operands)
