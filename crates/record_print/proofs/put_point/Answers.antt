-- `record_print::put_point` meets its contract: three numbers, one behind the other. Assumes nothing.
use mathlib.Core.List.{List}
use mathlib.Core.Path.{◌∙◌, ◌≡◌, ap, ap₂, subst, sym}
use Prim.Native.Nat.{◌+◌, ℕ}
use native.Mathlib.Omega.{arith}
use lib.IntN.{ℤ}
use lib.ListN.{length}
use mir.Syntax.{w32}
use mir.Val.{of_z, to_z}
use Rattle.int.proofs.Words.{back32}
use Rattle.int.specs.Word.{of_bits}
use Rattle.words.specs.Lists.{word}
use Rattle.record_layout.specs.Order.{list_place}
use Rattle.record_print.specs.Print.{point_line}
use Rattle.record_print.specs.Steps.{Put, ended_by}
use Rattle.record_print.specs.Text.{decimal, signed_decimal}
use Rattle.record_print.proofs.Lines.{next_line, three_long, three_pieces}
use Rattle.record_print.proofs.Puts.{put_join}
use Rattle.record_print.proofs.put_point.Goals as goal
use Rattle.record_print.proofs.put_point.Goals.{After-flag_at-flag}

-- ---- the numbers that were read
abbrev x : After-flag_at-flag → ℤ
x c = to_z w32 (of_z w32 c.from_bits-x.result)

abbrev y : After-flag_at-flag → ℤ
y c = to_z w32 (of_z w32 c.from_bits-y.result)

abbrev wanted : After-flag_at-flag → List ℕ
wanted c = next_line c.args.out.now c.args.l c.args.i

same_line : (c : After-flag_at-flag) → point_line (x c) (y c) c.flag_at-flag.result ≡ wanted c
same_line c =
    let a = c.args in
    let of-x = back32 c.from_bits-x.result c.from_bits-x.type_inv ∙ c.from_bits-x.ensures ∙ ap of_bits (c.word.ensures ∙ ap (λ (k : ℕ). word a.out.now (k + a.i)) c.place.ensures) in
    let of-y = back32 c.from_bits-y.result c.from_bits-y.type_inv ∙ c.from_bits-y.ensures ∙ ap of_bits (c.word-2.ensures ∙ ap (λ (k : ℕ). word a.out.now (k + a.i)) c.place-2.ensures) in
    ap₂ (λ (p q : ℤ). point_line p q c.flag_at-flag.result) of-x of-y
    ∙ ap (point_line (of_bits (word a.out.now (list_place a.l 4 + a.i))) (of_bits (word a.out.now (list_place a.l 5 + a.i)))) c.flag_at-flag.ensures

-- the line's pieces are as long as the line
long : (c : After-flag_at-flag) → length (wanted c) ≡ length (ended_by (signed_decimal (x c)) 32) + (length (ended_by (signed_decimal (y c)) 32) + length (ended_by (decimal c.flag_at-flag.result) 10))
long c = sym (ap length (same_line c)) ∙ three_long (signed_decimal (x c)) (signed_decimal (y c)) (decimal c.flag_at-flag.result)

pub put_signed-after_x-requires : goal.put_signed-after_x-requires
put_signed-after_x-requires c = omega (arith, c.requires, long (goal.at.put_signed-after_x-requires c).After-flag_at-flag)

pub put_signed-after_y-requires : goal.put_signed-after_y-requires
put_signed-after_y-requires c =
    omega (arith, c.requires, long (goal.at.put_signed-after_y-requires c).After-flag_at-flag, c.put_signed-after_x.ensures.behind, c.put_signed-after_x.auto.text)

pub put_number-requires : goal.put_number-requires
put_number-requires c =
    omega (arith, c.requires, long (goal.at.put_number-requires c).After-flag_at-flag, c.put_signed-after_x.ensures.behind, c.put_signed-after_x.auto.text, c.put_signed-after_y.ensures.behind, c.put_signed-after_y.auto.text)

pub returns : goal.returns
returns c =
    let a = c.args in
    subst (λ (t : List ℕ). Put t a.at c.put_number.result a.text.now c.put_number.new.text)
    (three_pieces (signed_decimal (x (goal.at.returns c).After-flag_at-flag)) (signed_decimal (y (goal.at.returns c).After-flag_at-flag)) (decimal c.flag_at-flag.result) ∙ same_line (goal.at.returns c).After-flag_at-flag)
    (put_join c.put_signed-after_x.ensures (put_join c.put_signed-after_y.ensures c.put_number.ensures))
