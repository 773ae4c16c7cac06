-- `record_print::put_answer` meets its contract: four numbers, one behind the other. Assumes nothing.
use mathlib.Core.List.{List}
use mathlib.Core.Path.{◌≡◌, subst}
use Prim.Native.Nat.{◌+◌, ℕ}
use native.Mathlib.Omega.{arith}
use lib.ListN.{length}
use Rattle.record_run.specs.declared.Replayed.{Replayed}
use Rattle.record_print.specs.Print.{answer_line}
use Rattle.record_print.specs.Steps.{Put, ended_by}
use Rattle.record_print.specs.Text.{decimal}
use Rattle.record_print.proofs.Lines.{four_long, four_pieces}
use Rattle.record_print.proofs.Puts.{put_join}
use Rattle.record_print.proofs.put_answer.Goals as goal

long : (r : Replayed) → length (answer_line r) ≡ length (ended_by (decimal r.number) 32) + (length (ended_by (decimal r.place) 32) + (length (ended_by (decimal r.lines) 32) + length (ended_by (decimal r.detail) 10)))
long r = four_long (decimal r.number) (decimal r.place) (decimal r.lines) (decimal r.detail)

pub put_number-place-requires : goal.put_number-place-requires
put_number-place-requires c = omega (arith, c.requires, long c.args.r)

pub put_number-lines-requires : goal.put_number-lines-requires
put_number-lines-requires c =
    omega (arith, c.requires, long c.args.r, c.put_number-place.ensures.behind, c.put_number-place.auto.text)

pub put_number-detail-requires : goal.put_number-detail-requires
put_number-detail-requires c =
    omega (arith, c.requires, long c.args.r, c.put_number-place.ensures.behind, c.put_number-place.auto.text, c.put_number-lines.ensures.behind, c.put_number-lines.auto.text)

pub put_number-requires : goal.put_number-requires
put_number-requires c =
    omega (
      arith,
      c.requires,
      long c.args.r,
      c.put_number-place.ensures.behind,
      c.put_number-place.auto.text,
      c.put_number-lines.ensures.behind,
      c.put_number-lines.auto.text,
      c.put_number-detail.ensures.behind,
      c.put_number-detail.auto.text,
    )

pub returns : goal.returns
returns c =
    let r = c.args.r in
    subst (λ (text : List ℕ). Put text 0 c.put_number.result c.args.text.now c.put_number.new.text)
    (four_pieces (decimal r.number) (decimal r.place) (decimal r.lines) (decimal r.detail))
    (put_join c.put_number-place.ensures (put_join c.put_number-lines.ensures (put_join c.put_number-detail.ensures c.put_number.ensures)))
