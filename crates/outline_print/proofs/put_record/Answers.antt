-- `outline_print::put_record` meets its contract: each list that is lent is the part of the record that it was loaded from. Assumes nothing.
use mathlib.Core.List.{List}
use mathlib.Core.Path.{◌≡◌, refl, sym, subst}
use Prim.Native.Nat.{ℕ, ◌+◌, ◌≤◌}
use native.Mathlib.Omega.{arith}
use lib.IntN.{ℤ}
use lib.ListN.{length, take}
use lib.Seq.{length-take-le}
use Rattle.outline_steps.specs.Outline.{Glyph, glyph}
use Rattle.record_print.specs.Steps.{Put}
use Rattle.record_replay.proofs.Cases.{ends_front, flags_front, numbers_front}
use Rattle.outline_print.specs.Lines.{glyph_text}
use Rattle.outline_print.specs.Print.{glyph_in}
use Rattle.outline_print.proofs.put_record.Goals as goal
use Rattle.outline_print.proofs.put_record.Goals.{After-contours-2-1, After-flags-3-1, After-xs-3-1, After-ys-3-1}

same_glyph : {xs xs' ys ys' : List ℤ} {flags flags' contours contours' : List ℕ} → xs ≡ xs' → ys ≡ ys' → flags ≡ flags' → contours ≡ contours' → glyph xs ys flags contours ≡ glyph xs' ys' flags' contours'
same_glyph a b c d = λ i. glyph (a i) (b i) (c i) (d i)

-- the glyph that is lent is the record's
module _ (c : After-contours-2-1) where
  lent :
      glyph (take c.wide-n.result c.numbers_in.new.list) (take c.wide-n.result c.numbers_in-2.new.list)
      (take c.wide-n.result c.flags_in.new.list) (take c.wide-ends.result c.ends_in.new.list)
      ≡ glyph_in c.args.out.now c.args.l
  lent = same_glyph
      (numbers_front c.args.out.now c.args.l 4 _ _ c.wide-n.ensures c.numbers_in.ensures)
      (numbers_front c.args.out.now c.args.l 5 _ _ c.wide-n.ensures c.numbers_in-2.ensures)
      (flags_front c.args.out.now c.args.l 6 _ _ c.wide-n.ensures c.flags_in.ensures)
      (ends_front c.args.out.now c.args.l 7 _ _ c.wide-ends.ensures c.ends_in.ensures)

pub slice_bounds-numbers_in-end : goal.slice_bounds-numbers_in-end
slice_bounds-numbers_in-end c = refl

pub numbers_in-requires : goal.numbers_in-requires
numbers_in-requires c = omega (arith, c.requires.points_bound)

pub slice_bounds-numbers_in-end-2 : goal.slice_bounds-numbers_in-end-2
slice_bounds-numbers_in-end-2 c = refl

pub numbers_in-requires-2 : goal.numbers_in-requires-2
numbers_in-requires-2 c = omega (arith, c.requires.points_bound)

pub slice_bounds-flags_in-end : goal.slice_bounds-flags_in-end
slice_bounds-flags_in-end c = refl

pub flags_in-requires : goal.flags_in-requires
flags_in-requires c = omega (arith, c.requires.points_bound)

pub slice_bounds-ends_in-end : goal.slice_bounds-ends_in-end
slice_bounds-ends_in-end c = refl

pub ends_in-requires : goal.ends_in-requires
ends_in-requires c = omega (arith, c.requires.contours_bound)

pub slice_bounds-xs-end : goal.slice_bounds-xs-end
slice_bounds-xs-end c = omega (arith, c.numbers_in.auto.list, c.wide-n.ensures, c.requires.points_bound)

pub slice_bounds-put_glyph-end : goal.slice_bounds-put_glyph-end
slice_bounds-put_glyph-end c = sym (length-take-le _ _ (slice_bounds-xs-end (goal.at.slice_bounds-put_glyph-end c).After-contours-2-1))

pub slice_bounds-ys-end : goal.slice_bounds-ys-end
slice_bounds-ys-end c = omega (arith, c.numbers_in-2.auto.list, c.wide-n.ensures, c.requires.points_bound)

pub slice_bounds-put_glyph-end-2 : goal.slice_bounds-put_glyph-end-2
slice_bounds-put_glyph-end-2 c = sym (length-take-le _ _ (slice_bounds-ys-end (goal.at.slice_bounds-put_glyph-end-2 c).After-xs-3-1))

pub slice_bounds-flags-end : goal.slice_bounds-flags-end
slice_bounds-flags-end c = omega (arith, c.flags_in.auto.list, c.wide-n.ensures, c.requires.points_bound)

pub slice_bounds-put_glyph-end-3 : goal.slice_bounds-put_glyph-end-3
slice_bounds-put_glyph-end-3 c = sym (length-take-le _ _ (slice_bounds-flags-end (goal.at.slice_bounds-put_glyph-end-3 c).After-ys-3-1))

pub slice_bounds-contours-end : goal.slice_bounds-contours-end
slice_bounds-contours-end c = omega (arith, c.ends_in.auto.list, c.wide-ends.ensures, c.requires.contours_bound)

pub slice_bounds-put_glyph-end-4 : goal.slice_bounds-put_glyph-end-4
slice_bounds-put_glyph-end-4 c = sym (length-take-le _ _ (slice_bounds-contours-end (goal.at.slice_bounds-put_glyph-end-4 c).After-flags-3-1))

pub put_glyph-requires : goal.put_glyph-requires
put_glyph-requires c = subst (λ (g : Glyph). c.args.at + length (glyph_text g) ≤ length c.args.text.now) (sym (lent (goal.at.put_glyph-requires c).After-contours-2-1)) c.requires.l_in_bounds

pub returns : goal.returns
returns c = let a = c.args in
    subst (λ (g : Glyph). Put (glyph_text g) a.at c.put_glyph.result a.text.now c.put_glyph.new.text) (lent (goal.at.returns c).After-contours-2-1) c.put_glyph.ensures
