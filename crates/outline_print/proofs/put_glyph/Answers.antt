-- `outline_print::put_glyph` meets its contract: by whether the glyph is drawn. Assumes nothing.
use mathlib.Core.List.{List}
use mathlib.Core.Path.{subst, sym}
use Prim.Native.Nat.{ℕ, ◌+◌, ◌≤◌}
use lib.ListN.{length}
use Rattle.outline_steps.specs.Outline.{glyph}
use Rattle.record_print.specs.Steps.{Put}
use Rattle.outline_print.proofs.Room.{begun_drawable, drawn_text, refused_text}
use Rattle.outline_print.proofs.put_glyph.Goals as goal

pub put_outline-requires : goal.put_outline-requires
put_outline-requires c = let a = c.args in let n = c.begin-begun.ensures in
    record { contours_value = begun_drawable (glyph a.xs.now a.ys.now a.flags.now a.contours.now) n c.in-Ok.is; contours_in_bounds = subst (λ (t : List ℕ). a.at + length t ≤ length a.text.now) (drawn_text (glyph a.xs.now a.ys.now a.flags.now a.contours.now) n c.in-Ok.is) c.requires }

pub put_refusal-requires : goal.put_refusal-requires
put_refusal-requires c = let a = c.args in let n = c.begin-begun.ensures in
    subst (λ (t : List ℕ). a.at + length t ≤ length a.text.now) (refused_text (glyph a.xs.now a.ys.now a.flags.now a.contours.now) n c.in-Err.is c.number.ensures) c.requires

pub returns-in-Ok : goal.returns-in-Ok
returns-in-Ok c = let a = c.args in let n = c.begin-begun.ensures in
    subst (λ (t : List ℕ). Put t a.at c.put_outline.result a.text.now c.put_outline.new.text) (sym (drawn_text (glyph a.xs.now a.ys.now a.flags.now a.contours.now) n c.in-Ok.is)) c.put_outline.ensures

pub returns-in-Err : goal.returns-in-Err
returns-in-Err c = let a = c.args in let n = c.begin-begun.ensures in
    subst (λ (t : List ℕ). Put t a.at c.put_refusal.result a.text.now c.put_refusal.new.text) (sym (refused_text (glyph a.xs.now a.ys.now a.flags.now a.contours.now) n c.in-Err.is c.number.ensures)) c.put_refusal.ensures
