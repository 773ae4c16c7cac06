-- `outline_print::with_spot` meets its contract: by whether there is a box. Assumes nothing.
use Rattle.std.specs.Prelude.{Option}
use mathlib.Core.Path.{◌∙◌, ap, sym}
use mir.Syntax.{w64}
use mir.ValLaws.{to_z-of_z}
use Rattle.outline_numbers.specs.Drawing.{box, with_point}
use Rattle.outline_print.specs.Lines.{extent_in, frame_box, grown_to}
use Rattle.outline_print.specs.declared.Frame.{Frame}
use Rattle.outline_print.proofs.with_spot.Goals as goal

pub returns-in-None : goal.returns-in-None
returns-in-None c = let x = to_z-of_z w64 c.args.x c.ranges.x in
    let y = to_z-of_z w64 c.args.y c.ranges.y in
    (λ i. box (record { left = x i; bottom = y i; right = x i; top = y i })) ∙ sym (ap (λ (g : Option Frame). with_point c.args.x c.args.y (extent_in g)) c.in-None.is)

pub returns-in-Some : goal.returns-in-Some
returns-in-Some c = let x = to_z-of_z w64 c.args.x c.ranges.x in
    let y = to_z-of_z w64 c.args.y c.ranges.y in
    ap (λ (g : Frame). box (frame_box g)) (c.grow.ensures ∙ (λ i. grown_to c.in-Some.e (x i) (y i)))
    ∙ sym (ap (λ (g : Option Frame). with_point c.args.x c.args.y (extent_in g)) c.in-Some.is)
