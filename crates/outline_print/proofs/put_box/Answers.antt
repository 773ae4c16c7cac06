-- `outline_print::put_box` meets its contract: by whether there is one. Assumes nothing.
use Rattle.std.specs.Prelude.{Option}
use Rattle.outline_print.specs.declared.Frame.{Frame}
use mathlib.Core.Bool.{◌&&◌}
use mathlib.Core.List.{List}
use mathlib.Core.Path.{ap, subst, sym}
use Prim.Native.Nat.{ℕ}
use native.Mathlib.Omega.{arith}
use lib.ListN.{length}
use Rattle.record_print.specs.Steps.{Put}
use Rattle.record_print.proofs.Puts.{put_join}
use Rattle.outline_print.specs.Lines.{AllNear, box_line, extent_in}
use Rattle.outline_print.proofs.Putting.{around_long, nears_back, none_long, places_back}
use Rattle.outline_print.proofs.put_box.Goals as goal

pub put_word-requires : goal.put_word-requires
put_word-requires c = omega (arith, c.requires.f_in_bounds, none_long c.in-None.is)

pub put_word-next-requires : goal.put_word-next-requires
put_word-next-requires c = omega (arith, c.requires.f_in_bounds, around_long c.in-Some.is)

pub put_places-requires : goal.put_places-requires
put_places-requires c = let e = c.in-Some.e in
    let n = subst (λ (g : Option Frame). AllNear (extent_in g)) c.in-Some.is c.requires.all_near in record { y_value = nears_back e.left e.bottom e.right e.top c.struct_told-1.given.0.1 c.struct_told-in-Some-1.given.1.0.1 c.struct_told-in-Some-2-1.given.1.1.0.1 c.struct_told-in-Some-3-1.given.1.1.1.0.1 (λ i. n.0 i && n.1 i && n.2 i && n.3 i); y_in_bounds = omega (arith, c.requires.f_in_bounds, around_long c.in-Some.is, ap length (places_back e.left e.bottom e.right e.top c.struct_told-1.given.0.1 c.struct_told-in-Some-1.given.1.0.1 c.struct_told-in-Some-2-1.given.1.1.0.1 c.struct_told-in-Some-3-1.given.1.1.1.0.1), c.put_word-next.ensures.behind, c.put_word-next.auto.text) }

pub returns-in-None : goal.returns-in-None
unfolding box_line
returns-in-None c = let a = c.args in
    subst (λ (g : Option Frame). Put (box_line (extent_in g)) a.at c.put_word.result a.text.now c.put_word.new.text) (sym c.in-None.is) c.put_word.ensures

pub returns-in-Some : goal.returns-in-Some
unfolding box_line
returns-in-Some c = let e = c.in-Some.e in
    let a = c.args in
    let q = subst (λ (s : List ℕ). Put s c.put_word-next.result c.put_places.result c.put_word-next.new.text c.put_places.new.text) (places_back e.left e.bottom e.right e.top c.struct_told-1.given.0.1 c.struct_told-in-Some-1.given.1.0.1 c.struct_told-in-Some-2-1.given.1.1.0.1 c.struct_told-in-Some-3-1.given.1.1.1.0.1) c.put_places.ensures in
    subst (λ (g : Option Frame). Put (box_line (extent_in g)) a.at c.put_places.result a.text.now c.put_places.new.text) (sym c.in-Some.is) (put_join c.put_word-next.ensures q)
