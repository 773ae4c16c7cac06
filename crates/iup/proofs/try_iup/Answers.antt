-- `iup::try_iup` meets its contract: it is `iup`, behind the tests of the sizes and of the ends. Assumes nothing.
use mathlib.Core.Path.{sym, ◌∙◌}
use lib.ListN.{length}
use Rattle.iup.proofs.Walks.{sizes_same, tried, tried_ends, tried_sizes}
use Rattle.iup.proofs.try_iup.Goals as goal

pub iup-requires : goal.iup-requires
iup-requires c = let e = c in let i = e in let f = i in let a = f.args in
    let (u, o, g) =
    sizes_same (length a.flags.now) (length a.contours.now) (length a.unscaled.now) (length a.original.now) (length a.current.now)
    (sym f.sizes_fit.ensures ∙ i.if-sizes_fit.true) in
    (u, o, g, sym e.ends_rise.ensures ∙ c.if-ends_rise.true)

pub returns-then-ends_rise : goal.returns-then-ends_rise
returns-then-ends_rise c = let k = c in let g = k in let e = g in let i = e in let f = i in let a = f.args in
    tried a.axis a.flags.now a.contours.now a.unscaled.now a.original.now a.current.now (sym f.sizes_fit.ensures ∙ i.if-sizes_fit.true) (sym e.ends_rise.ensures ∙ g.if-ends_rise.true) k.iup.ensures

pub returns-else-ends_rise : goal.returns-else-ends_rise
returns-else-ends_rise c = let e = c in let i = e in let f = i in let a = f.args in
    tried_ends a.axis a.flags.now a.contours.now a.unscaled.now a.original.now a.current.now (sym f.sizes_fit.ensures ∙ i.if-sizes_fit.true) (sym e.ends_rise.ensures ∙ c.if-ends_rise.false)

pub returns-else-sizes_fit : goal.returns-else-sizes_fit
returns-else-sizes_fit c = let f = c in let a = f.args in
    tried_sizes a.axis a.flags.now a.contours.now a.unscaled.now a.original.now a.current.now (sym f.sizes_fit.ensures ∙ c.if-sizes_fit.false)
