-- `line::fetch_in` meets its contract: by the pointer. Assumes nothing.
use mathlib.Core.Path.{sym, ap, ◌∙◌}
use Rattle.line.specs.Places.{fetch_in}
use Rattle.line.proofs.fetch_in.Goals as goal

pub returns-in-Glyph : goal.returns-in-Glyph
unfolding fetch_in
returns-in-Glyph c = let e = c in let s = e in
    c.fetch.ensures ∙ sym (ap (fetch_in s.args.at s.args.gx.now s.args.gy.now s.args.tx.now s.args.ty.now) e.in-Glyph.is)

pub returns-in-Twilight : goal.returns-in-Twilight
unfolding fetch_in
returns-in-Twilight c = let e = c in let s = e in
    c.fetch-in-Twilight.ensures ∙ sym (ap (fetch_in s.args.at s.args.gx.now s.args.gy.now s.args.tx.now s.args.ty.now) e.in-Twilight.is)
