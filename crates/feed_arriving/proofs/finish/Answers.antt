-- `feed_arriving::finish` meets its contract: by whether a word is begun. Assumes nothing.
use mathlib.Core.Bool.{◌&&◌}
use mathlib.Core.List.{List}
use mathlib.Core.Path.{◌∙◌, ◌≡◌, ap, sym}
use Prim.Native.Nat.{ℕ}
use lib.Dec.{ltb}
use lib.ListN.{length}
use Rattle.rules.specs.declared.Rules.TheVariants.{FreeType}
use Rattle.line.specs.World.{Fixed, fixed}
use Rattle.feed_carry.specs.Carry.{said_is_open}
use Rattle.feed.specs.Feed.{Left, left}
use Rattle.feed_arriving.specs.Steps.{arrived_by}
use Rattle.feed_arriving.proofs.Ends.{cut_short, not_cut}
use Rattle.feed_arriving.proofs.finish.Goals as goal
use Rattle.feed_arriving.proofs.finish.Goals.{After-is_cut, Start}

abbrev fixes : Start → Fixed
fixes s = let a = s.args in fixed FreeType a.controls.now a.gux.now a.guy.now a.gox.now a.goy.now a.contours.now

abbrev leaves : Start → Left
leaves s = let a = s.args in left a.c a.carry.now a.gx.now a.gy.now a.gflags.now a.tox.now a.toy.now a.tx.now a.ty.now a.tflags.now

-- the test, of bytes that are as many
tested : (k : After-is_cut) (bytes : List ℕ) → let a = k.args in a.begun ≡ length bytes → said_is_open a.c.said && ltb 0 (length bytes) ≡ k.is_cut.result
tested k bytes h = let a = k.args in ap (λ (n : ℕ). said_is_open a.c.said && ltb 0 n) (sym h) ∙ sym k.is_cut.ensures

pub returns-then-is_cut : goal.returns-then-is_cut
returns-then-is_cut c rules bytes h =
    cut_short rules c.args.most c.args.l (fixes (goal.at.returns-then-is_cut c).Start) c.args.out.now (arrived_by bytes c.args.lines (leaves (goal.at.returns-then-is_cut c).Start)) (tested (goal.at.returns-then-is_cut c).After-is_cut bytes h ∙ c.if-is_cut.true) c.refuse.ensures

pub returns : goal.returns
returns c rules bytes h =
    not_cut rules c.args.most c.args.l (fixes (goal.at.returns c).Start) c.args.out.now (arrived_by bytes c.args.lines (leaves (goal.at.returns c).Start)) (tested (goal.at.returns c).After-is_cut bytes h ∙ c.if-is_cut.false) (c.end_and_write.ensures rules)
