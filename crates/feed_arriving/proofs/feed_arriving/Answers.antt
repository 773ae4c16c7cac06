-- `feed_arriving::feed_arriving` meets its contract. The invariant: what was fed so far, with the piece that is still to be fed, is what the blocks so far
-- come to, and no list has changed its length. Assumes nothing.
use mathlib.Core.Bool.{true≢false}
use borrow.Author.Tests.{not-false}
use mathlib.Core.Path.{◌∙◌, ◌≡◌, ap, refl, sym}
use Prim.Native.Nat.{◌≤◌}
use native.Mathlib.Omega.{arith}
use lib.ListN.{length, take}
use lib.Seq.{length-take-le}
use Rattle.rules.specs.declared.Rules.TheVariants.{FreeType}
use Rattle.graphics.specs.declared.GraphicsState.{GraphicsState}
use Rattle.line.specs.World.{Fixed, fixed, under, world}
use Rattle.feed_carry.specs.Carry.{fresh}
use Rattle.feed_blocks.specs.declared.Next.{Next}
use Rattle.feed.specs.Feed.{left}
use Rattle.record_read.specs.Format.{held}
use Rattle.feed_arriving.specs.Arriving.{at_first}
use Rattle.feed_arriving.proofs.Loop.{Arriving, arrived, fed_few, left_at, starts, turn}
use Rattle.feed_arriving.proofs.feed_arriving.Goals as goal
use Rattle.feed_arriving.proofs.feed_arriving.Goals.{At-loop, Start, else-loop-test, then-loop-test+then-not-next}

abbrev fixes : Start → Fixed
fixes s = let a = s.args in fixed FreeType a.controls.now a.gux.now a.guy.now a.gox.now a.goy.now a.contours.now

-- what was fed when the loop's head was reached
abbrev so_far : (l : At-loop) → let fixes : (Fixed) = (let a = l.args in fixed FreeType a.controls.now a.gux.now a.guy.now a.gox.now a.goy.now a.contours.now) in
    let a = l.args in
    Arriving (under a.rules fixes) (at_first (under a.rules fixes) a.carry.now (held fixes (take a.first a.words.now) (world a.s a.gx.now a.gy.now a.gflags.now a.tox.now a.toy.now a.tx.now a.ty.now a.tflags.now)))
    l.loop.next l.loop.block l.loop.words l.loop.lines (left l.loop.c l.loop.carry l.loop.gx l.loop.gy l.loop.gflags l.loop.tox l.loop.toy l.loop.tx l.loop.ty l.loop.tflags)
so_far l =
    let fixes : (Fixed) = (let a = l.args in fixed FreeType a.controls.now a.gux.now a.guy.now a.gox.now a.goy.now a.contours.now) in
    l.loop.invariant.arriving l.args.s l.begin-c.ensures

-- there is room for the words that are still to be fed
roomy : (l : At-loop) → l.loop.next.count ≤ length l.loop.words
roomy l = omega (arith, (so_far l).kept.1, l.loop.invariant.kept_long.words_long, l.requires.words_len)

pub loop-init : goal.loop-init
loop-init c =
    let b = c in
    let s = b in
    let a = s.args in
    record {
      arriving = λ (g : GraphicsState). λ (e : b.begin-c.result ≡ fresh g). starts (under a.rules (fixes (goal.at.loop-init c).Start)) (fixes (goal.at.loop-init c).Start) g a.first a.block.now a.words.now a.carry.now a.gx.now a.gy.now a.gflags.now a.tox.now a.toy.now a.tx.now a.ty.now a.tflags.now s.requires.first_bound e;
      pending = refl;
      kept_long = record { block_long = refl; words_long = refl; carry_long = refl; gx_long = refl; gy_long = refl; gflags_long = refl; tox_long = refl; toy_long = refl; tx_long = refl; ty_long = refl; tflags_long = refl };
    }

pub slice_bounds-feed-end : goal.slice_bounds-feed-end
slice_bounds-feed-end c = roomy (goal.at.slice_bounds-feed-end c).At-loop

pub slice_bounds-feed-end-in-loop : goal.slice_bounds-feed-end-in-loop
slice_bounds-feed-end-in-loop c = sym (length-take-le _ _ (roomy (goal.at.slice_bounds-feed-end-in-loop c).At-loop))

pub overflow_add-lines : goal.overflow_add-lines
overflow_add-lines c =
    omega (arith, fed_few (so_far (goal.at.overflow_add-lines c).At-loop) c.loop.invariant.pending _ c.feed-c.ensures, c.feed-c.type_inv)

pub next_words-next-requires : goal.next_words-next-requires
next_words-next-requires c =
    record { begun_bound = (so_far (goal.at.next_words-next-requires c).At-loop).kept.0; block_len = c.loop.invariant.kept_long.block_long ∙ c.requires.block_len; words_len = c.loop.invariant.kept_long.words_long ∙ c.requires.words_len }

pub loop-preserved : goal.loop-preserved
loop-preserved c =
    let l = c in
    let block-kept : length c.next_words-next.new.block ≡ length l.args.block.now = ◌∙◌ {b = length l.loop.block} (search c.next_words-next.auto) l.loop.invariant.kept_long.block_long in
    record {
      arriving = λ (g : GraphicsState). λ (e : l.begin-c.result ≡ fresh g).
          turn (l.loop.invariant.arriving g e) l.loop.invariant.pending _ c.is_open.result _ _ _ (omega (arith, block-kept, l.requires.block_len)) c.feed-c.ensures c.is_open.ensures
          c.next_words-next.ensures.kept c.next_words-next.ensures.came c.next_words-next.ensures.begun_value c.next_words-next.ensures.wanted_value;
      pending = not-false _ c.if-not-next.false;
      kept_long =
          record {
            block_long = block-kept;
            words_long = ◌∙◌ {b = length l.loop.words} (search c.next_words-next.auto) l.loop.invariant.kept_long.words_long;
            carry_long = ◌∙◌ {b = length l.loop.carry} c.feed-c.auto.carry l.loop.invariant.kept_long.carry_long;
            gx_long = ◌∙◌ {b = length l.loop.gx} c.feed-c.auto.gx l.loop.invariant.kept_long.gx_long;
            gy_long = ◌∙◌ {b = length l.loop.gy} c.feed-c.auto.gy l.loop.invariant.kept_long.gy_long;
            gflags_long = ◌∙◌ {b = length l.loop.gflags} c.feed-c.auto.gflags l.loop.invariant.kept_long.gflags_long;
            tox_long = ◌∙◌ {b = length l.loop.tox} c.feed-c.auto.tox l.loop.invariant.kept_long.tox_long;
            toy_long = ◌∙◌ {b = length l.loop.toy} c.feed-c.auto.toy l.loop.invariant.kept_long.toy_long;
            tx_long = ◌∙◌ {b = length l.loop.tx} c.feed-c.auto.tx l.loop.invariant.kept_long.tx_long;
            ty_long = ◌∙◌ {b = length l.loop.ty} c.feed-c.auto.ty l.loop.invariant.kept_long.ty_long;
            tflags_long = ◌∙◌ {b = length l.loop.tflags} c.feed-c.auto.tflags l.loop.invariant.kept_long.tflags_long;
          };
    }

pub returns : goal.returns
returns c e =
    let a = c.args in
    let b = goal.at.returns c in
    let left_off = so_far b.At-loop in
    elim c.loop-test.branch [
      | else-loop-test w ↦ absurd (true≢false (sym c.loop.invariant.pending ∙ sym (ap (λ (n : Next). n.more) w.next-is) ∙ c.is_unread.ensures e))
      | then-loop-test+then-not-next w ↦
          let block-kept : length w.next_words-next.new.block ≡ length a.block.now = ◌∙◌ {b = length c.loop.block} (search w.next_words-next.auto) c.loop.invariant.kept_long.block_long in
          let v =
          left_at w.next-is w.block-is w.words-is w.lines-is
          (λ i. left (w.c-is i) (w.carry-is i) (w.gx-is i) (w.gy-is i) (w.gflags-is i) (w.tox-is i) (w.toy-is i) (w.tx-is i) (w.ty-is i) (w.tflags-is i))
          (turn left_off c.loop.invariant.pending _ w.is_open.result _ _ _ (omega (arith, block-kept, c.requires.block_len)) w.feed-c.ensures w.is_open.ensures
          w.next_words-next.ensures.kept w.next_words-next.ensures.came w.next_words-next.ensures.begun_value w.next_words-next.ensures.wanted_value) in
          arrived a.s a.gx.now a.gy.now a.gflags.now a.tox.now a.toy.now a.tx.now a.ty.now a.tflags.now a.out.now v (c.is_unread.ensures e) (c.finish-said.ensures a.rules v.begun v.begun_long)
    ]
