-- `record_write::write` meets its contract: by its three tests nothing is written, or the stores leave the record. Assumes nothing.
use mathlib.Core.Path.{◌∙◌, sym}
use borrow.Author.Tests.{not-false, not-true}
use Rattle.rules.specs.declared.Rules.TheVariants.{FreeType}
use Rattle.line.specs.World.{fixed, world}
use Rattle.record_read.specs.Format.{held}
use Rattle.record_write.proofs.Cases.{count_words, no_zones, too_long, too_short, written}
use Rattle.record_write.proofs.write.Goals as goal

pub returns-then-not-sized : goal.returns-then-not-sized
returns-then-not-sized c =
    let a = c.args in
    no_zones a.most (held (fixed FreeType a.controls.now a.gux.now a.guy.now a.gox.now a.goy.now a.contours.now) a.sheet.now (world a.s a.gx.now a.gy.now a.gflags.now a.tox.now a.toy.now a.tx.now a.ty.now a.tflags.now)) a.out.now (sym (c.sizes_fit-sized.ensures FreeType) ∙ not-true _ c.if-not-sized.true-raw)

pub layout_for-l-requires : goal.layout_for-l-requires
layout_for-l-requires c =
    let a = c.args in let all = count_words (held (fixed FreeType a.controls.now a.gux.now a.guy.now a.gox.now a.goy.now a.contours.now) a.sheet.now (world a.s a.gx.now a.gy.now a.gflags.now a.tox.now a.toy.now a.tx.now a.ty.now a.tflags.now)) (sym (c.sizes_fit-sized.ensures FreeType) ∙ not-false _ c.if-not-sized.false-raw) in
    record { points_bound = all.0; contours_bound = all.1.0; twilight_bound = all.1.1.0; controls_bound = all.1.1.1.0; words_bound = all.1.1.1.1 }

pub returns-then-size-most : goal.returns-then-size-most
returns-then-size-most c =
    let a = c.args in
    too_long a.most (held (fixed FreeType a.controls.now a.gux.now a.guy.now a.gox.now a.goy.now a.contours.now) a.sheet.now (world a.s a.gx.now a.gy.now a.gflags.now a.tox.now a.toy.now a.tx.now a.ty.now a.tflags.now)) a.out.now (sym (c.sizes_fit-sized.ensures FreeType) ∙ not-false _ c.if-not-sized.false-raw) _ c.layout_for-l.ensures _ c.record_size-size.ensures c.if-size-most.true

pub returns-then-size-out : goal.returns-then-size-out
returns-then-size-out c =
    let a = c.args in
    too_short a.most (held (fixed FreeType a.controls.now a.gux.now a.guy.now a.gox.now a.goy.now a.contours.now) a.sheet.now (world a.s a.gx.now a.gy.now a.gflags.now a.tox.now a.toy.now a.tx.now a.ty.now a.tflags.now)) a.out.now (sym (c.sizes_fit-sized.ensures FreeType) ∙ not-false _ c.if-not-sized.false-raw) _ c.layout_for-l.ensures _ c.record_size-size.ensures c.if-size-most.false c.if-size-out.true

pub returns : goal.returns
returns c =
    let a = c.args in
    written a.most (held (fixed FreeType a.controls.now a.gux.now a.guy.now a.gox.now a.goy.now a.contours.now) a.sheet.now (world a.s a.gx.now a.gy.now a.gflags.now a.tox.now a.toy.now a.tx.now a.ty.now a.tflags.now)) a.out.now (sym (c.sizes_fit-sized.ensures FreeType) ∙ not-false _ c.if-not-sized.false-raw) _ c.layout_for-l.ensures _ c.record_size-size.ensures c.if-size-most.false c.if-size-out.false c.store.ensures
