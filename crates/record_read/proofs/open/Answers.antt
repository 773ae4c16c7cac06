-- `record_read::open` meets its contract: each way out is a case of `open_of`. Assumes nothing.
use Rattle.std.specs.Prelude.{Ok}
use mathlib.Core.Path.{◌∙◌, ap, sym}
use borrow.Author.Tests.{not-false, not-true}
use Rattle.record_read.specs.Read.{words_fit}
use Rattle.record_read.proofs.Verdict.{no_fit, no_frame, no_sum, too_long, whole}
use Rattle.record_read.proofs.open.Goals as goal

pub returns-then-bytes-gt-MOST_BYTES : goal.returns-then-bytes-gt-MOST_BYTES
returns-then-bytes-gt-MOST_BYTES c = too_long c.args.bytes.now c.if-bytes-gt-MOST_BYTES.true

pub returns-then-not-is_framed : goal.returns-then-not-is_framed
returns-then-not-is_framed c = no_frame c.args.bytes.now c.if-bytes-gt-MOST_BYTES.false (sym c.is_framed.ensures ∙ not-true _ c.if-not-is_framed.true-raw)

pub returns-then-not-words_fit_layout : goal.returns-then-not-words_fit_layout
returns-then-not-words_fit_layout c =
    let b = c.args.bytes.now in
    no_fit b c.if-bytes-gt-MOST_BYTES.false (sym c.is_framed.ensures ∙ not-false _ c.if-not-is_framed.false-raw)
    (sym (c.words_fit_layout.ensures ∙ ap (words_fit b) c.layout_of-l.ensures) ∙ not-true _ c.if-not-words_fit_layout.true-raw)

pub returns-then-not-sum_fits : goal.returns-then-not-sum_fits
returns-then-not-sum_fits c =
    let b = c.args.bytes.now in
    no_sum b c.if-bytes-gt-MOST_BYTES.false (sym c.is_framed.ensures ∙ not-false _ c.if-not-is_framed.false-raw)
    (sym (c.words_fit_layout.ensures ∙ ap (words_fit b) c.layout_of-l.ensures) ∙ not-false _ c.if-not-words_fit_layout.false-raw)
    (sym c.sum_fits.ensures ∙ not-true _ c.if-not-sum_fits.true-raw)

pub returns : goal.returns
returns c =
    let b = c.args.bytes.now in
    ap Ok c.layout_of-l.ensures
    ∙ whole b c.if-bytes-gt-MOST_BYTES.false (sym c.is_framed.ensures ∙ not-false _ c.if-not-is_framed.false-raw)
    (sym (c.words_fit_layout.ensures ∙ ap (words_fit b) c.layout_of-l.ensures) ∙ not-false _ c.if-not-words_fit_layout.false-raw)
    (sym c.sum_fits.ensures ∙ not-false _ c.if-not-sum_fits.false-raw)
