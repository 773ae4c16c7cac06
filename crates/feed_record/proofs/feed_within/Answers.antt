-- `feed_record::feed_within` meets its contract: by the verdict on the bytes, a refusal or a feed. Assumes nothing.
use mathlib.Core.Path.{◌∙◌, ap, sym}
use Rattle.record_replay.specs.Shelf.{refused_as}
use Rattle.record_replay.proofs.Cases.{within}
use Rattle.feed_record.proofs.Cases.{damaged, opened}
use Rattle.feed_record.proofs.feed_within.Goals as goal

pub feed_whole-requires : goal.feed_whole-requires
feed_whole-requires c =
    let all = within c.args.bytes.now _ (sym c.open-opened.ensures ∙ c.in-Ok.is) in
    record { points_le_point_room = all.0; contours_le_list_room = all.1.0; twilight_le_twilight_room = all.1.1.0; controls_le_list_room = all.1.1.1.0; words_le_list_room = all.1.1.1.1 }

pub returns-in-Err : goal.returns-in-Err
returns-in-Err c e =
    let a = c.args in
    damaged a.rules a.most a.bytes.now a.out.now _ (sym c.open-opened.ensures ∙ c.in-Err.is) (c.told.ensures ∙ c.refuse.ensures ∙ ap refused_as c.number.ensures)

pub returns-in-Ok : goal.returns-in-Ok
returns-in-Ok c e =
    let a = c.args in
    opened a.rules a.most a.bytes.now a.out.now _ (sym c.open-opened.ensures ∙ c.in-Ok.is) (c.feed_whole.ensures e)
