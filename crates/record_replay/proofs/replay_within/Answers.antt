-- `record_replay::replay_within` meets its contract: by the verdict on the bytes, a refusal or a replay. Assumes nothing.
use mathlib.Core.Path.{◌∙◌, ap, sym}
use Rattle.record_run.specs.After.{shelved}
use Rattle.record_replay.specs.Shelf.{refused_as}
use Rattle.record_replay.proofs.Cases.{damaged, opened, within}
use Rattle.record_replay.proofs.replay_within.Goals as goal

pub replay_whole-requires : goal.replay_whole-requires
replay_whole-requires c =
    let all = within c.args.bytes.now _ (sym c.open-opened.ensures ∙ c.in-Ok.is) in
    record { points_le_point_room = all.0; contours_le_list_room = all.1.0; twilight_le_twilight_room = all.1.1.0; controls_le_list_room = all.1.1.1.0; words_le_list_room = all.1.1.1.1 }

pub returns-in-Err : goal.returns-in-Err
returns-in-Err c =
    let a = c.args in
    ap (λ r. shelved r a.out.now) (c.refuse.ensures ∙ ap refused_as c.number.ensures)
    ∙ damaged a.rules a.most a.bytes.now a.out.now _ (sym c.open-opened.ensures ∙ c.in-Err.is)

pub returns-in-Ok : goal.returns-in-Ok
returns-in-Ok c =
    let a = c.args in
    c.replay_whole.ensures ∙ opened a.rules a.most a.bytes.now a.out.now _ (sym c.open-opened.ensures ∙ c.in-Ok.is)
