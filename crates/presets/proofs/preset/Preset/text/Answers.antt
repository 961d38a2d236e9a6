use Rattle.presets.specs.Texts.{cluster_of, gossip_of, probing_of, settings_of, suspicion_of}
use Rattle.presets.proofs.LinesOfRows.{tells_comments, tells_more, tells_none}
use Rattle.presets.proofs.preset.Preset.text.Goals as goal

pub returns : goal.returns
unfolding settings_of
returns c =
    let preset = c.args.self in
    let probing = tells_more preset probing_of _ _ _ _ c.in_ok-push_rows.ensures c.probing_rows.ensures (tells_none _ c.new-text.ensures.bytes) in
    let suspicion = tells_more preset suspicion_of _ _ _ _ c.in_ok-push_rows-2.ensures c.suspicion_rows.ensures probing in
    let gossip = tells_more preset gossip_of _ _ _ _ c.in_ok-push_rows-3.ensures c.gossip_rows.ensures suspicion in
    let cluster = tells_more preset cluster_of _ _ _ _ c.in_ok-push_rows-4.ensures c.cluster_rows.ensures gossip in
    let leaves = tells_comments preset _ _ _ _ c.in_ok-push_rows-5.ensures c.leave_rows.ensures cluster in
    let restarts = tells_comments preset _ _ _ _ c.in_ok-push_rows-6.ensures c.restart_rows.ensures leaves in
    tells_comments preset _ _ _ _ c.in_ok-push_rows-7.ensures c.cut_rows.ensures restarts
