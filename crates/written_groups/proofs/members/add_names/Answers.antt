use Rattle.std.proofs.Common.{◌≡◌, ◌++◌, map, string_bytes, codes, append_assoc, sym, ◌∙◌}
use Rattle.std.specs.Fmt.{decimal}
use Rattle.scenario.proofs.Names.{names-more}
use Rattle.written_groups.proofs.members.add_names.Goals as goal

pub loop-index-preserved : goal.loop-index-preserved
loop-index-preserved c =
    let spelt : string_bytes c.in-Ok.name ≡ c.args.group.now ++ codes "-" ++ decimal c.loop-index.index-counter = c.in-Ok.ensures.ok ∙ sym (append_assoc c.args.group.now (codes "-") (decimal c.loop-index.index-counter)) in
    names-more c.loop-index.names.items c.push.new.self.items c.in-Ok.name (map string_bytes c.args.names.now.items) c.args.group.now c.loop-index.index-counter
    c.in_ok-push.ensures.items spelt c.loop-index.invariant
