use Rattle.std.proofs.Common.{ℕ, List, flat_map, length, replicate, ap, ◌∙◌}
use Rattle.std.proofs.lemmas.List.{take_all}
use Rattle.written_names.specs.declared.roster.WrittenGroup.{WrittenGroup}
use Rattle.written_groups.proofs.Starts.{count_of}
use Rattle.written_groups.proofs.members.member_starts.Goals as goal

pub returns-clause-count : goal.returns-clause-count
returns-clause-count c =
    let whole =
    c.loop-group.invariant
    ∙ ap (flat_map (λ (group : WrittenGroup). replicate group.count group.start)) (take_all c.loop-group.group-index c.args.groups.now c.loop-group-test.false) in
    ap (λ (starts : List ℕ). length starts) whole ∙ count_of c.args.groups.now
