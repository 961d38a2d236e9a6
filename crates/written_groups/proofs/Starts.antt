-- As many starts as members.
use Rattle.std.proofs.Common.{◌≡◌, List, flat_map, length, replicate, sum_by, ◌∙◌}
use Rattle.std.proofs.lemmas.List.{length-replicate}
use Rattle.std.proofs.lemmas.List.Concat.{length-flat_map}
use Rattle.written_names.specs.declared.roster.WrittenGroup.{WrittenGroup}

pub count_of : (groups : List WrittenGroup) → length (flat_map (λ (group : WrittenGroup). replicate group.count group.start) groups) ≡ sum_by (λ (group : WrittenGroup). group.count) groups
count_of groups =
    length-flat_map (λ (group : WrittenGroup). replicate group.count group.start) groups
    ∙ (λ i. sum_by (λ (group : WrittenGroup). length-replicate group.count group.start i) groups)
