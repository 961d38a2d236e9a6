use Rattle.std.proofs.Common.{◌≡◌, ◌++◌, ◌∷◌, [], Ok, Some, None, true, false, map, is_some, ap, sym, ◌∙◌, bytes_eq, String, Global}
use Rattle.std.specs.List.{list_any}
use Rattle.std.specs.HashMap.{get}
use Rattle.std.specs.String.{string_eq}
use Rattle.scenario_reader.specs.Roster.{named_group}
use Rattle.scenario_reader.specs.declared.roster.Block.{Block}
use Rattle.scenario.specs.GroupNames.{is_name_of}
use Rattle.scenario_reader.proofs.Groups.{name_taken, taken_is, group_added, block_added}
use Rattle.scenario_reader.proofs.roster.add_group.Goals as goal
use Rattle.scenario_reader.proofs.roster.add_group.Goals.{in-Ok-None, in-Ok-Some, in-Err}

pub returns-clause-added : goal.returns-clause-added
returns-clause-added c =
    elim c.match-insert.branch [
      | in-Ok-None w ↦ λ _.
          let new : get string_eq c.args.groups.now c.in-Ok.key ≡ None = cc w.in-Ok-None.ensures.old in
          ap (map named_group) w.in-Ok-None.ensures.entries ∙ group_added c.args.groups.now c.in-Ok.key c.args.block new
          ∙ ap (λ name. map named_group c.args.groups.now.entries ++ record { name = name; count = c.args.block.count; start = c.args.block.start; contact = None } ∷ []) c.in-Ok.ensures.ok
      | in-Ok-Some w ↦ λ ok. let no : Ok false ≡ Ok true = sym w.result-is ∙ ok in cc
      | in-Err w ↦ λ ok. cc
    ]

pub returns-clause-numbered : goal.returns-clause-numbered
returns-clause-numbered c =
    elim c.match-insert.branch [
      | in-Ok-None w ↦ λ _.
          let new : get string_eq c.args.groups.now c.in-Ok.key ≡ None = cc w.in-Ok-None.ensures.old in
          ap (map (λ (e : String Global × Block). e.1)) w.in-Ok-None.ensures.entries ∙ block_added c.args.groups.now c.in-Ok.key c.args.block new
      | in-Ok-Some w ↦ λ ok. let no : Ok false ≡ Ok true = sym w.result-is ∙ ok in cc
      | in-Err w ↦ λ ok. cc
    ]

pub returns-clause-fine : goal.returns-clause-fine
returns-clause-fine c =
    let groups = map named_group c.args.groups.now.entries in
    let named : is_name_of c.args.version c.args.name.now ≡ true = cc in
    let taken : list_any (λ g. bytes_eq c.args.name.now g.name) groups ≡ is_some (get string_eq c.args.groups.now c.in-Ok.key) =
    ap (λ name. list_any (λ g. bytes_eq name g.name) groups) (sym c.in-Ok.ensures.ok) ∙ sym (name_taken c.args.groups.now.entries c.in-Ok.key) in
    elim c.match-insert.branch [
      | in-Ok-None w ↦
          let new : get string_eq c.args.groups.now c.in-Ok.key ≡ None = cc w.in-Ok-None.ensures.old in
          rw w.result-is (taken_is c.args.version groups c.args.name.now false named (taken ∙ ap is_some new))
      | in-Ok-Some w ↦
          let old : get string_eq c.args.groups.now c.in-Ok.key ≡ Some w.in-Ok-Some.field-0-0 = cc w.in-Ok-Some.ensures.old in
          rw w.result-is (taken_is c.args.version groups c.args.name.now true named (taken ∙ ap is_some old))
      | in-Err w ↦ rw w.result-is tt
    ]
