use Rattle.std.proofs.Common.{◌≡◌, List, ℕ, map, nat_eq, is_some, ap, sym, ◌∙◌}
use Rattle.std.specs.List.{list_any}
use Rattle.toml.specs.Data.{Data}
use Rattle.toml.specs.View.{view}
use Rattle.toml.specs.declared.value.Value.{Value}
use Rattle.schema.specs.Tree.{items_at}
use Rattle.schema.specs.declared.schema.Version.{Version}
use Rattle.schema.specs.declared.schema.FormatKey.TheVariants as key
use Rattle.schema.proofs.Trees.{any-map}
use Rattle.scenario.specs.Setup.{Group}
use Rattle.scenario_reader.specs.Reading.{added_items, member_at, crash_in, leave_in, crashes_in, leaves_in}
use Rattle.scenario_reader.specs.Rules.{any_two, is_same_member, is_same_leaver, crashes_too}
use Rattle.scenario.specs.declared.settings.Crash.{Crash}
use Rattle.scenario_reader.proofs.Trees.{any_same, any_items, map_items}
use Rattle.scenario_reader.proofs.Chain.{leave_pairs, crash_and_leave}
use Rattle.scenario_reader.proofs.Sweep.{two-map}
use Rattle.scenario_reader.proofs.additions.check_departures.Goals as goal

module _ (gs : List Group) (v : Version) (tree : Data) (leaves : List Value) (items : map view leaves ≡ added_items v key.Leave tree) where
  -- two leaves of one member, read as crashes
  twice : any_two is_same_leaver (leaves_in v gs tree) ≡ any_two is_same_member (map (λ d. crash_in gs (view d)) leaves)
  twice =
      two-map is_same_leaver (leave_in gs) (added_items v key.Leave tree) ∙ sym (two-map is_same_member (crash_in gs) (added_items v key.Leave tree))
      ∙ ap (any_two is_same_member) (sym (map_items (crash_in gs) (added_items v key.Leave tree) leaves items))

  module _ (crashes : List Value) (crash_items : map view crashes ≡ items_at key.Crash tree) (keys : List ℕ)
      (are : (k : ℕ) → list_any (nat_eq k) keys ≡ list_any (λ n. nat_eq n k) (map (λ d. member_at gs key.Member (view d)) crashes)) where
    crashing : (k : ℕ) → list_any (λ (c : Crash). nat_eq c.member k) (crashes_in gs tree) ≡ list_any (nat_eq k) keys
    crashing k =
        any-map (λ (c : Crash). nat_eq c.member k) (crash_in gs) (items_at key.Crash tree) ∙ sym (any-map (λ n. nat_eq n k) (member_at gs key.Member) (items_at key.Crash tree))
        ∙ ap (list_any (λ n. nat_eq n k)) (sym (map_items (member_at gs key.Member) (items_at key.Crash tree) crashes crash_items)) ∙ sym (are k)

    both_ways : list_any (crashes_too (crashes_in gs tree)) (leaves_in v gs tree) ≡ list_any (λ d. list_any (nat_eq (member_at gs key.Member d)) keys) (added_items v key.Leave tree)
    both_ways =
        any-map (crashes_too (crashes_in gs tree)) (leave_in gs) (added_items v key.Leave tree)
        ∙ any_same (λ d. crashes_too (crashes_in gs tree) (leave_in gs d)) (λ d. list_any (nat_eq (member_at gs key.Member d)) keys) (λ d. crashing (member_at gs key.Member d)) (added_items v key.Leave tree)

pub returns-in-Err-clause-err : goal.returns-in-Err-clause-err
returns-in-Err-clause-err c = λ other.
    let gs = c.args.roster.now in
    let v = c.args.version in
    let tree = view c.args.tree.now in
    let broken = c.in-Err.ensures.err other in
    (broken.0, leave_pairs (crashes_in gs tree) (leaves_in v gs tree) (twice gs v tree c.added_items-leaves.result.now c.added_items-leaves.ensures ∙ broken.1))

pub returns-in-Some-clause-err : goal.returns-in-Some-clause-err
returns-in-Some-clause-err c = λ other.
    let gs = c.args.roster.now in
    let v = c.args.version in
    let tree = view c.args.tree.now in
    let leaves = c.added_items-leaves.result.now in
    let keys = c.in-Ok.crashing.keys in
    let once = twice gs v tree leaves c.added_items-leaves.ensures ∙ c.in_default.ensures.ok in
    let crossed = both_ways gs v tree leaves c.added_items-leaves.ensures c.items_at.result.now c.items_at.ensures keys c.in-Ok.ensures
    ∙ any_items (λ d. list_any (nat_eq (member_at gs key.Member d)) keys) (added_items v key.Leave tree) leaves c.first_among.result c.added_items-leaves.ensures c.first_among.ensures in
    (c.in_item.ensures, crash_and_leave (crashes_in gs tree) (leaves_in v gs tree) _ once (crossed ∙ ap is_some c.in-Some.is))

pub returns-clause-ok : goal.returns-clause-ok
returns-clause-ok c =
    let gs = c.args.roster.now in
    let v = c.args.version in
    let tree = view c.args.tree.now in
    let leaves = c.added_items-leaves.result.now in
    let keys = c.in-Ok.crashing.keys in
    let once = twice gs v tree leaves c.added_items-leaves.ensures ∙ c.in_default.ensures.ok in
    let crossed = both_ways gs v tree leaves c.added_items-leaves.ensures c.items_at.result.now c.items_at.ensures keys c.in-Ok.ensures
    ∙ any_items (λ d. list_any (nat_eq (member_at gs key.Member d)) keys) (added_items v key.Leave tree) leaves c.first_among.result c.added_items-leaves.ensures c.first_among.ensures in
    crash_and_leave (crashes_in gs tree) (leaves_in v gs tree) _ once (crossed ∙ ap is_some c.in-None.is)
