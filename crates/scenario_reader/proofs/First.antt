-- A document of version 1 is judged as before there was version 2, and says nothing of leaves and cuts. One of
-- version 2 is judged as before there was version 3, and one of version 3 as before there was version 4. None of them says
-- anything of what later versions add.
use Rattle.std.proofs.Common.{◌≡◌, ℕ, List, [], ◌||◌, Bool, true, false, nat_lt, Option, Some, None, refl, ap, sym, subst, ◌∙◌}
use Rattle.std.specs.List.{list_any}
use Rattle.std.specs.Option.{option_or, option_map, option_and_then, option_map_or}
use Rattle.toml.specs.Data.{Data}
use Rattle.schema.specs.Schema.{most_members}
use Rattle.schema.specs.Tree.{value_at}
use Rattle.schema.specs.Shape.{least_broken_of_shape}
use Rattle.schema.specs.declared.schema.Version.{Version}
use Rattle.schema.specs.declared.schema.Version.TheVariants.{One, Two, Three, Four}
use Rattle.schema.specs.declared.schema.FormatKey.TheVariants as key
use Rattle.scenario.specs.Setup.{Setup, member_count, IsPlain, IsBeforeThird, IsWithoutThird, IsBeforeFourth}
use Rattle.scenario_reader.specs.Reading.{version_of, added_items, pause_items, plain_groups, leaves_in, cuts_in, pauses_in, fallback_in, gossip_in, queue_in, serf_in, fourth_table, restarts_in, blocks_in, setup_of_tree}
use Rattle.scenario_reader.specs.Rules.{names_no_member, names_no_group, is_early_leave, is_cut_over, is_pause_over, breaks_names, breaks_references, breaks_pairs, breaks_times, breaks_added_references, breaks_departures, breaks_pauses, breaks_added_times, breaks_size, least_of, least_broken, least_broken_by, least_broken_in, third_least_broken, third_verdict, first_least_broken, first_least_broken_by, judged_if_read, unless_broken, tree_of, verdict, first_verdict, second_breaks_references, second_breaks_times, second_least_broken, second_least_broken_by, second_verdict, version_in}
use Rattle.scenario_reader.proofs.Chain.{version_is}

pub plain_of : (d : Data) → version_of d ≡ One → IsPlain (setup_of_tree d)
unfolding setup_of_tree
plain_of d first = record { leaves = ap (λ v. leaves_in v (plain_groups d) d) first; cuts = ap (λ v. cuts_in v (plain_groups d) d) first }

without : (v : Version) (d : Data) → IsBeforeThird v → (fallback_in v (value_at key.Swim d) ≡ false) × (gossip_in v (value_at key.Gossip d) ≡ None) × (pauses_in v (plain_groups d) d ≡ [])
without One d old = (refl, refl, refl)
without Two d old = (refl, refl, refl)
without Three d old = absurd old
without Four d old = absurd old

pub without_third : (d : Data) → IsBeforeThird (version_of d) → IsWithoutThird (setup_of_tree d)
unfolding setup_of_tree
without_third d old = let none = without (version_of d) d old in record { fallback = none.0; gossip = none.1; pauses = none.2 }

-- what a document of version 1, 2 or 3 leaves out
pub record IsWithoutAdded (s : Setup) : Type 0 where
  pub restarts : s.restarts ≡ []
  pub blocks : s.blocks ≡ []
  pub queue : s.queue ≡ None
  pub serf : s.serf ≡ None

left_out : (v : Version) (d : Data) → IsBeforeFourth v
    → (restarts_in v (plain_groups d) d ≡ []) × (blocks_in v (plain_groups d) d ≡ []) × (option_and_then queue_in (fourth_table v key.Gossip d) ≡ None) × (option_map serf_in (fourth_table v key.Serf d) ≡ None)
left_out One d old = (refl, refl, refl, refl)
left_out Two d old = (refl, refl, refl, refl)
left_out Three d old = (refl, refl, refl, refl)
left_out Four d old = absurd old

pub without_added : (d : Data) → IsBeforeFourth (version_of d) → IsWithoutAdded (setup_of_tree d)
unfolding setup_of_tree
without_added d old = let none = left_out (version_of d) d old in record { restarts = none.0; blocks = none.1; queue = none.2; serf = none.3 }

first_is_old : (v : Version) → v ≡ One → IsBeforeThird v
first_is_old v first = subst IsBeforeThird (sym first) tt

second_is_old : (v : Version) → v ≡ Two → IsBeforeThird v
second_is_old v second = subst IsBeforeThird (sym second) tt

no_references : (d : Data) (v : Version) → v ≡ One → breaks_added_references v d (plain_groups d) ≡ false
unfolding breaks_added_references
no_references d v first =
    ap (λ w. list_any (names_no_member (plain_groups d)) (added_items w key.Leave d) || (list_any (names_no_group (plain_groups d)) (added_items w key.Cut d) || list_any (names_no_member (plain_groups d)) (pause_items w d))) first

no_departures : (s : Setup) → s.leaves ≡ [] → breaks_departures s.crashes s.leaves ≡ false
unfolding breaks_departures
no_departures s none = ap (breaks_departures s.crashes) none

no_pauses : (s : Setup) → s.pauses ≡ [] → breaks_pauses s.pauses ≡ false
unfolding breaks_pauses
no_pauses s none = ap breaks_pauses none

no_times : (s : Setup) → IsPlain s → s.pauses ≡ [] → breaks_added_times s ≡ false
unfolding breaks_added_times
no_times s plain none =
    ap (λ ls. list_any (is_early_leave s) ls || (list_any is_cut_over s.cuts || list_any is_pause_over s.pauses)) plain.leaves
    ∙ ap (λ cs. list_any is_cut_over cs || list_any is_pause_over s.pauses) plain.cuts ∙ ap (list_any is_pause_over) none

none_more : (a b : Bool) → b ≡ false → (a || b) ≡ a
none_more true b none = refl
none_more false b none = none

by_first : (d : Data) (s : Setup) → s.version ≡ One → IsPlain s → s.pauses ≡ [] → least_broken_by d s ≡ first_least_broken_by d s
unfolding least_broken_by first_least_broken_by
by_first d s first plain none =
    let names = breaks_names (plain_groups d) in
    let references = breaks_references d (plain_groups d) in
    let pairs = breaks_pairs s.crashes s.slows in
    let departures = breaks_departures s.crashes s.leaves in
    let pauses = breaks_pauses s.pauses in
    let times = breaks_times s in
    let added = breaks_added_times s in
    ap (λ b. least_of names b (pairs || (departures || pauses)) (times || added) (breaks_size s)) (none_more references (breaks_added_references s.version d (plain_groups d)) (no_references d s.version first))
    ∙ ap (λ b. least_of names references b (times || added) (breaks_size s)) (none_more pairs (departures || pauses) (none_more departures pauses (no_pauses s none) ∙ no_departures s plain.leaves))
    ∙ ap (λ b. least_of names references pairs b (breaks_size s)) (none_more times added (no_times s plain none))
    ∙ ap (λ v. least_of names references pairs times (nat_lt (most_members v) (member_count s))) first

least_as_before : (d : Data) → version_of d ≡ One → least_broken d ≡ first_least_broken d
unfolding least_broken first_least_broken
least_as_before d first =
    let s = setup_of_tree d in
    ap (λ v. option_or (least_broken_of_shape v d) (least_broken_in v d s)) first ∙ ap (option_or (least_broken_of_shape One d)) (by_first d s (version_is d ∙ first) (plain_of d first) (without_third d (first_is_old (version_of d) first)).pauses)

answered_as_before : (o : Option Data) → option_map_or version_of o One ≡ One → judged_if_read first_least_broken o ≡ judged_if_read least_broken o
answered_as_before None first = refl
answered_as_before (Some d) first = ap (unless_broken (setup_of_tree d)) (sym (least_as_before d first))

pub as_before : (bytes : List ℕ) → version_in bytes ≡ One → first_verdict bytes ≡ verdict bytes
unfolding verdict first_verdict
as_before bytes first = answered_as_before (tree_of bytes) first

-- ---- version 2

same_references : (d : Data) (v : Version) → v ≡ Two → breaks_added_references v d (plain_groups d) ≡ second_breaks_references v d (plain_groups d)
unfolding breaks_added_references second_breaks_references
same_references d v second =
    let leaves = list_any (names_no_member (plain_groups d)) (added_items v key.Leave d) in
    let cuts = list_any (names_no_group (plain_groups d)) (added_items v key.Cut d) in
    ap (λ b. leaves || b) (none_more cuts (list_any (names_no_member (plain_groups d)) (pause_items v d)) (ap (λ w. list_any (names_no_member (plain_groups d)) (pause_items w d)) second))

same_times : (s : Setup) → s.pauses ≡ [] → breaks_added_times s ≡ second_breaks_times s
unfolding breaks_added_times second_breaks_times
same_times s none = ap (λ b. list_any (is_early_leave s) s.leaves || b) (none_more (list_any is_cut_over s.cuts) (list_any is_pause_over s.pauses) (ap (list_any is_pause_over) none))

by_second : (d : Data) (s : Setup) → s.version ≡ Two → s.pauses ≡ [] → least_broken_by d s ≡ second_least_broken_by d s
unfolding least_broken_by second_least_broken_by
by_second d s second none =
    let names = breaks_names (plain_groups d) in
    let references = breaks_references d (plain_groups d) in
    let pairs = breaks_pairs s.crashes s.slows in
    let departures = breaks_departures s.crashes s.leaves in
    let pauses = breaks_pauses s.pauses in
    let times = breaks_times s in
    ap (λ b. least_of names (references || b) (pairs || (departures || pauses)) (times || breaks_added_times s) (breaks_size s)) (same_references d s.version second)
    ∙ ap (λ b. least_of names (references || second_breaks_references s.version d (plain_groups d)) (pairs || b) (times || breaks_added_times s) (breaks_size s)) (none_more departures pauses (no_pauses s none))
    ∙ ap (λ b. least_of names (references || second_breaks_references s.version d (plain_groups d)) (pairs || departures) (times || b) (breaks_size s)) (same_times s none)

least_as_second : (d : Data) → version_of d ≡ Two → least_broken d ≡ second_least_broken d
unfolding least_broken second_least_broken
least_as_second d second =
    let s = setup_of_tree d in
    ap (λ v. option_or (least_broken_of_shape v d) (least_broken_in v d s)) second
    ∙ ap (option_or (least_broken_of_shape Two d)) (by_second d s (version_is d ∙ second) (without_third d (second_is_old (version_of d) second)).pauses)

answered_as_second : (o : Option Data) → option_map_or version_of o One ≡ Two → judged_if_read second_least_broken o ≡ judged_if_read least_broken o
answered_as_second None second = absurd (let no : One ≡ Two = second in cc)
answered_as_second (Some d) second = ap (unless_broken (setup_of_tree d)) (sym (least_as_second d second))

pub as_second : (bytes : List ℕ) → version_in bytes ≡ Two → second_verdict bytes ≡ verdict bytes
unfolding verdict second_verdict
as_second bytes second = answered_as_second (tree_of bytes) second

-- ---- version 3

least_as_third : (d : Data) → version_of d ≡ Three → least_broken d ≡ third_least_broken d
unfolding least_broken third_least_broken
least_as_third d third = ap (λ v. option_or (least_broken_of_shape v d) (least_broken_in v d (setup_of_tree d))) third

answered_as_third : (o : Option Data) → option_map_or version_of o One ≡ Three → judged_if_read third_least_broken o ≡ judged_if_read least_broken o
answered_as_third None third = absurd (let no : One ≡ Three = third in cc)
answered_as_third (Some d) third = ap (unless_broken (setup_of_tree d)) (sym (least_as_third d third))

pub as_third : (bytes : List ℕ) → version_in bytes ≡ Three → third_verdict bytes ≡ verdict bytes
unfolding verdict third_verdict
as_third bytes third = answered_as_third (tree_of bytes) third
