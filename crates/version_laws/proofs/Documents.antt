-- A document of version 1 that is accepted, given version 2.
use Rattle.std.proofs.Common.{◌≡◌, ℕ, List, [], ◌∷◌, map, ◌||◌, Bool, true, false, nat_lt, Option, Some, None, is_some, Result, Ok, Err, if◌then◌else◌, true≢false, refl, sym, ap, subst, ◌∙◌, arith}
use Rattle.std.specs.List.{list_any}
use Rattle.std.specs.Option.{option_or, option_map, option_and_then, option_map_or}
use Rattle.toml.specs.Data.{Data, string, integer, float, boolean, datetime, array, table, Members}
use Rattle.schema.specs.Schema.{most_members}
use Rattle.schema.specs.Tree.{value_at, items_of, tables_of}
use Rattle.schema.specs.Values.{whole_or, default_of, number_at}
use Rattle.schema.specs.Shape.{table_breaks, breaks, least_broken_of_shape, KeepsShape}
use Rattle.schema.specs.declared.schema.Version.TheVariants.{One, Two}
use Rattle.schema.specs.declared.schema.FormatKey.{FormatKey}
use Rattle.schema.specs.declared.schema.FormatKey.TheVariants as key
use Rattle.schema.specs.declared.schema.Section.TheVariants as section
use Rattle.schema.specs.declared.shape.Check.TheVariants.{Missing, Unknown, WrongKind, OutOfRange}
use Rattle.schema.proofs.Chain.{nothing_of_shape}
use Rattle.scenario.specs.Setup.{Setup, Group, member_count}
use Rattle.scenario_reader.specs.Reading.{version_numbered, version_of, plain_group, plain_groups, group_in, path_in, slow_in, crash_in, leave_in, cut_in, swim_in, suspicion_in, lifeguard_in, link_in, gossip_in, stream_in, stream_table, leaves_in, cuts_in, pauses_in, restarts_in, blocks_in, queue_in, dial_in, serf_in, fourth_table, setup_of_tree}
use Rattle.scenario_reader.specs.Rules.{has_lost_contact, names_no_member, names_no_group, breaks_names, breaks_references, breaks_added_references, breaks_pairs, breaks_departures, breaks_pauses, breaks_times, breaks_added_times, breaks_size, least_of, least_broken_by, least_broken_in, least_broken, unless_broken, document_verdict, tree_of, verdict}
use Rattle.scenario_reader.proofs.Chain.{version_is, accepted, answered_as_document}
use Rattle.scenario_reader.proofs.First.{plain_of}
use Rattle.sweep_plan.specs.Document.{data_of, with_value_in, with_values}
use Rattle.sweep_plan.specs.declared.choice.Choice.{Choice}
use Rattle.sweep_plan.specs.declared.set_keys.SetKey.TheVariants.{Plain}
use Rattle.sweep_plan.specs.declared.values.SweptValue.TheVariants.{Whole}
use Rattle.version_laws.specs.Versions.{in_version_2, given_version_2}
use Rattle.version_laws.proofs.Entries.{left_off, both_off}
use Rattle.version_laws.proofs.Shapes.{given, same_values, version_there, SaysNoMore, no_more_by_shape, shape_stays}

-- as a choice of a sweep
pub as_swept : (tree : Data) (c : Choice) → c.key.table ≡ None → c.key.key ≡ Plain key.Version → c.value ≡ Whole 2 → with_values tree (c ∷ []) None ≡ given_version_2 tree
unfolding with_values
as_swept tree c top version value = λ i. with_value_in (top i) c.key.item (version i) (data_of (value i)) tree

-- ---- what an answer says

abbrev scenario_or : Setup → Result Setup ℕ → Setup
scenario_or other (Ok s) = s
scenario_or other (Err rule) = other

abbrev is_accepted : Result Setup ℕ → Bool
is_accepted (Ok s) = true
is_accepted (Err rule) = false

abbrev pub Answers : Setup → Option ℕ → Setup → Type 0
Answers t o s = (o ≡ None) × (t ≡ s)

answer_says : (t : Setup) (o : Option ℕ) (s : Setup) → unless_broken t o ≡ Ok s → Answers t o s
answer_says t None s ok = (refl, ap (scenario_or t) ok)
answer_says t (Some rule) s ok = absurd (true≢false (sym (ap is_accepted ok)))

abbrev AreNone : Option ℕ → Option ℕ → Type 0
AreNone a b = (a ≡ None) × (b ≡ None)

neither : (a b : Option ℕ) → option_or a b ≡ None → AreNone a b
neither None b none = (refl, none)
neither (Some n) b none = absurd (true≢false (ap is_some none))

abbrev first_of_four : Bool → Bool → Bool → Bool → Option ℕ
first_of_four a b c d = if a then Some 2 else if b then Some 3 else if c then Some 4 else if d then Some 5 else None

abbrev FourOff : Bool → Bool → Bool → Bool → Type 0
FourOff a b c d = (a ≡ false) × (b ≡ false) × (c ≡ false) × (d ≡ false)

four_off : (a b c d : Bool) → first_of_four a b c d ≡ None → FourOff a b c d
four_off true b c d none = absurd (true≢false (ap is_some none))
four_off false true c d none = absurd (true≢false (ap is_some none))
four_off false false true d none = absurd (true≢false (ap is_some none))
four_off false false false true none = absurd (true≢false (ap is_some none))
four_off false false false false none = (refl, refl, refl, refl)

keeps_shape : (tree : Data) → least_broken_of_shape One tree ≡ None → KeepsShape One tree
unfolding least_broken_of_shape
keeps_shape tree none =
    let off = four_off (breaks One Missing tree) (breaks One Unknown tree) (breaks One WrongKind tree) (breaks One OutOfRange tree) none in
    record { missing = off.0; unknown = off.1; kinds = off.2; ranges = off.3 }

abbrev FiveOff : Bool → Bool → Bool → Bool → Bool → Type 0
FiveOff a b c d e = (a ≡ false) × (b ≡ false) × (c ≡ false) × (d ≡ false) × (e ≡ false)

five_off : (a b c d e : Bool) → least_of a b c d e ≡ None → FiveOff a b c d e
five_off true b c d e none = absurd (true≢false (ap is_some none))
five_off false true c d e none = absurd (true≢false (ap is_some none))
five_off false false true d e none = absurd (true≢false (ap is_some none))
five_off false false false true e none = absurd (true≢false (ap is_some none))
five_off false false false false true none = absurd (true≢false (ap is_some none))
five_off false false false false false none = (refl, refl, refl, refl, refl)

abbrev IsTable : Data → Type 0
IsTable tree = (ms : Members) × (tree ≡ table ms)

-- a document of the right shape is a table
is_table : (tree : Data) → KeepsShape One tree → IsTable tree
unfolding breaks tables_of table_breaks
is_table (table ms) shape = (ms, refl)
is_table (string x) shape = absurd (true≢false shape.kinds)
is_table (integer z) shape = absurd (true≢false shape.kinds)
is_table (float x) shape = absurd (true≢false shape.kinds)
is_table (boolean b) shape = absurd (true≢false shape.kinds)
is_table (datetime x) shape = absurd (true≢false shape.kinds)
is_table (array ds) shape = absurd (true≢false shape.kinds)

-- ---- the scenario

abbrev listed : Option Data → List Data
listed o = option_map_or items_of o []

abbrev groups_by : (FormatKey → Option Data) → List Group
groups_by f = map plain_group (listed (f key.Group))

same_groups : (ms : Members) → plain_groups (table (given ms)) ≡ plain_groups (table ms)
unfolding plain_groups
same_groups ms = λ i. groups_by (same_values ms i)

is_second : (ms : Members) → version_of (table (given ms)) ≡ Two
unfolding version_of
is_second ms = ap (λ o. version_numbered (whole_or 0 o)) (version_there ms)

module _ (ms : Members) (first : version_of (table ms) ≡ One) (no_more : SaysNoMore ms) where
  same_swim : swim_in (version_of (table (given ms))) (value_at key.Swim (table (given ms))) ≡ swim_in (version_of (table ms)) (value_at key.Swim (table ms))
  same_swim =
      ap (λ v. swim_in v (value_at key.Swim (table (given ms)))) (is_second ms)
      ∙ ap (λ f. swim_in Two (f key.Swim)) (same_values ms)
      ∙ ap (λ v. swim_in v (value_at key.Swim (table ms))) (sym first)

  same_leaves : leaves_in (version_of (table (given ms))) (plain_groups (table (given ms))) (table (given ms)) ≡ leaves_in (version_of (table ms)) (plain_groups (table ms)) (table ms)
  same_leaves =
      let gs = plain_groups (table (given ms)) in
      ap (λ v. leaves_in v gs (table (given ms))) (is_second ms)
      ∙ ap (λ f. map (leave_in gs) (listed (f key.Leave))) (same_values ms)
      ∙ ap (λ o. map (leave_in gs) (listed o)) no_more.leave
      ∙ ap (λ v. leaves_in v (plain_groups (table ms)) (table ms)) (sym first)

  same_cuts : cuts_in (version_of (table (given ms))) (plain_groups (table (given ms))) (table (given ms)) ≡ cuts_in (version_of (table ms)) (plain_groups (table ms)) (table ms)
  same_cuts =
      let gs = plain_groups (table (given ms)) in
      ap (λ v. cuts_in v gs (table (given ms))) (is_second ms)
      ∙ ap (λ f. map (cut_in gs) (listed (f key.Cut))) (same_values ms)
      ∙ ap (λ o. map (cut_in gs) (listed o)) no_more.cut
      ∙ ap (λ v. cuts_in v (plain_groups (table ms)) (table ms)) (sym first)

  same_gossip : gossip_in (version_of (table (given ms))) (value_at key.Gossip (table (given ms))) ≡ gossip_in (version_of (table ms)) (value_at key.Gossip (table ms))
  same_gossip = ap (λ v. gossip_in v (value_at key.Gossip (table (given ms)))) (is_second ms) ∙ ap (λ v. gossip_in v (value_at key.Gossip (table ms))) (sym first)

  same_stream : stream_in (stream_table (version_of (table (given ms))) (table (given ms))) ≡ stream_in (stream_table (version_of (table ms)) (table ms))
  same_stream = ap (λ v. stream_in (stream_table v (table (given ms)))) (is_second ms) ∙ ap (λ v. stream_in (stream_table v (table ms))) (sym first)

  same_pauses : pauses_in (version_of (table (given ms))) (plain_groups (table (given ms))) (table (given ms)) ≡ pauses_in (version_of (table ms)) (plain_groups (table ms)) (table ms)
  same_pauses =
      ap (λ v. pauses_in v (plain_groups (table (given ms))) (table (given ms))) (is_second ms)
      ∙ ap (λ v. pauses_in v (plain_groups (table ms)) (table ms)) (sym first)

  same_restarts : restarts_in (version_of (table (given ms))) (plain_groups (table (given ms))) (table (given ms)) ≡ restarts_in (version_of (table ms)) (plain_groups (table ms)) (table ms)
  same_restarts =
      ap (λ v. restarts_in v (plain_groups (table (given ms))) (table (given ms))) (is_second ms)
      ∙ ap (λ v. restarts_in v (plain_groups (table ms)) (table ms)) (sym first)

  same_blocks : blocks_in (version_of (table (given ms))) (plain_groups (table (given ms))) (table (given ms)) ≡ blocks_in (version_of (table ms)) (plain_groups (table ms)) (table ms)
  same_blocks =
      ap (λ v. blocks_in v (plain_groups (table (given ms))) (table (given ms))) (is_second ms)
      ∙ ap (λ v. blocks_in v (plain_groups (table ms)) (table ms)) (sym first)

  no_table : (k : FormatKey) → fourth_table (version_of (table (given ms))) k (table (given ms)) ≡ fourth_table (version_of (table ms)) k (table ms)
  no_table k = ap (λ v. fourth_table v k (table (given ms))) (is_second ms) ∙ ap (λ v. fourth_table v k (table ms)) (sym first)

  -- but for its version it is the same
  same_setup : setup_of_tree (table (given ms)) ≡ in_version_2 (setup_of_tree (table ms))
  unfolding setup_of_tree number_at plain_groups
  same_setup =
      let f = same_values ms in
      λ i. record {
        version = is_second ms i;
        seed = whole_or (default_of section.Top key.Seed) (f i key.Seed);
        end = whole_or (default_of section.Top key.End) (f i key.End);
        swim = same_swim i;
        suspicion = suspicion_in (f i key.Suspicion);
        lifeguard = lifeguard_in (f i key.Lifeguard);
        link = link_in (f i key.Link);
        groups = map (group_in (groups_by (f i))) (listed (f i key.Group));
        paths = map (path_in (groups_by (f i)) (link_in (f i key.Link))) (listed (f i key.Path));
        slows = map (slow_in (groups_by (f i))) (listed (f i key.Slow));
        crashes = map (crash_in (groups_by (f i))) (listed (f i key.Crash));
        leaves = same_leaves i;
        cuts = same_cuts i;
        gossip = same_gossip i;
        stream = same_stream i;
        pauses = same_pauses i;
        restarts = same_restarts i;
        blocks = same_blocks i;
        queue = option_and_then queue_in (no_table key.Gossip i);
        dial = dial_in (no_table key.Stream i);
        serf = option_map serf_in (no_table key.Serf i);
      }

-- ---- the rules on its values

abbrev references_by : (FormatKey → Option Data) → Bool
references_by f =
    list_any (has_lost_contact (groups_by f)) (listed (f key.Group))
    || (list_any (names_no_member (groups_by f)) (listed (f key.Slow)) || (list_any (names_no_member (groups_by f)) (listed (f key.Crash)) || list_any (names_no_group (groups_by f)) (listed (f key.Path))))

same_references : (ms : Members) → breaks_references (table (given ms)) (plain_groups (table (given ms))) ≡ breaks_references (table ms) (plain_groups (table ms))
unfolding breaks_references plain_groups
same_references ms = λ i. references_by (same_values ms i)

none_added : (ms : Members) → SaysNoMore ms → (gs : List Group) → breaks_added_references Two (table (given ms)) gs ≡ false
unfolding breaks_added_references
none_added ms no_more gs =
    ap (λ f. list_any (names_no_member gs) (listed (f key.Leave)) || (list_any (names_no_group gs) (listed (f key.Cut)) || false)) (same_values ms)
    ∙ (λ i. list_any (names_no_member gs) (listed (no_more.leave i)) || (list_any (names_no_group gs) (listed (no_more.cut i)) || false))

same_times : (s : Setup) → (breaks_times (in_version_2 s) || breaks_added_times (in_version_2 s)) ≡ (breaks_times s || breaks_added_times s)
unfolding breaks_times breaks_added_times
same_times s = refl

still_few : (n : ℕ) → nat_lt 1024 n ≡ false → nat_lt 4096 n ≡ false
still_few n few = grind arith

values_stay : (ms : Members) (s : Setup) → s.version ≡ One → SaysNoMore ms → least_broken_by (table ms) s ≡ None → least_broken_by (table (given ms)) (in_version_2 s) ≡ None
unfolding least_broken_by
values_stay ms s first no_more none =
    let gs = plain_groups (table ms) in
    let now = plain_groups (table (given ms)) in
    let references = breaks_references (table ms) gs in
    let added = breaks_added_references s.version (table ms) gs in
    let pairs = breaks_pairs s.crashes s.slows || (breaks_departures s.crashes s.leaves || breaks_pauses s.pauses) in
    let times = breaks_times s || breaks_added_times s in
    let off = five_off (breaks_names gs) (references || added) pairs times (breaks_size s) none in
    let names : breaks_names now ≡ false = ap breaks_names (same_groups ms) ∙ off.0 in
    let known : (breaks_references (table (given ms)) now || breaks_added_references Two (table (given ms)) now) ≡ false =
    both_off (breaks_references (table (given ms)) now) (breaks_added_references Two (table (given ms)) now) (same_references ms ∙ left_off references added off.1) (none_added ms no_more now) in
    let in_time : (breaks_times (in_version_2 s) || breaks_added_times (in_version_2 s)) ≡ false = same_times s ∙ off.3 in
    let few : nat_lt 4096 (member_count s) ≡ false = still_few (member_count s) (ap (λ v. nat_lt (most_members v) (member_count s)) (sym first) ∙ off.4) in
    λ i. least_of (names i) (known i) (off.2 i) (in_time i) (few i)

-- ---- the document

table_stays : (ms : Members) (s : Setup) → s.version ≡ One → document_verdict (table ms) ≡ Ok s → document_verdict (table (given ms)) ≡ Ok (in_version_2 s)
unfolding least_broken
table_stays ms s first ok =
    let says = answer_says (setup_of_tree (table ms)) (least_broken (table ms)) s ok in
    let version : version_of (table ms) ≡ One = sym (version_is (table ms)) ∙ ap (λ (t : Setup). t.version) says.1 ∙ first in
    let both = neither (least_broken_of_shape (version_of (table ms)) (table ms)) (least_broken_in (version_of (table ms)) (table ms) (setup_of_tree (table ms))) says.0 in
    let shape = keeps_shape (table ms) (ap (λ v. least_broken_of_shape v (table ms)) (sym version) ∙ both.0) in
    let no_more = no_more_by_shape ms shape in
    let fine : least_broken (table (given ms)) ≡ None =
    ap (λ v. option_or (least_broken_of_shape v (table (given ms))) (least_broken_in v (table (given ms)) (setup_of_tree (table (given ms))))) (is_second ms)
    ∙ ap (λ o. option_or o (least_broken_by (table (given ms)) (setup_of_tree (table (given ms))))) (nothing_of_shape Two (table (given ms)) (shape_stays ms shape))
    ∙ ap (least_broken_by (table (given ms))) (same_setup ms version no_more)
    ∙ values_stay ms (setup_of_tree (table ms)) (version_is (table ms) ∙ version) no_more (ap (λ v. least_broken_in v (table ms) (setup_of_tree (table ms))) (sym version) ∙ both.1) in
    accepted (table (given ms)) fine ∙ ap Ok (same_setup ms version no_more ∙ ap in_version_2 says.1)

shape_of : (tree : Data) (s : Setup) → s.version ≡ One → document_verdict tree ≡ Ok s → KeepsShape One tree
unfolding least_broken
shape_of tree s first ok =
    let says = answer_says (setup_of_tree tree) (least_broken tree) s ok in
    let version : version_of tree ≡ One = sym (version_is tree) ∙ ap (λ (t : Setup). t.version) says.1 ∙ first in
    keeps_shape tree (ap (λ v. least_broken_of_shape v tree) (sym version) ∙ (neither (least_broken_of_shape (version_of tree) tree) (least_broken_in (version_of tree) tree (setup_of_tree tree)) says.0).0)

pub document_stays : (tree : Data) (s : Setup) → s.version ≡ One → document_verdict tree ≡ Ok s → document_verdict (given_version_2 tree) ≡ Ok (in_version_2 s)
document_stays tree s first ok =
    let is = is_table tree (shape_of tree s first ok) in
    subst (λ t. document_verdict t ≡ Ok s → document_verdict (given_version_2 t) ≡ Ok (in_version_2 s)) (sym is.1) (table_stays is.0 s first) ok

pub text_stays : (bytes changed : List ℕ) (tree : Data) (s : Setup) → tree_of bytes ≡ Some tree → tree_of changed ≡ Some (given_version_2 tree) → s.version ≡ One → verdict bytes ≡ Ok s → verdict changed ≡ Ok (in_version_2 s)
text_stays bytes changed tree s read read_too first ok =
    answered_as_document changed (given_version_2 tree) read_too ∙ document_stays tree s first (sym (answered_as_document bytes tree read) ∙ ok)

-- nobody leaves in it
pub no_leaves : (tree : Data) (s : Setup) → s.version ≡ One → document_verdict tree ≡ Ok s → s.leaves ≡ []
no_leaves tree s first ok =
    let says = answer_says (setup_of_tree tree) (least_broken tree) s ok in
    let version : version_of tree ≡ One = sym (version_is tree) ∙ ap (λ (t : Setup). t.version) says.1 ∙ first in
    sym (ap (λ (t : Setup). t.leaves) says.1) ∙ (plain_of tree version).leaves
