-- What a document of before version 4 is answered doesn't depend on its seed.
use Rattle.std.proofs.Common.{◌≡◌, ◌≢◌, ◌∙◌, ℕ, ◌<◌, ◌-◌, ◌||◌, ◌&&◌, Bool, true, false, List, [], ◌∷◌, map, flat_map, Option, Some, None, Result, Ok, Err, Ordering, Less, Equal, Greater, nat_cmp, true≢false, bytes_eq, refl, sym, ap, subst, arith, if◌then◌else◌}
use Rattle.std.specs.Prelude.{pos, drop, ◌^◌}
use Rattle.std.specs.Cmp.Lexicographic.{slice_cmp}
use Rattle.std.specs.List.{list_any}
use Rattle.std.specs.Option.{option_map, option_and_then, option_map_or, option_or}
use Rattle.std.specs.Ordering.{match_ordering}
use Rattle.toml.specs.Data.{Data, string, integer, float, boolean, datetime, array, table, Members, no_members, member, get_member}
use Rattle.schema.specs.Schema.{spelling_of, key_rules_of}
use Rattle.schema.specs.Tree.{SectionTable, section_table, tables_at, tables_below, tables_of, items_of, value_at, keys_in}
use Rattle.schema.specs.Values.{whole_or, default_of, number_at}
use Rattle.schema.specs.Shape.{is_over_0, is_absent, is_other_kind, is_outside, has_fault, table_breaks, breaks, least_broken_of_shape}
use Rattle.schema.specs.declared.schema.Version.{Version}
use Rattle.schema.specs.declared.schema.Version.TheVariants.{One, Two, Three, Four}
use Rattle.schema.specs.declared.schema.FormatKey.{FormatKey}
use Rattle.schema.specs.declared.schema.FormatKey.TheVariants as key
use Rattle.schema.specs.declared.schema.KeyRule.{KeyRule}
use Rattle.schema.specs.declared.schema.Kind.{Kind}
use Rattle.schema.specs.declared.schema.Kind.TheVariants as kind
use Rattle.schema.specs.declared.schema.Absence.{Absence}
use Rattle.schema.specs.declared.schema.Absence.TheVariants.{Refused, RefusedOver0}
use Rattle.schema.specs.declared.schema.Section.TheVariants as section
use Rattle.schema.specs.declared.shape.Check.{Check}
use Rattle.schema.specs.declared.shape.Check.TheVariants.{Missing, Unknown, WrongKind, OutOfRange}
use Rattle.scenario.specs.Setup.{Setup, Group, is_fourth}
use Rattle.scenario_reader.specs.Reading.{version_numbered, version_of, plain_group, plain_groups, group_in, path_in, swim_in, suspicion_in, lifeguard_in, link_in, gossip_in, stream_in, stream_table, slow_in, crash_in, leave_in, cut_in, pause_in, restart_in, queue_in, dial_in, serf_in, added_items, pause_items, fourth_items, fourth_table, setup_of_tree}
use Rattle.scenario_reader.specs.Rules.{has_lost_contact, names_no_member, names_no_group, breaks_names, breaks_references, breaks_added_references, breaks_pairs, breaks_departures, breaks_pauses, breaks_times, breaks_added_times, breaks_size, least_of, least_broken_by, least_broken_in, least_broken, unless_broken, document_verdict}
use Rattle.scenario_reader.proofs.Chain.{earlier_least}
use Rattle.text_reader.specs.Answers.{AnswersBy, AnswersDocument}
use Rattle.sweep_plan.specs.Document.{put, with_entry, with_seed}
use Rattle.sweep_plan.proofs.Names.{bytes_eq_same}
use Rattle.sweep_plan.proofs.Puts.{entry_other, get_here}

-- ---- what stands at the keys

abbrev at_seed : List ℕ
at_seed = spelling_of key.Seed

abbrev number : ℕ → Data
number n = integer (pos n)

other_stays : (u k : FormatKey) (d : Data) (ms : Members) → spelling_of u ≢ spelling_of k → value_at u (with_entry k d (table ms)) ≡ value_at u (table ms)
other_stays u k d ms other = entry_other u k d (table ms) other

is_there : (k : FormatKey) (d : Data) (ms : Members) → value_at k (with_entry k d (table ms)) ≡ Some d
is_there k d ms = get_here (spelling_of k) d ms

-- the members, given a seed
abbrev given : ℕ → Members → Members
given n ms = put at_seed (number n) ms

abbrev is_seed : FormatKey → Bool
is_seed key.Seed = true
is_seed _ = false

unlike_seed : (k : FormatKey) → is_seed k ≡ false → bytes_eq (spelling_of k) (spelling_of key.Seed) ≡ false
unfolding spelling_of
unlike_seed key.Seed h = absurd (true≢false h)
unlike_seed _ h = refl

unlike : (k : FormatKey) → is_seed k ≡ false → spelling_of k ≢ at_seed
unlike k other same =
    true≢false (sym (bytes_eq_same (spelling_of k) at_seed same) ∙ unlike_seed k other)

-- what the members have at the keys, but for the seed
abbrev values : Members → FormatKey → Option Data
values ms key.Seed = None
values ms k = get_member (spelling_of k) ms

module _ (a b : ℕ) (ms : Members) where
  abbrev first : Members
  first = given a ms

  abbrev second : Members
  second = given b ms

  elsewhere : (k : FormatKey) → is_seed k ≡ false → get_member (spelling_of k) first ≡ get_member (spelling_of k) second
  elsewhere k other = other_stays k key.Seed (number a) ms (unlike k other) ∙ sym (other_stays k key.Seed (number b) ms (unlike k other))

  same_at : (k : FormatKey) → values first k ≡ values second k
  same_at key.Seed = refl
  same_at k = elsewhere k refl

  same_values : values first ≡ values second
  same_values = λ i k. same_at k i

same_keys : (k : List ℕ) (d e : Data) (ms : Members) → keys_in (put k d ms) ≡ keys_in (put k e ms)
same_keys k d e no_members = refl
same_keys k d e (member l f ms) = by (slice_cmp nat_cmp k l) (same_keys k d e ms)
  where
    by : (o : Ordering) → keys_in (put k d ms) ≡ keys_in (put k e ms)
        → keys_in (match_ordering o (member k d (member l f ms)) (member l d ms) (member l f (put k d ms))) ≡ keys_in (match_ordering o (member k e (member l f ms)) (member l e ms) (member l f (put k e ms)))
    by Less rest = refl
    by Equal rest = refl
    by Greater rest = ap (λ ks. l ∷ ks) rest

-- ---- the seed

-- a scenario with another seed
abbrev seeded : ℕ → Setup → Setup
seeded n s = record {
  version = s.version;
  seed = n;
  end = s.end;
  swim = s.swim;
  suspicion = s.suspicion;
  lifeguard = s.lifeguard;
  link = s.link;
  groups = s.groups;
  paths = s.paths;
  slows = s.slows;
  crashes = s.crashes;
  leaves = s.leaves;
  cuts = s.cuts;
  gossip = s.gossip;
  stream = s.stream;
  pauses = s.pauses;
  restarts = s.restarts;
  blocks = s.blocks;
  queue = s.queue;
  dial = s.dial;
  serf = s.serf;
}

-- no rule is about it
ruled_too : (tree : Data) (n m : ℕ) (s : Setup) → least_broken_by tree (seeded n s) ≡ least_broken_by tree (seeded m s)
unfolding least_broken_by breaks_times breaks_added_times
ruled_too tree n m s = refl

-- an answer without a broken rule
answer_says : (t : Setup) (o : Option ℕ) (s : Setup) → unless_broken t o ≡ Ok s → o ≡ None
answer_says t None s ok = refl
answer_says t (Some rule) s ok = absurd (true≢false (sym (ap is_accepted ok)))
  where
    is_accepted : Result Setup ℕ → Bool
    is_accepted (Ok s) = true
    is_accepted (Err rule) = false

-- ---- the rules on the tables

-- the tests of rows, by the values at their keys
abbrev is_refused_by : (FormatKey → Option Data) → Absence → Bool
is_refused_by f Refused = true
is_refused_by f (RefusedOver0 key) = is_over_0 (f key)
is_refused_by f _ = false

abbrev missing_by : (FormatKey → Option Data) → KeyRule → Bool
missing_by f row = is_refused_by f row.absence && is_absent row.kind (f row.key)

abbrev fault_by : (Kind → Data → Bool) → (FormatKey → Option Data) → KeyRule → Bool
fault_by fault f row = option_map_or (fault row.kind) (f row.key) false

abbrev below_by : (FormatKey → Option Data) → KeyRule → List SectionTable
below_by f row = tables_at row.kind (f row.key)

-- the rows of the top but for those of the version and the seed
abbrev other_rows : Version → List KeyRule
other_rows v = drop 2 (key_rules_of v section.Top)

-- of what kind a seed is
abbrev seed_kind : Kind
seed_kind = kind.Whole 0 (2 ^ 63 - 1)

module _ (a b : ℕ) (ms : Members) where
  abbrev f : values (given a ms) ≡ values (given b ms)
  f = same_values a b ms

  -- a test of the seed that says the same of both
  of_seed : (test : Option Data → Bool) → test (Some (number a)) ≡ test (Some (number b)) → test (get_member at_seed (given a ms)) ≡ test (get_member at_seed (given b ms))
  of_seed test same = ap test (is_there key.Seed (number a) ms) ∙ same ∙ sym (ap test (is_there key.Seed (number b) ms))

  top_missing : (v : Version) → table_breaks v Missing (section_table section.Top (table (given a ms))) ≡ table_breaks v Missing (section_table section.Top (table (given b ms)))
  unfolding table_breaks key_rules_of
  top_missing One = λ i. is_absent (kind.Whole 1 1) (f i key.Version) || (of_seed (is_absent seed_kind) refl i || list_any (missing_by (f i)) (other_rows One))
  top_missing Two = λ i. is_absent (kind.Whole 1 2) (f i key.Version) || (of_seed (is_absent seed_kind) refl i || list_any (missing_by (f i)) (other_rows Two))
  top_missing Three = λ i. is_absent (kind.Whole 1 3) (f i key.Version) || (of_seed (is_absent seed_kind) refl i || list_any (missing_by (f i)) (other_rows Three))
  top_missing Four = λ i. is_absent (kind.Whole 1 4) (f i key.Version) || (of_seed (is_absent seed_kind) refl i || list_any (missing_by (f i)) (other_rows Four))

  top_unknown : (v : Version) → table_breaks v Unknown (section_table section.Top (table (given a ms))) ≡ table_breaks v Unknown (section_table section.Top (table (given b ms)))
  unfolding table_breaks
  top_unknown v = ap (list_any _) (same_keys at_seed (number a) (number b) ms)

  -- a fault of a value
  top_faults : (v : Version) (fault : Kind → Data → Bool) → fault seed_kind (number a) ≡ fault seed_kind (number b)
      → list_any (has_fault fault (table (given a ms))) (key_rules_of v section.Top) ≡ list_any (has_fault fault (table (given b ms))) (key_rules_of v section.Top)
  unfolding key_rules_of
  top_faults One fault same = λ i. option_map_or (fault (kind.Whole 1 1)) (f i key.Version) false
      || (of_seed (λ o. option_map_or (fault seed_kind) o false) same i || list_any (fault_by fault (f i)) (other_rows One))
  top_faults Two fault same = λ i. option_map_or (fault (kind.Whole 1 2)) (f i key.Version) false
      || (of_seed (λ o. option_map_or (fault seed_kind) o false) same i || list_any (fault_by fault (f i)) (other_rows Two))
  top_faults Three fault same = λ i. option_map_or (fault (kind.Whole 1 3)) (f i key.Version) false
      || (of_seed (λ o. option_map_or (fault seed_kind) o false) same i || list_any (fault_by fault (f i)) (other_rows Three))
  top_faults Four fault same = λ i. option_map_or (fault (kind.Whole 1 4)) (f i key.Version) false
      || (of_seed (λ o. option_map_or (fault seed_kind) o false) same i || list_any (fault_by fault (f i)) (other_rows Four))

  top_kinds : (v : Version) → table_breaks v WrongKind (section_table section.Top (table (given a ms))) ≡ table_breaks v WrongKind (section_table section.Top (table (given b ms)))
  unfolding table_breaks
  top_kinds v = top_faults v is_other_kind refl

  top_ranges : (v : Version) → is_outside seed_kind (number a) ≡ is_outside seed_kind (number b)
      → table_breaks v OutOfRange (section_table section.Top (table (given a ms))) ≡ table_breaks v OutOfRange (section_table section.Top (table (given b ms)))
  unfolding table_breaks
  top_ranges v same = top_faults v is_outside same

  same_tables : (v : Version) → flat_map (tables_below (table (given a ms))) (key_rules_of v section.Top) ≡ flat_map (tables_below (table (given b ms))) (key_rules_of v section.Top)
  unfolding key_rules_of
  same_tables One = λ i. flat_map (below_by (f i)) (other_rows One)
  same_tables Two = λ i. flat_map (below_by (f i)) (other_rows Two)
  same_tables Three = λ i. flat_map (below_by (f i)) (other_rows Three)
  same_tables Four = λ i. flat_map (below_by (f i)) (other_rows Four)

  module _ (within : is_outside seed_kind (number a) ≡ is_outside seed_kind (number b)) where
    same_top : (v : Version) (check : Check) → table_breaks v check (section_table section.Top (table (given a ms))) ≡ table_breaks v check (section_table section.Top (table (given b ms)))
    same_top v Missing = top_missing v
    same_top v Unknown = top_unknown v
    same_top v WrongKind = top_kinds v
    same_top v OutOfRange = top_ranges v within

    same_breaks : (v : Version) (check : Check) → breaks v check (table (given a ms)) ≡ breaks v check (table (given b ms))
    unfolding breaks tables_of
    same_breaks v check = λ i. same_top v check i || list_any (table_breaks v check) (same_tables v i)

    same_shape : (v : Version) → least_broken_of_shape v (table (given a ms)) ≡ least_broken_of_shape v (table (given b ms))
    unfolding least_broken_of_shape
    same_shape v = λ i.
        if same_breaks v Missing i then Some 2
        else if same_breaks v Unknown i then Some 3
        else if same_breaks v WrongKind i then Some 4
        else if same_breaks v OutOfRange i then Some 5
        else None

  -- ---- the scenario

  abbrev listed : Option Data → List Data
  listed o = option_map_or items_of o []

  abbrev groups_by : (FormatKey → Option Data) → List Group
  groups_by g = map plain_group (listed (g key.Group))

  same_version : version_of (table (given a ms)) ≡ version_of (table (given b ms))
  unfolding version_of
  same_version = λ i. version_numbered (whole_or 0 (f i key.Version))

  same_groups : plain_groups (table (given a ms)) ≡ plain_groups (table (given b ms))
  unfolding plain_groups
  same_groups = λ i. groups_by (f i)

  added : (v : Version) (k : FormatKey) → is_seed k ≡ false → added_items v k (table (given a ms)) ≡ added_items v k (table (given b ms))
  added One k other = refl
  added Two k other = ap listed (elsewhere a b ms k other)
  added Three k other = ap listed (elsewhere a b ms k other)
  added Four k other = ap listed (elsewhere a b ms k other)

  paused : (v : Version) → pause_items v (table (given a ms)) ≡ pause_items v (table (given b ms))
  paused One = refl
  paused Two = refl
  paused Three = λ i. listed (f i key.Pause)
  paused Four = λ i. listed (f i key.Pause)

  streamed : (v : Version) → stream_table v (table (given a ms)) ≡ stream_table v (table (given b ms))
  streamed One = refl
  streamed Two = refl
  streamed Three = λ i. f i key.Stream
  streamed Four = λ i. f i key.Stream

  fourth : (v : Version) (k : FormatKey) → is_seed k ≡ false → fourth_items v k (table (given a ms)) ≡ fourth_items v k (table (given b ms))
  fourth One k other = refl
  fourth Two k other = refl
  fourth Three k other = refl
  fourth Four k other = ap listed (elsewhere a b ms k other)

  tabled : (v : Version) (k : FormatKey) → is_seed k ≡ false → fourth_table v k (table (given a ms)) ≡ fourth_table v k (table (given b ms))
  tabled One k other = refl
  tabled Two k other = refl
  tabled Three k other = refl
  tabled Four k other = elsewhere a b ms k other

  -- but for its seed it is the same
  same_setup : seeded 0 (setup_of_tree (table (given a ms))) ≡ seeded 0 (setup_of_tree (table (given b ms)))
  unfolding setup_of_tree number_at plain_groups
  same_setup =
      let v = version_of (table (given b ms)) in
      let leaves = ap (λ u. added_items u key.Leave (table (given a ms))) same_version ∙ added v key.Leave refl in
      let cuts = ap (λ u. added_items u key.Cut (table (given a ms))) same_version ∙ added v key.Cut refl in
      let pauses = ap (λ u. pause_items u (table (given a ms))) same_version ∙ paused v in
      let streams = ap (λ u. stream_table u (table (given a ms))) same_version ∙ streamed v in
      let restarts = ap (λ u. fourth_items u key.Restart (table (given a ms))) same_version ∙ fourth v key.Restart refl in
      let blocks = ap (λ u. fourth_items u key.Block (table (given a ms))) same_version ∙ fourth v key.Block refl in
      let queue = ap (λ u. fourth_table u key.Gossip (table (given a ms))) same_version ∙ tabled v key.Gossip refl in
      let dial = ap (λ u. fourth_table u key.Stream (table (given a ms))) same_version ∙ tabled v key.Stream refl in
      let serf = ap (λ u. fourth_table u key.Serf (table (given a ms))) same_version ∙ tabled v key.Serf refl in
      λ i. record {
        version = same_version i;
        seed = 0;
        end = whole_or (default_of section.Top key.End) (f i key.End);
        swim = swim_in (same_version i) (f i key.Swim);
        suspicion = suspicion_in (f i key.Suspicion);
        lifeguard = lifeguard_in (f i key.Lifeguard);
        link = link_in (f i key.Link);
        groups = map (group_in (groups_by (f i))) (listed (f i key.Group));
        paths = map (path_in (groups_by (f i)) (link_in (f i key.Link))) (listed (f i key.Path));
        slows = map (slow_in (groups_by (f i))) (listed (f i key.Slow));
        crashes = map (crash_in (groups_by (f i))) (listed (f i key.Crash));
        leaves = map (leave_in (groups_by (f i))) (leaves i);
        cuts = map (cut_in (groups_by (f i))) (cuts i);
        gossip = gossip_in (same_version i) (f i key.Gossip);
        stream = stream_in (streams i);
        pauses = map (pause_in (groups_by (f i))) (pauses i);
        restarts = map (restart_in (groups_by (f i))) (restarts i);
        blocks = map (pause_in (groups_by (f i))) (blocks i);
        queue = option_and_then queue_in (queue i);
        dial = dial_in (dial i);
        serf = option_map serf_in (serf i);
      }

  -- ---- the rules on the values

  abbrev references_by : (FormatKey → Option Data) → Bool
  references_by g =
      list_any (has_lost_contact (groups_by g)) (listed (g key.Group))
      || (list_any (names_no_member (groups_by g)) (listed (g key.Slow)) || (list_any (names_no_member (groups_by g)) (listed (g key.Crash)) || list_any (names_no_group (groups_by g)) (listed (g key.Path))))

  same_references : breaks_references (table (given a ms)) (plain_groups (table (given a ms))) ≡ breaks_references (table (given b ms)) (plain_groups (table (given b ms)))
  unfolding breaks_references plain_groups
  same_references = λ i. references_by (f i)

  same_added : (v : Version) → breaks_added_references v (table (given a ms)) (plain_groups (table (given a ms))) ≡ breaks_added_references v (table (given b ms)) (plain_groups (table (given b ms)))
  unfolding breaks_added_references
  same_added v = λ i. list_any (names_no_member (same_groups i)) (added v key.Leave refl i)
      || (list_any (names_no_group (same_groups i)) (added v key.Cut refl i) || list_any (names_no_member (same_groups i)) (paused v i))

  same_ruled : (s : Setup) → least_broken_by (table (given a ms)) s ≡ least_broken_by (table (given b ms)) s
  unfolding least_broken_by
  same_ruled s = λ i. least_of (breaks_names (same_groups i)) (same_references i || same_added s.version i)
      (breaks_pairs s.crashes s.slows || (breaks_departures s.crashes s.leaves || breaks_pauses s.pauses)) (breaks_times s || breaks_added_times s) (breaks_size s)

  module _ (old : is_fourth (version_of (table (given a ms))) ≡ false) where
    old_too : is_fourth (version_of (table (given b ms))) ≡ false
    old_too = sym (ap is_fourth same_version) ∙ old

    same_values_broken : least_broken_in (version_of (table (given a ms))) (table (given a ms)) (setup_of_tree (table (given a ms)))
        ≡ least_broken_in (version_of (table (given b ms))) (table (given b ms)) (setup_of_tree (table (given b ms)))
    same_values_broken =
        let s = setup_of_tree (table (given a ms)) in
        let t = setup_of_tree (table (given b ms)) in
        earlier_least (version_of (table (given a ms))) (table (given a ms)) s old ∙ ruled_too (table (given a ms)) s.seed 0 s ∙ ap (least_broken_by (table (given a ms))) same_setup
        ∙ ruled_too (table (given a ms)) 0 t.seed t ∙ same_ruled t ∙ sym (earlier_least (version_of (table (given b ms))) (table (given b ms)) t old_too)

    same_broken : is_outside seed_kind (number a) ≡ is_outside seed_kind (number b) → least_broken (table (given a ms)) ≡ least_broken (table (given b ms))
    unfolding least_broken
    same_broken within =
        let shape = ap (λ v. least_broken_of_shape v (table (given a ms))) same_version ∙ same_shape within (version_of (table (given b ms))) in
        λ i. option_or (shape i) (same_values_broken i)

-- ---- the answer

-- a document that is accepted
abbrev pub IsTaken : Data → Type 0
IsTaken tree = (s : Setup) × AnswersDocument tree (Ok s)

taken_too : (a b : ℕ) (ms : Members) → is_outside seed_kind (number a) ≡ is_outside seed_kind (number b) → is_fourth (version_of (table (given a ms))) ≡ false → IsTaken (table (given a ms))
    → IsTaken (table (given b ms))
taken_too a b ms within old taken =
    let t = setup_of_tree (table (given b ms)) in
    let answered : document_verdict (table (given a ms)) ≡ Ok taken.0 = subst (λ fourth. AnswersBy fourth (table (given a ms)) (Ok taken.0)) old taken.1 in
    let says = answer_says (setup_of_tree (table (given a ms))) (least_broken (table (given a ms))) taken.0 answered in
    let none : least_broken (table (given b ms)) ≡ None = sym (same_broken a b ms old within) ∙ says in
    let answered_too : document_verdict (table (given b ms)) ≡ Ok t = ap (unless_broken t) none in
    (t, subst (λ fourth. AnswersBy fourth (table (given b ms)) (Ok t)) (sym (old_too a b ms old)) answered_too)

-- both seeds are in the range
both_within : (a b : ℕ) → a < 2 ^ 63 → b < 2 ^ 63 → is_outside seed_kind (number a) ≡ is_outside seed_kind (number b)
both_within a b low high = grind (arith, low, high)

-- what is accepted with a seed is accepted with another
pub accepted_with : (a b : ℕ) (tree : Data) → a < 2 ^ 63 → b < 2 ^ 63 → is_fourth (version_of (with_seed (Some a) tree)) ≡ false → IsTaken (with_seed (Some a) tree)
    → IsTaken (with_seed (Some b) tree)
accepted_with a b (table ms) low high old taken = taken_too a b ms (both_within a b low high) old taken
accepted_with a b (string x) low high old taken = taken
accepted_with a b (integer z) low high old taken = taken
accepted_with a b (float x) low high old taken = taken
accepted_with a b (boolean c) low high old taken = taken
accepted_with a b (datetime x) low high old taken = taken
accepted_with a b (array ds) low high old taken = taken
