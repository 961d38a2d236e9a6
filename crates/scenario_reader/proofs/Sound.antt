-- A document that breaks no rule gives a scenario whose numbers are in the format's ranges.
use Rattle.std.proofs.Common.{◌≡◌, ◌≢◌, ℕ, zero, suc, ◌+◌, ◌++◌, ◌<◌, ◌≤◌, ◌^◌, max, Bool, true, false, cond, not, ◌&&◌, ◌||◌, nat_le, nat_lt, nat_eq, List, [], ◌∷◌, map, Option, Some, None, IfSome, is_some, is_none, pos, negsuc, ap, ◌∙◌, sym, subst, refl, arith, eqb-true, eq-eqb, bytes_eq}
use Rattle.std.specs.Option.{option_map_or, option_map, option_and_then}
use Rattle.std.specs.List.{slice_get, filter, find, list_any, list_all, sum_by, AllByRecursion}
use Rattle.std.proofs.lemmas.Bool.{false≢true, leb-true, leb-false, ltb-false, eqb-false, cond_both}
use Rattle.std.proofs.lemmas.Bool.Decides.{nat_tests}
use Rattle.std.proofs.lemmas.List.Folds.{fold-map}
use Rattle.std.proofs.lemmas.List.Quantifiers.{position-Some}
use Rattle.std.proofs.lemmas.List.Sums.{get_or-le-sum_by}
use Rattle.toml.specs.Data.{Data, string, integer, float, boolean, datetime, array, table, Items, no_items, item, as_table, as_str}
use Rattle.schema.specs.Schema.{spelling_of, key_rules_of, most_members}
use Rattle.schema.specs.Tree.{SectionTable, items_of, items_at, section_table, tables_at, tables_below, tables_of, value_at, list_of}
use Rattle.schema.specs.Values.{default_of, whole_or, number_at, switch_set, text_if}
use Rattle.schema.specs.Shape.{is_over_0, is_refused, is_absent, is_missing, is_other_kind, is_outside, has_fault, table_breaks, breaks, KeepsShape}
use Rattle.schema.proofs.Trees.{any-flat_map}
use Rattle.schema.specs.declared.schema.Version.{Version}
use Rattle.schema.specs.declared.schema.Version.TheVariants.{One, Two, Three, Four}
use Rattle.schema.specs.declared.schema.KeyRule.{KeyRule}
use Rattle.schema.specs.declared.schema.FormatKey.{FormatKey}
use Rattle.schema.specs.declared.schema.FormatKey.TheVariants as key
use Rattle.schema.specs.declared.schema.Section.{Section}
use Rattle.schema.specs.declared.schema.Section.TheVariants as section
use Rattle.schema.specs.declared.schema.Kind.TheVariants as kind
use Rattle.schema.specs.declared.schema.Absence.{Absence}
use Rattle.schema.specs.declared.schema.Absence.TheVariants.{Refused, RefusedOver0, Default, Optional}
use Rattle.schema.specs.declared.shape.Check.{Check}
use Rattle.schema.specs.declared.shape.Check.TheVariants.{Missing, WrongKind, OutOfRange}
use Rattle.scenario.specs.GroupNames.{is_name_of}
use Rattle.scenario.specs.Script.{crash_event, leave_event, restart_event}
use Rattle.scenario.specs.Setup.{Setup, Group, IsSound, IsSoundLink, IsSoundGossip, IsSoundQueue, IsSoundSerf, IsSoundEvent, IsBeforeFourth, IsWithoutFourth, extra_by, greatest_extra, is_fourth, leads, group_at, last_link, member_count, start_of, is_slow}
use Rattle.scenario_reader.specs.Reading.{plain_group, plain_groups, names_of_all, member_named, group_in, swim_in, suspicion_in, lifeguard_in, link_in, link_over, path_in, slow_in, crash_in, leave_in, cut_in, pause_in, gossip_of, gossip_in, stream_in, stream_table, restart_in, restarts_in, blocks_in, queue_in, dial_in, serf_in, fourth_items, fourth_table, version_of, added_items, pause_items, setup_of_tree}
use Rattle.scenario_reader.specs.Rules.{has_lost_contact, is_bad_contact, is_early, is_over, any_two, is_same_leaver, crashes_too, is_early_leave, is_cut_over, is_pause_over, is_early_restart, asks_itself, breaks_names, breaks_names_in, breaks_references, breaks_times, breaks_departures, breaks_added_times, breaks_size, fourth_breaks_times, KeepsValues, KeepsFourth}
use Rattle.scenario_reader.proofs.Find.{length-names_of_all}
use Rattle.scenario_reader.proofs.First.{plain_of, without_third, without_added}
use Rattle.scenario.proofs.Members.{most_of_all}
use Rattle.base.proofs.Rising.{all_append}
use Rattle.scenario.specs.declared.settings.Swim.{Swim}
use Rattle.scenario.specs.declared.settings.Suspicion.{Suspicion}
use Rattle.scenario.specs.declared.settings.Lifeguard.{Lifeguard}
use Rattle.scenario.specs.declared.settings.Link.{Link}
use Rattle.scenario.specs.declared.settings.Path.{Path}
use Rattle.scenario.specs.declared.settings.Slow.{Slow}
use Rattle.scenario.specs.declared.settings.Crash.{Crash}
use Rattle.scenario.specs.declared.settings.Leave.{Leave}
use Rattle.scenario.specs.declared.settings.Cut.{Cut}
use Rattle.scenario.specs.declared.settings.StreamTimes.{StreamTimes}
use Rattle.scenario.specs.declared.settings.Pause.{Pause}
use Rattle.scenario.specs.declared.settings.Restart.{Restart}
use Rattle.scenario.specs.declared.settings.Queue.{Queue}
use Rattle.scenario.specs.declared.settings.DialTimes.{DialTimes}
use Rattle.scenario.specs.declared.settings.Serf.{Serf}
use Rattle.scenario.specs.declared.script.ScriptEvent.{ScriptEvent}

neither : (a b : Bool) → (a || b) ≡ false → (a ≡ false) × (b ≡ false)
neither true b e = absurd (false≢true (sym e))
neither false b e = (refl, e)

both : (a b : Bool) → (a && b) ≡ true → (a ≡ true) × (b ≡ true)
both true b e = (refl, e)
both false b e = absurd (false≢true e)

second_false : (a b : Bool) → a ≡ true → (a && b) ≡ false → b ≡ false
second_false true b h e = e
second_false false b h e = absurd (false≢true h)

turned : (b : Bool) → not b ≡ false → b ≡ true
turned true e = refl
turned false e = absurd (false≢true (sym e))

there : {A : Type 0} (o : Option A) → is_none o ≡ false → is_some o ≡ true
there None e = absurd (false≢true (sym e))
there (Some x) e = refl

-- a table of a section keeps the rules 2, 4 and 5
record Keeps (v : Version) (s : Section) (d : Data) : Type 0 where
  missing : list_any (is_missing d) (key_rules_of v s) ≡ false
  kinds : list_any (has_fault is_other_kind d) (key_rules_of v s) ≡ false
  ranges : list_any (has_fault is_outside d) (key_rules_of v s) ≡ false

keeps : (v : Version) (s : Section) (d : Data) → table_breaks v Missing (section_table s d) ≡ false → table_breaks v WrongKind (section_table s d) ≡ false → table_breaks v OutOfRange (section_table s d) ≡ false → Keeps v s d
unfolding table_breaks
keeps v s d a b e =
    let kinds = neither (is_none (as_table d)) (list_any (has_fault is_other_kind d) (key_rules_of v s)) b in
    record { missing = second_false _ _ (there (as_table d) kinds.0) a; kinds = kinds.1; ranges = e }

abbrev whole : FormatKey → Absence → ℕ → ℕ → KeyRule
whole k a least most = record { key = k; absence = a; kind = kind.Whole least most }

abbrev Within : ℕ → ℕ → ℕ → Type 0
Within least most n = (least ≤ n) × (n ≤ most)

within_of : (least most n : ℕ) → not (nat_le least n && nat_le n most) ≡ false → Within least most n
within_of least most n e =
    let parts = both (nat_le least n) (nat_le n most) (turned _ e) in
    (leb-true least n parts.0, leb-true n most parts.1)

-- the number of a key, by what is there
bounded : (r : Bool) (least most default : ℕ) (o : Option Data) → (r ≡ false → Within least most default)
    → (r && is_absent (kind.Whole least most) o) ≡ false → option_map_or (is_other_kind (kind.Whole least most)) o false ≡ false → option_map_or (is_outside (kind.Whole least most)) o false ≡ false
    → Within least most (whole_or default o)
bounded true least most default None dflt a b e = absurd (false≢true (sym a))
bounded false least most default None dflt a b e = dflt refl
bounded r least most default (Some (integer (pos n))) dflt m b e = within_of least most n e
bounded r least most default (Some (integer (negsuc n))) dflt m b e = absurd (false≢true (sym e))
bounded r least most default (Some (string t)) dflt m b e = absurd (false≢true (sym b))
bounded r least most default (Some (float x)) dflt m b e = absurd (false≢true (sym b))
bounded r least most default (Some (boolean t)) dflt m b e = absurd (false≢true (sym b))
bounded r least most default (Some (datetime t)) dflt m b e = absurd (false≢true (sym b))
bounded r least most default (Some (array ds)) dflt m b e = absurd (false≢true (sym b))
bounded r least most default (Some (table ms)) dflt m b e = absurd (false≢true (sym b))

number_within : (s : Section) (k : FormatKey) (a : Absence) (least most : ℕ) (d : Data) → (is_refused d a ≡ false → Within least most (default_of s k))
    → is_missing d (whole k a least most) ≡ false → has_fault is_other_kind d (whole k a least most) ≡ false → has_fault is_outside d (whole k a least most) ≡ false
    → Within least most (number_at s k (Some d))
unfolding number_at
number_within s k a least most d dflt m b e = bounded (is_refused d a) least most (default_of s k) (value_at k d) dflt m b e

-- ---- the tables of a document

table_there : (s : Section) (o : Option Data) → is_absent (kind.Table s) o ≡ false → (d : Data) × (o ≡ Some d)
table_there s None e = absurd (false≢true (sym e))
table_there s (Some d) e = (d, refl)

-- a list that is there has a first item
list_there : (s : Section) (o : Option Data) → is_absent (kind.List s) o ≡ false → option_map_or (is_other_kind (kind.List s)) o false ≡ false
    → (first : Data) × (rest : Items) × (o ≡ Some (array (item first rest)))
list_there s None a b = absurd (false≢true (sym a))
list_there s (Some (array no_items)) a b = absurd (false≢true (sym a))
list_there s (Some (array (item d ds))) a b = (d, ds, refl)
list_there s (Some (string t)) a b = absurd (false≢true (sym b))
list_there s (Some (integer z)) a b = absurd (false≢true (sym b))
list_there s (Some (float x)) a b = absurd (false≢true (sym b))
list_there s (Some (boolean t)) a b = absurd (false≢true (sym b))
list_there s (Some (datetime t)) a b = absurd (false≢true (sym b))
list_there s (Some (table ms)) a b = absurd (false≢true (sym b))

-- the test of the row at an index
abbrev test_at : {A : Type 0} → (A → Bool) → ℕ → List A → Bool
test_at f n [] = false
test_at f zero (x ∷ xs) = f x
test_at f (suc n) (x ∷ xs) = test_at f n xs

each_false : {A : Type 0} (f : A → Bool) (n : ℕ) (xs : List A) → list_any f xs ≡ false → test_at f n xs ≡ false
each_false f n [] e = refl
each_false f zero (x ∷ xs) e = (neither (f x) (list_any f xs) e).0
each_false f (suc n) (x ∷ xs) e = each_false f n xs (neither (f x) (list_any f xs) e).1

-- the row at an index of a section
abbrev IsRow : Version → Section → ℕ → KeyRule → Type 0
IsRow v s i row = (test : KeyRule → Bool) → test_at test i (key_rules_of v s) ≡ test row

-- a document that breaks none of the rules 2, 4 and 5
record AllKept (v : Version) (tree : Data) : Type 0 where
  missing : breaks v Missing tree ≡ false
  kinds : breaks v WrongKind tree ≡ false
  ranges : breaks v OutOfRange tree ≡ false

top_kept : (v : Version) (tree : Data) → AllKept v tree → Keeps v section.Top tree
unfolding breaks tables_of
top_kept v tree k = keeps v section.Top tree (neither _ _ k.missing).0 (neither _ _ k.kinds).0 (neither _ _ k.ranges).0

-- what a row of the whole text calls for breaks no rule that the document keeps
below_kept : (v : Version) (tree : Data) (check : Check) (i : ℕ) (row : KeyRule) → IsRow v section.Top i row → breaks v check tree ≡ false
    → list_any (table_breaks v check) (tables_at row.kind (value_at row.key tree)) ≡ false
unfolding breaks tables_of
below_kept v tree check i row is e =
    let test : KeyRule → Bool = λ r. list_any (table_breaks v check) (tables_below tree r) in
    sym (is test) ∙ each_false test i (key_rules_of v section.Top) (sym (any-flat_map (table_breaks v check) (tables_below tree) (key_rules_of v section.Top)) ∙ (neither (table_breaks v check (section_table section.Top tree)) _ e).1)

abbrev table_row : FormatKey → Absence → Section → KeyRule
table_row k a s = record { key = k; absence = a; kind = kind.Table s }

abbrev list_row : FormatKey → Absence → Section → KeyRule
list_row k a s = record { key = k; absence = a; kind = kind.List s }

-- the table at a key keeps the rules
one_part : (s : Section) (o : Option Data) (d : Data) (f : SectionTable → Bool) → o ≡ Some d → list_any f (tables_at (kind.Table s) o) ≡ false → f (section_table s d) ≡ false
one_part s o d f is e = (neither (f (section_table s d)) false (ap (λ p. list_any f (tables_at (kind.Table s) p)) (sym is) ∙ e)).0

first_part : (s : Section) (o : Option Data) (d : Data) (ds : Items) (f : SectionTable → Bool) → o ≡ Some (array (item d ds)) → list_any f (tables_at (kind.List s) o) ≡ false → f (section_table s d) ≡ false
first_part s o d ds f is e = (neither (f (section_table s d)) _ (ap (λ p. list_any f (tables_at (kind.List s) p)) (sym is) ∙ e)).0

table_kept : (v : Version) (tree : Data) (i : ℕ) (k : FormatKey) (a : Absence) (s : Section) → IsRow v section.Top i (table_row k a s) → AllKept v tree
    → (d : Data) → value_at k tree ≡ Some d → Keeps v s d
table_kept v tree i k a s is kept d at =
    keeps v s d
    (one_part s (value_at k tree) d (table_breaks v Missing) at (below_kept v tree Missing i (table_row k a s) is kept.missing))
    (one_part s (value_at k tree) d (table_breaks v WrongKind) at (below_kept v tree WrongKind i (table_row k a s) is kept.kinds))
    (one_part s (value_at k tree) d (table_breaks v OutOfRange) at (below_kept v tree OutOfRange i (table_row k a s) is kept.ranges))

first_kept : (v : Version) (tree : Data) (i : ℕ) (k : FormatKey) (a : Absence) (s : Section) → IsRow v section.Top i (list_row k a s) → AllKept v tree
    → (d : Data) (ds : Items) → value_at k tree ≡ Some (array (item d ds)) → Keeps v s d
first_kept v tree i k a s is kept d ds at =
    keeps v s d
    (first_part s (value_at k tree) d ds (table_breaks v Missing) at (below_kept v tree Missing i (list_row k a s) is kept.missing))
    (first_part s (value_at k tree) d ds (table_breaks v WrongKind) at (below_kept v tree WrongKind i (list_row k a s) is kept.kinds))
    (first_part s (value_at k tree) d ds (table_breaks v OutOfRange) at (below_kept v tree OutOfRange i (list_row k a s) is kept.ranges))

-- the number of a row of a table that is there
number_kept : (v : Version) (s : Section) (i : ℕ) (k : FormatKey) (a : Absence) (least most : ℕ) → IsRow v s i (whole k a least most) → (d : Data) → (is_refused d a ≡ false → Within least most (default_of s k)) → Keeps v s d → Within least most (number_at s k (Some d))
number_kept v s i k a least most is d dflt kept =
    number_within s k a least most d dflt
    (sym (is (is_missing d)) ∙ each_false (is_missing d) i (key_rules_of v s) kept.missing)
    (sym (is (has_fault is_other_kind d)) ∙ each_false (has_fault is_other_kind d) i (key_rules_of v s) kept.kinds)
    (sym (is (has_fault is_outside d)) ∙ each_false (has_fault is_outside d) i (key_rules_of v s) kept.ranges)

-- a required number of a table that is there
required : (v : Version) (s : Section) (i : ℕ) (k : FormatKey) (least most : ℕ) → IsRow v s i (whole k Refused least most)
    → (o : Option Data) (d : Data) → o ≡ Some d → Keeps v s d → Within least most (number_at s k o)
required v s i k least most is o d at kept =
    subst (λ p. Within least most (number_at s k p)) (sym at) (number_kept v s i k Refused least most is d (λ no. absurd (false≢true (sym no))) kept)

-- a number with a default, of a table that may be missing
optional : (v : Version) (s : Section) (i : ℕ) (k : FormatKey) (n least most : ℕ) → IsRow v s i (whole k (Default n) least most) → Within least most (default_of s k)
    → (o : Option Data) → ((d : Data) → o ≡ Some d → Keeps v s d) → Within least most (number_at s k o)
unfolding number_at
optional v s i k n least most is dflt None kept = dflt
optional v s i k n least most is dflt (Some d) kept = number_kept v s i k (Default n) least most is d (λ _. dflt) (kept d refl)

some_members : (g : Group) (gs : List Group) → 0 < g.count → 0 < sum_by (λ (h : Group). h.count) (g ∷ gs)
some_members g gs h =
    let first = get_or-le-sum_by (λ (h : Group). h.count) (g ∷ gs) 0 g (omega arith) in
    omega arith

record SwimSound (s : Swim) : Type 0 where
  period : s.period ≤ 2 ^ 24
  timeout : 0 < s.timeout
  helpers : s.helpers ≤ 16
  carry : Within 1 64 s.carry
  lambda : Within 1 100 s.lambda
  spread : Within 1 0x100_0000 s.spread

record SuspicionSound (s : Suspicion) : Type 0 where
  alpha : Within 1 100 s.alpha
  beta : Within 1 100 s.beta

record LifeguardSound (s : Lifeguard) : Type 0 where
  ceiling : s.ceiling ≤ 16
  confirmations : s.confirmations ≤ 9
  nack_percent : Within 1 100 s.nack_percent

-- the numbers of the scenario
swim_sound : (v : Version) (o : Option Data) (d : Data) → o ≡ Some d → ((e : Data) → o ≡ Some e → Keeps v section.Swim e) → SwimSound (swim_in v o)
unfolding key_rules_of spelling_of
swim_sound v o d at kept = record {
  period = (required v section.Swim 0 key.Period 2 0x100_0000 (λ _. refl) o d at (kept d at)).1;
  timeout = (required v section.Swim 1 key.Timeout 1 0x100_0000 (λ _. refl) o d at (kept d at)).0;
  helpers = (optional v section.Swim 2 key.Helpers 3 0 16 (λ _. refl) (omega arith, omega arith) o kept).1;
  carry = optional v section.Swim 3 key.Carry 6 1 64 (λ _. refl) (omega arith, omega arith) o kept;
  lambda = optional v section.Swim 4 key.Lambda 3 1 100 (λ _. refl) (omega arith, omega arith) o kept;
  spread = optional v section.Swim 5 key.Spread 1 1 0x100_0000 (λ _. refl) (omega arith, omega arith) o kept;
}

-- how members gossip and how streams send again, where the version has their tables
gossip_one : (v : Version) (d : Data) → Keeps v section.Gossip d → IsSoundGossip (gossip_of d)
unfolding key_rules_of spelling_of
gossip_one v d kept = record {
  interval = required v section.Gossip 0 key.Interval 1 0x100_0000 (λ _. refl) (Some d) d refl kept;
  nodes = number_kept v section.Gossip 1 key.Nodes (Default 3) 1 16 (λ _. refl) d (λ _. (omega arith, omega arith)) kept;
  dead = (number_kept v section.Gossip 2 key.Dead (Default 0) 0 0x100_0000_0000 (λ _. refl) d (λ _. (omega arith, omega arith)) kept).1;
  push = (number_kept v section.Gossip 3 key.Push (Default 0) 0 0x100_0000 (λ _. refl) d (λ _. (omega arith, omega arith)) kept).1;
}

gossip_if : (v : Version) (o : Option Data) → ((d : Data) → o ≡ Some d → Keeps v section.Gossip d) → IfSome (option_map gossip_of o) IsSoundGossip
gossip_if v None kept = tt
gossip_if v (Some d) kept = gossip_one v d (kept d refl)

gossip_sound : (v : Version) (tree : Data) → AllKept v tree → IfSome (gossip_in v (value_at key.Gossip tree)) IsSoundGossip
unfolding key_rules_of
gossip_sound One tree kept = tt
gossip_sound Two tree kept = tt
gossip_sound Three tree kept = gossip_if Three (value_at key.Gossip tree) (table_kept Three tree 13 key.Gossip Optional section.Gossip (λ _. refl) kept)
gossip_sound Four tree kept = gossip_if Four (value_at key.Gossip tree) (table_kept Four tree 13 key.Gossip Optional section.Gossip (λ _. refl) kept)

stream_kept : (v : Version) (tree : Data) → AllKept v tree → (d : Data) → stream_table v tree ≡ Some d → Keeps v section.Stream d
unfolding key_rules_of
stream_kept One tree kept d at = absurd (let no : None ≡ Some d = at in cc)
stream_kept Two tree kept d at = absurd (let no : None ≡ Some d = at in cc)
stream_kept Three tree kept d at = table_kept Three tree 14 key.Stream Optional section.Stream (λ _. refl) kept d at
stream_kept Four tree kept d at = table_kept Four tree 14 key.Stream Optional section.Stream (λ _. refl) kept d at

record StreamSound (s : StreamTimes) : Type 0 where
  connect : Within 1 0x100_0000 s.connect
  again : Within 1 0x100_0000 s.again

stream_sound : (v : Version) (o : Option Data) → ((d : Data) → o ≡ Some d → Keeps v section.Stream d) → StreamSound (stream_in o)
unfolding key_rules_of spelling_of
stream_sound v o kept = record {
  connect = optional v section.Stream 0 key.Connect 1000 1 0x100_0000 (λ _. refl) (omega arith, omega arith) o kept;
  again = optional v section.Stream 1 key.Again 200 1 0x100_0000 (λ _. refl) (omega arith, omega arith) o kept;
}

suspicion_sound : (v : Version) (o : Option Data) → ((d : Data) → o ≡ Some d → Keeps v section.Suspicion d) → SuspicionSound (suspicion_in o)
unfolding key_rules_of spelling_of
suspicion_sound v o kept = record {
  alpha = optional v section.Suspicion 0 key.Alpha 5 1 100 (λ _. refl) (omega arith, omega arith) o kept;
  beta = optional v section.Suspicion 1 key.Beta 6 1 100 (λ _. refl) (omega arith, omega arith) o kept;
}

lifeguard_sound : (v : Version) (o : Option Data) → ((d : Data) → o ≡ Some d → Keeps v section.Lifeguard d) → LifeguardSound (lifeguard_in o)
unfolding key_rules_of spelling_of
lifeguard_sound v o kept = record {
  ceiling = (optional v section.Lifeguard 3 key.Ceiling 8 0 16 (λ _. refl) (omega arith, omega arith) o kept).1;
  confirmations = (optional v section.Lifeguard 4 key.Confirmations 3 0 9 (λ _. refl) (omega arith, omega arith) o kept).1;
  nack_percent = optional v section.Lifeguard 5 key.NackPercent 80 1 100 (λ _. refl) (omega arith, omega arith) o kept;
}

link_sound : (v : Version) (o : Option Data) (d : Data) → o ≡ Some d → ((e : Data) → o ≡ Some e → Keeps v section.Link e) → IsSoundLink (link_in o)
unfolding key_rules_of spelling_of
link_sound v o d at kept = record {
  delay = required v section.Link 0 key.Delay 1 0x10_0000 (λ _. refl) o d at (kept d at);
  jitter = (optional v section.Link 1 key.Jitter 0 0 0x10_0000 (λ _. refl) (omega arith, omega arith) o kept).1;
  loss = (optional v section.Link 2 key.Loss 0 0 1_000_000 (λ _. refl) (omega arith, omega arith) o kept).1;
}

-- a number of a path that is there, else the link's
path_number : (v : Version) (i : ℕ) (k : FormatKey) (least most n : ℕ) → IsRow v section.Path i (whole k Optional least most) → Within least most n → (d : Data) → Keeps v section.Path d
    → Within least most (whole_or n (value_at k d))
path_number v i k least most n is fine d kept =
    bounded false least most n (value_at k d) (λ _. fine)
    (sym (is (is_missing d)) ∙ each_false (is_missing d) i (key_rules_of v section.Path) kept.missing)
    (sym (is (has_fault is_other_kind d)) ∙ each_false (has_fault is_other_kind d) i (key_rules_of v section.Path) kept.kinds)
    (sym (is (has_fault is_outside d)) ∙ each_false (has_fault is_outside d) i (key_rules_of v section.Path) kept.ranges)

path_sound : (v : Version) (link : Link) (d : Data) → IsSoundLink link → Keeps v section.Path d → IsSoundLink (link_over link d)
unfolding key_rules_of
path_sound v link d sound kept = record {
  delay = path_number v 2 key.Delay 1 0x10_0000 link.delay (λ _. refl) sound.delay d kept;
  jitter = (path_number v 3 key.Jitter 0 0x10_0000 link.jitter (λ _. refl) (omega arith, sound.jitter) d kept).1;
  loss = (path_number v 4 key.Loss 0 1_000_000 link.loss (λ _. refl) (omega arith, sound.loss) d kept).1;
}

last_of : (b : Bool) (p : Path) (ps : List Path) (other : Link) → IsSoundLink (last_link p.link (map (λ q. q.link) ps)) → IsSoundLink (last_link other (map (λ q. q.link) ps))
    → IsSoundLink (last_link other (map (λ q. q.link) (cond b (p ∷ ps) ps)))
last_of true p ps other taken passed = taken
last_of false p ps other taken passed = passed

abbrev Fine : Version → Section → List Data → Check → Type 0
Fine v s ds check = list_any (table_breaks v check) (map (section_table s) ds) ≡ false

-- the last link of the paths that pass a test
last_sound : (v : Version) (groups : List Group) (link : Link) (test : Path → Bool) → IsSoundLink link → (ds : List Data) → Fine v section.Path ds Missing → Fine v section.Path ds WrongKind → Fine v section.Path ds OutOfRange
    → (other : Link) → IsSoundLink other → IsSoundLink (last_link other (map (λ p. p.link) (filter test (map (path_in groups link) ds))))
last_sound v groups link test sound [] a b e other fine = fine
last_sound v groups link test sound (d ∷ ds) a b e other fine =
    let missing = neither (table_breaks v Missing (section_table section.Path d)) _ a in
    let kinds = neither (table_breaks v WrongKind (section_table section.Path d)) _ b in
    let ranges = neither (table_breaks v OutOfRange (section_table section.Path d)) _ e in
    let first = path_sound v link d sound (keeps v section.Path d missing.0 kinds.0 ranges.0) in
    let rest = last_sound v groups link test sound ds missing.1 kinds.1 ranges.1 in
    last_of (test (path_in groups link d)) (path_in groups link d) (filter test (map (path_in groups link) ds)) other (rest (link_over link d) first) (rest other fine)

paths_sound : (v : Version) (groups : List Group) (link : Link) (test : Path → Bool) (o : Option Data) → IsSoundLink link
    → list_any (table_breaks v Missing) (tables_at (kind.List section.Path) o) ≡ false → list_any (table_breaks v WrongKind) (tables_at (kind.List section.Path) o) ≡ false
    → list_any (table_breaks v OutOfRange) (tables_at (kind.List section.Path) o) ≡ false
    → IsSoundLink (last_link link (map (λ p. p.link) (filter test (map (path_in groups link) (option_map_or items_of o [])))))
paths_sound v groups link test None sound a b e = sound
paths_sound v groups link test (Some d) sound a b e = last_sound v groups link test sound (items_of d) a b e link sound

-- ---- the items of the other lists

-- each item keeps the rules
each_kept : (v : Version) (s : Section) (ds : List Data) → Fine v s ds Missing → Fine v s ds WrongKind → Fine v s ds OutOfRange → AllByRecursion (Keeps v s) ds
each_kept v s [] a b e = tt
each_kept v s (d ∷ ds) a b e =
    let missing = neither (table_breaks v Missing (section_table s d)) _ a in
    let kinds = neither (table_breaks v WrongKind (section_table s d)) _ b in
    let ranges = neither (table_breaks v OutOfRange (section_table s d)) _ e in
    (keeps v s d missing.0 kinds.0 ranges.0, each_kept v s ds missing.1 kinds.1 ranges.1)

items_kept : (v : Version) (s : Section) (o : Option Data) → list_any (table_breaks v Missing) (tables_at (kind.List s) o) ≡ false → list_any (table_breaks v WrongKind) (tables_at (kind.List s) o) ≡ false
    → list_any (table_breaks v OutOfRange) (tables_at (kind.List s) o) ≡ false → AllByRecursion (Keeps v s) (option_map_or items_of o [])
items_kept v s None a b e = tt
items_kept v s (Some d) a b e = each_kept v s (items_of d) a b e

extra_kept : (v : Version) (d : Data) → Keeps v section.Slow d → number_at section.Slow key.Extra (Some d) ≤ 2 ^ 24
unfolding key_rules_of
extra_kept v d kept = (required v section.Slow 3 key.Extra 1 0x100_0000 (λ _. refl) (Some d) d refl kept).1

at_kept : (v : Version) (d : Data) → Keeps v section.Departure d → number_at section.Departure key.At (Some d) ≤ 2 ^ 40
unfolding key_rules_of
at_kept v d kept = (required v section.Departure 1 key.At 0 0x100_0000_0000 (λ _. refl) (Some d) d refl kept).1

start_kept : (v : Version) (d : Data) → Keeps v section.Group d → number_at section.Group key.Start (Some d) ≤ 2 ^ 40
unfolding key_rules_of spelling_of
start_kept v d kept = (number_kept v section.Group 2 key.Start (Default 0) 0 0x100_0000_0000 (λ _. refl) d (λ _. (omega arith, omega arith)) kept).1

extra_step : (b : Bool) (e : Slow) (rest : Option Slow) → e.extra ≤ 2 ^ 24 → option_map_or (λ (f : Slow). f.extra) rest 0 ≤ 2 ^ 24 → option_map_or (λ (f : Slow). f.extra) (cond b (Some e) rest) 0 ≤ 2 ^ 24
extra_step true e rest here later = here
extra_step false e rest here later = later

-- the greatest of the extras that hold
greatest_sound : (v : Version) (gs : List Group) (m t : ℕ) (ds : List Data) → AllByRecursion (Keeps v section.Slow) ds → greatest_extra (map (slow_in gs) ds) m t ≤ 2 ^ 24
greatest_sound v gs m t [] kept = omega arith
greatest_sound v gs m t (d ∷ ds) kept =
    let e = slow_in gs d in
    let rest = greatest_extra (map (slow_in gs) ds) m t in
    let few = greatest_sound v gs m t ds kept.1 in
    cond_both (is_slow m t e) (max e.extra rest) rest (λ n. n ≤ 2 ^ 24) (λ _. omega (arith, extra_kept v d kept.0, few)) (λ _. few)

extras_sound : (v : Version) (gs : List Group) (test : Slow → Bool) (ds : List Data) → AllByRecursion (Keeps v section.Slow) ds → option_map_or (λ (e : Slow). e.extra) (find test (map (slow_in gs) ds)) 0 ≤ 2 ^ 24
extras_sound v gs test [] kept = omega arith
extras_sound v gs test (d ∷ ds) kept =
    extra_step (test (slow_in gs d)) (slow_in gs d) (find test (map (slow_in gs) ds)) (extra_kept v d kept.0) (extras_sound v gs test ds kept.1)

extras_by : (w v : Version) (gs : List Group) (m t : ℕ) (ds : List Data) → AllByRecursion (Keeps v section.Slow) ds → extra_by w (map (slow_in gs) ds) m t ≤ 2 ^ 24
extras_by One v gs m t ds kept = extras_sound v gs (is_slow m t) ds kept
extras_by Two v gs m t ds kept = extras_sound v gs (is_slow m t) ds kept
extras_by Three v gs m t ds kept = extras_sound v gs (is_slow m t) ds kept
extras_by Four v gs m t ds kept = greatest_sound v gs m t ds kept

abbrev IsSoundCrash : Setup → ℕ → Option ℕ → Type 0
IsSoundCrash s m o = IfSome o (λ t. (start_of s m < t) × (t ≤ 2 ^ 40))

-- crashes and leaves, by the member and the moment of each
module _ {A : Type 0} (member at : A → ℕ) (s : Setup) where
  abbrev is_early_one : A → Bool
  is_early_one x = nat_le (at x) (start_of s (member x))

  departure_step : (m : ℕ) (b : Bool) (x : A) (rest : Option A) → nat_eq (member x) m ≡ b → is_early_one x ≡ false → at x ≤ 2 ^ 40
      → IsSoundCrash s m (option_map at rest) → IsSoundCrash s m (option_map at (cond b (Some x) rest))
  departure_step m true x rest same late small later =
      let after = leb-false (at x) (start_of s (member x)) late in
      let its : start_of s (member x) ≡ start_of s m = ap (start_of s) (eqb-true (member x) m same) in
      (omega (arith, after, its), small)
  departure_step m false x rest same late small later = later

  departures_sound : (v : Version) (read : Data → A) → ((d : Data) → at (read d) ≡ number_at section.Departure key.At (Some d)) → (m : ℕ) (ds : List Data) → AllByRecursion (Keeps v section.Departure) ds
      → list_any is_early_one (map read ds) ≡ false → IsSoundCrash s m (option_map at (find (λ x. nat_eq (member x) m) (map read ds)))
  departures_sound v read at_is m [] kept late = tt
  departures_sound v read at_is m (d ∷ ds) kept late =
      let x = read d in
      let parts = neither (is_early_one x) (list_any is_early_one (map read ds)) late in
      let small : at x ≤ 2 ^ 40 = omega (arith, at_is d, at_kept v d kept.0) in
      departure_step m (nat_eq (member x) m) x (find (λ y. nat_eq (member y) m) (map read ds)) refl parts.0 small (departures_sound v read at_is m ds kept.1 parts.1)

-- the lists that versions 2 and 3 add
leaves_kept : (v : Version) (tree : Data) → KeepsShape v tree → AllByRecursion (Keeps v section.Departure) (added_items v key.Leave tree)
unfolding key_rules_of
leaves_kept One tree shape = tt
leaves_kept Two tree shape =
    let row = list_row key.Leave Optional section.Departure in
    items_kept Two section.Departure (value_at key.Leave tree) (below_kept Two tree Missing 12 row (λ _. refl) shape.missing) (below_kept Two tree WrongKind 12 row (λ _. refl) shape.kinds)
    (below_kept Two tree OutOfRange 12 row (λ _. refl) shape.ranges)
leaves_kept Three tree shape =
    let row = list_row key.Leave Optional section.Departure in
    items_kept Three section.Departure (value_at key.Leave tree) (below_kept Three tree Missing 12 row (λ _. refl) shape.missing) (below_kept Three tree WrongKind 12 row (λ _. refl) shape.kinds)
    (below_kept Three tree OutOfRange 12 row (λ _. refl) shape.ranges)
leaves_kept Four tree shape =
    let row = list_row key.Leave Optional section.Departure in
    items_kept Four section.Departure (value_at key.Leave tree) (below_kept Four tree Missing 12 row (λ _. refl) shape.missing) (below_kept Four tree WrongKind 12 row (λ _. refl) shape.kinds)
    (below_kept Four tree OutOfRange 12 row (λ _. refl) shape.ranges)

cuts_kept : (v : Version) (tree : Data) → KeepsShape v tree → AllByRecursion (Keeps v section.Cut) (added_items v key.Cut tree)
unfolding key_rules_of
cuts_kept One tree shape = tt
cuts_kept Two tree shape =
    let row = list_row key.Cut Optional section.Cut in
    items_kept Two section.Cut (value_at key.Cut tree) (below_kept Two tree Missing 11 row (λ _. refl) shape.missing) (below_kept Two tree WrongKind 11 row (λ _. refl) shape.kinds)
    (below_kept Two tree OutOfRange 11 row (λ _. refl) shape.ranges)
cuts_kept Three tree shape =
    let row = list_row key.Cut Optional section.Cut in
    items_kept Three section.Cut (value_at key.Cut tree) (below_kept Three tree Missing 11 row (λ _. refl) shape.missing) (below_kept Three tree WrongKind 11 row (λ _. refl) shape.kinds)
    (below_kept Three tree OutOfRange 11 row (λ _. refl) shape.ranges)
cuts_kept Four tree shape =
    let row = list_row key.Cut Optional section.Cut in
    items_kept Four section.Cut (value_at key.Cut tree) (below_kept Four tree Missing 11 row (λ _. refl) shape.missing) (below_kept Four tree WrongKind 11 row (λ _. refl) shape.kinds)
    (below_kept Four tree OutOfRange 11 row (λ _. refl) shape.ranges)

pauses_kept : (v : Version) (tree : Data) → KeepsShape v tree → AllByRecursion (Keeps v section.Pause) (pause_items v tree)
unfolding key_rules_of
pauses_kept One tree shape = tt
pauses_kept Two tree shape = tt
pauses_kept Three tree shape =
    let row = list_row key.Pause Optional section.Pause in
    items_kept Three section.Pause (value_at key.Pause tree) (below_kept Three tree Missing 15 row (λ _. refl) shape.missing) (below_kept Three tree WrongKind 15 row (λ _. refl) shape.kinds)
    (below_kept Three tree OutOfRange 15 row (λ _. refl) shape.ranges)
pauses_kept Four tree shape =
    let row = list_row key.Pause Optional section.Pause in
    items_kept Four section.Pause (value_at key.Pause tree) (below_kept Four tree Missing 15 row (λ _. refl) shape.missing) (below_kept Four tree WrongKind 15 row (λ _. refl) shape.kinds)
    (below_kept Four tree OutOfRange 15 row (λ _. refl) shape.ranges)

until_kept : (v : Version) (d : Data) → Keeps v section.Cut d → number_at section.Cut key.Until (Some d) ≤ 2 ^ 40
unfolding key_rules_of
until_kept v d kept = (required v section.Cut 3 key.Until 0 0x100_0000_0000 (λ _. refl) (Some d) d refl kept).1

cuts_sound : (v : Version) (gs : List Group) (ds : List Data) → AllByRecursion (Keeps v section.Cut) ds → list_any is_cut_over (map (cut_in gs) ds) ≡ false
    → AllByRecursion (λ (c : Cut). (c.at < c.until) × (c.until ≤ 2 ^ 40)) (map (cut_in gs) ds)
cuts_sound v gs [] kept lasting = tt
cuts_sound v gs (d ∷ ds) kept lasting =
    let c = cut_in gs d in
    let parts = neither (is_cut_over c) (list_any is_cut_over (map (cut_in gs) ds)) lasting in
    ((leb-false c.until c.at parts.0, until_kept v d kept.0), cuts_sound v gs ds kept.1 parts.1)

pause_end_kept : (v : Version) (d : Data) → Keeps v section.Pause d → number_at section.Pause key.Until (Some d) ≤ 2 ^ 40
unfolding key_rules_of
pause_end_kept v d kept = (required v section.Pause 2 key.Until 0 0x100_0000_0000 (λ _. refl) (Some d) d refl kept).1

pauses_sound : (v : Version) (gs : List Group) (ds : List Data) → AllByRecursion (Keeps v section.Pause) ds → list_any is_pause_over (map (pause_in gs) ds) ≡ false
    → AllByRecursion (λ (p : Pause). (p.from < p.until) × (p.until ≤ 2 ^ 40)) (map (pause_in gs) ds)
pauses_sound v gs [] kept lasting = tt
pauses_sound v gs (d ∷ ds) kept lasting =
    let p = pause_in gs d in
    let parts = neither (is_pause_over p) (list_any is_pause_over (map (pause_in gs) ds)) lasting in
    ((leb-false p.until p.from parts.0, pause_end_kept v d kept.0), pauses_sound v gs ds kept.1 parts.1)

-- ---- what happens to members, and what version 4 adds

-- the events of crashes, and of leaves
happening : {A : Type 0} (s : Setup) (event : A → ScriptEvent) (read : Data → A) (is_bad : A → Bool) (v : Version)
    → ((d : Data) → Keeps v section.Departure d → is_bad (read d) ≡ false → IsSoundEvent s (event (read d))) → (ds : List Data) → AllByRecursion (Keeps v section.Departure) ds
    → list_any is_bad (map read ds) ≡ false → AllByRecursion (IsSoundEvent s) (map event (map read ds))
happening s event read is_bad v each [] kept fine = tt
happening s event read is_bad v each (d ∷ ds) kept fine =
    let parts = neither (is_bad (read d)) (list_any is_bad (map read ds)) fine in
    (each d kept.0 parts.0, happening s event read is_bad v each ds kept.1 parts.1)

crash_happens : (v : Version) (s : Setup) (gs : List Group) (d : Data) → Keeps v section.Departure d → is_early s (crash_in gs d) ≡ false → IsSoundEvent s (crash_event (crash_in gs d))
crash_happens v s gs d kept late = let c = crash_in gs d in record { after = leb-false c.at (start_of s c.member) late; small = at_kept v d kept; contact = tt }

leave_happens : (v : Version) (s : Setup) (gs : List Group) (d : Data) → Keeps v section.Departure d → is_early_leave s (leave_in gs d) ≡ false → IsSoundEvent s (leave_event (leave_in gs d))
leave_happens v s gs d kept late = let l = leave_in gs d in record { after = leb-false l.at (start_of s l.member) late; small = at_kept v d kept; contact = tt }

restart_at_kept : (v : Version) (d : Data) → Keeps v section.Restart d → number_at section.Restart key.At (Some d) ≤ 2 ^ 40
unfolding key_rules_of
restart_at_kept v d kept = (required v section.Restart 1 key.At 0 0x100_0000_0000 (λ _. refl) (Some d) d refl kept).1

contact_fine : (m k : ℕ) (o : Option ℕ) → ((c : ℕ) → o ≡ Some c → c < k) → option_map_or (λ c. nat_eq c m) o false ≡ false → IfSome o (λ c. (c < k) × (c ≢ m))
contact_fine m k None below fine = tt
contact_fine m k (Some c) below fine = (below c refl, eqb-false c m fine)

member_below : (gs : List Group) (name : List ℕ) (c : ℕ) → member_named gs name ≡ Some c → c < sum_by (λ (g : Group). g.count) gs
unfolding member_named
member_below gs name c found = omega (arith, (position-Some (bytes_eq name) (names_of_all gs) c [] found).0, length-names_of_all gs)

named_below : (gs : List Group) (o : Option (List ℕ)) (c : ℕ) → option_and_then (member_named gs) o ≡ Some c → c < sum_by (λ (g : Group). g.count) gs
named_below gs None c found = absurd (let no : None ≡ Some c = found in cc)
named_below gs (Some t) c found = member_below gs t c found

restarts_happen : (v : Version) (s : Setup) (gs : List Group) → member_count s ≡ sum_by (λ (g : Group). g.count) gs → (ds : List Data) → AllByRecursion (Keeps v section.Restart) ds
    → list_any (is_early_restart s) (map (restart_in gs) ds) ≡ false → list_any asks_itself (map (restart_in gs) ds) ≡ false → AllByRecursion (IsSoundEvent s) (map restart_event (map (restart_in gs) ds))
restarts_happen v s gs counted [] kept late others = tt
restarts_happen v s gs counted (d ∷ ds) kept late others =
    let r = restart_in gs d in
    let first = neither (is_early_restart s r) (list_any (is_early_restart s) (map (restart_in gs) ds)) late in
    let second = neither (asks_itself r) (list_any asks_itself (map (restart_in gs) ds)) others in (
      record {
        after = leb-false r.at (start_of s r.member) first.0;
        small = restart_at_kept v d kept.0;
        contact = contact_fine r.member (member_count s) r.contact (λ c is. omega (arith, named_below gs (text_if key.Contact d) c is, counted)) second.0;
      },
      restarts_happen v s gs counted ds kept.1 first.1 second.1,
    )

-- the lists and tables that version 4 adds
fourth_kept : (tree : Data) → KeepsShape Four tree → (i : ℕ) (k : FormatKey) (s : Section) → IsRow Four section.Top i (list_row k Optional s) → AllByRecursion (Keeps Four s) (items_at k tree)
fourth_kept tree shape i k s is =
    let row = list_row k Optional s in
    items_kept Four s (value_at k tree) (below_kept Four tree Missing i row is shape.missing) (below_kept Four tree WrongKind i row is shape.kinds) (below_kept Four tree OutOfRange i row is shape.ranges)

queue_one : (d : Data) → Keeps Four section.Gossip d → IfSome (queue_in d) IsSoundQueue
unfolding key_rules_of spelling_of
queue_one d kept =
    let queue : Queue = record { packet = number_at section.Gossip key.Packet (Some d); meta = number_at section.Gossip key.Meta (Some d) } in
    let sound : IsSoundQueue queue = record {
      packet = (number_kept Four section.Gossip 5 key.Packet (Default 0) 0 65507 (λ _. refl) d (λ _. (omega arith, omega arith)) kept).1;
      meta = (number_kept Four section.Gossip 6 key.Meta (Default 0) 0 512 (λ _. refl) d (λ _. (omega arith, omega arith)) kept).1;
    } in
    cond_both (switch_set key.Queue (Some d)) (Some queue) None (λ (o : Option Queue). IfSome o IsSoundQueue) (λ _. sound) (λ _. tt)

queue_if : (o : Option Data) → ((d : Data) → o ≡ Some d → Keeps Four section.Gossip d) → IfSome (option_and_then queue_in o) IsSoundQueue
queue_if None kept = tt
queue_if (Some d) kept = queue_one d (kept d refl)

queue_sound : (v : Version) (tree : Data) → AllKept v tree → IfSome (option_and_then queue_in (fourth_table v key.Gossip tree)) IsSoundQueue
unfolding key_rules_of
queue_sound One tree kept = tt
queue_sound Two tree kept = tt
queue_sound Three tree kept = tt
queue_sound Four tree kept = queue_if (value_at key.Gossip tree) (table_kept Four tree 13 key.Gossip Optional section.Gossip (λ _. refl) kept)

record DialSound (t : DialTimes) : Type 0 where
  limit : Within 1 0x100_0000 t.limit
  retry : Within 1 0x100_0000 t.retry

no_dial : DialSound (dial_in None)
unfolding key_rules_of spelling_of number_at
no_dial = record { limit = (omega arith, omega arith); retry = (omega arith, omega arith) }

dial_if : (o : Option Data) → ((d : Data) → o ≡ Some d → Keeps Four section.Stream d) → DialSound (dial_in o)
unfolding key_rules_of spelling_of
dial_if o kept = record {
  limit = optional Four section.Stream 2 key.Limit 10000 1 0x100_0000 (λ _. refl) (omega arith, omega arith) o kept;
  retry = optional Four section.Stream 3 key.Retry 30000 1 0x100_0000 (λ _. refl) (omega arith, omega arith) o kept;
}

dial_sound : (v : Version) (tree : Data) → AllKept v tree → DialSound (dial_in (fourth_table v key.Stream tree))
unfolding key_rules_of
dial_sound One tree kept = no_dial
dial_sound Two tree kept = no_dial
dial_sound Three tree kept = no_dial
dial_sound Four tree kept = dial_if (value_at key.Stream tree) (table_kept Four tree 14 key.Stream Optional section.Stream (λ _. refl) kept)

serf_one : (d : Data) → Keeps Four section.Serf d → IsSoundSerf (serf_in d)
unfolding key_rules_of spelling_of
serf_one d kept = record {
  reconnect = number_kept Four section.Serf 0 key.Reconnect (Default 30000) 1 0x100_0000 (λ _. refl) d (λ _. (omega arith, omega arith)) kept;
  reap = (number_kept Four section.Serf 1 key.Reap (Default 86400000) 0 0x100_0000_0000 (λ _. refl) d (λ _. (omega arith, omega arith)) kept).1;
  linger = number_kept Four section.Serf 2 key.Linger (Default 1000) 1 0x100_0000 (λ _. refl) d (λ _. (omega arith, omega arith)) kept;
}

serf_if : (o : Option Data) → ((d : Data) → o ≡ Some d → Keeps Four section.Serf d) → IfSome (option_map serf_in o) IsSoundSerf
serf_if None kept = tt
serf_if (Some d) kept = serf_one d (kept d refl)

serf_sound : (v : Version) (tree : Data) → AllKept v tree → IfSome (option_map serf_in (fourth_table v key.Serf tree)) IsSoundSerf
unfolding key_rules_of
serf_sound One tree kept = tt
serf_sound Two tree kept = tt
serf_sound Three tree kept = tt
serf_sound Four tree kept = serf_if (value_at key.Serf tree) (table_kept Four tree 18 key.Serf Optional section.Serf (λ _. refl) kept)

-- nobody crashes and leaves
none_of : (m : ℕ) (cs : List Crash) → list_any (λ (c : Crash). nat_eq c.member m) cs ≡ false → find (λ (c : Crash). nat_eq c.member m) cs ≡ None
none_of m [] none = refl
none_of m (c ∷ cs) none =
    let parts = neither (nat_eq c.member m) (list_any (λ (e : Crash). nat_eq e.member m) cs) none in
    ap (λ b. cond b (Some c) (find (λ (e : Crash). nat_eq e.member m) cs)) parts.0 ∙ none_of m cs parts.1

abbrev IsOnce : ℕ → List Crash → Option Leave → Type 0
IsOnce m cs o = is_some (option_map (λ (l : Leave). l.at) o) ≡ true → option_map (λ (c : Crash). c.at) (find (λ (c : Crash). nat_eq c.member m) cs) ≡ None

once_step : (m : ℕ) (cs : List Crash) (l : Leave) (rest : Option Leave) (b : Bool) → nat_eq l.member m ≡ b → crashes_too cs l ≡ false → IsOnce m cs rest → IsOnce m cs (cond b (Some l) rest)
once_step m cs l rest true same apart later there =
    let none : list_any (λ (c : Crash). nat_eq c.member m) cs ≡ false = ap (λ n. list_any (λ (c : Crash). nat_eq c.member n) cs) (sym (eqb-true l.member m same)) ∙ apart in
    ap (option_map (λ (c : Crash). c.at)) (none_of m cs none)
once_step m cs l rest false same apart later there = later there

once_of : (m : ℕ) (cs : List Crash) (ls : List Leave) → list_any (crashes_too cs) ls ≡ false → IsOnce m cs (find (λ (l : Leave). nat_eq l.member m) ls)
once_of m cs [] apart there = absurd (false≢true there)
once_of m cs (l ∷ ls) apart there =
    let parts = neither (crashes_too cs l) (list_any (crashes_too cs) ls) apart in
    once_step m cs l (find (λ (e : Leave). nat_eq e.member m) ls) (nat_eq l.member m) refl parts.0 (once_of m cs ls parts.1) there

-- ---- groups and their contacts

record IsSoundGroup (s : Setup) (g : Group) : Type 0 where
  small : g.start ≤ 2 ^ 40
  none : g.start ≡ 0 → g.contact ≡ None
  some : 0 < g.start → (c : ℕ) × (g.contact ≡ Some c) × (c < member_count s) × (start_of s c ≡ 0)

no_contact : (s : Setup) (n : ℕ) (o : Option ℕ) → option_map_or (λ c. nat_eq n 0 || nat_lt 0 (start_of s c)) o false ≡ false → n ≡ 0 → o ≡ None
no_contact s n None fine zero_is = refl
no_contact s n (Some c) fine zero_is = absurd (false≢true (sym (neither (nat_eq n 0) (nat_lt 0 (start_of s c)) fine).0 ∙ eq-eqb n 0 zero_is))

-- a start over 0 is a number over 0
over_0 : (o : Option Data) → 0 < whole_or 0 o → is_over_0 o ≡ true
over_0 None h = absurd (omega arith)
over_0 (Some (integer (pos n))) h = grind (arith, nat_tests)
over_0 (Some (integer (negsuc n))) h = absurd (omega arith)
over_0 (Some (string t)) h = absurd (omega arith)
over_0 (Some (float x)) h = absurd (omega arith)
over_0 (Some (boolean t)) h = absurd (omega arith)
over_0 (Some (datetime t)) h = absurd (omega arith)
over_0 (Some (array ds)) h = absurd (omega arith)
over_0 (Some (table ms)) h = absurd (omega arith)

text_there : (o : Option Data) → is_absent kind.Text o ≡ false → option_map_or (is_other_kind kind.Text) o false ≡ false → (t : List ℕ) × (option_and_then as_str o ≡ Some t)
text_there None a b = absurd (false≢true (sym a))
text_there (Some (string t)) a b = (t, refl)
text_there (Some (integer z)) a b = absurd (false≢true (sym b))
text_there (Some (float x)) a b = absurd (false≢true (sym b))
text_there (Some (boolean t)) a b = absurd (false≢true (sym b))
text_there (Some (datetime t)) a b = absurd (false≢true (sym b))
text_there (Some (array ds)) a b = absurd (false≢true (sym b))
text_there (Some (table ms)) a b = absurd (false≢true (sym b))

found_by : (s : Setup) (n : ℕ) (o : Option ℕ) → is_none o ≡ false → option_map_or (λ c. nat_eq n 0 || nat_lt 0 (start_of s c)) o false ≡ false → (k : ℕ) → ((c : ℕ) → o ≡ Some c → c < k)
    → (c : ℕ) × (o ≡ Some c) × (c < k) × (start_of s c ≡ 0)
found_by s n None known fine k below = absurd (false≢true (sym known))
found_by s n (Some c) known fine k below =
    let early = ltb-false 0 (start_of s c) (neither (nat_eq n 0) (nat_lt 0 (start_of s c)) fine).1 in
    (c, refl, below c refl, omega (arith, early))

abbrev contact_row : KeyRule
contact_row = record { key = key.Contact; absence = RefusedOver0 key.Start; kind = kind.Text }

contact_there : (v : Version) (d : Data) → Keeps v section.Group d → 0 < number_at section.Group key.Start (Some d) → (t : List ℕ) × (text_if key.Contact d ≡ Some t)
unfolding number_at text_if key_rules_of spelling_of
contact_there v d kept late =
    let missing : is_missing d contact_row ≡ false = each_false (is_missing d) 3 (key_rules_of v section.Group) kept.missing in
    let kinds : has_fault is_other_kind d contact_row ≡ false = each_false (has_fault is_other_kind d) 3 (key_rules_of v section.Group) kept.kinds in
    text_there (value_at key.Contact d) (second_false (is_over_0 (value_at key.Start d)) (is_absent kind.Text (value_at key.Contact d)) (over_0 (value_at key.Start d) late) missing) kinds

group_sound : (v : Version) (s : Setup) (gs : List Group) (d : Data) → member_count s ≡ sum_by (λ (g : Group). g.count) gs → Keeps v section.Group d → has_lost_contact gs d ≡ false → is_bad_contact s (group_in gs d) ≡ false
    → IsSoundGroup s (group_in gs d)
group_sound v s gs d counted kept known fine = record {
  small = start_kept v d kept;
  none = no_contact s (group_in gs d).start (group_in gs d).contact fine;
  some = λ late.
      let named = contact_there v d kept late in
      let known_is : is_none (member_named gs named.0) ≡ false = ap (λ o. option_map_or (λ name. is_none (member_named gs name)) o false) (sym named.1) ∙ known in
      let contact_is : (group_in gs d).contact ≡ member_named gs named.0 = ap (option_and_then (member_named gs)) named.1 in
      let found = found_by s (group_in gs d).start (member_named gs named.0) known_is (ap (λ o. option_map_or (λ c. nat_eq (group_in gs d).start 0 || nat_lt 0 (start_of s c)) o false) (sym contact_is) ∙ fine)
      (member_count s) (λ c at. omega (arith, member_below gs named.0 c at, counted)) in
      (found.0, contact_is ∙ found.1, found.2, found.3);
}

groups_sound : (v : Version) (s : Setup) (gs : List Group) (ds : List Data) → member_count s ≡ sum_by (λ (g : Group). g.count) gs → AllByRecursion (Keeps v section.Group) ds → list_any (has_lost_contact gs) ds ≡ false
    → list_any (is_bad_contact s) (map (group_in gs) ds) ≡ false → (k : ℕ) → IfSome (slice_get (map (group_in gs) ds) k) (IsSoundGroup s)
groups_sound v s gs [] counted kept known fine k = tt
groups_sound v s gs (d ∷ ds) counted kept known fine zero =
    group_sound v s gs d counted kept.0 (neither (has_lost_contact gs d) (list_any (has_lost_contact gs) ds) known).0 (neither (is_bad_contact s (group_in gs d)) (list_any (is_bad_contact s) (map (group_in gs) ds)) fine).0
groups_sound v s gs (d ∷ ds) counted kept known fine (suc k) =
    groups_sound v s gs ds counted kept.1 (neither (has_lost_contact gs d) (list_any (has_lost_contact gs) ds) known).1
    (neither (is_bad_contact s (group_in gs d)) (list_any (is_bad_contact s) (map (group_in gs) ds)) fine).1 k

start_by : (s : Setup) (o : Option Group) → IfSome o (IsSoundGroup s) → option_map_or (λ (g : Group). g.start) o 0 ≤ 2 ^ 40
start_by s None sound = omega arith
start_by s (Some g) sound = sound.small

none_by : (s : Setup) (o : Option Group) → IfSome o (IsSoundGroup s) → option_map_or (λ (g : Group). g.start) o 0 ≡ 0 → option_and_then (λ (g : Group). g.contact) o ≡ None
none_by s None sound = λ _. refl
none_by s (Some g) sound = sound.none

some_by : (s : Setup) (o : Option Group) → IfSome o (IsSoundGroup s) → 0 < option_map_or (λ (g : Group). g.start) o 0
    → (c : ℕ) × (option_and_then (λ (g : Group). g.contact) o ≡ Some c) × (c < member_count s) × (start_of s c ≡ 0)
some_by s None sound = λ late. absurd (omega arith)
some_by s (Some g) sound = sound.some

end_sound : (v : Version) (d : Data) → Keeps v section.Top d → number_at section.Top key.End (Some d) ≤ 2 ^ 40
unfolding key_rules_of
end_sound v d kept = (required v section.Top 2 key.End 0 0x100_0000_0000 (λ _. refl) (Some d) d refl kept).1

count_sound : (v : Version) (d : Data) → Keeps v section.Group d → 0 < number_at section.Group key.Count (Some d)
unfolding key_rules_of
count_sound v d kept = (required v section.Group 1 key.Count 1 (most_members v) (λ _. refl) (Some d) d refl kept).0

-- as many members as without the contacts
pub counts_same : (tree : Data) → member_count (setup_of_tree tree) ≡ sum_by (λ (g : Group). g.count) (plain_groups tree)
unfolding setup_of_tree plain_groups
counts_same tree =
    fold-map (λ (n : ℕ) (g : Group). n + g.count) (group_in (map plain_group (items_at key.Group tree))) 0 (items_at key.Group tree)
    ∙ sym (fold-map (λ (n : ℕ) (g : Group). n + g.count) plain_group 0 (items_at key.Group tree))

-- the groups' names have their form, with the contacts as without them
forms_kept : (v : Version) (gs : List Group) (ds : List Data) → list_any (λ (g : Group). not (is_name_of v g.name)) (map plain_group ds) ≡ false → list_all (λ (g : Group). is_name_of v g.name) (map (group_in gs) ds) ≡ true
forms_kept v gs [] fine = refl
forms_kept v gs (d ∷ ds) fine =
    let parts = neither (not (is_name_of v (plain_group d).name)) (list_any (λ (g : Group). not (is_name_of v g.name)) (map plain_group ds)) fine in
    ap (λ b. b && list_all (λ (g : Group). is_name_of v g.name) (map (group_in gs) ds)) (turned (is_name_of v (plain_group d).name) parts.0) ∙ forms_kept v gs ds parts.1

names_sound : (v : Version) (gs : List Group) (tree : Data) → breaks_names_in v (plain_groups tree) ≡ false → list_all (λ (g : Group). is_name_of v g.name) (map (group_in gs) (items_at key.Group tree)) ≡ true
unfolding breaks_names_in plain_groups
names_sound v gs tree fine =
    let groups : List Group = map plain_group (items_at key.Group tree) in
    forms_kept v gs (items_at key.Group tree) (neither (list_any (λ (g : Group). not (is_name_of v g.name)) groups) (any_two bytes_eq (map (λ (g : Group). g.name) groups)) fine).0

-- before version 4 names have one form
names_earlier : (v : Version) (gs : List Group) → is_fourth v ≡ false → breaks_names gs ≡ false → breaks_names_in v gs ≡ false
unfolding breaks_names_in breaks_names
names_earlier One gs earlier fine = fine
names_earlier Two gs earlier fine = fine
names_earlier Three gs earlier fine = fine
names_earlier Four gs earlier fine = absurd (false≢true (sym earlier))

-- What the rules on the values say of a document, by those of its version.
record IsJudged (tree : Data) : Type 0 where
  names : breaks_names_in (version_of tree) (plain_groups tree) ≡ false
  references : breaks_references tree (plain_groups tree) ≡ false
  times : breaks_times (setup_of_tree tree) ≡ false
  added_times : breaks_added_times (setup_of_tree tree) ≡ false
  size : breaks_size (setup_of_tree tree) ≡ false
  restarts : AllByRecursion (IsSoundEvent (setup_of_tree tree)) (map restart_event (setup_of_tree tree).restarts)
  blocks : AllByRecursion (λ (p : Pause). (p.from < p.until) × (p.until ≤ 2 ^ 40)) (setup_of_tree tree).blocks
  before_fourth : IsBeforeFourth (version_of tree) → IsWithoutFourth (setup_of_tree tree)

judged_sound : (tree : Data) → KeepsShape (version_of tree) tree → IsJudged tree → IsSound (setup_of_tree tree)
unfolding setup_of_tree key_rules_of breaks_references breaks_times breaks_added_times
judged_sound tree shape values =
    let v = version_of tree in
    let kept : AllKept v tree = record { missing = shape.missing; kinds = shape.kinds; ranges = shape.ranges } in
    let top = top_kept v tree kept in
    let gs = plain_groups tree in
    let absent : (i : ℕ) → test_at (is_missing tree) i (key_rules_of v section.Top) ≡ false = λ i. each_false (is_missing tree) i (key_rules_of v section.Top) top.missing in
    let swim_there = table_there section.Swim (value_at key.Swim tree) (absent 3) in
    let link_there = table_there section.Link (value_at key.Link tree) (absent 6) in
    let group = list_there section.Group (value_at key.Group tree) (absent 7) (each_false (has_fault is_other_kind tree) 7 (key_rules_of v section.Top) top.kinds) in
    let swim : SwimSound (swim_in v (value_at key.Swim tree)) = swim_sound v _ swim_there.0 swim_there.1 (table_kept v tree 3 key.Swim Refused section.Swim (λ _. refl) kept) in
    let suspicion : SuspicionSound (suspicion_in (value_at key.Suspicion tree)) = suspicion_sound v _ (table_kept v tree 4 key.Suspicion Optional section.Suspicion (λ _. refl) kept) in
    let lifeguard : LifeguardSound (lifeguard_in (value_at key.Lifeguard tree)) = lifeguard_sound v _ (table_kept v tree 5 key.Lifeguard Optional section.Lifeguard (λ _. refl) kept) in
    let link : IsSoundLink (link_in (value_at key.Link tree)) = link_sound v _ link_there.0 link_there.1 (table_kept v tree 6 key.Link Refused section.Link (λ _. refl) kept) in
    let stream : StreamSound (stream_in (stream_table v tree)) = stream_sound v (stream_table v tree) (stream_kept v tree kept) in
    let first : 0 < number_at section.Group key.Count (Some group.0) = count_sound v group.0 (first_kept v tree 7 key.Group Refused section.Group (λ _. refl) kept group.0 group.1 group.2) in
    let below : (i : ℕ) (k : FormatKey) (a : Absence) (s : Section) → IsRow v section.Top i (list_row k a s) → AllByRecursion (Keeps v s) (items_at k tree) =
    λ i k a s is. items_kept v s (value_at k tree) (below_kept v tree Missing i (list_row k a s) is shape.missing) (below_kept v tree WrongKind i (list_row k a s) is shape.kinds)
    (below_kept v tree OutOfRange i (list_row k a s) is shape.ranges) in
    let path : (check : Check) → breaks v check tree ≡ false → list_any (table_breaks v check) (tables_at (kind.List section.Path) (value_at key.Path tree)) ≡ false =
    λ check kept. below_kept v tree check 8 (list_row key.Path Optional section.Path) (λ _. refl) kept in
    let s : Setup = setup_of_tree tree in
    let times = neither (nat_le s.swim.period s.swim.timeout) (list_any (is_bad_contact s) s.groups || (list_any is_over s.slows || list_any (is_early s) s.crashes)) values.times in
    let contacts = neither (list_any (is_bad_contact s) s.groups) (list_any is_over s.slows || list_any (is_early s) s.crashes) times.1 in
    let early = neither (list_any is_over s.slows) (list_any (is_early s) s.crashes) contacts.1 in
    let known : list_any (has_lost_contact gs) (items_at key.Group tree) ≡ false = (neither _ _ values.references).0 in
    let groups = groups_sound v s gs (items_at key.Group tree) (counts_same tree) (below 7 key.Group Refused section.Group (λ _. refl)) known contacts.0 in
    let below_period : s.swim.timeout < s.swim.period = leb-false s.swim.period s.swim.timeout times.0 in
    let allowed = ltb-false (most_members v) (member_count s) values.size in
    let few : member_count s ≤ 16384 = omega (arith, allowed, most_of_all v) in
    let lasting = neither (list_any (is_early_leave s) s.leaves) (list_any is_cut_over s.cuts || list_any is_pause_over s.pauses) values.added_times in
    let over = neither (list_any is_cut_over s.cuts) (list_any is_pause_over s.pauses) lasting.1 in
    let dial : DialSound (dial_in (fourth_table v key.Stream tree)) = dial_sound v tree kept in
    let crashing = happening s crash_event (crash_in gs) (is_early s) v (crash_happens v s gs) (items_at key.Crash tree) (below 10 key.Crash Optional section.Departure (λ _. refl)) early.1 in
    let leaving = happening s leave_event (leave_in gs) (is_early_leave s) v (leave_happens v s gs) (added_items v key.Leave tree) (leaves_kept v tree shape) lasting.0 in
    record {
      end = end_sound v tree top;
      period = swim.period;
      timeout = (swim.timeout, below_period);
      helpers = swim.helpers;
      carry = swim.carry;
      lambda = swim.lambda;
      spread = swim.spread;
      alpha = suspicion.alpha;
      beta = suspicion.beta;
      ceiling = lifeguard.ceiling;
      confirmations = lifeguard.confirmations;
      nack_percent = lifeguard.nack_percent;
      delay = link.delay;
      jitter = link.jitter;
      loss = link.loss;
      between = λ i j. paths_sound v gs (link_in (value_at key.Link tree)) (leads (group_at s.groups i) (group_at s.groups j)) (value_at key.Path tree) link
          (path Missing shape.missing) (path WrongKind shape.kinds) (path OutOfRange shape.ranges);
      names = names_sound v gs tree values.names;
      members = (
        subst (λ (o : Option Data). 0 < sum_by (λ (g : Group). g.count) (map (group_in gs) (option_map_or items_of o []))) (sym group.2) (some_members (group_in gs group.0) (map (group_in gs) (list_of group.1)) first),
        few,
      );
      starts = λ m. start_by s (slice_get s.groups (group_at s.groups m)) (groups (group_at s.groups m));
      contacts = λ m _. record {
        none = none_by s (slice_get s.groups (group_at s.groups m)) (groups (group_at s.groups m));
        some = some_by s (slice_get s.groups (group_at s.groups m)) (groups (group_at s.groups m));
      };
      crashes = λ m. departures_sound (λ (c : Crash). c.member) (λ (c : Crash). c.at) s v (crash_in gs) (λ _. refl) m (items_at key.Crash tree) (below 10 key.Crash Optional section.Departure (λ _. refl)) early.1;
      extras = λ m t. extras_by v v gs m t (items_at key.Slow tree) (below 9 key.Slow Optional section.Slow (λ _. refl));
      leaves = λ m. departures_sound (λ (l : Leave). l.member) (λ (l : Leave). l.at) s v (leave_in gs) (λ _. refl) m (added_items v key.Leave tree) (leaves_kept v tree shape) lasting.0;
      cuts = cuts_sound v gs (added_items v key.Cut tree) (cuts_kept v tree shape) over.0;
      first = λ one. (plain_of tree one, ltb-false 1024 (member_count s) (ap (λ w. nat_lt (most_members w) (member_count s)) (sym one) ∙ values.size));
      gossip = gossip_sound v tree kept;
      connect = stream.connect;
      again = stream.again;
      pauses = pauses_sound v gs (pause_items v tree) (pauses_kept v tree shape) over.1;
      before_third = without_third tree;
      events = all_append (IsSoundEvent s) (map crash_event s.crashes) (map leave_event s.leaves ++ map restart_event s.restarts) crashing
          (all_append (IsSoundEvent s) (map leave_event s.leaves) (map restart_event s.restarts) leaving values.restarts);
      blocks = values.blocks;
      queue = queue_sound v tree kept;
      limit = dial.limit;
      retry = dial.retry;
      serf = serf_sound v tree kept;
      before_fourth = values.before_fourth;
    }

before_by : (v : Version) → is_fourth v ≡ false → IsBeforeFourth v
before_by One earlier = tt
before_by Two earlier = tt
before_by Three earlier = tt
before_by Four earlier = absurd (false≢true (sym earlier))

-- The scenario of a document of version 1, 2 or 3 that breaks no rule.
pub sound_of : (tree : Data) → is_fourth (version_of tree) ≡ false → KeepsShape (version_of tree) tree → KeepsValues tree → IsSound (setup_of_tree tree)
unfolding breaks_departures
sound_of tree earlier shape values =
    let s = setup_of_tree tree in
    let none = without_added tree (before_by (version_of tree) earlier) in
    let apart = neither (any_two is_same_leaver s.leaves) (list_any (crashes_too s.crashes) s.leaves) values.departures in
    judged_sound tree shape (record {
      names = names_earlier (version_of tree) (plain_groups tree) earlier values.names;
      references = values.references;
      times = values.times;
      added_times = values.added_times;
      size = values.size;
      restarts = subst (λ (rs : List Restart). AllByRecursion (IsSoundEvent s) (map restart_event rs)) (sym none.restarts) tt;
      blocks = subst (λ (ps : List Pause). AllByRecursion (λ (p : Pause). (p.from < p.until) × (p.until ≤ 2 ^ 40)) ps) (sym none.blocks) tt;
      before_fourth = λ _. record { restarts = none.restarts; blocks = none.blocks; queue = none.queue; serf = none.serf; once = λ m. once_of m s.crashes s.leaves apart.1 };
    })

-- The lists that version 4 adds, of a document of that version.
restarts_are : (tree : Data) → version_of tree ≡ Four → (setup_of_tree tree).restarts ≡ map (restart_in (plain_groups tree)) (items_at key.Restart tree)
unfolding setup_of_tree
restarts_are tree version = ap (λ v. restarts_in v (plain_groups tree) tree) version

blocks_are : (tree : Data) → version_of tree ≡ Four → (setup_of_tree tree).blocks ≡ map (pause_in (plain_groups tree)) (items_at key.Block tree)
unfolding setup_of_tree
blocks_are tree version = ap (λ v. blocks_in v (plain_groups tree) tree) version

-- The scenario of a document of version 4 that breaks no rule.
pub fourth_sound_of : (tree : Data) → version_of tree ≡ Four → KeepsShape (version_of tree) tree → KeepsFourth tree → IsSound (setup_of_tree tree)
unfolding key_rules_of fourth_breaks_times
fourth_sound_of tree version shape values =
    let s = setup_of_tree tree in
    let gs = plain_groups tree in
    let shape_4 : KeepsShape Four tree = subst (λ v. KeepsShape v tree) version shape in
    let late = neither (list_any (is_early_restart s) s.restarts) (list_any asks_itself s.restarts || list_any is_pause_over s.blocks) values.fourth_times in
    let others = neither (list_any asks_itself s.restarts) (list_any is_pause_over s.blocks) late.1 in
    let restarts = restarts_are tree version in
    let blocks = blocks_are tree version in
    judged_sound tree shape (record {
      names = ap (λ v. breaks_names_in v gs) version ∙ values.names;
      references = values.references;
      times = values.times;
      added_times = values.added_times;
      size = values.size;
      restarts = subst (λ (rs : List Restart). AllByRecursion (IsSoundEvent s) (map restart_event rs)) (sym restarts)
          (restarts_happen Four s gs (counts_same tree) (items_at key.Restart tree) (fourth_kept tree shape_4 16 key.Restart section.Restart (λ _. refl))
          (sym (ap (list_any (is_early_restart s)) restarts) ∙ late.0) (sym (ap (list_any asks_itself) restarts) ∙ others.0));
      blocks = subst (λ (ps : List Pause). AllByRecursion (λ (p : Pause). (p.from < p.until) × (p.until ≤ 2 ^ 40)) ps) (sym blocks)
          (pauses_sound Four gs (items_at key.Block tree) (fourth_kept tree shape_4 17 key.Block section.Pause (λ _. refl)) (sym (ap (list_any is_pause_over) blocks) ∙ others.1));
      before_fourth = λ before. absurd (subst IsBeforeFourth version before);
    })
