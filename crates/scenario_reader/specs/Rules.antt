-- The rules on the values of a document, each as a test, the least rule that is broken, and so what a text is answered.
use Rattle.std.specs.Prelude.{◌≡◌, ℕ, List, [], ◌∷◌, Bool, false, not, ◌&&◌, ◌||◌, if◌then◌else◌, Option, Some, None, is_none, Result, Ok, Err, nat_le, nat_lt, nat_eq, map, length, bytes_eq, option_map}
use Rattle.std.specs.List.{list_any}
use Rattle.std.specs.Option.{option_map_or, option_or}
use Rattle.std.specs.Str.{is_utf8}
use Rattle.toml.specs.Data.{Data, table}
use Rattle.toml.specs.Parse.{parse_document}
use Rattle.schema.specs.Schema.{most_members}
use Rattle.schema.specs.Tree.{items_at}
use Rattle.schema.specs.Values.{text_if, text_at}
use Rattle.schema.specs.Shape.{least_broken_of_shape}
use Rattle.schema.specs.declared.schema.Version.{Version}
use Rattle.schema.specs.declared.schema.Version.TheVariants.{One, Two, Three, Four}
use Rattle.schema.specs.declared.schema.FormatKey.TheVariants as key
use Rattle.scenario.specs.GroupNames.{is_group_name, is_name_of}
use Rattle.scenario.specs.Setup.{Setup, Group, start_of, member_count}
use Rattle.scenario_reader.specs.Reading.{version_of, added_items, pause_items, plain_groups, member_named, group_named, setup_of_tree}
use Rattle.scenario.specs.declared.settings.Slow.{Slow}
use Rattle.scenario.specs.declared.settings.Crash.{Crash}
use Rattle.scenario.specs.declared.settings.Leave.{Leave}
use Rattle.scenario.specs.declared.settings.Cut.{Cut}
use Rattle.scenario.specs.declared.settings.Pause.{Pause}
use Rattle.scenario.specs.declared.settings.Restart.{Restart}

-- a group of this name may not follow these groups: the name has another form in the version or is taken
abbrev pub breaks_name : Version → List Group → List ℕ → Bool
breaks_name v groups name = not (is_name_of v name) || list_any (λ g. bytes_eq name g.name) groups

-- the test holds of two items at different places, the earlier one first
abbrev pub any_two : {A : Type 0} → (A → A → Bool) → List A → Bool
any_two test [] = false
any_two test (x ∷ xs) = list_any (test x) xs || any_two test xs

-- rule 6: a group name of another form, or two groups of one name
unfoldable pub breaks_names : List Group → Bool
breaks_names groups = list_any (λ g. not (is_group_name g.name)) groups || any_two bytes_eq (map (λ g. g.name) groups)

-- the same by the form that names have in a version
unfoldable pub breaks_names_in : Version → List Group → Bool
breaks_names_in v groups = list_any (λ g. not (is_name_of v g.name)) groups || any_two bytes_eq (map (λ g. g.name) groups)

-- a contact that is there and is no member
abbrev pub has_lost_contact : List Group → Data → Bool
has_lost_contact groups d = option_map_or (λ name. is_none (member_named groups name)) (text_if key.Contact d) false

-- a slow time, a crash or a leave of nobody
abbrev pub names_no_member : List Group → Data → Bool
names_no_member groups d = is_none (member_named groups (text_at key.Member d))

-- a path or a cut from or to a group that isn't there
abbrev pub names_no_group : List Group → Data → Bool
names_no_group groups d = is_none (group_named groups (text_at key.From d)) || is_none (group_named groups (text_at key.To d))

-- rule 7: a name of no member or of no group
unfoldable pub breaks_references : Data → List Group → Bool
breaks_references tree groups =
    list_any (has_lost_contact groups) (items_at key.Group tree)
    || (list_any (names_no_member groups) (items_at key.Slow tree) || (list_any (names_no_member groups) (items_at key.Crash tree) || list_any (names_no_group groups) (items_at key.Path tree)))

-- two crashes of one member
abbrev pub is_same_member : Crash → Crash → Bool
is_same_member a b = nat_eq a.member b.member

-- two times in which one member is slow overlap
abbrev pub overlaps : Slow → Slow → Bool
overlaps a b = nat_eq a.member b.member && (nat_lt a.from b.until && nat_lt b.from a.until)

-- rule 8: two crashes of one member, or two slow times of one member that overlap
unfoldable pub breaks_pairs : List Crash → List Slow → Bool
breaks_pairs crashes slows = any_two is_same_member crashes || any_two overlaps slows

-- a contact of a group that starts at moment 0, or one that itself starts later
abbrev pub is_bad_contact : Setup → Group → Bool
is_bad_contact s g = option_map_or (λ c. nat_eq g.start 0 || nat_lt 0 (start_of s c)) g.contact false

-- a crash that isn't after its member's start
abbrev pub is_early : Setup → Crash → Bool
is_early s c = nat_le c.at (start_of s c.member)

-- a slow time that is over when it begins
abbrev pub is_over : Slow → Bool
is_over e = nat_le e.until e.from

-- rule 9: the timeout isn't below the period, or one of these three
unfoldable pub breaks_times : Setup → Bool
breaks_times s = nat_le s.swim.period s.swim.timeout || (list_any (is_bad_contact s) s.groups || (list_any is_over s.slows || list_any (is_early s) s.crashes))

-- ---- what versions 2 and 3 add

-- to rule 7: a leave or a pause of nobody, or a cut from or to no group
unfoldable pub breaks_added_references : Version → Data → List Group → Bool
breaks_added_references v tree groups =
    list_any (names_no_member groups) (added_items v key.Leave tree)
    || (list_any (names_no_group groups) (added_items v key.Cut tree) || list_any (names_no_member groups) (pause_items v tree))

-- two leaves of one member
abbrev pub is_same_leaver : Leave → Leave → Bool
is_same_leaver a b = nat_eq a.member b.member

-- a leave of a member that crashes
abbrev pub crashes_too : List Crash → Leave → Bool
crashes_too crashes l = list_any (λ c. nat_eq c.member l.member) crashes

-- to rule 8: two leaves, or a crash and a leave, of one member
unfoldable pub breaks_departures : List Crash → List Leave → Bool
breaks_departures crashes leaves = any_two is_same_leaver leaves || list_any (crashes_too crashes) leaves

-- two pauses of one member overlap
abbrev pub pauses_overlap : Pause → Pause → Bool
pauses_overlap a b = nat_eq a.member b.member && (nat_lt a.from b.until && nat_lt b.from a.until)

-- to rule 8: two pauses of one member that overlap
unfoldable pub breaks_pauses : List Pause → Bool
breaks_pauses pauses = any_two pauses_overlap pauses

-- a leave that isn't after its member's start
abbrev pub is_early_leave : Setup → Leave → Bool
is_early_leave s l = nat_le l.at (start_of s l.member)

-- a cut that is over when it begins
abbrev pub is_cut_over : Cut → Bool
is_cut_over c = nat_le c.until c.at

-- a pause that is over when it begins
abbrev pub is_pause_over : Pause → Bool
is_pause_over p = nat_le p.until p.from

-- to rule 9: one of these three
unfoldable pub breaks_added_times : Setup → Bool
breaks_added_times s = list_any (is_early_leave s) s.leaves || (list_any is_cut_over s.cuts || list_any is_pause_over s.pauses)

-- ---- what version 4 adds

-- to rule 7: a restart of nobody or by nobody, or a block of nobody
unfoldable pub fourth_breaks_references : Data → List Group → Bool
fourth_breaks_references tree groups =
    list_any (names_no_member groups) (items_at key.Restart tree)
    || (list_any (has_lost_contact groups) (items_at key.Restart tree) || list_any (names_no_member groups) (items_at key.Block tree))

-- a restart that isn't after its member's start
abbrev pub is_early_restart : Setup → Restart → Bool
is_early_restart s r = nat_le r.at (start_of s r.member)

-- a restart whose contact is its member
abbrev pub asks_itself : Restart → Bool
asks_itself r = option_map_or (λ c. nat_eq c r.member) r.contact false

-- to rule 9: one of these two, or a block that is over when it begins
unfoldable pub fourth_breaks_times : Setup → Bool
fourth_breaks_times s = list_any (is_early_restart s) s.restarts || (list_any asks_itself s.restarts || list_any is_pause_over s.blocks)

-- ---- the least rule, and the answer

-- rule 10: more members than there may be in the version: 1,024, or 4,096 in versions 2 and 3, or 16,384
abbrev pub breaks_size : Setup → Bool
breaks_size s = nat_lt (most_members s.version) (member_count s)

-- the document breaks none of the rules on its values before version 4, 6 to 10
pub record KeepsValues (tree : Data) : Type 0 where
  pub names : breaks_names (plain_groups tree) ≡ false
  pub references : breaks_references tree (plain_groups tree) ≡ false
  pub added_references : breaks_added_references (version_of tree) tree (plain_groups tree) ≡ false
  pub pairs : breaks_pairs (setup_of_tree tree).crashes (setup_of_tree tree).slows ≡ false
  pub departures : breaks_departures (setup_of_tree tree).crashes (setup_of_tree tree).leaves ≡ false
  pub pauses : breaks_pauses (setup_of_tree tree).pauses ≡ false
  pub times : breaks_times (setup_of_tree tree) ≡ false
  pub added_times : breaks_added_times (setup_of_tree tree) ≡ false
  pub size : breaks_size (setup_of_tree tree) ≡ false

-- the document breaks none of the rules on its values in version 4
pub record KeepsFourth (tree : Data) : Type 0 where
  pub names : breaks_names_in Four (plain_groups tree) ≡ false
  pub references : breaks_references tree (plain_groups tree) ≡ false
  pub added_references : breaks_added_references Four tree (plain_groups tree) ≡ false
  pub fourth_references : fourth_breaks_references tree (plain_groups tree) ≡ false
  pub times : breaks_times (setup_of_tree tree) ≡ false
  pub added_times : breaks_added_times (setup_of_tree tree) ≡ false
  pub fourth_times : fourth_breaks_times (setup_of_tree tree) ≡ false
  pub size : breaks_size (setup_of_tree tree) ≡ false

-- the least of the rules 6 to 10 that are broken
abbrev pub least_of : Bool → Bool → Bool → Bool → Bool → Option ℕ
least_of names references pairs times size =
    if names then Some 6
    else if references then Some 7
    else if pairs then Some 8
    else if times then Some 9
    else if size then Some 10
    else None

-- the least broken of the rules on the values before version 4
unfoldable pub least_broken_by : Data → Setup → Option ℕ
least_broken_by tree s =
    least_of (breaks_names (plain_groups tree)) (breaks_references tree (plain_groups tree) || breaks_added_references s.version tree (plain_groups tree))
    (breaks_pairs s.crashes s.slows || (breaks_departures s.crashes s.leaves || breaks_pauses s.pauses)) (breaks_times s || breaks_added_times s) (breaks_size s)

-- the least broken of the rules on the values in version 4, in which rule 8 refuses nothing
unfoldable pub fourth_least_broken_by : Data → Setup → Option ℕ
fourth_least_broken_by tree s =
    least_of (breaks_names_in Four (plain_groups tree))
    (breaks_references tree (plain_groups tree) || (breaks_added_references Four tree (plain_groups tree) || fourth_breaks_references tree (plain_groups tree))) false
    (breaks_times s || (breaks_added_times s || fourth_breaks_times s)) (breaks_size s)

-- the least broken of the rules on the values in a version
abbrev pub least_broken_in : Version → Data → Setup → Option ℕ
least_broken_in One tree s = least_broken_by tree s
least_broken_in Two tree s = least_broken_by tree s
least_broken_in Three tree s = least_broken_by tree s
least_broken_in Four tree s = fourth_least_broken_by tree s

-- the least broken rule of a document
unfoldable pub least_broken : Data → Option ℕ
least_broken tree = option_or (least_broken_of_shape (version_of tree) tree) (least_broken_in (version_of tree) tree (setup_of_tree tree))

-- a document is answered with its scenario, or with the least rule that it breaks
abbrev pub unless_broken : Setup → Option ℕ → Result Setup ℕ
unless_broken s None = Ok s
unless_broken s (Some rule) = Err rule

-- what a document is answered
abbrev pub document_verdict : Data → Result Setup ℕ
document_verdict tree = unless_broken (setup_of_tree tree) (least_broken tree)

-- rule 1: the bytes are no TOML document
abbrev pub judged_if_read : (Data → Option ℕ) → Option Data → Result Setup ℕ
judged_if_read least None = Err 1
judged_if_read least (Some tree) = unless_broken (setup_of_tree tree) (least tree)

-- the document that the bytes are
abbrev pub tree_of : List ℕ → Option Data
tree_of bytes = if is_utf8 bytes then option_map table (parse_document bytes) else None

-- what a text is answered
unfoldable pub verdict : List ℕ → Result Setup ℕ
verdict bytes = judged_if_read least_broken (tree_of bytes)

-- ---- version 1 by itself

-- the least broken of the rules on the values, as it was before there was a version 2
unfoldable pub first_least_broken_by : Data → Setup → Option ℕ
first_least_broken_by tree s =
    least_of (breaks_names (plain_groups tree)) (breaks_references tree (plain_groups tree)) (breaks_pairs s.crashes s.slows) (breaks_times s) (nat_lt 1024 (member_count s))

unfoldable pub first_least_broken : Data → Option ℕ
first_least_broken tree = option_or (least_broken_of_shape One tree) (first_least_broken_by tree (setup_of_tree tree))

-- what a text was answered
unfoldable pub first_verdict : List ℕ → Result Setup ℕ
first_verdict bytes = judged_if_read first_least_broken (tree_of bytes)

-- ---- version 2 by itself

-- to rules 7 and 9, what version 2 alone added
unfoldable pub second_breaks_references : Version → Data → List Group → Bool
second_breaks_references v tree groups =
    list_any (names_no_member groups) (added_items v key.Leave tree) || list_any (names_no_group groups) (added_items v key.Cut tree)

unfoldable pub second_breaks_times : Setup → Bool
second_breaks_times s = list_any (is_early_leave s) s.leaves || list_any is_cut_over s.cuts

-- the least broken of the rules on the values, as it was before there was a version 3
unfoldable pub second_least_broken_by : Data → Setup → Option ℕ
second_least_broken_by tree s =
    least_of (breaks_names (plain_groups tree)) (breaks_references tree (plain_groups tree) || second_breaks_references s.version tree (plain_groups tree))
    (breaks_pairs s.crashes s.slows || breaks_departures s.crashes s.leaves) (breaks_times s || second_breaks_times s) (breaks_size s)

unfoldable pub second_least_broken : Data → Option ℕ
second_least_broken tree = option_or (least_broken_of_shape Two tree) (second_least_broken_by tree (setup_of_tree tree))

-- what a text was answered
unfoldable pub second_verdict : List ℕ → Result Setup ℕ
second_verdict bytes = judged_if_read second_least_broken (tree_of bytes)

-- ---- version 3 by itself

-- the least broken of the rules, as it was before there was a version 4
unfoldable pub third_least_broken : Data → Option ℕ
third_least_broken tree = option_or (least_broken_of_shape Three tree) (least_broken_by tree (setup_of_tree tree))

-- what a text was answered
unfoldable pub third_verdict : List ℕ → Result Setup ℕ
third_verdict bytes = judged_if_read third_least_broken (tree_of bytes)

-- the version of a text; 1 where it is no document
abbrev pub version_in : List ℕ → Version
version_in bytes = option_map_or version_of (tree_of bytes) One
