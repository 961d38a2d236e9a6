-- The rules on the shape of a document of version 1 that is given version 2.
use Rattle.std.proofs.Common.{◌≡◌, ℕ, List, [], ◌∷◌, ◌++◌, map, flat_map, ◌||◌, ◌&&◌, Bool, true, false, not, nat_le, Option, Some, None, is_none, true≢false, bytes_eq, append-nil, refl, sym, ap, ◌∙◌, arith}
use Rattle.std.specs.Prelude.{pos, drop, ◌^◌}
use Rattle.std.specs.List.{list_any, list_all}
use Rattle.std.specs.Option.{option_map_or}
use Rattle.std.proofs.lemmas.List.Folds.{list_any-append}
use Rattle.std.proofs.lemmas.List.Concat.{flat_map-append}
use Rattle.std.proofs.lemmas.Slice.Eq.{bytes_eq-Decides}
use Rattle.toml.specs.Data.{Data, integer, table, Members, get_member}
use Rattle.schema.specs.Schema.{spelling_of, key_rules_of, added_keys}
use Rattle.schema.specs.Tree.{SectionTable, section_table, tables_at, tables_below, tables_of, items_of, value_at, keys_in, keys_of, rule_named}
use Rattle.schema.specs.Shape.{is_over_0, is_absent, is_other_kind, is_outside, has_fault, table_breaks, breaks, KeepsShape}
use Rattle.schema.specs.declared.schema.Version.{Version}
use Rattle.schema.specs.declared.schema.Version.TheVariants.{One, Two}
use Rattle.schema.specs.declared.schema.FormatKey.{FormatKey}
use Rattle.schema.specs.declared.schema.FormatKey.TheVariants as key
use Rattle.schema.specs.declared.schema.KeyRule.{KeyRule}
use Rattle.schema.specs.declared.schema.Kind.{Kind}
use Rattle.schema.specs.declared.schema.Kind.TheVariants as kind
use Rattle.schema.specs.declared.schema.Absence.{Absence}
use Rattle.schema.specs.declared.schema.Absence.TheVariants.{Refused, RefusedOver0}
use Rattle.schema.specs.declared.schema.Section.{Section}
use Rattle.schema.specs.declared.schema.Section.TheVariants as section
use Rattle.schema.specs.declared.shape.Check.{Check}
use Rattle.schema.specs.declared.shape.Check.TheVariants.{Missing, Unknown, WrongKind, OutOfRange}
use Rattle.schema.proofs.Trees.{any-map, any-flat_map}
use Rattle.scenario_reader.proofs.Trees.{any_same}
use Rattle.sweep_plan.specs.Document.{put}
use Rattle.version_laws.proofs.Entries.{left_off, right_off, both_off, put_here, put_elsewhere, put_keys, not_there}

-- ---- the values at keys

-- `version`
abbrev pub at_version : List ℕ
at_version = spelling_of key.Version

abbrev pub two : Data
two = integer (pos 2)

-- the members, given version 2
abbrev pub given : Members → Members
given ms = put at_version two ms

abbrev is_version : FormatKey → Bool
is_version key.Version = true
is_version _ = false

unlike_version : (k : FormatKey) → is_version k ≡ false → bytes_eq (spelling_of k) (spelling_of key.Version) ≡ false
unfolding spelling_of
unlike_version key.Version h = absurd (true≢false h)
unlike_version _ h = refl

unlike : (k : FormatKey) → is_version k ≡ false → spelling_of k ≡ at_version → ⊥
unlike k other same = true≢false (sym ((bytes_eq-Decides (spelling_of k) at_version).1 same) ∙ unlike_version k other)

-- what the members have at the keys, but for the version
abbrev pub values : Members → FormatKey → Option Data
values ms key.Version = None
values ms k = get_member (spelling_of k) ms

abbrev IsSameAt : Members → FormatKey → Type 0
IsSameAt ms k = values (given ms) k ≡ values ms k

elsewhere : (ms : Members) (k : FormatKey) → is_version k ≡ false → get_member (spelling_of k) (given ms) ≡ get_member (spelling_of k) ms
elsewhere ms k other = put_elsewhere (spelling_of k) at_version two ms (unlike k other)

same_at : (ms : Members) (k : FormatKey) → IsSameAt ms k
same_at ms key.Version = refl
same_at ms k = elsewhere ms k refl

pub same_values : (ms : Members) → values (given ms) ≡ values ms
same_values ms = λ i k. same_at ms k i

pub version_there : (ms : Members) → get_member at_version (given ms) ≡ Some two
version_there ms = put_here at_version two ms

-- ---- lists of tests

-- where a test holds of none, neither does one that holds of no more
none_more : {A : Type 0} (f g : A → Bool) → ((x : A) → f x ≡ false → g x ≡ false) → (xs : List A) → list_any f xs ≡ false → list_any g xs ≡ false
none_more f g fewer [] none = refl
none_more f g fewer (x ∷ xs) none = both_off (g x) (list_any g xs) (fewer x (left_off (f x) (list_any f xs) none)) (none_more f g fewer xs (right_off (f x) (list_any f xs) none))

first_true : (a b : Bool) → (a && b) ≡ true → a ≡ true
first_true true b h = refl
first_true false b h = h

then_true : (a b : Bool) → (a && b) ≡ true → b ≡ true
then_true true b h = h
then_true false b h = absurd (true≢false (sym h))

-- the same among those of a kind
none_more_of : {A : Type 0} (of : A → Bool) (f g : A → Bool) → ((x : A) → of x ≡ true → f x ≡ false → g x ≡ false)
    → (xs : List A) → list_all of xs ≡ true → list_any f xs ≡ false → list_any g xs ≡ false
none_more_of of f g fewer [] all none = refl
none_more_of of f g fewer (x ∷ xs) all none =
    both_off (g x) (list_any g xs) (fewer x (first_true (of x) (list_all of xs) all) (left_off (f x) (list_any f xs) none))
    (none_more_of of f g fewer xs (then_true (of x) (list_all of xs) all) (right_off (f x) (list_any f xs) none))

-- ---- unknown keys

abbrev is_among : List FormatKey → List ℕ → Bool
is_among ks name = list_any (λ k. bytes_eq (spelling_of k) name) ks

known_at : (row : KeyRule) (rows : List KeyRule) (name : List ℕ) (b : Bool) → bytes_eq (spelling_of row.key) name ≡ b → is_none (rule_named rows name) ≡ not (is_among (map (λ (r : KeyRule). r.key) rows) name)
    → is_none (rule_named (row ∷ rows) name) ≡ not (is_among (map (λ (r : KeyRule). r.key) (row ∷ rows)) name)
known_at row rows name true is later = rw is
known_at row rows name false is later = rw is later

-- whether a key is known goes by the rows' keys alone
known_by : (rows : List KeyRule) (name : List ℕ) → is_none (rule_named rows name) ≡ not (is_among (map (λ (r : KeyRule). r.key) rows) name)
known_by [] name = refl
known_by (row ∷ rows) name = known_at row rows name (bytes_eq (spelling_of row.key) name) refl (known_by rows name)

stays_known : (a b : Bool) → not a ≡ false → not (a || b) ≡ false
stays_known true b known = refl
stays_known false b known = absurd (true≢false known)

-- what version 1 knows at the top, version 2 knows
still_known : (name : List ℕ) → is_none (rule_named (key_rules_of One section.Top) name) ≡ false → is_none (rule_named (key_rules_of Two section.Top) name) ≡ false
unfolding key_rules_of
still_known name known =
    let first : List FormatKey = map (λ (r : KeyRule). r.key) (key_rules_of One section.Top) in
    known_by (key_rules_of Two section.Top) name
    ∙ ap not (list_any-append (λ k. bytes_eq (spelling_of k) name) first (key.Cut ∷ key.Leave ∷ []))
    ∙ stays_known (is_among first name) (is_among (key.Cut ∷ key.Leave ∷ []) name) (sym (known_by (key_rules_of One section.Top) name) ∙ known)

version_known : is_none (rule_named (key_rules_of Two section.Top) at_version) ≡ false
unfolding key_rules_of spelling_of
version_known = refl

-- `cut` is no key of version 1, nor is `leave`
cut_unknown : is_none (rule_named (key_rules_of One section.Top) (spelling_of key.Cut)) ≡ true
unfolding key_rules_of spelling_of
cut_unknown = refl

leave_unknown : is_none (rule_named (key_rules_of One section.Top) (spelling_of key.Leave)) ≡ true
unfolding key_rules_of spelling_of
leave_unknown = refl

-- ---- the top

abbrev pub breaks_top : Version → Check → Members → Bool
breaks_top v check ms = table_breaks v check (section_table section.Top (table ms))

-- neither cuts nor leaves are there
pub record SaysNoMore (ms : Members) : Type 0 where
  pub cut : values ms key.Cut ≡ None
  pub leave : values ms key.Leave ≡ None

pub says_no_more : (ms : Members) → breaks_top One Unknown ms ≡ false → SaysNoMore ms
unfolding table_breaks
says_no_more ms none = record {
  cut = not_there (λ name. is_none (rule_named (key_rules_of One section.Top) name)) (spelling_of key.Cut) ms cut_unknown none;
  leave = not_there (λ name. is_none (rule_named (key_rules_of One section.Top) name)) (spelling_of key.Leave) ms leave_unknown none;
}

top_unknown : (ms : Members) → breaks_top One Unknown ms ≡ false → breaks_top Two Unknown (given ms) ≡ false
unfolding table_breaks
top_unknown ms none =
    put_keys (λ name. is_none (rule_named (key_rules_of Two section.Top) name)) at_version two ms version_known
    (none_more (λ name. is_none (rule_named (key_rules_of One section.Top) name)) (λ name. is_none (rule_named (key_rules_of Two section.Top) name)) still_known (keys_in ms) none)

-- the tests of rows, by the values at their keys
abbrev is_refused_by : (FormatKey → Option Data) → Absence → Bool
is_refused_by f Refused = true
is_refused_by f (RefusedOver0 key) = is_over_0 (f key)
is_refused_by f _ = false

abbrev missing_by : (FormatKey → Option Data) → KeyRule → Bool
missing_by f row = is_refused_by f row.absence && is_absent row.kind (f row.key)

abbrev fault_by : (Kind → Data → Bool) → (FormatKey → Option Data) → KeyRule → Bool
fault_by fault f row = option_map_or (fault row.kind) (f row.key) false

-- the rows of the top but for the version's
abbrev other_rows : Version → List KeyRule
other_rows v = drop 1 (key_rules_of v section.Top)

top_missing : (ms : Members) → breaks_top One Missing ms ≡ false → breaks_top Two Missing (given ms) ≡ false
unfolding table_breaks key_rules_of
top_missing ms none =
    both_off (is_absent (kind.Whole 1 2) (get_member at_version (given ms))) (list_any (missing_by (values (given ms))) (other_rows Two))
    (ap (is_absent (kind.Whole 1 2)) (version_there ms))
    (ap (λ f. list_any (missing_by f) (other_rows Two)) (same_values ms)
    ∙ right_off (is_absent (kind.Whole 1 1) (get_member at_version ms)) (list_any (missing_by (values ms)) (other_rows One)) none)

-- a fault of a value, where the version's row has none, nor what isn't there
top_faults : (fault : Kind → Data → Bool) (ms : Members) → SaysNoMore ms → fault (kind.Whole 1 2) two ≡ false
    → list_any (has_fault fault (table ms)) (key_rules_of One section.Top) ≡ false → list_any (has_fault fault (table (given ms))) (key_rules_of Two section.Top) ≡ false
unfolding key_rules_of
top_faults fault ms no_more fine none =
    both_off (option_map_or (fault (kind.Whole 1 2)) (get_member at_version (given ms)) false) (list_any (fault_by fault (values (given ms))) (other_rows Two))
    (ap (λ o. option_map_or (fault (kind.Whole 1 2)) o false) (version_there ms) ∙ fine)
    (ap (λ f. list_any (fault_by fault f) (other_rows Two)) (same_values ms)
    ∙ list_any-append (fault_by fault (values ms)) (other_rows One) (added_keys Two)
    ∙ both_off (list_any (fault_by fault (values ms)) (other_rows One)) (list_any (fault_by fault (values ms)) (added_keys Two))
    (right_off (option_map_or (fault (kind.Whole 1 1)) (get_member at_version ms) false) (list_any (fault_by fault (values ms)) (other_rows One)) none)
    (λ i. option_map_or (fault (kind.List section.Cut)) (no_more.cut i) false || (option_map_or (fault (kind.List section.Departure)) (no_more.leave i) false || false)))

top_kinds : (ms : Members) → SaysNoMore ms → breaks_top One WrongKind ms ≡ false → breaks_top Two WrongKind (given ms) ≡ false
unfolding table_breaks
top_kinds ms no_more none = top_faults is_other_kind ms no_more refl none

top_ranges : (ms : Members) → SaysNoMore ms → breaks_top One OutOfRange ms ≡ false → breaks_top Two OutOfRange (given ms) ≡ false
unfolding table_breaks
top_ranges ms no_more none = top_faults is_outside ms no_more refl none

-- ---- the tables below

abbrev below_by : (FormatKey → Option Data) → KeyRule → List SectionTable
below_by f row = tables_at row.kind (f row.key)

none_added : (ms : Members) → SaysNoMore ms → flat_map (below_by (values ms)) (added_keys Two) ≡ []
none_added ms no_more = λ i. tables_at (kind.List section.Cut) (no_more.cut i) ++ (tables_at (kind.List section.Departure) (no_more.leave i) ++ [])

-- they are the same
same_tables : (ms : Members) → SaysNoMore ms → flat_map (tables_below (table (given ms))) (key_rules_of Two section.Top) ≡ flat_map (tables_below (table ms)) (key_rules_of One section.Top)
unfolding key_rules_of
same_tables ms no_more =
    ap (λ f. flat_map (below_by f) (other_rows Two)) (same_values ms)
    ∙ flat_map-append (below_by (values ms)) (other_rows One) (added_keys Two)
    ∙ ap (λ l. flat_map (below_by (values ms)) (other_rows One) ++ l) (none_added ms no_more)
    ∙ append-nil (flat_map (below_by (values ms)) (other_rows One))

abbrev is_lower : Section → Bool
is_lower section.Top = false
is_lower _ = true

within_more : (a b c : Bool) → (b ≡ true → c ≡ true) → not (a && b) ≡ false → not (a && c) ≡ false
within_more true true c more within = ap not (more refl)
within_more true false c more within = absurd (true≢false within)
within_more false b c more within = absurd (true≢false within)

fewer_too : (n : ℕ) → nat_le n 1024 ≡ true → nat_le n 4096 ≡ true
fewer_too n few = grind arith

count_stays : (o : Option Data) → option_map_or (is_outside (kind.Whole 1 1024)) o false ≡ false → option_map_or (is_outside (kind.Whole 1 4096)) o false ≡ false
count_stays None within = refl
count_stays (Some (integer (pos n))) within = within_more (nat_le 1 n) (nat_le n 1024) (nat_le n 4096) (fewer_too n) within
count_stays (Some _) within = within

-- the keys of a group are the same
group_known : (name : List ℕ) → is_none (rule_named (key_rules_of One section.Group) name) ≡ is_none (rule_named (key_rules_of Two section.Group) name)
unfolding key_rules_of
group_known name = known_by (key_rules_of One section.Group) name ∙ sym (known_by (key_rules_of Two section.Group) name)

-- the value at the key is a whole number outside its range
abbrev is_fault : Data → Kind → FormatKey → Bool
is_fault d k q = option_map_or (is_outside k) (value_at q d) false

group_ranges : (d : Data) → list_any (has_fault is_outside d) (key_rules_of One section.Group) ≡ false → list_any (has_fault is_outside d) (key_rules_of Two section.Group) ≡ false
unfolding key_rules_of
group_ranges d none =
    let name = is_fault d kind.Text key.Name in
    let rest = is_fault d (kind.Whole 0 (2 ^ 40)) key.Start || (is_fault d kind.Text key.Contact || false) in
    let few = is_fault d (kind.Whole 1 1024) key.Count in
    let many = is_fault d (kind.Whole 1 4096) key.Count in
    both_off name (many || rest) (left_off name (few || rest) none)
    (both_off many rest (count_stays (value_at key.Count d) (left_off few rest (right_off name (few || rest) none))) (right_off few rest (right_off name (few || rest) none)))

group_missing : (d : Data) → table_breaks One Missing (section_table section.Group d) ≡ false → table_breaks Two Missing (section_table section.Group d) ≡ false
unfolding table_breaks key_rules_of
group_missing d none = none

group_kinds : (d : Data) → table_breaks One WrongKind (section_table section.Group d) ≡ false → table_breaks Two WrongKind (section_table section.Group d) ≡ false
unfolding table_breaks key_rules_of
group_kinds d none = none

group_ranges_stay : (d : Data) → table_breaks One OutOfRange (section_table section.Group d) ≡ false → table_breaks Two OutOfRange (section_table section.Group d) ≡ false
unfolding table_breaks
group_ranges_stay d none = group_ranges d none

group_unknown : (d : Data) → table_breaks One Unknown (section_table section.Group d) ≡ false → table_breaks Two Unknown (section_table section.Group d) ≡ false
unfolding table_breaks
group_unknown d none =
    sym (any_same (λ name. is_none (rule_named (key_rules_of One section.Group) name)) (λ name. is_none (rule_named (key_rules_of Two section.Group) name)) group_known (keys_of d)) ∙ none

group_stays : (check : Check) (d : Data) → table_breaks One check (section_table section.Group d) ≡ false → table_breaks Two check (section_table section.Group d) ≡ false
group_stays Missing d none = group_missing d none
group_stays Unknown d none = group_unknown d none
group_stays WrongKind d none = group_kinds d none
group_stays OutOfRange d none = group_ranges_stay d none

-- a part below the top that breaks nothing in version 1 breaks nothing in version 2
part_stays : (check : Check) (s : Section) (d : Data) → is_lower s ≡ true → table_breaks One check (section_table s d) ≡ false → table_breaks Two check (section_table s d) ≡ false
unfolding table_breaks key_rules_of
part_stays check section.Top d lower none = absurd (true≢false (sym lower))
part_stays check section.Group d lower none = group_stays check d none
part_stays Missing _ d lower none = none
part_stays Unknown _ d lower none = none
part_stays WrongKind _ d lower none = none
part_stays OutOfRange _ d lower none = none

abbrev has_lower : Kind → Bool
has_lower (kind.Table s) = is_lower s
has_lower (kind.List s) = is_lower s
has_lower _ = true

parts_stay : (check : Check) (k : Kind) (o : Option Data) → has_lower k ≡ true → list_any (table_breaks One check) (tables_at k o) ≡ false → list_any (table_breaks Two check) (tables_at k o) ≡ false
parts_stay check (kind.Table s) (Some d) lower none =
    both_off (table_breaks Two check (section_table s d)) false (part_stays check s d lower (left_off (table_breaks One check (section_table s d)) false none)) refl
parts_stay check (kind.List s) (Some d) lower none =
    any-map (table_breaks Two check) (section_table s) (items_of d)
    ∙ none_more (λ e. table_breaks One check (section_table s e)) (λ e. table_breaks Two check (section_table s e)) (λ e. part_stays check s e lower) (items_of d)
    (sym (any-map (table_breaks One check) (section_table s) (items_of d)) ∙ none)
parts_stay check (kind.Table s) None lower none = refl
parts_stay check (kind.List s) None lower none = refl
parts_stay check (kind.Whole least most) o lower none = refl
parts_stay check kind.Switch o lower none = refl
parts_stay check kind.Text o lower none = refl

all_lower : list_all (λ (row : KeyRule). has_lower row.kind) (key_rules_of One section.Top) ≡ true
unfolding key_rules_of
all_lower = refl

tables_stay : (check : Check) (d : Data) → list_any (table_breaks One check) (flat_map (tables_below d) (key_rules_of One section.Top)) ≡ false
    → list_any (table_breaks Two check) (flat_map (tables_below d) (key_rules_of One section.Top)) ≡ false
tables_stay check d none =
    any-flat_map (table_breaks Two check) (tables_below d) (key_rules_of One section.Top)
    ∙ none_more_of (λ (row : KeyRule). has_lower row.kind) (λ row. list_any (table_breaks One check) (tables_below d row)) (λ row. list_any (table_breaks Two check) (tables_below d row))
    (λ row lower. parts_stay check row.kind (value_at row.key d) lower) (key_rules_of One section.Top) all_lower
    (sym (any-flat_map (table_breaks One check) (tables_below d) (key_rules_of One section.Top)) ∙ none)

-- ---- the whole document

whole_stays : (check : Check) (ms : Members) → SaysNoMore ms → (breaks_top One check ms ≡ false → breaks_top Two check (given ms) ≡ false) → breaks One check (table ms) ≡ false → breaks Two check (table (given ms)) ≡ false
unfolding breaks tables_of
whole_stays check ms no_more top none =
    let below = list_any (table_breaks One check) (flat_map (tables_below (table ms)) (key_rules_of One section.Top)) in
    both_off (breaks_top Two check (given ms)) (list_any (table_breaks Two check) (flat_map (tables_below (table (given ms))) (key_rules_of Two section.Top)))
    (top (left_off (breaks_top One check ms) below none))
    (ap (list_any (table_breaks Two check)) (same_tables ms no_more) ∙ tables_stay check (table ms) (right_off (breaks_top One check ms) below none))

top_of : (check : Check) (ms : Members) → breaks One check (table ms) ≡ false → breaks_top One check ms ≡ false
unfolding breaks tables_of
top_of check ms none = left_off (breaks_top One check ms) (list_any (table_breaks One check) (flat_map (tables_below (table ms)) (key_rules_of One section.Top))) none

pub no_more_by_shape : (ms : Members) → KeepsShape One (table ms) → SaysNoMore ms
no_more_by_shape ms shape = says_no_more ms (top_of Unknown ms shape.unknown)

pub shape_stays : (ms : Members) → KeepsShape One (table ms) → KeepsShape Two (table (given ms))
shape_stays ms shape =
    let no_more = no_more_by_shape ms shape in
    record {
      missing = whole_stays Missing ms no_more (top_missing ms) shape.missing;
      unknown = whole_stays Unknown ms no_more (top_unknown ms) shape.unknown;
      kinds = whole_stays WrongKind ms no_more (top_kinds ms no_more) shape.kinds;
      ranges = whole_stays OutOfRange ms no_more (top_ranges ms no_more) shape.ranges;
    }
