-- The tests of rule 9 on the items of a document, beside those on its scenario.
use Rattle.std.proofs.Common.{◌≡◌, ◌<◌, ◌+◌, ◌-◌, ℕ, List, [], ◌∷◌, ◌||◌, Bool, true, false, map, nat_lt, nat_le, nat_eq, Option, Some, None, is_none, refl, ap, sym, ◌∙◌, arith}
use Rattle.std.specs.List.{list_any}
use Rattle.std.specs.Option.{option_map_or, unwrap_or}
use Rattle.std.proofs.lemmas.Bool.{false≢true}
use Rattle.std.proofs.lemmas.Bool.Decides.{nat_tests}
use Rattle.toml.specs.Data.{Data}
use Rattle.schema.specs.Tree.{items_at}
use Rattle.schema.specs.Values.{text_at}
use Rattle.schema.specs.declared.schema.Version.{Version}
use Rattle.schema.specs.declared.schema.Version.TheVariants.{Four}
use Rattle.schema.specs.declared.schema.FormatKey.TheVariants as key
use Rattle.schema.specs.declared.schema.Section.TheVariants as section
use Rattle.schema.proofs.Trees.{any-map}
use Rattle.scenario.specs.Setup.{Setup, Group, start_of}
use Rattle.scenario_reader.specs.Reading.{version_of, added_items, pause_items, fourth_items, restart_in, plain_group, plain_groups, group_in, slow_in, crash_in, leave_in, cut_in, pause_in, member_named, setup_of_tree}
use Rattle.scenario_reader.specs.Rules.{names_no_member, breaks_references, breaks_added_references, is_bad_contact, is_over, is_early, is_early_leave, is_cut_over, is_pause_over, is_early_restart, asks_itself, fourth_breaks_references}
use Rattle.scenario_reader.specs.Roster.{start_in}
use Rattle.scenario_reader.specs.Times.{asks_itself_in, is_bad_contact_in, is_over_in, is_early_in, is_early_restart_in, is_cut_over_in}
use Rattle.scenario_reader.proofs.Trees.{any_same}
use Rattle.scenario_reader.proofs.Find.{start_here, start_passed, neither}

-- members start when they do, whatever their groups' contacts are
step_by : (gs : List Group) (d : Data) (ds : List Data) (m : ℕ) (b : Bool) → nat_lt m (plain_group d).count ≡ b
    → ((k : ℕ) → start_in (map (group_in gs) ds) k ≡ start_in (map plain_group ds) k) → start_in (group_in gs d ∷ map (group_in gs) ds) m ≡ start_in (plain_group d ∷ map plain_group ds) m
step_by gs d ds m true within rest =
    let below : m < (plain_group d).count = grind (arith, nat_tests) in
    start_here (group_in gs d) (map (group_in gs) ds) m below ∙ sym (start_here (plain_group d) (map plain_group ds) m below)
step_by gs d ds m false past rest =
    let k = m - (plain_group d).count in
    let on : m ≡ (plain_group d).count + k = grind (arith, nat_tests) in
    ap (start_in (group_in gs d ∷ map (group_in gs) ds)) on ∙ start_passed (group_in gs d) (map (group_in gs) ds) k ∙ rest k
    ∙ sym (ap (start_in (plain_group d ∷ map plain_group ds)) on ∙ start_passed (plain_group d) (map plain_group ds) k)

pub start_same : (gs : List Group) (ds : List Data) (m : ℕ) → start_in (map (group_in gs) ds) m ≡ start_in (map plain_group ds) m
start_same gs [] m = refl
start_same gs (d ∷ ds) m = step_by gs d ds m (nat_lt m (plain_group d).count) refl (start_same gs ds)

pub starts_are : (tree : Data) (m : ℕ) → start_of (setup_of_tree tree) m ≡ start_in (plain_groups tree) m
unfolding setup_of_tree plain_groups
starts_are tree m = start_same (map plain_group (items_at key.Group tree)) (items_at key.Group tree) m

option_same : (f g : ℕ → Bool) → ((n : ℕ) → f n ≡ g n) → (o : Option ℕ) → option_map_or f o false ≡ option_map_or g o false
option_same f g same None = refl
option_same f g same (Some n) = same n

module _ (tree : Data) where
  pub contacts_same : list_any (is_bad_contact (setup_of_tree tree)) (setup_of_tree tree).groups ≡ list_any (is_bad_contact_in (plain_groups tree)) (items_at key.Group tree)
  unfolding setup_of_tree
  contacts_same =
      let s = setup_of_tree tree in
      let gs = plain_groups tree in
      any-map (is_bad_contact s) (group_in gs) (items_at key.Group tree)
      ∙ any_same (λ d. is_bad_contact s (group_in gs d)) (is_bad_contact_in gs)
      (λ d. option_same (λ c. nat_eq (group_in gs d).start 0 || nat_lt 0 (start_of s c)) (λ c. nat_eq (group_in gs d).start 0 || nat_lt 0 (start_in gs c))
      (λ c. ap (λ n. nat_eq (group_in gs d).start 0 || nat_lt 0 n) (starts_are tree c)) (group_in gs d).contact) (items_at key.Group tree)

  pub overs_same : list_any is_over (setup_of_tree tree).slows ≡ list_any (is_over_in section.Slow) (items_at key.Slow tree)
  unfolding setup_of_tree
  overs_same = any-map is_over (slow_in (plain_groups tree)) (items_at key.Slow tree)

early_one : (s : Setup) (gs : List Group) → ((m : ℕ) → start_of s m ≡ start_in gs m) → (at : ℕ) (o : Option ℕ) → is_none o ≡ false
    → nat_le at (start_of s (unwrap_or o 0)) ≡ option_map_or (λ m. nat_le at (start_in gs m)) o false
early_one s gs same at None known = absurd (false≢true (sym known))
early_one s gs same at (Some m) known = ap (nat_le at) (same m)

early_all : (s : Setup) (gs : List Group) → ((m : ℕ) → start_of s m ≡ start_in gs m) → (ds : List Data) → list_any (names_no_member gs) ds ≡ false
    → list_any (λ d. is_early s (crash_in gs d)) ds ≡ list_any (is_early_in gs) ds
early_all s gs same [] known = refl
early_all s gs same (d ∷ ds) known =
    let parts = neither (names_no_member gs d) (list_any (names_no_member gs) ds) known in
    (λ i. early_one s gs same (crash_in gs d).at (member_named gs (text_at key.Member d)) parts.0 i || early_all s gs same ds parts.1 i)

-- where each name is known
pub earlies_same : (tree : Data) → breaks_references tree (plain_groups tree) ≡ false → list_any (is_early (setup_of_tree tree)) (setup_of_tree tree).crashes ≡ list_any (is_early_in (plain_groups tree)) (items_at key.Crash tree)
unfolding setup_of_tree breaks_references
earlies_same tree known =
    let gs = plain_groups tree in
    let crashes = (neither _ _ (neither _ _ (neither _ _ known).1).1).0 in
    any-map (is_early (setup_of_tree tree)) (crash_in gs) (items_at key.Crash tree) ∙ early_all (setup_of_tree tree) gs (starts_are tree) (items_at key.Crash tree) crashes

-- where each leave is of a member
pub early_leaves_same : (tree : Data) → breaks_added_references (version_of tree) tree (plain_groups tree) ≡ false
    → list_any (is_early_leave (setup_of_tree tree)) (setup_of_tree tree).leaves ≡ list_any (is_early_in (plain_groups tree)) (added_items (version_of tree) key.Leave tree)
unfolding setup_of_tree breaks_added_references
early_leaves_same tree known =
    let gs = plain_groups tree in
    let items = added_items (version_of tree) key.Leave tree in
    any-map (is_early_leave (setup_of_tree tree)) (leave_in gs) items ∙ early_all (setup_of_tree tree) gs (starts_are tree) items (neither _ _ known).0

pub cuts_over_same : (tree : Data) → list_any is_cut_over (setup_of_tree tree).cuts ≡ list_any is_cut_over_in (added_items (version_of tree) key.Cut tree)
unfolding setup_of_tree
cuts_over_same tree = any-map is_cut_over (cut_in (plain_groups tree)) (added_items (version_of tree) key.Cut tree)

pub pauses_over_same : (tree : Data) → list_any is_pause_over (setup_of_tree tree).pauses ≡ list_any (is_over_in section.Pause) (pause_items (version_of tree) tree)
unfolding setup_of_tree
pauses_over_same tree = any-map is_pause_over (pause_in (plain_groups tree)) (pause_items (version_of tree) tree)

-- ---- restarts and blocks

early_restarts : (s : Setup) (gs : List Group) → ((m : ℕ) → start_of s m ≡ start_in gs m) → (ds : List Data) → list_any (names_no_member gs) ds ≡ false
    → list_any (λ d. is_early_restart s (restart_in gs d)) ds ≡ list_any (is_early_restart_in gs) ds
early_restarts s gs same [] known = refl
early_restarts s gs same (d ∷ ds) known =
    let parts = neither (names_no_member gs d) (list_any (names_no_member gs) ds) known in
    (λ i. early_one s gs same (restart_in gs d).at (member_named gs (text_at key.Member d)) parts.0 i || early_restarts s gs same ds parts.1 i)

module _ (tree : Data) (version : version_of tree ≡ Four) where
  -- where each restart is of a member
  pub early_restarts_same : fourth_breaks_references tree (plain_groups tree) ≡ false
      → list_any (is_early_restart (setup_of_tree tree)) (setup_of_tree tree).restarts ≡ list_any (is_early_restart_in (plain_groups tree)) (items_at key.Restart tree)
  unfolding setup_of_tree fourth_breaks_references
  early_restarts_same known =
      let s = setup_of_tree tree in
      let gs = plain_groups tree in
      any-map (is_early_restart s) (restart_in gs) (fourth_items (version_of tree) key.Restart tree)
      ∙ ap (λ (v : Version). list_any (λ d. is_early_restart s (restart_in gs d)) (fourth_items v key.Restart tree)) version
      ∙ early_restarts s gs (starts_are tree) (items_at key.Restart tree) (neither _ _ known).0

  pub asking_same : list_any asks_itself (setup_of_tree tree).restarts ≡ list_any (asks_itself_in (plain_groups tree)) (items_at key.Restart tree)
  unfolding setup_of_tree
  asking_same =
      any-map asks_itself (restart_in (plain_groups tree)) (fourth_items (version_of tree) key.Restart tree)
      ∙ ap (λ (v : Version). list_any (asks_itself_in (plain_groups tree)) (fourth_items v key.Restart tree)) version

  pub blocks_over_same : list_any is_pause_over (setup_of_tree tree).blocks ≡ list_any (is_over_in section.Pause) (items_at key.Block tree)
  unfolding setup_of_tree
  blocks_over_same =
      any-map is_pause_over (pause_in (plain_groups tree)) (fourth_items (version_of tree) key.Block tree)
      ∙ ap (λ (v : Version). list_any (is_over_in section.Pause) (fourth_items v key.Block tree)) version
