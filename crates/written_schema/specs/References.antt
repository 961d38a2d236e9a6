-- Which of the rules 7 and 9 groups, paths, cuts and `[swim]` break.
use Rattle.std.specs.Prelude.{◌≡◌, ℕ, ◌^◌, min, ◌||◌, if◌then◌else◌, nat_eq, nat_le, nat_lt, List, codes, Option, Some, None, option_and_then}
use Rattle.toml.specs.Data.{Data, get}
use Rattle.schema.specs.Tree.{items_at}
use Rattle.schema.specs.Values.{text_if}
use Rattle.schema.specs.declared.schema.FormatKey.TheVariants as key
use Rattle.scenario.specs.Setup.{Group}
use Rattle.scenario_reader.specs.Reading.{member_named}
use Rattle.scenario_reader.specs.Roster.{start_in}
use Rattle.scenario_reader.specs.Rules.{names_no_group}
use Rattle.written_groups.specs.Values.{CountsAt}
use Rattle.written_schema.specs.Lowest.{no_rule, rule_if, Lowest}

-- ---- the contacts of groups

-- a member that is asked: that of nobody breaks rule 7; a group that starts at 0 asks nobody, and nobody asks one that itself
-- starts later, rule 9
abbrev pub asked_rule : List Group → (start : ℕ) → Option ℕ → ℕ
asked_rule roster start None = 7
asked_rule roster start (Some member) = rule_if (nat_eq start 0 || nat_lt 0 (start_in roster member)) 9

abbrev pub contact_rule : List Group → (start : ℕ) → Option (List ℕ) → ℕ
contact_rule roster start None = no_rule
contact_rule roster start (Some name) = asked_rule roster start (member_named roster name)

abbrev pub IsContactRule : (tick : ℕ) → List Group → Data → (rule : ℕ) → Type 0
IsContactRule tick roster d rule = (start : ℕ) × CountsAt tick 0 (2 ^ 40) (get (codes "start") d) start × (rule ≡ contact_rule roster start (text_if key.Contact d))

-- ---- the ends of paths and cuts

abbrev pub IsPathRule : List Group → Data → (rule : ℕ) → Type 0
IsPathRule roster d rule = rule ≡ rule_if (names_no_group roster d) 7

-- a cut ends after it begins, rule 9
abbrev pub IsCutRule : (tick : ℕ) → List Group → Data → (rule : ℕ) → Type 0
IsCutRule tick roster d rule =
    (at until : ℕ)
    × CountsAt tick 0 (2 ^ 40) (get (codes "at") d) at
    × CountsAt tick 0 (2 ^ 40) (get (codes "until") d) until
    × (rule ≡ (if names_no_group roster d then 7 else rule_if (nat_le until at) 9))

-- ---- the timeout is below the period, rule 9

abbrev pub IsTimeoutRule : (tick : ℕ) → Option Data → (rule : ℕ) → Type 0
IsTimeoutRule tick swim rule =
    (period timeout : ℕ)
    × CountsAt tick 2 (2 ^ 24) (option_and_then (get (codes "period")) swim) period
    × CountsAt tick 1 (2 ^ 24) (option_and_then (get (codes "timeout")) swim) timeout
    × (rule ≡ rule_if (nat_le period timeout) 9)

-- the lowest of rules 7 and 9 that they break; `roster` is the text's groups, and a tick has so many microseconds
pub record IsReferenceRule (tick : ℕ) (roster : List Group) (d : Data) (rule : ℕ) : Type 0 where
  pub contacts : ℕ
  pub paths : ℕ
  pub cuts : ℕ
  pub timeout : ℕ
  pub of_contacts : Lowest (IsContactRule tick roster) (items_at key.Group d) contacts
  pub of_paths : Lowest (IsPathRule roster) (items_at key.Path d) paths
  pub of_cuts : Lowest (IsCutRule tick roster) (items_at key.Cut d) cuts
  pub of_timeout : IsTimeoutRule tick (get (codes "swim") d) timeout
  pub lowest : rule ≡ min (min (min contacts paths) cuts) timeout
