-- How the members are divided into parts, and how many workers there are, by the words that say so.
use Rattle.std.specs.Prelude.{◌≡◌, ◌≢◌, ℕ, ◌≤◌, ◌+◌, max, List, Option, Some, None, All, map, fold, length}
use Rattle.std.specs.Fmt.{decimal}
use Rattle.clap.specs.Words.{Text}
use Rattle.decimals.specs.Items.{list_items}
use Rattle.scenario.specs.Division.{Deal, in_turn}
use Rattle.scenario.specs.declared.division.DivisionFault.{DivisionFault}
use Rattle.scenario.specs.declared.division.DivisionFault.TheVariants as fault
use Rattle.arguments.specs.Numbers.{IsNumber}
use Rattle.command_line.specs.declared.words.Split.{Split}
use Rattle.command_line.specs.declared.words.Split.TheVariants as split

-- the word is a number of parts or of workers
abbrev pub IsCount : Text → ℕ → Type 0
IsCount = IsNumber 1 64

-- how many workers are asked for; one where nothing is said
abbrev pub AsksForWorkers : Option Text → ℕ → Type 0
AsksForWorkers None workers = workers ≡ 1
AsksForWorkers (Some word) workers = IsCount word workers

-- the items are the numbers of parts, which are at most 63
pub record AreParts (items : List Text) (numbers : List ℕ) : Type 0 where
  pub written : map decimal numbers ≡ items
  pub low : All (λ n. n ≤ 63) numbers

-- one more than the greatest of them
abbrev pub past_greatest : List ℕ → ℕ
past_greatest numbers = fold max 0 numbers + 1

-- each member is in the part that its item names
pub record DividesByList (members : ℕ) (items : List Text) (deal : Deal) : Type 0 where
  pub each : length items ≡ members
  pub listed : AreParts items deal.part_of
  pub parts : deal.parts ≡ past_greatest deal.part_of

-- why a list divides no members: another number of items, else an item that is no number of a part
abbrev pub ListFails : ℕ → List Text → DivisionFault → Type 0
ListFails members items fault.Length = length items ≢ members
ListFails members items fault.PartNumber = (length items ≡ members) × ((numbers : List ℕ) → ¬ (AreParts items numbers))
ListFails members items fault.Parts = ⊥

-- the members are divided as the words say
abbrev pub Divides : ℕ → ℕ → Split → Deal → Type 0
Divides members workers split.Workers deal = deal ≡ in_turn members workers
Divides members workers (split.Parts word) deal = (parts : ℕ) × IsCount word.now parts × (deal ≡ in_turn members parts)
Divides members workers (split.List list) deal = DividesByList members (list_items list.now) deal

-- why there is no division as the words say
abbrev pub DivisionFails : ℕ → Split → DivisionFault → Type 0
DivisionFails members split.Workers cause = ⊥
DivisionFails members (split.Parts word) cause = (cause ≡ fault.Parts) × ((parts : ℕ) → ¬ (IsCount word.now parts))
DivisionFails members (split.List list) cause = ListFails members (list_items list.now) cause
