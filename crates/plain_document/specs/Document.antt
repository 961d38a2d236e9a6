-- The lines of a whole document: the top's keys, then tables and lists in the document's order. Those of the six lists about
-- members are the plain entries' lines.
use Rattle.std.specs.Prelude.{◌≡◌, ℕ, if◌then◌else◌, List, [], ◌∷◌, ◌++◌, flat_map, codes, bytes_eq, is_none, Option, Some, None}
use Rattle.toml.specs.Data.{Data, array, get, table}
use Rattle.toml.specs.Tables.{Expression}
use Rattle.schema.specs.Tree.{list_of}
use Rattle.plain_document.specs.Entries.{departure_lines, restart_lines, slow_lines, spell_lines}
use Rattle.plain_document.specs.Order.{names_of, Section}
use Rattle.plain_document.specs.Pairs.{AddsItem, AddsPairs, AddsTable}
use Rattle.plain_document.specs.declared.document.PlainParts.{PlainParts}
use Rattle.plain_document.specs.declared.keys.Way.TheVariants.{Straight}

-- ---- the six lists

abbrev pub lines_of_restarts : PlainParts → List Expression
lines_of_restarts parts = flat_map (restart_lines parts.names.now) parts.script.now.restarts.items

-- the lines of one of the lists; none where the name is another's
abbrev pub lines_of_part : PlainParts → List ℕ → Option (List Expression)
lines_of_part parts name =
    if bytes_eq name (codes "crash") then Some (flat_map (departure_lines (codes "crash") parts.names.now) parts.script.now.crashes.items)
    else if bytes_eq name (codes "leave") then Some (flat_map (departure_lines (codes "leave") parts.names.now) parts.script.now.leaves.items)
    else if bytes_eq name (codes "restart") then Some (lines_of_restarts parts)
    else if bytes_eq name (codes "slow") then Some (flat_map (slow_lines parts.extras.now parts.names.now) parts.script.now.slows.items)
    else if bytes_eq name (codes "pause") then Some (flat_map (spell_lines (codes "pause") parts.names.now) parts.script.now.pauses.items)
    else if bytes_eq name (codes "block") then Some (flat_map (spell_lines (codes "block") parts.names.now) parts.script.now.blocks.items)
    else None

-- ---- other tables and lists

-- item by item, each with its keys
abbrev pub AddsItems : (tick : ℕ) → (name : List ℕ) → List Data → List (List (List ℕ)) → (before after : List Expression) → Type 0
AddsItems tick name [] keys before after = after ≡ before
AddsItems tick name (d ∷ ds) [] before after = after ≡ before
AddsItems tick name (d ∷ ds) (keys ∷ more) before after =
    (between : List Expression) × AddsItem tick name d keys before between × AddsItems tick name ds more between after

-- what stands at a key of the top: an item of a list each with its keys, or a table with them; another value gives nothing
abbrev pub AddsValueBelow : (tick : ℕ) → (name : List ℕ) → Option Data → List (List (List ℕ)) → (before after : List Expression) → Type 0
AddsValueBelow tick name (Some (array ds)) keys before after = AddsItems tick name (list_of ds) keys before after
AddsValueBelow tick name (Some (table ms)) (keys ∷ more) before after = AddsTable tick name (table ms) keys before after
AddsValueBelow tick name value keys before after = after ≡ before

-- one of the six lists, else what stands there
abbrev pub AddsPart : (tick : ℕ) → Data → Option (List Expression) → Section → (before after : List Expression) → Type 0
AddsPart tick d (Some lines) section before after = after ≡ before ++ lines
AddsPart tick d None section before after = AddsValueBelow tick section.name (get section.name d) section.items before after

-- the sections in their order
abbrev pub AddsSections : (tick : ℕ) → Data → PlainParts → List Section → (before after : List Expression) → Type 0
AddsSections tick d parts [] before after = after ≡ before
AddsSections tick d parts (section ∷ sections) before after =
    (between : List Expression)
    × AddsPart tick d (lines_of_part parts section.name) section before between
    × AddsSections tick d parts sections between after

-- the restarts stand last where the document has no such list
abbrev pub last_lines : Data → PlainParts → List Expression
last_lines d parts = if is_none (get (codes "restart") d) then lines_of_restarts parts else []

-- a tick has so many microseconds
pub record AreLinesOf (tick : ℕ) (d : Data) (sections : List Section) (parts : PlainParts) (lines : List Expression) : Type 0 where
  pub pairs : List Expression
  pub listed : List Expression
  pub of_top : AddsPairs tick [] Straight d (names_of sections) [] pairs
  pub of_sections : AddsSections tick d parts sections pairs listed
  pub whole : lines ≡ listed ++ last_lines d parts
