-- Whether the items whose keys are set stand in a document.
use Rattle.std.specs.Prelude.{ℕ, List, Bool, not, ◌==◌, Option, Some, find, map}
use Rattle.std.specs.List.{count_by}
use Rattle.toml.specs.Data.{Data}
use Rattle.schema.specs.Tree.{items_at}
use Rattle.schema.specs.declared.schema.FormatKey.{FormatKey}
use Rattle.sweep_plan.specs.Items.{item_text}
use Rattle.sweep_plan.specs.Meant.{marks_of}
use Rattle.sweep_plan.specs.Sweep.{KeyValues}
use Rattle.sweep_plan.specs.declared.items.ItemName.{ItemName}
use Rattle.sweep_plan.specs.declared.keys.SweptKey.{SweptKey}

-- how many items a key stands in: those of its list that its item's name means; a key of the whole text or of a table stands in one place
abbrev pub meant_count : Data → Option FormatKey → Option ItemName → ℕ
meant_count tree (Some t) (Some item) = count_by (λ meant. meant) (marks_of (item_text item) (items_at t tree))
meant_count tree _ _ = 1

abbrev pub is_missing : Data → SweptKey → Bool
is_missing tree k = not (meant_count tree k.table k.item == 1)

-- the first key that is set in an item that isn't there, or in more than one
abbrev pub missing_of : Data → List KeyValues → Option SweptKey
missing_of tree swept_keys = find (is_missing tree) (map (λ s. s.key) swept_keys)
