-- What stands at a place, and where a path leads.
use Rattle.std.specs.Prelude.{ℕ, List, [], ◌∷◌, Option, Some, None, slice_get, option_map, option_and_then}
use Rattle.std.specs.HashMap.{get_by_text}
use Rattle.toml_places.specs.declared.nodes.NodeContent.{NodeContent}
use Rattle.toml_places.specs.declared.nodes.NodeContent.TheVariants as content
use Rattle.toml_places.specs.declared.places.Places.{Places}
use Rattle.toml_places.specs.declared.places.Step.{Step}
use Rattle.toml_places.specs.declared.places.Step.TheVariants.{Key, Item}

-- how many bytes the text has
abbrev pub text_length : Places → ℕ
text_length p = p.length

-- what stands at a place, if there is one of this number
abbrev pub content_at : Places → ℕ → Option NodeContent
content_at p place = option_map (λ n. n.content) (slice_get p.nodes.items place)

-- the place of the value of a key: only a table has keys
abbrev pub value_of : List ℕ → NodeContent → Option ℕ
value_of key (content.Table keys) = get_by_text keys key
value_of key (content.List items) = None
value_of key (content.Whole n) = None
value_of key (content.Switch b) = None
value_of key (content.Text t) = None
value_of key content.Float = None
value_of key content.Datetime = None

-- the place of the item of a number: only a list has items
abbrev pub item_of : ℕ → NodeContent → Option ℕ
item_of number (content.List items) = slice_get items.items number
item_of number (content.Table keys) = None
item_of number (content.Whole n) = None
item_of number (content.Switch b) = None
item_of number (content.Text t) = None
item_of number content.Float = None
item_of number content.Datetime = None

-- where a step leads from what stands at a place
abbrev pub step_of : Step → NodeContent → Option ℕ
step_of (Key key) = value_of key.now
step_of (Item number) = item_of number

-- the end of a path from a place
abbrev pub path_end : Places → ℕ → List Step → Option ℕ
path_end p place [] = Some place
path_end p place (step ∷ path) = option_and_then (λ next. path_end p next path) (option_and_then (step_of step) (content_at p place))
