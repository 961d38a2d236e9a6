-- The lines of a table's keys in the plain text, key after key.
use Rattle.std.specs.Prelude.{◌≡◌, ℕ, Bool, false, not, ◌&&◌, ◌||◌, List, [], ◌∷◌, ◌++◌, codes, bytes_eq, unwrap_or, option_and_then, Option, Some, None, ◌⊎◌}
use Rattle.std.specs.Bool.{OnTrue}
use Rattle.toml.specs.Data.{Data, as_str, boolean, get}
use Rattle.toml.specs.Tables.{Expression, array_table, key_value, std_table}
use Rattle.plain_document.specs.Keys.{kind_of, read_key}
use Rattle.plain_document.specs.Values.{IsPlainOf}
use Rattle.plain_document.specs.declared.keys.KeyKind.{KeyKind}
use Rattle.plain_document.specs.declared.keys.Way.{Way}
use Rattle.plain_document.specs.declared.keys.Way.TheVariants.{Straight, Turned}

-- a value that has a plain one gives its line; another gives none
abbrev pub AddsValue : (tick : ℕ) → KeyKind → List ℕ → Option Data → (before after : List Expression) → Type 0
AddsValue tick kind key None before after = after ≡ before
AddsValue tick kind key (Some d) before after =
    ((plain : Data) × IsPlainOf tick kind d plain × (after ≡ before ++ (([], key), key_value plain) ∷ []))
    ⊎ (((plain : Data) → ¬ IsPlainOf tick kind d plain) × (after ≡ before))

-- the line of one key of a table
abbrev pub AddsPair : (tick : ℕ) → (section : List ℕ) → Way → Data → (key : List ℕ) → (before after : List Expression) → Type 0
AddsPair tick section way d key before after = AddsValue tick (kind_of section key) key (get (read_key way key) d) before after

-- the lines of these keys, one after the other
abbrev pub AddsPairs : (tick : ℕ) → (section : List ℕ) → Way → Data → (keys : List (List ℕ)) → (before after : List Expression) → Type 0
AddsPairs tick section way d [] before after = after ≡ before
AddsPairs tick section way d (key ∷ keys) before after =
    (between : List Expression) × AddsPair tick section way d key before between × AddsPairs tick section way d keys between after

-- ---- tables and items

-- the header of a table, and its lines
abbrev pub AddsTable : (tick : ℕ) → (section : List ℕ) → Data → (keys : List (List ℕ)) → (before after : List Expression) → Type 0
AddsTable tick section d keys before after = AddsPairs tick section Straight d keys (before ++ (([], section), std_table) ∷ []) after

-- the header of an item, and its lines
abbrev pub AddsWay : (tick : ℕ) → (section : List ℕ) → Way → Data → (keys : List (List ℕ)) → (before after : List Expression) → Type 0
AddsWay tick section way d keys before after = AddsPairs tick section way d keys (before ++ (([], section), array_table) ∷ []) after

abbrev pub is_on : Option Data → Bool
is_on (Some (boolean on)) = on
is_on _ = false

-- the group at an end
abbrev pub end_at : List ℕ → Data → List ℕ
end_at key d = unwrap_or (option_and_then as_str (get key d)) []

-- a path or cut whose `both` is on, between two groups
abbrev pub goes_both_ways : (section : List ℕ) → Data → Bool
goes_both_ways section d =
    (bytes_eq section (codes "path") || bytes_eq section (codes "cut"))
    && (is_on (get (codes "both") d) && not (bytes_eq (end_at (codes "from") d) (end_at (codes "to") d)))

-- an item; right behind it the same the other way, where it goes both ways
abbrev pub AddsItem : (tick : ℕ) → (section : List ℕ) → Data → (keys : List (List ℕ)) → (before after : List Expression) → Type 0
AddsItem tick section d keys before after =
    (between : List Expression) × AddsWay tick section Straight d keys before between
    × OnTrue (goes_both_ways section d) (AddsWay tick section Turned d keys between after)
    × OnTrue (not (goes_both_ways section d)) (after ≡ between)
