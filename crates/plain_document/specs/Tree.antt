-- What the plain text of a document holds once it is read: at each key the plain value of what stands there.
use Rattle.std.specs.Prelude.{◌≡◌, ℕ, true, if◌then◌else◌, List, [], ◌∷◌, flat_map, codes, bytes_eq, Option, Some, None, ◌⊎◌}
use Rattle.toml.specs.Data.{Data, Items, Members, array, get, get_member, item, no_items, table}
use Rattle.toml.specs.Tables.{Expression}
use Rattle.schema.specs.Tree.{list_of}
use Rattle.plain_text.specs.Headings.{a_list, item_lines, IsHeaded, Pairs}
use Rattle.plain_document.specs.Document.{lines_of_part}
use Rattle.plain_document.specs.Keys.{kind_of, read_key}
use Rattle.plain_document.specs.Pairs.{goes_both_ways}
use Rattle.plain_document.specs.Values.{IsPlainOf}
use Rattle.plain_document.specs.declared.document.PlainParts.{PlainParts}
use Rattle.plain_document.specs.declared.keys.KeyKind.{KeyKind}
use Rattle.plain_document.specs.declared.keys.Way.{Way}
use Rattle.plain_document.specs.declared.keys.Way.TheVariants.{Straight, Turned}

-- ---- tables

-- the plain value of what is written, if it has one
abbrev pub IsPlainAt : (tick : ℕ) → KeyKind → (written plain : Option Data) → Type 0
IsPlainAt tick kind None plain = plain ≡ None
IsPlainAt tick kind (Some d) plain =
    ((value : Data) × IsPlainOf tick kind d value × (plain ≡ Some value)) ⊎ (((value : Data) → ¬ IsPlainOf tick kind d value) × (plain ≡ None))

-- the same where the table has the key; the value is that of the key that is read
abbrev pub IsPlainKey : (tick : ℕ) → KeyKind → (own read plain : Option Data) → Type 0
IsPlainKey tick kind None read plain = plain ≡ None
IsPlainKey tick kind (Some d) read plain = IsPlainAt tick kind read plain

abbrev pub IsPlainTable : (tick : ℕ) → (section : List ℕ) → Way → Data → Members → Type 0
IsPlainTable tick section way d ms =
    (key : List ℕ) → IsPlainKey tick (kind_of section key) (get key d) (get (read_key way key) d) (get_member key ms)

-- ---- lists

-- an item, and right behind it the same the other way, where it goes both ways
abbrev pub ways_of : (section : List ℕ) → Data → List (Way × Data)
ways_of section d = if goes_both_ways section d then (Straight, d) ∷ (Turned, d) ∷ [] else (Straight, d) ∷ []

abbrev pub ArePlainItems : (tick : ℕ) → (section : List ℕ) → List (Way × Data) → Items → Type 0
ArePlainItems tick section [] no_items = Unit {0}
ArePlainItems tick section (it ∷ more) (item (table ms) items) = IsPlainTable tick section it.0 it.1 ms × ArePlainItems tick section more items
ArePlainItems tick section written items = ⊥

-- a list without an item isn't there
abbrev pub listed : Items → Option Data
listed no_items = None
listed (item d ds) = Some (array (item d ds))

-- ---- the top

abbrev pub IsPlainTop : (tick : ℕ) → (key : List ℕ) → (written plain : Option Data) → Type 0
IsPlainTop tick key (Some (table ms)) plain = (own : Members) × IsPlainTable tick key Straight (table ms) own × (plain ≡ Some (table own))
IsPlainTop tick key (Some (array ds)) plain =
    (items : Items) × ArePlainItems tick key (flat_map (ways_of key) (list_of ds)) items × (plain ≡ listed items)
IsPlainTop tick key d plain = IsPlainAt tick (kind_of [] key) d plain

-- one of the six lists has the items that its lines define
abbrev pub AreEntries : (key : List ℕ) → List Expression → (plain : Option Data) → Type 0
AreEntries key lines plain = (entries : List Pairs) × (lines ≡ flat_map (item_lines key) entries) × IsHeaded (Some (a_list entries)) plain

abbrev pub IsPlainPart : (tick : ℕ) → (key : List ℕ) → Option (List Expression) → (written plain : Option Data) → Type 0
IsPlainPart tick key (Some lines) d plain = AreEntries key lines plain
IsPlainPart tick key None d plain = IsPlainTop tick key d plain

-- at each key, one of the six lists or the plain value
abbrev pub IsPlainTree : (tick : ℕ) → Data → PlainParts → Members → Type 0
IsPlainTree tick d parts ms = (key : List ℕ) → IsPlainPart tick key (lines_of_part parts key) (get key d) (get_member key ms)

-- ---- plain entries beside their document

-- one of the six lists is a list; where the document hasn't it, restarts alone may stand for it
abbrev pub IsListed : (key : List ℕ) → Option (List Expression) → (written : Option Data) → Type 0
IsListed key None written = Unit {0}
IsListed key (Some lines) None = (bytes_eq key (codes "restart") ≡ true) ⊎ (lines ≡ [])
IsListed key (Some lines) (Some (array ds)) = Unit {0}
IsListed key (Some lines) (Some d) = ⊥

abbrev pub AreListed : Data → PlainParts → Type 0
AreListed d parts = (key : List ℕ) → IsListed key (lines_of_part parts key) (get key d)
