-- Whether two items have one name, asked of the names that they have in their order.
use Rattle.std.proofs.Common.{◌≡◌, ◌<◌, ℕ, ◌+◌, List, [], ◌∷◌, ◌++◌, Bool, true, false, ◌||◌, map, take, drop, get_or, length, Option, Some, None, refl, ap, ap₂, sym, ◌∙◌, codes, bytes_eq, append_assoc, String, Global, string_bytes, not}
use Rattle.std.specs.List.{list_any}
use Rattle.std.specs.Option.{option_map_or}
use Rattle.std.specs.String.{string_eq}
use Rattle.std.proofs.lemmas.List.{append-nil, map-append, map_more, take-append-drop}
use Rattle.std.proofs.lemmas.Bool.{or_right}
use Rattle.toml.specs.Data.{Data}
use Rattle.toml.specs.View.{view}
use Rattle.toml.specs.declared.value.Value.{Value}
use Rattle.schema.proofs.Trees.{any-map}
use Rattle.scenario_reader.specs.Rules.{any_two}
use Rattle.scenario_reader.proofs.Sweep.{two_last}
use Rattle.script_reader.specs.Rules.{is_name_twice, is_so_called}
use Rattle.script_reader.specs.Twice.{is_among, name_or_none, words}
use Rattle.script_reader.specs.Values.{text_at}

abbrev name_of : Data → Option (List ℕ)
name_of d = text_at (codes "name") d

-- the names of items, in their order
abbrev pub names_in : List Data → List (List ℕ)
names_in [] = []
names_in (d ∷ ds) = name_or_none (name_of d) ++ names_in ds

-- the test of two names, as `is_so_called` asks it: the later one first
abbrev pub same : List ℕ → List ℕ → Bool
same name other = bytes_eq other name

-- ---- items and their names

called_by : (name : List ℕ) (here : Option (List ℕ)) (rest : Bool) (names : List (List ℕ)) → rest ≡ list_any (same name) names
    → (option_map_or (same name) here false || rest) ≡ list_any (same name) (name_or_none here ++ names)
called_by name None rest names is = is
called_by name (Some other) rest names is = ap (λ (b : Bool). same name other || b) is

so_called : (name : List ℕ) (ds : List Data) → list_any (is_so_called name) ds ≡ list_any (same name) (names_in ds)
so_called name [] = refl
so_called name (d ∷ ds) = called_by name (name_of d) (list_any (is_so_called name) ds) (names_in ds) (so_called name ds)

twice_by : (here : Option (List ℕ)) (ds : List Data) → is_name_twice ds ≡ any_two same (names_in ds)
    → (option_map_or (λ name. list_any (is_so_called name) ds) here false || is_name_twice ds) ≡ any_two same (name_or_none here ++ names_in ds)
twice_by None ds is = is
twice_by (Some name) ds is = ap₂ ◌||◌ (so_called name ds) is

pub twice_names : (ds : List Data) → is_name_twice ds ≡ any_two same (names_in ds)
twice_names [] = refl
twice_names (d ∷ ds) = twice_by (name_of d) ds (twice_names ds)

names_append : (ds es : List Data) → names_in (ds ++ es) ≡ names_in ds ++ names_in es
names_append [] es = refl
names_append (d ∷ ds) es = ap (λ (more : List (List ℕ)). name_or_none (name_of d) ++ more) (names_append ds es) ∙ sym (append_assoc (name_or_none (name_of d)) (names_in ds) (names_in es))

-- ---- the names that a set keeps

pub not_free : (b : Bool) → not (not b) ≡ b
not_free true = refl
not_free false = refl

-- a set has a name just if its words have it
pub taken_word : (keys : List (String Global)) (key : String Global) (name : List ℕ) → string_bytes key ≡ name
    → list_any (string_eq key) keys ≡ list_any (bytes_eq name) (words keys)
taken_word keys key name is = sym (any-map (bytes_eq (string_bytes key)) string_bytes keys) ∙ ap (λ (n : List ℕ). list_any (bytes_eq n) (words keys)) is

-- ---- one name more

or_nothing : (b : Bool) → (b || false) ≡ b
or_nothing true = refl
or_nothing false = refl

-- where no name stands twice, one more does just if it is there
one_more : (names : List (List ℕ)) (here : Option (List ℕ)) (taken : Bool) → is_among names here ≡ taken → any_two same names ≡ false
    → any_two same (names ++ name_or_none here) ≡ taken
one_more names None taken among fine = ap (any_two same) (append-nil names) ∙ fine ∙ among
one_more names (Some name) taken among fine =
    two_last same names name ∙ ap (λ (b : Bool). list_any (bytes_eq name) names || b) fine ∙ or_nothing (list_any (bytes_eq name) names) ∙ among

-- a name that stands twice does so whatever follows
kept : (names more : List (List ℕ)) → any_two same names ≡ true → any_two same (names ++ more) ≡ true
kept names [] twice = ap (any_two same) (append-nil names) ∙ twice
kept names (name ∷ more) twice =
    ap (any_two same) (sym (append_assoc names (name ∷ []) more))
    ∙ kept (names ++ name ∷ []) more (two_last same names name ∙ or_right (list_any (bytes_eq name) names) (any_two same names) twice)

-- ---- item by item

module _ (items : List Value) (place : ℕ) (item : Value) (names : List (List ℕ)) (within : place < length items) (is : get_or items place item ≡ item)
    (seen : names ≡ names_in (map view (take place items))) where
  -- the names up to this item
  pub names_more : names ++ name_or_none (name_of (view item)) ≡ names_in (map view (take (place + 1) items))
  names_more =
      sym
      (ap names_in (map_more view items place item within ∙ ap (λ (v : Value). map view (take place items) ++ view v ∷ []) is)
      ∙ names_append (map view (take place items)) (view item ∷ [])
      ∙ ap (λ (more : List (List ℕ)). names_in (map view (take place items)) ++ more) (append-nil (name_or_none (name_of (view item))))
      ∙ ap (λ (before : List (List ℕ)). before ++ name_or_none (name_of (view item))) (sym seen))

  pub twice_here : any_two same names ≡ false → is_among names (name_of (view item)) ≡ true → is_name_twice (map view items) ≡ true
  twice_here fine taken =
      let upto : any_two same (names_in (map view (take (place + 1) items))) ≡ true = ap (any_two same) (sym names_more) ∙ one_more names (name_of (view item)) true taken fine in
      let split : names_in (map view items) ≡ names_in (map view (take (place + 1) items)) ++ names_in (map view (drop (place + 1) items)) =
      ap (λ (vs : List Value). names_in (map view vs)) (sym (take-append-drop (place + 1) items))
      ∙ ap names_in (map-append view (take (place + 1) items) (drop (place + 1) items))
      ∙ names_append (map view (take (place + 1) items)) (map view (drop (place + 1) items)) in
      twice_names (map view items) ∙ ap (any_two same) split ∙ kept (names_in (map view (take (place + 1) items))) (names_in (map view (drop (place + 1) items))) upto

  pub fine_still : (new : List (List ℕ)) → new ≡ names ++ name_or_none (name_of (view item)) → any_two same names ≡ false → is_among names (name_of (view item)) ≡ false
      → any_two same new ≡ false
  fine_still new is_new fine free = ap (any_two same) is_new ∙ one_more names (name_of (view item)) false free fine
