-- Words that are names of items' keys, part by part, and the first such key.
use Rattle.std.proofs.Common.{◌≡◌, ◌≢◌, ◌<◌, ◌+◌, ℕ, Bool, true, false, List, [], ◌∷◌, ◌++◌, Option, Some, None, Contains, cond, map, filter, take, drop, length, get_or, sym, ap, subst, ◌∙◌, refl, inl, inr, arith}
use Rattle.std.specs.List.{flat_map}
use Rattle.std.specs.Option.{IfSome}
use Rattle.std.proofs.lemmas.Bool.{false≢true}
use Rattle.std.proofs.lemmas.List.{append_assoc, append_cancel_left, append_cancel_right, map-append, take_more, take-append-drop, drop_more}
use Rattle.std.proofs.lemmas.List.Elements.{All-append, All-cons, All-contains, All-nil, Contains-append_left, Contains-append_right, filter-append}
use Rattle.schema.specs.Schema.{key_rules_of, spelling_of}
use Rattle.schema.specs.declared.schema.FormatKey.{FormatKey}
use Rattle.schema.specs.declared.schema.KeyRule.{KeyRule}
use Rattle.schema.specs.declared.schema.Section.TheVariants.{Top}
use Rattle.schema.specs.declared.schema.Version.TheVariants.{Four}
use Rattle.sweep_plan.specs.Items.{is_item_name, kept_name}
use Rattle.sweep_plan.specs.Keys.{in_table, of_item, is_named, is_plain, key_name, key_named, keys_of_items, keys_of_table, settable, listed, of_entry, IsKeyNamed}
use Rattle.sweep_plan.specs.Listed.{IsItemIn, IsNamedIn, IsNoName, NamesNone}
use Rattle.sweep_plan.specs.declared.items.ItemName.{ItemName}
use Rattle.sweep_plan.specs.SetKeys.{entry_keys, key_spelling}
use Rattle.sweep_plan.specs.declared.keys.SweptKey.{SweptKey}
use Rattle.sweep_plan.specs.declared.set_keys.SetKey.{SetKey}
use Rattle.sweep_plan.specs.declared.set_keys.SetKey.TheVariants.{Plain}
use Rattle.sweep_plan.proofs.Apart.{kept_is, named_itself}
use Rattle.sweep_plan.proofs.Names.{bytes_eq_true}
use Rattle.sweep_plan.proofs.Written.{found}

-- ---- the item's name in a word

module _ (list key word : List ℕ) where
  parted : (rest front name : List ℕ) (item : ItemName) → word ≡ list ++ rest → rest ≡ front ++ key → front ≡ name ++ 46 ∷ [] → is_item_name name ≡ true → item ≡ kept_name name
      → IsItemIn list key word item
  parted rest front name item one two three sound kept =
      record {
        name = name;
        sound = sound;
        kept = kept;
        written = ap (λ l. list ++ l) (sym (append_assoc name (46 ∷ []) key) ∙ ap (λ l. l ++ key) (sym three) ∙ sym two) ∙ sym one;
      }

  -- what was read of the rest is the item's name
  pub parted_if : (rest front name : List ℕ) (read : Option ItemName) → word ≡ list ++ rest → rest ≡ front ++ key → front ≡ name ++ 46 ∷ []
      → IfSome read (λ item. (is_item_name name ≡ true) × (item ≡ kept_name name)) → IfSome read (IsItemIn list key word)
  parted_if rest front name None one two three told = told
  parted_if rest front name (Some item) one two three told = parted rest front name item one two three told.0 told.1

  module _ (item : ItemName) (is : IsItemIn list key word item) where
    pub unlisted : ((rest : List ℕ) → word ≢ list ++ rest) → ⊥
    unlisted none = none (is.name ++ 46 ∷ key) (sym is.written)

    module _ (rest : List ℕ) (one : word ≡ list ++ rest) where
      rest_is : rest ≡ (is.name ++ 46 ∷ []) ++ key
      rest_is = append_cancel_left list rest (is.name ++ 46 ∷ key) (sym one ∙ sym is.written) ∙ sym (append_assoc is.name (46 ∷ []) key)

      pub unkeyed : ((front : List ℕ) → rest ≢ front ++ key) → ⊥
      unkeyed none = none (is.name ++ 46 ∷ []) rest_is

      module _ (front : List ℕ) (two : rest ≡ front ++ key) where
        front_is : front ≡ is.name ++ 46 ∷ []
        front_is = append_cancel_right front (is.name ++ 46 ∷ []) key (sym two ∙ rest_is)

        pub undotted : ((name : List ℕ) → front ≢ name ++ 46 ∷ []) → ⊥
        undotted none = none is.name front_is

        pub unnamed_if : (name : List ℕ) → front ≡ name ++ 46 ∷ [] → is_item_name name ≡ false → ⊥
        unnamed_if name three none =
            let same : is.name ≡ name = append_cancel_right is.name name (46 ∷ []) (sym front_is ∙ three) in
            false≢true (sym none ∙ ap is_item_name (sym same) ∙ is.sound)

-- ---- one key of items

name_is : (t : FormatKey) (x : SetKey) (name : List ℕ) → is_item_name name ≡ true → key_name (of_item (kept_name name) (in_table t x)) ≡ spelling_of t ++ (name ++ 46 ∷ key_spelling x)
name_is t x name sound = ap (λ l. spelling_of t ++ (l ++ 46 ∷ key_spelling x)) (kept_is name sound)

pub one_named : (t : FormatKey) (x : SetKey) (word : List ℕ) (item : ItemName) → IsItemIn (spelling_of t) (key_spelling x) word item
    → IsNamedIn (in_table t x ∷ []) word (record { table = Some t; item = Some item; key = x })
one_named t x word item is =
    let same : of_item item (in_table t x) ≡ of_item (kept_name is.name) (in_table t x) = ap (λ i. of_item i (in_table t x)) is.kept in
    record {
      name = is.name;
      sound = is.sound;
      key = in_table t x;
      known = (0, omega arith, refl);
      is = same;
      named = ap key_name same ∙ name_is t x is.name is.sound ∙ is.written;
    }

pub one_other : (t : FormatKey) (x : SetKey) (word : List ℕ) → ((item : ItemName) → IsItemIn (spelling_of t) (key_spelling x) word item → ⊥) → NamesNone (in_table t x ∷ []) word
one_other t x word none =
    All-cons (IsNoName word) (in_table t x) []
    (λ name sound same. none (kept_name name) (record { name = name; sound = sound; kept = refl; written = sym (name_is t x name sound) ∙ same }))
    (All-nil (IsNoName word))

-- ---- the key that a row gives

abbrev in_row : FormatKey → KeyRule → Bool → List SweptKey
in_row t row plain = map (λ r. in_table t (Plain r.key)) (cond plain (row ∷ []) [])

pub row_without : (t : FormatKey) (row : KeyRule) (word : List ℕ) → is_plain row.kind ≡ false → NamesNone (keys_of_table t (row ∷ [])) word
row_without t row word other = subst (λ b. NamesNone (in_row t row b) word) (sym other) (All-nil (IsNoName word))

pub row_with : (t : FormatKey) (row : KeyRule) → is_plain row.kind ≡ true → in_table t (Plain row.key) ∷ [] ≡ keys_of_table t (row ∷ [])
row_with t row plain = ap (in_row t row) (sym plain)

-- ---- row by row

pub table_adds : (t : FormatKey) (xs ys : List KeyRule) → keys_of_table t (xs ++ ys) ≡ keys_of_table t xs ++ keys_of_table t ys
table_adds t xs ys =
    ap (map (λ r. in_table t (Plain r.key))) (filter-append (λ r. is_plain r.kind) xs ys)
    ∙ map-append (λ r. in_table t (Plain r.key)) (filter (λ r. is_plain r.kind) xs) (filter (λ r. is_plain r.kind) ys)

-- keys that rows give, those of some rows after those of others
module _ {R : Type 0} (gives : List R → List SweptKey) (adds : (xs ys : List R) → gives (xs ++ ys) ≡ gives xs ++ gives ys) (word : List ℕ) (rows : List R) (i : ℕ) (d : R) (inside : i < length rows) where
  pub none_more : NamesNone (gives (take i rows)) word → NamesNone (gives (get_or rows i d ∷ [])) word → NamesNone (gives (take (i + 1) rows)) word
  none_more before here =
      subst (λ l. NamesNone l word) (sym (ap gives (take_more rows i d inside) ∙ adds (take i rows) (get_or rows i d ∷ []))) (All-append (IsNoName word) (gives (take i rows)) (gives (get_or rows i d ∷ [])) before here)

  split : gives rows ≡ gives (take i rows) ++ (gives (get_or rows i d ∷ []) ++ gives (drop (i + 1) rows))
  split =
      ap gives (sym (take-append-drop i rows) ∙ ap (λ l. take i rows ++ l) (drop_more rows i d inside)) ∙ adds (take i rows) (get_or rows i d ∷ drop (i + 1) rows)
      ∙ ap (λ l. gives (take i rows) ++ l) (adds (get_or rows i d ∷ []) (drop (i + 1) rows))

  pub found_here : (k : SweptKey) → IsNamedIn (gives (get_or rows i d ∷ [])) word k → IsNamedIn (gives rows) word k
  found_here k is =
      record {
        name = is.name;
        sound = is.sound;
        key = is.key;
        known = subst (λ l. Contains l is.key) (sym split)
            (Contains-append_right (gives (take i rows)) (gives (get_or rows i d ∷ []) ++ gives (drop (i + 1) rows)) is.key
            (Contains-append_left (gives (get_or rows i d ∷ [])) (gives (drop (i + 1) rows)) is.key is.known));
        is = is.is;
        named = is.named;
      }

-- ---- the keys of plain texts, and those of entries

named_left : (xs ys : List SweptKey) (word : List ℕ) (k : SweptKey) → IsNamedIn xs word k → IsNamedIn (xs ++ ys) word k
named_left xs ys word k is = record { name = is.name; sound = is.sound; key = is.key; known = Contains-append_left xs ys is.key is.known; is = is.is; named = is.named }

named_right : (xs ys : List SweptKey) (word : List ℕ) (k : SweptKey) → IsNamedIn ys word k → IsNamedIn (xs ++ ys) word k
named_right xs ys word k is = record { name = is.name; sound = is.sound; key = is.key; known = Contains-append_right xs ys is.key is.known; is = is.is; named = is.named }

pub listed_plain : (word : List ℕ) (k : SweptKey) → IsNamedIn (flat_map keys_of_items (key_rules_of Four Top)) word k → IsNamedIn listed word k
unfolding listed
listed_plain word k is = named_left (flat_map keys_of_items (key_rules_of Four Top)) (map of_entry entry_keys) word k is

pub listed_entry : (word : List ℕ) (r : Option SweptKey) → IfSome r (IsNamedIn (map of_entry entry_keys) word) → IfSome r (IsNamedIn listed word)
unfolding listed
listed_entry word None told = told
listed_entry word (Some k) told = named_right (flat_map keys_of_items (key_rules_of Four Top)) (map of_entry entry_keys) word k told

pub listed_none : (word : List ℕ) → NamesNone (flat_map keys_of_items (key_rules_of Four Top)) word → NamesNone (map of_entry entry_keys) word → NamesNone listed word
unfolding listed
listed_none word plain entries = All-append (IsNoName word) (flat_map keys_of_items (key_rules_of Four Top)) (map of_entry entry_keys) plain entries

-- ---- the key of a name, among all

pub named_outside : (word : List ℕ) (r : Option SweptKey) (k : SweptKey) → r ≡ key_named word → r ≡ Some k → IsKeyNamed word k
unfolding key_named
named_outside word r k is some =
    let there = found (is_named word) settable k (sym is ∙ some) in
    record { named = bytes_eq_true (key_name k) word there.1; known = inl there.0 }

named_listed : (word : List ℕ) (k : SweptKey) → IsNamedIn listed word k → IsKeyNamed word k
named_listed word k is = record { named = is.named; known = inr (record { name = is.name; sound = is.sound; key = is.key; known = is.known; is = is.is }) }

pub named_listed_if : (word : List ℕ) (r : Option SweptKey) → IfSome r (IsNamedIn listed word) → IfSome r (IsKeyNamed word)
named_listed_if word None told = told
named_listed_if word (Some k) told = named_listed word k told

pub named_none : (word : List ℕ) (r : Option SweptKey) → r ≡ key_named word → r ≡ None → NamesNone listed word → (k : SweptKey) → IsKeyNamed word k → ⊥
named_none word r is none none_listed k named =
    elim named.known [
      | inl outside ↦
          let one : None ≡ Some k = sym none ∙ is ∙ ap key_named (sym named.named) ∙ named_itself k outside in
          cc
      | inr item ↦
          let other : IsNoName word item.key = All-contains (IsNoName word) listed item.key none_listed item.known in
          other item.name item.sound (sym (ap key_name item.is) ∙ named.named)
    ]
