-- An axis as a word: its names, and its values in columns.
use Rattle.std.proofs.Common.{◌≡◌, ◌<◌, ◌+◌, ◌==◌, ℕ, zero, suc, true, false, List, [], ◌∷◌, ◌++◌, Option, Some, None, Bor, All, drop, map, length, get_or, take, codes, nat_lt, inl, inr, sym, ap, subst, refl, ◌∙◌, lit<, arith}
use Rattle.std.specs.List.{join_with_byte, range_with_len}
use Rattle.std.specs.Option.{MatchOption}
use Rattle.std.proofs.lemmas.Str.Pattern.{IsSplitOnceResult, split_after, split_parts}
use Rattle.std.proofs.lemmas.Bool.{cases_eq}
use Rattle.std.proofs.lemmas.Bool.Decides.{nat_tests}
use Rattle.std.proofs.lemmas.List.{append-nil, get_or-map, get_or_append_left, get_or_at, get_or_default, length-append, length-map, length-take-le, map-append, same_lists, take_more}
use Rattle.std.proofs.lemmas.List.Elements.{All-append, All-cons, All-head, All-map, All-nil, All-tail}
use Rattle.std.proofs.lemmas.List.FromFn.{get_or-range_with_len, length-range_with_len}
use Rattle.std.proofs.lemmas.List.Splits.{join_with_byte-slice_split, length-slice_split, slice_split_none}
use Rattle.decimals.specs.Items.{list_items}
use Rattle.sweep_plan.specs.Axes.{axes_of, goes_on, place_count, value_at}
use Rattle.sweep_plan.specs.Keys.{key_name, IsKeyNamed, MaySet}
use Rattle.sweep_plan.specs.Values.{value_text, FitsToml, IsValue}
use Rattle.sweep_plan.specs.Sweep.{KeyValues}
use Rattle.sweep_plan.specs.Asked.{axis_text, names_text, parts_of, values_text, AreAxes, AreColumns, AreNames, AreValuesAt, IsColumn, IsLevel, IsSwept, RefusesAxis, RefusesColumns, RefusesNames, RefusesValuesAt}
use Rattle.sweep_plan.specs.declared.keys.SweptKey.{SweptKey}
use Rattle.sweep_plan.specs.declared.values.SweptValue.{SweptValue}
use Rattle.sweep_plan.specs.declared.values.SweptValue.TheVariants.{Whole, Switch}
use Rattle.sweep_plan.specs.declared.fault.PlanFault.{PlanFault}
use Rattle.sweep_plan.specs.declared.fault.PlanFault.TheVariants.{Words, Memory}
use Rattle.sweep_plan.proofs.Apart.{same_key}
use Rattle.sweep_plan.proofs.Grouped.{are_axes, axes_flat, one_axis, together, Follow, IsAxis}
use Rattle.sweep_plan.proofs.Letters.{name_lacks}
use Rattle.sweep_plan.proofs.Words.{Lacks, cut_once, decimal_lacks, joined_split, lacks_from_test, unlike}
use Rattle.sweep_plan.proofs.Written.{same_values, value_lacks}

map-map : {A B C : Type 0} (g : B → C) (f : A → B) (xs : List A) → map g (map f xs) ≡ map (λ x. g (f x)) xs
map-map g f [] = refl
map-map g f (x ∷ xs) = ap (λ l. g (f x) ∷ l) (map-map g f xs)

later : (k : ℕ) → nat_lt 0 (suc k) ≡ true
later k = grind (arith, nat_tests)

-- ---- which bytes words have

plus_lacks : (v : SweptValue) → FitsToml v → Lacks 43 (value_text v)
plus_lacks (Whole n) low = decimal_lacks n 43 (omega arith) (lit< tt)
plus_lacks (Switch true) low = lacks_from_test 43 (codes "true") refl
plus_lacks (Switch false) low = lacks_from_test 43 (codes "false") refl

pub lacks_joined : (c byte : ℕ) (parts : List (List ℕ)) → (byte == c) ≡ false → All (Lacks c) parts → Lacks c (join_with_byte byte parts)
lacks_joined c byte [] other lacks = All-nil (λ x. (x == c) ≡ false)
lacks_joined c byte (part ∷ []) other lacks = All-head (Lacks c) part [] lacks
lacks_joined c byte (part ∷ next ∷ parts) other lacks =
    All-append (λ x. (x == c) ≡ false) part (byte ∷ join_with_byte byte (next ∷ parts)) (All-head (Lacks c) part (next ∷ parts) lacks)
    (All-cons (λ x. (x == c) ≡ false) byte (join_with_byte byte (next ∷ parts)) other (lacks_joined c byte (next ∷ parts) other (All-tail (Lacks c) part (next ∷ parts) lacks)))

-- what holds of each key's name
pub named_each : (P : List ℕ → Type 0) → ((k : SweptKey) → P (key_name k)) → (axis : List KeyValues) → All P (map (λ s. key_name s.key) axis)
named_each P holds axis = All-map P (λ s. key_name s.key) axis (λ k d inside. holds (get_or axis k d).key)

-- the values at a place, one by one
abbrev pub row_of : List KeyValues → ℕ → List (List ℕ)
row_of axis place = map (λ s. value_text (value_at s place)) axis

at_fits : (vs : List SweptValue) (k : ℕ) → All FitsToml vs → FitsToml (get_or vs k (Whole 0))
at_fits [] k fit = lit< tt
at_fits (v ∷ vs) zero fit = All-head FitsToml v vs fit
at_fits (v ∷ vs) (suc k) fit = at_fits vs k (All-tail FitsToml v vs fit)

pub row_each : (P : List ℕ → Type 0) → ((v : SweptValue) → FitsToml v → P (value_text v)) → (axis : List KeyValues) (place : ℕ) → All IsSwept axis → All P (row_of axis place)
row_each P holds axis place sound = All-map P (λ s. value_text (value_at s place)) axis (λ k d inside. holds (value_at (get_or axis k d) place) (at_fits (get_or axis k d).values place (sound k d inside).fit))

-- ---- the parts of an axis's word

long_row : (axis : List KeyValues) (place : ℕ) → length (row_of axis place) ≡ length axis
long_row axis place = length-map axis (λ s. value_text (value_at s place))

abbrev pub rows_of : List KeyValues → List (List ℕ)
rows_of axis = map (values_text axis) (range_with_len 0 (place_count axis))

long_rows : (axis : List KeyValues) → length (rows_of axis) ≡ place_count axis
long_rows axis = length-map (range_with_len 0 (place_count axis)) (values_text axis) ∙ length-range_with_len 0 (place_count axis)

row_at : (axis : List KeyValues) (j : ℕ) (d : List ℕ) → j < place_count axis → get_or (rows_of axis) j d ≡ values_text axis j
row_at axis j d inside =
    get_or-map (values_text axis) (range_with_len 0 (place_count axis)) j 0 d (let many = length-range_with_len 0 (place_count axis) in omega (arith, many, inside))
    ∙ ap (values_text axis) (get_or-range_with_len 0 (place_count axis) j 0 inside ∙ omega arith)

first_some : (axis : List KeyValues) → IsAxis axis → 0 < place_count axis
first_some [] is = let some = is.some in absurd (omega arith)
first_some (s ∷ more) is = (All-head IsSwept s more is.sound).some

module _ (axis : List KeyValues) (is : IsAxis axis) where
  row_parts : (j : ℕ) → parts_of (values_text axis j) ≡ row_of axis j
  row_parts j =
      joined_split 43 (row_of axis j) (let long = long_row axis j in let some = is.some in omega (arith, long, some)) (row_each (Lacks 43) plus_lacks axis j is.sound)

  pub name_parts : parts_of (names_text axis) ≡ map (λ s. key_name s.key) axis
  name_parts =
      joined_split 43 (map (λ s. key_name s.key) axis) (let long = length-map axis (λ (s : KeyValues). key_name s.key) in let some = is.some in omega (arith, long, some))
      (named_each (Lacks 43) (name_lacks 43 refl refl) axis)

  pub are_names : AreNames (parts_of (names_text axis)) (map (λ s. s.key) axis)
  are_names =
      record {
        written = map-map key_name (λ (s : KeyValues). s.key) axis ∙ sym name_parts;
        known = All-map MaySet (λ s. s.key) axis (λ k d inside. (is.sound k d inside).key);
      }

  rows_lack : All (Lacks 44) (rows_of axis)
  rows_lack =
      All-map (Lacks 44) (values_text axis) (range_with_len 0 (place_count axis)) (λ k d inside.
      lacks_joined 44 43 (row_of axis (get_or (range_with_len 0 (place_count axis)) k d)) refl (row_each (Lacks 44) value_lacks axis (get_or (range_with_len 0 (place_count axis)) k d) is.sound))

  pub are_items : list_items (join_with_byte 44 (rows_of axis)) ≡ rows_of axis
  are_items = joined_split 44 (rows_of axis) (let long = long_rows axis in let some = first_some axis is in omega (arith, long, some)) rows_lack

  goes : (axis : List KeyValues) → goes_on axis ≡ false → Follow (drop 1 axis) → (k : ℕ) (d : KeyValues) → k < length axis → (get_or axis k d).together ≡ nat_lt 0 k
  goes [] begins follow k d inside = absurd (omega arith)
  goes (s ∷ more) begins follow zero d inside = begins
  goes (s ∷ more) begins follow (suc k) d inside = follow k d (omega arith) ∙ sym (later k)

  module _ (k : ℕ) (d : KeyValues) (inside : k < length axis) where
    own : KeyValues
    own = get_or axis k d

    part_is : (j : ℕ) → j < place_count axis → get_or (parts_of (get_or (rows_of axis) j [])) k [] ≡ value_text (value_at own j)
    unfolding own
    part_is j low =
        ap (λ row. get_or (parts_of row) k []) (row_at axis j [] low) ∙ ap (λ parts. get_or parts k []) (row_parts j) ∙ get_or-map (λ s. value_text (value_at s j)) axis k d [] inside

    column : IsColumn (length axis) k (rows_of axis) own
    unfolding own
    column =
        record {
          goes = goes axis is.begins is.follow k d inside;
          values = record {
            even = λ j e low. let count = long_rows axis in
                ap (λ row. length (parts_of row)) (row_at axis j e (omega (arith, count, low))) ∙ ap length (row_parts j) ∙ long_row axis j;
            written = same_lists (map value_text (get_or axis k d).values) (map (λ item. get_or (parts_of item) k []) (rows_of axis))
                (length-map (get_or axis k d).values value_text ∙ is.level k d inside ∙ sym (long_rows axis) ∙ sym (length-map (rows_of axis) (λ item. get_or (parts_of item) k [])))
                (λ j e low.
                let level = is.level k d inside in
                let count = length-map (get_or axis k d).values value_text in
                let rows = long_rows axis in
                get_or-map value_text (get_or axis k d).values j (Whole 0) e (omega (arith, count, low))
                ∙ sym (get_or-map (λ item. get_or (parts_of item) k []) (rows_of axis) j [] e (omega (arith, count, low, level, rows)) ∙ part_is j (omega (arith, count, low, level))));
            fit = (is.sound k d inside).fit;
          };
        }

  pub are_columns : AreColumns (length axis) (map (λ s. s.key) axis) (rows_of axis) axis
  unfolding own
  are_columns = record { set = refl; each = λ k d inside. column k d inside }

-- an axis's word lacks what its names and values lack
pub axis_lacks : (c : ℕ) → (43 == c) ≡ false → (44 == c) ≡ false → (61 == c) ≡ false → ((k : SweptKey) → Lacks c (key_name k)) → ((v : SweptValue) → FitsToml v → Lacks c (value_text v)) → (axis : List KeyValues) → IsAxis axis
    → Lacks c (axis_text axis)
axis_lacks c plus comma equals names values axis is =
    All-append (λ x. (x == c) ≡ false) (names_text axis) (61 ∷ join_with_byte 44 (rows_of axis))
    (lacks_joined c 43 (map (λ s. key_name s.key) axis) plus (named_each (Lacks c) names axis))
    (All-cons (λ x. (x == c) ≡ false) 61 (join_with_byte 44 (rows_of axis)) equals
    (lacks_joined c 44 (rows_of axis) comma (All-map (Lacks c) (values_text axis) (range_with_len 0 (place_count axis)) (λ k d inside.
    lacks_joined c 43 (row_of axis (get_or (range_with_len 0 (place_count axis)) k d)) plus (row_each (Lacks c) values axis (get_or (range_with_len 0 (place_count axis)) k d) is.sound)))))

-- ---- what was read of a word is its axis

module _ (word names list : List ℕ) (keys : List SweptKey) (axis : List KeyValues) (parted : word ≡ names ++ 61 ∷ list) (named : AreNames (parts_of names) keys)
    (are : AreColumns (length keys) keys (list_items list) axis) where
  as_many : length axis ≡ length keys
  as_many = sym (length-map axis (λ s. s.key)) ∙ ap length are.set

  some_keys : 0 < length keys
  some_keys =
      let many : length (parts_of names) ≡ length keys = sym (ap length named.written) ∙ length-map keys key_name in
      let count = length-slice_split (λ byte. byte == 43) names in
      omega (arith, many, count)

  some_items : 0 < length (list_items list)
  some_items = let count = length-slice_split (λ byte. byte == 44) list in omega (arith, count)

  long : (k : ℕ) (d : KeyValues) → k < length axis → length (get_or axis k d).values ≡ length (list_items list)
  long k d inside =
      sym (length-map (get_or axis k d).values value_text) ∙ ap length (are.each k d inside).values.written ∙ length-map (list_items list) (λ item. get_or (parts_of item) k [])

  first_long : (axis : List KeyValues) → 0 < length axis → ((k : ℕ) (d : KeyValues) → k < length axis → length (get_or axis k d).values ≡ length (list_items list)) → place_count axis ≡ length (list_items list)
  first_long [] some each = absurd (omega arith)
  first_long (s ∷ more) some each = each 0 s (omega arith)

  some_axis : 0 < length axis
  some_axis = let many = as_many in let some = some_keys in omega (arith, many, some)

  places : place_count axis ≡ length (list_items list)
  places = first_long axis some_axis long

  -- the values at a place are the parts of its item
  row_is : (j : ℕ) → j < length (list_items list) → row_of axis j ≡ parts_of (get_or (list_items list) j [])
  row_is j low =
      let zeroth : KeyValues = get_or axis 0 (record { key = get_or keys 0 (no_key keys some_keys); together = false; values = [] }) in
      let even : length (parts_of (get_or (list_items list) j [])) ≡ length keys = (are.each 0 zeroth some_axis).values.even j [] low in
      same_lists (row_of axis j) (parts_of (get_or (list_items list) j [])) (long_row axis j ∙ as_many ∙ sym even)
      (λ k e inside.
      let count = long_row axis j in
      let within : k < length axis = omega (arith, count, inside) in
      let s = get_or axis k zeroth in
      let size = long k zeroth within in
      let column = are.each k zeroth within in
      get_or-map (λ s. value_text (value_at s j)) axis k zeroth e within
      ∙ sym (get_or-map value_text s.values j (Whole 0) [] (omega (arith, size, low)))
      ∙ ap (λ l. get_or l j []) column.values.written
      ∙ get_or-map (λ item. get_or (parts_of item) k []) (list_items list) j [] [] low
      ∙ get_or_default (parts_of (get_or (list_items list) j [])) k [] e (let all = as_many in omega (arith, even, within, all)))
    where
      no_key : (keys : List SweptKey) → 0 < length keys → SweptKey
      no_key [] some = absurd (omega arith)
      no_key (k ∷ more) some = k

  rows_are : rows_of axis ≡ list_items list
  rows_are =
      same_lists (rows_of axis) (list_items list) (long_rows axis ∙ places)
      (λ j e inside.
      let count = long_rows axis in
      let all = places in
      let low : j < length (list_items list) = omega (arith, count, all, inside) in
      row_at axis j e (omega (arith, count, inside)) ∙ ap (join_with_byte 43) (row_is j low) ∙ join_with_byte-slice_split 43 (get_or (list_items list) j []) ∙ get_or_default (list_items list) j [] e low)

  names_are : names_text axis ≡ names
  names_are =
      ap (join_with_byte 43) (sym (map-map key_name (λ (s : KeyValues). s.key) axis) ∙ ap (map key_name) are.set ∙ named.written) ∙ join_with_byte-slice_split 43 names

  text_is : axis_text axis ≡ word
  text_is =
      ap (λ front. front ++ 61 ∷ join_with_byte 44 (rows_of axis)) names_are ∙ ap (λ rows. names ++ 61 ∷ join_with_byte 44 rows) rows_are
      ∙ ap (λ back. names ++ 61 ∷ back) (join_with_byte-slice_split 44 list) ∙ sym parted

  known_at : (k : ℕ) (d : KeyValues) → k < length axis → MaySet (get_or axis k d).key
  known_at k d inside =
      let all : All MaySet (map (λ (s : KeyValues). s.key) axis) = subst (All MaySet) (sym are.set) named.known in
      let count = length-map axis (λ (s : KeyValues). s.key) in
      subst MaySet (get_or-map (λ (s : KeyValues). s.key) axis k d d.key inside) (all k d.key (omega (arith, count, inside)))

  sound : All IsSwept axis
  sound k d inside =
      let size = long k d inside in
      let some = some_items in
      record { key = known_at k d inside; some = omega (arith, size, some); fit = (are.each k d inside).values.fit }

  one : (axis : List KeyValues) → 0 < length axis → ((k : ℕ) (d : KeyValues) → k < length axis → (get_or axis k d).together ≡ nat_lt 0 k) → (goes_on axis ≡ false) × (axes_of axis ≡ axis ∷ [])
  one [] some each = absurd (omega arith)
  one (s ∷ more) some each = (each 0 s (omega arith), one_axis s more (λ k d inside. each (suc k) d (omega arith) ∙ later k))

  pub read_axis : AreAxes (word ∷ []) axis
  read_axis =
      let alone = one axis some_axis (λ k d inside. (are.each k d inside).goes) in
      record {
        written = ap (map axis_text) alone.1 ∙ ap (λ text. text ∷ []) text_is;
        begins = alone.0;
        level = subst (All IsLevel) (sym alone.1) (All-cons IsLevel axis [] (λ k d inside. long k d inside ∙ sym places) (All-nil IsLevel));
        sound = sound;
      }

-- ---- one word, one axis

pub same_names : (js ks : List SweptKey) → All MaySet js → All MaySet ks → map key_name js ≡ map key_name ks → js ≡ ks
same_names [] [] a b same = refl
same_names [] (k ∷ ks) a b same = let none : 0 ≡ suc (length (map key_name ks)) = ap length same in absurd (omega arith)
same_names (j ∷ js) [] a b same = let none : suc (length (map key_name js)) ≡ 0 = ap length same in absurd (omega arith)
same_names (j ∷ js) (k ∷ ks) a b same =
    let first : key_name j ≡ key_name k = cc in
    let rest : map key_name js ≡ map key_name ks = cc in
    let one = same_key j k (All-head MaySet j js a) (All-head MaySet k ks b) first in
    let more = same_names js ks (All-tail MaySet j js a) (All-tail MaySet k ks b) rest in
    ap (λ x. x ∷ js) one ∙ ap (λ xs. k ∷ xs) more

pub same_columns : (of : ℕ) (keys : List SweptKey) (items : List (List ℕ)) (a b : List KeyValues) → AreColumns of keys items a → AreColumns of keys items b → a ≡ b
same_columns of keys items a b one other =
    let many : length a ≡ length keys = sym (length-map a (λ (s : KeyValues). s.key)) ∙ ap length one.set in
    let count : length b ≡ length keys = sym (length-map b (λ (s : KeyValues). s.key)) ∙ ap length other.set in
    same_lists a b (many ∙ sym count) (λ k d inside.
    let within : k < length b = omega (arith, many, count, inside) in
    let left = one.each k d inside in
    let right = other.each k d within in
    let key : (get_or a k d).key ≡ (get_or b k d).key =
    sym (get_or-map (λ (s : KeyValues). s.key) a k d d.key inside) ∙ ap (λ l. get_or l k d.key) (one.set ∙ sym other.set) ∙ get_or-map (λ (s : KeyValues). s.key) b k d d.key within in
    let goes : (get_or a k d).together ≡ (get_or b k d).together = left.goes ∙ sym right.goes in
    let values : (get_or a k d).values ≡ (get_or b k d).values = same_values (get_or a k d).values (get_or b k d).values left.values.fit right.values.fit (left.values.written ∙ sym right.values.written) in
    (λ i. record { key = key i; together = goes i; values = values i }))

pub names_lack : (axis : List KeyValues) → Lacks 61 (names_text axis)
names_lack axis = lacks_joined 61 43 (map (λ s. key_name s.key) axis) refl (named_each (Lacks 61) (name_lacks 61 refl refl) axis)

-- the first name of an axis whose names are one name
pub one_name : (axis : List KeyValues) → IsAxis axis → (name : List ℕ) → Lacks 43 name → names_text axis ≡ name → (k : SweptKey) × MaySet k × (key_name k ≡ name)
one_name [] is name lacks same = let some = is.some in absurd (omega arith)
one_name (s ∷ more) is name lacks same =
    let only : map (λ s. key_name s.key) (s ∷ more) ≡ name ∷ [] = sym (name_parts (s ∷ more) is) ∙ ap parts_of same ∙ slice_split_none (λ byte. byte == 43) name lacks in
    let first : key_name s.key ≡ name = cc in
    (s.key, (All-head IsSwept s more is.sound).key, first)

-- what the names and the list of an axis's word are
module _ (axis : List KeyValues) (is : IsAxis axis) (names list : List ℕ) (named : names ≡ names_text axis) (listed : list ≡ join_with_byte 44 (rows_of axis)) where
  pub names_there : AreNames (parts_of names) (map (λ s. s.key) axis)
  names_there = subst (λ n. AreNames (parts_of n) (map (λ s. s.key) axis)) (sym named) (are_names axis is)

  pub columns_there : AreColumns (length axis) (map (λ s. s.key) axis) (list_items list) axis
  columns_there = subst (λ l. AreColumns (length axis) (map (λ s. s.key) axis) l axis) (sym (ap list_items listed ∙ are_items axis is)) (are_columns axis is)

  -- where these are the names of keys, it is an axis of these
  pub columns_of : (keys : List SweptKey) → AreNames (parts_of names) keys → AreColumns (length keys) keys (list_items list) axis
  columns_of keys are =
      let own = names_there in
      let same : map (λ (s : KeyValues). s.key) axis ≡ keys = same_names (map (λ s. s.key) axis) keys own.known are.known (own.written ∙ sym are.written) in
      let many : length axis ≡ length keys = sym (length-map axis (λ (s : KeyValues). s.key)) ∙ ap length same in
      subst (λ n. AreColumns n keys (list_items list) axis) many (subst (λ ks. AreColumns (length axis) ks (list_items list) axis) same columns_there)

pub same_axis : (a b : List KeyValues) → IsAxis a → IsAxis b → axis_text a ≡ axis_text b → a ≡ b
same_axis a b is also same =
    let parts = cut_once 61 (names_text a) (names_text b) (join_with_byte 44 (rows_of a)) (join_with_byte 44 (rows_of b)) (names_lack a) (names_lack b) same in
    let list = join_with_byte 44 (rows_of b) in
    let keys : List SweptKey = map (λ s. s.key) b in
    let named = are_names b also in
    same_columns (length keys) keys (list_items list) a b
    (columns_of a is (names_text b) list (sym parts.0) (sym parts.1) keys named) (columns_of b also (names_text b) list refl refl keys named)

-- ---- the swept keys of one word

pub alone : (axis : List KeyValues) (word : List ℕ) → IsAxis axis → axis_text axis ≡ word → AreAxes (word ∷ []) axis
alone axis word is text =
    let one = itself axis is.some is.follow in
    record {
      written = ap (map axis_text) one ∙ ap (λ t. t ∷ []) text;
      begins = is.begins;
      level = subst (All IsLevel) (sym one) (All-cons IsLevel axis [] is.level (All-nil IsLevel));
      sound = is.sound;
    }
  where
    itself : (axis : List KeyValues) → 0 < length axis → Follow (drop 1 axis) → axes_of axis ≡ axis ∷ []
    itself [] some follow = absurd (omega arith)
    itself (s ∷ more) some follow = one_axis s more follow

lone_list : (word : List ℕ) (axes : List (List KeyValues)) (swept_keys : List KeyValues) → map axis_text axes ≡ word ∷ [] → together axes ≡ swept_keys → (axes ≡ swept_keys ∷ []) × (axis_text swept_keys ≡ word)
lone_list word [] swept_keys written flat = let none : ◌≡◌ {A = ℕ} 0 1 = ap length written in absurd (omega arith)
lone_list word (axis ∷ []) swept_keys written flat =
    let own : axis ≡ swept_keys = sym (append-nil axis) ∙ flat in
    let text : axis_text axis ≡ word = cc in
    (ap (λ a. a ∷ []) own, ap axis_text (sym own) ∙ text)
lone_list word (axis ∷ next ∷ axes) swept_keys written flat = let many : ◌≡◌ {A = ℕ} (suc (suc (length (map axis_text axes)))) 1 = ap length written in absurd (omega arith)

pub lone : (word : List ℕ) (axis : List KeyValues) → AreAxes (word ∷ []) axis → IsAxis axis × (axis_text axis ≡ word)
lone word axis are =
    let only = lone_list word (axes_of axis) axis are.written (axes_flat axis) in
    let each : All IsAxis (axis ∷ []) = subst (All IsAxis) only.0 (are_axes axis are.begins are.level are.sound) in
    (All-head IsAxis axis [] each, only.1)

-- the parts of a word that is an axis, where it is cut at its equals sign
module _ (word : List ℕ) (axis : List KeyValues) (are : AreAxes (word ∷ []) axis) where
  at_sign : (parted : Option (Bor (List ℕ) × Bor (List ℕ))) → IsSplitOnceResult 61 word parted
      → MatchOption parted ⊥ (λ x. (x.0.now ≡ names_text axis) × (x.1.now ≡ join_with_byte 44 (rows_of axis)))
  at_sign parted cut =
      split_after 61 word (names_text axis) (join_with_byte 44 (rows_of axis)) parted cut (lit< tt) (sym (lone word axis are).1) (unlike 61 (names_text axis) (names_lack axis))

  pub unparted : (parted : Option (Bor (List ℕ) × Bor (List ℕ))) → parted ≡ None → IsSplitOnceResult 61 word parted → ⊥
  unparted parted none cut = rw none at (at_sign parted cut)

  module _ (parted : Option (Bor (List ℕ) × Bor (List ℕ))) (names list : Bor (List ℕ)) (some : parted ≡ Some (names, list)) (cut : IsSplitOnceResult 61 word parted) where
    parts : (names.now ≡ names_text axis) × (list.now ≡ join_with_byte 44 (rows_of axis))
    parts = rw some at (at_sign parted cut)

    pub its_names : AreNames (parts_of names.now) (map (λ s. s.key) axis)
    its_names = names_there axis (lone word axis are).0 names.now list.now parts.0 parts.1

    pub its_columns : (keys : List SweptKey) → AreNames (parts_of names.now) keys → AreColumns (length keys) keys (list_items list.now) axis
    its_columns = columns_of axis (lone word axis are).0 names.now list.now parts.0 parts.1

-- what was read of a word is its axis
pub axis_read : (word : List ℕ) (names list : Bor (List ℕ)) (parted : Option (Bor (List ℕ) × Bor (List ℕ))) (keys : List SweptKey) (axis : List KeyValues)
    → parted ≡ Some (names, list) → IsSplitOnceResult 61 word parted → AreNames (parts_of names.now) keys → AreColumns (length keys) keys (list_items list.now) axis → AreAxes (word ∷ []) axis
axis_read word names list parted keys axis some cut named are =
    let told = rw some at (split_parts 61 word parted cut (lit< tt)) in
    read_axis word names.now list.now keys axis told.0 named are

-- ---- where a word is refused

pub no_names : (names : List (List ℕ)) (k : ℕ) (word : List ℕ) → k < length names → word ≡ get_or names k word → ((key : SweptKey) → IsKeyNamed word key → ⊥) → (keys : List SweptKey) → AreNames names keys → ⊥
no_names names k word inside at none keys are =
    let count : length keys ≡ length names = sym (length-map keys key_name) ∙ ap length are.written in
    let some : 0 < length keys = omega (arith, count, inside) in
    let d = first keys some in
    let named : key_name (get_or keys k d) ≡ word = sym (get_or-map key_name keys k d word (omega (arith, count, inside))) ∙ ap (λ l. get_or l k word) are.written ∙ sym at in
    none (get_or keys k d) (record { named = named; known = are.known k d (omega (arith, count, inside)) })
  where
    first : (keys : List SweptKey) → 0 < length keys → SweptKey
    first [] some = absurd (omega arith)
    first (k ∷ more) some = k

pub no_values_at : (of place : ℕ) (items : List (List ℕ)) (k : ℕ) (word : List ℕ) → k < length items → word ≡ get_or items k word
    → (length (parts_of word) ≡ of → (v : SweptValue) → IsValue (get_or (parts_of word) place []) v → ⊥) → (values : List SweptValue) → AreValuesAt of place items values → ⊥
no_values_at of place items k word inside at none values are =
    let count : length values ≡ length items = sym (length-map values value_text) ∙ ap length are.written ∙ length-map items (λ item. get_or (parts_of item) place []) in
    let within : k < length values = omega (arith, count, inside) in
    let even : length (parts_of word) ≡ of = ap (λ w. length (parts_of w)) at ∙ are.even k word inside in
    let written : value_text (get_or values k (Whole 0)) ≡ get_or (parts_of word) place [] =
    sym (get_or-map value_text values k (Whole 0) [] within) ∙ ap (λ l. get_or l k []) are.written ∙ get_or-map (λ item. get_or (parts_of item) place []) items k word [] inside
    ∙ ap (λ w. get_or (parts_of w) place []) (sym at) in
    none even (get_or values k (Whole 0)) (record { written = written; fits = are.fit k (Whole 0) within })

pub refused_names : (word names : List ℕ) (fault : PlanFault) → ((axis : List KeyValues) → AreAxes (word ∷ []) axis → AreNames (parts_of names) (map (λ s. s.key) axis)) → RefusesNames (parts_of names) fault → RefusesAxis word fault
refused_names word names Words has none = λ axis are. none (map (λ s. s.key) axis) (has axis are)
refused_names word names Memory has none = tt

pub refused_columns : (word list : List ℕ) (keys : List SweptKey) (fault : PlanFault) → ((axis : List KeyValues) → AreAxes (word ∷ []) axis → AreColumns (length keys) keys (list_items list) axis) → RefusesColumns keys (list_items list) fault
    → RefusesAxis word fault
refused_columns word list keys Words has none = λ axis are. none axis (has axis are)
refused_columns word list keys Memory has none = tt

-- ---- column by column

pub no_columns : (keys : List SweptKey) (items : List (List ℕ)) (place : ℕ) (fault : PlanFault) → place < length keys → RefusesValuesAt (length keys) place items fault → RefusesColumns keys items fault
no_columns keys items place Memory inside none = tt
no_columns keys items place Words inside none = λ axis are.
    let count : length axis ≡ length keys = sym (length-map axis (λ (s : KeyValues). s.key)) ∙ ap length are.set in
    let d = first axis (omega (arith, count, inside)) in
    none (get_or axis place d).values (are.each place d (omega (arith, count, inside))).values
  where
    first : (axis : List KeyValues) → 0 < length axis → KeyValues
    first [] some = absurd (omega arith)
    first (s ∷ more) some = s

pub column_more : (keys : List SweptKey) (items : List (List ℕ)) (place : ℕ) (d : SweptKey) (axis : List KeyValues) (s : KeyValues) → place < length keys
    → AreColumns (length keys) (take place keys) items axis → s.key ≡ get_or keys place d → IsColumn (length keys) place items s → AreColumns (length keys) (take (place + 1) keys) items (axis ++ s ∷ [])
column_more keys items place k axis s inside are key column =
    let count : length axis ≡ place = sym (length-map axis (λ (s : KeyValues). s.key)) ∙ ap length are.set ∙ length-take-le place keys (omega arith) in
    record {
      set = map-append (λ (s : KeyValues). s.key) axis (s ∷ []) ∙ ap (λ l. l ++ s.key ∷ []) are.set ∙ ap (λ x. take place keys ++ x ∷ []) key ∙ sym (take_more keys place k inside);
      each = λ j d low. elim (cases_eq j place) [
        | inl same ↦
            let own : get_or (axis ++ s ∷ []) j d ≡ s = get_or_at axis s [] d j (omega (arith, count, same)) in
            subst (IsColumn (length keys) j items) (sym own) (subst (λ p. IsColumn (length keys) p items s) (sym same) column)
        | inr other ↦
            let long = length-append axis (s ∷ []) in
            let before : j < length axis = omega (arith, count, other, long, low) in
            subst (IsColumn (length keys) j items) (sym (get_or_append_left axis (s ∷ []) d j before)) (are.each j d before)
      ];
    }
