-- The member or the group that a name names, found by the parts of the name.
use Rattle.std.proofs.Common.{◌≡◌, ◌≢◌, ◌≤◌, ◌<◌, ◌^◌, ℕ, suc, zero, not, ◌+◌, ◌-◌, List, [], ◌∷◌, ◌++◌, Bool, true, false, ◌||◌, ◌&&◌, cond, map, length, length-append, get_or, refl, ap, sym, subst, ◌∙◌, take, drop, Bor, String, Global, string_bytes, bytes_eq, codes, append_assoc, arith, nat_eq, nat_lt}
use Rattle.std.specs.List.{list_any, slice_get, position, position_or_len, range_with_len, sum_by}
use Rattle.std.specs.Map.{keys_of, lookup}
use Rattle.std.specs.Fmt.{decimal}
use Rattle.std.specs.Option.{option_map_or}
use Rattle.std.specs.Prelude.{Option, Some, None, MatchOption}
use Rattle.std.proofs.lemmas.Bool.{false≢true}
use Rattle.std.proofs.lemmas.Bool.Decides.{nat_tests}
use Rattle.std.proofs.lemmas.Fmt.{decimal_injective, digits_decimal}
use Rattle.std.proofs.lemmas.Str.Parse.{IsNumeralModel, numerals_by_value, tells_all_ascii_digits}
use Rattle.std.specs.Str.{all_ascii_digits}
use Rattle.std.specs.Str.Parse.{digits_value}
use Rattle.std.specs.Char.{is_ascii_digit}
use Rattle.std.specs.Str.{NoCharPasses}
use Rattle.std.specs.Str.Pattern.{RFindsChar}
use Rattle.std.proofs.lemmas.Str.Pattern.{NoCharPasses-char, drop_at_char}
use Rattle.std.proofs.lemmas.List.{take-append-drop}
use Rattle.std.proofs.lemmas.Slice.Eq.{bytes_eq-Decides}
use Rattle.std.proofs.lemmas.List.Sums.{position_or_len_is}
use Rattle.std.proofs.lemmas.Option.{same_Some}
use Rattle.std.proofs.lemmas.List.FromFn.{length-map-range_with_len, get_or-map-range_with_len}
use Rattle.std.proofs.lemmas.List.Concat.{length-flat_map}
use Rattle.std.proofs.lemmas.List.Elements.{All-from_get_or}
use Rattle.std.proofs.lemmas.List.Folds.{list_any-append, list_any_none, fold-map}
use Rattle.scenario.specs.Setup.{Group, names_in, names_below, group_at}
use Rattle.scenario_reader.specs.Reading.{names_of_all, member_named}
use Rattle.scenario_reader.specs.Rules.{any_two}
use Rattle.scenario_reader.specs.Roster.{named_group, roster_of, AreNumberedFrom, IsRoster, start_in}
use Rattle.scenario_reader.specs.declared.roster.Block.{Block}
use Rattle.scenario_reader.specs.declared.roster.Roster.TheInside.{Inside}

module _ (name : List ℕ) (test : String Global → Bool) (same : (k : String Global) → test k ≡ bytes_eq name (string_bytes k)) where
  place_same : (es : List (String Global × Block)) → position_or_len test (keys_of es) ≡ position_or_len (λ (g : Group). bytes_eq name g.name) (map named_group es)
  place_same [] = refl
  place_same (e ∷ es) = (λ i. cond (not (same e.0 i)) (1 + place_same es i) 0)

  length_same : (es : List (String Global × Block)) → length (keys_of es) ≡ length (map named_group es)
  length_same [] = refl
  length_same (e ∷ es) = ap suc (length_same es)

  -- the place of a key is that of the group of that name
  pub group_place : (es : List (String Global × Block)) → position test (keys_of es) ≡ position (λ (g : Group). bytes_eq name g.name) (map named_group es)
  group_place es =
      ap (λ n. cond (nat_lt n (length (keys_of es))) (Some n) None) (place_same es)
      ∙ ap (λ n. cond (nat_lt (position_or_len (λ (g : Group). bytes_eq name g.name) (map named_group es)) n) (Some (position_or_len (λ (g : Group). bytes_eq name g.name) (map named_group es))) None) (length_same es)

abbrev pub dash : ℕ → Bool
dash b = nat_eq b 45

pub neither : (a b : Bool) → (a || b) ≡ false → (a ≡ false) × (b ≡ false)
neither true b e = absurd (false≢true (sym e))
neither false b e = (refl, e)

pub both : (a b : Bool) → (a && b) ≡ true → (a ≡ true) × (b ≡ true)
both true b e = (refl, e)
both false b e = absurd (false≢true e)

pub turned : (b : Bool) → not b ≡ false → b ≡ true
turned true e = refl
turned false e = absurd (false≢true (sym e))

pub nat_eq-sym : (a b : ℕ) → nat_eq a b ≡ nat_eq b a
nat_eq-sym a b = grind (arith, nat_tests)

and_assoc : (a b c : Bool) → (a && (b && c)) ≡ ((a && b) && c)
and_assoc true b c = refl
and_assoc false b c = refl

and_false : (b : Bool) → (b && false) ≡ false
and_false true = refl
and_false false = refl

or_true : (b : Bool) → (b || true) ≡ true
or_true true = refl
or_true false = refl

-- a dash between two parts
has_dash_between : (pre tail : List ℕ) → list_any dash (pre ++ 45 ∷ tail) ≡ true
has_dash_between pre tail = list_any-append dash pre (45 ∷ tail) ∙ or_true (list_any dash pre)

apart_by : (a b : List ℕ) (r : Bool) → bytes_eq a b ≡ r → list_any dash a ≡ false → list_any dash b ≡ true → r ≡ false
apart_by a b true e none some = absurd (false≢true (sym none ∙ ap (list_any dash) ((bytes_eq-Decides a b).0 e) ∙ some))
apart_by a b false e none some = refl

apart_too : (a b : List ℕ) (r : Bool) → bytes_eq a b ≡ r → list_any dash a ≡ true → list_any dash b ≡ false → r ≡ false
apart_too a b true e some none = absurd (false≢true (sym none ∙ sym (ap (list_any dash) ((bytes_eq-Decides a b).0 e)) ∙ some))
apart_too a b false e some none = refl

-- two names that are split at their last dashes are the same where both parts are
same_parts : (pre tail name index : List ℕ) → list_any dash tail ≡ false → list_any dash index ≡ false
    → bytes_eq (pre ++ 45 ∷ tail) (name ++ 45 ∷ index) ≡ (bytes_eq pre name && bytes_eq tail index)
same_parts [] tail [] index a b = refl
same_parts [] tail (n ∷ name) index a b =
    ap (λ e. nat_eq 45 n && e) (apart_by tail (name ++ 45 ∷ index) (bytes_eq tail (name ++ 45 ∷ index)) refl a (has_dash_between name index)) ∙ and_false (nat_eq 45 n)
same_parts (p ∷ pre) tail [] index a b =
    ap (λ e. nat_eq p 45 && e) (apart_too (pre ++ 45 ∷ tail) index (bytes_eq (pre ++ 45 ∷ tail) index) refl (has_dash_between pre tail) b) ∙ and_false (nat_eq p 45)
same_parts (p ∷ pre) tail (n ∷ name) index a b =
    ap (λ e. nat_eq p n && e) (same_parts pre tail name index a b) ∙ and_assoc (nat_eq p n) (bytes_eq pre name) (bytes_eq tail index)

-- a decimal has no dash
own : IsNumeralModel (λ ds. all_ascii_digits ds ≡ true) (digits_value 10)
own = numerals_by_value (λ ds. all_ascii_digits ds ≡ true) tells_all_ascii_digits

no_dash : (b : ℕ) → is_ascii_digit b ≡ true → dash b ≡ false
no_dash b h = grind (arith, nat_tests)

all_plain : (digits : List ℕ) → all_ascii_digits digits ≡ true → list_any dash digits ≡ false
all_plain [] h = refl
all_plain (b ∷ digits) h = let parts = both (is_ascii_digit b) (all_ascii_digits digits) h in ap (λ e. e || list_any dash digits) (no_dash b parts.0) ∙ all_plain digits parts.1

plain_decimal : (i : ℕ) → i < 2 ^ 64 → list_any dash (decimal i) ≡ false
plain_decimal i small = all_plain (decimal i) (digits_decimal own i small)

-- ---- places in lists

module _ {A : Type 0} (test : A → Bool) where
  left_by : (x : A) (xs ys : List A) (b : Bool) → test x ≡ b → (position_or_len test xs < length xs → position_or_len test (xs ++ ys) ≡ position_or_len test xs)
      → position_or_len test (x ∷ xs) < 1 + length xs → position_or_len test (x ∷ xs ++ ys) ≡ position_or_len test (x ∷ xs)
  left_by x xs ys true e rest h = ap (λ b. cond (not b) (1 + position_or_len test (xs ++ ys)) 0) e ∙ sym (ap (λ b. cond (not b) (1 + position_or_len test xs) 0) e)
  left_by x xs ys false e rest h =
      let here : position_or_len test (x ∷ xs) ≡ 1 + position_or_len test xs = ap (λ b. cond (not b) (1 + position_or_len test xs) 0) e in
      ap (λ b. cond (not b) (1 + position_or_len test (xs ++ ys)) 0) e ∙ ap (λ n. 1 + n) (rest (omega (arith, here, h))) ∙ sym here

  place_left : (xs ys : List A) → position_or_len test xs < length xs → position_or_len test (xs ++ ys) ≡ position_or_len test xs
  place_left [] ys h = absurd (omega arith)
  place_left (x ∷ xs) ys h = left_by x xs ys (test x) refl (place_left xs ys) (omega arith)

  place_right : (xs ys : List A) → list_any test xs ≡ false → position_or_len test (xs ++ ys) ≡ length xs + position_or_len test ys
  place_right [] ys h = omega arith
  place_right (x ∷ xs) ys h =
      let parts = neither (test x) (list_any test xs) h in
      ap (λ b. cond (not b) (1 + position_or_len test (xs ++ ys)) 0) parts.0 ∙ omega (arith, place_right xs ys parts.1)

  place_none : (xs : List A) → list_any test xs ≡ false → position_or_len test xs ≡ length xs
  place_none [] h = refl
  place_none (x ∷ xs) h =
      let parts = neither (test x) (list_any test xs) h in
      ap (λ b. cond (not b) (1 + position_or_len test xs) 0) parts.0 ∙ omega (arith, place_none xs parts.1)

  nowhere : (xs : List A) → list_any test xs ≡ false → position test xs ≡ None
  nowhere xs h =
      let e = place_none xs h in
      let past : nat_lt (position_or_len test xs) (length xs) ≡ false = grind (arith, nat_tests) in
      ap (λ b. cond b (Some (position_or_len test xs)) None) past

  somewhere : (xs : List A) (n : ℕ) → position_or_len test xs ≡ n → n < length xs → position test xs ≡ Some n
  somewhere xs n e h =
      let within : nat_lt (position_or_len test xs) (length xs) ≡ true = grind (arith, nat_tests) in
      ap (λ b. cond b (Some (position_or_len test xs)) None) within ∙ ap Some e

  -- no number of a range gives an item that passes
  none_of_range : (f : ℕ → A) (a n : ℕ) → ((i : ℕ) → a ≤ i → i < a + n → test (f i) ≡ false) → list_any test (map f (range_with_len a n)) ≡ false
  none_of_range f a zero h = refl
  none_of_range f a (suc n) h = ap (λ b. b || list_any test (map f (range_with_len (a + 1) n))) (h a (omega arith) (omega arith)) ∙ none_of_range f (a + 1) n (λ i low high. h i (omega arith) (omega arith))

-- ---- the names of groups

absent_step : {A : Type 0} (b : Bool) (x : A) (rest : Option A) → cond b (Some x) rest ≡ None → (b ≡ false) × (rest ≡ None)
absent_step true x rest e = cc
absent_step false x rest e = (refl, e)

-- the decimals of two numbers differ
different_by : (i k : ℕ) (b : Bool) → i < 2 ^ 64 → k < i → bytes_eq (decimal i) (decimal k) ≡ b → b ≡ false
different_by i k true small early e = let same = decimal_injective i k small (omega arith) ((bytes_eq-Decides (decimal i) (decimal k)).0 e) in absurd (omega arith)
different_by i k false small early e = refl

pub different : (i k : ℕ) → i < 2 ^ 64 → k < i → bytes_eq (decimal i) (decimal k) ≡ false
different i k small early = different_by i k (bytes_eq (decimal i) (decimal k)) small early refl

abbrev pub Entry : Type 0
Entry = String Global × Block

abbrev pub block : Entry → Block
block e = e.1

abbrev pub groups_of : List Entry → List Group
groups_of es = map named_group es

abbrev pub names_of : List Entry → List (List ℕ)
names_of es = names_of_all (groups_of es)

abbrev pub spelt : List ℕ → ℕ → List ℕ
spelt name i = name ++ codes "-" ++ decimal i

length_names : (name : List ℕ) (count : ℕ) → length (names_below name count) ≡ count
length_names name count = length-map-range_with_len (spelt name) 0 count

-- a later group whose members begin after a first group's
pub start_passed : (g : Group) (gs : List Group) (m : ℕ) → start_in (g ∷ gs) (g.count + m) ≡ start_in gs m
start_passed g gs m =
    let past : nat_lt (g.count + m) g.count ≡ false = grind (arith, nat_tests) in
    let left : g.count + m - g.count ≡ m = omega arith in
    let next : 1 + group_at gs m ≡ suc (group_at gs m) = omega arith in
    ap (λ b. option_map_or (λ (h : Group). h.start) (slice_get (g ∷ gs) (cond b 0 (1 + group_at gs (g.count + m - g.count)))) 0) past
    ∙ ap (λ n. option_map_or (λ (h : Group). h.start) (slice_get (g ∷ gs) (1 + group_at gs n)) 0) left
    ∙ ap (λ n. option_map_or (λ (h : Group). h.start) (slice_get (g ∷ gs) n) 0) next

pub start_here : (g : Group) (gs : List Group) (m : ℕ) → m < g.count → start_in (g ∷ gs) m ≡ g.start
start_here g gs m h =
    let within : nat_lt m g.count ≡ true = grind (arith, nat_tests) in
    ap (λ b. option_map_or (λ (h : Group). h.start) (slice_get (g ∷ gs) (cond b 0 (1 + group_at gs (m - g.count)))) 0) within

-- where a name stands among all members' names: at the block's first number and the index, counted from t
pub record IsPlace (name : List ℕ) (t : ℕ) (es : List Entry) (b : Block) (i : ℕ) : Type 0 where
  pub at : t + position_or_len (bytes_eq name) (names_of es) ≡ b.first + i
  pub within : position_or_len (bytes_eq name) (names_of es) < length (names_of es)
  pub start : start_in (groups_of es) (position_or_len (bytes_eq name) (names_of es)) ≡ b.start

module _ (name pre tail : List ℕ) (parts : name ≡ pre ++ 45 ∷ tail) (plain : list_any dash tail ≡ false) where
  -- the name beside one of a group
  beside : (group : List ℕ) (i : ℕ) → i < 2 ^ 64 → bytes_eq name (spelt group i) ≡ (bytes_eq pre group && bytes_eq tail (decimal i))
  beside group i h = ap (λ n. bytes_eq n (spelt group i)) parts ∙ ap (bytes_eq (pre ++ 45 ∷ tail)) (append_assoc group (codes "-") (decimal i)) ∙ same_parts pre tail group (decimal i) plain (plain_decimal i h)

  -- a group of another name has no member of the name
  other_group : (group : List ℕ) (count : ℕ) → count ≤ 2 ^ 64 → bytes_eq pre group ≡ false → list_any (bytes_eq name) (names_below group count) ≡ false
  other_group group count h differs = none_of_range (bytes_eq name) (spelt group) 0 count (λ i low high. beside group i (omega (arith, high, h)) ∙ ap (λ b. b && bytes_eq tail (decimal i)) differs)

  -- nor one with too few
  too_few : (group : List ℕ) (count : ℕ) → count ≤ 2 ^ 64 → ((i : ℕ) → i < count → bytes_eq tail (decimal i) ≡ false) → list_any (bytes_eq name) (names_below group count) ≡ false
  too_few group count h none =
      none_of_range (bytes_eq name) (spelt group) 0 count (λ i low high. beside group i (omega (arith, high, h)) ∙ ap (λ b. bytes_eq pre group && b) (none i (omega arith)) ∙ and_false (bytes_eq pre group))

  -- the member of that index
  this_group : (group : List ℕ) (count i : ℕ) → bytes_eq pre group ≡ true → tail ≡ decimal i → i < count → count ≤ 2 ^ 64 → position_or_len (bytes_eq name) (names_below group count) ≡ i
  this_group group count i same index below small =
      let names = names_below group count in
      let len = length_names group count in
      position_or_len_is (bytes_eq name) names i [] (omega (arith, len))
      (λ k early. ap (bytes_eq name) (get_or-map-range_with_len (spelt group) 0 count k k [] (omega arith) (omega arith)) ∙ beside group k (omega (arith, early, below, small)) ∙ ap (λ b. b && bytes_eq tail (decimal k)) same
      ∙ ap (λ t. bytes_eq t (decimal k)) index ∙ different i k (omega arith) early)
      (λ _. ap (bytes_eq name) (get_or-map-range_with_len (spelt group) 0 count i i [] below (omega arith)) ∙ beside group i (omega (arith, below, small)) ∙ ap (λ b. b && bytes_eq tail (decimal i)) same
      ∙ (bytes_eq-Decides tail (decimal i)).1 index)

  module _ (test : String Global → Bool) (same : (k : String Global) → test k ≡ bytes_eq pre (string_bytes k)) where
    place_at : (e : Entry) (es : List Entry) (t : ℕ) (b : Block) (i : ℕ) (r : Bool) → test e.0 ≡ r
        → AreNumberedFrom t (map block (e ∷ es)) → lookup test (e ∷ es) ≡ Some b → tail ≡ decimal i → i < b.count → b.count ≤ 2 ^ 64
        → (lookup test es ≡ Some b → IsPlace name (t + e.1.count) es b i) → IsPlace name t (e ∷ es) b i
    place_at e es t b i true here numbered found index below small rest =
        let group = string_bytes e.0 in
        let is : Some e.1 ≡ Some b = sym (ap (λ c. cond c (Some e.1) (lookup test es)) here) ∙ found in
        let block_is : e.1 ≡ b = same_Some e.1 b is in
        let count_is : e.1.count ≡ b.count = ap (λ (c : Block). c.count) block_is in
        let first_is : e.1.first ≡ b.first = ap (λ (c : Block). c.first) block_is in
        let simple : e.1.count ≤ 2 ^ 64 = omega (arith, numbered.1) in
        let place = this_group group e.1.count i (sym (same e.0) ∙ here) index (omega (arith, count_is)) (omega (arith, count_is)) in
        let len = length_names group e.1.count in
        let all : position_or_len (bytes_eq name) (names_of (e ∷ es)) ≡ i = place_left (bytes_eq name) (names_below group e.1.count) (names_of es) (omega (arith, place, len, count_is)) ∙ place in
        let more = length-append (names_below group e.1.count) (names_of es) in
        record {
          at = omega (arith, all, numbered.0, first_is);
          within = omega (arith, all, more, len, count_is);
          start = ap (start_in (groups_of (e ∷ es))) all ∙ start_here (named_group e) (groups_of es) i (omega (arith, count_is)) ∙ ap (λ (c : Block). c.start) block_is;
        }
    place_at e es t b i false here numbered found index below small rest =
        let group = string_bytes e.0 in
        let later : lookup test es ≡ Some b = sym (ap (λ c. cond c (Some e.1) (lookup test es)) here) ∙ found in
        let p = rest later in
        let simple : e.1.count ≤ 2 ^ 64 = omega (arith, numbered.1) in
        let passed = place_right (bytes_eq name) (names_below group e.1.count) (names_of es) (other_group group e.1.count simple (sym (same e.0) ∙ here)) in
        let len = length_names group e.1.count in
        let all : position_or_len (bytes_eq name) (names_of (e ∷ es)) ≡ e.1.count + position_or_len (bytes_eq name) (names_of es) = passed ∙ ap (λ n. n + position_or_len (bytes_eq name) (names_of es)) len in
        let more = length-append (names_below group e.1.count) (names_of es) in
        record {
          at = omega (arith, all, p.at);
          within = omega (arith, all, more, len, p.within);
          start = ap (start_in (groups_of (e ∷ es))) all ∙ start_passed (named_group e) (groups_of es) (position_or_len (bytes_eq name) (names_of es)) ∙ p.start;
        }

    -- the member is there, at the number that its group and its index give
    pub place_found : (es : List Entry) (t : ℕ) (b : Block) (i : ℕ) → AreNumberedFrom t (map block es) → lookup test es ≡ Some b → tail ≡ decimal i → i < b.count → b.count ≤ 2 ^ 64 → IsPlace name t es b i
    place_found [] t b i numbered found index below small = cc
    place_found (e ∷ es) t b i numbered found index below small =
        place_at e es t b i (test e.0) refl numbered found index below small
        (λ later. place_found es (t + e.1.count) b i numbered.2 later index below small)

    small_at : (e : Entry) (es : List Entry) (t : ℕ) (b : Block) (r : Bool) → test e.0 ≡ r → AreNumberedFrom t (map block (e ∷ es)) → lookup test (e ∷ es) ≡ Some b → (lookup test es ≡ Some b → b.count < 2 ^ 64) → b.count < 2 ^ 64
    small_at e es t b true here numbered found rest =
        let is : Some e.1 ≡ Some b = sym (ap (λ c. cond c (Some e.1) (lookup test es)) here) ∙ found in
        subst (λ (c : Block). c.count < 2 ^ 64) (same_Some e.1 b is) numbered.1
    small_at e es t b false here numbered found rest = rest (sym (ap (λ c. cond c (Some e.1) (lookup test es)) here) ∙ found)

    pub small_count : (es : List Entry) (t : ℕ) (b : Block) → AreNumberedFrom t (map block es) → lookup test es ≡ Some b → b.count < 2 ^ 64
    small_count [] t b numbered found = cc
    small_count (e ∷ es) t b numbered found = small_at e es t b (test e.0) refl numbered found (λ later. small_count es (t + e.1.count) b numbered.2 later)

    -- no group of the name, no member
    pub none_named : (es : List Entry) (t : ℕ) → AreNumberedFrom t (map block es) → list_any (bytes_eq pre) (map (λ (g : Group). g.name) (groups_of es)) ≡ false → list_any (bytes_eq name) (names_of es) ≡ false
    none_named [] t numbered none = refl
    none_named (e ∷ es) t numbered none =
        let group = string_bytes e.0 in
        let differ = neither (bytes_eq pre group) (list_any (bytes_eq pre) (map (λ (g : Group). g.name) (groups_of es))) none in
        list_any-append (bytes_eq name) (names_below group e.1.count) (names_of es)
        ∙ ap (λ b. b || list_any (bytes_eq name) (names_of es)) (other_group group e.1.count (omega (arith, numbered.1)) differ.0) ∙ none_named es (t + e.1.count) numbered.2 differ.1

    pub absent_names : (es : List Entry) → lookup test es ≡ None → list_any (bytes_eq pre) (map (λ (g : Group). g.name) (groups_of es)) ≡ false
    absent_names [] none = refl
    absent_names (e ∷ es) none =
        let parted = absent_step (test e.0) e.1 (lookup test es) none in
        ap (λ b. b || list_any (bytes_eq pre) (map (λ (g : Group). g.name) (groups_of es))) (sym (same e.0) ∙ parted.0) ∙ absent_names es parted.1

    none_at : (e : Entry) (es : List Entry) (t : ℕ) (b : Block) (r : Bool) → AreNumberedFrom t (map block (e ∷ es)) → test e.0 ≡ r → any_two bytes_eq (map (λ (g : Group). g.name) (groups_of (e ∷ es))) ≡ false
        → lookup test (e ∷ es) ≡ Some b → ((i : ℕ) → i < b.count → bytes_eq tail (decimal i) ≡ false) → (lookup test es ≡ Some b → list_any (bytes_eq name) (names_of es) ≡ false)
        → list_any (bytes_eq name) (names_of (e ∷ es)) ≡ false
    none_at e es t b true numbered here differ found none rest =
        let group = string_bytes e.0 in
        let is : Some e.1 ≡ Some b = sym (ap (λ c. cond c (Some e.1) (lookup test es)) here) ∙ found in
        let count_is : e.1.count ≡ b.count = ap (λ (c : Block). c.count) (same_Some e.1 b is) in
        let named : pre ≡ group = (bytes_eq-Decides pre group).0 (sym (same e.0) ∙ here) in
        let once = neither (list_any (bytes_eq group) (map (λ (g : Group). g.name) (groups_of es))) (any_two bytes_eq (map (λ (g : Group). g.name) (groups_of es))) differ in
        list_any-append (bytes_eq name) (names_below group e.1.count) (names_of es)
        ∙ ap (λ c. c || list_any (bytes_eq name) (names_of es)) (too_few group e.1.count (omega (arith, numbered.1)) (λ i h. none i (omega (arith, count_is))))
        ∙ none_named es (t + e.1.count) numbered.2 (ap (λ n. list_any (bytes_eq n) (map (λ (g : Group). g.name) (groups_of es))) named ∙ once.0)
    none_at e es t b false numbered here differ found none rest =
        let group = string_bytes e.0 in
        let later : lookup test es ≡ Some b = sym (ap (λ c. cond c (Some e.1) (lookup test es)) here) ∙ found in
        list_any-append (bytes_eq name) (names_below group e.1.count) (names_of es)
        ∙ ap (λ c. c || list_any (bytes_eq name) (names_of es)) (other_group group e.1.count (omega (arith, numbered.1)) (sym (same e.0) ∙ here)) ∙ rest later

    -- a group has no such member where it has too few, or where the name gives no index
    pub none_found : (es : List Entry) (t : ℕ) (b : Block) → AreNumberedFrom t (map block es) → any_two bytes_eq (map (λ (g : Group). g.name) (groups_of es)) ≡ false
        → lookup test es ≡ Some b → ((i : ℕ) → i < b.count → bytes_eq tail (decimal i) ≡ false) → list_any (bytes_eq name) (names_of es) ≡ false
    none_found [] t b numbered differ found none = refl
    none_found (e ∷ es) t b numbered differ found none =
        none_at e es t b (test e.0) numbered refl differ found none
        (λ later. none_found es (t + e.1.count) b numbered.2 (neither _ (any_two bytes_eq (map (λ (g : Group). g.name) (groups_of es))) differ).1 later none)

-- ---- what a name's parts say

-- takes the clause of `rsplit_once` at an ASCII character: the parts around its last place
pub split_last : (c : ℕ) (bs : List ℕ) (r : Option (Bor (List ℕ) × Bor (List ℕ)))
    → MatchOption r (RFindsChar c bs None) (λ x. (i : ℕ) × (j : ℕ) × RFindsChar c bs (Some (i, j)) × (x.0.now ≡ take i bs) × (x.1.now ≡ drop j bs) × (i ≤ j) × (length x.0.now ≡ i) × (length x.1.now + j ≡ length bs)) → c < 128
    → MatchOption r ((i : ℕ) → i < length bs → get_or bs i 0 ≢ c) (λ x. (bs ≡ x.0.now ++ (c ∷ x.1.now)) × ((i : ℕ) → i < length x.1.now → get_or x.1.now i 0 ≢ c))
split_last c bs None h low = λ i. NoCharPasses-char c bs i h low
split_last c bs (Some x) h low = (
  sym (take-append-drop h.0 bs) ∙ (λ k. sym h.3 k ++ (drop_at_char c bs h.0 h.1 h.2.1 low ∙ ap (λ l. c ∷ l) (sym h.4)) k),
  λ i. NoCharPasses-char c x.1.now i (subst (NoCharPasses (λ d. nat_eq d c)) (sym h.4) h.2.0) low,
)

unequal_by : (a b : List ℕ) (r : Bool) → bytes_eq a b ≡ r → ¬ (a ≡ b) → r ≡ false
unequal_by a b true e differ = absurd (differ ((bytes_eq-Decides a b).0 e))
unequal_by a b false e differ = refl

pub unequal : (a b : List ℕ) → ¬ (a ≡ b) → bytes_eq a b ≡ false
unequal a b differ = unequal_by a b (bytes_eq a b) refl differ

not_dash : (b : ℕ) → b ≢ 45 → dash b ≡ false
not_dash b h = grind (arith, nat_tests)

pub dash_free : (bs : List ℕ) → ((i : ℕ) → i < length bs → get_or bs i 0 ≢ 45) → list_any dash bs ≡ false
dash_free bs h = list_any_none dash bs (All-from_get_or (λ b. dash b ≡ false) bs 0 (λ i within. not_dash (get_or bs i 0) (h i within)))

-- where a roster has the member of a name whose parts are these
pub in_roster : (r : Inside) → IsRoster r → (name pre tail : List ℕ) → name ≡ pre ++ 45 ∷ tail → ((i : ℕ) → i < length tail → get_or tail i 0 ≢ 45)
    → (test : String Global → Bool) → ((k : String Global) → test k ≡ bytes_eq pre (string_bytes k)) → (b : Block) (i : ℕ) → lookup test r.groups.entries ≡ Some b → tail ≡ decimal i → i < b.count
    → IsPlace name 0 r.groups.entries b i
in_roster r is name pre tail parts dashless test same b i found index below =
    let plain = dash_free tail dashless in
    let small = small_count name pre tail parts plain test same r.groups.entries 0 b is.numbered found in
    place_found name pre tail parts plain test same r.groups.entries 0 b i is.numbered found index below (omega (arith, small))

has_dash : (group : List ℕ) (i : ℕ) → list_any dash (spelt group i) ≡ true
has_dash group i =
    list_any-append dash (group ++ codes "-") (decimal i) ∙ ap (λ b. b || list_any dash (decimal i)) (list_any-append dash group (codes "-") ∙ or_true (list_any dash group))

dashless_by : (name group : List ℕ) (i : ℕ) (r : Bool) → bytes_eq name (spelt group i) ≡ r → list_any dash name ≡ false → r ≡ false
dashless_by name group i true e h = absurd (false≢true (sym h ∙ ap (list_any dash) ((bytes_eq-Decides name (spelt group i)).0 e) ∙ has_dash group i))
dashless_by name group i false e h = refl

-- a name without a dash is no member's
pub none_dashless : (name : List ℕ) → list_any dash name ≡ false → (gs : List Group) → list_any (bytes_eq name) (names_of_all gs) ≡ false
none_dashless name h [] = refl
none_dashless name h (g ∷ gs) =
    list_any-append (bytes_eq name) (names_below g.name g.count) (names_of_all gs)
    ∙ ap (λ b. b || list_any (bytes_eq name) (names_of_all gs)) (none_of_range (bytes_eq name) (spelt g.name) 0 g.count (λ i low high. dashless_by name g.name i (bytes_eq name (spelt g.name i)) refl h))
    ∙ none_dashless name h gs

pub no_member : (gs : List Group) (name : List ℕ) → list_any (bytes_eq name) (names_of_all gs) ≡ false → None ≡ member_named gs name
unfolding member_named
no_member gs name none = sym (nowhere (bytes_eq name) (names_of_all gs) none)

pub a_member : (gs : List Group) (name : List ℕ) (n : ℕ) → position_or_len (bytes_eq name) (names_of_all gs) ≡ n → n < length (names_of_all gs) → Some n ≡ member_named gs name
unfolding member_named
a_member gs name n at within = sym (somewhere (bytes_eq name) (names_of_all gs) n at within)

pub length-names_of_all : (gs : List Group) → length (names_of_all gs) ≡ sum_by (λ (g : Group). g.count) gs
length-names_of_all gs = length-flat_map names_in gs ∙ (λ i. sum_by (λ (g : Group). length_names g.name g.count i) gs)

-- the members of blocks and of their groups
pub total_blocks : (es : List Entry) → sum_by (λ (g : Group). g.count) (groups_of es) ≡ sum_by (λ (b : Block). b.count) (map block es)
total_blocks es = fold-map (λ (n : ℕ) (g : Group). n + g.count) named_group 0 es ∙ sym (fold-map (λ (n : ℕ) (b : Block). n + b.count) block 0 es)
