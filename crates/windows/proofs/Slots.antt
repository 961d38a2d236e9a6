-- The members of a part at their places as the map of their states.
use Rattle.std.proofs.Common.{◌≡◌, ℕ, zero, suc, ◌+◌, ◌<◌, ◌≤◌, Bool, true, false, cond, eqb, nat_lt, List, [], ◌∷◌, ◌++◌, map, length, Option, Some, None, IfSome, IfNone, slice_get, slice_set, length-set, ap, ◌∙◌, sym, subst, refl, arith}
use Rattle.std.specs.Option.{is_some, option_map}
use Rattle.std.specs.List.{slice_index_or}
use Rattle.std.specs.Ordering.{nat_cmp, eq_by_cmp}
use Rattle.std.specs.Cmp.{nat_cmp_total, unsigned_tied}
use Rattle.std.specs.FinMap.{FinMap, nat_cmp-IsAntisymmetric, from_entries, get, contains_key, insert, empty, find, get-from_entries, get-insert, get-empty, same_map}
use Rattle.std.proofs.lemmas.Bool.{false≢true, eqb-true, eqb-false, eq-eqb, ltb-true, ltb-false}
use Rattle.std.proofs.lemmas.List.{get_or-set_same, get_or-set_other, get_or_past, length_push}
use Rattle.std.proofs.lemmas.Option.{same_Some, slice_get_past}
use Rattle.member.specs.declared.member.Member.{Member}
use Rattle.member.specs.State.{State}
use Rattle.member.specs.StateOf.{state_of}
use Rattle.base.specs.Order.{key_cmp}
use Rattle.member.specs.declared.event.Event.{Event}
use Rattle.member.specs.CounterOverflow.{IsOverflowed}
use Rattle.member.proofs.CounterOverflow.{not_overflow}
use Rattle.windows.specs.declared.part.Part.{Part}
use Rattle.windows.specs.ByNumber.{states_from, place_at, standing, by_number, states_of, IsPlaceOf}
use Rattle.windows.specs.WorldOf.{world_of}

-- who stands at a place
abbrev pub slot_at : List (Option Member) → ℕ → Option Member
slot_at slots i = slice_index_or slots i None

-- the map of their states
abbrev pub by_place : List (Option Member) → FinMap nat_cmp State
by_place slots = from_entries (states_from 0 slots)

differs : (a b : ℕ) → ¬ (a ≡ b) → (t : Bool) → eqb a b ≡ t → t ≡ false
differs a b other true e = absurd (other (eqb-true a b e))
differs a b other false e = refl

untied : (a b : ℕ) → ¬ (a ≡ b) → eq_by_cmp nat_cmp a b ≡ false
untied a b other = unsigned_tied a b ∙ differs a b other (eqb a b) refl

tied : (a b : ℕ) → a ≡ b → eq_by_cmp nat_cmp a b ≡ true
tied a b same = unsigned_tied a b ∙ eq-eqb a b same

none_before : (slots : List (Option Member)) (a q : ℕ) → q < a → find nat_cmp q (states_from a slots) ≡ None
none_before [] a q below = refl
none_before (None ∷ slots) a q below = none_before slots (a + 1) q (omega arith)
none_before (Some x ∷ slots) a q below =
    ap (λ b. cond b (Some (state_of x)) (find nat_cmp q (states_from (a + 1) slots))) (untied q a (λ same. omega arith)) ∙ none_before slots (a + 1) q (omega arith)

find_state : (slots : List (Option Member)) (a i : ℕ) → find nat_cmp (a + i) (states_from a slots) ≡ option_map state_of (slot_at slots i)
find_state [] a zero = refl
find_state [] a (suc i) = refl
find_state (None ∷ slots) a zero = none_before slots (a + 1) (a + 0) (omega arith)
find_state (None ∷ slots) a (suc i) = ap (λ n. find nat_cmp n (states_from (a + 1) slots)) (let e : a + suc i ≡ (a + 1) + i = omega arith in e) ∙ find_state slots (a + 1) i
find_state (Some x ∷ slots) a zero = ap (λ b. cond b (Some (state_of x)) (find nat_cmp (a + 0) (states_from (a + 1) slots))) (tied (a + 0) a (omega arith))
find_state (Some x ∷ slots) a (suc i) =
    ap (λ b. cond b (Some (state_of x)) (find nat_cmp (a + suc i) (states_from (a + 1) slots))) (untied (a + suc i) a (λ same. omega arith))
    ∙ ap (λ n. find nat_cmp n (states_from (a + 1) slots)) (let e : a + suc i ≡ (a + 1) + i = omega arith in e) ∙ find_state slots (a + 1) i

-- the state of a number
pub state_at : (slots : List (Option Member)) (q : ℕ) → get (by_place slots) q ≡ option_map state_of (slot_at slots q)
state_at slots q =
    get-from_entries nat_cmp_total (states_from 0 slots) q ∙ ap (λ n. find nat_cmp n (states_from 0 slots)) (let e : q ≡ 0 + q = omega arith in e) ∙ find_state slots 0 q

still_there : (o : Option Member) → is_some (option_map state_of o) ≡ is_some o
still_there None = refl
still_there (Some x) = refl

pub nobody : by_place [] ≡ empty
nobody = same_map nat_cmp_total nat_cmp-IsAntisymmetric _ _ (λ q. state_at [] q ∙ none_of q ∙ sym (get-empty nat_cmp q))
  where
    none_of : (q : ℕ) → option_map state_of (slot_at [] q) ≡ None
    none_of zero = refl
    none_of (suc q) = refl

written : (slots : List (Option Member)) (i q : ℕ) (x : Member) → i < length slots → (b : Bool) → eqb q i ≡ b
    → option_map state_of (slot_at (slice_set slots i (Some x)) q) ≡ cond b (Some (state_of x)) (option_map state_of (slot_at slots q))
written slots i q x within true e =
    ap (λ n. option_map state_of (slot_at (slice_set slots i (Some x)) n)) (eqb-true q i e) ∙ ap (option_map state_of) (get_or-set_same slots i (Some x) None within)
written slots i q x within false e = ap (option_map state_of) (get_or-set_other slots i q (Some x) None (eqb-false q i e))

-- to write a member at a place is to insert its state there
pub put_at : (slots : List (Option Member)) (i : ℕ) (x : Member) → i < length slots → by_place (slice_set slots i (Some x)) ≡ insert (by_place slots) i (state_of x)
put_at slots i x within =
    same_map nat_cmp_total nat_cmp-IsAntisymmetric _ _ (λ q.
    state_at (slice_set slots i (Some x)) q ∙ written slots i q x within (eqb q i) refl
    ∙ ap (λ b. cond b (Some (state_of x)) (option_map state_of (slot_at slots q))) (sym (unsigned_tied q i))
    ∙ ap (cond (eq_by_cmp nat_cmp q i) (Some (state_of x))) (sym (state_at slots q)) ∙ sym (get-insert nat_cmp_total (by_place slots) i (state_of x) q))

-- a place with nobody changes nothing
pub one_more_place : (slots : List (Option Member)) (a : ℕ) → states_from a (slots ++ None ∷ []) ≡ states_from a slots
one_more_place [] a = refl
one_more_place (None ∷ slots) a = one_more_place slots (a + 1)
one_more_place (Some x ∷ slots) a = ap (λ l. (a, state_of x) ∷ l) (one_more_place slots (a + 1))

one_at_end : (slots : List (Option Member)) (i : ℕ) (x : Member) → i ≡ length slots → slice_set (slots ++ None ∷ []) i (Some x) ≡ slots ++ Some x ∷ []
one_at_end [] zero x is = refl
one_at_end [] (suc i) x is = absurd (omega arith)
one_at_end (o ∷ slots) zero x is = absurd (omega arith)
one_at_end (o ∷ slots) (suc i) x is = ap (λ l. o ∷ l) (one_at_end slots i x (omega arith))

-- to put a member behind all places is to insert its state there
pub put_last : (slots : List (Option Member)) (i : ℕ) (x : Member) → i ≡ length slots → by_place (slots ++ Some x ∷ []) ≡ insert (by_place slots) i (state_of x)
put_last slots i x is =
    let longer = length_push slots None in
    ap by_place (sym (one_at_end slots i x is)) ∙ put_at (slots ++ None ∷ []) i x (omega arith) ∙ ap (λ m. insert m i (state_of x)) (ap from_entries (one_more_place slots 0))

-- ---- members side by side, and where they stand

none_at : (q : ℕ) → place_at [] q ≡ None
none_at zero = refl
none_at (suc q) = refl

in_a_row : (members : List Member) (q : ℕ) → slot_at (map (λ member. Some member) members) q ≡ slice_get members q
in_a_row [] zero = refl
in_a_row [] (suc q) = refl
in_a_row (x ∷ members) zero = refl
in_a_row (x ∷ members) (suc q) = in_a_row members q

by_table : (members : List Member) (places : List (Option ℕ)) (q : ℕ) → slot_at (map (standing members) places) q ≡ standing members (place_at places q)
by_table members [] zero = refl
by_table members [] (suc q) = refl
by_table members (o ∷ places) zero = refl
by_table members (o ∷ places) (suc q) = by_table members places q

-- the state of a number, without a table and with one
pub state_in_a_row : (members : List Member) (q : ℕ) → get (states_of [] members) q ≡ option_map state_of (slice_get members q)
state_in_a_row members q = state_at (by_number [] members) q ∙ ap (option_map state_of) (in_a_row members q)

pub state_by_table : (places : List (Option ℕ)) (members : List Member) (q : ℕ) → 0 < length places → get (states_of places members) q ≡ option_map state_of (standing members (place_at places q))
state_by_table [] members q some = absurd (omega arith)
state_by_table (o ∷ places) members q some = state_at (by_number (o ∷ places) members) q ∙ ap (option_map state_of) (by_table members (o ∷ places) q)

get_past : (members : List Member) (q : ℕ) → length members ≤ q → slice_get members q ≡ None
get_past members q over = slice_get_past members q over

get_set_same : (members : List Member) (p : ℕ) (x : Member) → p < length members → slice_get (slice_set members p x) p ≡ Some x
get_set_same [] p x within = absurd (omega arith)
get_set_same (m ∷ members) zero x within = refl
get_set_same (m ∷ members) (suc p) x within = get_set_same members p x (omega arith)

get_set_other : (members : List Member) (p r : ℕ) (x : Member) → ¬ (r ≡ p) → slice_get (slice_set members p x) r ≡ slice_get members r
get_set_other [] p r x other = refl
get_set_other (m ∷ members) zero zero x other = absurd (other refl)
get_set_other (m ∷ members) zero (suc r) x other = refl
get_set_other (m ∷ members) (suc p) zero x other = refl
get_set_other (m ∷ members) (suc p) (suc r) x other = get_set_other members p r x (λ same. other (ap suc same))

get_front : (members : List Member) (x : Member) (p : ℕ) → p < length members → slice_get (members ++ x ∷ []) p ≡ slice_get members p
get_front [] x p within = absurd (omega arith)
get_front (m ∷ members) x zero within = refl
get_front (m ∷ members) x (suc p) within = get_front members x p (omega arith)

get_last : (members : List Member) (x : Member) → slice_get (members ++ x ∷ []) (length members) ≡ Some x
get_last [] x = refl
get_last (m ∷ members) x = get_last members x

row_set : (members : List Member) (i : ℕ) (x : Member) → map (λ member. Some member) (slice_set members i x) ≡ slice_set (map (λ member. Some member) members) i (Some x)
row_set [] i x = refl
row_set (m ∷ members) zero x = refl
row_set (m ∷ members) (suc i) x = ap (λ l. Some m ∷ l) (row_set members i x)

row_length : (members : List Member) → length (map (λ (member : Member). Some member) members) ≡ length members
row_length [] = refl
row_length (m ∷ members) = ap suc (row_length members)

row_push : (members : List Member) (x : Member) → map (λ member. Some member) (members ++ x ∷ []) ≡ map (λ member. Some member) members ++ Some x ∷ []
row_push [] x = refl
row_push (m ∷ members) x = ap (λ l. Some m ∷ l) (row_push members x)

-- who is known by the state of another number is another
module _ (old new : FinMap nat_cmp State) (q : ℕ) (t : State) where
  pub one_more_state : get new q ≡ Some t → ((r : ℕ) → ¬ (r ≡ q) → get new r ≡ get old r) → new ≡ insert old q t
  one_more_state here others =
      same_map nat_cmp_total nat_cmp-IsAntisymmetric _ _ (λ r. at r (eqb r q) refl ∙ ap (λ b. cond b (Some t) (get old r)) (sym (unsigned_tied r q)) ∙ sym (get-insert nat_cmp_total old q t r))
    where
      at : (r : ℕ) (b : Bool) → eqb r q ≡ b → get new r ≡ cond (eqb r q) (Some t) (get old r)
      at r true e = ap (get new) (eqb-true r q e) ∙ here ∙ ap (λ b. cond b (Some t) (get old r)) (sym e)
      at r false e = others r (eqb-false r q e) ∙ ap (λ b. cond b (Some t) (get old r)) (sym e)

some_within : (members : List Member) (p : ℕ) → p < length members → is_some (option_map state_of (slice_get members p)) ≡ true
some_within [] p within = absurd (omega arith)
some_within (m ∷ members) zero within = refl
some_within (m ∷ members) (suc p) within = some_within members p (omega arith)

-- whoever stands at a place is there
pub is_there : (places : List (Option ℕ)) (members : List Member) (q p : ℕ) → p < length members → get (states_of places members) q ≡ option_map state_of (slice_get members p) → true ≡ contains_key (states_of places members) q
is_there places members q p within there = sym (ap is_some there ∙ some_within members p within)

-- ---- a member is written where it stands

pub put_in_a_row : (members : List Member) (i : ℕ) (x : Member) → i < length members → states_of [] (slice_set members i x) ≡ insert (states_of [] members) i (state_of x)
put_in_a_row members i x within =
    let long = row_length members in
    ap by_place (row_set members i x) ∙ put_at (map (λ member. Some member) members) i x (omega arith)

pub push_in_a_row : (members : List Member) (i : ℕ) (x : Member) → i ≡ length members → states_of [] (members ++ x ∷ []) ≡ insert (states_of [] members) i (state_of x)
push_in_a_row members i x next =
    let long = row_length members in
    ap by_place (row_push members x) ∙ put_last (map (λ member. Some member) members) i x (omega arith)

module _ (places : List (Option ℕ)) (members : List Member) where
  -- each place has a member, and each member one number
  abbrev pub AreWithin : Type 0
  AreWithin = (q p : ℕ) → place_at places q ≡ Some p → p < length members

  abbrev pub AreApart : Type 0
  AreApart = (a b p : ℕ) → place_at places a ≡ Some p → place_at places b ≡ Some p → a ≡ b

  pub put_by_table : (q p : ℕ) (x : Member) → 0 < length places → place_at places q ≡ Some p → AreWithin → AreApart
      → states_of places (slice_set members p x) ≡ insert (states_of places members) q (state_of x)
  put_by_table q p x some stands within apart =
      one_more_state (states_of places members) (states_of places (slice_set members p x)) q (state_of x)
      (state_by_table places (slice_set members p x) q some ∙ ap (λ o. option_map state_of (standing (slice_set members p x) o)) stands ∙ ap (option_map state_of) (get_set_same members p x (within q p stands)))
      (λ r other.
      state_by_table places (slice_set members p x) r some ∙ ap (option_map state_of) (elsewhere r other (place_at places r) refl) ∙ sym (state_by_table places members r some))
    where
      elsewhere : (r : ℕ) → ¬ (r ≡ q) → (o : Option ℕ) → place_at places r ≡ o → standing (slice_set members p x) (place_at places r) ≡ standing members (place_at places r)
      elsewhere r other None is = ap (standing (slice_set members p x)) is ∙ ap (standing members) (sym is)
      elsewhere r other (Some p') is =
          ap (standing (slice_set members p x)) is
          ∙ get_set_other members p p' x (λ same. other (apart r q p (is ∙ ap (λ n. Some n) same) stands))
          ∙ ap (standing members) (sym is)

  -- one that comes behind all others stands at the last place
  pub push_by_table : (q n : ℕ) (x : Member) → q < length places → n ≡ length members → place_at places q ≡ None → AreWithin
      → states_of (slice_set places q (Some n)) (members ++ x ∷ []) ≡ insert (states_of places members) q (state_of x)
  push_by_table q n x reached last free within =
      let longer : length (slice_set places q (Some n)) ≡ length places = length-set places q (Some n) in
      let some : 0 < length places = omega (arith, reached) in
      let some_after : 0 < length (slice_set places q (Some n)) = omega (arith, longer, reached) in
      one_more_state (states_of places members) (states_of (slice_set places q (Some n)) (members ++ x ∷ [])) q (state_of x)
      (state_by_table (slice_set places q (Some n)) (members ++ x ∷ []) q some_after
      ∙ ap (λ o. option_map state_of (standing (members ++ x ∷ []) o)) (get_or-set_same places q (Some n) None reached)
      ∙ ap (λ k. option_map state_of (slice_get (members ++ x ∷ []) k)) last
      ∙ ap (option_map state_of) (get_last members x))
      (λ r other.
      state_by_table (slice_set places q (Some n)) (members ++ x ∷ []) r some_after
      ∙ ap (λ o. option_map state_of (standing (members ++ x ∷ []) o)) (get_or-set_other places q r (Some n) None other)
      ∙ ap (option_map state_of) (before r (place_at places r) refl)
      ∙ sym (state_by_table places members r some))
    where
      before : (r : ℕ) (o : Option ℕ) → place_at places r ≡ o → standing (members ++ x ∷ []) (place_at places r) ≡ standing members (place_at places r)
      before r None is = ap (standing (members ++ x ∷ [])) is ∙ ap (standing members) (sym is)
      before r (Some p') is = ap (standing (members ++ x ∷ [])) is ∙ get_front members x p' (within r p' is) ∙ ap (standing members) (sym is)

-- who comes behind all others keeps places within and numbers apart
module _ (places : List (Option ℕ)) (number n : ℕ) where
  kept_place : (q p : ℕ) → eqb q number ≡ false → place_at (slice_set places number (Some n)) q ≡ Some p → place_at places q ≡ Some p
  kept_place q p other stands = sym (get_or-set_other places number q (Some n) None (eqb-false q number other)) ∙ stands

  new_place : (q p : ℕ) → number < length places → eqb q number ≡ true → place_at (slice_set places number (Some n)) q ≡ Some p → p ≡ n
  new_place q p reached same stands =
      same_Some p n (sym stands ∙ ap (place_at (slice_set places number (Some n))) (eqb-true q number same) ∙ get_or-set_same places number (Some n) None reached)

pub pushed_within : (places : List (Option ℕ)) (members : List Member) (number n : ℕ) (x : Member) → number < length places → n ≡ length members → AreWithin places members
    → AreWithin (slice_set places number (Some n)) (members ++ x ∷ [])
pushed_within places members number n x reached last within q p stands = by_test (eqb q number) refl
  where
    by_test : (b : Bool) → eqb q number ≡ b → p < length (members ++ x ∷ [])
    by_test true e =
        let same = new_place places number n q p reached e stands in
        let longer = length_push members x in
        omega (arith, same, last, longer)
    by_test false e =
        let low = within q p (kept_place places number n q p e stands) in
        let longer = length_push members x in
        omega (arith, low, longer)

pub pushed_apart : (places : List (Option ℕ)) (members : List Member) (number n : ℕ) → number < length places → n ≡ length members → AreWithin places members → AreApart places members
    → (a b p : ℕ) → place_at (slice_set places number (Some n)) a ≡ Some p → place_at (slice_set places number (Some n)) b ≡ Some p → a ≡ b
pushed_apart places members number n reached last within apart a b p first second = by_tests (eqb a number) (eqb b number) refl refl
  where
    by_tests : (t u : Bool) → eqb a number ≡ t → eqb b number ≡ u → a ≡ b
    by_tests true true e f = eqb-true a number e ∙ sym (eqb-true b number f)
    by_tests true false e f =
        let same = new_place places number n a p reached e first in
        let low = within b p (kept_place places number n b p f second) in
        absurd (omega (arith, same, last, low))
    by_tests false true e f =
        let same = new_place places number n b p reached f second in
        let low = within a p (kept_place places number n a p e first) in
        absurd (omega (arith, same, last, low))
    by_tests false false e f = apart a b p (kept_place places number n a p e first) (kept_place places number n b p f second)

-- where a member stands, without a table and with one
pub place_in_a_row : (members : List Member) (q count : ℕ) (place : Option ℕ) → IfSome place (λ p. p ≡ q × q < count) → IfNone place (count ≤ q) → count ≡ length members → IsPlaceOf [] members q place
place_in_a_row members q count None some none all = state_in_a_row members q ∙ ap (option_map state_of) (get_past members q (omega (arith, none, all)))
place_in_a_row members q count (Some p) some none all =
    let within : p < length members = omega (arith, some.0, some.1, all) in
    record {
      within = within;
      there = ap (get (states_of [] members)) (sym some.0) ∙ state_in_a_row members p;
      put = λ x. put_in_a_row members p x within ∙ ap (λ n. insert (states_of [] members) n (state_of x)) some.0;
    }

pub place_by_table : (places : List (Option ℕ)) (members : List Member) (q : ℕ) (place : Option ℕ) → 0 < length places → place_at places q ≡ place → AreWithin places members → AreApart places members → IsPlaceOf places members q place
place_by_table places members q None some here within apart = state_by_table places members q some ∙ ap (λ o. option_map state_of (standing members o)) here
place_by_table places members q (Some p) some here within apart =
    record {
      within = within q p here;
      there = state_by_table places members q some ∙ ap (λ o. option_map state_of (standing members o)) here;
      put = λ x. put_by_table places members q p x some here within apart;
    }

pub has_place : (places : List (Option ℕ)) (members : List Member) (q : ℕ) (place : Option ℕ) → IsPlaceOf places members q place → is_some place ≡ contains_key (states_of places members) q
has_place places members q None none = ap is_some (sym none)
has_place places members q (Some p) at = is_there places members q p at.within at.there

-- ---- the table

-- a table that says the same holds the same
pub same_table : (places' places : List (Option ℕ)) (members : List Member) → 0 < length places' → 0 < length places → ((q : ℕ) → place_at places' q ≡ place_at places q) → states_of places' members ≡ states_of places members
same_table places' places members some' some same =
    same_map nat_cmp_total nat_cmp-IsAntisymmetric _ _ (λ q.
    state_by_table places' members q some' ∙ ap (λ o. option_map state_of (standing members o)) (same q) ∙ sym (state_by_table places members q some))

-- a place in a row
pub row_place : (places : List (Option ℕ)) (count q : ℕ) → ((k : ℕ) → k < count → place_at places k ≡ Some k) → length places ≡ count → (p : ℕ) → place_at places q ≡ Some p → p ≡ q × q < count
row_place places count q each long p stands = by_test (nat_lt q count) refl
  where
    by_test : (b : Bool) → nat_lt q count ≡ b → p ≡ q × q < count
    by_test true h = let low = ltb-true q count h in (same_Some p q (sym stands ∙ each q low), low)
    by_test false h =
        let over = ltb-false q count h in
        absurd (false≢true (ap is_some (sym (get_or_past places q None (omega (arith, over, long))) ∙ stands)))

-- a table of members in a row holds what they hold without it
pub row_table : (places : List (Option ℕ)) (members : List Member) → 0 < length places → ((k : ℕ) → k < length members → place_at places k ≡ Some k) → ((k : ℕ) → length members ≤ k → place_at places k ≡ None)
    → states_of places members ≡ states_of [] members
row_table places members some each past =
    same_map nat_cmp_total nat_cmp-IsAntisymmetric _ _ (λ q. state_by_table places members q some ∙ ap (option_map state_of) (at q (nat_lt q (length members)) refl) ∙ sym (state_in_a_row members q))
  where
    at : (q : ℕ) (b : Bool) → nat_lt q (length members) ≡ b → standing members (place_at places q) ≡ slice_get members q
    at q true h = ap (standing members) (each q (ltb-true q (length members) h))
    at q false h = let over = ltb-false q (length members) h in ap (standing members) (past q over) ∙ sym (get_past members q over)

no_overflow_slot : (slot : Option Member) (t : State) → option_map state_of slot ≡ Some t → ¬ (IsOverflowed t)
no_overflow_slot None t is = absurd (false≢true (ap is_some is))
no_overflow_slot (Some x) t is = subst (λ u. ¬ (IsOverflowed u)) (same_Some (state_of x) t is) (not_overflow x)

-- no member in memory has a counter past its limit
pub part_no_overflow : {Q : Type 0} (set : Q → FinMap key_cmp Event) (part : Part Q) (m : ℕ) (t : State) → get (world_of set part).members m ≡ Some t → ¬ (IsOverflowed t)
part_no_overflow set part m t is =
    let slots = by_number part.members.places.items part.members.members.items in no_overflow_slot (slot_at slots m) t (sym (state_at slots m) ∙ is)
