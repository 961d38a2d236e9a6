-- Whom an item is about: members that are there, and no more than a text may have.
use Rattle.std.proofs.Common.{◌≡◌, ◌≤◌, ◌<◌, ℕ, ◌+◌, List, [], ◌∷◌, map, flat_map, length, Bool, true, false, cond, nat_le, bytes_eq, string_bytes, codes, Option, Some, None, is_some, refl, ap, sym, subst, ◌∙◌, arith}
use Rattle.std.specs.Prelude.{All}
use Rattle.std.specs.List.{sum_by, AllByRecursion}
use Rattle.std.proofs.lemmas.Bool.Decides.{nat_tests}
use Rattle.std.proofs.lemmas.List.{length-append, length-map}
use Rattle.std.proofs.lemmas.List.Folds.{flat_map-map}
use Rattle.std.proofs.lemmas.List.Elements.{All-from_recursion}
use Rattle.std.proofs.lemmas.List.FromFn.{get_or-map-range_with_len, length-map-range_with_len}
use Rattle.std.proofs.lemmas.List.Quantifiers.{position-Some}
use Rattle.base.proofs.Rising.{all_append}
use Rattle.toml.specs.Data.{Data, as_str, get}
use Rattle.toml.specs.View.{view}
use Rattle.toml.specs.declared.value.Value.{Value}
use Rattle.scenario.specs.Setup.{Group}
use Rattle.scenario_reader.specs.Reading.{member_named, names_of_all}
use Rattle.plain_entries.specs.Who.{IsWho}
use Rattle.plain_entries.specs.declared.who.Who.{Who}
use Rattle.written_names.specs.declared.roster.WrittenGroup.{WrittenGroup}
use Rattle.written_names.proofs.Find.{length-names_of_all}
use Rattle.script_reader.specs.Values.{members_of, text_at}
use Rattle.script_reader.specs.Who.{alone, found, found_in, in_span, member_total, members_by, members_in, named_in, span_at, span_of}
use Rattle.script_reader.specs.declared.who.Span.{Span}

-- so many at the most, and each below the number of members
record AreMembers (most count : ℕ) (members : List ℕ) : Type 0 where
  few : length members ≤ most
  known : AllByRecursion (λ member. member < count) members

named_within : (groups : List Group) (name : List ℕ) (member : ℕ) → member_named groups name ≡ Some member → member < sum_by (λ (g : Group). g.count) groups
unfolding member_named
named_within groups name member is = omega (arith, (position-Some (bytes_eq name) (names_of_all groups) member [] is).0, length-names_of_all groups)

-- ---- members of names

alone_is : (count : ℕ) (found : Option ℕ) → ((member : ℕ) → found ≡ Some member → member < count) → AreMembers 1 count (alone found)
alone_is count None within = record { few = omega arith; known = tt }
alone_is count (Some member) within = record { few = omega arith; known = (within member refl, tt) }

found_is : (groups : List Group) (name : Option (List ℕ)) → AreMembers 1 (sum_by (λ (g : Group). g.count) groups) (alone (found groups name))
found_is groups None = record { few = omega arith; known = tt }
found_is groups (Some name) = alone_is (sum_by (λ (g : Group). g.count) groups) (member_named groups name) (named_within groups name)

all_are : (groups : List Group) (names : List Data) → AreMembers (length names) (sum_by (λ (g : Group). g.count) groups) (flat_map (found_in groups) names)
all_are groups [] = record { few = omega arith; known = tt }
all_are groups (d ∷ ds) =
    let one = found_is groups (as_str d) in
    let more = all_are groups ds in
    record {
      few = omega (arith, one.few, more.few, length-append (found_in groups d) (flat_map (found_in groups) ds));
      known = all_append (λ (member : ℕ). member < sum_by (λ (g : Group). g.count) groups) (found_in groups d) (flat_map (found_in groups) ds) one.known more.known;
    }

named_by : (groups : List Group) (names : List Data) (low : Bool) → nat_le (length names) 16384 ≡ low
    → AreMembers 16384 (sum_by (λ (g : Group). g.count) groups) (cond low (flat_map (found_in groups) names) [])
named_by groups names true low =
    let all = all_are groups names in
    record { few = grind (arith, nat_tests, all.few, low); known = all.known }
named_by groups names false low = record { few = omega arith; known = tt }

-- ---- members of a group

abbrev AreLow : ℕ → Span → Type 0
AreLow total span = span.first + span.count ≤ total

span_by : (here : Bool) (total : ℕ) (one rest : Span) → AreLow total one → AreLow total rest → AreLow total (cond here one rest)
span_by true total one rest first second = first
span_by false total one rest first second = second

span_low : (groups : List WrittenGroup) (first total : ℕ) (name : List ℕ) → first + member_total groups ≤ total → AreLow total (span_of first groups name)
span_low [] first total name low = omega arith
span_low (g ∷ groups) first total name low =
    let sum : first + (g.count + member_total groups) ≤ total = low in
    let here : first + g.count ≤ total = omega (arith, sum) in
    let further : (first + g.count) + member_total groups ≤ total = omega (arith, sum) in
    span_by (bytes_eq (string_bytes g.name) name) total (record { first = first; count = g.count }) (span_of (first + g.count) groups name) here
    (span_low groups (first + g.count) total name further)

span_at_low : (groups : List WrittenGroup) (name : Option (List ℕ)) → AreLow (member_total groups) (span_at groups name)
span_at_low groups None = omega arith
span_at_low groups (Some name) = span_low groups 0 (member_total groups) name (omega arith)

-- ---- whom an item is about

in_range : (count most : ℕ) (members : List ℕ) → AreMembers most count members → most ≤ 16384 → (who : Who) → who.members.items ≡ members → IsWho count who
in_range count most members are low who is = record {
  few = omega (arith, are.few, low, ap (λ (l : List ℕ). length l) is);
  known = subst (λ (l : List ℕ). All (λ (member : ℕ). member < count) l) (sym is) (All-from_recursion (λ (member : ℕ). member < count) members are.known);
}

in_group : (count : ℕ) (span : Span) → span.first + span.count ≤ count → count ≤ 16384 → (who : Who) → who.members.items ≡ in_span span → IsWho count who
in_group count span low few who is =
    let long : length (in_span span) ≡ span.count = length-map-range_with_len (λ (k : ℕ). span.first + k) 0 span.count in
    record {
      few = omega (arith, low, few, long, ap (λ (l : List ℕ). length l) is);
      known = subst (λ (l : List ℕ). All (λ (member : ℕ). member < count) l) (sym is)
          (λ i d within. omega (arith, low, long, within, get_or-map-range_with_len (λ (k : ℕ). span.first + k) 0 span.count i i d (omega (arith, long, within)) (omega arith)));
    }

module _ (roster : List Group) (groups : List WrittenGroup) (d : Data) (same : sum_by (λ (g : Group). g.count) roster ≡ member_total groups) (few : member_total groups ≤ 16384) (who : Who) where
  abbrev Known : ℕ → Type 0
  Known count = IsWho count who

  by_list : (listed : Bool) → who.members.items ≡ cond listed (named_in roster (members_of d)) (in_span (span_at groups (text_at (codes "group") d))) → Known (member_total groups)
  by_list true is =
      subst Known same
      (in_range (sum_by (λ (g : Group). g.count) roster) 16384 (named_in roster (members_of d)) (named_by roster (members_of d) (nat_le (length (members_of d)) 16384) refl) (omega arith) who is)
  by_list false is = in_group (member_total groups) (span_at groups (text_at (codes "group") d)) (span_at_low groups (text_at (codes "group") d)) few who is

  by_member : (name : Option (List ℕ)) → who.members.items ≡ members_by roster groups name d → Known (member_total groups)
  by_member (Some name) is =
      subst Known same (in_range (sum_by (λ (g : Group). g.count) roster) 1 (alone (member_named roster name)) (found_is roster (Some name)) (omega arith) who is)
  by_member None is = by_list (is_some (get (codes "members") d)) is

  -- an item names members that are there
  pub is_who : who.members.items ≡ members_in roster groups d → Known (member_total groups)
  is_who is = by_member (text_at (codes "member") d) is

-- ---- members of names, over values

-- the names of a list that isn't too long
pub named_low : (groups : List Group) (values : List Value) → length values ≤ 16384 → named_in groups (map view values) ≡ flat_map (λ value. found_in groups (view value)) values
named_low groups values low =
    let long : length (map view values) ≡ length values = length-map values view in
    let test : nat_le (length (map view values)) 16384 ≡ true = grind (arith, nat_tests, low, long) in
    ap (λ (b : Bool). cond b (flat_map (found_in groups) (map view values)) []) test ∙ flat_map-map (found_in groups) view values

pub named_high : (groups : List Group) (values : List Value) → 16384 < length values → named_in groups (map view values) ≡ []
named_high groups values high =
    let long : length (map view values) ≡ length values = length-map values view in
    let test : nat_le (length (map view values)) 16384 ≡ false = grind (arith, nat_tests, high, long) in
    ap (λ (b : Bool). cond b (flat_map (found_in groups) (map view values)) []) test
