-- The groups of a document are one, up to where their names are kept.
use Rattle.std.proofs.Common.{◌≡◌, ◌≤◌, ℕ, ◌+◌, ◌^◌, Bool, true, false, List, [], ◌∷◌, map, replicate, Option, Some, None, refl, ap, sym, ◌∙◌, codes, cond, is_some, bytes_eq, string_bytes}
use Rattle.std.specs.List.{flat_map, range_with_len, AllZip}
use Rattle.std.proofs.lemmas.List.Folds.{flat_map-map}
use Rattle.toml.specs.Data.{Data, get}
use Rattle.scenario.specs.Setup.{names_in, Group}
use Rattle.written_groups.specs.Groups.{IsExtraIn, IsGroupIn}
use Rattle.written_names.specs.Roster.{group_of}
use Rattle.written_names.specs.declared.roster.WrittenGroup.{WrittenGroup}
use Rattle.script_reader.specs.Values.{members_of, text_at}
use Rattle.script_reader.specs.Who.{in_span, member_total, members_by, members_in, named_in, span_at, span_of}
use Rattle.expanded_text.specs.Rule.{starts_of}
use Rattle.text_reader.proofs.Numbers.{one_count_at}

module _ (tick : ℕ) (some : 1 ≤ tick) where
  same_group : (d : Data) (a b : WrittenGroup) → IsGroupIn tick d a → IsGroupIn tick d b → group_of a ≡ group_of b
  same_group d a b first second = λ i. record {
    name = (first.name ∙ sym second.name) i;
    count = (first.count ∙ sym second.count) i;
    start = one_count_at tick 0 (2 ^ 40) (get (codes "start") d) a.start b.start some first.start second.start i;
    contact = None;
  }

  pub same_groups : (ds : List Data) (a b : List WrittenGroup) → AllZip (IsGroupIn tick) ds a → AllZip (IsGroupIn tick) ds b → map group_of a ≡ map group_of b
  same_groups [] [] [] first second = refl
  same_groups [] [] (y ∷ b) first second = absurd second
  same_groups [] (x ∷ a) b first second = absurd first
  same_groups (d ∷ ds) [] b first second = absurd first
  same_groups (d ∷ ds) (x ∷ a) [] first second = absurd second
  same_groups (d ∷ ds) (x ∷ a) (y ∷ b) first second =
      let head = same_group d x y first.0 second.0 in
      let more = same_groups ds a b first.1 second.1 in
      λ i. head i ∷ more i

  pub same_extras : (ds : List Data) (a b : List ℕ) → AllZip (IsExtraIn tick) ds a → AllZip (IsExtraIn tick) ds b → a ≡ b
  same_extras [] [] [] first second = refl
  same_extras [] [] (y ∷ b) first second = absurd second
  same_extras [] (x ∷ a) b first second = absurd first
  same_extras (d ∷ ds) [] b first second = absurd first
  same_extras (d ∷ ds) (x ∷ a) [] first second = absurd second
  same_extras (d ∷ ds) (x ∷ a) (y ∷ b) first second =
      let head = one_count_at tick 1 (2 ^ 24) (get (codes "extra") d) x y some first.0 second.0 in
      let more = same_extras ds a b first.1 second.1 in
      λ i. head i ∷ more i

-- ---- what is read of groups is read of these

abbrev total_of : List Group → ℕ
total_of [] = 0
total_of (group ∷ groups) = group.count + total_of groups

total_is : (groups : List WrittenGroup) → member_total groups ≡ total_of (map group_of groups)
total_is [] = refl
total_is (group ∷ groups) = ap (λ (n : ℕ). group.count + n) (total_is groups)

pick : {S T : Type 0} (f : S → T) (b : Bool) (x y : S) → f (cond b x y) ≡ cond b (f x) (f y)
pick f true x y = refl
pick f false x y = refl

abbrev span_in : ℕ → List Group → List ℕ → List ℕ
span_in first [] name = []
span_in first (group ∷ groups) name =
    cond (bytes_eq group.name name) (map (λ k. first + k) (range_with_len 0 group.count)) (span_in (first + group.count) groups name)

span_is : (first : ℕ) (groups : List WrittenGroup) (name : List ℕ) → in_span (span_of first groups name) ≡ span_in first (map group_of groups) name
span_is first [] name = refl
span_is first (group ∷ groups) name =
    pick in_span (bytes_eq (string_bytes group.name) name) (record { first = first; count = group.count }) (span_of (first + group.count) groups name)
    ∙ ap (λ (more : List ℕ). cond (bytes_eq (string_bytes group.name) name) (map (λ k. first + k) (range_with_len 0 group.count)) more) (span_is (first + group.count) groups name)

module _ (a b : List WrittenGroup) (same : map group_of a ≡ map group_of b) where
  pub same_total : member_total a ≡ member_total b
  same_total = total_is a ∙ ap total_of same ∙ sym (total_is b)

  pub same_starts : starts_of a ≡ starts_of b
  same_starts =
      sym (flat_map-map (λ (group : Group). replicate group.count group.start) group_of a)
      ∙ ap (flat_map (λ (group : Group). replicate group.count group.start)) same
      ∙ flat_map-map (λ (group : Group). replicate group.count group.start) group_of b

  pub same_names : flat_map (λ (group : WrittenGroup). names_in (group_of group)) a ≡ flat_map (λ (group : WrittenGroup). names_in (group_of group)) b
  same_names = sym (flat_map-map names_in group_of a) ∙ ap (flat_map names_in) same ∙ flat_map-map names_in group_of b

  same_span : (name : Option (List ℕ)) → in_span (span_at a name) ≡ in_span (span_at b name)
  same_span None = refl
  same_span (Some name) = span_is 0 a name ∙ ap (λ (groups : List Group). span_in 0 groups name) same ∙ sym (span_is 0 b name)

  same_members_by : (roster : List Group) (name : Option (List ℕ)) (d : Data) → members_by roster a name d ≡ members_by roster b name d
  same_members_by roster None d =
      ap (λ (all : List ℕ). cond (is_some (get (codes "members") d)) (named_in roster (members_of d)) all) (same_span (text_at (codes "group") d))
  same_members_by roster (Some name) d = refl

  pub same_members : (d : Data) → members_in (map group_of a) a d ≡ members_in (map group_of b) b d
  same_members d =
      same_members_by (map group_of a) (text_at (codes "member") d) d ∙ ap (λ (roster : List Group). members_in roster b d) same
