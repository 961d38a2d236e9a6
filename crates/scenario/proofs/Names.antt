-- There are as many names as members, and a place in the set of names has the member's name.
use Rattle.std.proofs.Common.{◌≡◌, ◌≤◌, ℕ, List, [], ◌∷◌, ◌++◌, ◌+◌, Bool, true, false, ◌&&◌, nat_le, zero-add, append_assoc, codes, map, length, get_or, ◌<◌, Some, refl, sym, ap, ◌∙◌, subst, arith, String, Global, string_bytes}
use Rattle.std.specs.List.{slice_get, sum_by, list_all, AllZip}
use Rattle.std.proofs.lemmas.Bool.{false≢true, leb-true}
use Rattle.std.specs.Fmt.{decimal}
use Rattle.std.specs.Option.{unwrap_or, option_map}
use Rattle.std.proofs.lemmas.List.{length-map, map-append}
use Rattle.std.proofs.lemmas.List.Concat.{length-flat_map}
use Rattle.std.proofs.lemmas.List.FromFn.{length-map-range_with_len, map-range_with_len_more}
use Rattle.std.proofs.lemmas.List.Elements.{AllZip-get_or}
use Rattle.std.proofs.lemmas.Option.{slice_get-map, slice_get-get_or}
use Rattle.schema.specs.declared.schema.Version.{Version}
use Rattle.schema.specs.declared.schema.Version.TheVariants.{One, Two, Three, Four}
use Rattle.scenario.specs.Labels.{IsLabelOf}
use Rattle.scenario.specs.GroupNames.{is_name_byte, starts_with_letter, is_group_name, is_name_of}
use Rattle.scenario.specs.Setup.{Setup, Group, names_in, names_below, member_names, member_count, name_of}

pub length-member_names : (s : Setup) → length (member_names s) ≡ member_count s
length-member_names s =
    length-flat_map names_in s.groups ∙ (λ i. sum_by (λ (g : Group). length-map-range_with_len (λ n. g.name ++ codes "-" ++ decimal n) 0 g.count i) s.groups)

-- as many keys as members
pub length-names : (keys : List (String Global)) (s : Setup) → map string_bytes keys ≡ member_names s → length keys ≡ member_count s
length-names keys s named = sym (length-map keys string_bytes) ∙ ap length named ∙ length-member_names s

-- what the key at a member's place spells
pub name_at : (keys : List (String Global)) (s : Setup) (m : ℕ) (key : String Global) → map string_bytes keys ≡ member_names s → slice_get keys m ≡ Some key → string_bytes key ≡ name_of s m
name_at keys s m key named found =
    sym (ap (λ o. unwrap_or (option_map string_bytes o) []) found) ∙ ap (λ o. unwrap_or o []) (sym (slice_get-map string_bytes keys m))
    ∙ ap (λ names. unwrap_or (slice_get names m) []) named

-- what stands at a member's place among the labels of all names
pub label_at : (s : Setup) (labels : List (List ℕ)) (m : ℕ) (label : List ℕ) → AllZip IsLabelOf (member_names s) labels → m < member_count s → label ≡ get_or labels m label → IsLabelOf (name_of s m) label
label_at s labels m label all within here =
    let there : m < length (member_names s) = omega (arith, length-member_names s, within) in
    subst (λ name. IsLabelOf name label) (sym (ap (λ o. unwrap_or o []) (slice_get-get_or (member_names s) m [] there)))
    (subst (IsLabelOf (get_or (member_names s) m [])) (sym here) (AllZip-get_or IsLabelOf (member_names s) labels m [] label all there))

-- one more member of a group
pub names_below-more : (name : List ℕ) (n : ℕ) → names_below name (n + 1) ≡ names_below name n ++ (name ++ codes "-" ++ decimal n) ∷ []
names_below-more name n = map-range_with_len_more (λ i. name ++ codes "-" ++ decimal i) 0 n n (zero-add n)

-- the names so far, after the next one
pub names-more : (keys more : List (String Global)) (key : String Global) (front : List (List ℕ)) (name : List ℕ) (n : ℕ)
    → more ≡ keys ++ key ∷ [] → string_bytes key ≡ name ++ codes "-" ++ decimal n
    → map string_bytes keys ≡ front ++ names_below name n → map string_bytes more ≡ front ++ names_below name (n + 1)
names-more keys more key front name n grown spelt named =
    ap (map string_bytes) grown ∙ map-append string_bytes keys (key ∷ []) ∙ ap (λ k. map string_bytes keys ++ k ∷ []) spelt
    ∙ ap (λ names. names ++ (name ++ codes "-" ++ decimal n) ∷ []) named ∙ append_assoc front (names_below name n) ((name ++ codes "-" ++ decimal n) ∷ [])
    ∙ ap (λ names. front ++ names) (sym (names_below-more name n))

-- ---- the form of names

both : (a b : Bool) → (a && b) ≡ true → (a ≡ true) × (b ≡ true)
both true b e = (refl, e)
both false b e = absurd (false≢true e)

old_short : (name : List ℕ) → is_group_name name ≡ true → length name ≤ 32
old_short name h =
    let length_and_letter = both (nat_le (length name) 16 && starts_with_letter name) (list_all is_name_byte name) h in
    let few = leb-true (length name) 16 (both (nat_le (length name) 16) (starts_with_letter name) length_and_letter.0).0 in
    omega (arith, few)

-- a name has 32 bytes at most, whatever the version
pub short_name : (v : Version) (name : List ℕ) → is_name_of v name ≡ true → length name ≤ 32
short_name One name h = old_short name h
short_name Two name h = old_short name h
short_name Three name h = old_short name h
short_name Four name h = leb-true (length name) 32 (both (nat_le (length name) 32) _ h).0
