-- What stands at the keys of a table in which a value was put.
use Rattle.std.proofs.Common.{◌≡◌, ◌≢◌, ℕ, Bool, true, false, List, [], Option, Some, None, Ordering, Less, Equal, Greater, nat_cmp, is_eq, sym, ap, refl, ◌∙◌}
use Rattle.std.specs.Cmp.Lexicographic.{slice_cmp}
use Rattle.std.specs.Ordering.{match_ordering}
use Rattle.std.specs.Option.{option_map_or}
use Rattle.std.proofs.lemmas.Bool.{false≢true}
use Rattle.std.proofs.lemmas.Map.Text.{is_eq-slice_cmp}
use Rattle.toml.specs.Data.{Data, string, integer, float, boolean, datetime, array, table, Members, no_members, member, get, get_member}
use Rattle.schema.specs.Schema.{spelling_of}
use Rattle.schema.specs.Tree.{items_at, items_of, list_of, value_at}
use Rattle.schema.specs.declared.schema.FormatKey.{FormatKey}
use Rattle.schema.proofs.Trees.{list_of-items}
use Rattle.sweep_plan.specs.Document.{put, with_entry, with_item, with_items, with_key, with_listed, with_marked}
use Rattle.sweep_plan.specs.Meant.{marks_of}
use Rattle.sweep_plan.specs.SetKeys.{key_spelling}
use Rattle.sweep_plan.specs.declared.set_keys.SetKey.{SetKey}
use Rattle.sweep_plan.specs.declared.set_keys.SetKey.TheVariants.{Plain}
use Rattle.sweep_plan.proofs.Names.{bytes_eq_true, bytes_eq_same, bytes_eq_false}

-- ---- members

unequal : {X : Type 0} (u k : List ℕ) (x y : X) → u ≢ k → match_ordering (slice_cmp nat_cmp u k) x y x ≡ x
unequal u k x y other = by (slice_cmp nat_cmp u k) (is_eq-slice_cmp u k ∙ bytes_eq_false u k other)
  where
    by : (o : Ordering) → is_eq o ≡ false → match_ordering o x y x ≡ x
    by Less is = refl
    by Equal is = absurd (false≢true (sym is))
    by Greater is = refl

equal : {X : Type 0} (k : List ℕ) (x y : X) → match_ordering (slice_cmp nat_cmp k k) x y x ≡ y
equal k x y = by (slice_cmp nat_cmp k k) (is_eq-slice_cmp k k ∙ bytes_eq_same k k refl)
  where
    by : (o : Ordering) → is_eq o ≡ true → match_ordering o x y x ≡ y
    by Less is = absurd (false≢true is)
    by Equal is = refl
    by Greater is = absurd (false≢true is)

get_other : (u k : List ℕ) (d : Data) (ms : Members) → u ≢ k → get_member u (put k d ms) ≡ get_member u ms
get_other u k d no_members other = unequal u k None (Some d) other
get_other u k d (member l e ms) other = by (slice_cmp nat_cmp k l) refl (get_other u k d ms other)
  where
    by : (o : Ordering) → slice_cmp nat_cmp k l ≡ o → get_member u (put k d ms) ≡ get_member u ms
        → get_member u (match_ordering o (member k d (member l e ms)) (member l d ms) (member l e (put k d ms))) ≡ get_member u (member l e ms)
    by Less is rest = unequal u k (get_member u (member l e ms)) (Some d) other
    by Equal is rest =
        let same : k ≡ l = bytes_eq_true k l (sym (is_eq-slice_cmp k l) ∙ ap is_eq is) in
        let apart : u ≢ l = λ one. other (one ∙ sym same) in
        unequal u l (get_member u ms) (Some d) apart ∙ sym (unequal u l (get_member u ms) (Some e) apart)
    by Greater is rest = ap (λ g. match_ordering (slice_cmp nat_cmp u l) g (Some e) g) rest

pub get_here : (k : List ℕ) (d : Data) (ms : Members) → get_member k (put k d ms) ≡ Some d
get_here k d no_members = equal k None (Some d)
get_here k d (member l e ms) = by (slice_cmp nat_cmp k l) refl (get_here k d ms)
  where
    by : (o : Ordering) → slice_cmp nat_cmp k l ≡ o → get_member k (put k d ms) ≡ Some d → get_member k (match_ordering o (member k d (member l e ms)) (member l d ms) (member l e (put k d ms))) ≡ Some d
    by Less is rest = equal k (get_member k (member l e ms)) (Some d)
    by Equal is rest = ap (λ o. match_ordering o (get_member k ms) (Some d) (get_member k ms)) is
    by Greater is rest = ap (λ o. match_ordering o (get_member k (put k d ms)) (Some e) (get_member k (put k d ms))) is ∙ rest

-- ---- tables

key_other : (u k : SetKey) (d one : Data) → key_spelling u ≢ key_spelling k → get (key_spelling u) (with_key k d one) ≡ get (key_spelling u) one
key_other u k d (table ms) other = get_other (key_spelling u) (key_spelling k) d ms other
key_other u k d (string s) other = refl
key_other u k d (integer z) other = refl
key_other u k d (float x) other = refl
key_other u k d (boolean b) other = refl
key_other u k d (datetime dt) other = refl
key_other u k d (array ds) other = refl

pub entry_other : (u k : FormatKey) (d tree : Data) → spelling_of u ≢ spelling_of k → value_at u (with_entry k d tree) ≡ value_at u tree
entry_other u k d tree other = key_other (Plain u) (Plain k) d tree other

-- ---- an item

pub keys_kept : (one d : Data) (meant : Bool) (k u : SetKey) → key_spelling u ≢ key_spelling k → get (key_spelling u) (with_item k d meant one) ≡ get (key_spelling u) one
keys_kept one d true k u other = key_other u k d one other
keys_kept one d false k u other = refl

pub value_set : (ms : Members) (d : Data) (k : SetKey) → get (key_spelling k) (with_item k d true (table ms)) ≡ Some d
value_set ms d k = get_here (key_spelling k) d ms

-- ---- a list

pub text_kept : (tree d : Data) (t u : FormatKey) (k : SetKey) (name : List ℕ) → spelling_of u ≢ spelling_of t → value_at u (with_listed t name k d tree) ≡ value_at u tree
text_kept tree d t u k name other = by (value_at t tree)
  where
    by : (o : Option Data) → value_at u (option_map_or (λ list. with_entry t (with_items name k d list) tree) o tree) ≡ value_at u tree
    by None = refl
    by (Some list) = entry_other u t (with_items name k d list) tree other

-- items with the value in those that a name means
abbrev changed : List ℕ → SetKey → Data → List Data → List Data
changed name k d items = with_marked k d (marks_of name items) items

items_with : (list d : Data) (name : List ℕ) (k : SetKey) → items_of (with_items name k d list) ≡ changed name k d (items_of list)
items_with (array ds) d name k = list_of-items (changed name k d (list_of ds))
items_with (table ms) d name k = refl
items_with (string s) d name k = refl
items_with (integer z) d name k = refl
items_with (float x) d name k = refl
items_with (boolean b) d name k = refl
items_with (datetime dt) d name k = refl

-- what is found stands in a table, and what is put there is found
found_again : (tree list d : Data) (t : FormatKey) → value_at t tree ≡ Some list → value_at t (with_entry t d tree) ≡ Some d
found_again (table ms) list d t is = get_here (spelling_of t) d ms
found_again (string s) list d t is = cc
found_again (integer z) list d t is = cc
found_again (float x) list d t is = cc
found_again (boolean b) list d t is = cc
found_again (datetime dt) list d t is = cc
found_again (array ds) list d t is = cc

pub items_set : (tree d : Data) (t : FormatKey) (k : SetKey) (name : List ℕ) → items_at t (with_listed t name k d tree) ≡ changed name k d (items_at t tree)
items_set tree d t k name = by (value_at t tree) refl
  where
    at : Option Data → List Data
    at o = option_map_or items_of o []

    by : (o : Option Data) → value_at t tree ≡ o → items_at t (option_map_or (λ list. with_entry t (with_items name k d list) tree) o tree) ≡ changed name k d (option_map_or items_of o [])
    by None is = ap at is
    by (Some list) is = ap at (found_again tree list (with_items name k d list) t is) ∙ items_with list d name k
