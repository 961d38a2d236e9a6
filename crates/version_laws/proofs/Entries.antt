-- What a document has at its keys once a value was put at one of them.
use Rattle.std.proofs.Common.{◌≡◌, ℕ, List, ◌∷◌, ◌||◌, Bool, true, false, Option, Some, None, Ordering, Less, Equal, Greater, nat_cmp, is_eq, true≢false, refl, sym, ap, ◌∙◌}
use Rattle.std.proofs.lemmas.Cmp.{nat_list_cmp_total, tied_itself}
use Rattle.std.proofs.lemmas.Map.Text.{is_eq-slice_cmp}
use Rattle.std.proofs.lemmas.Slice.Eq.{bytes_eq-Decides}
use Rattle.std.specs.Cmp.Lexicographic.{slice_cmp}
use Rattle.std.specs.List.{list_any}
use Rattle.std.specs.Ordering.{match_ordering}
use Rattle.toml.specs.Data.{Data, Members, no_members, member, get_member}
use Rattle.schema.specs.Tree.{keys_in}
use Rattle.sweep_plan.specs.Document.{put}

-- ---- what holds of two doesn't hold of one

pub left_off : (a b : Bool) → (a || b) ≡ false → a ≡ false
left_off true b off = absurd (true≢false off)
left_off false b off = refl

pub right_off : (a b : Bool) → (a || b) ≡ false → b ≡ false
right_off true b off = absurd (true≢false off)
right_off false b off = off

pub both_off : (a b : Bool) → a ≡ false → b ≡ false → (a || b) ≡ false
both_off a b first second = λ i. first i || second i

-- ---- names

same_text : (xs : List ℕ) → slice_cmp nat_cmp xs xs ≡ Equal
same_text xs = tied_itself nat_list_cmp_total xs

same_name : (k l : List ℕ) → slice_cmp nat_cmp k l ≡ Equal → k ≡ l
same_name k l is = (bytes_eq-Decides k l).0 (sym (is_eq-slice_cmp k l) ∙ ap is_eq is)

apart_by : (k l : List ℕ) (o : Ordering) → slice_cmp nat_cmp k l ≡ o → (k ≡ l → ⊥) → is_eq o ≡ false
apart_by k l Less is other = refl
apart_by k l Equal is other = absurd (other (same_name k l is))
apart_by k l Greater is other = refl

either : (o : Ordering) (a b : Option Data) → is_eq o ≡ false → match_ordering o a b a ≡ a
either Less a b e = refl
either Equal a b e = absurd (true≢false e)
either Greater a b e = refl

skips : (q k : List ℕ) (d : Data) (ms : Members) → (q ≡ k → ⊥) → get_member q (member k d ms) ≡ get_member q ms
skips q k d ms other = either (slice_cmp nat_cmp q k) (get_member q ms) (Some d) (apart_by q k (slice_cmp nat_cmp q k) refl other)

-- ---- what was put

here_at : (o : Ordering) (k l : List ℕ) (d e : Data) (ms : Members) → slice_cmp nat_cmp k l ≡ o → get_member k (put k d ms) ≡ Some d
    → get_member k (match_ordering o (member k d (member l e ms)) (member l d ms) (member l e (put k d ms))) ≡ Some d
here_at Less k l d e ms is later = rw same_text
here_at Equal k l d e ms is later = rw is
here_at Greater k l d e ms is later = rw is later

-- what was put at a name is found there
pub put_here : (k : List ℕ) (d : Data) (ms : Members) → get_member k (put k d ms) ≡ Some d
put_here k d no_members = rw same_text
put_here k d (member l e ms) = here_at (slice_cmp nat_cmp k l) k l d e ms refl (put_here k d ms)

elsewhere_at : (o : Ordering) (q k l : List ℕ) (d e : Data) (ms : Members) → slice_cmp nat_cmp k l ≡ o → (q ≡ k → ⊥) → get_member q (put k d ms) ≡ get_member q ms
    → get_member q (match_ordering o (member k d (member l e ms)) (member l d ms) (member l e (put k d ms))) ≡ get_member q (member l e ms)
elsewhere_at Less q k l d e ms is other later = skips q k d (member l e ms) other
elsewhere_at Equal q k l d e ms is other later =
    let same : k ≡ l = same_name k l is in
    skips q l d ms (λ h. other (h ∙ sym same)) ∙ sym (skips q l e ms (λ h. other (h ∙ sym same)))
elsewhere_at Greater q k l d e ms is other later = ap (λ r. match_ordering (slice_cmp nat_cmp q l) r (Some e) r) later

-- the other names keep their values
pub put_elsewhere : (q k : List ℕ) (d : Data) (ms : Members) → (q ≡ k → ⊥) → get_member q (put k d ms) ≡ get_member q ms
put_elsewhere q k d no_members other = skips q k d no_members other
put_elsewhere q k d (member l e ms) other = elsewhere_at (slice_cmp nat_cmp k l) q k l d e ms refl other (put_elsewhere q k d ms other)

keys_at : (o : Ordering) (test : List ℕ → Bool) (k l : List ℕ) (d e : Data) (ms : Members) → test k ≡ false → list_any test (l ∷ keys_in ms) ≡ false → list_any test (keys_in (put k d ms)) ≡ false
    → list_any test (keys_in (match_ordering o (member k d (member l e ms)) (member l d ms) (member l e (put k d ms)))) ≡ false
keys_at Less test k l d e ms new none later = both_off (test k) (list_any test (l ∷ keys_in ms)) new none
keys_at Equal test k l d e ms new none later = none
keys_at Greater test k l d e ms new none later = both_off (test l) (list_any test (keys_in (put k d ms))) (left_off (test l) (list_any test (keys_in ms)) none) later

-- no key but this one comes to those that there are
pub put_keys : (test : List ℕ → Bool) (k : List ℕ) (d : Data) (ms : Members) → test k ≡ false → list_any test (keys_in ms) ≡ false → list_any test (keys_in (put k d ms)) ≡ false
put_keys test k d no_members new none = both_off (test k) false new refl
put_keys test k d (member l e ms) new none =
    keys_at (slice_cmp nat_cmp k l) test k l d e ms new none (put_keys test k d ms new (right_off (test l) (list_any test (keys_in ms)) none))

-- what no key is isn't there
pub not_there : (test : List ℕ → Bool) (q : List ℕ) (ms : Members) → test q ≡ true → list_any test (keys_in ms) ≡ false → get_member q ms ≡ None
not_there test q no_members wanted none = refl
not_there test q (member l e ms) wanted none =
    skips q l e ms (λ same. true≢false (sym wanted ∙ ap test same ∙ left_off (test l) (list_any test (keys_in ms)) none))
    ∙ not_there test q ms wanted (right_off (test l) (list_any test (keys_in ms)) none)
