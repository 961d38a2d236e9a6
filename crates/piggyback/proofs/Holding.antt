-- A buffer's entries and the map that they stand for.
use Rattle.std.proofs.Common.{◌≡◌, ℕ, ◌≤◌, Bool, true, false, not, cond, eqb, List, [], ◌∷◌, ◌++◌, map, filter, length, take, Option, Some, None, Result, Ok, Err, OnOk, OnErr, sym, ap, subst, ◌∙◌, refl, arith}
use Rattle.std.specs.List.{count_by}
use Rattle.std.specs.Ordering.{nat_cmp, eq_by_cmp}
use Rattle.std.specs.Option.{is_some, option_to_list, option_and_then}
use Rattle.std.specs.Cmp.{nat_cmp_total}
use Rattle.std.specs.FinMap.{from_entries, empty, values, get, insert, get-empty, get-entries, get-from_entries, get-insert, same_map, nat_cmp-IsAntisymmetric}
use Rattle.std.proofs.lemmas.Bool.{false≢true, eq-eqb}
use Rattle.std.proofs.lemmas.List.{length-map, take_all}
use Rattle.std.proofs.lemmas.List.Filters.{length-filter_both}
use Rattle.std.proofs.Math.Seq.{take-nil}
use Rattle.std.specs.FinMap.Entries as by
use Rattle.incarnation.specs.declared.Update.{Update}
use Rattle.piggyback.specs.Picked.{Counted, HeldUpdates, IsOwn, left_after, is_candidate, in_order, picked, waiting}
use Rattle.piggyback.specs.Keyed.{keyed, found_of, is_in_order, IsPut, IsSent}
use Rattle.piggyback.proofs.Counts.{kept, get-left_after}
use Rattle.piggyback.proofs.Rising.{rises}
use Rattle.piggyback.proofs.Sorting.{in_order-all_placed, in_order-is, distinct-filter}
use Rattle.piggyback.proofs.Once.{candidates_once, picked_once}
use Rattle.piggyback.proofs.Owned.{Own, values_keyed, rising-values}
use Rattle.piggyback.proofs.Sending.{order_is, differ_in_order, differ_rising, ties, own_found, found-placed_all, found-filter, if_passes, in_order-filter, same_order}

-- the map of these entries
abbrev pub held_by : List Counted → HeldUpdates
held_by these = from_entries (keyed these)

pub get-keyed : (these : List Counted) (subject : ℕ) → get (held_by these) subject ≡ found_of subject these
get-keyed these subject = get-from_entries nat_cmp_total (keyed these) subject

-- it is empty where there are no entries, and only there
pub empty-keyed : (these : List Counted) → these ≡ [] → held_by these ≡ empty
empty-keyed these none = ap held_by none

pub keyed-empty : (these : List Counted) → held_by these ≡ empty → these ≡ []
keyed-empty [] none = refl
keyed-empty (x ∷ these) none =
    let subject = x.0.subject in
    let first = ap (λ b. cond b (Some x) (found_of subject these)) (ties subject subject ∙ eq-eqb subject subject refl) in
    absurd (false≢true (ap is_some (sym (get-empty nat_cmp subject) ∙ ap (λ held. get held subject) (sym none) ∙ get-keyed (x ∷ these) subject ∙ first)))

-- it is the one in which the same stands of each subject
map_is : (these : List Counted) (held : HeldUpdates) → ((subject : ℕ) → found_of subject these ≡ get held subject) → held_by these ≡ held
map_is these held same = same_map nat_cmp_total nat_cmp-IsAntisymmetric _ _ (λ subject. get-keyed these subject ∙ same subject)

held-put : (v : Counted) (old new : List Counted) → IsPut v old new → held_by new ≡ insert (held_by old) v.0.subject v
held-put v old new put =
    map_is new _ (λ subject.
    put.stands subject
    ∙ ap (λ b. cond b (Some v) (found_of subject old)) (sym (ties subject v.0.subject))
    ∙ ap (cond (eq_by_cmp nat_cmp subject v.0.subject) (Some v)) (sym (get-keyed old subject))
    ∙ sym (get-insert nat_cmp_total (held_by old) v.0.subject v subject))

-- a call that puts one may have been refused
pub order-after : {A E : Type 0} (r : Result A E) (v : Counted) (old new : List Counted) → OnOk r (IsPut v old new) → OnErr r (new ≡ old) → is_in_order old ≡ true → is_in_order new ≡ true
order-after (Ok x) v old new ok err ordered = ok.ordered
order-after (Err e) v old new ok err ordered = ap is_in_order err ∙ ordered

pub held-after : {A E : Type 0} (r : Result A E) (v : Counted) (old new : List Counted) → OnOk r (IsPut v old new) → OnOk r (held_by new ≡ insert (held_by old) v.0.subject v)
held-after (Ok x) v old new ok = held-put v old new ok
held-after (Err e) v old new ok = tt

-- after a message
pub held-sent : (updates : List Update) (limit : ℕ) (old new : List Counted) → IsSent updates limit old new → held_by new ≡ left_after (held_by old) updates limit
held-sent updates limit old new sent =
    map_is new _ (λ subject.
    sent.stands subject
    ∙ ap (option_and_then (kept updates limit)) (sym (get-keyed old subject))
    ∙ sym (get-left_after updates limit (held_by old) subject))

own-held : (these : List Counted) → IsOwn (held_by these)
own-held these subject = subst (Own subject) (sym (get-keyed these subject)) (own_found subject these)

found-values : (these : List Counted) (subject : ℕ) → found_of subject (values (held_by these)) ≡ found_of subject these
found-values these subject =
    ap (by.find nat_cmp subject) (values_keyed (held_by these) (own-held these))
    ∙ sym (get-entries (held_by these) subject)
    ∙ get-keyed these subject

-- the map's values that pass, in order, are the entries that pass
in_order-values : (p : Counted → Bool) (these : List Counted) → is_in_order these ≡ true → in_order (filter p (values (held_by these))) ≡ filter p these
in_order-values p these ordered =
    let all = values (held_by these) in
    let rising = rises all (rising-values (held_by these) (own-held these)) in
    let inside = order_is these ordered in
    let distinct = distinct-filter p all rising in
    same_order (in_order (filter p all)) (filter p these) (in_order-is (filter p all) distinct) (in_order-filter p these inside) (λ subject.
    ap (found_of subject) (in_order-all_placed (filter p all) distinct)
    ∙ found-placed_all subject (filter p all) distinct
    ∙ found-filter p subject all (differ_rising all rising)
    ∙ ap (option_and_then (if_passes p)) (found-values these subject)
    ∙ sym (found-filter p subject these (differ_in_order these inside)))

-- what is picked of the entries is what is picked of the map
pub picked-keyed : (these : List Counted) (carry limit : ℕ) (buddy : Option Update) → is_in_order these ≡ true → take carry (option_to_list buddy ++ map (λ it. it.0) (filter (is_candidate limit buddy) these)) ≡ picked (held_by these) carry limit buddy
picked-keyed these carry limit buddy ordered =
    ap (λ l. take carry (option_to_list buddy ++ map (λ (it : Counted). it.0) l)) (sym (in_order-values (is_candidate limit buddy) these ordered))

-- and all the entries that may be sent are all that may be sent of the map
pub waiting-keyed : (these : List Counted) (many limit : ℕ) → is_in_order these ≡ true → length these ≤ many → take many (map (λ it. it.0) (filter (is_candidate limit None) these)) ≡ waiting (held_by these) limit
waiting-keyed these many limit ordered all =
    let may = is_candidate limit None in
    let updates = length-map (filter may these) (λ (it : Counted). it.0) in
    let some = length-filter_both may (λ it. not (may it)) (λ it. refl) these in
    take_all many (map (λ (it : Counted). it.0) (filter may these)) (omega (arith, all, updates, some))
    ∙ ap (λ l. map (λ (it : Counted). it.0) l) (sym (in_order-values may these ordered))

pub waiting-empty : (limit : ℕ) → waiting empty limit ≡ []
waiting-empty limit = ap (λ (held : HeldUpdates). waiting held limit) (sym (empty-keyed [] refl)) ∙ sym (waiting-keyed [] 0 limit refl (omega arith))

pub once-keyed : (these : List Counted) (carry limit : ℕ) (buddy : Option Update) (subject : ℕ) → count_by (λ (update : Update). eqb update.subject subject) (picked (held_by these) carry limit buddy) ≤ 1
once-keyed these carry limit buddy subject =
    picked_once (values (held_by these)) (rising-values (held_by these) (own-held these)) limit carry buddy subject

pub waiting-once : (these : List Counted) (limit subject : ℕ) → count_by (λ (update : Update). eqb update.subject subject) (waiting (held_by these) limit) ≤ 1
waiting-once these limit subject =
    candidates_once (values (held_by these)) (rising-values (held_by these) (own-held these)) limit None subject

-- where there are no updates none is picked but the buddy, and none is left
pub picked-empty : (held : HeldUpdates) (carry limit : ℕ) (buddy : Option Update) → held ≡ empty → is_some buddy ≡ false → picked held carry limit buddy ≡ []
picked-empty held carry limit None none alone = ap (λ h. picked h carry limit None) none ∙ sym (picked-keyed [] carry limit None refl) ∙ take-nil carry
picked-empty held carry limit (Some buddy) none alone = absurd (false≢true (sym alone))

pub left-empty : (held : HeldUpdates) (updates : List Update) (limit : ℕ) → held ≡ empty → left_after held updates limit ≡ held
left-empty held updates limit none = ap (λ h. left_after h updates limit) none ∙ sym (held-sent updates limit [] [] record { ordered = refl; stands = λ subject. refl }) ∙ sym none
