-- Where the pointers point: to the one item about their subject, wherever it stands in the list.
use Rattle.std.proofs.Common.{◌≡◌, ℕ, zero, suc, ◌<◌, length, get_or, ◌+◌, ◌≤◌, Bool, true, false, cond, eqb, List, [], ◌∷◌, ◌++◌, Option, Some, None, refl, sym, ap, ◌∙◌, inl, inr, arith}
use Rattle.std.specs.List.{count_by, find, position, position_or_len}
use Rattle.std.specs.Option.{option_or}
use Rattle.std.proofs.lemmas.List.Folds.{find-append}
use Rattle.std.proofs.lemmas.List.Quantifiers.{position-Some}
use Rattle.std.specs.Ordering.{nat_cmp, eq_by_cmp}
use Rattle.std.specs.Cmp.{nat_cmp_total}
use Rattle.std.specs.FinMap.{FinMap, from_entries, get, insert, remove, get-from_entries, get-insert, get-remove, same_map, nat_cmp-IsAntisymmetric}
use Rattle.std.specs.FinMap.Entries as by
use Rattle.std.proofs.lemmas.Bool.{cases_Bool, cases_lt, lt-ltb}
use Rattle.std.proofs.lemmas.Bool.Decides.{nat_tests}
use Rattle.std.proofs.lemmas.List.Sums.{sum_by-cons, sum_by-append}
use Rattle.broadcast_queue.specs.declared.items.Item.{Item}
use Rattle.broadcast_queue.specs.Items.{is_about}
use Rattle.broadcast_queue.specs.Contents.{keyed}

pub one_of : (b : Bool) → b ≡ true → cond {A = ℕ} b 1 0 ≡ 1
one_of b h = rw h refl

pub none_of : (b : Bool) → b ≡ false → cond {A = ℕ} b 1 0 ≡ 0
none_of b h = rw h refl

module _ (p : Item → Bool) where
  pub count_by-cons : (x : Item) (xs : List Item) → count_by p (x ∷ xs) ≡ cond (p x) 1 0 + count_by p xs
  count_by-cons x xs = sum_by-cons (λ it. cond (p it) 1 0) x xs

  pub count_by-append : (xs ys : List Item) → count_by p (xs ++ ys) ≡ count_by p xs + count_by p ys
  count_by-append xs ys = sum_by-append (λ it. cond (p it) 1 0) xs ys

  pub count_where : (front : List Item) (x : Item) (back : List Item) → count_by p (front ++ x ∷ back) ≡ cond (p x) 1 0 + count_by p (front ++ back)
  count_where front x back = omega (arith, count_by-append front (x ∷ back), count_by-append front back, count_by-cons x back)

  pub none_found : (xs : List Item) → count_by p xs ≡ 0 → find p xs ≡ None
  none_found [] none = refl
  none_found (x ∷ xs) none = elim (cases_Bool (p x)) [
    | inl passes ↦ absurd (omega (arith, count_by-cons x xs, one_of _ passes))
    | inr fails ↦ rw fails (none_found xs (omega (arith, count_by-cons x xs)))
  ]

  -- the only one is found wherever it stands
  pub found_where : (front : List Item) (x : Item) (back : List Item) → count_by p (front ++ x ∷ back) ≤ 1 → find p (front ++ x ∷ back) ≡ cond (p x) (Some x) (find p (front ++ back))
  found_where [] x back once = refl
  found_where (y ∷ front) x back once = elim (cases_Bool (p y)) [
    | inl passes ↦
        let alone : cond {A = ℕ} (p x) 1 0 ≡ 0 = omega (arith, count_by-cons y (front ++ x ∷ back), one_of _ passes, count_where front x back) in
        elim (cases_Bool (p x)) [
          | inl too ↦ absurd (omega (arith, alone, one_of _ too))
          | inr other ↦ rw (passes, other) refl
        ]
    | inr fails ↦ rw fails (found_where front x back (omega (arith, count_by-cons y (front ++ x ∷ back))))
  ]

-- the keys of a map of subjects
pub ties : (subject own : ℕ) → eq_by_cmp nat_cmp subject own ≡ eqb own subject
ties subject own = grind (arith, nat_tests)

pub find-keyed : (subject : ℕ) (items : List Item) → by.find nat_cmp subject (keyed items) ≡ find (is_about subject) items
find-keyed subject [] = refl
find-keyed subject (x ∷ items) =
    ap (λ b. cond b (Some x) (by.find nat_cmp subject (keyed items))) (ties subject x.update.subject)
    ∙ ap (cond (eqb x.update.subject subject) (Some x)) (find-keyed subject items)

abbrev pub pointers_of : List Item → FinMap nat_cmp Item
pointers_of items = from_entries (keyed items)

pub get-pointers : (subject : ℕ) (items : List Item) → get (pointers_of items) subject ≡ find (is_about subject) items
get-pointers subject items = get-from_entries nat_cmp_total (keyed items) subject ∙ find-keyed subject items

pub same_pointers : (m n : FinMap nat_cmp Item) → ((subject : ℕ) → get m subject ≡ get n subject) → m ≡ n
same_pointers m n same = same_map nat_cmp_total nat_cmp-IsAntisymmetric m n same

abbrev pub AreDistinct : List Item → Type 0
AreDistinct items = (subject : ℕ) → count_by (is_about subject) items ≤ 1

without_at : (x : Item) (front back : List Item) (subject : ℕ) → count_by (is_about subject) (front ++ x ∷ back) ≤ 1 → find (is_about subject) (front ++ back) ≡ cond (is_about subject x) None (find (is_about subject) (front ++ x ∷ back))
without_at x front back subject once = elim (cases_Bool (is_about subject x)) [
  | inl own ↦ rw own (none_found (is_about subject) (front ++ back) (omega (arith, count_where (is_about subject) front x back, one_of _ own)))
  | inr other ↦ rw (other, found_where (is_about subject) front x back once, other) refl
]

-- an item leaves the list
pub pointers-without : (x : Item) (front back : List Item) → AreDistinct (front ++ x ∷ back) → pointers_of (front ++ back) ≡ remove (pointers_of (front ++ x ∷ back)) x.update.subject
pointers-without x front back once =
    same_pointers _ _ (λ subject.
    get-pointers subject (front ++ back)
    ∙ without_at x front back subject (once subject)
    ∙ ap (λ b. cond b None (find (is_about subject) (front ++ x ∷ back))) (sym (ties subject x.update.subject))
    ∙ ap (cond (eq_by_cmp nat_cmp subject x.update.subject) None) (sym (get-pointers subject (front ++ x ∷ back)))
    ∙ sym (get-remove nat_cmp_total (pointers_of (front ++ x ∷ back)) x.update.subject subject))

-- an item about another subject than all comes into it
pub pointers-with : (x : Item) (front back : List Item) → AreDistinct (front ++ x ∷ back) → pointers_of (front ++ x ∷ back) ≡ insert (pointers_of (front ++ back)) x.update.subject x
pointers-with x front back once =
    same_pointers _ _ (λ subject.
    get-pointers subject (front ++ x ∷ back)
    ∙ found_where (is_about subject) front x back (once subject)
    ∙ ap (λ b. cond b (Some x) (find (is_about subject) (front ++ back))) (sym (ties subject x.update.subject))
    ∙ ap (cond (eq_by_cmp nat_cmp subject x.update.subject) (Some x)) (sym (get-pointers subject (front ++ back)))
    ∙ sym (get-insert nat_cmp_total (pointers_of (front ++ back)) x.update.subject x subject))

-- an item goes to another place
pub pointers-moved : (x : Item) (front back front' back' : List Item) → front ++ back ≡ front' ++ back' → AreDistinct (front ++ x ∷ back) → pointers_of (front ++ x ∷ back) ≡ pointers_of (front' ++ x ∷ back')
pointers-moved x front back front' back' same once =
    same_pointers _ _ (λ subject.
    let p = is_about subject in
    get-pointers subject (front ++ x ∷ back)
    ∙ found_where p front x back (once subject)
    ∙ ap (λ l. cond (p x) (Some x) (find p l)) same
    ∙ sym (found_where p front' x back' (omega (arith, once subject, count_where p front x back, count_where p front' x back', ap (count_by p) same)))
    ∙ sym (get-pointers subject (front' ++ x ∷ back')))

-- what is found where a search by place ends
found_first : (p : Item → Bool) (items : List Item) (place : ℕ) (d : Item) → place < length items → p (get_or items place d) ≡ true → ((k : ℕ) → k < place → p (get_or items k d) ≡ false) → find p items ≡ Some (get_or items place d)
found_first p [] place d lt passes before = absurd (omega arith)
found_first p (x ∷ items) zero d lt passes before = rw passes refl
found_first p (x ∷ items) (suc place) d lt passes before = rw (before 0 (omega arith)) (found_first p items place d (omega arith) passes (λ k l. before (suc k) (omega arith)))

pub found_at_place : (p : Item → Bool) (items : List Item) (place : ℕ) (d : Item) → Some place ≡ position p items → find p items ≡ Some (get_or items place d)
found_at_place p items place d is =
    let at = position-Some p items place d (sym is) in
    found_first p items place d at.0 at.1 at.2

none_number : (n : ℕ) → ◌≡◌ {A = Option ℕ} None (Some n) → ⊥
none_number n e = cc

past_the_end : (p : Item → Bool) (items : List Item) → None ≡ position p items → length items ≤ position_or_len p items
past_the_end p items is = elim (cases_lt (position_or_len p items) (length items)) [
  | inl within ↦
      let some : position p items ≡ Some (position_or_len p items) = rw (lt-ltb _ _ within) refl in
      absurd (none_number _ (is ∙ some))
  | inr past ↦ past
]

none_before_end : (p : Item → Bool) (items : List Item) → length items ≤ position_or_len p items → find p items ≡ None
none_before_end p [] past = refl
none_before_end p (x ∷ items) past = elim (cases_Bool (p x)) [
  | inl passes ↦
      let first : position_or_len p (x ∷ items) ≡ 0 = rw passes refl in
      absurd (omega (arith, first, past))
  | inr fails ↦
      let later : position_or_len p (x ∷ items) ≡ 1 + position_or_len p items = rw fails refl in
      rw fails (none_before_end p items (omega (arith, later, past)))
]

pub none_at_place : (p : Item → Bool) (items : List Item) → None ≡ position p items → find p items ≡ None
none_at_place p items is = none_before_end p items (past_the_end p items is)

-- what a subject's pointer points to
pub points : (subject : ℕ) (items lost : List Item) → get (pointers_of (items ++ lost)) subject ≡ option_or (find (is_about subject) items) (find (is_about subject) lost)
points subject items lost = get-pointers subject (items ++ lost) ∙ find-append (is_about subject) items lost

pub none_counts : (p : Item → Bool) (items : List Item) → find p items ≡ None → count_by p items ≡ 0
none_counts p [] none = refl
none_counts p (x ∷ items) none = elim (cases_Bool (p x)) [
  | inl passes ↦
      let found : find p (x ∷ items) ≡ Some x = rw passes refl in
      absurd (none_item x (sym none ∙ found))
  | inr fails ↦ omega (arith, count_by-cons p x items, none_of _ fails, none_counts p items (rw fails at none))
]
  where
    none_item : (y : Item) → ◌≡◌ {A = Option Item} None (Some y) → ⊥
    none_item y e = cc

pub none_counted : (p : Item → Bool) (items lost : List Item) → find p items ≡ None → find p lost ≡ None → count_by p (items ++ lost) ≡ 0
none_counted p items lost none none' = omega (arith, count_by-append p items lost, none_counts p items none, none_counts p lost none')
