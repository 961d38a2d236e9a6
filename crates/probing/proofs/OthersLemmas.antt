-- What an insert and a removal leave of the other members.
use Rattle.std.proofs.Common.{◌≡◌, ◌≢◌, ℕ, suc, ◌+◌, ◌-◌, ◌<◌, ◌≤◌, ◌==◌, Bool, true, false, not, nat_lt, Some, None, position, List, [], ◌∷◌, ◌++◌, length, get_or, take, drop, insert, remove, length-drop, refl, sym, ap, subst, ◌∙◌, inl, inr, ◌⊎◌, drop-cons, arith}
use Rattle.std.proofs.Math.Seq.{take-append_seam, drop-append_seam}
use Rattle.std.specs.List.{position_or_len}
use Rattle.std.proofs.lemmas.Bool.{cases_Bool, cases_lt, eqb-true, eq-eqb}
use Rattle.std.proofs.lemmas.Bool.Decides.{nat_tests}
use Rattle.std.proofs.lemmas.List.{take-append-drop, length-take, get_or-take, get_or-drop}
use Rattle.std.proofs.lemmas.List.Edits.{length-insert, length-remove, insert-append_left, insert-append_right, remove-append_left, remove-append_right}
use Rattle.std.proofs.lemmas.List.Elements.{filter-append}
use Rattle.std.proofs.lemmas.List.Sums.{sum_by-append, sum_by-take-drop, passes_at_first}
use Rattle.probing.specs.ProbeOrder.{ProbeOrder, NoRepeats, IsSoundOrder, times_in, put_at, taken_at, remove_of}
use Rattle.probing.specs.Rounds.{probed, coming, others}
use Rattle.probing.proofs.RoundLemmas.{some_none}
use Rattle.probing.proofs.SoundLemmas.{one_if, times_in-get_or, times_in-others-same, times_in-others-other, are_members-remove, times_in-cons, one_if-same}

-- where a member isn't there, all are others
pub others_absent : (m : ℕ) (xs : List ℕ) → times_in xs m ≡ 0 → others m xs ≡ xs
others_absent m [] absent = refl
others_absent m (x ∷ xs) absent =
    elim (cases_Bool (x == m)) [
      | inl own ↦ absurd (omega (arith, absent, times_in-cons x xs m, one_if-same x m (eqb-true x m own)))
      | inr apart ↦
          let more : times_in xs m ≡ 0 = omega (arith, absent, times_in-cons x xs m) in
          rw apart (ap (λ l. x ∷ l) (others_absent m xs more))
    ]

-- two parts of a list
pub times_in-append : (xs ys : List ℕ) (m : ℕ) → times_in (xs ++ ys) m ≡ times_in xs m + times_in ys m
times_in-append xs ys m = sum_by-append (λ other. one_if (other == m)) xs ys

others-append : (m : ℕ) (xs ys : List ℕ) → others m (xs ++ ys) ≡ others m xs ++ others m ys
others-append m xs ys = filter-append (λ other. not (other == m)) xs ys

-- the member itself is none of the others
others_own : (m : ℕ) (xs : List ℕ) → others m (m ∷ xs) ≡ others m xs
others_own m xs = let own : (m == m) ≡ true = eq-eqb m m refl in rw own refl

-- the parts of a list at a place
times_in-split : (xs : List ℕ) (i m : ℕ) → times_in (take i xs) m + times_in (drop i xs) m ≡ times_in xs m
times_in-split xs i m = sum_by-take-drop (λ other. one_if (other == m)) xs i

-- a member that is put in
pub others-insert : (m : ℕ) (xs : List ℕ) (i : ℕ) → times_in xs m ≡ 0 → others m (insert xs i m) ≡ xs
others-insert m xs i absent =
    let front = others_absent m (take i xs) (omega (arith, absent, times_in-split xs i m)) in
    let back = others_absent m (drop i xs) (omega (arith, absent, times_in-split xs i m)) in
    others-append m (take i xs) (m ∷ drop i xs)
    ∙ rw (others_own m (drop i xs), front, back) (take-append-drop i xs)

-- a member that is taken out, in a list where it is once
others-remove : (m : ℕ) (xs : List ℕ) (i : ℕ) → i < length xs → get_or xs i 0 ≡ m → times_in xs m ≤ 1 → remove xs i ≡ others m xs
others-remove m xs i within here once =
    let at : drop i xs ≡ m ∷ drop (suc i) xs = drop-cons xs i 0 within ∙ ap (λ x. x ∷ drop (suc i) xs) here in
    let whole : xs ≡ take i xs ++ m ∷ drop (suc i) xs = sym (take-append-drop i xs) ∙ ap (λ l. take i xs ++ l) at in
    let counted : times_in xs m ≡ times_in (take i xs) m + times_in (m ∷ drop (suc i) xs) m =
    ap (λ l. times_in l m) whole ∙ times_in-append (take i xs) (m ∷ drop (suc i) xs) m in
    let one = times_in-cons m (drop (suc i) xs) m in
    let own = one_if-same m m refl in
    let front = others_absent m (take i xs) (omega (arith, counted, one, own, once)) in
    let back = others_absent m (drop (suc i) xs) (omega (arith, counted, one, own, once)) in
    sym (ap (others m) whole ∙ others-append m (take i xs) (m ∷ drop (suc i) xs)
    ∙ rw (others_own m (drop (suc i) xs), front, back) refl)

-- the members on both sides of a mark
before_mark : (front back : List ℕ) (mark : ℕ) → mark ≡ length front → take mark (front ++ back) ≡ front
before_mark front back mark is = rw is (take-append_seam front back)

after_mark : (front back : List ℕ) (mark : ℕ) → mark ≡ length front → drop mark (front ++ back) ≡ back
after_mark front back mark is = rw is (drop-append_seam front back)

-- both sides of the mark, given both lists
record IsCut (order : ProbeOrder) (front back : List ℕ) : Type 0 where
  pub before : probed order ≡ front
  pub after : coming order ≡ back

cut_at : (order : ProbeOrder) (front back : List ℕ) → order.members ≡ front ++ back → order.mark ≡ length front → IsCut order front back
cut_at order front back is mark = record {
  before = ap (take order.mark) is ∙ before_mark front back order.mark mark;
  after = ap (drop order.mark) is ∙ after_mark front back order.mark mark;
}

length_probed : (order : ProbeOrder) → order.mark ≤ length order.members → length (probed order) ≡ order.mark
length_probed order within = omega (arith, length-take order.mark order.members)

-- the sides after a member was put at a place
pub record KeepsOthers (m : ℕ) (order after : ProbeOrder) : Type 0 where
  pub before : others m (probed after) ≡ probed order
  pub behind : others m (coming after) ≡ coming order

pub put_keeps_others : (place m : ℕ) (order : ProbeOrder) → order.mark ≤ length order.members → times_in order.members m ≡ 0
    → KeepsOthers m order (put_at place m order)
put_keeps_others place m order within absent =
    let front = probed order in
    let back = coming order in
    let size : length front ≡ order.mark = length_probed order within in
    let counted = times_in-split order.members order.mark m in
    let front_absent : times_in front m ≡ 0 = omega (arith, counted, absent) in
    let back_absent : times_in back m ≡ 0 = omega (arith, counted, absent) in
    let whole : insert order.members place m ≡ insert (front ++ back) place m =
    ap (λ l. insert l place m) (sym (take-append-drop order.mark order.members)) in
    elim (cases_lt place order.mark) [
      | inl below ↦
          let test : nat_lt place order.mark ≡ true = grind (arith, nat_tests) in
          let cut : IsCut (put_at place m order) (insert front place m) back =
          cut_at (put_at place m order) (insert front place m) back
          (whole ∙ insert-append_left front back place m (omega (arith, size, below)))
          (rw test (omega (arith, size, length-insert front place m (omega (arith, size, below))))) in
          record {
            before = ap (others m) cut.before ∙ others-insert m front place front_absent;
            behind = ap (others m) cut.after ∙ others_absent m back back_absent;
          }
      | inr behind ↦
          let test : nat_lt place order.mark ≡ false = grind (arith, nat_tests) in
          let cut : IsCut (put_at place m order) front (insert back (place - order.mark) m) =
          cut_at (put_at place m order) front (insert back (place - order.mark) m)
          (whole ∙ insert-append_right front back order.mark place m size behind)
          (rw test (sym size)) in
          record {
            before = ap (others m) cut.before ∙ others_absent m front front_absent;
            behind = ap (others m) cut.after ∙ others-insert m back (place - order.mark) back_absent;
          }
    ]

-- a member that is taken out of its place
pub record IsTaken (m : ℕ) (order : ProbeOrder) (place : ℕ) : Type 0 where
  pub is : remove_of m order ≡ taken_at place order
  pub within : place < length order.members
  pub own : get_or order.members place 0 ≡ m

-- a member that isn't there
pub record IsAbsent (m : ℕ) (order : ProbeOrder) : Type 0 where
  pub is : remove_of m order ≡ order
  pub absent : times_in order.members m ≡ 0

-- no place is found for it
none_found : (m : ℕ) (xs : List ℕ) → length xs ≤ position_or_len (λ other. other == m) xs → times_in xs m ≡ 0
none_found m [] past = refl
none_found m (x ∷ xs) past =
    elim (cases_Bool (x == m)) [
      | inl own ↦ absurd (first_is_not_past m x xs own past)
      | inr apart ↦
          let none : one_if (x == m) ≡ 0 = rw apart refl in
          let later : position_or_len (λ other. other == m) (x ∷ xs) ≡ 1 + position_or_len (λ other. other == m) xs = rw apart refl in
          omega (arith, times_in-cons x xs m, none, none_found m xs (omega (arith, later, past)))
    ]
  where
    first_is_not_past : (m x : ℕ) (xs : List ℕ) → (x == m) ≡ true → length (x ∷ xs) ≤ position_or_len (λ other. other == m) (x ∷ xs) → ⊥
    first_is_not_past m x xs own past =
        let first : position_or_len (λ other. other == m) (x ∷ xs) ≡ 0 = rw own refl in
        omega (arith, first, past)

-- one or the other
pub remove_cases : (m : ℕ) (order : ProbeOrder) → ((place : ℕ) × IsTaken m order place) ⊎ IsAbsent m order
unfolding remove_of
remove_cases m order =
    let xs = order.members in
    let is_own : ℕ → Bool = λ other. other == m in
    let place = position_or_len is_own xs in
    elim (cases_lt place (length xs)) [
      | inl found ↦
          let test : nat_lt place (length xs) ≡ true = grind (arith, nat_tests) in
          inl (
            place,
            record {
              is = rw test refl;
              within = found;
              own = eqb-true (get_or xs place 0) m (passes_at_first is_own xs 0 found);
            },
          )
      | inr past ↦
          let test : nat_lt place (length xs) ≡ false = grind (arith, nat_tests) in
          inr (record { is = rw test refl; absent = none_found m xs past })
    ]

-- the sides after a member was taken out
pub record LeavesOthers (m : ℕ) (order after : ProbeOrder) : Type 0 where
  pub before : probed after ≡ others m (probed order)
  pub behind : coming after ≡ others m (coming order)

taken_leaves_others : (place m : ℕ) (order : ProbeOrder) → order.mark ≤ length order.members → NoRepeats order.members
    → place < length order.members → get_or order.members place 0 ≡ m → LeavesOthers m order (taken_at place order)
taken_leaves_others place m order within distinct found own =
    let front = probed order in
    let back = coming order in
    let size : length front ≡ order.mark = length_probed order within in
    let counted = times_in-split order.members order.mark m in
    let once = distinct m in
    let whole : remove order.members place ≡ remove (front ++ back) place =
    ap (λ l. remove l place) (sym (take-append-drop order.mark order.members)) in
    elim (cases_lt place order.mark) [
      | inl below ↦
          let test : nat_lt place order.mark ≡ true = grind (arith, nat_tests) in
          let here : get_or front place 0 ≡ m = get_or-take order.mark order.members place 0 below ∙ own in
          let there : 1 ≤ times_in front m =
          subst (λ (k : ℕ). 1 ≤ times_in front k) here (times_in-get_or front place (omega (arith, size, below))) in
          let rest : remove front place ≡ others m front =
          others-remove m front place (omega (arith, size, below)) here (omega (arith, counted, once)) in
          let cut : IsCut (taken_at place order) (remove front place) back =
          cut_at (taken_at place order) (remove front place) back
          (whole ∙ remove-append_left front back place (omega (arith, size, below)))
          (rw test (omega (arith, size, length-remove front place (omega (arith, size, below))))) in
          record {
            before = cut.before ∙ rest;
            behind = cut.after ∙ sym (others_absent m back (omega (arith, counted, once, there)));
          }
      | inr behind ↦
          let test : nat_lt place order.mark ≡ false = grind (arith, nat_tests) in
          let at = place - order.mark in
          let inside : at < length back = omega (arith, length-drop order.mark order.members, behind, found) in
          let same : order.mark + at ≡ place = omega (arith, behind) in
          let here : get_or back at 0 ≡ m =
          get_or-drop order.mark order.members at 0 ∙ ap (λ (k : ℕ). get_or order.members k 0) same ∙ own in
          let there : 1 ≤ times_in back m = subst (λ (k : ℕ). 1 ≤ times_in back k) here (times_in-get_or back at inside) in
          let rest : remove back at ≡ others m back = others-remove m back at inside here (omega (arith, counted, once)) in
          let cut : IsCut (taken_at place order) front (remove back at) =
          cut_at (taken_at place order) front (remove back at)
          (whole ∙ remove-append_right front back order.mark place size behind)
          (rw test (sym size)) in
          record {
            before = cut.before ∙ sym (others_absent m front (omega (arith, counted, once, there)));
            behind = cut.after ∙ rest;
          }
    ]

-- a removal
pub remove_leaves_others : (m : ℕ) (order : ProbeOrder) → IsSoundOrder order → LeavesOthers m order (remove_of m order)
remove_leaves_others m order sound =
    elim (remove_cases m order) [
      | inl (place, taken) ↦
          rw taken.is (taken_leaves_others place m order sound.within sound.listed.distinct taken.within taken.own)
      | inr gone ↦
          let counted = times_in-split order.members order.mark m in
          rw gone.is record {
            before = sym (others_absent m (probed order) (omega (arith, counted, gone.absent)));
            behind = sym (others_absent m (coming order) (omega (arith, counted, gone.absent)));
          }
    ]

-- then the member isn't there
pub removed_absent : (m : ℕ) (order : ProbeOrder) → IsSoundOrder order → times_in (remove_of m order).members m ≡ 0
removed_absent m order sound =
    let after = remove_of m order in
    let left = remove_leaves_others m order sound in
    let before : times_in (probed after) m ≡ 0 = ap (λ l. times_in l m) left.before ∙ times_in-others-same m (probed order) in
    let behind : times_in (coming after) m ≡ 0 = ap (λ l. times_in l m) left.behind ∙ times_in-others-same m (coming order) in
    omega (arith, times_in-split after.members after.mark m, before, behind)

-- and each other one is there as before
pub others_counted : (m k : ℕ) (order : ProbeOrder) → IsSoundOrder order → m ≢ k → times_in (remove_of m order).members k ≡ times_in order.members k
others_counted m k order sound other =
    let after = remove_of m order in
    let left = remove_leaves_others m order sound in
    let before : times_in (probed after) k ≡ times_in (probed order) k =
    ap (λ l. times_in l k) left.before ∙ times_in-others-other m k (probed order) other in
    let behind : times_in (coming after) k ≡ times_in (coming order) k =
    ap (λ l. times_in l k) left.behind ∙ times_in-others-other m k (coming order) other in
    omega (
      arith,
      times_in-split after.members after.mark k,
      times_in-split order.members order.mark k,
      before,
      behind,
    )

-- a sound order stays so
pub remove_sound : (m : ℕ) (order : ProbeOrder) → IsSoundOrder order → IsSoundOrder (remove_of m order)
remove_sound m order sound =
    elim (remove_cases m order) [
      | inl (place, taken) ↦ rw taken.is record {
        listed = are_members-remove order.members place taken.within sound.listed;
        within = grind (arith, nat_tests, length-remove order.members place taken.within, taken.within, sound.within);
      }
      | inr gone ↦ rw gone.is sound
    ]

-- where no place is found, the member isn't there
pub absent_unfound : (m : ℕ) (xs : List ℕ) → None ≡ position (λ other. other == m) xs → times_in xs m ≡ 0
absent_unfound m xs is =
    let place = position_or_len (λ other. other == m) xs in
    elim (cases_lt place (length xs)) [
      | inl found ↦
          let test : nat_lt place (length xs) ≡ true = grind (arith, nat_tests) in
          let some : position (λ other. other == m) xs ≡ Some place = rw test refl in
          absurd (some_none place (sym some ∙ sym is))
      | inr past ↦ none_found m xs past
    ]
