-- How often a subject is among the updates that are picked.
use Rattle.std.proofs.Common.{◌≡◌, ℕ, zero, suc, ◌+◌, ◌≤◌, Bool, true, false, cond, not, ◌||◌, eqb, List, [], ◌∷◌, ◌++◌, map, filter, take, Option, Some, None, refl, sym, ap, subst, ◌∙◌, inl, inr, arith}
use Rattle.std.specs.List.{count_by}
use Rattle.std.specs.Option.{option_to_list}
use Rattle.std.proofs.lemmas.Bool.{cases_Bool, cond_both, and_parts, eqb-true, eq-eqb, ne_eqb}
use Rattle.incarnation.specs.declared.Update.{Update}
use Rattle.piggyback.specs.Picked.{Counted, AreDistinct, is_candidate, in_order}
use Rattle.piggyback.proofs.Tally.{one_of, none_of, count_by-cons}
use Rattle.piggyback.proofs.Rising.{AllAbove, Rises, is_rising, rises}
use Rattle.piggyback.proofs.Sorting.{count_by-in_order, distinct-filter}

module _ {X : Type 0} (p : X → Bool) where
  count_by-take : (n : ℕ) (xs : List X) → count_by p (take n xs) ≤ count_by p xs
  count_by-take zero xs = omega arith
  count_by-take (suc n) [] = omega arith
  count_by-take (suc n) (x ∷ xs) = omega (arith, count_by-cons p x (take n xs), count_by-cons p x xs, count_by-take n xs)

  count_by-filter : (q : X → Bool) (xs : List X) → count_by p (filter q xs) ≤ count_by p xs
  count_by-filter q [] = omega arith
  count_by-filter q (x ∷ xs) =
      cond_both (q x) (x ∷ filter q xs) (filter q xs) (λ l. count_by p l ≤ count_by p (x ∷ xs))
      (λ _. omega (arith, count_by-cons p x (filter q xs), count_by-cons p x xs, count_by-filter q xs))
      (λ _. omega (arith, count_by-cons p x xs, count_by-filter q xs))

  -- none of those that pass q passes p
  none_passes : (q : X → Bool) (xs : List X) → ((x : X) → q x ≡ true → p x ≡ false) → count_by p (filter q xs) ≡ 0
  none_passes q [] apart = refl
  none_passes q (x ∷ xs) apart =
      cond_both (q x) (x ∷ filter q xs) (filter q xs) (λ l. count_by p l ≡ 0)
      (λ passes. omega (arith, count_by-cons p x (filter q xs), none_of (p x) (apart x passes), none_passes q xs apart))
      (λ _. none_passes q xs apart)

-- whether an update, or an entry, is about the subject
abbrev about : ℕ → Update → Bool
about subject update = eqb update.subject subject

abbrev entry_about : ℕ → Counted → Bool
entry_about subject it = eqb it.0.subject subject

count_by-updates : (subject : ℕ) (these : List Counted) → count_by (about subject) (map (λ (it : Counted). it.0) these) ≡ count_by (entry_about subject) these
count_by-updates subject [] = refl
count_by-updates subject (it ∷ these) =
    count_by-cons (about subject) it.0 (map (λ (it : Counted). it.0) these)
    ∙ ap (λ n. cond (eqb it.0.subject subject) 1 0 + n) (count_by-updates subject these)
    ∙ sym (count_by-cons (entry_about subject) it these)

none_above : (subject m : ℕ) (these : List Counted) → subject ≤ m → AllAbove m these → count_by (entry_about subject) these ≡ 0
none_above subject m [] le h = refl
none_above subject m (it ∷ these) le h =
    omega (arith, count_by-cons (entry_about subject) it these, none_of (eqb it.0.subject subject) (ne_eqb it.0.subject subject (λ same. omega (arith, h.0))), none_above subject m these le h.1)

one_rising : (subject : ℕ) (these : List Counted) → Rises these → count_by (entry_about subject) these ≤ 1
one_rising subject [] h = omega arith
one_rising subject (it ∷ these) h =
    elim (cases_Bool (eqb it.0.subject subject)) [
      | inl own ↦
          let same = eqb-true it.0.subject subject own in
          let none = none_above subject it.0.subject these (omega arith) h.0 in
          omega (arith, count_by-cons (entry_about subject) it these, none, one_of _ own)
      | inr other ↦ omega (arith, count_by-cons (entry_about subject) it these, none_of _ other, one_rising subject these h.1)
    ]

-- of entries whose subjects rise, those that pass are about different subjects
pub distinct_rising : (test : Counted → Bool) (these : List Counted) → Rises these → AreDistinct (filter test these)
distinct_rising test these h subject = omega (arith, count_by-filter (entry_about subject) test these, one_rising subject these h)

-- a candidate is not about the buddy's subject
candidate_apart : (limit : ℕ) (buddy : Update) (it : Counted) → is_candidate limit (Some buddy) it ≡ true → eqb it.0.subject buddy.subject ≡ false
candidate_apart limit buddy it candidate =
    ne_eqb it.0.subject buddy.subject (λ same. apart (sym same) (and_parts _ _ candidate).1)
  where
    apart : buddy.subject ≡ it.0.subject → not (eqb buddy.subject it.0.subject || false) ≡ true → ⊥
    apart same absent = both (rw (eq-eqb _ _ same) at absent)
      where
        both : false ≡ true → ⊥
        both e = cc

module _ (these : List Counted) (rising : is_rising these ≡ true) (limit : ℕ) where
  pub candidates_once : (buddy : Option Update) (subject : ℕ) → count_by (about subject) (map (λ (it : Counted). it.0) (in_order (filter (is_candidate limit buddy) these))) ≤ 1
  candidates_once buddy subject =
      let all = rises these rising in
      omega (
        arith,
        count_by-updates subject (in_order (filter (is_candidate limit buddy) these)),
        count_by-in_order (entry_about subject) (filter (is_candidate limit buddy) these) (distinct-filter (is_candidate limit buddy) these all),
        count_by-filter (entry_about subject) (is_candidate limit buddy) these,
        one_rising subject these all,
      )

  none_of_buddy : (buddy : Update) → count_by (about buddy.subject) (map (λ (it : Counted). it.0) (in_order (filter (is_candidate limit (Some buddy)) these))) ≡ 0
  none_of_buddy buddy =
      let all = rises these rising in
      count_by-updates buddy.subject (in_order (filter (is_candidate limit (Some buddy)) these))
      ∙ count_by-in_order (entry_about buddy.subject) (filter (is_candidate limit (Some buddy)) these) (distinct-filter (is_candidate limit (Some buddy)) these all)
      ∙ none_passes (entry_about buddy.subject) (is_candidate limit (Some buddy)) these (candidate_apart limit buddy)

  all_once : (buddy : Option Update) (subject : ℕ) → count_by (about subject) (option_to_list buddy ++ map (λ (it : Counted). it.0) (in_order (filter (is_candidate limit buddy) these))) ≤ 1
  all_once None subject = candidates_once None subject
  all_once (Some buddy) subject =
      elim (cases_Bool (eqb buddy.subject subject)) [
        | inl own ↦
            let same = eqb-true buddy.subject subject own in
            omega (arith, count_by-cons (about subject) buddy rest, one_of _ own, subst (λ s. count_by (about s) rest ≡ 0) same (none_of_buddy buddy))
        | inr other ↦
            omega (arith, count_by-cons (about subject) buddy rest, none_of _ other, candidates_once (Some buddy) subject)
      ]
    where
      rest : List Update
      rest = map (λ (it : Counted). it.0) (in_order (filter (is_candidate limit (Some buddy)) these))

  -- no subject is carried twice
  pub picked_once : (carry : ℕ) (buddy : Option Update) (subject : ℕ) → count_by (about subject) (take carry (option_to_list buddy ++ map (λ (it : Counted). it.0) (in_order (filter (is_candidate limit buddy) these)))) ≤ 1
  picked_once carry buddy subject =
      omega (arith, count_by-take (about subject) carry (option_to_list buddy ++ map (λ (it : Counted). it.0) (in_order (filter (is_candidate limit buddy) these))), all_once buddy subject)
