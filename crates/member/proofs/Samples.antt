-- Those who are drawn among the candidates are members of the scenario, and few.
use Rattle.std.proofs.Common.{◌≡◌, ℕ, ◌+◌, ◌*◌, ◌<◌, ◌≤◌, ◌==◌, ◌&&◌, ◌||◌, Bool, true, false, cond, nat_lt, nat_eq, List, [], ◌∷◌, map, filter, length, refl, sym, ap, subst, ◌∙◌, arith}
use Rattle.std.specs.Prelude.{All}
use Rattle.std.specs.List.{AllByRecursion}
use Rattle.std.specs.FinMap.{entries, contains_key, empty, len, empty_of_len, len-empty}
use Rattle.std.specs.Ordering.{nat_cmp}
use Rattle.piggyback.specs.Picked.{Counted, HeldUpdates}
use Rattle.std.proofs.lemmas.Bool.{false≢true, eqb-true, eq-eqb}
use Rattle.std.proofs.lemmas.List.{length-map, length-append}
use Rattle.std.proofs.lemmas.List.Sums.{length-filter, count_by-le-length}
use Rattle.std.proofs.lemmas.List.Elements.{All-from_recursion}
use Rattle.base.proofs.Rising.{all_append}
use Rattle.probing.specs.Samples.{is_in, does_fit_in}
use Rattle.incarnation.specs.declared.Claim.{Claim}
use Rattle.membership.specs.declared.candidates.Candidate.{Candidate}
use Rattle.membership.specs.Candidates.{candidates_of, known_candidate}
use Rattle.membership.specs.Table.{Known}
use Rattle.membership.proofs.Few.{entries_below, few_entries}

abbrev Entry : Type 0
Entry = ℕ × (Claim × ℕ)

abbrev pub FitsBelow : ℕ → Candidate → Type 0
FitsBelow n c = c.fits ≡ true → c.member < n

module _ (n me : ℕ) (fits : ℕ → Claim → Bool) (table : Known) (below : (q : ℕ) → contains_key table q ≡ true → q < n) where
  known_below : (test : Entry → Bool) (es : List Entry) → AllByRecursion (λ e. e.0 < n) es → AllByRecursion (FitsBelow n) (map (known_candidate fits) (filter test es))
  known_below test [] all = tt
  known_below test (e ∷ es) all = by_test (test e) (known_below test es all.1)
    where
      by_test : (b : Bool) → AllByRecursion (FitsBelow n) (map (known_candidate fits) (filter test es))
          → AllByRecursion (FitsBelow n) (map (known_candidate fits) (cond b (e ∷ filter test es) (filter test es)))
      by_test true rest = ((λ _. all.0), rest)
      by_test false rest = rest

  pub candidates_below : AllByRecursion (FitsBelow n) (candidates_of me fits table)
  unfolding candidates_of
  candidates_below =
      let all = entries_below n table below in
      all_append (FitsBelow n) (map (known_candidate fits) (filter (λ (e : Entry). nat_lt e.0 me) (entries table)))
      (record { member = me; fits = false } ∷ map (known_candidate fits) (filter (λ (e : Entry). nat_lt me e.0) (entries table)))
      (known_below (λ (e : Entry). nat_lt e.0 me) (entries table) all)
      ((λ none. absurd (false≢true none)), known_below (λ (e : Entry). nat_lt me e.0) (entries table) all)

  side_few : (test : Entry → Bool) → length (map (known_candidate fits) (filter test (entries table))) ≤ n
  side_few test =
      omega (arith, length-map (filter test (entries table)) (known_candidate fits), length-filter test (entries table), count_by-le-length test (entries table), few_entries n table below)

  pub candidates_few : length (candidates_of me fits table) ≤ 2 * n + 1
  unfolding candidates_of
  candidates_few =
      let front = map (known_candidate fits) (filter (λ (e : Entry). nat_lt e.0 me) (entries table)) in
      let back = map (known_candidate fits) (filter (λ (e : Entry). nat_lt me e.0) (entries table)) in
      omega (arith, length-append front (record { member = me; fits = false } ∷ back), side_few (λ (e : Entry). nat_lt e.0 me), side_few (λ (e : Entry). nat_lt me e.0))

pub candidates_some : (me : ℕ) (fits : ℕ → Claim → Bool) (table : Known) → 0 < length (candidates_of me fits table)
unfolding candidates_of
candidates_some me fits table =
    let front = map (known_candidate fits) (filter (λ (e : Entry). nat_lt e.0 me) (entries table)) in
    let back = map (known_candidate fits) (filter (λ (e : Entry). nat_lt me e.0) (entries table)) in
    omega (arith, length-append front (record { member = me; fits = false } ∷ back))

-- who is one that fits is below the bound
fit_below : (n : ℕ) (cs : List Candidate) → AllByRecursion (FitsBelow n) cs → (m : ℕ) → does_fit_in cs m ≡ true → m < n
fit_below n [] all m here = absurd (false≢true here)
fit_below n (c ∷ cs) all m here = by_test c.fits (c.member == m) refl refl (fit_below n cs all.1 m) here
  where
    by_test : (a b : Bool) → c.fits ≡ a → (c.member == m) ≡ b → (does_fit_in cs m ≡ true → m < n) → (a && b || does_fit_in cs m) ≡ true → m < n
    by_test true true fits same rest here = subst (λ q. q < n) (eqb-true c.member m same) (all.0 fits)
    by_test true false fits same rest here = rest here
    by_test false b fits same rest here = rest here

each_below : (n : ℕ) (xs : List ℕ) → ((m : ℕ) → is_in m xs ≡ true → m < n) → AllByRecursion (λ q. q < n) xs
each_below n [] all = tt
each_below n (x ∷ xs) all = (all x (first (x == x) (is_in x xs) (eq-eqb x x refl)), each_below n xs (λ m here. all m (later (x == m) (is_in m xs) here)))
  where
    first : (a b : Bool) → a ≡ true → (a || b) ≡ true
    first true b h = refl
    first false b h = absurd (false≢true h)

    later : (a b : Bool) → b ≡ true → (a || b) ≡ true
    later true b h = refl
    later false b h = h

-- whoever was taken among candidates, of whom each that fits is below a bound
pub sample_below : (n : ℕ) (cs : List Candidate) (xs : List ℕ) → AllByRecursion (FitsBelow n) cs → ((m : ℕ) → is_in m xs ≡ true → does_fit_in cs m ≡ true) → All (λ q. q < n) xs
sample_below n cs xs all fit = All-from_recursion (λ q. q < n) xs (each_below n xs (λ m here. fit_below n cs all m (fit m here)))

-- ---- what is left to send

pub told_out : (b : Bool) (held : HeldUpdates) → (b ≡ true → held ≡ empty) × (held ≡ empty → b ≡ true) → b ≡ nat_eq (len held) 0
told_out true held both = sym (eq-eqb (len held) 0 (ap len (both.0 refl) ∙ len-empty nat_cmp Counted))
told_out false held both = by_test (nat_eq (len held) 0) refl
  where
    by_test : (c : Bool) → nat_eq (len held) 0 ≡ c → false ≡ c
    by_test true e = absurd (false≢true (both.1 (empty_of_len held (eqb-true (len held) 0 e))))
    by_test false e = refl

pub none_left : {A : Type 0} (b : Bool) (xs : List A) → (b ≡ true → xs ≡ []) × (xs ≡ [] → b ≡ true) → b ≡ nat_eq (length xs) 0
none_left b [] both = both.1 refl
none_left true (x ∷ xs) both = let none : x ∷ xs ≡ [] = both.0 refl in cc
none_left false (x ∷ xs) both = by_test (nat_eq (length (x ∷ xs)) 0) refl
  where
    by_test : (c : Bool) → nat_eq (length (x ∷ xs)) 0 ≡ c → false ≡ c
    by_test true e = let none : length (x ∷ xs) ≡ 0 = eqb-true (length (x ∷ xs)) 0 e in absurd (omega (arith, none))
    by_test false e = refl
