-- Where times ascend, the time of a rank stands at its place.
use Rattle.std.proofs.Common.{◌≡◌, ◌+◌, ◌<◌, ◌≤◌, ◌==◌, ℕ, suc, Bool, true, false, cond, ◌||◌, List, [], ◌∷◌, length, get_or, take, drop, refl, sym, ap, ◌∙◌, arith, inl, inr, eq-eqb, eqb-true}
use Rattle.std.specs.Prelude.{Some, None, ◌⊎◌, nat_le, filter, count_by, All, min}
use Rattle.std.specs.List.{fold, reduce, list_any}
use Rattle.std.specs.List.Sorted.{IsPermutation, IsNonDecreasing}
use Rattle.std.proofs.lemmas.Bool.{false≢true}
use Rattle.std.proofs.lemmas.List.{get_or-take, get_or-drop, length-take-le, length-drop}
use Rattle.std.proofs.lemmas.List.Folds.{list_any_at}
use Rattle.std.proofs.lemmas.List.Sums.{sum_by-cons, sum_by-take-le, sum_by-take-drop, count_by-le-length}
use Rattle.std.proofs.lemmas.List.Sorted.{sum_by-IsPermutation, list_any-IsPermutation}
use Rattle.std.proofs.lemmas.List.Elements.{All-head, All-tail, All-from_get_or}
use Rattle.figures.specs.Settings.{up_to, at_rank}
use Rattle.figures.proofs.Roots.{le_true, le_false, le_from}

-- v is among the numbers, or it is the first one
abbrev IsLeastSoFar : ℕ → ℕ → List ℕ → Type 0
IsLeastSoFar v first rest = (first ≡ v) ⊎ (list_any (λ w. w == v) rest ≡ true)

least_step : (v first next : ℕ) (rest : List ℕ) → v ≤ first → v ≤ next → IsLeastSoFar v first (next ∷ rest) → IsLeastSoFar v (min first next) rest
least_step v first next rest low also (inl is) = inl (omega (arith, is, also))
least_step v first next rest low also (inr among) = settings (next == v) refl among
  where
    settings : (b : Bool) → (next == v) ≡ b → (b || list_any (λ w. w == v) rest) ≡ true → IsLeastSoFar v (min first next) rest
    settings true same held = let is : next ≡ v = eqb-true next v same in inl (omega (arith, is, low))
    settings false other held = inr held

module _ (test : ℕ → Bool) (v : ℕ) (passes : test v ≡ true) where
  -- the next number doesn't pass, so it isn't v
  least_past : (first next : ℕ) (rest : List ℕ) → test next ≡ false → IsLeastSoFar v first (next ∷ rest) → IsLeastSoFar v first rest
  least_past first next rest fails (inl is) = inl is
  least_past first next rest fails (inr among) = settings (next == v) refl among
    where
      settings : (b : Bool) → (next == v) ≡ b → (b || list_any (λ w. w == v) rest) ≡ true → IsLeastSoFar v first rest
      settings true same held = absurd (false≢true (sym fails ∙ ap test (eqb-true next v same) ∙ passes))
      settings false other held = inr held

  -- a number that passes isn't below v
  abbrev IsAbove : ℕ → Type 0
  IsAbove w = test w ≡ true → v ≤ w

  folded_settings : (next : ℕ) (rest : List ℕ) (first : ℕ) (b : Bool) → test next ≡ b
      → (test next ≡ true → fold min (min first next) (filter test rest) ≡ v) → (test next ≡ false → fold min first (filter test rest) ≡ v)
      → fold min first (cond b (next ∷ filter test rest) (filter test rest)) ≡ v
  folded_settings next rest first true here kept dropped = kept here
  folded_settings next rest first false here kept dropped = dropped here

  least_folded : (rest : List ℕ) (first : ℕ) → v ≤ first → All IsAbove rest → IsLeastSoFar v first rest → fold min first (filter test rest) ≡ v
  least_folded [] first low all (inl is) = is
  least_folded [] first low all (inr none) = absurd (false≢true none)
  least_folded (next ∷ rest) first low all least =
      folded_settings next rest first (test next) refl
      (λ here. let also : v ≤ next = All-head IsAbove next rest all here in
      least_folded rest (min first next) (omega (arith, low, also)) (All-tail IsAbove next rest all) (least_step v first next rest low also least))
      (λ here. least_folded rest first low (All-tail IsAbove next rest all) (least_past first next rest here least))

  first_or_later : (next : ℕ) (rest : List ℕ) (b : Bool) → (next == v) ≡ b → (b || list_any (λ w. w == v) rest) ≡ true → IsLeastSoFar v next rest
  first_or_later next rest true same held = inl (eqb-true next v same)
  first_or_later next rest false other held = inr held

  only_later : (next : ℕ) (rest : List ℕ) → test next ≡ false → IsLeastSoFar v next rest → list_any (λ w. w == v) rest ≡ true
  only_later next rest fails (inl is) = absurd (false≢true (sym fails ∙ ap test is ∙ passes))
  only_later next rest fails (inr held) = held

  passing_settings : (next : ℕ) (rest : List ℕ) (b : Bool) → test next ≡ b
      → (test next ≡ true → fold min next (filter test rest) ≡ v) → (test next ≡ false → reduce min (filter test rest) ≡ Some v)
      → reduce min (cond b (next ∷ filter test rest) (filter test rest)) ≡ Some v
  passing_settings next rest true here kept dropped = ap Some (kept here)
  passing_settings next rest false here kept dropped = dropped here

  -- the least of the numbers that pass a test is one that passes and that is above none
  pub least_passing : (numbers : List ℕ) → All IsAbove numbers → list_any (λ w. w == v) numbers ≡ true → reduce min (filter test numbers) ≡ Some v
  least_passing [] all none = absurd (false≢true none)
  least_passing (next ∷ rest) all among =
      let least = first_or_later next rest (next == v) refl among in
      passing_settings next rest (test next) refl
      (λ here. least_folded rest next (All-head IsAbove next rest all here) (All-tail IsAbove next rest all) least)
      (λ here. least_passing rest (All-tail IsAbove next rest all) (only_later next rest here least))

-- ---- counting times up to one of them

all_counted : (test : ℕ → Bool) (times : List ℕ) → ((i : ℕ) → i < length times → test (get_or times i 0) ≡ true) → count_by test times ≡ length times
all_counted test [] all = refl
all_counted test (time ∷ times) all =
    sum_by-cons (λ (t : ℕ). cond (test t) 1 0) time times ∙ ap (λ b. cond b 1 0 + count_by test times) (all 0 (omega arith))
    ∙ ap (λ n. 1 + n) (all_counted test times (λ i lt. all (suc i) (omega (arith, lt)))) ∙ one (length times)
  where
    one : (n : ℕ) → 1 + n ≡ suc n
    one n = omega arith

not_counted : (b : Bool) → b ≡ false → ◌≡◌ {A = ℕ} (cond b 1 0) 0
not_counted true fails = absurd (false≢true (sym fails))
not_counted false fails = refl

none_counted : (test : ℕ → Bool) (times : List ℕ) → ((i : ℕ) → i < length times → test (get_or times i 0) ≡ false) → count_by test times ≡ 0
none_counted test [] none = refl
none_counted test (time ∷ times) none =
    omega (
      arith,
      sum_by-cons (λ (t : ℕ). cond (test t) 1 0) time times,
      not_counted (test time) (none 0 (omega arith)),
      none_counted test times (λ i lt. none (suc i) (omega (arith, lt))),
    )

module _ (times : List ℕ) (ascend : IsNonDecreasing times) (k : ℕ) (here : k < length times) where
  abbrev ranked : ℕ
  ranked = get_or times k 0

  early : (i : ℕ) → i < length (take (k + 1) times) → nat_le (get_or (take (k + 1) times) i 0) ranked ≡ true
  early i lt =
      let within : i < k + 1 = omega (arith, lt, length-take-le (k + 1) times (omega (arith, here))) in
      ap (λ t. nat_le t ranked) (get_or-take (k + 1) times i 0 within) ∙ le_true (get_or times i 0) ranked (ascend i k 0 (omega (arith, within)) here)

  enough : k + 1 ≤ up_to ranked times
  enough =
      omega (
        arith,
        all_counted (λ t. nat_le t ranked) (take (k + 1) times) early,
        length-take-le (k + 1) times (omega (arith, here)),
        sum_by-take-le (λ (t : ℕ). cond (nat_le t ranked) 1 0) times (k + 1),
      )

  late : (time : ℕ) → time < ranked → (i : ℕ) → i < length (drop k times) → nat_le (get_or (drop k times) i 0) time ≡ false
  late time low i lt =
      let within : k + i < length times = omega (arith, lt, length-drop k times, here) in
      ap (λ t. nat_le t time) (get_or-drop k times i 0)
      ∙ le_false (get_or times (k + i) 0) time (omega (arith, low, ascend k (k + i) 0 (omega arith) within))

  few : (time : ℕ) → time < ranked → up_to time times ≤ k
  few time low =
      omega (
        arith,
        none_counted (λ t. nat_le t time) (drop k times) (late time low),
        count_by-le-length (λ t. nat_le t time) (take k times),
        length-take-le k times (omega (arith, here)),
        sum_by-take-drop (λ (t : ℕ). cond (nat_le t time) 1 0) times k,
      )

  -- what as many times don't pass as the rank says isn't before it
  not_before : (time : ℕ) → nat_le (k + 1) (up_to time times) ≡ true → ranked ≤ time
  not_before time held = grind (arith, few time, le_from (k + 1) (up_to time times) held)

-- the time of a rank, however the times stood before they were brought into order
pub time_of_rank : (given times : List ℕ) → IsPermutation given times → IsNonDecreasing times → (k : ℕ) → k < length times → at_rank (k + 1) given ≡ Some (get_or times k 0)
time_of_rank given times moved ascend k here =
    least_passing (λ t. nat_le (k + 1) (up_to t given)) v (ap (nat_le (k + 1)) (same v) ∙ le_true (k + 1) (up_to v times) (enough times ascend k here)) given
    (All-from_get_or (λ w. nat_le (k + 1) (up_to w given) ≡ true → v ≤ w) given 0
    (λ i lt held. not_before times ascend k here (get_or given i 0) (sym (ap (nat_le (k + 1)) (same (get_or given i 0))) ∙ held)))
    (list_any-IsPermutation (λ w. w == v) given times moved ∙ list_any_at (λ w. w == v) times k 0 here (eq-eqb v v refl))
  where
    v : ℕ
    v = get_or times k 0

    same : (time : ℕ) → up_to time given ≡ up_to time times
    same time = sym (sum_by-IsPermutation (λ (t : ℕ). cond (nat_le t time) 1 0) given times moved)

none_pass : (test : ℕ → Bool) → ((time : ℕ) → test time ≡ false) → (times : List ℕ) → reduce min (filter test times) ≡ None
none_pass test none [] = refl
none_pass test none (time ∷ times) = ap (λ b. reduce min (cond b (time ∷ filter test times) (filter test times))) (none time) ∙ none_pass test none times

-- a rank past all of them has no time
pub no_time_of_rank : (given : List ℕ) (place : ℕ) → length given < place → at_rank place given ≡ None
no_time_of_rank given place past = none_pass (λ t. nat_le place (up_to t given)) (λ time. le_false place (up_to time given) (omega (arith, past, count_by-le-length (λ t. nat_le t time) given))) given
