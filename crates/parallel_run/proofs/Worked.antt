-- Where the calling thread dealt all parts and took back all of them, workers took and dealt them in between.
use Rattle.std.proofs.Common.{◌≡◌, ℕ, zero, suc, ◌+◌, ◌<◌, ◌≤◌, Bool, true, false, ◌||◌, if◌then◌else◌, nat_eq, List, [], ◌∷◌, ◌++◌, map, ap, ◌∙◌, refl, sym, subst, arith}
use Rattle.std.specs.List.{list_any, range_with_len, sum_by}
use Rattle.std.proofs.lemmas.Bool.Decides.{nat_tests}
use Rattle.std.proofs.lemmas.List.FromFn.{sum_by-map-range_with_len_more}
use Rattle.std.proofs.lemmas.List.Sums.{sum_by-append, sum_by-cons}
use Rattle.board.specs.declared.record.BoardRecord.{BoardRecord}
use Rattle.board.specs.Deal.{SameBag}
use Rattle.board.specs.Records.{all_dealt, all_taken, others_dealt, others_taken, own_dealt, own_taken}
use Rattle.parallel_run.specs.declared.board_item.BoardEntry.{BoardEntry}
use Rattle.parallel_run.specs.Dealt.{AreWorked, all_begun, all_ended, is_ended, is_process}

-- one for each that passes
abbrev weight_of : {A : Type 0} → (A → Bool) → A → ℕ
weight_of test x = if test x then 1 else 0

one_passes : (b c : Bool) (s : ℕ) → (1 ≤ s → c ≡ true) → 1 ≤ (if b then 1 else 0) + s → (b || c) ≡ true
one_passes true c s so some = refl
one_passes false c s so some = so (omega (arith, some))

-- where the weight is something, one passes
found : {A : Type 0} (test : A → Bool) (xs : List A) → 1 ≤ sum_by (weight_of test) xs → list_any test xs ≡ true
found test [] some = absurd (omega (arith, some))
found test (x ∷ xs) some = one_passes (test x) (list_any test xs) (sum_by (weight_of test) xs) (found test xs) (omega (arith, some, sum_by-cons (weight_of test) x xs))

module _ (test : BoardEntry → Bool) (entry : ℕ → BoardEntry) where
  -- of the first parts the last one passes, or one before it
  last_or_before : (part count before all : ℕ) (b : Bool) → nat_eq part count ≡ b → part < suc count → test (entry part) ≡ true → all ≡ before + weight_of test (entry count) → (part < count → 1 ≤ before) → 1 ≤ all
  last_or_before part count before all true same low is more so_far =
      let here : part ≡ count = grind (arith, nat_tests) in
      let one : weight_of test (entry count) ≡ 1 = ap (λ b. if b then 1 else 0) (subst (λ n. test (entry n) ≡ true) here is) in
      omega (arith, more, one)
  last_or_before part count before all false other low is more so_far =
      let below : part < count = grind (arith, nat_tests) in
      omega (arith, more, so_far below)

  -- so one of them does
  passed_at : (part count : ℕ) → part < count → test (entry part) ≡ true → 1 ≤ sum_by (weight_of test) (map entry (range_with_len 0 count))
  passed_at part zero low is = absurd (omega (arith, low))
  passed_at part (suc count) low is =
      let last : 0 + count ≡ count = omega arith in
      let longer : suc count ≡ count + 1 = omega arith in
      let more = sum_by-map-range_with_len_more (weight_of test) entry 0 count count last in
      last_or_before part count (sum_by (weight_of test) (map entry (range_with_len 0 count))) (sum_by (weight_of test) (map entry (range_with_len 0 (suc count)))) (nat_eq part count) refl low is
      (ap (λ n. sum_by (weight_of test) (map entry (range_with_len 0 n))) longer ∙ more) (λ below. passed_at part count below is)

  -- where none passes the weight is none
  none_passes : (count : ℕ) → ((n : ℕ) → test (entry n) ≡ false) → sum_by (weight_of test) (map entry (range_with_len 0 count)) ≡ 0
  none_passes zero fails = refl
  none_passes (suc count) fails =
      let last : 0 + count ≡ count = omega arith in
      let longer : suc count ≡ count + 1 = omega arith in
      let none : weight_of test (entry count) ≡ 0 = ap {B = ℕ} (λ b. if b then 1 else 0) (fails count) in
      omega (
        arith,
        sum_by-map-range_with_len_more (weight_of test) entry 0 count count last,
        none,
        ap (λ n. sum_by (weight_of test) (map entry (range_with_len 0 n))) longer,
        none_passes count fails,
      )

pub worked : (parts : ℕ) (board : BoardRecord BoardEntry) → own_dealt board ≡ all_begun parts → SameBag (own_taken board) (all_ended parts) → SameBag (all_dealt board) (all_taken board) → AreWorked parts board
worked parts board dealt taken balance part low = (
  (let weight = weight_of (is_process part) in
      let itself : nat_eq part part ≡ true = grind (arith, nat_tests) in
      found (is_process part) (others_taken board) (
      omega (
        arith,
        balance weight,
        sum_by-append weight (others_dealt board) (own_dealt board),
        sum_by-append weight (others_taken board) (own_taken board),
        ap (sum_by weight) dealt,
        taken weight,
        passed_at (is_process part) (λ (n : ℕ). BoardEntry.Process n) part parts low itself,
        none_passes (is_process part) (λ (n : ℕ). BoardEntry.Ended n) parts (λ n. refl),
      )
      )),
  (let weight = weight_of (is_ended part) in
      let itself : nat_eq part part ≡ true = grind (arith, nat_tests) in
      found (is_ended part) (others_dealt board) (
      omega (
        arith,
        balance weight,
        sum_by-append weight (others_dealt board) (own_dealt board),
        sum_by-append weight (others_taken board) (own_taken board),
        ap (sum_by weight) dealt,
        taken weight,
        passed_at (is_ended part) (λ (n : ℕ). BoardEntry.Ended n) part parts low itself,
        none_passes (is_ended part) (λ (n : ℕ). BoardEntry.Process n) parts (λ n. refl),
      )
      )),
)
