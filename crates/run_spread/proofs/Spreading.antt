-- When members learned of a crash, member by member.
use Rattle.std.proofs.Common.{◌≡◌, ℕ, zero, suc, ◌+◌, ◌-◌, ◌<◌, ◌≤◌, Bool, true, false, cond, List, [], ◌∷◌, max, Option, Some, None, refl, sym, ap, subst, ◌∙◌, arith, lit≤}
use Rattle.std.specs.Prelude.{count_by, filter_map, if◌then◌else◌, option_map, unwrap_or}
use Rattle.std.specs.List.{range_with_len, fold, cons_option}
use Rattle.std.specs.Option.{is_some, option_map_or}
use Rattle.std.proofs.lemmas.List.FromFn.{length-range_with_len}
use Rattle.std.proofs.lemmas.List.Sums.{fold-append, sum_by_push, count_by-le-length}
use Rattle.scenario.specs.Setup.{Setup, member_count, name_of}
use Rattle.trace.specs.declared.row.What.TheVariants as what
use Rattle.trace.specs.declared.row.Row.{Row}
use Rattle.figures.specs.Settings.{rank, at_rank}
use Rattle.series.specs.declared.spread.Spread.{Spread}
use Rattle.series.specs.Watched.{watched, places}
use Rattle.series.specs.Stories.{IsSpreadOf}
use Rattle.drawing.proofs.Ranges.{range_more}
use Rattle.ticks.specs.declared.tick.Tick.{Tick}
use Rattle.run_spread.specs.declared.news.ShareTimes.{ShareTimes}
use Rattle.run_spread.specs.Spread.{told_after, learned, stays, staying, time_of_one, times, last_learned, last_told, last_of, shares, reached, crash_part, crash_text, watched_crash}
use mir.Val.{bool_byte}

-- ---- numbers of members

-- the greatest number, with one member more
pub greatest_more : (f : ℕ → ℕ) (n before number after : ℕ) → before ≡ fold (λ most m. max most (f m)) 0 (range_with_len 0 n) → number ≡ f n → after ≡ max before number
    → after ≡ fold (λ most m. max most (f m)) 0 (range_with_len 0 (n + 1))
greatest_more f n before number after so_far is goes =
    goes ∙ ap (λ b. max b number) so_far ∙ ap (max (fold (λ most m. max most (f m)) 0 (range_with_len 0 n))) is
    ∙ sym (ap (fold (λ most m. max most (f m)) 0) (range_more n) ∙ fold-append (λ most m. max most (f m)) 0 (range_with_len 0 n) (n ∷ []))

as_number : (b : Bool) → bool_byte b ≡ cond b 1 0
as_number true = refl
as_number false = refl

-- how many pass, with one member more
pub count_more : (test : ℕ → Bool) (n before byte : ℕ) (b : Bool) → before ≡ count_by test (range_with_len 0 n) → b ≡ test n → byte ≡ bool_byte b → before + byte ≡ count_by test (range_with_len 0 (n + 1))
count_more test n before byte b so_far is one =
    ap (λ x. before + x) (one ∙ as_number b ∙ ap (λ t. cond t 1 0) is) ∙ ap (λ x. x + cond (test n) 1 0) so_far
    ∙ sym (ap (count_by test) (range_more n) ∙ sum_by_push (λ (m : ℕ). cond (test m) 1 0) (range_with_len 0 n) n)

pub one_bit : (b : Bool) → bool_byte b ≤ 1
one_bit true = lit≤ tt
one_bit false = lit≤ tt

-- no more pass than there are
pub count_few : (test : ℕ → Bool) (n : ℕ) → count_by test (range_with_len 0 n) ≤ n
count_few test n = omega (arith, count_by-le-length test (range_with_len 0 n), length-range_with_len 0 n)

-- ---- what is the same of each member

folded_same : (f g : ℕ → ℕ) (members : ℕ) → ((m : ℕ) → m < members → f m ≡ g m) → (start first n : ℕ) → first + n ≤ members
    → fold (λ most m. max most (f m)) start (range_with_len first n) ≡ fold (λ most m. max most (g m)) start (range_with_len first n)
folded_same f g members same start first zero low = refl
folded_same f g members same start first (suc n) low =
    ap (λ x. fold (λ most m. max most (f m)) (max start x) (range_with_len (first + 1) n)) (same first (omega (arith, low)))
    ∙ folded_same f g members same (max start (g first)) (first + 1) n (omega (arith, low))

filtered_same : (f g : ℕ → Option ℕ) (members : ℕ) → ((m : ℕ) → m < members → f m ≡ g m) → (first n : ℕ) → first + n ≤ members
    → filter_map f (range_with_len first n) ≡ filter_map g (range_with_len first n)
filtered_same f g members same first zero low = refl
filtered_same f g members same first (suc n) low =
    ap (λ o. cons_option o (filter_map f (range_with_len (first + 1) n))) (same first (omega (arith, low)))
    ∙ ap (cons_option (g first)) (filtered_same f g members same (first + 1) n (omega (arith, low)))

last_same : (s : Setup) (f g : ℕ → Option ℕ) → ((m : ℕ) → m < member_count s → f m ≡ g m) → last_learned s f ≡ last_learned s g
last_same s f g same = folded_same (λ m. unwrap_or (f m) 0) (λ m. unwrap_or (g m) 0) (member_count s) (λ m low. ap (λ o. unwrap_or o 0) (same m low)) 0 0 (member_count s) (omega arith)

times_same : (s : Setup) (f g : ℕ → Option ℕ) → ((m : ℕ) → m < member_count s → f m ≡ g m) → times s f ≡ times s g
times_same s f g same =
    filtered_same (time_of_one s f) (time_of_one s g) (member_count s) (λ m low. ap (λ o. if stays s m then o else None) (same m low)) 0 (member_count s) (omega arith)

-- ---- what is kept of a crash that is watched

module _ (s : Setup) (rows : List Row) (subject from : ℕ) (spread : Spread) (is : IsSpreadOf s subject spread rows) (begun : spread.since ≡ Some from) where
  since : watched s subject ≡ Some from
  since = sym is.since ∙ begun

  all : places s subject ≡ member_count s
  all = ap (λ o. if is_some o then member_count s else 0) since

  suspected_same : (m : ℕ) → m < member_count s → learned spread.suspected.items from m ≡ told_after rows what.Suspect subject from m
  suspected_same m low = ap (option_map (λ at. at - from)) (is.suspected m (subst (λ n. m < n) (sym (is.suspecting ∙ all)) low))

  confirmed_same : (m : ℕ) → m < member_count s → learned spread.confirmed.items from m ≡ told_after rows what.Confirm subject from m
  confirmed_same m low = ap (option_map (λ at. at - from)) (is.confirmed m (subst (λ n. m < n) (sym (is.confirming ∙ all)) low))

  -- how long after the crash the last member learned of it
  pub last_is : (one other most : ℕ) → one ≡ last_learned s (learned spread.suspected.items from) → other ≡ last_learned s (learned spread.confirmed.items from)
      → most ≡ max one other → most ≡ last_of s rows subject
  last_is one other most first second goes =
      goes ∙ ap (λ x. max x other) (first ∙ last_same s _ _ suspected_same) ∙ ap (max (last_learned s (told_after rows what.Suspect subject from))) (second ∙ last_same s _ _ confirmed_same)
      ∙ sym (ap (λ o. option_map_or (last_told s rows subject) o 0) since)

  -- what is shown of it
  pub crash_is : (time : Option Tick) (step : ℕ) (name : List ℕ) → name ≡ name_of s subject
      → crash_text time s name step (learned spread.suspected.items from) (learned spread.confirmed.items from) ≡ watched_crash time s rows step subject
  crash_is time step name named = both ∙ sym (ap (λ o. option_map_or (λ at. crash_text time s (name_of s subject) step (told_after rows what.Suspect subject at) (told_after rows what.Confirm subject at)) o []) since)
    where
      both : crash_text time s name step (learned spread.suspected.items from) (learned spread.confirmed.items from)
          ≡ crash_text time s (name_of s subject) step (told_after rows what.Suspect subject from) (told_after rows what.Confirm subject from)
      both = λ i.
          let suspected = times_same s (learned spread.suspected.items from) (told_after rows what.Suspect subject from) suspected_same i in
          let dead = times_same s (learned spread.confirmed.items from) (told_after rows what.Confirm subject from) confirmed_same i in
          crash_part time (named i) (staying s) step (reached suspected step) (shares (staying s) suspected) (reached dead step) (shares (staying s) dead)

-- what is shown of a crash, by its parts
pub part_same : (time : Option Tick) (name : List ℕ) (step : ℕ) (m n : ℕ) (a b c d : List ℕ) (p q r t : ShareTimes) → m ≡ n → a ≡ b → p ≡ q → c ≡ d → r ≡ t → crash_part time name m step a p c r ≡ crash_part time name n step b q d t
part_same time name step m n a b c d p q r t up first one second other = λ i. crash_part time name (up i) step (first i) (one i) (second i) (other i)

-- ---- shares

pub shares_are : (staying : ℕ) (times : List ℕ) (a b c d e : Option ℕ) → a ≡ at_rank 1 times → b ≡ at_rank (rank 50 staying) times → c ≡ at_rank (rank 90 staying) times → d ≡ at_rank (rank 99 staying) times
    → e ≡ at_rank (rank 100 staying) times → (let told : ShareTimes = record { first = a; half = b; nine_tenths = c; nearly_all = d; all = e } in told) ≡ shares staying times
shares_are staying times a b c d e first half nine nearly every = λ i. record { first = first i; half = half i; nine_tenths = nine i; nearly_all = nearly i; all = every i }
