-- Events in the order of their moments: there is one order that keeps those of one moment in theirs.
use Rattle.std.proofs.Common.{◌≡◌, ◌<◌, ◌≤◌, ℕ, suc, List, [], ◌∷◌, Bool, true, false, not, ◌&&◌, cond, nat_lt, nat_le, nat_eq, length, get_or, inl, inr, refl, ap, sym, ◌∙◌, arith}
use Rattle.std.proofs.Math.Path.{fun_ext}
use Rattle.std.specs.List.{filter, AllByRecursion}
use Rattle.std.specs.List.Sorted.{IsNonDecreasingBy, IsStableByKey, ties}
use Rattle.std.specs.declared.cmp.Ordering.TheVariants.{Less, Equal, Greater}
use Rattle.std.specs.Ordering.{nat_cmp, is_lt}
use Rattle.std.proofs.lemmas.Bool.{cases_lt, cases_order, cond-true, cond-false, cond_both, eq-eqb, ne_eqb, eqb-true, leb-true, leb-false, lt-ltb, le-ltb, and_right}
use Rattle.scenario.specs.Script.{put_before, by_moment}
use Rattle.scenario.specs.declared.script.ScriptKind.TheVariants.{Crash}
use Rattle.scenario.specs.declared.script.ScriptEvent.{ScriptEvent}

abbrev is_at : ℕ → ScriptEvent → Bool
is_at t e = nat_eq e.at t

-- no event is later than those behind it
abbrev pub Rise : List ScriptEvent → Type 0
Rise [] = Unit {0}
Rise (e ∷ es) = AllByRecursion (λ (next : ScriptEvent). e.at ≤ next.at) es × Rise es

-- ---- what `by_moment` gives rises, and keeps the order of those of one moment

lower : (a b : ℕ) → a ≤ b → (es : List ScriptEvent) → AllByRecursion (λ (e : ScriptEvent). b ≤ e.at) es → AllByRecursion (λ (e : ScriptEvent). a ≤ e.at) es
lower a b low [] all = tt
lower a b low (e ∷ es) all = (omega (arith, low, all.0), lower a b low es all.1)

put_above : (t : ℕ) (e : ScriptEvent) (es : List ScriptEvent) → t ≤ e.at → AllByRecursion (λ (next : ScriptEvent). t ≤ next.at) es → AllByRecursion (λ (next : ScriptEvent). t ≤ next.at) (put_before e es)
put_above t e [] low all = (low, tt)
put_above t e (n ∷ es) low all =
    cond_both (nat_le e.at n.at) (e ∷ n ∷ es) (n ∷ put_before e es) (AllByRecursion (λ (next : ScriptEvent). t ≤ next.at)) (λ _. (low, all)) (λ _. (all.0, put_above t e es low all.1))

put_rise : (e : ScriptEvent) (es : List ScriptEvent) → Rise es → Rise (put_before e es)
put_rise e [] rise = (tt, tt)
put_rise e (n ∷ es) rise =
    cond_both (nat_le e.at n.at) (e ∷ n ∷ es) (n ∷ put_before e es) Rise
    (λ early. let low = leb-true e.at n.at early in ((low, lower e.at n.at low es rise.0), rise))
    (λ late. let high = leb-false e.at n.at late in (put_above n.at e es (omega (arith, high)) rise.0, put_rise e es rise.1))

pub by_moment_rise : (es : List ScriptEvent) → Rise (by_moment es)
by_moment_rise [] = tt
by_moment_rise (e ∷ es) = put_rise e (by_moment es) (by_moment_rise es)

swapped : (p q : Bool) (n e : ScriptEvent) (rest : List ScriptEvent) → (p ≡ true → q ≡ true → ⊥)
    → cond p (n ∷ cond q (e ∷ rest) rest) (cond q (e ∷ rest) rest) ≡ cond q (e ∷ cond p (n ∷ rest) rest) (cond p (n ∷ rest) rest)
swapped true true n e rest not_both = absurd (not_both refl refl)
swapped true false n e rest not_both = refl
swapped false true n e rest not_both = refl
swapped false false n e rest not_both = refl

put_keeps : (t : ℕ) (e : ScriptEvent) (es : List ScriptEvent) → filter (is_at t) (put_before e es) ≡ filter (is_at t) (e ∷ es)
put_keeps t e [] = refl
put_keeps t e (n ∷ es) =
    cond_both (nat_le e.at n.at) (e ∷ n ∷ es) (n ∷ put_before e es) (λ l. filter (is_at t) l ≡ filter (is_at t) (e ∷ n ∷ es)) (λ _. refl)
    (λ late. ap (λ l. cond (is_at t n) (n ∷ l) l) (put_keeps t e es)
    ∙ swapped (is_at t n) (is_at t e) n e (filter (is_at t) es) (λ here there. omega (arith, leb-false e.at n.at late, eqb-true n.at t here, eqb-true e.at t there)))

by_moment_keeps : (t : ℕ) (es : List ScriptEvent) → filter (is_at t) (by_moment es) ≡ filter (is_at t) es
by_moment_keeps t [] = refl
by_moment_keeps t (e ∷ es) = put_keeps t e (by_moment es) ∙ ap (λ l. cond (is_at t e) (e ∷ l) l) (by_moment_keeps t es)

-- ---- two lists that rise, and have the same events of each moment in the same order, are one

above : (t u : ℕ) → t < u → (es : List ScriptEvent) → AllByRecursion (λ (e : ScriptEvent). u ≤ e.at) es → AllByRecursion (λ (e : ScriptEvent). t < e.at) es
above t u early [] all = tt
above t u early (e ∷ es) all = (omega (arith, early, all.0), above t u early es all.1)

none_at : (t : ℕ) (es : List ScriptEvent) → AllByRecursion (λ (e : ScriptEvent). t < e.at) es → filter (is_at t) es ≡ []
none_at t [] all = refl
none_at t (e ∷ es) all = cond-false (is_at t e) (e ∷ filter (is_at t) es) (filter (is_at t) es) (ne_eqb e.at t (λ same. omega (arith, all.0, same))) ∙ none_at t es all.1

first_at : (t : ℕ) (e : ScriptEvent) (es : List ScriptEvent) → e.at ≡ t → filter (is_at t) (e ∷ es) ≡ e ∷ filter (is_at t) es
first_at t e es here = cond-true (is_at t e) (e ∷ filter (is_at t) es) (filter (is_at t) es) (eq-eqb e.at t here)

not_empty : (e : ScriptEvent) (es : List ScriptEvent) → e ∷ es ≡ [] → ⊥
not_empty e es is = cc

abbrev first_or : ScriptEvent → List ScriptEvent → ScriptEvent
first_or d [] = d
first_or d (e ∷ es) = e

abbrev rest_of : List ScriptEvent → List ScriptEvent
rest_of [] = []
rest_of (e ∷ es) = es

rest_same : (p : Bool) (x y : ScriptEvent) (xs ys : List ScriptEvent) → cond p (x ∷ xs) xs ≡ cond p (y ∷ ys) ys → xs ≡ ys
rest_same true x y xs ys same = ap rest_of same
rest_same false x y xs ys same = same

not_later : (x y : ScriptEvent) (xs ys : List ScriptEvent) → AllByRecursion (λ (e : ScriptEvent). y.at ≤ e.at) ys → filter (is_at x.at) (x ∷ xs) ≡ filter (is_at x.at) (y ∷ ys) → y.at ≤ x.at
not_later x y xs ys all same = elim (cases_lt x.at y.at) as (λ _. y.at ≤ x.at) [
  | inl early ↦ absurd (not_empty x (filter (is_at x.at) xs) (sym (first_at x.at x xs refl) ∙ same ∙ none_at x.at (y ∷ ys) (early, above x.at y.at early ys all)))
  | inr late ↦ late
]

one_order : (xs ys : List ScriptEvent) → Rise xs → Rise ys → ((t : ℕ) → filter (is_at t) xs ≡ filter (is_at t) ys) → xs ≡ ys
one_order [] [] a b same = refl
one_order [] (y ∷ ys) a b same = absurd (not_empty y (filter (is_at y.at) ys) (sym (first_at y.at y ys refl) ∙ sym (same y.at)))
one_order (x ∷ xs) [] a b same = absurd (not_empty x (filter (is_at x.at) xs) (sym (first_at x.at x xs refl) ∙ same x.at))
one_order (x ∷ xs) (y ∷ ys) a b same =
    let one = not_later x y xs ys b.0 (same x.at) in
    let other = not_later y x ys xs a.0 (sym (same y.at)) in
    let here : y.at ≡ x.at = omega (arith, one, other) in
    let firsts : x ∷ filter (is_at x.at) xs ≡ y ∷ filter (is_at x.at) ys = sym (first_at x.at x xs refl) ∙ same x.at ∙ first_at x.at y ys here in
    let first : x ≡ y = ap (first_or x) firsts in
    let rests : xs ≡ ys = one_order xs ys a.1 b.1 (λ t.
    rest_same (is_at t x) x y (filter (is_at t) xs) (filter (is_at t) ys)
    (same t ∙ ap (λ (e : ScriptEvent). cond (is_at t e) (y ∷ filter (is_at t) ys) (filter (is_at t) ys)) (sym first))) in
    ap (λ (e : ScriptEvent). e ∷ xs) first ∙ ap (λ (es : List ScriptEvent). y ∷ es) rests

-- ---- what a stable sort gives is that order

all_no_earlier : (t : ℕ) (es : List ScriptEvent) → ((k : ℕ) (d : ScriptEvent) → k < length es → t ≤ (get_or es k d).at) → AllByRecursion (λ (e : ScriptEvent). t ≤ e.at) es
all_no_earlier t [] h = tt
all_no_earlier t (e ∷ es) h = (h 0 e (omega arith), all_no_earlier t es (λ k d within. h (suc k) d (omega (arith, within))))

rise_of : (es : List ScriptEvent) → IsNonDecreasingBy (λ (e : ScriptEvent). e.at) es → Rise es
rise_of [] h = tt
rise_of (e ∷ es) h = (
  all_no_earlier e.at es (λ k d within. h 0 (suc k) d (omega arith) (omega (arith, within))),
  rise_of es (λ i j d order within. h (suc i) (suc j) d (omega (arith, order)) (omega (arith, within))),
)

lt_by : (p q : Bool) → is_lt (cond p Less (cond q Equal Greater)) ≡ p
lt_by true q = refl
lt_by false true = refl
lt_by false false = refl

lt_is : (a b : ℕ) → is_lt (nat_cmp a b) ≡ nat_lt a b
lt_is a b = lt_by (nat_lt a b) (nat_eq a b)

tie : (t u : ℕ) → (not (nat_lt t u) && not (nat_lt u t)) ≡ nat_eq u t
tie t u = elim (cases_order u t) as (λ _. (not (nat_lt t u) && not (nat_lt u t)) ≡ nat_eq u t) [
  | inl same ↦ ap (λ b. not b && not (nat_lt u t)) (le-ltb t u (omega (arith, same))) ∙ ap not (le-ltb u t (omega (arith, same))) ∙ sym (eq-eqb u t same)
  | inr other ↦ elim other as (λ _. (not (nat_lt t u) && not (nat_lt u t)) ≡ nat_eq u t) [
    | inl early ↦ and_right (not (nat_lt t u)) (not (nat_lt u t)) (ap not (lt-ltb u t early)) ∙ sym (ne_eqb u t (λ same. omega (arith, early, same)))
    | inr late ↦ ap (λ b. not b && not (nat_lt u t)) (lt-ltb t u late) ∙ sym (ne_eqb u t (λ same. omega (arith, late, same)))
  ]
]

tie_is : (t : ℕ) (e : ScriptEvent) → (not (is_lt (nat_cmp t e.at)) && not (is_lt (nat_cmp e.at t))) ≡ is_at t e
tie_is t e = ap (λ b. not b && not (is_lt (nat_cmp e.at t))) (lt_is t e.at) ∙ ap (λ b. not (nat_lt t e.at) && not b) (lt_is e.at t) ∙ tie t e.at

-- events that tie with one of a moment are those of that moment
ties_are : (t : ℕ) → ties (λ (x y : ScriptEvent). is_lt (nat_cmp x.at y.at)) (record { member = 0; at = t; kind = Crash }) ≡ is_at t
ties_are t = fun_ext (tie_is t)

pub sorted_is : (old new : List ScriptEvent) → IsNonDecreasingBy (λ (e : ScriptEvent). e.at) new → IsStableByKey (λ (e : ScriptEvent). e.at) nat_cmp old new → new ≡ by_moment old
sorted_is old new rising stable =
    one_order new (by_moment old) (rise_of new rising) (by_moment_rise old) (λ t.
    ap (λ p. filter p new) (sym (ties_are t)) ∙ stable (record { member = 0; at = t; kind = Crash }) ∙ ap (λ p. filter p old) (ties_are t) ∙ sym (by_moment_keeps t old))
