-- Times that rise: the one that covers a moment is the last that has begun.
use Rattle.std.proofs.Common.{◌≡◌, ◌<◌, ◌≤◌, ◌-◌, ◌⊎◌, inl, inr, ℕ, zero, suc, List, [], ◌∷◌, ◌++◌, Bool, true, false, ◌&&◌, nat_lt, nat_le, cond, length, get_or, Option, Some, None, refl, ap, sym, ◌∙◌, subst, arith}
use Rattle.std.specs.List.{find, slice_get}
use Rattle.std.specs.Option.{option_map_or, unwrap_or}
use Rattle.std.proofs.lemmas.Option.{slice_get-get_or}
use Rattle.std.proofs.lemmas.Bool.{cases_lt, cases_eq, and_from, le-leb, lt-ltb, ltb-true}
use Rattle.std.proofs.lemmas.Bool.Decides.{nat_tests}
use Rattle.std.proofs.lemmas.List.{get_or_append_left, get_or_default, get_or_push, length-append}
use Rattle.links.specs.Entries.{covers, extra_in}
use Rattle.links.specs.SlowTimes.{Rise}
use Rattle.links.specs.declared.spans.times.SlowSpan.{SlowSpan}

-- ---- the first of a list that passes a test

pub find_none : {A : Type 0} (p : A → Bool) (xs : List A) (d : A) → ((i : ℕ) → i < length xs → p (get_or xs i d) ≡ false) → find p xs ≡ None
find_none p [] d each = refl
find_none p (x ∷ xs) d each = ap (λ b. cond b (Some x) (find p xs)) (each 0 (omega arith)) ∙ find_none p xs d (λ i within. each (suc i) (omega (arith, within)))

pub find_there : {A : Type 0} (p : A → Bool) (xs : List A) (k : ℕ) (d : A) → k < length xs → ((i : ℕ) → i < k → p (get_or xs i d) ≡ false) → p (get_or xs k d) ≡ true → find p xs ≡ Some (get_or xs k d)
find_there p [] k d within before there = absurd (omega (arith, within))
find_there p (x ∷ xs) zero d within before there = ap (λ b. cond b (Some x) (find p xs)) there
find_there p (x ∷ xs) (suc k) d within before there =
    ap (λ b. cond b (Some x) (find p xs)) (before 0 (omega arith)) ∙ find_there p xs k d (omega (arith, within)) (λ i early. before (suc i) (omega (arith, early))) there

-- ---- one time

and_false : (a : Bool) → (a && false) ≡ false
and_false true = refl
and_false false = refl

is_over : (t : ℕ) (x : SlowSpan) → x.until ≤ t → covers t x ≡ false
is_over t x past = let e : nat_lt t x.until ≡ false = grind (arith, nat_tests) in ap (λ b. nat_le x.from t && b) e ∙ and_false (nat_le x.from t)

is_not_yet : (t : ℕ) (x : SlowSpan) → t < x.from → covers t x ≡ false
is_not_yet t x early = let e : nat_le x.from t ≡ false = grind (arith, nat_tests) in ap (λ b. b && nat_lt t x.until) e

abbrev pub some_span : SlowSpan
some_span = record { from = 0; until = 0; extra = 0 }

abbrev found_extra : Option SlowSpan → ℕ
found_extra o = option_map_or (λ (x : SlowSpan). x.extra) o 0

-- ---- times that rise

pub rising : (xs : List SlowSpan) → Rise xs → (i j : ℕ) (d : SlowSpan) → i ≤ j → j < length xs → (get_or xs i d).from ≤ (get_or xs j d).from
rising xs rise i j d low within = elim (cases_eq i j) as (λ _. (get_or xs i d).from ≤ (get_or xs j d).from) [
  | inl same ↦ subst (λ n. (get_or xs i d).from ≤ (get_or xs n d).from) same (let e : (get_or xs i d).from ≤ (get_or xs i d).from = omega arith in e)
  | inr other ↦ (let lasts = rise.lasts i d (omega (arith, low, within)) in let after = rise.over i j d (omega (arith, low, other)) within in omega (arith, lasts, after))
]

-- where the first begins after a moment, all do
pub all_to_come : (xs : List SlowSpan) → Rise xs → (at : ℕ) (first : SlowSpan) → nat_lt at (get_or xs 0 first).from ≡ true → (i : ℕ) (d : SlowSpan) → i < length xs → at < (get_or xs i d).from
all_to_come xs rise at first before i d within =
    let same : (get_or xs 0 d).from ≡ (get_or xs 0 first).from = ap (λ (x : SlowSpan). x.from) (get_or_default xs 0 d first (omega (arith, within))) in
    let rises = rising xs rise 0 i d (omega arith) within in
    let less = ltb-true at (get_or xs 0 first).from before in
    omega (arith, same, rises, less)

pub none_begun : (t k : ℕ) (xs : List SlowSpan) → k ≡ 0 → ((i : ℕ) (d : SlowSpan) → k ≤ i → i < length xs → t < (get_or xs i d).from) → 0 ≡ extra_in xs t
none_begun t k xs none later = ap found_extra (sym (find_none (covers t) xs some_span (λ i within. is_not_yet t (get_or xs i some_span) (later i some_span (omega (arith, none)) within))))

module _ (xs : List SlowSpan) (rise : Rise xs) (t k : ℕ) (x : SlowSpan) (some : ¬ (k ≡ 0)) (few : k ≤ length xs) (here : x ≡ get_or xs (k - 1) x)
    (begun : (i : ℕ) (d : SlowSpan) → i < k → (get_or xs i d).from ≤ t) (later : (i : ℕ) (d : SlowSpan) → k ≤ i → i < length xs → t < (get_or xs i d).from) where
  within : k - 1 < length xs
  within = omega (arith, some, few)

  before : (i : ℕ) → i < k - 1 → covers t (get_or xs i x) ≡ false
  before i early = is_over t (get_or xs i x) (let one = rise.over i (k - 1) x early within in let two = begun (k - 1) x (omega (arith, some)) in omega (arith, one, two))

  pub last_covers : t < x.until → x.extra ≡ extra_in xs t
  last_covers lasts =
      let covered : covers t (get_or xs (k - 1) x) ≡ true =
      ap (covers t) (sym here) ∙ and_from (nat_le x.from t) (nat_lt t x.until) (le-leb x.from t (subst (λ (y : SlowSpan). y.from ≤ t) (sym here) (begun (k - 1) x (omega (arith, some))))) (lt-ltb t x.until lasts) in
      ap (λ (y : SlowSpan). y.extra) here ∙ ap found_extra (sym (find_there (covers t) xs (k - 1) x within before covered))

  pub last_over : x.until ≤ t → 0 ≡ extra_in xs t
  last_over past = ap found_extra (sym (find_none (covers t) xs x each))
    where
      each : (i : ℕ) → i < length xs → covers t (get_or xs i x) ≡ false
      each i below = elim (cases_lt i (k - 1)) as (λ _. covers t (get_or xs i x) ≡ false) [
        | inl a ↦ before i a
        | inr a ↦ elim (cases_lt i k) as (λ _. covers t (get_or xs i x) ≡ false) [
          | inl b ↦ (let same : i ≡ k - 1 = omega (arith, a, b, some) in ap (λ n. covers t (get_or xs n x)) same ∙ ap (covers t) (sym here) ∙ is_over t x past)
          | inr b ↦ is_not_yet t (get_or xs i x) (later i x b below)
        ]
      ]

-- one more that begins when the others are over
module _ (xs : List SlowSpan) (rise : Rise xs) (new : SlowSpan) (lasts : new.from ≤ new.until) (past : (i : ℕ) (d : SlowSpan) → i < length xs → (get_or xs i d).until ≤ new.from) where
  abbrev ys : List SlowSpan
  ys = xs ++ new ∷ []

  abbrev Told : ℕ → SlowSpan → Type 0
  Told i d = ((i < length xs) × (get_or ys i d ≡ get_or xs i d)) ⊎ ((i ≡ length xs) × (get_or ys i d ≡ new))

  told : (i : ℕ) (d : SlowSpan) → i < length ys → Told i d
  told i d within = elim (cases_lt i (length xs)) as (λ _. Told i d) [
    | inl a ↦ inl (a, get_or_append_left xs (new ∷ []) d i a)
    | inr b ↦ (let same : i ≡ length xs = (let all = length-append xs (new ∷ []) in omega (arith, b, within, all)) in inr (same, get_or_push xs new d i (sym same)))
  ]

  pub rise_more : Rise ys
  rise_more = record {
    lasts = λ i d within. elim (told i d within) as (λ _. (get_or ys i d).from ≤ (get_or ys i d).until) [
      | inl a ↦ subst (λ (y : SlowSpan). y.from ≤ y.until) (sym a.1) (rise.lasts i d a.0)
      | inr b ↦ subst (λ (y : SlowSpan). y.from ≤ y.until) (sym b.1) lasts
    ];
    over = λ i j d before within. elim (told i d (omega (arith, before, within))) as (λ _. (get_or ys i d).until ≤ (get_or ys j d).from) [
      | inl a ↦ elim (told j d within) as (λ _. (get_or ys i d).until ≤ (get_or ys j d).from) [
        | inl b ↦ subst (λ (y : SlowSpan). y.until ≤ (get_or ys j d).from) (sym a.1) (subst (λ (y : SlowSpan). (get_or xs i d).until ≤ y.from) (sym b.1) (rise.over i j d before b.0))
        | inr b ↦ subst (λ (y : SlowSpan). y.until ≤ (get_or ys j d).from) (sym a.1) (subst (λ (y : SlowSpan). (get_or xs i d).until ≤ y.from) (sym b.1) (past i d a.0))
      ]
      | inr a ↦ absurd (let all = length-append xs (new ∷ []) in let at = a.0 in omega (arith, at, before, within, all))
    ];
  }

-- all of them are over when the last is
pub past_by_last : (xs : List SlowSpan) → Rise xs → (last : SlowSpan) (n : ℕ) → Some last ≡ slice_get xs (length xs - 1) → last.until ≤ n → (i : ℕ) (d : SlowSpan) → i < length xs → (get_or xs i d).until ≤ n
past_by_last xs rise last n found over i d within =
    let there : last ≡ get_or xs (length xs - 1) d = ap (λ o. unwrap_or o last) (found ∙ slice_get-get_or xs (length xs - 1) d (omega (arith, within))) in
    let until : (get_or xs (length xs - 1) d).until ≤ n = subst (λ (y : SlowSpan). y.until ≤ n) there over in
    elim (cases_eq i (length xs - 1)) as (λ _. (get_or xs i d).until ≤ n) [
      | inl a ↦ subst (λ m. (get_or xs m d).until ≤ n) (sym a) until
      | inr b ↦ (let ends = rise.over i (length xs - 1) d (omega (arith, within, b)) (omega (arith, within)) in let lasts = rise.lasts (length xs - 1) d (omega (arith, within)) in omega (arith, ends, lasts, until))
    ]
