-- Times that stand apart: which moments are in them, and one more of them.
use Rattle.std.proofs.Common.{◌≡◌, ◌<◌, ◌≤◌, ◌+◌, ◌-◌, ◌⊎◌, inl, inr, ℕ, suc, List, [], ◌∷◌, ◌++◌, Bool, true, false, ◌&&◌, ◌||◌, nat_lt, nat_le, length, get_or, set, take, drop, refl, ap, sym, ◌∙◌, subst, arith}
use Rattle.std.specs.List.{list_any}
use Rattle.std.proofs.lemmas.Bool.{cases_lt, cases_eq, and_from, le-leb, lt-ltb, leb-true, ltb-true, leb-false, ltb-false, and_parts}
use Rattle.std.proofs.lemmas.Bool.Decides.{nat_tests}
use Rattle.std.proofs.lemmas.List.{length-set, get_or-set_same, get_or-set_other, get_or_append_left, get_or_push, set_split, set-get_or, get_or_default, length-append}
use Rattle.std.proofs.lemmas.List.Elements.{All-from_get_or}
use Rattle.std.proofs.lemmas.List.Folds.{list_any_none, list_any_at, list_any-append}
use Rattle.scenario.specs.Spells.{is_in, is_in_any, HaveBegun, AreApart, IsEndFrom}
use Rattle.scenario.specs.declared.spells.Spell.{Spell}

abbrev some_spell : Spell
some_spell = record { from = 0; until = 0 }

-- ---- one time

and_false : (a : Bool) → (a && false) ≡ false
and_false true = refl
and_false false = refl

is_over : (t : ℕ) (x : Spell) → x.until ≤ t → is_in t x ≡ false
is_over t x past = let e : nat_lt t x.until ≡ false = grind (arith, nat_tests) in ap (λ b. nat_le x.from t && b) e ∙ and_false (nat_le x.from t)

is_not_yet : (t : ℕ) (x : Spell) → t < x.from → is_in t x ≡ false
is_not_yet t x early = let e : nat_le x.from t ≡ false = grind (arith, nat_tests) in ap (λ b. b && nat_lt t x.until) e

inside : (t : ℕ) (x : Spell) → x.from ≤ t → t < x.until → is_in t x ≡ true
inside t x begun lasts = and_from (nat_le x.from t) (nat_lt t x.until) (le-leb x.from t begun) (lt-ltb t x.until lasts)

-- ---- none, or one, of many

pub none_at : (t : ℕ) (xs : List Spell) → ((i : ℕ) (d : Spell) → i < length xs → ((get_or xs i d).until ≤ t) ⊎ (t < (get_or xs i d).from)) → is_in_any xs t ≡ false
none_at t xs each = list_any_none (is_in t) xs (All-from_get_or (λ y. is_in t y ≡ false) xs some_spell (λ i within. by_case i (each i some_spell within)))
  where
    by_case : (i : ℕ) → ((get_or xs i some_spell).until ≤ t) ⊎ (t < (get_or xs i some_spell).from) → is_in t (get_or xs i some_spell) ≡ false
    by_case i (inl past) = is_over t (get_or xs i some_spell) past
    by_case i (inr early) = is_not_yet t (get_or xs i some_spell) early

-- none has begun
pub none_begun : (t k : ℕ) (xs : List Spell) → k ≡ 0 → ((i : ℕ) (d : Spell) → k ≤ i → i < length xs → t < (get_or xs i d).from) → is_in_any xs t ≡ false
none_begun t k xs none later = none_at t xs (λ i d within. inr (later i d (omega (arith, none)) within))

-- of those that have begun this is the last
module _ (xs : List Spell) (apart : AreApart xs) (t k : ℕ) (x : Spell) (some : ¬ (k ≡ 0)) (few : k ≤ length xs) (here : x ≡ get_or xs (k - 1) x)
    (begun : (i : ℕ) (d : Spell) → i < k → (get_or xs i d).from ≤ t) (later : (i : ℕ) (d : Spell) → k ≤ i → i < length xs → t < (get_or xs i d).from) where
  within : k - 1 < length xs
  within = omega (arith, some, few)

  there : (d : Spell) → x ≡ get_or xs (k - 1) d
  there d = here ∙ get_or_default xs (k - 1) x d within

  x_begun : x.from ≤ t
  x_begun = subst (λ (y : Spell). y.from ≤ t) (sym here) (begun (k - 1) x (omega (arith, some)))

  -- a moment not before this one, after this time and before the next
  outside : (u : ℕ) → t ≤ u → x.until ≤ u → ((i : ℕ) (d : Spell) → k ≤ i → i < length xs → u < (get_or xs i d).from) → is_in_any xs u ≡ false
  outside u from past before = none_at u xs each
    where
      last : (i : ℕ) (d : Spell) → i ≡ k - 1 → (get_or xs i d).until ≤ u
      last i d same = subst (λ (y : Spell). y.until ≤ u) (there d ∙ ap (λ n. get_or xs n d) (sym same)) past

      each : (i : ℕ) (d : Spell) → i < length xs → ((get_or xs i d).until ≤ u) ⊎ (u < (get_or xs i d).from)
      each i d below = elim (cases_lt i (k - 1)) as (λ _. ((get_or xs i d).until ≤ u) ⊎ (u < (get_or xs i d).from)) [
        | inl a ↦ (let one = apart.apart i (k - 1) d a within in let two = begun (k - 1) d (omega (arith, some)) in inl (omega (arith, one, two, from)))
        | inr a ↦ elim (cases_lt i k) as (λ _. ((get_or xs i d).until ≤ u) ⊎ (u < (get_or xs i d).from)) [
          | inl b ↦ inl (last i d (omega (arith, a, b, some)))
          | inr b ↦ inr (before i d b below)
        ]
      ]

  pub last_over : x.until ≤ t → is_in_any xs t ≡ false
  last_over past = outside t (omega arith) past later

  pub last_lasts : t < x.until → is_in_any xs t ≡ true
  last_lasts lasts = list_any_at (is_in t) xs (k - 1) x within (ap (is_in t) (sym here) ∙ inside t x x_begun lasts)

  pub ends_there : t < x.until → IsEndFrom xs t x.until
  ends_there lasts = record {
    later = lasts;
    within = λ v from early. list_any_at (is_in v) xs (k - 1) x within (ap (is_in v) (sym here) ∙ inside v x (let b = x_begun in omega (arith, b, from)) early);
    over = outside x.until (omega (arith, lasts)) (omega arith) (λ i d after below. let one = apart.apart (k - 1) i d (omega (arith, after, some)) below in subst (λ (y : Spell). y.until < (get_or xs i d).from) (sym (there d)) one);
  }

-- they rise by their first moments
pub rising : (xs : List Spell) → AreApart xs → (i j : ℕ) (d : Spell) → i ≤ j → j < length xs → (get_or xs i d).from ≤ (get_or xs j d).from
rising xs apart i j d low within = elim (cases_eq i j) as (λ _. (get_or xs i d).from ≤ (get_or xs j d).from) [
  | inl same ↦ subst (λ n. (get_or xs i d).from ≤ (get_or xs n d).from) same (let e : (get_or xs i d).from ≤ (get_or xs i d).from = omega arith in e)
  | inr other ↦ (let lasts = apart.lasts i d (omega (arith, low, within)) in let after = apart.apart i j d (omega (arith, low, other)) within in omega (arith, lasts, after))
]

-- where the first begins after a moment, all do
pub all_to_come : (xs : List Spell) → AreApart xs → (at : ℕ) (first : Spell) → nat_lt at (get_or xs 0 first).from ≡ true → (i : ℕ) (d : Spell) → i < length xs → at < (get_or xs i d).from
all_to_come xs apart at first before i d within =
    let same : (get_or xs 0 d).from ≡ (get_or xs 0 first).from = ap (λ (x : Spell). x.from) (get_or_default xs 0 d first (omega (arith, within))) in
    let rises = rising xs apart 0 i d (omega arith) within in
    let less = ltb-true at (get_or xs 0 first).from before in
    omega (arith, same, rises, less)

-- ---- one more

or_false : (b : Bool) → (b || false) ≡ b
or_false true = refl
or_false false = refl

-- a time that is none changes nothing
pub adds_none : (xs : List Spell) (from until t : ℕ) → until ≤ from → is_in_any xs t ≡ (is_in_any xs t || (nat_le from t && nat_lt t until))
adds_none xs from until t none = sym (ap (λ b. is_in_any xs t || b) (empty (nat_le from t) (nat_lt t until) refl refl) ∙ or_false (is_in_any xs t))
  where
    empty : (a b : Bool) → nat_le from t ≡ a → nat_lt t until ≡ b → (nat_le from t && nat_lt t until) ≡ false
    empty true true one two = absurd (let p = leb-true from t one in let q = ltb-true t until two in omega (arith, p, q, none))
    empty true false one two = ap (λ b. nat_le from t && b) two ∙ and_false (nat_le from t)
    empty false b one two = ap (λ a. a && nat_lt t until) one

absorbed : (a b : Bool) → (b ≡ true → a ≡ true) → a ≡ (a || b)
absorbed true b so = refl
absorbed false true so = so refl
absorbed false false so = refl

-- what begins in a time and ends no later changes nothing
pub adds_within : (xs : List Spell) (k from until t : ℕ) (x : Spell) → k < length xs → x ≡ get_or xs k x → x.from ≤ from → until ≤ x.until → is_in_any xs t ≡ (is_in_any xs t || (nat_le from t && nat_lt t until))
adds_within xs k from until t x within here begun ends = absorbed (is_in_any xs t) (nat_le from t && nat_lt t until) so
  where
    so : (nat_le from t && nat_lt t until) ≡ true → is_in_any xs t ≡ true
    so e =
        let both = and_parts (nat_le from t) (nat_lt t until) e in
        let low = leb-true from t both.0 in
        let high = ltb-true t until both.1 in
        list_any_at (is_in t) xs k x within (ap (is_in t) (sym here) ∙ inside t x (omega (arith, begun, low)) (omega (arith, ends, high)))

-- what begins after all of them
module _ (xs : List Spell) (from until : ℕ) (lasts : from < until) (past : (i : ℕ) (d : Spell) → i < length xs → (get_or xs i d).until < from) (apart : AreApart xs) where
  abbrev new : Spell
  new = record { from = from; until = until }

  abbrev ys : List Spell
  ys = xs ++ new ∷ []

  -- an old one, or the new one
  abbrev Told : ℕ → Spell → Type 0
  Told i d = ((i < length xs) × (get_or ys i d ≡ get_or xs i d)) ⊎ ((i ≡ length xs) × (get_or ys i d ≡ new))

  told : (i : ℕ) (d : Spell) → i < length ys → Told i d
  told i d within = elim (cases_lt i (length xs)) as (λ _. Told i d) [
    | inl a ↦ inl (a, get_or_append_left xs (new ∷ []) d i a)
    | inr b ↦ (let same : i ≡ length xs = (let all = length-append xs (new ∷ []) in omega (arith, b, within, all)) in inr (same, get_or_push xs new d i (sym same)))
  ]

  pub appended_apart : AreApart ys
  appended_apart = record {
    lasts = λ i d within. elim (told i d within) as (λ _. (get_or ys i d).from < (get_or ys i d).until) [
      | inl a ↦ subst (λ (y : Spell). y.from < y.until) (sym a.1) (apart.lasts i d a.0)
      | inr b ↦ subst (λ (y : Spell). y.from < y.until) (sym b.1) lasts
    ];
    apart = λ i j d before within. elim (told i d (omega (arith, before, within))) as (λ _. (get_or ys i d).until < (get_or ys j d).from) [
      | inl a ↦ elim (told j d within) as (λ _. (get_or ys i d).until < (get_or ys j d).from) [
        | inl b ↦ subst (λ (y : Spell). y.until < (get_or ys j d).from) (sym a.1) (subst (λ (y : Spell). (get_or xs i d).until < y.from) (sym b.1) (apart.apart i j d before b.0))
        | inr b ↦ subst (λ (y : Spell). y.until < (get_or ys j d).from) (sym a.1) (subst (λ (y : Spell). (get_or xs i d).until < y.from) (sym b.1) (past i d a.0))
      ]
      | inr a ↦ absurd (let all = length-append xs (new ∷ []) in let at = a.0 in omega (arith, at, before, within, all))
    ];
  }

  pub appended_in : (t : ℕ) → is_in_any ys t ≡ (is_in_any xs t || (nat_le from t && nat_lt t until))
  appended_in t = list_any-append (is_in t) xs (new ∷ []) ∙ ap (λ b. is_in_any xs t || b) (or_false (is_in t new))

  pub appended_begun : HaveBegun xs from → HaveBegun ys from
  appended_begun begun i d within = elim (told i d within) as (λ _. (get_or ys i d).from ≤ from) [
    | inl a ↦ subst (λ (y : Spell). y.from ≤ from) (sym a.1) (begun i d a.0)
    | inr b ↦ subst (λ (y : Spell). y.from ≤ from) (sym b.1) (let e : from ≤ from = omega arith in e)
  ]

-- the last one lasts longer
module _ (xs : List Spell) (k from until : ℕ) (x : Spell) (last : k + 1 ≡ length xs) (here : x ≡ get_or xs k x) (meets : from ≤ x.until) (longer : x.until < until)
    (apart : AreApart xs) (begun : HaveBegun xs from) where
  abbrev long : Spell
  long = record { from = x.from; until = until }

  abbrev zs : List Spell
  zs = set xs k long

  in_xs : k < length xs
  in_xs = omega (arith, last)

  x_there : (d : Spell) → x ≡ get_or xs k d
  x_there d = here ∙ get_or_default xs k x d in_xs

  x_from : x.from ≤ from
  x_from = subst (λ (y : Spell). y.from ≤ from) (sym here) (begun k x in_xs)

  x_lasts : x.from < x.until
  x_lasts = subst (λ (y : Spell). y.from < y.until) (sym here) (apart.lasts k x in_xs)

  abbrev Set : ℕ → Spell → Type 0
  Set i d = ((i ≡ k) × (get_or zs i d ≡ long)) ⊎ ((¬ (i ≡ k)) × (get_or zs i d ≡ get_or xs i d))

  is_set : (i : ℕ) (d : Spell) → Set i d
  is_set i d = elim (cases_eq i k) as (λ _. Set i d) [
    | inl a ↦ inl (a, ap (λ n. get_or zs n d) a ∙ get_or-set_same xs k long d in_xs)
    | inr b ↦ inr (b, get_or-set_other xs k i long d b)
  ]

  pub longer_apart : AreApart zs
  longer_apart = record {
    lasts = λ i d within. elim (is_set i d) as (λ _. (get_or zs i d).from < (get_or zs i d).until) [
      | inl a ↦ subst (λ (y : Spell). y.from < y.until) (sym a.1) (let e = x_lasts in omega (arith, e, longer))
      | inr b ↦ subst (λ (y : Spell). y.from < y.until) (sym b.1) (apart.lasts i d (omega (arith, within, length-set xs k long)))
    ];
    apart = λ i j d before within. elim (is_set i d) as (λ _. (get_or zs i d).until < (get_or zs j d).from) [
      | inl a ↦ absurd (let at = a.0 in omega (arith, at, before, within, last, length-set xs k long))
      | inr a ↦ subst (λ (y : Spell). y.until < (get_or zs j d).from) (sym a.1) (
          elim (is_set j d) as (λ _. (get_or xs i d).until < (get_or zs j d).from) [
            | inl b ↦ subst (λ (y : Spell). (get_or xs i d).until < y.from) (sym b.1) (subst (λ (y : Spell). (get_or xs i d).until < y.from) (ap (λ n. get_or xs n d) b.0 ∙ sym (x_there d)) (apart.apart i j d before (omega (arith, within, length-set xs k long))))
            | inr b ↦ subst (λ (y : Spell). (get_or xs i d).until < y.from) (sym b.1) (apart.apart i j d before (omega (arith, within, length-set xs k long)))
          ]
          )
    ];
  }

  pub longer_begun : HaveBegun zs from
  longer_begun i d within = elim (is_set i d) as (λ _. (get_or zs i d).from ≤ from) [
    | inl a ↦ subst (λ (y : Spell). y.from ≤ from) (sym a.1) x_from
    | inr b ↦ subst (λ (y : Spell). y.from ≤ from) (sym b.1) (begun i d (omega (arith, within, length-set xs k long)))
  ]

  -- the longer time is the old one and the new one together
  together : (t : ℕ) → is_in t long ≡ (is_in t x || (nat_le from t && nat_lt t until))
  together t = by_case (nat_le from t) (nat_lt t x.until) refl refl
    where
      both : (a : Bool) → (a && true) ≡ ((a && true) || (false && true))
      both true = refl
      both false = refl

      goes : (a b : Bool) → nat_le from t ≡ true → nat_lt t x.until ≡ false → nat_le x.from t ≡ a → nat_lt t until ≡ b → is_in t long ≡ (is_in t x || (nat_le from t && nat_lt t until))
      goes true b low high one two = rw (one, low, high) refl
      goes false b low high one two = absurd (let p = leb-true from t low in let q = leb-false x.from t one in let e = x_from in omega (arith, p, q, e))

      by_case : (a b : Bool) → nat_le from t ≡ a → nat_lt t x.until ≡ b → is_in t long ≡ (is_in t x || (nat_le from t && nat_lt t until))
      by_case false true low high = (let shorter : nat_lt t until ≡ true = (let q = ltb-true t x.until high in grind (arith, nat_tests)) in rw (low, high, shorter) (both (nat_le x.from t)))
      by_case false false low high = absurd (let p = leb-false from t low in let q = ltb-false t x.until high in omega (arith, p, q, meets))
      by_case true true low high =
          let begins : nat_le x.from t ≡ true = (let p = leb-true from t low in let e = x_from in grind (arith, nat_tests)) in
          let shorter : nat_lt t until ≡ true = (let q = ltb-true t x.until high in grind (arith, nat_tests)) in rw (begins, low, high, shorter) refl
      by_case true false low high = goes (nat_le x.from t) (nat_lt t until) low high refl refl

  regroup : (a b c d : Bool) → (a || ((b || c) || d)) ≡ ((a || (b || d)) || c)
  regroup true b c d = refl
  regroup false true c d = refl
  regroup false false true true = refl
  regroup false false true false = refl
  regroup false false false true = refl
  regroup false false false false = refl

  pub longer_in : (t : ℕ) → is_in_any zs t ≡ (is_in_any xs t || (nat_le from t && nat_lt t until))
  longer_in t =
      let p = is_in t in
      let q = nat_le from t && nat_lt t until in
      ap (λ ws. list_any p ws) (set_split xs k long in_xs) ∙ list_any-append p (take k xs) (long ∷ drop (suc k) xs)
      ∙ ap (λ b. list_any p (take k xs) || (b || list_any p (drop (suc k) xs))) (together t)
      ∙ regroup (list_any p (take k xs)) (p x) q (list_any p (drop (suc k) xs))
      ∙ ap (λ b. b || q) (sym (list_any-append p (take k xs) (x ∷ drop (suc k) xs)) ∙ ap (list_any p) (sym (set_split xs k x in_xs)) ∙ ap (λ y. list_any p (set xs k y)) here ∙ ap (list_any p) (set-get_or xs k x))
