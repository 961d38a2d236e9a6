-- When a member is awake: at the first moment, from one on, that lies in no pause of it.
use Rattle.std.proofs.Common.{◌≡◌, ◌<◌, ◌≤◌, ◌+◌, ◌-◌, ◌^◌, ℕ, zero, suc, List, [], ◌∷◌, Bool, true, false, not, ◌&&◌, ◌||◌, cond, nat_lt, nat_le, nat_eq, Some, refl, ap, sym, ◌∙◌, subst, arith}
use Rattle.std.specs.List.{find, list_any, range_with_len, AllByRecursion}
use Rattle.std.specs.Option.{unwrap_or}
use Rattle.std.proofs.lemmas.Bool.{false≢true, not-true, not_from_true, not_from_false, and_parts, leb-true, ltb-true, ltb-false}
use Rattle.std.proofs.lemmas.List.Sums.{sum_by-cons}
use Rattle.scenario.specs.Setup.{Setup, is_in_pause, is_paused, ends_of, awake, free, IsBeforeThird, IsSound}
use Rattle.scenario.specs.declared.settings.Pause.{Pause}
use Rattle.scenario.specs.declared.spells.Spell.{Spell}
use Rattle.scenario.specs.Spells.{is_in_any}

-- ---- one pause, and a list of them

record IsIn (m t : ℕ) (p : Pause) : Type 0 where
  its : nat_eq p.member m ≡ true
  begun : p.from ≤ t
  lasts : t < p.until

is_in : (m t : ℕ) (p : Pause) → is_in_pause m t p ≡ true → IsIn m t p
is_in m t p inside =
    let both = and_parts (nat_eq p.member m) (nat_le p.from t && nat_lt t p.until) inside in
    let times = and_parts (nat_le p.from t) (nat_lt t p.until) both.1 in
    record { its = both.0; begun = leb-true p.from t times.0; lasts = ltb-true t p.until times.1 }

ends_more : (q : Pause) (qs : List Pause) → ends_of (q ∷ qs) ≡ q.until + ends_of qs
ends_more q qs = sum_by-cons (λ (e : Pause). e.until) q qs

-- a moment in a pause is before some number that all ends keep to
before_by : (m t n : ℕ) (p : Pause) (rest : Bool) (b : Bool) → is_in_pause m t p ≡ b → (b || rest) ≡ true → p.until ≤ n → (rest ≡ true → t < n) → t < n
before_by m t n p rest true inside either short later = let was = is_in m t p inside in let lasts = was.lasts in omega (arith, lasts, short)
before_by m t n p rest false outside either short later = later either

before_ends : (m t : ℕ) (ps : List Pause) → list_any (is_in_pause m t) ps ≡ true → t < ends_of ps
before_ends m t [] paused = absurd (false≢true paused)
before_ends m t (p ∷ ps) paused =
    before_by m t (ends_of (p ∷ ps)) p (list_any (is_in_pause m t) ps) (is_in_pause m t p) refl paused
    (omega (arith, ends_more p ps))
    (λ rest. let earlier = before_ends m t ps rest in omega (arith, earlier, ends_more p ps))

before_limit : (m t n : ℕ) (ps : List Pause) → AllByRecursion (λ (p : Pause). (p.from < p.until) × (p.until ≤ n)) ps → list_any (is_in_pause m t) ps ≡ true → t < n
before_limit m t n [] short paused = absurd (false≢true paused)
before_limit m t n (p ∷ ps) short paused =
    before_by m t n p (list_any (is_in_pause m t) ps) (is_in_pause m t p) refl paused short.0.1 (before_limit m t n ps short.1)

-- ---- the first moment that passes a test

-- the place of the first number from one on that passes, and what passes before it
record IsFirst (test : ℕ → Bool) (t k : ℕ) : Type 0 where
  before : (j : ℕ) → j < k → test (t + j) ≡ false
  there : test (t + k) ≡ true

first_later : (test : ℕ → Bool) (t k : ℕ) → test t ≡ false → IsFirst test (t + 1) k → IsFirst test t (k + 1)
first_later test t k fails f = record { before = λ j early. before_at j early; there = ap test (let e : t + (k + 1) ≡ t + 1 + k = omega arith in e) ∙ f.there }
  where
    before_at : (j : ℕ) → j < k + 1 → test (t + j) ≡ false
    before_at zero early = ap test (let e : t + 0 ≡ t = omega arith in e) ∙ fails
    before_at (suc i) early = ap test (let e : t + suc i ≡ t + 1 + i = omega arith in e) ∙ f.before i (omega (arith, early))

-- where some number passes there is a first one
first_step : (test : ℕ → Bool) (t n : ℕ) (b : Bool) → test t ≡ b → (k : ℕ) × (k ≤ n) × IsFirst test (t + 1) k → (k : ℕ) × (k ≤ suc n) × IsFirst test t k
first_step test t n true here next = (0, omega arith, record { before = λ j early. absurd (omega (arith, early)); there = ap test (let e : t + 0 ≡ t = omega arith in e) ∙ here })
first_step test t n false here next = let small = next.1 in (next.0 + 1, omega (arith, small), first_later test t next.0 here next.2)

first_of : (test : ℕ → Bool) (t n : ℕ) → test (t + n) ≡ true → (k : ℕ) × (k ≤ n) × IsFirst test t k
first_of test t zero passes = (0, omega arith, record { before = λ j early. absurd (omega (arith, early)); there = passes })
first_of test t (suc n) passes = first_step test t n (test t) refl (first_of test (t + 1) n (ap test (let e : t + 1 + n ≡ t + suc n = omega arith in e) ∙ passes))

-- it is the one that is found
find_first : (test : ℕ → Bool) (t k n : ℕ) → k < n → IsFirst test t k → find test (range_with_len t n) ≡ Some (t + k)
find_first test t k zero within first = absurd (omega (arith, within))
find_first test t zero (suc n) within first =
    let here : test t ≡ true = ap test (let e : t ≡ t + 0 = omega arith in e) ∙ first.there in
    ap (λ b. cond b (Some t) (find test (range_with_len (t + 1) n))) here ∙ ap Some (let e : t ≡ t + 0 = omega arith in e)
find_first test t (suc k) (suc n) within first =
    let here : test t ≡ false = ap test (let e : t ≡ t + 0 = omega arith in e) ∙ first.before 0 (omega arith) in
    let next : IsFirst test (t + 1) k = record {
      before = λ j early. ap test (let e : t + 1 + j ≡ t + suc j = omega arith in e) ∙ first.before (suc j) (omega (arith, early));
      there = ap test (let e : t + 1 + k ≡ t + suc k = omega arith in e) ∙ first.there;
    } in
    ap (λ b. cond b (Some t) (find test (range_with_len (t + 1) n))) here ∙ find_first test (t + 1) k n (omega (arith, within)) next
    ∙ ap Some (let e : t + 1 + k ≡ t + suc k = omega arith in e)

-- ---- the moment at which a member is awake

-- from the one moment to the other the member is paused, and then it isn't
pub record IsAwakeAt (s : Setup) (m t u : ℕ) : Type 0 where
  pub later : t ≤ u
  pub before : (v : ℕ) → t ≤ v → v < u → is_paused s m v ≡ true
  pub free : is_paused s m u ≡ false

abbrev runs : Setup → ℕ → ℕ → Bool
runs s m v = not (is_paused s m v)

-- how long it is paused, at most: up to the last end
pause_ends : (s : Setup) (m t u : ℕ) → IsAwakeAt s m t u → u ≤ t + ends_of s.pauses
pause_ends s m t u at = by_order (nat_lt t u) refl
  where
    by_order : (b : Bool) → nat_lt t u ≡ b → u ≤ t + ends_of s.pauses
    by_order true after =
        let put_off : t < u = ltb-true t u after in
        let last = at.before (u - 1) (omega (arith, put_off)) (omega (arith, put_off)) in
        let ends = before_ends m (u - 1) s.pauses last in
        omega (arith, ends, put_off)
    by_order false not_after = omega (arith, ltb-false t u not_after)

pub awake_is : (s : Setup) (m t u : ℕ) → IsAwakeAt s m t u → awake s m t ≡ u
unfolding awake
awake_is s m t u at =
    let later = at.later in
    let u_is : t + (u - t) ≡ u = omega (arith, later) in
    let ends = pause_ends s m t u at in
    let first : IsFirst (runs s m) t (u - t) = record {
      before = λ j early. not_from_true (is_paused s m (t + j)) (at.before (t + j) (omega arith) (omega (arith, early, later)));
      there = not_from_false (is_paused s m (t + (u - t))) (ap (is_paused s m) u_is ∙ at.free);
    } in
    ap (λ o. unwrap_or o t) (find_first (runs s m) t (u - t) (ends_of s.pauses + 1) (omega (arith, ends)) first) ∙ u_is

past_all : (s : Setup) (m t : ℕ) → is_paused s m (t + ends_of s.pauses) ≡ false
past_all s m t = by_test (is_paused s m (t + ends_of s.pauses)) refl
  where
    by_test : (b : Bool) → is_paused s m (t + ends_of s.pauses) ≡ b → is_paused s m (t + ends_of s.pauses) ≡ false
    by_test true paused = absurd (let e = before_ends m (t + ends_of s.pauses) s.pauses paused in omega (arith, e))
    by_test false free = free

-- there always is such a moment
some_moment : (s : Setup) (m t : ℕ) → (u : ℕ) × IsAwakeAt s m t u
some_moment s m t =
    let first = first_of (runs s m) t (ends_of s.pauses) (not_from_false (is_paused s m (t + ends_of s.pauses)) (past_all s m t)) in (
      t + first.0,
      record {
        later = omega arith;
        before = λ v from early.
            let v_is : t + (v - t) ≡ v = omega (arith, from) in
            ap (is_paused s m) (sym v_is) ∙ not_false (is_paused s m (t + (v - t))) (first.2.before (v - t) (omega (arith, from, early)));
        free = not-true (is_paused s m (t + first.0)) first.2.there;
      },
    )
  where
    not_false : (b : Bool) → not b ≡ false → b ≡ true
    not_false true e = refl
    not_false false e = absurd (false≢true (sym e))

-- it is the least moment, from the given one on, at which the member isn't paused
pub is_awake_at : (s : Setup) (m t : ℕ) → IsAwakeAt s m t (awake s m t)
is_awake_at s m t = let at = some_moment s m t in subst (IsAwakeAt s m t) (sym (awake_is s m t at.0 at.1)) at.1

-- the pauses last, up to the latest moment of a text
abbrev pub ArePauses : List Pause → Type 0
ArePauses ps = AllByRecursion (λ (p : Pause). (p.from < p.until) × (p.until ≤ 2 ^ 40)) ps

-- what is put off is put off to the end of a pause at most
pub awake_small : (s : Setup) → ArePauses s.pauses → (m t u : ℕ) → IsAwakeAt s m t u → t < u → u ≤ 2 ^ 40
awake_small s pauses m t u at put_off =
    let last = at.before (u - 1) (omega (arith, put_off)) (omega (arith, put_off)) in
    let small = before_limit m (u - 1) (2 ^ 40) s.pauses pauses last in
    omega (arith, small, put_off)

pub small_by : (s : Setup) → ArePauses s.pauses → (m t u : ℕ) → IsAwakeAt s m t u → t ≤ 2 ^ 40 → u ≤ 2 ^ 40
small_by s pauses m t u at small = by_order (nat_lt t u) refl
  where
    by_order : (b : Bool) → nat_lt t u ≡ b → u ≤ 2 ^ 40
    by_order true after = awake_small s pauses m t u at (ltb-true t u after)
    by_order false not_after = omega (arith, ltb-false t u not_after, small)

-- who never pauses handles all at its moment
pub awake_at_once : (s : Setup) (m t : ℕ) → s.pauses ≡ [] → awake s m t ≡ t
awake_at_once s m t none =
    awake_is s m t t (record { later = omega arith; before = λ v from early. absurd (omega (arith, from, early)); free = ap (λ (ps : List Pause). list_any (is_in_pause m t) ps) none })

-- what a search in the member's times says of the scenario that they are of
pub as_found : (s : Setup) (spells : List Spell) (m n t r u : ℕ) → ((v : ℕ) → is_in_any spells v ≡ is_paused s n v) → n ≡ m → r ≡ t → r ≤ u
    → ((v : ℕ) → r ≤ v → v < u → is_in_any spells v ≡ true) → is_in_any spells u ≡ false → IsAwakeAt s m t u
as_found s spells m n t r u are member moment later before free = record {
  later = omega (arith, later, moment);
  before = λ v from early. sym (same v) ∙ before v (omega (arith, from, moment)) early;
  free = sym (same u) ∙ free;
}
  where
    same : (v : ℕ) → is_in_any spells v ≡ is_paused s m v
    same v = are v ∙ ap (λ k. is_paused s k v) member

-- the moment at which a member is awake is the least one that there may be
pub awake_least : (s : Setup) (m t : ℕ) → (t ≤ awake s m t) × (is_paused s m (awake s m t) ≡ false) × ((u : ℕ) → t ≤ u → is_paused s m u ≡ false → awake s m t ≤ u)
awake_least s m t = let at = is_awake_at s m t in (at.later, at.free, λ u from free. least u (nat_lt u (awake s m t)) from free refl)
  where
    least : (u : ℕ) (b : Bool) → t ≤ u → is_paused s m u ≡ false → nat_lt u (awake s m t) ≡ b → awake s m t ≤ u
    least u true from free early = absurd (false≢true (sym free ∙ (is_awake_at s m t).before u from (ltb-true u (awake s m t) early)))
    least u false from free late = ltb-false u (awake s m t) late

-- before version 3 nobody pauses
pub always_awake : (s : Setup) (m t : ℕ) → IsSound s → IsBeforeThird s.version → awake s m t ≡ t
always_awake s m t sound old = awake_at_once s m t (sound.before_third old).pauses

-- ---- blocks are to `free` what pauses are to `awake`

abbrev pub with_blocks : Setup → Setup
with_blocks s = record s { pauses = s.blocks }

pub free_is : (s : Setup) (m t : ℕ) → awake (with_blocks s) m t ≡ free s m t
unfolding awake free
free_is s m t = refl
