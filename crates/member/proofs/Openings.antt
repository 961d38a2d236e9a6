-- The tables and rotas with which members start.
use Rattle.std.proofs.Common.{◌≡◌, ◌≢◌, ℕ, zero, suc, ◌+◌, ◌<◌, ◌≤◌, Bool, true, false, cond, not, eqb, List, [], ◌∷◌, ◌++◌, map, filter, Option, Some, Result, Ok, Err, inl, inr, refl, sym, ap, subst, ◌∙◌, arith}
use Rattle.std.specs.Option.{is_some, IfSome}
use Rattle.std.specs.List.{AllByRecursion, range_with_len}
use Rattle.std.specs.Ordering.{nat_cmp}
use Rattle.std.specs.Cmp.{unsigned_tied}
use Rattle.std.specs.FinMap.{empty, get, find, get-empty}
use Rattle.std.proofs.lemmas.Bool.{false≢true, eqb-true, eqb-false, cases_Bool, cond_both, and_parts}
use Rattle.std.proofs.lemmas.List.FromFn.{filter_of_map_range_with_len_more}
use Rattle.scenario.specs.Setup.{Setup, member_count}
use Rattle.probing.specs.ProbeOrder.{ProbeOrder, NoRepeats, IsSoundOrder, times_in}
use Rattle.probing.proofs.SoundLemmas.{times_in-cons, one_if-same, one_if-other}
use Rattle.incarnation.specs.declared.Claim.{Claim}
use Rattle.incarnation.specs.declared.Claim.TheVariants.{Alive}
use Rattle.lifeguard.specs.declared.probe.Probe.{Probe}
use Rattle.membership.specs.Table.{Known, all_alive}
use Rattle.membership.proofs.Alive.{put_all, get-alive}
use Rattle.member.specs.Here.{HoldsOthers}
use Rattle.member.specs.State.{is_probed}
use Rattle.member.specs.Step.{is_first_other, first_others}

-- a member that knows nobody
pub holds_none : (s : Setup) (m : ℕ) (table : Known) (rota : ProbeOrder) (probe : Option Probe) (contact : Option ℕ) → table ≡ empty → rota.members ≡ [] → IsSoundOrder rota → IfSome probe (λ p. p.target < member_count s)
    → IfSome contact (λ c. c < member_count s) → HoldsOthers s m table rota probe contact
holds_none s m table rota probe contact nobody none sound target asked = record {
  others = λ q there. absurd (false≢true (sym (ap is_some (ap (λ (t : Known). get t q) nobody ∙ get-empty nat_cmp q)) ∙ there));
  listed = λ q _. ap (λ l. times_in l q) none;
  sound = sound;
  target = target;
  asked = asked;
}

-- ---- the others that start at moment 0

map_same : (xs : List ℕ) → map (λ x. x) xs ≡ xs
map_same [] = refl
map_same (x ∷ xs) = ap (λ l. x ∷ l) (map_same xs)

-- one number more is looked at
pub others_next : (p : ℕ → Bool) (i : ℕ) (old new : List ℕ) (b : Bool) → old ≡ filter p (range_with_len 0 i) → b ≡ p i → new ≡ old ++ cond b (i ∷ []) []
    → new ≡ filter p (range_with_len 0 (i + 1))
others_next p i old new b so_far is more =
    more ∙ ap (λ l. l ++ cond b (i ∷ []) []) so_far ∙ ap (λ c. filter p (range_with_len 0 i) ++ cond c (i ∷ []) []) is
    ∙ ap (λ l. filter p l ++ cond (p i) (i ∷ []) []) (sym (map_same (range_with_len 0 i)))
    ∙ sym (filter_of_map_range_with_len_more p (λ x. x) 0 i i (omega arith))
    ∙ ap (filter p) (map_same (range_with_len 0 (i + 1)))

no_number : (a n q : ℕ) → q < a → times_in (range_with_len a n) q ≡ 0
no_number a zero q h = refl
no_number a (suc n) q h =
    let rest : times_in (range_with_len (a + 1) n) q ≡ 0 = no_number (a + 1) n q (omega arith) in
    let other : a ≢ q = λ same. omega arith in
    omega (arith, times_in-cons a (range_with_len (a + 1) n) q, one_if-other a q other, rest)

one_number : (a n q : ℕ) → times_in (range_with_len a n) q ≤ 1
one_number a zero q = omega arith
one_number a (suc n) q =
    elim (cases_Bool (eqb a q)) [
      | inl e ↦
          let same : a ≡ q = eqb-true a q e in
          let rest : times_in (range_with_len (a + 1) n) q ≡ 0 = no_number (a + 1) n q (omega arith) in
          omega (arith, times_in-cons a (range_with_len (a + 1) n) q, one_if-same a q same, rest)
      | inr e ↦
          let rest : times_in (range_with_len (a + 1) n) q ≤ 1 = one_number (a + 1) n q in
          omega (arith, times_in-cons a (range_with_len (a + 1) n) q, one_if-other a q (eqb-false a q e), rest)
    ]

fewer : (p : ℕ → Bool) (xs : List ℕ) (q : ℕ) → times_in (filter p xs) q ≤ times_in xs q
fewer p [] q = omega arith
fewer p (x ∷ xs) q =
    cond_both (p x) (x ∷ filter p xs) (filter p xs) (λ l. times_in l q ≤ times_in (x ∷ xs) q)
    (λ _. omega (arith, times_in-cons x (filter p xs) q, times_in-cons x xs q, fewer p xs q))
    (λ _. omega (arith, times_in-cons x xs q, fewer p xs q))

-- no member is twice among them
pub first_distinct : (s : Setup) (m : ℕ) (xs : List ℕ) → xs ≡ first_others s m → NoRepeats xs
unfolding first_others
first_distinct s m xs is q =
    let few : times_in (filter (is_first_other s m) (range_with_len 0 (member_count s))) q ≤ 1 =
    omega (arith, fewer (is_first_other s m) (range_with_len 0 (member_count s)) q, one_number 0 (member_count s) q) in
    subst (λ l. times_in l q ≤ 1) (sym is) few

apart : (a m : ℕ) (b : Bool) → eqb a m ≡ b → not b ≡ true → a ≢ m
apart a m true e h = absurd (false≢true h)
apart a m false e h = eqb-false a m e

all_first : (s : Setup) (m a n : ℕ) → AllByRecursion (λ q. (q < a + n) × (q ≢ m)) (filter (is_first_other s m) (range_with_len a n))
all_first s m a zero = tt
all_first s m a (suc n) =
    let rest = subst (λ e. AllByRecursion (λ q. (q < e) × (q ≢ m)) (filter (is_first_other s m) (range_with_len (a + 1) n))) (let same : a + 1 + n ≡ a + suc n = omega arith in same) (all_first s m (a + 1) n) in
    cond_both (is_first_other s m a) (a ∷ filter (is_first_other s m) (range_with_len (a + 1) n)) (filter (is_first_other s m) (range_with_len (a + 1) n))
    (λ l. AllByRecursion (λ q. (q < a + suc n) × (q ≢ m)) l)
    (λ is. ((omega arith, apart a m (eqb a m) refl (and_parts _ _ is).1), rest)) (λ _. rest)

-- ---- tables in which all are alive

holds_cases : (P : ℕ → Type 0) (x q : ℕ) (o : Option (Claim × ℕ)) (b : Bool) → eqb q x ≡ b → P x → (is_some o ≡ true → P q)
    → is_some (cond b (Some (Alive, 0)) o) ≡ true → P q
holds_cases P x q o true e first rest there = subst P (sym (eqb-true q x e)) first
holds_cases P x q o false e first rest there = rest there

alive_holds : (P : ℕ → Type 0) (xs : List ℕ) → AllByRecursion P xs → (q : ℕ) → is_some (find nat_cmp q (put_all xs)) ≡ true → P q
alive_holds P [] all q there = absurd (false≢true there)
alive_holds P (x ∷ xs) all q there =
    holds_cases P x q (find nat_cmp q (put_all xs)) (eqb q x) refl all.0 (alive_holds P xs all.1 q)
    (subst (λ b. is_some (cond b (Some (Alive, 0)) (find nat_cmp q (put_all xs))) ≡ true) (unsigned_tied q x) there)

none_cases : (x : ℕ) (xs : List ℕ) (q : ℕ) (o : Option (Claim × ℕ)) (b : Bool) → eqb q x ≡ b → (is_probed o ≡ false → times_in xs q ≡ 0)
    → is_probed (cond b (Some (Alive, 0)) o) ≡ false → times_in (x ∷ xs) q ≡ 0
none_cases x xs q o true e rest none = absurd (false≢true (sym none))
none_cases x xs q o false e rest none =
    let other : x ≢ q = λ same. eqb-false q x e (sym same) in
    omega (arith, times_in-cons x xs q, one_if-other x q other, rest none)

alive_none : (xs : List ℕ) (q : ℕ) → is_probed (find nat_cmp q (put_all xs)) ≡ false → times_in xs q ≡ 0
alive_none [] q none = refl
alive_none (x ∷ xs) q none =
    none_cases x xs q (find nat_cmp q (put_all xs)) (eqb q x) refl (alive_none xs q)
    (subst (λ b. is_probed (cond b (Some (Alive, 0)) (find nat_cmp q (put_all xs))) ≡ false) (unsigned_tied q x) none)

-- a member that starts at moment 0 holds others of the scenario, and probes those that it holds
pub holds_first : (s : Setup) (m : ℕ) (table : Known) (rota : ProbeOrder) (probe : Option Probe) (contact : Option ℕ) (xs : List ℕ) → xs ≡ first_others s m → table ≡ all_alive xs → rota.members ≡ xs → IsSoundOrder rota
    → IfSome probe (λ p. p.target < member_count s) → IfSome contact (λ c. c < member_count s) → HoldsOthers s m table rota probe contact
unfolding first_others
holds_first s m table rota probe contact xs is alive listed sound target asked =
    let all : AllByRecursion (λ q. (q < member_count s) × (q ≢ m)) xs =
    subst (AllByRecursion (λ q. (q < member_count s) × (q ≢ m))) (sym is)
    (subst (λ n. AllByRecursion (λ q. (q < n) × (q ≢ m)) (filter (is_first_other s m) (range_with_len 0 (member_count s)))) (let e : 0 + member_count s ≡ member_count s = omega arith in e) (all_first s m 0 (member_count s))) in
    let here : (q : ℕ) → get table q ≡ find nat_cmp q (put_all xs) = λ q. ap (λ (t : Known). get t q) alive ∙ get-alive xs q in
    record {
      others = λ q there. alive_holds (λ r. (r < member_count s) × (r ≢ m)) xs all q (sym (ap is_some (here q)) ∙ there);
      listed = λ q none. ap (λ l. times_in l q) listed ∙ alive_none xs q (sym (ap is_probed (here q)) ∙ none);
      sound = sound;
      target = target;
      asked = asked;
    }

-- the members of a rota that was made
pub members_in : {E : Type 0} → Result ProbeOrder E → List ℕ
members_in (Ok rota) = rota.members
members_in (Err e) = []

pub same_members : {E : Type 0} (made rota : ProbeOrder) → ◌≡◌ {A = Result ProbeOrder E} (Ok made) (Ok rota) → made.members ≡ rota.members
unfolding members_in
same_members made rota e = ap members_in e
