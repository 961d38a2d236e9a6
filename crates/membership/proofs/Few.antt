-- How many members a table can hold.
use Rattle.std.proofs.Common.{◌≡◌, ◌≢◌, ℕ, ◌+◌, ◌-◌, ◌<◌, ◌≤◌, Bool, true, false, not, cond, eqb, T, ◌&&◌, List, [], ◌∷◌, length, Option, Some, inl, inr, refl, sym, ap, subst, ◌∙◌, arith}
use Rattle.std.specs.Option.{is_some}
use Rattle.std.specs.List.{AllByRecursion}
use Rattle.std.specs.Ordering.{nat_cmp, eq_by_cmp, is_eq, is_lt, MatchOrdering}
use Rattle.std.specs.Cmp.{nat_cmp_total, tied_itself, unsigned_tied, ranks}
use Rattle.std.specs.declared.cmp.Ordering.{Ordering}
use Rattle.std.specs.declared.cmp.Ordering.TheVariants.{Less, Equal, Greater}
use Rattle.std.specs.FinMap.{entries, get, insert, contains_key, len, entries_sorted, get-entries, get-insert, len-insert, len-entries}
use Rattle.std.specs.FinMap.Entries as by
use Rattle.std.proofs.lemmas.Bool.{eqb-true, cases_Bool}
use Rattle.std.proofs.lemmas.List.Sums.{count_by-le-length}
use Rattle.incarnation.specs.declared.Claim.{Claim}
use Rattle.incarnation.specs.declared.Claim.TheVariants.{Alive}
use Rattle.base.specs.declared.profile.Profile.{Profile}
use Rattle.base.specs.declared.profile.Profile.TheVariants.{Papers, Memberlist, Hashicorp}
use Rattle.membership.specs.Table.{Known, is_confirm, live_count, known_count, size_by}

abbrev Entry : Type 0
Entry = ℕ × (Claim × ℕ)

first : (a b : Bool) → T (a && b) → T a
first true b h = tt
first false b h = absurd h

second : (a b : Bool) → T (a && b) → T b
second true b h = h
second false b h = absurd h

less : (k n : ℕ) (o : Ordering) → MatchOrdering o (k < n) (k ≡ n) (n < k) → T (is_lt o) → k < n
less k n Less r h = r
less k n Equal r h = absurd h
less k n Greater r h = absurd h

above : (k : ℕ) (es : List Entry) → T (by.below_all nat_cmp k es) → AllByRecursion (λ e. k + 1 ≤ e.0) es
above k [] h = tt
above k (e ∷ es) h =
    let lt : k < e.0 = less k e.0 (nat_cmp k e.0) (ranks k e.0) (first _ _ h) in
    (omega arith, above k es (second _ _ h))

rising : (n a : ℕ) (es : List Entry) → T (by.is_sorted nat_cmp es) → AllByRecursion (λ e. a ≤ e.0) es → AllByRecursion (λ e. e.0 < n) es → length es ≤ n - a
rising n a [] sorted low high = omega arith
rising n a (e ∷ es) sorted low high =
    let rest : length es ≤ n - (e.0 + 1) = rising n (e.0 + 1) es (second _ _ sorted) (above e.0 es (first _ _ sorted)) high.1 in
    omega (arith, low.0, high.0, rest)

at_first : (e : Entry) (es : List Entry) → is_some (by.find nat_cmp e.0 (e ∷ es)) ≡ true
at_first e es = ap (λ o. is_some (cond (is_eq o) (Some e.1) (by.find nat_cmp e.0 es))) (tied_itself nat_cmp_total e.0)

later : (b : Bool) (x : Claim × ℕ) (o : Option (Claim × ℕ)) → is_some o ≡ true → is_some (cond b (Some x) o) ≡ true
later true x o h = refl
later false x o h = h

keys_below : (n : ℕ) (es : List Entry) → ((q : ℕ) → is_some (by.find nat_cmp q es) ≡ true → q < n) → AllByRecursion (λ e. e.0 < n) es
keys_below n [] h = tt
keys_below n (e ∷ es) h = (h e.0 (at_first e es), keys_below n es (λ q there. h q (later (eq_by_cmp nat_cmp q e.0) e.1 (by.find nat_cmp q es) there)))

at_least : (es : List Entry) → AllByRecursion (λ e. 0 ≤ e.0) es
at_least [] = tt
at_least (e ∷ es) = (omega arith, at_least es)

-- a table of numbers below n has no more than n
len_below : (n : ℕ) (table : Known) → ((q : ℕ) → contains_key table q ≡ true → q < n) → len table ≤ n
len_below n table h =
    let few = rising n 0 (entries table) (entries_sorted table) (at_least (entries table))
    (keys_below n (entries table) (λ q there. h q (ap is_some (get-entries table q) ∙ there))) in
    omega (arith, few, len-entries table)

absent : (table : Known) (m : ℕ) → ((q : ℕ) → contains_key table q ≡ true → q ≢ m) → contains_key table m ≡ false
absent table m apart = elim (cases_Bool (contains_key table m)) [ inl here ↦ absurd (apart m here refl) | inr none ↦ none ]

with_one : (n m : ℕ) (table : Known) → m < n → ((q : ℕ) → contains_key table q ≡ true → q < n) → (q : ℕ) (b : Bool) → eqb q m ≡ b
    → is_some (cond b (Some (Alive, 0)) (get table q)) ≡ true → q < n
with_one n m table own others q true e there = let same : q ≡ m = eqb-true q m e in omega arith
with_one n m table own others q false e there = others q there

-- all that are known and oneself are no more than the members that there are
all-le : (n m : ℕ) (table : Known) → m < n → ((q : ℕ) → contains_key table q ≡ true → (q < n) × (q ≢ m)) → 1 + length (entries table) ≤ n
all-le n m table own others =
    let all = len_below n (insert table m (Alive, 0)) (λ q there.
    with_one n m table own (λ r here. (others r here).0) q (eqb q m) refl
    (subst (λ b. is_some (cond b (Some (Alive, 0)) (get table q)) ≡ true) (unsigned_tied q m)
    (sym (ap is_some (get-insert nat_cmp_total table m (Alive, 0) q)) ∙ there))) in
    let none = absent table m (λ r here. (others r here).1) in
    let more : len (insert table m (Alive, 0)) ≡ len table + 1 =
    len-insert nat_cmp_total table m (Alive, 0) ∙ ap (λ b. cond b (len table) (len table + 1)) none in
    omega (arith, all, more, len-entries table)

-- n, the members that are not confirmed, is no more than the members that there are
pub live_count-le : (n m : ℕ) (table : Known) → m < n → ((q : ℕ) → contains_key table q ≡ true → (q < n) × (q ≢ m)) → live_count table ≤ n
unfolding live_count
live_count-le n m table own others =
    omega (arith, all-le n m table own others, count_by-le-length (λ (e : Entry). not (is_confirm e.1.0)) (entries table))

pub live_count-positive : (table : Known) → 1 ≤ live_count table
unfolding live_count
live_count-positive table = omega arith

-- and so is n as any rules count it
pub size-le : (profile : Profile) (n m : ℕ) (table : Known) → m < n → ((q : ℕ) → contains_key table q ≡ true → (q < n) × (q ≢ m)) → size_by profile table ≤ n
unfolding known_count
size-le Papers n m table own others = live_count-le n m table own others
size-le Memberlist n m table own others = live_count-le n m table own others
size-le Hashicorp n m table own others = all-le n m table own others

pub size-positive : (profile : Profile) (table : Known) → 1 ≤ size_by profile table
unfolding known_count
size-positive Papers table = live_count-positive table
size-positive Memberlist table = live_count-positive table
size-positive Hashicorp table = omega arith

-- the entries of a table of numbers below n
pub entries_below : (n : ℕ) (table : Known) → ((q : ℕ) → contains_key table q ≡ true → q < n) → AllByRecursion (λ (e : Entry). e.0 < n) (entries table)
entries_below n table h = keys_below n (entries table) (λ q there. h q (ap is_some (get-entries table q) ∙ there))

pub few_entries : (n : ℕ) (table : Known) → ((q : ℕ) → contains_key table q ≡ true → q < n) → length (entries table) ≤ n
few_entries n table h = omega (arith, len_below n table h, len-entries table)
