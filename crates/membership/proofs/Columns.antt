-- Columns of claims and numbers as a table.
use Rattle.std.proofs.Common.{◌≡◌, ◌≢◌, ℕ, zero, suc, ◌+◌, ◌<◌, ◌≤◌, Bool, true, false, cond, not, eqb, nat_eq, ◌&&◌, List, [], ◌∷◌, ◌++◌, map, filter, length, replicate, set, get_or, take, Option, Some, None, Result, Ok, Err, IfOk, OnErr, count_by, sum_by, slice_index, ap, ◌∙◌, sym, refl, arith}
use Rattle.std.specs.Option.{option_map, option_map_or}
use Rattle.std.specs.List.{AllByRecursion}
use Rattle.std.specs.List.Sorted.{IsStrictlySortedBy}
use Rattle.std.specs.Map.{keys_of}
use Rattle.std.specs.Ordering.{nat_cmp, eq_by_cmp}
use Rattle.std.specs.Cmp.{nat_cmp_total, unsigned_tied, nat_cmp_is}
use Rattle.std.specs.declared.cmp.Ordering.TheVariants.{Less}
use Rattle.std.specs.FinMap.{get, insert, remove, find, get-from_entries, get-insert, get-remove, same_map, nat_cmp-IsAntisymmetric}
use Rattle.std.proofs.lemmas.Bool.{eqb-true, eqb-false, eq-eqb, ne_eqb}
use Rattle.std.proofs.lemmas.List.{get_or-set_same, get_or-set_other, get_or_past, append-nil, map-append, length-take-le, length-map, map_more, take_all}
use Rattle.std.proofs.lemmas.List.Elements.{filter-append}
use Rattle.std.proofs.lemmas.List.Sums.{sum_by-cons, sum_by_push}
use Rattle.incarnation.specs.declared.Claim.{Claim}
use Rattle.incarnation.specs.declared.Update.{Update}
use Rattle.membership.specs.Table.{known_of, all_alive, is_alive, is_confirm, live_count, known_count, update_by}
use Rattle.membership.proofs.Entries.{live_count-entries, known_count-entries}
use Rattle.membership.proofs.Alive.{get-alive}
use Rattle.membership.proofs.OneByte.{claim_read}
use Rattle.membership.specs.declared.held.Held.{Held}
use Rattle.membership.specs.declared.held.Held.TheVariants.{Nothing}
use Rattle.membership.specs.Columns.{entries_from, claim_at, held_at, claim_weight, known_weight}
use Rattle.membership.specs.Held.{claim_of, claims_in}

abbrev pub Entry : Type 0
Entry = ℕ × (Claim × ℕ)

-- ---- what is looked up

untied : (a b : ℕ) → ¬ (a ≡ b) → eq_by_cmp nat_cmp a b ≡ false
untied a b other = unsigned_tied a b ∙ ne_eqb a b other

tied : (a b : ℕ) → a ≡ b → eq_by_cmp nat_cmp a b ≡ true
tied a b same = unsigned_tied a b ∙ eq-eqb a b same

module _ (incs : List ℕ) where
  none_before : (claims : List (Option Claim)) (a q : ℕ) → q < a → find nat_cmp q (entries_from a claims incs) ≡ None
  none_before [] a q below = refl
  none_before (None ∷ claims) a q below = none_before claims (a + 1) q (omega arith)
  none_before (Some c ∷ claims) a q below =
      ap (λ b. cond b (Some (c, slice_index incs a)) (find nat_cmp q (entries_from (a + 1) claims incs))) (untied q a (λ same. omega arith)) ∙ none_before claims (a + 1) q (omega arith)

  -- what is found at a place
  abbrev held_from : ℕ → Option Claim → Option (Claim × ℕ)
  held_from n claim = option_map (λ c. (c, slice_index incs n)) claim

  find_held : (claims : List (Option Claim)) (a i q : ℕ) → q ≡ a + i → find nat_cmp q (entries_from a claims incs) ≡ held_from q (claim_at claims i)
  find_held [] a i q is = refl
  find_held (None ∷ claims) a zero q is = none_before claims (a + 1) q (omega arith)
  find_held (None ∷ claims) a (suc i) q is = find_held claims (a + 1) i q (omega arith)
  find_held (Some c ∷ claims) a zero q is =
      let same : q ≡ a = omega arith in
      ap (λ b. cond b (Some (c, slice_index incs a)) (find nat_cmp q (entries_from (a + 1) claims incs))) (tied q a same) ∙ ap (λ n. Some (c, slice_index incs n)) (sym same)
  find_held (Some c ∷ claims) a (suc i) q is =
      ap (λ b. cond b (Some (c, slice_index incs a)) (find nat_cmp q (entries_from (a + 1) claims incs))) (untied q a (λ same. omega arith)) ∙ find_held claims (a + 1) i q (omega arith)

  -- what is held of a member
  pub get_held : (claims : List (Option Claim)) (q : ℕ) → get (known_of (entries_from 0 claims incs)) q ≡ held_at claims incs q
  get_held claims q = get-from_entries nat_cmp_total (entries_from 0 claims incs) q ∙ find_held claims 0 q q (omega arith)

  -- at a place with no number nobody is held at one
  no_number : (claim : Option Claim) (q : ℕ) → slice_index incs q ≡ 0 → option_map_or (λ held. held.1) (held_from q claim) 0 ≡ 0
  no_number None q is = refl
  no_number (Some c) q is = is

  pub held_at_none : (claims : List (Option Claim)) (q : ℕ) → slice_index incs q ≡ 0 → option_map_or (λ held. held.1) (get (known_of (entries_from 0 claims incs)) q) 0 ≡ 0
  held_at_none claims q is = ap (λ x. option_map_or (λ held. held.1) x 0) (get_held claims q) ∙ no_number (claim_at claims q) q is

-- ---- tables that hold the same, and changes at one place

same_table : (claims' claims : List (Option Claim)) (incs' incs : List ℕ) → ((q : ℕ) → held_at claims' incs' q ≡ held_at claims incs q) → known_of (entries_from 0 claims' incs') ≡ known_of (entries_from 0 claims incs)
same_table claims' claims incs' incs same =
    same_map nat_cmp_total nat_cmp-IsAntisymmetric _ _ (λ q. get_held incs' claims' q ∙ same q ∙ sym (get_held incs claims q))

-- columns that were made longer
pub table_grown : (claims' claims : List (Option Claim)) (incs' incs : List ℕ) → ((k : ℕ) → claim_at claims' k ≡ claim_at claims k) → ((k : ℕ) → slice_index incs' k ≡ slice_index incs k)
    → known_of (entries_from 0 claims' incs') ≡ known_of (entries_from 0 claims incs)
table_grown claims' claims incs' incs same same_too =
    same_table claims' claims incs' incs (λ q. ap (option_map (λ c. (c, slice_index incs' q))) (same q) ∙ ap (λ n. option_map (λ c. (c, n)) (claim_at claims q)) (same_too q))

module _ (claims : List (Option Claim)) (incs : List ℕ) (place : ℕ) where
  -- a claim with its number written
  pub table_set : (incs' : List ℕ) (c : Claim) (i : ℕ) → place < length claims → slice_index incs' place ≡ i → ((k : ℕ) → k ≢ place → slice_index incs' k ≡ slice_index incs k)
      → known_of (entries_from 0 (set claims place (Some c)) incs') ≡ insert (known_of (entries_from 0 claims incs)) place (c, i)
  table_set incs' c i within here others =
      same_map nat_cmp_total nat_cmp-IsAntisymmetric _ _ (λ q.
      get_held incs' (set claims place (Some c)) q ∙ at q (eqb q place) refl
      ∙ sym (get-insert nat_cmp_total (known_of (entries_from 0 claims incs)) place (c, i) q ∙ ap (λ b. cond b (Some (c, i)) (get (known_of (entries_from 0 claims incs)) q)) (unsigned_tied q place)
      ∙ ap (cond (eqb q place) (Some (c, i))) (get_held incs claims q)))
    where
      at : (q : ℕ) (b : Bool) → eqb q place ≡ b → held_at (set claims place (Some c)) incs' q ≡ cond b (Some (c, i)) (held_at claims incs q)
      at q true is =
          ap (held_at (set claims place (Some c)) incs') (eqb-true q place is)
          ∙ ap (option_map (λ x. (x, slice_index incs' place))) (get_or-set_same claims place (Some c) None within) ∙ ap (λ n. Some (c, n)) here
      at q false is =
          ap (option_map (λ x. (x, slice_index incs' q))) (get_or-set_other claims place q (Some c) None (eqb-false q place is))
          ∙ ap (λ n. option_map (λ x. (x, n)) (claim_at claims q)) (others q (eqb-false q place is))

  -- a claim taken away
  pub table_removed : place < length claims → known_of (entries_from 0 (set claims place None) incs) ≡ remove (known_of (entries_from 0 claims incs)) place
  table_removed within =
      same_map nat_cmp_total nat_cmp-IsAntisymmetric _ _ (λ q.
      get_held incs (set claims place None) q ∙ at q (eqb q place) refl
      ∙ sym (get-remove nat_cmp_total (known_of (entries_from 0 claims incs)) place q ∙ ap (λ b. cond b None (get (known_of (entries_from 0 claims incs)) q)) (unsigned_tied q place)
      ∙ ap (cond (eqb q place) None) (get_held incs claims q)))
    where
      at : (q : ℕ) (b : Bool) → eqb q place ≡ b → held_at (set claims place None) incs q ≡ cond b None (held_at claims incs q)
      at q true is = ap (held_at (set claims place None) incs) (eqb-true q place is) ∙ ap (option_map (λ x. (x, slice_index incs place))) (get_or-set_same claims place None None within)
      at q false is = ap (option_map (λ x. (x, slice_index incs q))) (get_or-set_other claims place q None None (eqb-false q place is))

  -- nothing is held of a member past the end
  pub none_past : length claims ≤ place → get (known_of (entries_from 0 claims incs)) place ≡ None
  none_past past = get_held incs claims place ∙ ap (option_map (λ x. (x, slice_index incs place))) (get_or_past claims place None past)

  pub table_unremoved : length claims ≤ place → known_of (entries_from 0 claims incs) ≡ remove (known_of (entries_from 0 claims incs)) place
  table_unremoved past =
      same_map nat_cmp_total nat_cmp-IsAntisymmetric _ _ (λ q.
      at q (eqb q place) refl ∙ sym (get-remove nat_cmp_total (known_of (entries_from 0 claims incs)) place q ∙ ap (λ b. cond b None (get (known_of (entries_from 0 claims incs)) q)) (unsigned_tied q place)))
    where
      at : (q : ℕ) (b : Bool) → eqb q place ≡ b → get (known_of (entries_from 0 claims incs)) q ≡ cond b None (get (known_of (entries_from 0 claims incs)) q)
      at q true is = ap (get (known_of (entries_from 0 claims incs))) (eqb-true q place is) ∙ none_past past
      at q false is = refl

-- ---- columns in which nothing is held

pub nobody_held : (claims : List (Option Claim)) → ((k : ℕ) → claim_at claims k ≡ None) → known_of (entries_from 0 claims []) ≡ all_alive []
nobody_held claims none =
    same_map nat_cmp_total nat_cmp-IsAntisymmetric _ _ (λ q. get_held [] claims q ∙ ap (option_map (λ c. (c, slice_index [] q))) (none q) ∙ sym (get-alive [] q))

pub nobody_weighs : (claims : List (Option Claim)) → ((k : ℕ) → claim_at claims k ≡ None) → sum_by claim_weight claims ≡ 0
nobody_weighs [] none = refl
nobody_weighs (c ∷ claims) none =
    let more = sum_by-cons claim_weight c claims in
    let rest = nobody_weighs claims (λ k. none (suc k)) in
    let first : claim_weight c ≡ 0 = ap claim_weight (none 0) in
    omega arith

pub nobody_known : (claims : List (Option Claim)) → ((k : ℕ) → claim_at claims k ≡ None) → sum_by known_weight claims ≡ 0
nobody_known [] none = refl
nobody_known (c ∷ claims) none =
    let more = sum_by-cons known_weight c claims in
    let rest = nobody_known claims (λ k. none (suc k)) in
    let first : known_weight c ≡ 0 = ap known_weight (none 0) in
    omega arith

pub nobody_replicated : (n k : ℕ) → claim_at (claims_in (replicate n Nothing)) k ≡ None
nobody_replicated zero k = refl
nobody_replicated (suc n) zero = refl
nobody_replicated (suc n) (suc k) = nobody_replicated n k

pub nobody_made : (held : List Held) (n m k : ℕ) → held ≡ [] → claim_at (claims_in (take n held ++ replicate m Nothing)) k ≡ None
nobody_made held n m k is =
    let none : length held ≡ 0 = ap length is in
    ap (λ l. claim_at (claims_in (l ++ replicate m Nothing)) k) (take_all n held (omega arith) ∙ is) ∙ nobody_replicated m k

-- ---- longer columns

pub claim_more : (held : List Held) (k : ℕ) → claim_at (claims_in (held ++ Nothing ∷ [])) k ≡ claim_at (claims_in held) k
claim_more [] zero = refl
claim_more [] (suc k) = refl
claim_more (h ∷ held) zero = refl
claim_more (h ∷ held) (suc k) = claim_more held k

pub number_more : (incs : List ℕ) (k : ℕ) → slice_index (incs ++ 0 ∷ []) k ≡ slice_index incs k
number_more [] zero = refl
number_more [] (suc k) = refl
number_more (i ∷ incs) zero = refl
number_more (i ∷ incs) (suc k) = number_more incs k

pub weight_more : (held : List Held) → sum_by claim_weight (claims_in (held ++ Nothing ∷ [])) ≡ sum_by claim_weight (claims_in held)
weight_more held = ap (sum_by claim_weight) (map-append claim_of held (Nothing ∷ [])) ∙ (let more = sum_by_push claim_weight (claims_in held) None in omega arith)

pub known_more : (held : List Held) → sum_by known_weight (claims_in (held ++ Nothing ∷ [])) ≡ sum_by known_weight (claims_in held)
known_more held = ap (sum_by known_weight) (map-append claim_of held (Nothing ∷ [])) ∙ (let more = sum_by_push known_weight (claims_in held) None in omega arith)

-- ---- the count

pub known_small : (c : Option Claim) → known_weight c ≤ 1
known_small None = omega arith
known_small (Some c) = omega arith

pub known_few : (claims : List (Option Claim)) → sum_by known_weight claims ≤ length claims
known_few [] = omega arith
known_few (c ∷ claims) = let more = sum_by-cons known_weight c claims in let small = known_small c in let rest = known_few claims in omega arith

weight_small : (c : Option Claim) → claim_weight c ≤ 1
weight_small None = omega arith
weight_small (Some c) = of_test (not (is_confirm c))
  where
    of_test : (b : Bool) → cond b 1 0 ≤ 1
    of_test true = omega arith
    of_test false = omega arith

-- there are no more to count than claims
pub weight_few : (claims : List (Option Claim)) → sum_by claim_weight claims ≤ length claims
weight_few [] = omega arith
weight_few (c ∷ claims) = let more = sum_by-cons claim_weight c claims in let small = weight_small c in let rest = weight_few claims in omega arith

known_most : (c : Option Claim) → claim_weight c ≤ known_weight c
known_most None = omega arith
known_most (Some c) = weight_small (Some c)

known_sum : (claims : List (Option Claim)) → sum_by claim_weight claims ≤ sum_by known_weight claims
known_sum [] = omega arith
known_sum (c ∷ claims) =
    let live = sum_by-cons claim_weight c claims in
    let all = sum_by-cons known_weight c claims in
    let most = known_most c in
    let rest = known_sum claims in
    omega arith

-- where as many are live as are known, each that is known is live
pub all_live : (claims : List (Option Claim)) (k : ℕ) → sum_by claim_weight claims ≡ sum_by known_weight claims → claim_weight (claim_at claims k) ≡ known_weight (claim_at claims k)
all_live [] k even = refl
all_live (c ∷ claims) zero even =
    let live = sum_by-cons claim_weight c claims in
    let all = sum_by-cons known_weight c claims in
    let most = known_most c in
    let rest = known_sum claims in
    omega arith
all_live (c ∷ claims) (suc k) even =
    let live = sum_by-cons claim_weight c claims in
    let all = sum_by-cons known_weight c claims in
    let most = known_most c in
    let rest = known_sum claims in
    let even_rest : sum_by claim_weight claims ≡ sum_by known_weight claims = omega arith in
    all_live claims k even_rest

-- ---- the entries in order

module _ (incs : List ℕ) where
  above : (claims : List (Option Claim)) (k n : ℕ) → k < n → AllByRecursion (λ y. nat_cmp k y ≡ Less) (keys_of (entries_from n claims incs))
  above [] k n low = tt
  above (None ∷ claims) k n low = above claims k (n + 1) (omega arith)
  above (Some c ∷ claims) k n low = (sym (nat_cmp_is k n Less low), above claims k (n + 1) (omega arith))

  pub entries_rise : (claims : List (Option Claim)) (n : ℕ) → IsStrictlySortedBy nat_cmp (keys_of (entries_from n claims incs))
  unfolding IsStrictlySortedBy
  entries_rise [] n = tt
  entries_rise (None ∷ claims) n = entries_rise claims (n + 1)
  entries_rise (Some c ∷ claims) n = (above claims n (n + 1) (omega arith), entries_rise claims (n + 1))

  pub counted_entries : (claims : List (Option Claim)) (n : ℕ) → count_by (λ (e : Entry). not (is_confirm e.1.0)) (entries_from n claims incs) ≡ sum_by claim_weight claims
  counted_entries [] n = refl
  counted_entries (None ∷ claims) n = let more = sum_by-cons claim_weight None claims in let rest = counted_entries claims (n + 1) in omega arith
  counted_entries (Some c ∷ claims) n =
      sum_by-cons (λ (e : Entry). cond (not (is_confirm e.1.0)) 1 0) (n, (c, slice_index incs n)) (entries_from (n + 1) claims incs) ∙ ap (λ m. claim_weight (Some c) + m) (counted_entries claims (n + 1))
      ∙ sym (sum_by-cons claim_weight (Some c) claims)

  pub known_entries : (claims : List (Option Claim)) (n : ℕ) → length (entries_from n claims incs) ≡ sum_by known_weight claims
  known_entries [] n = refl
  known_entries (None ∷ claims) n = let more = sum_by-cons known_weight None claims in let rest = known_entries claims (n + 1) in omega arith
  known_entries (Some c ∷ claims) n = let more = sum_by-cons known_weight (Some c) claims in let rest = known_entries claims (n + 1) in omega arith

  -- ---- one claim more

  -- the entry of a claim, if there is one
  abbrev pub entry_at : ℕ → Option Claim → List (ℕ × (Claim × ℕ))
  entry_at n None = []
  entry_at n (Some c) = (n, (c, slice_index incs n)) ∷ []

  entries_push : (claims : List (Option Claim)) (n m : ℕ) (x : Option Claim) → m ≡ n + length claims → entries_from n (claims ++ x ∷ []) incs ≡ entries_from n claims incs ++ entry_at m x
  entries_push [] n m None is = refl
  entries_push [] n m (Some c) is = let same : n ≡ m = omega arith in ap (λ k. (k, (c, slice_index incs k)) ∷ []) same
  entries_push (None ∷ claims) n m x is = entries_push claims (n + 1) m x (omega arith)
  entries_push (Some c ∷ claims) n m x is = ap (λ l. (n, (c, slice_index incs n)) ∷ l) (entries_push claims (n + 1) m x (omega arith))

  pub entries_more_from : (held : List Held) (d : Held) (a n m : ℕ) (x : Option Claim) → m ≡ a + n → n < length held → claim_of (get_or held n d) ≡ x
      → entries_from a (claims_in (take (n + 1) held)) incs ≡ entries_from a (claims_in (take n held)) incs ++ entry_at m x
  entries_more_from held d a n m x at within is =
      let long : length (claims_in (take n held)) ≡ n = length-map (take n held) claim_of ∙ length-take-le n held (omega arith) in
      ap (λ l. entries_from a l incs) (map_more claim_of held n d within) ∙ entries_push (claims_in (take n held)) a m (claim_of (get_or held n d)) (omega arith)
      ∙ ap (λ c. entries_from a (claims_in (take n held)) incs ++ entry_at m c) is

  pub entries_more : (held : List Held) (d : Held) (n : ℕ) (x : Option Claim) → n < length held → claim_of (get_or held n d) ≡ x
      → entries_from 0 (claims_in (take (n + 1) held)) incs ≡ entries_from 0 (claims_in (take n held)) incs ++ entry_at n x
  entries_more held d n x within is = entries_more_from held d 0 n n x (omega arith) within is

-- a claim that was read, with its number
pub get_read : (held : List Held) (incs : List ℕ) (place : ℕ) (h : Held) → place < length held → h ≡ get_or held place h
    → get (known_of (entries_from 0 (claims_in held) incs)) place ≡ option_map (λ c. (c, slice_index incs place)) (claim_of h)
get_read held incs place h within is = get_held incs (claims_in held) place ∙ ap (option_map (λ c. (c, slice_index incs place))) (sym (claim_read held place h within is))

-- the count
pub live_is : (claims : List (Option Claim)) (incs : List ℕ) (live : ℕ) → live ≡ sum_by claim_weight claims + 1 → live ≡ live_count (known_of (entries_from 0 claims incs))
live_is claims incs live counted =
    let all = counted_entries incs claims 0 in
    let h : live ≡ 1 + count_by (λ (e : Entry). not (is_confirm e.1.0)) (entries_from 0 claims incs) = omega arith in
    h ∙ sym (live_count-entries (entries_from 0 claims incs) (entries_rise incs claims 0))

pub known_is : (claims : List (Option Claim)) (incs : List ℕ) (known : ℕ) → known ≡ sum_by known_weight claims + 1 → known ≡ known_count (known_of (entries_from 0 claims incs))
known_is claims incs known counted =
    let all = known_entries incs claims 0 in
    let h : known ≡ 1 + length (entries_from 0 claims incs) = omega arith in
    h ∙ sym (known_count-entries (entries_from 0 claims incs) (entries_rise incs claims 0))

pub little_weight : (c : Option Claim) → claim_weight c ≤ 1
little_weight c = weight_small c

-- ---- the lists so far

-- the members that are held to be up, but one
abbrev pub up_in : ℕ → List (Option Claim) → List ℕ → List ℕ
up_in member claims incs = map (λ (e : Entry). e.0) (filter (λ (e : Entry). is_alive e.1.0 && not (nat_eq e.0 member)) (entries_from 0 claims incs))

pub none_more : (incs : List ℕ) (held : List Held) (d : Held) (n : ℕ) → n < length held → claim_of (get_or held n d) ≡ None → entries_from 0 (claims_in (take (n + 1) held)) incs ≡ entries_from 0 (claims_in (take n held)) incs
none_more incs held d n within is = entries_more incs held d n None within is ∙ append-nil (entries_from 0 (claims_in (take n held)) incs)

pub up_more : (member : ℕ) (held : List Held) (d : Held) (incs : List ℕ) (n : ℕ) (c : Claim) → n < length held → claim_of (get_or held n d) ≡ Some c → (before after : List ℕ) (b : Bool)
    → b ≡ (is_alive c && not (nat_eq n member)) → before ≡ up_in member (claims_in (take n held)) incs → after ≡ cond b (before ++ n ∷ []) before → after ≡ up_in member (claims_in (take (n + 1) held)) incs
up_more member held d incs n c within is before after b test so_far more =
    more ∙ ap (λ l. cond b (l ++ n ∷ []) l) so_far ∙ by_test b test ∙ sym all
  where
    all : up_in member (claims_in (take (n + 1) held)) incs ≡ up_in member (claims_in (take n held)) incs ++ map (λ (e : Entry). e.0) (filter (λ (e : Entry). is_alive e.1.0 && not (nat_eq e.0 member)) ((n, (c, slice_index incs n)) ∷ []))
    all =
        ap (λ l. map (λ (e : Entry). e.0) (filter (λ (e : Entry). is_alive e.1.0 && not (nat_eq e.0 member)) l)) (entries_more incs held d n (Some c) within is)
        ∙ ap (map (λ (e : Entry). e.0)) (filter-append (λ (e : Entry). is_alive e.1.0 && not (nat_eq e.0 member)) (entries_from 0 (claims_in (take n held)) incs) ((n, (c, slice_index incs n)) ∷ []))
        ∙ map-append (λ (e : Entry). e.0) (filter (λ (e : Entry). is_alive e.1.0 && not (nat_eq e.0 member)) (entries_from 0 (claims_in (take n held)) incs))
        (filter (λ (e : Entry). is_alive e.1.0 && not (nat_eq e.0 member)) ((n, (c, slice_index incs n)) ∷ []))

    by_test : (b : Bool) → b ≡ (is_alive c && not (nat_eq n member)) → cond b (up_in member (claims_in (take n held)) incs ++ n ∷ []) (up_in member (claims_in (take n held)) incs)
        ≡ up_in member (claims_in (take n held)) incs ++ map (λ (e : Entry). e.0) (filter (λ (e : Entry). is_alive e.1.0 && not (nat_eq e.0 member)) ((n, (c, slice_index incs n)) ∷ []))
    by_test true h = ap (λ t. up_in member (claims_in (take n held)) incs ++ map (λ (e : Entry). e.0) (cond t ((n, (c, slice_index incs n)) ∷ []) [])) h
    by_test false h = sym (append-nil (up_in member (claims_in (take n held)) incs)) ∙ ap (λ t. up_in member (claims_in (take n held)) incs ++ map (λ (e : Entry). e.0) (cond t ((n, (c, slice_index incs n)) ∷ []) [])) h

pub updates_more : (accuser : ℕ) (held : List Held) (d : Held) (incs : List ℕ) (n : ℕ) (c : Claim) → n < length held → claim_of (get_or held n d) ≡ Some c → (before after : List Update)
    → before ≡ map (update_by accuser) (entries_from 0 (claims_in (take n held)) incs) → after ≡ before ++ update_by accuser (n, (c, slice_index incs n)) ∷ []
    → after ≡ map (update_by accuser) (entries_from 0 (claims_in (take (n + 1) held)) incs)
updates_more accuser held d incs n c within is before after so_far more =
    more ∙ ap (λ l. l ++ update_by accuser (n, (c, slice_index incs n)) ∷ []) so_far
    ∙ sym (ap (map (update_by accuser)) (entries_more incs held d n (Some c) within is) ∙ map-append (update_by accuser) (entries_from 0 (claims_in (take n held)) incs) ((n, (c, slice_index incs n)) ∷ []))

-- ---- what is stated of a result

pub if_ok : {A F : Type 0} (result : Result A F) {P Q : A → Type 0} → IfOk result P → ((x : A) → P x → Q x) → IfOk result Q
if_ok (Ok x) given turned = turned x given
if_ok (Err e) given turned = tt

pub on_err : {A F : Type 0} (result : Result A F) (P : Type 0) → P → OnErr result P
on_err (Ok x) P given = tt
on_err (Err e) P given = given
