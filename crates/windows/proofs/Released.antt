-- The rows of a schedule up to a bound, sorted, are the next rows of the run.
use Rattle.std.proofs.Common.{◌≡◌, ℕ, ◌+◌, ◌<◌, ◌≤◌, List, [], ◌∷◌, ◌++◌, map, length, ap, ◌∙◌, sym, subst, refl, arith, append-nil, inl}
use Rattle.std.specs.List.{AllByRecursion, range_with_len}
use Rattle.std.specs.List.Sorted.{IsPermutation, IsSorted}
use Rattle.std.specs.Option.{is_some}
use Rattle.std.specs.Ordering.{is_lt}
use Rattle.std.specs.Cmp.{IsTotalOrder}
use Rattle.std.specs.declared.cmp.Ordering.{Ordering}
use Rattle.std.specs.declared.cmp.Ordering.TheVariants.{Less}
use Rattle.std.proofs.lemmas.List.Elements.{recursion_from_All, All-from_recursion}
use Rattle.std.proofs.lemmas.List.Sorted.{All-permutation, IsPermutation-sym, IsPermutation-trans, IsPermutation-append_left}
use Rattle.base.specs.declared.key.Key.{Key}
use Rattle.base.specs.Order.{before-from_moments}
use Rattle.base.specs.World.{Machine, World, IsPending, rows_of, outcome, Run, IsOver}
use Rattle.base.specs.Run.{MakesLater, handled, trace, run-exists, trace-over, holds-settled}
use Rattle.base.specs.Rising.{IsRising, IsPlaceBefore, CountsRows}
use Rattle.base.proofs.Rising.{all_append, all_weaker, rising_append, rows_rise}
use Rattle.member_laws.proofs.Carried.{all_map}
use Rattle.windows.specs.Delays.{SendsAsItself}
use Rattle.windows.specs.Schedule.{Schedule, OffersEarly, TellsWhose}
use Rattle.windows.proofs.Early.{all_rows}
use Rattle.windows.proofs.Merge.{schedule_rows}
use Rattle.windows.proofs.Sorting.{IsAtMost, IsLess, by_turn, rising_from_sorted, one_order}

module _ {A B : Type 0} (f : A → B) where
  all_mapped : (P : B → Type 0) (xs : List A) → AllByRecursion P (map f xs) → AllByRecursion (λ x. P (f x)) xs
  all_mapped P [] all = tt
  all_mapped P (x ∷ xs) all = (all.0, all_mapped P xs all.1)

  pub rising_mapped : (before : B → B → Type 0) (Q : A → A → Type 0) → ((x y : A) → before (f x) (f y) → Q x y) → (xs : List A) → IsRising before (map f xs) → IsRising Q xs
  rising_mapped before Q gives [] up = tt
  rising_mapped before Q gives (x ∷ xs) up = (all_weaker _ (Q x) (gives x) xs (all_mapped (before (f x)) xs up.0), rising_mapped before Q gives xs up.1)

all_keyed : (k : Key) (is : List ℕ) → AllByRecursion (λ (i : ℕ). k ≡ k) is
all_keyed k [] = tt
all_keyed k (i ∷ is) = (refl, all_keyed k is)

module _ {S C R : Type 0} (step : Machine S C R) (later : MakesLater step) (place : R → Key × ℕ) (counts : CountsRows place step) where
  -- the rows of a step carry its event's key
  rows_keyed : (k : Key) (c : C) (s : S) → AllByRecursion (λ row. (place row).0 ≡ k) (step k c s).rows
  rows_keyed k c s =
      let n : ℕ = length (step k c s).rows in
      all_mapped place (λ p. p.0 ≡ k) (step k c s).rows
      (subst (AllByRecursion (λ p. p.0 ≡ k)) (sym (counts k c s)) (all_map (λ (p : Key × ℕ). p.0 ≡ k) (λ i. (k, i)) (range_with_len 0 n) (all_keyed k (range_with_len 0 n))))

  -- and so its receiver
  pub tells_receiver : TellsWhose (λ row. (place row).0.to) step
  tells_receiver k c s = all_weaker _ (λ row. (place row).0.to ≡ k.to) (λ row is. ap (λ (q : Key). q.to) is) (step k c s).rows (rows_keyed k c s)

  keyed_here : (w : World S C) (k : Key) (c : C) → AllByRecursion (λ row. (place row).0 ≡ k) (rows_of (outcome step w k c))
  keyed_here = all_rows step (λ k row. (place row).0 ≡ k) rows_keyed

  -- what holds of the key of an event holds of those of its rows
  of_key : (P : Key → Type 0) (k : Key) (rows made : List R) → P k → rows ≡ made → AllByRecursion (λ row. (place row).0 ≡ k) made → AllByRecursion (λ row. P (place row).0) rows
  of_key P k rows made holds same keyed =
      all_weaker _ (λ row. P (place row).0) (λ row is. subst P (sym is) holds) rows (subst (AllByRecursion (λ row. (place row).0 ≡ k)) (sym same) keyed)

  -- what holds of the keys that a schedule handles holds of those of its rows
  pub schedule_keyed : (P : Key → Type 0) (Test : World S C → Key → Type 0) (ks : List Key) (w v : World S C) (rows : List R) → AllByRecursion P ks → Schedule step Test w ks rows v
      → AllByRecursion (λ row. P (place row).0) rows
  schedule_keyed P Test [] w v rows all is = subst (AllByRecursion (λ row. P (place row).0)) (sym is.1) tt
  schedule_keyed P Test (k ∷ ks) w v rows all is =
      subst (AllByRecursion (λ row. P (place row).0)) (sym is.5)
      (all_append _ is.1 is.2 (of_key P k is.1 _ all.0 is.3.made (keyed_here w k is.3.content)) (schedule_keyed P Test ks is.0 v is.2 all.1 is.4))

  module _ (end : ℕ) where
    -- where nothing pends before a bound, no row of the run from there is before it
    pub rows_from : (bound : ℕ) (ks : List Key) (w v : World S C) (rows : List R) → ((q : Key) → IsPending w q → bound ≤ q.at) → Run step end w ks rows v
        → AllByRecursion (λ row. bound ≤ (place row).0.at) rows
    rows_from bound [] w v rows from run = subst (AllByRecursion (λ row. bound ≤ (place row).0.at)) (sym run.1) tt
    rows_from bound (k ∷ ks) w v rows from run =
        let next = run.4 in
        let first : bound ≤ k.at = from k (ap is_some next.here) in
        let from_mid : (q : Key) → IsPending run.0 q → bound ≤ q.at =
        subst (λ u. (q : Key) → IsPending u q → bound ≤ q.at) (sym next.world)
        (holds-settled step later end (λ q. bound ≤ q.at) w k next.content (λ q here _. from q here) (λ q past. omega arith)) in
        subst (AllByRecursion (λ row. bound ≤ (place row).0.at)) (sym run.6)
        (all_append _ run.1 run.2 (of_key (λ q. bound ≤ q.at) k run.1 _ first next.made (keyed_here w k next.content)) (rows_from bound ks run.0 v run.2 from_mid run.5))

    -- and none is past the end
    pub rows_in_time : (ks : List Key) (w v : World S C) (rows : List R) → Run step end w ks rows v → AllByRecursion (λ row. (place row).0.at ≤ end) rows
    rows_in_time [] w v rows run = subst (AllByRecursion (λ row. (place row).0.at ≤ end)) (sym run.1) tt
    rows_in_time (k ∷ ks) w v rows run =
        let next = run.4 in
        subst (AllByRecursion (λ row. (place row).0.at ≤ end)) (sym run.6)
        (all_append _ run.1 run.2 (of_key (λ q. q.at ≤ end) k run.1 _ run.3 next.made (keyed_here w k next.content)) (rows_in_time ks run.0 v run.2 run.5))

    module _ (cmp : R → R → Ordering) (total : IsTotalOrder cmp) (agrees : (a b : R) → IsPlaceBefore (place a) (place b) → cmp a b ≡ Less) where
      pub trace_rises : (Q : R → R → Type 0) → ((a b : R) → cmp a b ≡ Less → Q a b) → (w : World S C) → IsRising Q (trace step later end w)
      trace_rises Q gives w =
          let whole = run-exists step later end w in
          rising_mapped place IsPlaceBefore Q (λ a b before. gives a b (agrees a b before)) (trace step later end w)
          (rows_rise step later end place counts (handled step later end w) w whole.last (trace step later end w) whole.run)

      at_most : (a b : R) → cmp a b ≡ Less → IsAtMost cmp a b
      at_most a b less = ap is_lt (by_turn cmp total a b Less less)

      in_order : (bound : ℕ) (a b : R) → (place a).0.at < bound → bound ≤ (place b).0.at → IsAtMost cmp a b
      in_order bound a b before past = at_most a b (agrees a b (inl (before-from_moments (place a).0 (place b).0 (omega arith))))

      -- The rows of a schedule of events before a bound, sorted, are the next rows of the run where no event is left before the bound.
      module _ (own : SendsAsItself step) (Test : World S C → Key → Type 0) (offers : OffersEarly step end Test) where
        pub released : (bound : ℕ) (ks : List Key) (w v : World S C) (rows sorted : List R) → Schedule step Test w ks rows v
            → AllByRecursion (λ k. k.at < bound) ks → ((q : Key) → IsPending v q → bound ≤ q.at)
            → IsPermutation rows sorted → IsSorted cmp sorted → trace step later end w ≡ sorted ++ trace step later end v
        released bound ks w v rows sorted is below from same up =
            let whole = run-exists step later end v in
            let past = rows_from bound (handled step later end v) v whole.last (trace step later end v) from whole.run in
            let early : R → Type 0 = λ row. (place row).0.at < bound in
            let before : AllByRecursion (λ row. (place row).0.at < bound) sorted =
            recursion_from_All early sorted (All-permutation early rows sorted same (All-from_recursion early rows (schedule_keyed (λ k. k.at < bound) Test ks w v rows below is))) in
            let across = all_weaker _ (λ a. AllByRecursion (IsAtMost cmp a) (trace step later end v))
            (λ a h. all_weaker _ (IsAtMost cmp a) (λ b g. in_order bound a b h g) (trace step later end v) past) sorted before in
            let rest = trace_rises (IsAtMost cmp) at_most v in
            let order = rising_append (IsAtMost cmp) sorted (trace step later end v) (rising_from_sorted cmp total sorted up) rest across in
            let items = IsPermutation-trans _ _ _
            (IsPermutation-sym _ _ (schedule_rows step later own end Test offers ks w v rows is))
            (IsPermutation-append_left (trace step later end v) rows sorted same) in
            sym (one_order cmp total (trace step later end w) (sorted ++ trace step later end v) (trace_rises (IsLess cmp) (λ a b less. less) w) items order)

        -- and where nothing is left up to the end they are the trace
        pub sorted_trace : (ks : List Key) (w v : World S C) (rows sorted : List R) → Schedule step Test w ks rows v → IsOver end v → IsPermutation rows sorted → IsSorted cmp sorted
            → trace step later end w ≡ sorted
        sorted_trace ks w v rows sorted is over same up =
            released (end + 1) ks w v rows sorted is (keys_in_time ks w v rows is) (λ q here. let h = over q here in omega arith) same up
            ∙ ap (λ l. sorted ++ l) (trace-over step later end v over).1 ∙ append-nil sorted
          where
            keys_in_time : (ks : List Key) (w v : World S C) (rows : List R) → Schedule step Test w ks rows v → AllByRecursion (λ k. k.at < end + 1) ks
            keys_in_time [] w v rows is = tt
            keys_in_time (k ∷ ks) w v rows is = (let h = offers.in_time w k is.3.passes in omega arith, keys_in_time ks is.0 v is.2 is.4)
