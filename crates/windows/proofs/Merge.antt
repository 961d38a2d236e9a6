-- The rows of a schedule and those of the run from where it ends are the rows of the run, and each member's stand in one order.
use Rattle.std.proofs.Common.{◌≡◌, ◌≢◌, ℕ, Bool, true, false, cond, nat_eq, List, [], ◌∷◌, ◌++◌, ap, ◌∙◌, sym, subst, refl, append_assoc}
use Rattle.std.specs.List.{AllByRecursion, filter}
use Rattle.std.specs.List.Sorted.{IsPermutation}
use Rattle.std.proofs.lemmas.Bool.{eqb-true, eqb-false, ne_eqb}
use Rattle.std.proofs.lemmas.List.Elements.{filter-append}
use Rattle.std.proofs.lemmas.List.Sorted.{IsPermutation-refl, IsPermutation-trans, IsPermutation-append_comm, IsPermutation-append_left, IsPermutation-append_right}
use Rattle.base.specs.declared.key.Key.{Key}
use Rattle.base.specs.World.{Machine, World, rows_of, outcome, Run}
use Rattle.base.specs.Run.{MakesLater, handled, trace}
use Rattle.base.proofs.Rising.{all_append, all_weaker}
use Rattle.windows.specs.Delays.{SendsAsItself}
use Rattle.windows.specs.Schedule.{Schedule, OffersEarly, TellsWhose, rows_by}
use Rattle.windows.proofs.Early.{all_rows, early_step, whole_runs}

module _ {A : Type 0} where
  -- what comes later goes to the front
  to_front : (front made back : List A) → IsPermutation (made ++ (front ++ back)) (front ++ (made ++ back))
  to_front front made back =
      subst (λ l. IsPermutation l (front ++ (made ++ back))) (append_assoc made front back)
      (subst (IsPermutation (made ++ front ++ back)) (append_assoc front made back)
      (IsPermutation-append_left back (made ++ front) (front ++ made) (IsPermutation-append_comm made front)))

  pub filter_none : (test : A → Bool) (xs : List A) → AllByRecursion (λ x. test x ≡ false) xs → filter test xs ≡ []
  filter_none test [] none = refl
  filter_none test (x ∷ xs) none = ap (λ b. cond b (x ∷ filter test xs) (filter test xs)) none.0 ∙ filter_none test xs none.1

module _ {R : Type 0} (whose : R → ℕ) where
  none_by : (m : ℕ) (rows : List R) → AllByRecursion (λ row. whose row ≢ m) rows → rows_by whose m rows ≡ []
  none_by m rows others =
      filter_none (λ row. nat_eq (whose row) m) rows
      (all_weaker _ (λ row. nat_eq (whose row) m ≡ false) (λ row other. ne_eqb (whose row) m other) rows others)

  -- rows of one member change places with rows of others, and each member's stand as before
  moved_by : (m n : ℕ) (front made back : List R) → AllByRecursion (λ row. whose row ≢ n) front → AllByRecursion (λ row. whose row ≡ n) made → (b : Bool) → nat_eq n m ≡ b
      → rows_by whose m (front ++ (made ++ back)) ≡ rows_by whose m (made ++ (front ++ back))
  moved_by m n front made back others own true e =
      let none : rows_by whose m front ≡ [] = none_by m front (subst (λ l. AllByRecursion (λ row. whose row ≢ l) front) (eqb-true n m e) others) in
      filter-append _ front (made ++ back) ∙ ap (λ l. l ++ rows_by whose m (made ++ back)) none
      ∙ filter-append _ made back
      ∙ ap (λ l. rows_by whose m made ++ (l ++ rows_by whose m back)) (sym none)
      ∙ ap (λ l. rows_by whose m made ++ l) (sym (filter-append _ front back)) ∙ sym (filter-append _ made (front ++ back))
  moved_by m n front made back others own false e =
      let apart : n ≢ m = eqb-false n m e in
      let none : rows_by whose m made ≡ [] = none_by m made (all_weaker _ (λ row. whose row ≢ m) (λ row is same. apart (sym is ∙ same)) made own) in
      filter-append _ front (made ++ back)
      ∙ ap (λ l. rows_by whose m front ++ l) (filter-append _ made back ∙ ap (λ l. l ++ rows_by whose m back) none)
      ∙ sym (filter-append _ front back)
      ∙ ap (λ l. l ++ rows_by whose m (front ++ back)) (sym none) ∙ sym (filter-append _ made (front ++ back))

module _ {S C R : Type 0} (step : Machine S C R) (whose : R → ℕ) (tells : TellsWhose whose step) where
  rows_own : (w : World S C) (k : Key) (c : C) → AllByRecursion (λ row. whose row ≡ k.to) (rows_of (outcome step w k c))
  rows_own = all_rows step (λ k row. whose row ≡ k.to) tells

  -- the rows of a run that handles no event for a member are others'
  rows_of_others : (end m : ℕ) (ks : List Key) (w v : World S C) (rows : List R) → Run step end w ks rows v → AllByRecursion (λ q. q.to ≢ m) ks → AllByRecursion (λ row. whose row ≢ m) rows
  rows_of_others end m [] w v rows run others = subst (AllByRecursion (λ row. whose row ≢ m)) (sym run.1) tt
  rows_of_others end m (k ∷ ks) w v rows run others =
      let own = subst (AllByRecursion (λ row. whose row ≡ k.to)) (sym run.4.made) (rows_own w k run.4.content) in
      subst (AllByRecursion (λ row. whose row ≢ m)) (sym run.6)
      (all_append _ run.1 run.2 (all_weaker _ (λ row. whose row ≢ m) (λ row is same. others.0 (sym is ∙ same)) run.1 own) (rows_of_others end m ks run.0 v run.2 run.5 others.1))

module _ {S C R : Type 0} (step : Machine S C R) (later : MakesLater step) (own : SendsAsItself step) (end : ℕ) (Test : World S C → Key → Type 0) (offers : OffersEarly step end Test) where
  abbrev whole_trace : World S C → List R
  whole_trace = trace step later end

  abbrev all_handled : World S C → List Key
  all_handled = handled step later end

  -- the keys that a schedule handles and those of the run from where it ends are the keys of the run, in another order
  pub schedule_keys : (ks : List Key) (w v : World S C) (rows : List R) → Schedule step Test w ks rows v → IsPermutation (ks ++ all_handled v) (all_handled w)
  schedule_keys [] w v rows is = subst (λ u. IsPermutation (all_handled v) (all_handled u)) is.0 (IsPermutation-refl (all_handled v))
  schedule_keys (k ∷ ks) w v rows is =
      let caught = early_step step later own end Test offers w is.0 k is.1 is.3 in
      let runs = whole_runs step later end w is.0 k is.1 (offers.in_time w k is.3.passes) caught in
      let rest : IsPermutation (ks ++ all_handled v) (caught.before ++ all_handled caught.after) = subst (IsPermutation (ks ++ all_handled v)) runs.2 (schedule_keys ks is.0 v is.2 is.4) in
      subst (IsPermutation ((k ∷ ks) ++ all_handled v)) (sym runs.0)
      (IsPermutation-trans _ _ _ (IsPermutation-append_right (k ∷ []) _ _ rest) (to_front caught.before (k ∷ []) (all_handled caught.after)))

  -- and so are its rows
  pub schedule_rows : (ks : List Key) (w v : World S C) (rows : List R) → Schedule step Test w ks rows v → IsPermutation (rows ++ whole_trace v) (whole_trace w)
  schedule_rows [] w v rows is =
      subst (λ l. IsPermutation (l ++ whole_trace v) (whole_trace w)) (sym is.1)
      (subst (λ u. IsPermutation (whole_trace v) (whole_trace u)) is.0 (IsPermutation-refl (whole_trace v)))
  schedule_rows (k ∷ ks) w v rows is =
      let caught = early_step step later own end Test offers w is.0 k is.1 is.3 in
      let runs = whole_runs step later end w is.0 k is.1 (offers.in_time w k is.3.passes) caught in
      let rest : IsPermutation (is.2 ++ whole_trace v) (caught.front ++ whole_trace caught.after) = subst (IsPermutation (is.2 ++ whole_trace v)) runs.3 (schedule_rows ks is.0 v is.2 is.4) in
      let parts : is.1 ++ (is.2 ++ whole_trace v) ≡ rows ++ whole_trace v = sym (append_assoc is.1 is.2 (whole_trace v)) ∙ ap (λ l. l ++ whole_trace v) (sym is.5) in
      subst (λ l. IsPermutation l (whole_trace w)) parts
      (subst (IsPermutation (is.1 ++ (is.2 ++ whole_trace v))) (sym runs.1)
      (IsPermutation-trans _ _ _ (IsPermutation-append_right is.1 _ _ rest) (to_front caught.front is.1 (whole_trace caught.after))))

  -- each member's rows are a beginning of its rows in the run, and the run from where the schedule ends has the rest
  pub schedule_by : (whose : R → ℕ) → TellsWhose whose step → (m : ℕ) (ks : List Key) (w v : World S C) (rows : List R) → Schedule step Test w ks rows v
      → rows_by whose m (whole_trace w) ≡ rows_by whose m rows ++ rows_by whose m (whole_trace v)
  schedule_by whose tells m [] w v rows is = ap (λ u. rows_by whose m (whole_trace u)) (sym is.0) ∙ ap (λ l. rows_by whose m l ++ rows_by whose m (whole_trace v)) (sym is.1)
  schedule_by whose tells m (k ∷ ks) w v rows is =
      let caught = early_step step later own end Test offers w is.0 k is.1 is.3 in
      let runs = whole_runs step later end w is.0 k is.1 (offers.in_time w k is.3.passes) caught in
      let own_made = subst (AllByRecursion (λ row. whose row ≡ k.to)) (sym is.3.made) (rows_own step whose tells w k is.3.content) in
      let others = rows_of_others step whose tells end k.to caught.before w caught.there caught.front caught.until caught.others in
      ap (rows_by whose m) runs.1
      ∙ moved_by whose m k.to caught.front is.1 (whole_trace caught.after) others own_made (nat_eq k.to m) refl
      ∙ ap (λ l. rows_by whose m (is.1 ++ l)) (sym runs.3)
      ∙ filter-append _ is.1 (whole_trace is.0)
      ∙ ap (λ l. rows_by whose m is.1 ++ l) (schedule_by whose tells m ks is.0 v is.2 is.4)
      ∙ sym (append_assoc (rows_by whose m is.1) (rows_by whose m is.2) (rows_by whose m (whole_trace v)))
      ∙ ap (λ l. l ++ rows_by whose m (whole_trace v)) (sym (filter-append _ is.1 is.2) ∙ ap (rows_by whose m) (sym is.5))
