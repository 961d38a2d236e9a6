-- One plain entry more, and what the entries of a list stand for then.
use Rattle.std.proofs.Common.{◌≡◌, ℕ, ◌<◌, ◌≤◌, Bool, true, false, cond, List, [], ◌∷◌, ◌++◌, length, get_or, set, replicate, map, filter, Option, Some, None, refl, sym, ap, ◌∙◌, arith, eq-eqb, eqb-true, append-nil, subst}
use Rattle.std.specs.Prelude.{IfSome, if◌then◌else◌, nat_eq, nat_lt, slice_index_or, slice_set}
use Rattle.std.specs.List.{range_with_len}
use Rattle.std.proofs.lemmas.Bool.{false≢true}
use Rattle.std.proofs.lemmas.Bool.Decides.{nat_tests}
use Rattle.std.proofs.lemmas.List.{get_or-set_same, get_or-set_other, get_or-replicate, get_or_past, length-replicate, length-set, length_push}
use Rattle.std.proofs.lemmas.List.Elements.{filter-append}
use Rattle.std.proofs.lemmas.List.FromFn.{fill_by_all, get_or-map-range_with_len, length-map-range_with_len}
use Rattle.std.proofs.lemmas.List.Sums.{length-filter, count_by-le-length}
use Rattle.script_summary.specs.declared.happening.Happening.{Happening}
use Rattle.script_summary.specs.declared.extent.Extent.{Extent}
use Rattle.script_summary.specs.Extents.{extent_at, extent_of, extent_with, first_of, last_of, later, of_entry, sooner}

-- ---- one more behind some

-- of three the first, whichever two are compared first
sooner_of_three : (a b c : Happening) → sooner a (sooner b c) ≡ sooner (sooner a b) c
sooner_of_three a b c = grind (arith, nat_tests)

later_of_three : (a b c : Happening) → later a (later b c) ≡ later (later a b) c
later_of_three a b c = grind (arith, nat_tests)

first_more : (it : Happening) (rest : List Happening) (new : Happening) → first_of it (rest ++ new ∷ []) ≡ sooner (first_of it rest) new
first_more it [] new = refl
first_more it (next ∷ rest) new = ap (sooner it) (first_more next rest new) ∙ sooner_of_three it (first_of next rest) new

last_more : (it : Happening) (rest : List Happening) (new : Happening) → last_of it (rest ++ new ∷ []) ≡ later (last_of it rest) new
last_more it [] new = refl
last_more it (next ∷ rest) new = ap (later it) (last_more next rest new) ∙ later_of_three it (last_of next rest) new

extent_more : (those : List Happening) (new : Happening) → extent_of (those ++ new ∷ []) ≡ Some (extent_with (extent_of those) new)
extent_more [] new = refl
extent_more (it ∷ rest) new =
    λ i. Some (record { count = length_push (it ∷ rest) new i; first = first_more it rest new i; last = last_more it rest new i })

-- ---- one more of a list

beyond : (xs : List Happening) (p : Happening → Bool) (new : Happening) (b : Bool) → p new ≡ b → filter p (xs ++ new ∷ []) ≡ filter p xs ++ cond b (new ∷ []) []
beyond xs p new b is = filter-append p xs (new ∷ []) ∙ ap (λ c. filter p xs ++ cond c (new ∷ []) []) is

pub of_own : (seen : List Happening) (new : Happening) (place : ℕ) → new.entry ≡ place → extent_at (seen ++ new ∷ []) place ≡ Some (extent_with (extent_at seen place) new)
of_own seen new place is =
    ap extent_of (beyond seen (λ it. nat_eq it.entry place) new true (eq-eqb new.entry place is)) ∙ extent_more (of_entry place seen) new

pub of_other : (seen : List Happening) (new : Happening) (place : ℕ) → nat_eq new.entry place ≡ false → extent_at (seen ++ new ∷ []) place ≡ extent_at seen place
of_other seen new place is = ap extent_of (beyond seen (λ it. nat_eq it.entry place) new false is ∙ append-nil (of_entry place seen))

-- ---- how many

count_of : (those : List Happening) (most : ℕ) → length those < most → IfSome (extent_of those) (λ (e : Extent). e.count < most)
count_of [] most few = tt
count_of (it ∷ rest) most few = few

count_within : (place : ℕ) (all : List Happening) (most : ℕ) → length all < most → IfSome (extent_at all place) (λ (e : Extent). e.count < most)
count_within place all most few =
    let p : Happening → Bool = λ it. nat_eq it.entry place in
    count_of (of_entry place all) most (omega (arith, few, length-filter p all, count_by-le-length p all))

-- ---- all of them

-- none so far
pub none_yet : (count : ℕ) → replicate count None ≡ map (extent_at []) (range_with_len 0 count)
none_yet count = fill_by_all (extent_at []) (replicate count None) count None (length-replicate count None) (λ k low. get_or-replicate count k None None low)

-- as many as there are, each as far as `all` says
are_extents : (all : List Happening) (count : ℕ) (made : List (Option Extent)) → length made ≡ count → ((k : ℕ) → k < count → get_or made k None ≡ extent_at all k) → made ≡ map (extent_at all) (range_with_len 0 count)
are_extents all count made long each = fill_by_all (extent_at all) made count None long each

module _ (seen : List Happening) (count : ℕ) (made : List (Option Extent)) (so_far : made ≡ map (extent_at seen) (range_with_len 0 count)) (new : Happening) where
  long : length made ≡ count
  long = ap length so_far ∙ length-map-range_with_len (extent_at seen) 0 count

  at : (k : ℕ) → k < count → get_or made k None ≡ extent_at seen k
  at k low = ap (λ l. get_or l k None) so_far ∙ get_or-map-range_with_len (extent_at seen) 0 count k k None low (omega arith)

  abbrev with_new : Option Extent
  with_new = Some (extent_with (get_or made new.entry None) new)

  at_set : new.entry < count → (k : ℕ) → k < count → (b : Bool) → nat_eq new.entry k ≡ b → get_or (set made new.entry with_new) k None ≡ extent_at (seen ++ new ∷ []) k
  at_set here k low true is =
      let same : new.entry ≡ k = eqb-true new.entry k is in
      let set_there : get_or (set made new.entry with_new) new.entry None ≡ with_new = get_or-set_same made new.entry with_new None (omega (arith, here, long)) in
      ap (λ j. get_or (set made new.entry with_new) j None) (sym same) ∙ set_there
      ∙ ap (λ e. Some (extent_with e new)) (at new.entry here ∙ ap (extent_at seen) same)
      ∙ sym (of_own seen new k same)
  at_set here k low false is =
      get_or-set_other made new.entry k with_new None (λ same. false≢true (sym is ∙ eq-eqb new.entry k (sym same)))
      ∙ at k low ∙ sym (of_other seen new k is)

  past : (k : ℕ) → k < count → ¬ (new.entry < count) → (b : Bool) → nat_eq new.entry k ≡ b → get_or made k None ≡ extent_at (seen ++ new ∷ []) k
  past k low not_there true is = absurd (not_there (omega (arith, eqb-true new.entry k is, low)))
  past k low not_there false is = at k low ∙ sym (of_other seen new k is)

  few_by : (most : ℕ) → length seen < most → (b : Bool) → nat_lt new.entry count ≡ b → IfSome (get_or made new.entry None) (λ (e : Extent). e.count < most)
  few_by most few true is =
      let here : new.entry < count = grind (arith, nat_tests) in
      subst (λ (o : Option Extent). IfSome o (λ (e : Extent). e.count < most)) (sym (at new.entry here)) (count_within new.entry seen most few)
  few_by most few false is =
      let past_end : length made ≤ new.entry = grind (arith, nat_tests, long) in
      subst (λ (o : Option Extent). IfSome o (λ (e : Extent). e.count < most)) (sym (get_or_past made new.entry None past_end)) tt

  -- no more are counted so far than there are
  pub few : (most : ℕ) → length seen < most → IfSome (get_or made new.entry None) (λ (e : Extent). e.count < most)
  few most low = few_by most low (nat_lt new.entry count) refl

  abbrev added : Bool → List (Option Extent)
  added b = if b then slice_set made new.entry (Some (extent_with (slice_index_or made new.entry None) new)) else made

  more_by : (b : Bool) → nat_lt new.entry (length made) ≡ b → added b ≡ map (extent_at (seen ++ new ∷ [])) (range_with_len 0 count)
  more_by true is =
      let here : new.entry < count = grind (arith, nat_tests, long) in
      are_extents (seen ++ new ∷ []) count (set made new.entry with_new) (length-set made new.entry with_new ∙ long) (λ k low. at_set here k low (nat_eq new.entry k) refl)
  more_by false is =
      let not_there : ¬ (new.entry < count) = grind (arith, nat_tests, long) in
      are_extents (seen ++ new ∷ []) count made long (λ k low. past k low not_there (nat_eq new.entry k) refl)

  -- one more for its entry
  pub one_more : added (nat_lt new.entry (length made)) ≡ map (extent_at (seen ++ new ∷ [])) (range_with_len 0 count)
  one_more = more_by (nat_lt new.entry (length made)) refl
