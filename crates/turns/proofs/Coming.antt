-- Events that come to the parts of their receivers.
use Rattle.std.proofs.Common.{◌≡◌, ◌≢◌, ℕ, zero, suc, ◌<◌, Bool, true, false, cond, eqb, nat_eq, List, [], ◌∷◌, ◌++◌, map, length, Option, Some, None, Result, Ok, Err, OnOk, slice_set, ap, ◌∙◌, sym, subst, refl, arith}
use Rattle.std.specs.Option.{option_map, is_some}
use Rattle.std.specs.List.{slice_get}
use Rattle.std.specs.FinMap.{FinMap, contains_key}
use Rattle.std.proofs.lemmas.Bool.{false≢true, eqb-true, eqb-false, eq-eqb}
use Rattle.std.proofs.lemmas.Option.{same_Some}
use Rattle.std.proofs.lemmas.List.{map-append}
use Rattle.std.proofs.lemmas.List.Elements.{filter-append}
use Rattle.base.specs.declared.key.Key.{Key}
use Rattle.base.specs.Order.{key_cmp}
use Rattle.base.specs.World.{with_events}
use Rattle.base.specs.Run.{holds-with_events}
use Rattle.base.specs.Rising.{AreNew}
use Rattle.member.specs.declared.event_kind.EventKind.{EventKind}
use Rattle.member.specs.declared.event.Event.{Event}
use Rattle.member.specs.StateOf.{pair_of}
use Rattle.member_laws.specs.Runs.{Cluster}
use Rattle.windows.specs.declared.part.Part.{Part}
use Rattle.windows.specs.Parts.{is_in, for_own, with_arrivals}
use Rattle.windows.specs.WorldOf.{world_of}
use Rattle.windows.specs.Several.{numbers_of}
use Rattle.windows.proofs.Admitting.{absent}
use Rattle.windows.proofs.Deliveries.{all_at, all_before}
use Rattle.windows.proofs.Cuts.{joined_joined}
use Rattle.turns.specs.Parts.{HaveCome}

pub twice : {A B C : Type 0} (f : A → B) (g : B → C) (o : Option A) → option_map g (option_map f o) ≡ option_map (λ x. g (f x)) o
twice f g None = refl
twice f g (Some x) = refl

same_map : {A B : Type 0} (f g : A → B) (o : Option A) → ((x : A) → f x ≡ g x) → option_map f o ≡ option_map g o
same_map f g None same = refl
same_map f g (Some x) same = ap Some (same x)

pub same_count : {A : Type 0} (xs : List A) (i : ℕ) (x : A) → length (slice_set xs i x) ≡ length xs
same_count [] i x = refl
same_count (y ∷ ys) zero x = refl
same_count (y ∷ ys) (suc i) x = ap suc (same_count ys i x)

pub at_place : {X : Type 0} (xs : List X) (i : ℕ) (x : X) → i < length xs → slice_get (slice_set xs i x) i ≡ Some x
at_place [] i x h = absurd (omega arith)
at_place (y ∷ ys) zero x h = refl
at_place (y ∷ ys) (suc i) x h = at_place ys i x (omega arith)

pub elsewhere : {X : Type 0} (xs : List X) (i q : ℕ) (x : X) → ¬ (q ≡ i) → slice_get (slice_set xs i x) q ≡ slice_get xs q
elsewhere [] i q x h = refl
elsewhere (y ∷ ys) zero zero x h = absurd (h refl)
elsewhere (y ∷ ys) zero (suc q) x h = refl
elsewhere (y ∷ ys) (suc i) zero x h = refl
elsewhere (y ∷ ys) (suc i) (suc q) x h = elsewhere ys i q x (λ e. h (ap suc e))

-- what two facts of what went well give
pub if_both : {T E P Q R : Type 0} (r : Result T E) → OnOk r P → OnOk r Q → (P → Q → R) → OnOk r R
if_both (Ok _) p q so = so p q
if_both (Err _) p q so = tt

-- one of its kind in the place of a part leaves the numbers as they are
pub same_numbers : {Q : Type 0} (parts : List (Part Q)) (i : ℕ) (part after : Part Q) → slice_get parts i ≡ Some part → after.number ≡ part.number → numbers_of (slice_set parts i after) ≡ numbers_of parts
same_numbers [] i part after here same = refl
same_numbers {Q} (p ∷ ps) zero part after here same = ap (λ n. n ∷ numbers_of ps) (same ∙ ap (λ (q : Part Q). q.number) (sym (same_Some p part here)))
same_numbers (p ∷ ps) (suc i) part after here same = ap (λ ns. p.number ∷ ns) (same_numbers ps i part after here same)

-- of new events that are added one after the other, each is new when its turn comes
next_is_new : {C : Type 0} (pending : FinMap key_cmp C) (before : List (Key × C)) (e : Key × C) (after : List (Key × C)) → AreNew pending (before ++ e ∷ after)
    → contains_key (with_events pending before) e.0 ≡ false
next_is_new pending before e after new =
    absent (with_events pending before) e.0 (holds-with_events (λ q. q ≢ e.0) before pending
    (λ q here same. false≢true (sym (all_at (λ f. contains_key pending f.0 ≡ false) before after e new.unlike_pending) ∙ ap (contains_key pending) (sym same) ∙ here))
    (all_before (λ f g. f.0 ≢ g.0) before after e new.unlike_each_other))

-- what stands behind a value that is there
pub behind : {A B : Type 0} (f : A → B) (o : Option A) (y : B) → option_map f o ≡ Some y → (x : A) × (o ≡ Some x) × (f x ≡ y)
behind f None y is = absurd (false≢true (ap is_some is))
behind f (Some x) y is = (x, refl, same_Some (f x) y is)

module _ {Q : Type 0} (set : Q → FinMap key_cmp Event) (division : ℕ → ℕ) where
  pub none_come : (parts : List (Part Q)) → HaveCome set division parts parts []
  none_come parts = record { count = refl; worlds = λ i. refl; numbers = refl }

  pub more_come : (a b c : List (Part Q)) (es fs : List (Key × EventKind)) → HaveCome set division a b es → HaveCome set division b c fs → HaveCome set division a c (es ++ fs)
  more_come a b c es fs first second = record {
    count = second.count ∙ first.count;
    numbers = second.numbers ∙ first.numbers;
    worlds = λ i.
        let own = for_own (is_in division i) in
        second.worlds i
        ∙ sym (twice (world_of set) (λ w. with_arrivals w (own fs)) (slice_get b i))
        ∙ ap (option_map (λ w. with_arrivals w (own fs))) (first.worlds i)
        ∙ twice (λ p. with_arrivals (world_of set p) (own es)) (λ w. with_arrivals w (own fs)) (slice_get a i)
        ∙ same_map _ (λ p. with_arrivals (world_of set p) (own (es ++ fs))) (slice_get a i)
        (λ p. joined_joined (world_of set p) (own es) (own fs) ∙ ap (with_arrivals (world_of set p)) (sym (filter-append (λ e. is_in division i e.0.to) es fs)));
  }

  -- one event comes to its part
  module _ (parts : List (Part Q)) (place : ℕ) (part after : Part Q) (event : Event) (own : division event.key.to ≡ place) (here : slice_get parts place ≡ Some part)
      (took : world_of set after ≡ with_arrivals (world_of set part) (pair_of event ∷ [])) (number : after.number ≡ part.number) (within : place < length parts) where
    world_after : (b : Bool) → is_in division place event.key.to ≡ b → world_of set after ≡ with_arrivals (world_of set part) (cond b (pair_of event ∷ []) [])
    world_after true mine = took
    world_after false other = absurd (false≢true (sym other ∙ eq-eqb (division event.key.to) place own))

    at : (i : ℕ) (b : Bool) → eqb i place ≡ b
        → option_map (world_of set) (slice_get (slice_set parts place after) i) ≡ option_map (λ p. with_arrivals (world_of set p) (for_own (is_in division i) (pair_of event ∷ []))) (slice_get parts i)
    at i true e =
        let same : i ≡ place = eqb-true i place e in
        subst (λ j. option_map (world_of set) (slice_get (slice_set parts place after) j) ≡ option_map (λ p. with_arrivals (world_of set p) (for_own (is_in division j) (pair_of event ∷ []))) (slice_get parts j)) (sym same)
        (ap (option_map (world_of set)) (at_place parts place after within)
        ∙ ap Some (world_after (is_in division place event.key.to) refl)
        ∙ ap (option_map (λ p. with_arrivals (world_of set p) (for_own (is_in division place) (pair_of event ∷ [])))) (sym here))
    at i false e =
        let apart : is_in division i event.key.to ≡ false = ap (λ n. nat_eq n i) own ∙ other_place i (eqb place i) refl (eqb-false i place e) in
        ap (option_map (world_of set)) (elsewhere parts place i after (eqb-false i place e))
        ∙ same_map _ (λ p. with_arrivals (world_of set p) (for_own (is_in division i) (pair_of event ∷ []))) (slice_get parts i)
        (λ p. ap (λ b. with_arrivals (world_of set p) (cond b (pair_of event ∷ []) [])) (sym apart))
      where
        other_place : (i : ℕ) (b : Bool) → eqb place i ≡ b → ¬ (i ≡ place) → nat_eq place i ≡ false
        other_place i true e other = absurd (other (sym (eqb-true place i e)))
        other_place i false e other = e

    pub one_comes : HaveCome set division parts (slice_set parts place after) (pair_of event ∷ [])
    one_comes = record { count = same_count parts place after; worlds = λ i. at i (eqb i place) refl; numbers = same_numbers parts place part after here number }

  -- of new events that come, each is new when its turn comes
  new_own : (pending : FinMap key_cmp EventKind) (es rest : List (Key × EventKind)) (e : Key × EventKind) (i : ℕ) (b : Bool) → is_in division i e.0.to ≡ b
      → AreNew pending (for_own (is_in division i) es ++ cond b (e ∷ for_own (is_in division i) rest) (for_own (is_in division i) rest))
      → AreNew (with_events pending (for_own (is_in division i) es)) (cond b (e ∷ []) [])
  new_own pending es rest e i true mine new = record {
    unlike_pending = (next_is_new pending (for_own (is_in division i) es) e (for_own (is_in division i) rest) new, tt);
    unlike_each_other = (tt, tt);
  }
  new_own pending es rest e i false other new = record { unlike_pending = tt; unlike_each_other = tt }

  pub new_in_turn : (before now : List (Part Q)) (yielded rest all : List Event) (event : Event) → yielded ++ event ∷ rest ≡ all
      → ((i : ℕ) (part : Part Q) → slice_get before i ≡ Some part → AreNew (world_of set part).pending (for_own (is_in division i) (map pair_of all)))
      → HaveCome set division before now (map pair_of yielded)
      → (i : ℕ) (part : Part Q) → slice_get now i ≡ Some part → AreNew (world_of set part).pending (for_own (is_in division i) (pair_of event ∷ []))
  new_in_turn before now yielded rest all event items new so_far i part here =
      let was = behind (λ p. with_arrivals (world_of set p) (for_own (is_in division i) (map pair_of yielded))) (slice_get before i) (world_of set part)
      (sym (so_far.worlds i) ∙ ap (option_map (world_of set)) here) in
      let own = for_own (is_in division i) in
      let parts : map pair_of all ≡ map pair_of yielded ++ pair_of event ∷ map pair_of rest = ap (map pair_of) (sym items) ∙ map-append pair_of yielded (event ∷ rest) in
      let all_new : AreNew (world_of set was.0).pending (own (map pair_of yielded ++ pair_of event ∷ map pair_of rest)) =
      subst (λ l. AreNew (world_of set was.0).pending (own l)) parts (new i was.0 was.1) in
      let split : AreNew (world_of set was.0).pending (own (map pair_of yielded) ++ own (pair_of event ∷ map pair_of rest)) =
      subst (AreNew (world_of set was.0).pending) (filter-append (λ e. is_in division i e.0.to) (map pair_of yielded) (pair_of event ∷ map pair_of rest)) all_new in
      subst (λ (w : Cluster). AreNew w.pending (own (pair_of event ∷ []))) was.2
      (new_own (world_of set was.0).pending (map pair_of yielded) (map pair_of rest) (pair_of event) i (is_in division i event.key.to) refl split)

  -- so its part has no event of its key
  pub absent_at_place : (part : Part Q) (event : Event) (i : ℕ) → division event.key.to ≡ i → AreNew (world_of set part).pending (for_own (is_in division i) (pair_of event ∷ []))
      → contains_key (world_of set part).pending event.key ≡ false
  absent_at_place part event i own new = by_test (is_in division i event.key.to) refl new
    where
      by_test : (b : Bool) → is_in division i event.key.to ≡ b → AreNew (world_of set part).pending (cond b (pair_of event ∷ []) []) → contains_key (world_of set part).pending event.key ≡ false
      by_test true mine new = new.unlike_pending.0
      by_test false other new = absurd (false≢true (sym other ∙ eq-eqb (division event.key.to) i own))

  -- and each part still has the members that it had
  pub members_stay : (before now : List (Part Q)) (es : List (Key × EventKind)) → HaveCome set division before now es → (i : ℕ) (part : Part Q) → slice_get now i ≡ Some part
      → (old : Part Q) × (slice_get before i ≡ Some old) × ((world_of set part).members ≡ (world_of set old).members)
  members_stay before now es come i part here =
      let was = behind (λ p. with_arrivals (world_of set p) (for_own (is_in division i) es)) (slice_get before i) (world_of set part)
      (sym (come.worlds i) ∙ ap (option_map (world_of set)) here) in
      (was.0, was.1, ap (λ (w : Cluster). w.members) (sym was.2))
