-- Events are dealt to the parts of their receivers, one after the other.
use Rattle.std.proofs.Common.{◌≡◌, ℕ, zero, suc, ◌<◌, Bool, true, false, cond, List, [], ◌∷◌, ◌++◌, map, length, Some, slice_set, ap, ◌∙◌, sym, subst, refl, arith}
use Rattle.std.specs.Option.{option_map}
use Rattle.std.specs.List.{AllByRecursion, slice_get}
use Rattle.std.proofs.lemmas.Bool.{eqb-true, eqb-false}
use Rattle.std.proofs.lemmas.Option.{same_Some, slice_get_within, slice_get-map}
use Rattle.std.specs.Prelude.{slice_range}
use Rattle.std.proofs.lemmas.List.{map-append, append-nil, drop_all}
use Rattle.std.proofs.lemmas.List.Folds.{drop_split}
use Rattle.std.proofs.lemmas.List.Elements.{filter-append}
use Rattle.base.specs.declared.key.Key.{Key}
use Rattle.member.specs.declared.event_kind.EventKind.{EventKind}
use Rattle.member.specs.declared.event.Event.{Event}
use Rattle.member.specs.StateOf.{pair_of}
use Rattle.windows.specs.Parts.{is_in, for_own}
use Rattle.turns.proofs.Coming.{at_place, elsewhere}
use Rattle.lookahead_windows.specs.Windows.{AreDealt}

-- all of a list are drained
pub all_drained : {X : Type 0} (xs : List X) (n : ℕ) → n ≡ length xs → slice_range xs 0 n ≡ xs
all_drained xs n same =
    sym (append-nil (slice_range xs 0 n)) ∙ ap (λ l. slice_range xs 0 n ++ l) (sym (drop_all n xs (omega (arith, same)))) ∙ sym (drop_split xs 0 n (omega arith))

nothing_at : {V : Type 0} (items : V → List Event) (lists : List V) (i : ℕ) → i < length lists → AllByRecursion (λ list. items list ≡ []) lists → option_map (map pair_of) (slice_get (map items lists) i) ≡ Some []
nothing_at items [] i low all = absurd (omega arith)
nothing_at items (list ∷ lists) zero low all = ap (λ l. Some (map pair_of l)) all.0
nothing_at items (list ∷ lists) (suc i) low all = nothing_at items lists i (omega arith) all.1

items_at : {V : Type 0} (items : V → List Event) (lists : List V) (i : ℕ) (list : V) → slice_get lists i ≡ Some list → option_map (map pair_of) (slice_get (map items lists) i) ≡ Some (map pair_of (items list))
items_at items lists i list here = ap (option_map (map pair_of)) (slice_get-map items lists i ∙ ap (option_map items) here)

module _ (division : ℕ → ℕ) (parts : ℕ) where
  -- empty lists have none of no events
  pub none_dealt : {V : Type 0} (items : V → List Event) (lists : List V) → length lists ≡ parts → AllByRecursion (λ list. items list ≡ []) lists → AreDealt division parts [] (map items lists)
  none_dealt items lists count all = λ i low. nothing_at items lists i (omega (arith, count)) all

  module _ {V : Type 0} (items : V → List Event) (lists : List V) (before : List Event) (event : Event) (place : ℕ) (list after : V) (own : division event.key.to ≡ place)
      (here : slice_get lists place ≡ Some list) (added : items after ≡ items list ++ event ∷ []) (low : place < parts) (dealt : AreDealt division parts before (map items lists)) where
    abbrev one : List (Key × EventKind)
    one = pair_of event ∷ []

    abbrev so_far : ℕ → List (Key × EventKind)
    so_far i = for_own (is_in division i) (map pair_of before)

    held : map pair_of (items list) ≡ so_far place
    held = same_Some (map pair_of (items list)) (so_far place) (sym (items_at items lists place list here) ∙ dealt place low)

    at_own : option_map (map pair_of) (slice_get (map items (slice_set lists place after)) place) ≡ Some (so_far place ++ one)
    at_own =
        items_at items (slice_set lists place after) place after (at_place lists place after (slice_get_within lists place list here))
        ∙ ap Some (ap (map pair_of) added ∙ map-append pair_of (items list) (event ∷ []) ∙ ap (λ l. l ++ one) held)

    at : (i : ℕ) → i < parts → (b : Bool) → is_in division i event.key.to ≡ b → option_map (map pair_of) (slice_get (map items (slice_set lists place after)) i) ≡ Some (so_far i ++ cond b one [])
    at i within true mine =
        let same : place ≡ i = sym own ∙ eqb-true (division event.key.to) i mine in
        subst (λ j. option_map (map pair_of) (slice_get (map items (slice_set lists place after)) j) ≡ Some (so_far j ++ one)) same at_own
    at i within false other =
        let apart : ¬ (i ≡ place) = λ same. eqb-false (division event.key.to) i other (own ∙ sym same) in
        ap (option_map (map pair_of))
        (slice_get-map items (slice_set lists place after) i ∙ ap (option_map items) (elsewhere lists place i after apart) ∙ sym (slice_get-map items lists i))
        ∙ dealt i within
        ∙ ap Some (sym (append-nil (so_far i)))

    -- one event is put behind those for its part
    pub one_dealt : AreDealt division parts (before ++ event ∷ []) (map items (slice_set lists place after))
    one_dealt = λ i within.
        at i within (is_in division i event.key.to) refl
        ∙ ap Some (sym (ap (for_own (is_in division i)) (map-append pair_of before (event ∷ [])) ∙ filter-append (λ e. is_in division i e.0.to) (map pair_of before) one))
