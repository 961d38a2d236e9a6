-- What a worker's window gives for the others, as messages of the round.
use Rattle.std.proofs.Common.{◌≡◌, ◌≢◌, ℕ, ◌<◌, List, [], map, length, get_or, drop, unwrap_or, Option, Some, None, ap, ◌∙◌, sym, subst}
use Rattle.std.specs.Option.{option_map, is_some}
use Rattle.std.specs.List.{slice_get}
use Rattle.std.specs.FinMap.{FinMap}
use Rattle.std.proofs.lemmas.Bool.{false≢true}
use Rattle.std.proofs.lemmas.Option.{same_Some, slice_get-map}
use Rattle.base.specs.declared.key.Key.{Key}
use Rattle.base.specs.Order.{key_cmp}
use Rattle.base.specs.Rising.{IsRising}
use Rattle.member.specs.declared.event_kind.EventKind.{EventKind}
use Rattle.member.specs.declared.event.Event.{Event}
use Rattle.member.specs.StateOf.{pair_of}
use Rattle.windows.specs.Parts.{for_own, is_in}
use Rattle.lookahead_windows.specs.Messages.{IsMessage}
use Rattle.lookahead_windows.specs.Basis.{Basis, division_of, plan_of}
use Rattle.lookahead_windows.specs.Windows.{Ran}
use Rattle.parallel_run.specs.Peers.{AreOthers}
use Rattle.parallel_run.specs.Windows.{HasRanRound, AfterWindow, CanTell}
use Rattle.parallel_run.proofs.TellingInTurn.{AreUntouched, of_next, untouched_next}

-- the pairs of a list that is there
dealt_pairs : (o : Option (List Event)) (es : List (Key × EventKind)) → option_map (map pair_of) o ≡ Some es → map pair_of (unwrap_or o []) ≡ es
dealt_pairs None es is = absurd (false≢true (ap is_some is))
dealt_pairs (Some list) es is = same_Some (map pair_of list) es is

module _ {Q : Type 0} (set : Q → FinMap key_cmp Event) (basis : Basis) (own round : ℕ) (ran : Ran Q) (has : HasRanRound set basis own round ran) where
  -- each list of the window is what may be sent to the other part
  pub can_tell : CanTell basis own round ran.least ran.out
  can_tell to low other = record {
    window = has.window;
    sender = has.own;
    runs = has.runs;
    told =
        dealt_pairs (slice_get ran.out to) _ (has.dealt to low)
        ∙ ap (for_own (is_in (division_of basis) to)) (sym has.sent);
    after = has.least;
  }

  pub after_window : AfterWindow set basis own round ran.least ran.part
  after_window = record { window = has.window; own = has.own; runs = has.runs; after = has.after; least_is = has.least }

-- the list for the next peer, which still stands as it was, is sent to that one
pub next_told : {A V : Type 0} (number : A → ℕ) (items : V → List Event) (basis : Basis) (own round : ℕ) (least : Option ℕ) (before lists : List V) (peers : List A) (numbers : List ℕ) (i : ℕ) (d : A)
    → CanTell basis own round least (map items before) → AreOthers basis.deal.parts own numbers → map number peers ≡ numbers → i < length peers
    → (IsRising (λ m n. m ≢ n) numbers → AreUntouched before lists (drop i numbers))
    → IsMessage (plan_of basis) own (number (get_or peers i d)) round (map pair_of (unwrap_or (slice_get (map items lists) (number (get_or peers i d))) [])) least
next_told number items basis own round least before lists peers numbers i d can others so_far low untouched =
    let n = number (get_or peers i d) in
    let other = of_next number peers numbers i d so_far low (λ m. (m ≢ own) × (m < basis.deal.parts)) others.others in
    let same = untouched_next number peers numbers i d so_far low before lists others.different (untouched others.different) in
    subst (λ o. IsMessage (plan_of basis) own n round (map pair_of (unwrap_or o [])) least)
    (slice_get-map items before n ∙ ap (option_map items) (sym same) ∙ sym (slice_get-map items lists n)) (can n other.1 other.0)
