-- What goes over a part's relay, and how the relays of a run end.
use Rattle.std.proofs.Common.{◌≡◌, ℕ, zero, suc, Bool, true, false, ◌||◌, List, Vec, Global, [], ◌∷◌, ◌++◌, length, Some, ap, ◌∙◌, sym, subst, refl}
use Rattle.std.specs.List.{slice_get, AllByRecursion}
use Rattle.std.proofs.lemmas.Option.{none-some, same_Some}
use Rattle.std.proofs.lemmas.List.Folds.{list_any-append}
use Rattle.base.proofs.Rising.{all_weaker}
use Rattle.scenario.specs.Setup.{Setup}
use Rattle.scenario.specs.Division.{Deal}
use Rattle.relay.specs.Lots.{has_last}
use Rattle.relay.specs.Seats.{given_of, sent_by, taken_by, IsSender, IsTaker}
use Rattle.relay.specs.declared.relay.SendSeat.{SendSeat}
use Rattle.relay.specs.declared.relay.TakeSeat.{TakeSeat}
use Rattle.lookahead_windows.specs.Basis.{Basis}
use Rattle.lookahead_windows.proofs.Places.{pushed_each}
use Rattle.parallel_run.specs.declared.row_batch.RowBatch.{RowBatch}
use Rattle.parallel_run.specs.declared.row_batch.Delivery.{Delivery}
use Rattle.parallel_run.specs.declared.row_relay.RunBasis.{RunBasis}
use Rattle.parallel_run.specs.declared.row_relay.RelaySeats.{RelaySeats}
use Rattle.parallel_run.specs.declared.closed_relay.ClosedRelay.{ClosedRelay}
use Rattle.parallel_run.specs.declared.closed_relay.RunAccount.{RunAccount}
use Rattle.parallel_run.specs.Relaying.{RowRelay, basis_by, basis_in, is_end, is_last_batch, has_last_batch}
use Rattle.parallel_run.specs.Relays.{AreClosed, AreNewSeats, AreRelayed, IsClosed, IsMadeFor, IsOfRun}

-- ---- what was sent and received

-- after what is no end more may be sent
pub still_open : (sent more : List Delivery) (d : Delivery) (going : Bool) → has_last is_end sent ≡ false → more ≡ sent ++ d ∷ [] → going ≡ true → (going ≡ true → is_end d ≡ false) → has_last is_end more ≡ false
still_open sent more d going none joined is so = ap (has_last is_end) joined ∙ list_any-append is_end sent (d ∷ []) ∙ ap (λ b. b || (is_end d || false)) none ∙ ap (λ b. b || false) (so is)

or_so : (b x y : Bool) → (x ≡ true → y ≡ true) → (b || x) ≡ true → (b || y) ≡ true
or_so true x y so is = refl
or_so false x y so is = so is

-- where the last lot is there, there is an end
pub ended_by_lot : (l : List Delivery) → has_last_batch l ≡ true → has_last is_end l ≡ true
ended_by_lot [] is = is
ended_by_lot (Delivery.RowBatch lot ∷ rest) is = or_so lot.last (has_last_batch rest) (has_last is_end rest) (ended_by_lot rest) is
ended_by_lot (Delivery.Ended fault ∷ rest) is = refl

-- of a list with one more
or_right : (a b : Bool) → b ≡ true → (a || b) ≡ true
or_right true b is = refl
or_right false b is = is

pub still_whole : (taken more : List Delivery) (d : Delivery) → has_last_batch taken ≡ true → more ≡ taken ++ d ∷ [] → has_last_batch more ≡ true
still_whole taken more d has joined = ap has_last_batch joined ∙ list_any-append is_last_batch taken (d ∷ []) ∙ ap (λ b. b || has_last_batch (d ∷ [])) has

pub whole_now : (taken more : List Delivery) (lot : RowBatch) → lot.last ≡ true → more ≡ taken ++ Delivery.RowBatch lot ∷ [] → has_last_batch more ≡ true
whole_now taken more lot last joined = ap has_last_batch joined ∙ list_any-append is_last_batch taken (Delivery.RowBatch lot ∷ []) ∙ or_right (has_last_batch taken) (lot.last || false) (ap (λ b. b || false) last)

-- ---- the relays of a run

slice_get_front : {X : Type 0} (xs ys : List X) (i : ℕ) (x : X) → slice_get xs i ≡ Some x → slice_get (xs ++ ys) i ≡ Some x
slice_get_front [] ys i x is = absurd (none-some x is)
slice_get_front (z ∷ xs) ys zero x is = is
slice_get_front (z ∷ xs) ys (suc i) x is = slice_get_front xs ys i x is

pub slice_get_behind_all : {X : Type 0} (xs : List X) (x : X) → slice_get (xs ++ x ∷ []) (length xs) ≡ Some x
slice_get_behind_all [] x = refl
slice_get_behind_all (z ∷ xs) x = slice_get_behind_all xs x

-- the seats of relays are those of relays among which there is one more
pub seats_more : (relays more : List RowRelay) (relay : RowRelay) (basis : Basis) (all : List RelaySeats) → more ≡ relays ++ relay ∷ [] → AllByRecursion (AreNewSeats relays basis) all → AllByRecursion (AreNewSeats more basis) all
seats_more relays more relay basis all joined each =
    all_weaker (AreNewSeats relays basis) (AreNewSeats more basis)
    (λ seats is. record { here = ap (λ l. slice_get l seats.number) joined ∙ slice_get_front relays (relay ∷ []) seats.number seats.relay.value is.here; given = is.given; sends = is.sends; takes = is.takes; none_sent = is.none_sent })
    all each

-- the seats of a relay that is made behind the others
pub seats_made : (relays more : List RowRelay) (relay : RowRelay) (run : RunBasis) (seats : RelaySeats) → length relays ≡ seats.number → more ≡ relays ++ relay ∷ [] → seats.relay.value ≡ relay → given_of relay ≡ run
    → IsSender relay seats.sender → IsTaker relay seats.taker → sent_by seats.sender ≡ [] → AreNewSeats more (basis_in run) seats
seats_made relays more relay run seats count joined same given sends takes none = record {
  here = ap (slice_get more) (sym count) ∙ ap (λ l. slice_get l (length relays)) joined ∙ slice_get_behind_all relays relay ∙ ap Some (sym same);
  given = ap basis_in (ap (λ (r : RowRelay). given_of r) same ∙ given);
  sends = subst (λ (r : RowRelay). IsSender r seats.sender) (sym same) sends;
  takes = subst (λ (r : RowRelay). IsTaker r seats.taker) (sym same) takes;
  none_sent = none;
}

-- the relay of that number, whose two ends came back, is closed
pub closed_whole : (relays : List RowRelay) (number at to : ℕ) (relay other : RowRelay) (sent : SendSeat Delivery Delivery RunBasis) (taken : TakeSeat Delivery Delivery RunBasis) (one : ClosedRelay)
    → at ≡ number → to ≡ number → slice_get relays at ≡ Some other → slice_get relays to ≡ Some relay → IsSender other sent → IsTaker relay taken → has_last_batch (taken_by taken) ≡ true
    → (has_last is_end (taken_by taken) ≡ true → taken_by taken ≡ sent_by sent) → one.sent.value ≡ sent → one.taken.value ≡ taken → IsClosed relays number one
closed_whole relays number at to relay other sent taken one at_is to_is there here sends takes last whole sent_is taken_is =
    let same : other ≡ relay = same_Some other relay (sym there ∙ ap (slice_get relays) (at_is ∙ sym to_is) ∙ here) in (
      relay,
      ap (slice_get relays) (sym to_is) ∙ here,
      record {
        sends = subst (IsSender relay) (sym sent_is) (subst (λ (r : RowRelay). IsSender r sent) same sends);
        takes = subst (IsTaker relay) (sym taken_is) takes;
        all = ap taken_by taken_is ∙ whole (ended_by_lot (taken_by taken) last) ∙ sym (ap sent_by sent_is);
        last = ap has_last_batch (ap taken_by taken_is) ∙ last;
      },
    )

-- relays of which the first were closed, and the next was too
pub closed_more : (relays : List RowRelay) (closed more : List ClosedRelay) (one : ClosedRelay)
    → ((i : ℕ) (l : ClosedRelay) → slice_get closed i ≡ Some l → IsClosed relays i l) → IsClosed relays (length closed) one → more ≡ closed ++ one ∷ []
    → (i : ℕ) (l : ClosedRelay) → slice_get more i ≡ Some l → IsClosed relays i l
closed_more relays closed more one before is joined i l here = pushed_each (IsClosed relays) closed one before is i l (ap (λ ls. slice_get ls i) (sym joined) ∙ here)

-- relays that were made for what goes by these are of that run
pub of_one_run : (s : Setup) (deal : Deal) (ways : List ℕ) (basis : Basis) → basis ≡ basis_by s deal ways → (relays : List RowRelay) → AllByRecursion (IsMadeFor basis) relays → AllByRecursion (IsOfRun s deal) relays
of_one_run s deal ways basis same relays made = all_weaker (IsMadeFor basis) (IsOfRun s deal) (λ relay is. (ways, is ∙ same)) relays made

-- the relays of a run were closed, of which nothing else is kept
pub are_closed : (s : Setup) (deal : Deal) (ways : List ℕ) (basis : Basis) (account : RunAccount) (relays : Vec RowRelay Global) (slice : List RowRelay) → account.relays.value ≡ relays → basis ≡ basis_by s deal ways
    → length relays.items ≡ deal.parts → AllByRecursion (IsMadeFor basis) relays.items → slice ≡ relays.items → AreRelayed slice account.closed.items → AreClosed s deal account
are_closed s deal ways basis account relays slice kept same count made whole relayed = record {
  count = ap (λ (v : Vec RowRelay Global). length v.items) kept ∙ count;
  made = subst (λ (v : Vec RowRelay Global). AllByRecursion (IsOfRun s deal) v.items) (sym kept) (of_one_run s deal ways basis same relays.items made);
  relayed = subst (λ (v : Vec RowRelay Global). AreRelayed v.items account.closed.items) (sym kept) (subst (λ l. AreRelayed l account.closed.items) whole relayed);
}
