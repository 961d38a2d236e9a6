-- An event that passes a test is handled before its turn: the run goes on as if it had waited.
use Rattle.std.proofs.Common.{◌≡◌, ◌≢◌, ℕ, ◌<◌, ◌≤◌, Bool, true, false, cond, List, [], ◌∷◌, ◌++◌, Option, Some, None, ap, ◌∙◌, sym, subst, refl, arith, append_assoc}
use Rattle.std.specs.Option.{is_some, option_map}
use Rattle.std.specs.List.{AllByRecursion}
use Rattle.std.specs.Ordering.{nat_cmp, eq_by_cmp, is_eq}
use Rattle.std.specs.Cmp.{nat_cmp_total, unsigned_tied, tied_itself}
use Rattle.std.specs.FinMap.{FinMap, get, insert, remove, get-insert, get-remove}
use Rattle.std.proofs.lemmas.Bool.{false≢true, eqb-true}
use Rattle.base.specs.declared.key.Key.{Key}
use Rattle.base.specs.Order.{key_cmp, IsBefore, key_total, moments-from_before, moments-from_not_before, same_key}
use Rattle.base.specs.World.{Machine, World, IsPending, with_events, settled, rows_of, events_of, outcome, NextStep, Run, IsOver, Outcome}
use Rattle.base.specs.Run.{MakesLater, holds-settled, handled, trace, run-exists, trace-step, tells}
use Rattle.base.proofs.Rising.{all_weaker}
use Rattle.windows.specs.Delays.{SendsAsItself}
use Rattle.windows.specs.Safe.{IsFirstOf}
use Rattle.windows.specs.Schedule.{TestedStep, OffersEarly, CatchesUp}
use Rattle.windows.proofs.Swaps.{NoneIs, pending_settled, settled_swap}

module _ {C : Type 0} where
  inserted_get : (pending : FinMap key_cmp C) (k : Key) (c : C) (q : Key) (b : Bool) → k ≢ q → eq_by_cmp key_cmp q k ≡ b → cond b (Some c) (get pending q) ≡ get pending q
  inserted_get pending k c q true other e = absurd (other (sym (tells q k e)))
  inserted_get pending k c q false other e = refl

  -- a content stays where no event takes its key
  pub get-with_events : (es : List (Key × C)) (pending : FinMap key_cmp C) (q : Key) → NoneIs q es → get (with_events pending es) q ≡ get pending q
  get-with_events [] pending q none = refl
  get-with_events (e ∷ es) pending q none =
      get-with_events es (insert pending e.0 e.1) q none.1 ∙ get-insert key_total pending e.0 e.1 q ∙ inserted_get pending e.0 e.1 q (eq_by_cmp key_cmp q e.0) none.0 refl

  removed_get : (pending : FinMap key_cmp C) (k q : Key) (b : Bool) → k ≢ q → eq_by_cmp key_cmp q k ≡ b → cond b None (get pending q) ≡ get pending q
  removed_get pending k q true other e = absurd (other (sym (tells q k e)))
  removed_get pending k q false other e = refl

  pub get-removed : (pending : FinMap key_cmp C) (k q : Key) → k ≢ q → get (remove pending k) q ≡ get pending q
  get-removed pending k q other = get-remove key_total pending k q ∙ removed_get pending k q (eq_by_cmp key_cmp q k) other refl

member_of : {S : Type 0} (members : FinMap nat_cmp S) (m n : ℕ) (s : S) (b : Bool) → m ≢ n → eq_by_cmp nat_cmp n m ≡ b → cond b (Some s) (get members n) ≡ get members n
member_of members m n s true other e = absurd (other (sym (eqb-true n m (sym (unsigned_tied n m) ∙ e))))
member_of members m n s false other e = refl

module _ {S C R : Type 0} where
  -- what stays as it was through a step: an event that is neither handled nor made anew, and another member's state
  pub content_stays : (w : World S C) (k q : Key) (o : Option (Outcome S C R)) → k ≢ q → NoneIs q (events_of o) → get (settled w k o).pending q ≡ get w.pending q
  content_stays w k q o other none =
      ap (λ m. get m q) (pending_settled w k o) ∙ get-with_events (events_of o) (remove w.pending k) q none ∙ get-removed w.pending k q other

  pub member_stays : (w : World S C) (k : Key) (m : ℕ) (o : Option (Outcome S C R)) → k.to ≢ m → get (settled w k o).members m ≡ get w.members m
  member_stays w k m None other = refl
  member_stays w k m (Some o) other = get-insert nat_cmp_total w.members k.to o.state m ∙ member_of w.members k.to m o.state (eq_by_cmp nat_cmp m k.to) other refl

differs : (q k : Key) → eq_by_cmp key_cmp q k ≡ false → q ≢ k
differs q k e same = false≢true (sym e ∙ ap is_eq (ap (λ r. key_cmp r k) same ∙ tied_itself key_total k))

-- the least of all and the least of a receiver are one, or for two members
pub receivers_differ : {S C R : Type 0} (step : Machine S C R) (w v : World S C) (k q : Key) (made : List R) → IsFirstOf w k → NextStep step w q v made → q ≢ k → q.to ≢ k.to
receivers_differ step w v k q made first next other same = other (same_key q k (first.least q (ap is_some next.here) same) (next.least k first.here))

module _ {S C R : Type 0} (step : Machine S C R) where
  -- what holds of all that a machine makes holds of what it makes here
  pub made_all : (P : Key → Key → Type 0) → ((k : Key) (c : C) (s : S) → AllByRecursion (λ e. P k e.0) (step k c s).events)
      → (k : Key) (c : C) (o : Option S) → AllByRecursion (λ e. P k e.0) (events_of (option_map (step k c) o))
  made_all P all k c None = tt
  made_all P all k c (Some s) = all k c s

  pub events_later : MakesLater step → (w : World S C) (k : Key) (c : C) → AllByRecursion (λ e. k.at < e.0.at) (events_of (outcome step w k c))
  events_later later w k c = made_all (λ k e. k.at < e.at) later k c (get w.members k.to)

  pub events_own : SendsAsItself step → (w : World S C) (k : Key) (c : C) → AllByRecursion (λ e. e.0.from ≡ k.to) (events_of (outcome step w k c))
  events_own own w k c = made_all (λ k e. e.from ≡ k.to) own k c (get w.members k.to)

  rows_made : (P : Key → R → Type 0) → ((k : Key) (c : C) (s : S) → AllByRecursion (P k) (step k c s).rows)
      → (k : Key) (c : C) (o : Option S) → AllByRecursion (P k) (rows_of (option_map (step k c) o))
  rows_made P all k c None = tt
  rows_made P all k c (Some s) = all k c s

  -- what holds of all rows that a machine writes holds of those that it writes here
  pub all_rows : (P : Key → R → Type 0) → ((k : Key) (c : C) (s : S) → AllByRecursion (P k) (step k c s).rows)
      → (w : World S C) (k : Key) (c : C) → AllByRecursion (P k) (rows_of (outcome step w k c))
  all_rows P all w k c = rows_made P all k c (get w.members k.to)

-- events of two members have keys that differ
pub apart_by_sender : {C : Type 0} (m n : ℕ) (es fs : List (Key × C)) → m ≢ n → AllByRecursion (λ e. e.0.from ≡ m) es → AllByRecursion (λ e. e.0.from ≡ n) fs → AllByRecursion (λ e. NoneIs e.0 fs) es
apart_by_sender m n es fs other of_m of_n =
    all_weaker _ (λ e. NoneIs e.0 fs) (λ e from. all_weaker _ (λ f. f.0 ≢ e.0) (λ f by same. other (sym from ∙ ap (λ (k : Key). k.from) (sym same) ∙ by)) fs of_n) es of_m

-- the least of all is no later than any other
pub least_no_later : {S C R : Type 0} (step : Machine S C R) (w v : World S C) (k q : Key) (made : List R) → NextStep step w q v made → IsPending w k → q.at ≤ k.at
least_no_later step w v k q made next here = moments-from_not_before k q (next.least k here)

-- events for a key's receiver that are later than it have other keys
pub unlike_later : {C : Type 0} (k : Key) (es : List (Key × C)) → AllByRecursion (λ e. e.0.to ≡ k.to → k.at < e.0.at) es → NoneIs k es
unlike_later k es past =
    all_weaker _ (λ e. e.0 ≢ k)
    (λ e h same.
    let after = h (ap (λ (r : Key). r.to) same) in
    let at : e.0.at ≡ k.at = ap (λ (r : Key). r.at) same in
    omega arith)
    es past

module _ {S C R : Type 0} (step : Machine S C R) (later : MakesLater step) (own : SendsAsItself step) where
  module _ (end : ℕ) (Test : World S C → Key → Type 0) (offers : OffersEarly step end Test) where
    module _ (w : World S C) (k : Key) (c : C) (passes : Test w k) (here : get w.pending k ≡ Some c) where
      module _ (q : Key) (mid : World S C) (made : List R) (next : NextStep step w q mid made) (other : q ≢ k) where
        no_earlier : q.at ≤ k.at
        no_earlier = least_no_later step w mid k q made next (ap is_some here)

        pub receivers_apart : q.to ≢ k.to
        receivers_apart = receivers_differ step w mid k q made (offers.first w k passes) next other

        leaves_k : NoneIs k (events_of (outcome step w q next.content))
        leaves_k = unlike_later k (events_of (outcome step w q next.content)) (offers.untouched w mid k q made passes next other)

        leaves_q : NoneIs q (events_of (outcome step w k c))
        leaves_q =
            all_weaker _ (λ e. e.0 ≢ q) (λ e h same.
            let at : e.0.at ≡ q.at = ap (λ (r : Key). r.at) same in
            let low = no_earlier in
            omega arith)
            (events_of (outcome step w k c)) (events_later step later w k c)

        content_there : get mid.pending k ≡ Some c
        content_there = ap (λ (u : World S C). get u.pending k) next.world ∙ content_stays w q k (outcome step w q next.content) other leaves_k ∙ here

        same_outcome : outcome step mid k c ≡ outcome step w k c
        same_outcome =
            ap (option_map (step k c)) (ap (λ (u : World S C). get u.members k.to) next.world ∙ member_stays w q k.to (outcome step w q next.content) receivers_apart)

        -- q is next where k has been handled, and the two worlds after both are one
        pub next_after : NextStep step (settled w k (outcome step w k c)) q (settled mid k (outcome step mid k c)) made
        next_after =
            let v : World S C = settled w k (outcome step w k c) in
            let out : outcome step v q next.content ≡ outcome step w q next.content =
            ap (option_map (step q next.content)) (member_stays w k q.to (outcome step w k c) (λ same. receivers_apart (sym same))) in
            record {
              content = next.content;
              here = content_stays w k q (outcome step w k c) (λ same. other (sym same)) leaves_q ∙ next.here;
              least = holds-settled step later end (λ r. ¬ (IsBefore r q)) w k c (λ r there _. next.least r there)
                  (λ r past before. let low = no_earlier in let h = moments-from_before r q before in omega arith);
              world =
                  ap (settled mid k) same_outcome
                  ∙ ap (λ u. settled u k (outcome step w k c)) next.world
                  ∙ settled_swap w q k (outcome step w q next.content) (outcome step w k c) receivers_apart leaves_k leaves_q
                  (apart_by_sender q.to k.to _ _ receivers_apart (events_own step own w q next.content) (events_own step own w k c))
                  ∙ ap (settled v q) (sym out);
              made = next.made ∙ ap rows_of (sym out);
            }

    -- What holds of an event whose turn has come, and of one that waits where it holds after the step before, holds of each that passes.
    module _ (P : World S C → Key → C → Type 0)
        (now : (w : World S C) (k : Key) (c : C) → k.at ≤ end → NextStep step w k (settled w k (outcome step w k c)) (rows_of (outcome step w k c)) → P w k c)
        (wait : (w : World S C) (k : Key) (c : C) (passes : Test w k) (here : get w.pending k ≡ Some c) (q : Key) (mid : World S C) (made : List R) (next : NextStep step w q mid made) (other : q ≢ k) → q.at ≤ end → P mid k c → P w k c) where
      by_key : (w mid : World S C) (k q : Key) (c : C) (made : List R) → Test w k → get w.pending k ≡ Some c → q.at ≤ end → NextStep step w q mid made
          → (Test mid k → get mid.pending k ≡ Some c → P mid k c) → (b : Bool) → eq_by_cmp key_cmp q k ≡ b → P w k c
      by_key w mid k q c made passes here in_time next rest true e =
          now w k c (offers.in_time w k passes)
          (record { content = c; here = here; least = subst (λ l. (r : Key) → IsPending w r → ¬ (IsBefore r l)) (tells q k e) next.least; world = refl; made = refl })
      by_key w mid k q c made passes here in_time next rest false e =
          let other = differs q k e in
          wait w k c passes here q mid made next other in_time (rest (offers.stays w mid k q made passes next other) (content_there w k c passes here q mid made next other))

      by_run : (ks : List Key) (w last : World S C) (rows : List R) (k : Key) (c : C) → Run step end w ks rows last → IsOver end last → Test w k → get w.pending k ≡ Some c → P w k c
      by_run [] w last rows k c run over passes here =
          let past : end < k.at = subst (IsOver end) run.0 over k (ap is_some here) in
          let in_time = offers.in_time w k passes in
          absurd (omega arith)
      by_run (q ∷ ks) w last rows k c run over passes here =
          by_key w run.0 k q c run.1 passes here run.3 run.4 (λ passes_there there. by_run ks run.0 last run.2 k c run.5 over passes_there there) (eq_by_cmp key_cmp q k) refl

      -- by induction on the run from the world
      pub by_turns : (w : World S C) (k : Key) (c : C) → Test w k → get w.pending k ≡ Some c → P w k c
      by_turns w k c = let whole = run-exists step later end w in by_run (handled step later end w) w whole.last (trace step later end w) k c whole.run whole.over

    caught : World S C → Key → C → Type 0
    caught w k c = CatchesUp step end w (settled w k (outcome step w k c)) k (rows_of (outcome step w k c))

    at_once : (w : World S C) (k : Key) (c : C) → k.at ≤ end → NextStep step w k (settled w k (outcome step w k c)) (rows_of (outcome step w k c)) → caught w k c
    unfolding caught
    at_once w k c in_time next = record { before = []; front = []; there = w; after = settled w k (outcome step w k c); until = (refl, refl); turn = next; alike = (refl, refl); others = tt }

    go_on : (w : World S C) (k : Key) (c : C) (passes : Test w k) (here : get w.pending k ≡ Some c) (q : Key) (mid : World S C) (made : List R) (next : NextStep step w q mid made) (other : q ≢ k)
        → q.at ≤ end → caught mid k c → caught w k c
    unfolding caught
    go_on w k c passes here q mid made next other in_time rest = record {
      before = q ∷ rest.before;
      front = made ++ rest.front;
      there = rest.there;
      after = rest.after;
      until = (mid, made, rest.front, in_time, next, rest.until, refl);
      turn = subst (λ l. NextStep step rest.there k rest.after l) (ap rows_of (same_outcome w k c passes here q mid made next other)) rest.turn;
      alike = (settled mid k (outcome step mid k c), made, rest.front, in_time, next_after w k c passes here q mid made next other, rest.alike, refl);
      others = (receivers_apart w k c passes here q mid made next other, rest.others);
    }

    -- one event that passes the test, handled before its turn
    pub early_step : (w v : World S C) (k : Key) (made : List R) → TestedStep step Test w k v made → CatchesUp step end w v k made
    unfolding caught
    early_step w v k made is =
        subst (λ u. CatchesUp step end w u k made) (sym is.world)
        (subst (CatchesUp step end w (settled w k (outcome step w k is.content)) k) (sym is.made) (by_turns caught at_once go_on w k is.content is.passes is.here))

-- ---- what that says of the keys and the rows of the runs to the end

module _ {S C R : Type 0} (step : Machine S C R) (later : MakesLater step) (end : ℕ) where
  -- a run to the end begins with any run from there
  pub begins : (ks : List Key) (w v : World S C) (rows : List R) → Run step end w ks rows v
      → (handled step later end w ≡ ks ++ handled step later end v) × (trace step later end w ≡ rows ++ trace step later end v)
  begins [] w v rows run = (ap (handled step later end) (sym run.0), ap (trace step later end) (sym run.0) ∙ ap (λ l. l ++ trace step later end v) (sym run.1))
  begins (k ∷ ks) w v rows run =
      let first = trace-step step later end w run.0 k run.1 run.3 run.4 in
      let rest = begins ks run.0 v run.2 run.5 in (
        first.0 ∙ ap (λ l. k ∷ l) rest.0,
        first.1 ∙ ap (λ l. run.1 ++ l) rest.1 ∙ sym (append_assoc run.1 run.2 (trace step later end v)) ∙ ap (λ l. l ++ trace step later end v) (sym run.6),
      )

  -- the run to the end that meets k after some events, and the one in which it was handled before
  pub whole_runs : (w v : World S C) (k : Key) (made : List R) → k.at ≤ end → (is : CatchesUp step end w v k made)
      → (handled step later end w ≡ is.before ++ k ∷ handled step later end is.after) × (trace step later end w ≡ is.front ++ (made ++ trace step later end is.after))
      × (handled step later end v ≡ is.before ++ handled step later end is.after) × (trace step later end v ≡ is.front ++ trace step later end is.after)
  whole_runs w v k made in_time is =
      let late = begins is.before w is.there is.front is.until in
      let turn = trace-step step later end is.there is.after k made in_time is.turn in
      let soon = begins is.before v is.after is.front is.alike in
      (late.0 ∙ ap (λ l. is.before ++ l) turn.0, late.1 ∙ ap (λ l. is.front ++ l) turn.1, soon.0, soon.1)
