-- Each state that a member has after a schedule it has in the run too.
use Rattle.std.proofs.Common.{◌≡◌, ◌≢◌, ◌⊎◌, ℕ, ◌≤◌, true, false, eqb, List, [], ◌∷◌, ◌++◌, Some, ap, ◌∙◌, sym, subst, refl, inl, inr}
use Rattle.std.specs.FinMap.{get}
use Rattle.std.proofs.lemmas.Bool.Decides.{eqb_tells}
use Rattle.base.specs.declared.key.Key.{Key}
use Rattle.base.specs.World.{Machine, World, settled, outcome, NextStep, Run}
use Rattle.base.specs.Run.{MakesLater, one_step}
use Rattle.windows.specs.Delays.{SendsAsItself}
use Rattle.windows.specs.Schedule.{TestedStep, Schedule, OffersEarly, MeetsState}
use Rattle.windows.proofs.Early.{member_stays, receivers_apart, next_after, by_turns}

module _ {S C R : Type 0} (step : Machine S C R) (later : MakesLater step) (own : SendsAsItself step) (end : ℕ) where
  meets_here : (w : World S C) (m : ℕ) (state : S) → get w.members m ≡ Some state → MeetsState step end w m state
  meets_here w m state there = record { keys = []; rows = []; world = w; run = (refl, refl); there = there }

  meets_later : (w v : World S C) (k : Key) (made : List R) (m : ℕ) (state : S) → k.at ≤ end → NextStep step w k v made → MeetsState step end v m state → MeetsState step end w m state
  meets_later w v k made m state in_time next met =
      record { keys = k ∷ met.keys; rows = made ++ met.rows; world = met.world; run = (v, made, met.rows, in_time, next, met.run, refl); there = met.there }

  module _ (Test : World S C → Key → Type 0) (offers : OffersEarly step end Test) where
    -- what is met after the step is met without it
    abbrev MeetsBack : World S C → Key → C → Type 0
    MeetsBack w k c = (m : ℕ) (state : S) → MeetsState step end (settled w k (outcome step w k c)) m state → MeetsState step end w m state

    module _ (w : World S C) (k : Key) (c : C) (passes : Test w k) (here : get w.pending k ≡ Some c) (q : Key) (mid : World S C) (made : List R) (next : NextStep step w q mid made) (other : q ≢ k)
        (in_time : q.at ≤ end) (rest : MeetsBack mid k c) (m : ℕ) (state : S) where
      abbrev early : World S C
      early = settled w k (outcome step w k c)

      abbrev both : World S C
      both = settled mid k (outcome step mid k c)

      q_next : NextStep step early q both made
      q_next = next_after step later own end Test offers w k c passes here q mid made next other

      then_met : MeetsState step end both m state → MeetsState step end w m state
      then_met met = meets_later w mid q made m state in_time next (rest m state met)

      -- at once: the receiver's state stays through q's step, and the others' were there before
      by_member : get early.members m ≡ Some state → ((eqb k.to m ≡ true) × (k.to ≡ m)) ⊎ ((eqb k.to m ≡ false) × (k.to ≢ m)) → MeetsState step end w m state
      by_member there (inl own_state) =
          then_met
          (meets_here both m state
          (ap (λ (u : World S C). get u.members m) q_next.world
          ∙ member_stays early q m (outcome step early q q_next.content) (λ same. receivers_apart step later own end Test offers w k c passes here q mid made next other (same ∙ sym own_state.1)) ∙ there))
      by_member there (inr others) = meets_here w m state (sym (member_stays w k m (outcome step w k c) others.1) ∙ there)

      by_keys : (keys : List Key) (rows : List R) (u : World S C) → Run step end early keys rows u → get u.members m ≡ Some state → MeetsState step end w m state
      by_keys [] rows u run there = by_member (ap (λ (x : World S C). get x.members m) (sym run.0) ∙ there) (eqb_tells k.to m)
      by_keys (l ∷ keys) rows u run there =
          let one = one_step step later end early run.0 both l q run.1 made run.4 q_next in
          then_met (record { keys = keys; rows = run.2; world = u; run = subst (λ x. Run step end x keys run.2 u) one.1 run.5; there = there })

    pub met_before : (w v : World S C) (k : Key) (made : List R) (m : ℕ) (state : S) → TestedStep step Test w k v made → MeetsState step end v m state → MeetsState step end w m state
    met_before w v k made m state is met =
        by_turns step later own end Test offers MeetsBack
        (λ w k c in_time next m state. meets_later w _ k _ m state in_time next)
        (λ w k c passes here q mid made next other in_time rest m state met. by_keys w k c passes here q mid made next other in_time rest m state met.keys met.rows met.world met.run met.there)
        w k is.content is.passes is.here m state (subst (λ u. MeetsState step end u m state) is.world met)

    -- so is what is met after a schedule
    pub met_by_schedule : (ks : List Key) (w v : World S C) (rows : List R) (m : ℕ) (state : S) → Schedule step Test w ks rows v → MeetsState step end v m state → MeetsState step end w m state
    met_by_schedule [] w v rows m state is met = subst (λ u. MeetsState step end u m state) is.0 met
    met_by_schedule (k ∷ ks) w v rows m state is met = met_before w is.0 k is.1 m state is.3 (met_by_schedule ks is.0 v is.2 m state is.4 met)

    pub met_after : (ks : List Key) (w v : World S C) (rows : List R) (m : ℕ) (state : S) → Schedule step Test w ks rows v → get v.members m ≡ Some state → MeetsState step end w m state
    met_after ks w v rows m state is there = met_by_schedule ks w v rows m state is (meets_here v m state there)
