-- A run that comes to its end in a world in which no counter is past its limit wore nothing out.
use Rattle.std.proofs.Common.{◌≡◌, ℕ, Bool, true, false, cond, List, [], ◌∷◌, Option, Some, None, ap, ◌∙◌, sym, subst, refl}
use Rattle.std.specs.Option.{option_map}
use Rattle.std.specs.Cmp.{nat_cmp_total}
use Rattle.std.specs.Ordering.{nat_cmp, eq_by_cmp}
use Rattle.std.specs.FinMap.{get, get-insert}
use Rattle.std.proofs.lemmas.Option.{same_Some}
use Rattle.std.proofs.lemmas.Map.Lookups.{exact_unsigned}
use Rattle.std.proofs.lemmas.Map.Views.{tells_apart}
use Rattle.base.specs.declared.key.Key.{Key}
use Rattle.base.specs.World.{IsOver, Run, NextStep, settled}
use Rattle.scenario.specs.Setup.{Setup, IsSound}
use Rattle.trace.specs.declared.row.Row.{Row}
use Rattle.member.specs.State.{State}
use Rattle.member.specs.Step.{step}
use Rattle.member.specs.Opening.{opening}
use Rattle.member.specs.CounterOverflow.{IsOverflowed}
use Rattle.member.proofs.Fair.{steps_later}
use Rattle.member_laws.specs.Runs.{Cluster, IsSoundCluster, CounterOverflows}
use Rattle.member_laws.proofs.Reached.{consistent_reached, pending_among}
use Rattle.windows.proofs.Members.{sound_stays}
use Rattle.turns.proofs.ProcessWearing.{overflow_stays}
use Rattle.turns.proofs.Ends.{one_end, end_there, end_before}

module _ (s : Setup) (sound : IsSound s) where
  overflow_next : (w v : Cluster) (k : Key) (made : List Row) (m : ℕ) (t : State) → IsSoundCluster s w → NextStep (step s) w k v made → get w.members m ≡ Some t → IsOverflowed t
      → (u : State) × (get v.members m ≡ Some u) × IsOverflowed u
  overflow_next w v k made m t fact next here overflow = subst (λ (x : Cluster). (u : State) × (get x.members m ≡ Some u) × IsOverflowed u) (sym next.world) (by_receiver (get w.members k.to) refl)
    where
      by_test : (r : State) (b : Bool) → get w.members k.to ≡ Some r → eq_by_cmp nat_cmp m k.to ≡ b
          → (u : State) × (cond b (Some (step s k next.content r).state) (get w.members m) ≡ Some u) × IsOverflowed u
      by_test r true receiver e =
          let same : t ≡ r = same_Some t r (sym here ∙ ap (get w.members) (tells_apart exact_unsigned m k.to e) ∙ receiver) in
          ((step s k next.content r).state, refl, overflow_stays s k next.content r (fact.states k.to r receiver).waits (subst IsOverflowed same overflow))
      by_test r false receiver e = (t, here, overflow)

      by_receiver : (o : Option State) → get w.members k.to ≡ o → (u : State) × (get (settled w k (option_map (step s k next.content) o)).members m ≡ Some u) × IsOverflowed u
      by_receiver None none = (t, here, overflow)
      by_receiver (Some r) receiver =
          let is = by_test r (eq_by_cmp nat_cmp m k.to) receiver refl in
          (is.0, get-insert nat_cmp_total w.members k.to (step s k next.content r).state m ∙ is.1, is.2)

  overflow_to_end : (ks : List Key) (w v : Cluster) (rows : List Row) (m : ℕ) (t : State) → IsSoundCluster s w → Run (step s) s.end w ks rows v → get w.members m ≡ Some t → IsOverflowed t
      → (u : State) × (get v.members m ≡ Some u) × IsOverflowed u
  overflow_to_end [] w v rows m t fact run here overflow = (t, ap (λ (x : Cluster). get x.members m) run.0 ∙ here, overflow)
  overflow_to_end (k ∷ ks) w v rows m t fact run here overflow =
      let mid = subst (IsSoundCluster s) (sym run.4.world) (sound_stays s sound w k run.4.content fact run.4.here run.3) in
      let next = overflow_next w run.0 k run.1 m t fact run.4 here overflow in
      overflow_to_end ks run.0 v run.2 m next.0 mid run.5 next.1 next.2

  pub reached_sound : (keys : List Key) (rows : List Row) (w : Cluster) → Run (step s) s.end (opening s) keys rows w → IsSoundCluster s w
  reached_sound keys rows w run = record {
    states = λ m t here. consistent_reached s sound w m t (keys, rows, run) here;
    events = λ k c here. pending_among s sound w k c (keys, rows, run) here;
  }

  pub wears_nothing : (all : List Key) (rows : List Row) (world : Cluster) → Run (step s) s.end (opening s) all rows world → IsOver s.end world
      → ((m : ℕ) (t : State) → get world.members m ≡ Some t → ¬ (IsOverflowed t)) → ¬ (CounterOverflows s)
  wears_nothing all rows world run over no_overflow out =
      let later = steps_later s sound in
      let rest = end_there (step s) s.end later out.world in
      let same = one_end (step s) s.end later (opening s) rest.0 world (end_before (step s) s.end out.keys (opening s) out.world rest.0 out.rows out.reached rest.1)
      (record { keys = all; rows = rows; run = run; over = over }) in
      let there = overflow_to_end rest.1.keys out.world rest.0 rest.1.rows out.number out.member (reached_sound out.keys out.rows out.world out.reached) rest.1.run out.there out.overflow in
      no_overflow out.number there.0 (ap (λ (x : Cluster). get x.members out.number) (sym same) ∙ there.1) there.2
