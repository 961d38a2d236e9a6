-- A clear event may be handled before its turn, as a safe one; and below their horizons the parts may run by themselves.
use Rattle.std.proofs.Common.{◌≡◌, ◌≢◌, ◌⊎◌, ℕ, ◌+◌, ◌<◌, ◌≤◌, true, false, eqb, List, [], ◌∷◌, Some, ap, ◌∙◌, sym, subst, refl, arith, inl, inr}
use Rattle.std.specs.Option.{is_some}
use Rattle.std.specs.List.{AllByRecursion}
use Rattle.std.specs.FinMap.{get}
use Rattle.std.proofs.lemmas.Bool.Decides.{eqb_tells}
use Rattle.base.specs.declared.key.Key.{Key}
use Rattle.base.specs.Order.{IsBefore, moments-from_before, same_key}
use Rattle.base.specs.World.{Machine, World, settled, events_of, outcome, NextStep}
use Rattle.base.specs.Run.{MakesLater}
use Rattle.base.proofs.Rising.{all_weaker}
use Rattle.windows.specs.Schedule.{OffersEarly}
use Rattle.windows.specs.Parts.{OffersWindows}
use Rattle.windows.specs.Horizon.{Walk, length_of, walk_length, AreHorizons, KeepsBetween, IsClearIn}
use Rattle.windows.proofs.Early.{content_stays, events_later, least_no_later, unlike_later}
use Rattle.windows.proofs.Safety.{holds_after, holds_made}
use Rattle.windows.proofs.Far.{all_both}

module _ (division : ℕ → ℕ) (HasMembers : ℕ → Type 0) (between : ℕ → ℕ → ℕ) where
  -- what a handled event makes: later, for a part with members, and for another part by what lies between
  abbrev pub Comes : Key → Key → Type 0
  Comes k e = (k.at < e.at) × HasMembers (division e.to) × (division e.to ≢ division k.to → k.at + between (division k.to) (division e.to) ≤ e.at)

  -- no walk of what is made is shorter than the walks of what was handled
  module _ (limit part : ℕ) (k : Key) (people : HasMembers (division k.to)) (clear : (walk : Walk HasMembers (division k.to) part) → limit ≤ k.at + length_of between walk) where
    by_part : (e : Key) → Comes k e → (walk : Walk HasMembers (division e.to) part)
        → ((eqb (division k.to) (division e.to) ≡ true) × (division k.to ≡ division e.to)) ⊎ ((eqb (division k.to) (division e.to) ≡ false) × (division k.to ≢ division e.to))
        → limit ≤ e.at + length_of between walk
    by_part e comes walk (inl same) =
        let own = clear (record { next = walk.next; rest = walk.rest; begins = people; apart = (λ back. walk.apart.0 (sym same.1 ∙ back), walk.apart.1, walk.apart.2); ends = walk.ends }) in
        let there : limit ≤ k.at + length_of between walk = subst (λ p. limit ≤ k.at + walk_length between p (walk.next ∷ walk.rest)) same.1 own in
        let after = comes.0 in
        omega arith
    by_part e comes walk (inr apart) =
        let far = comes.2 (λ back. apart.1 (sym back)) in
        let longer = clear (record { next = division e.to; rest = walk.next ∷ walk.rest; begins = people; apart = (apart.1, walk.begins, walk.apart); ends = walk.ends }) in
        omega arith

    pub still_clear : (e : Key) → Comes k e → (walk : Walk HasMembers (division e.to) part) → limit ≤ e.at + length_of between walk
    still_clear e comes walk = by_part e comes walk (eqb_tells (division k.to) (division e.to))

    -- and to another part it comes after the limit
    pub comes_past : (e : Key) → Comes k e → division e.to ≡ part → division k.to ≢ part → limit ≤ e.at
    comes_past e comes same other =
        let far = comes.2 (λ back. other (sym back ∙ same)) in
        let direct = clear (record { next = division e.to; rest = []; begins = people; apart = (λ back. other (back ∙ same), comes.1, tt); ends = same }) in
        omega arith

module _ {S C R : Type 0} (step : Machine S C R) (later : MakesLater step) (end : ℕ) (division : ℕ → ℕ) (HasMembers : ℕ → Type 0) (between : ℕ → ℕ → ℕ) (Fact : World S C → Type 0)
    (keeps : KeepsBetween end division HasMembers between Fact step) where
  made_comes : (w : World S C) (k : Key) (c : C) → Fact w → get w.pending k ≡ Some c → k.at ≤ end → AllByRecursion (λ e. Comes division HasMembers between k e.0) (events_of (outcome step w k c))
  made_comes w k c fact here in_time =
      all_weaker _ (λ e. Comes division HasMembers between k e.0) (λ e h. (h.0, h.1.0, h.1.1)) (events_of (outcome step w k c))
      (all_both (λ e. k.at < e.0.at) (λ e. HasMembers (division e.0.to) × (division e.0.to ≢ division k.to → k.at + between (division k.to) (division e.0.to) ≤ e.0.at)) (events_of (outcome step w k c))
      (events_later step later w k c) (keeps.far w k c fact here in_time))

  module _ (w v : World S C) (k q : Key) (made : List R) (is : IsClearIn end division HasMembers between Fact w k) (next : NextStep step w q v made) (other : q ≢ k) where
    in_time : q.at ≤ end
    in_time = let low = least_no_later step w v k q made next is.0.first.here in let h = is.0.in_time in omega arith

    -- the least of all is of another part
    parts_differ : division q.to ≢ division k.to
    parts_differ same = other (same_key q k (is.0.first.least q (ap is_some next.here) same) (next.least k is.0.first.here))

    comes : AllByRecursion (λ e. Comes division HasMembers between q e.0) (events_of (outcome step w q next.content))
    comes = made_comes w q next.content is.1 next.here in_time

    people : HasMembers (division q.to)
    people = keeps.peopled w q is.1 (ap is_some next.here)

    -- one for k's part comes after k
    past : (e : Key) → Comes division HasMembers between q e → division e.to ≡ division k.to → k.at < e.at
    past e h same =
        let late = comes_past division HasMembers between (k.at + 1) (division k.to) q people (λ walk. let clear = is.0.clear q (ap is_some next.here) walk in omega arith) e h same parts_differ in
        omega arith

    untouched : AllByRecursion (λ e. e.0.to ≡ k.to → k.at < e.0.at) (events_of (outcome step w q next.content))
    untouched = all_weaker _ (λ e. e.0.to ≡ k.to → k.at < e.0.at) (λ e h same. past e.0 h (ap division same)) (events_of (outcome step w q next.content)) comes

    stays : IsClearIn end division HasMembers between Fact v k
    stays = (
      record {
        first = record {
          here =
              ap is_some
              (ap (λ (u : World S C). get u.pending k) next.world
              ∙ content_stays w q k (outcome step w q next.content) other (unlike_later k (events_of (outcome step w q next.content)) untouched)) ∙ is.0.first.here;
          least = holds_after step (λ r. division r.to ≡ division k.to → ¬ (IsBefore r k)) w v q made next is.0.first.least
              (all_weaker _ (λ e. division e.0.to ≡ division k.to → ¬ (IsBefore e.0 k)) (λ e h same before. let after = past e.0 h same in let low = moments-from_before e.0 k before in omega arith)
              (events_of (outcome step w q next.content)) comes);
        };
        in_time = is.0.in_time;
        clear = holds_after step (λ r. (walk : Walk HasMembers (division r.to) (division k.to)) → k.at < r.at + length_of between walk) w v q made next is.0.clear
            (all_weaker _ (λ e. (walk : Walk HasMembers (division e.0.to) (division k.to)) → k.at < e.0.at + length_of between walk)
            (λ e h walk. let longer = still_clear division HasMembers between (k.at + 1) (division k.to) q people (λ walk. let h = is.0.clear q (ap is_some next.here) walk in omega arith) e.0 h walk in omega arith)
            (events_of (outcome step w q next.content)) comes);
      },
      subst Fact (sym next.world) (keeps.stays w q next.content is.1 next.here in_time),
    )

  -- an event that is clear may be handled before its turn
  pub clear_offers : OffersEarly step end (IsClearIn end division HasMembers between Fact)
  clear_offers = record {
    first = λ w k is. record { here = is.0.first.here; least = λ q here same. is.0.first.least q here (ap division same) };
    in_time = λ w k is. is.0.in_time;
    stays = λ w v k q made is next other. stays w v k q made is next other;
    untouched = λ w v k q made is next other. untouched w v k q made is next other;
  }

  -- a clear step lowers no horizon
  module _ (bounds : ℕ → ℕ) (w : World S C) (k : Key) (c : C) (horizons : AreHorizons end division HasMembers between bounds w) (fact : Fact w) (here : get w.pending k ≡ Some c) (in_time : k.at ≤ end) where
    kept_horizons : AreHorizons end division HasMembers between bounds (settled w k (outcome step w k c))
    kept_horizons = record {
      in_time = horizons.in_time;
      clear = λ part. holds_made step (λ r. (walk : Walk HasMembers (division r.to) part) → bounds part ≤ r.at + length_of between walk) w k c (horizons.clear part)
          (all_weaker _ (λ e. (walk : Walk HasMembers (division e.0.to) part) → bounds part ≤ e.0.at + length_of between walk)
          (λ e h walk. still_clear division HasMembers between (bounds part) part k (keeps.peopled w k fact (ap is_some here)) (horizons.clear part k (ap is_some here)) e.0 h walk)
          (events_of (outcome step w k c)) (made_comes w k c fact here in_time));
    }

    far_made_here : AllByRecursion (λ e. division e.0.to ≢ division k.to → bounds (division e.0.to) ≤ e.0.at) (events_of (outcome step w k c))
    far_made_here =
        all_weaker _ (λ e. division e.0.to ≢ division k.to → bounds (division e.0.to) ≤ e.0.at)
        (λ e h other. comes_past division HasMembers between (bounds (division e.0.to)) (division e.0.to) k (keeps.peopled w k fact (ap is_some here))
        (horizons.clear (division e.0.to) k (ap is_some here)) e.0 h refl (λ same. other (sym same)))
        (events_of (outcome step w k c)) (made_comes w k c fact here in_time)

  -- below horizons the parts may run by themselves
  pub horizons_offer : (bounds : ℕ → ℕ) → OffersWindows division bounds (IsClearIn end division HasMembers between Fact) (λ w. Fact w × AreHorizons end division HasMembers between bounds w) step
  horizons_offer bounds = record {
    passes = λ w k ready first early. (
      record {
        first = first;
        in_time = let h = ready.1.in_time (division k.to) in omega arith;
        clear = λ q here walk. let h = ready.1.clear (division k.to) q here walk in omega arith;
      },
      ready.0,
    );
    stays = λ w k c ready passes here. (keeps.stays w k c ready.0 here passes.0.in_time, kept_horizons bounds w k c ready.1 ready.0 here passes.0.in_time);
    far = λ w k c ready passes here. far_made_here bounds w k c ready.1 ready.0 here passes.0.in_time;
  }
