-- The windows of the parts of a world, in any order, are a schedule of safe steps.
use Rattle.std.proofs.Common.{◌≡◌, ◌≢◌, ℕ, ◌<◌, ◌≤◌, Bool, true, false, not, nat_eq, cond, List, [], ◌∷◌, Option, Some, None, ap, ◌∙◌, sym, subst, refl, arith}
use Rattle.std.specs.Option.{is_some, option_map}
use Rattle.std.specs.List.{AllByRecursion}
use Rattle.std.specs.Cmp.{nat_cmp_total}
use Rattle.std.specs.FinMap.{get, contains_key, nat_cmp-IsAntisymmetric}
use Rattle.std.proofs.lemmas.Bool.{false≢true, false_from_ne_true, eqb-true}
use Rattle.std.proofs.lemmas.List.Elements.{filter-append}
use Rattle.base.specs.declared.key.Key.{Key}
use Rattle.base.specs.Order.{IsBefore, key_total, key_exact, moments-from_before}
use Rattle.base.specs.World.{Machine, World, IsPending, settled, rows_of, events_of, outcome, Outcome}
use Rattle.base.specs.Run.{holds-with_events}
use Rattle.base.proofs.Rising.{all_append, all_weaker}
use Rattle.windows.specs.Delays.{SendsAsItself}
use Rattle.windows.specs.Schedule.{TestedStep, Schedule}
use Rattle.windows.specs.Parts.{part_of, for_own, for_others, with_arrivals, kept_by, PartStep, PartRun, is_in, OffersWindows}
use Rattle.windows.proofs.Swaps.{NoneIs}
use Rattle.windows.proofs.Early.{get-with_events, events_own}
use Rattle.windows.proofs.Cuts.{get_retained, part_settled, part_settled_other, events_kept, settled_joined, joined_joined, all_kept, own_of_sent}

-- a value that is kept is of a kept key
pub kept_value : {X : Type 0} (o : Option X) (x : X) (b mine : Bool) → mine ≡ b → cond b o None ≡ Some x → (mine ≡ true) × (o ≡ Some x)
kept_value o x true mine e is = (e, is)
kept_value o x false mine e is = absurd (false≢true (ap is_some is))

module _ {S C R : Type 0} (step : Machine S C R) (own : SendsAsItself step) (division bounds : ℕ → ℕ) (Test : World S C → Key → Type 0) (Ready : World S C → Type 0)
    (offers : OffersWindows division bounds Test Ready step) where
  module _ (part : ℕ) (extra : List (Key × C)) (late : AllByRecursion (λ e. bounds part ≤ e.0.at) extra) (strange : AllByRecursion (λ e. is_in division part e.0.from ≡ false) extra) where
    abbrev owns : ℕ → Bool
    owns = is_in division part

    -- Where the steps of a part have led the world. The part is as its steps leave it, with the events that had
    -- come before, and what they made for others has come to these.
    pub record Led (u after : World S C) (keys : List Key) (out : List (Key × C)) (rows : List R) : Type 0 where
      pub world : World S C
      pub schedule : Schedule step Test u keys rows world
      pub ready : Ready world
      pub cut : part_of owns world ≡ with_arrivals after extra
      pub others : (mine : ℕ → Bool) → ((m : ℕ) → mine m ≡ true → owns m ≡ false) → part_of mine world ≡ with_arrivals (part_of mine u) (for_own mine out)
      pub far : AllByRecursion (λ e. bounds (division e.0.to) ≤ e.0.at) out
      pub from : AllByRecursion (λ e. owns e.0.from ≡ true) out

    module _ (u p mid : World S C) (k : Key) (sent : List (Key × C)) (made : List R) (ready : Ready u) (cut : part_of owns u ≡ with_arrivals p extra) (is : PartStep step owns (bounds part) p k sent made mid) where
      out_there : Option (Outcome S C R)
      out_there = outcome step u k is.content

      not_extra : NoneIs k extra
      not_extra =
          all_weaker _ (λ e. e.0 ≢ k) (λ e past same. let early = is.early in let at : e.0.at ≡ k.at = ap (λ (q : Key). q.at) same in omega arith) extra late

      found : (owns k.to ≡ true) × (get u.pending k ≡ Some is.content)
      found =
          kept_value (get u.pending k) is.content (owns k.to) (owns k.to) refl
          (sym (get_retained key_total key_exact (λ q. owns q.to) u.pending k) ∙ ap (λ (x : World S C). get x.pending k) cut ∙ get-with_events extra p.pending k not_extra ∙ is.here)

      same_outcome : outcome step u k is.content ≡ outcome step p k is.content
      same_outcome =
          ap (option_map (step k is.content))
          (ap (λ b. cond b (get u.members k.to) None) (sym found.0)
          ∙ sym (get_retained nat_cmp_total nat_cmp-IsAntisymmetric owns u.members k.to) ∙ ap (λ (x : World S C). get x.members k.to) cut)

      home : division k.to ≡ part
      home = eqb-true (division k.to) part found.0

      least_there : (q : Key) → IsPending u q → division q.to ≡ division k.to → ¬ (IsBefore q k)
      least_there q here same =
          let kept : IsPending (part_of owns u) q =
          ap is_some (get_retained key_total key_exact (λ r. owns r.to) u.pending q ∙ ap (λ b. cond b (get u.pending q) None) (ap (λ n. nat_eq n part) same ∙ found.0)) ∙ here in
          holds-with_events (λ r. ¬ (IsBefore r k)) extra p.pending is.least
          (all_weaker _ (λ e. ¬ (IsBefore e.0 k)) (λ e past before. let early = is.early in let h = moments-from_before e.0 k before in omega arith) extra late)
          q (subst (λ (x : World S C). contains_key x.pending q ≡ true) cut kept)

      passes_there : Test u k
      passes_there = offers.passes u k ready (record { here = ap is_some found.1; least = least_there }) (subst (λ n. k.at < bounds n) (sym home) is.early)

      abbrev led : World S C
      led = settled u k (outcome step u k is.content)

      step_there : TestedStep step Test u k led made
      step_there = record { content = is.content; here = found.1; passes = passes_there; world = refl; made = is.made ∙ ap rows_of (sym same_outcome) }

      ready_there : Ready led
      ready_there = offers.stays u k is.content ready passes_there found.1

      -- the part's own events and those that have come to it have different senders
      unlike_extra : AllByRecursion (λ e. NoneIs e.0 (events_of (option_map (kept_by owns) (outcome step p k is.content)))) extra
      unlike_extra =
          subst (λ l. AllByRecursion (λ e. NoneIs e.0 l) extra) (sym (events_kept owns (outcome step p k is.content)))
          (all_weaker _ (λ e. NoneIs e.0 (for_own owns (events_of (outcome step p k is.content))))
          (λ e other. all_weaker _ (λ f. f.0 ≢ e.0)
          (λ f h same. false≢true (sym other ∙ ap (λ (q : Key). owns q.from) (sym same) ∙ ap owns h.1 ∙ found.0))
          (for_own owns (events_of (outcome step p k is.content)))
          (all_kept (λ e. owns e.0.to) (λ e. e.0.from ≡ k.to) (events_of (outcome step p k is.content)) (events_own step own p k is.content)))
          extra strange)

      part_there : part_of owns led ≡ with_arrivals mid extra
      part_there =
          part_settled owns u k (outcome step u k is.content) found.0
          ∙ ap (λ x. settled x k (option_map (kept_by owns) (outcome step u k is.content))) cut
          ∙ ap (λ o. settled (with_arrivals p extra) k (option_map (kept_by owns) o)) same_outcome
          ∙ settled_joined p k (option_map (kept_by owns) (outcome step p k is.content)) extra not_extra unlike_extra
          ∙ ap (λ x. with_arrivals x extra) (sym is.world)

      others_there : (mine : ℕ → Bool) → ((m : ℕ) → mine m ≡ true → owns m ≡ false) → part_of mine led ≡ with_arrivals (part_of mine u) (for_own mine sent)
      others_there mine apart =
          part_settled_other mine u k (outcome step u k is.content) (false_from_ne_true (mine k.to) (λ h. false≢true (sym (apart k.to h) ∙ found.0)))
          ∙ ap (λ l. with_arrivals (part_of mine u) l)
          (ap (λ o. for_own mine (events_of o)) same_outcome ∙ sym (own_of_sent owns mine apart (events_of (outcome step p k is.content))) ∙ ap (for_own mine) (sym is.sent))

      other_part : (e : Key) → not (owns e.to) ≡ true → division e.to ≢ division k.to
      other_part e out same = false≢true (sym (ap not (ap (λ n. nat_eq n part) same ∙ found.0)) ∙ out)

      far_there : AllByRecursion (λ e. bounds (division e.0.to) ≤ e.0.at) sent
      far_there =
          let far = subst (λ o. AllByRecursion (λ e. division e.0.to ≢ division k.to → bounds (division e.0.to) ≤ e.0.at) (events_of o)) same_outcome (offers.far u k is.content ready passes_there found.1) in
          subst (AllByRecursion (λ e. bounds (division e.0.to) ≤ e.0.at)) (sym is.sent)
          (all_weaker _ (λ e. bounds (division e.0.to) ≤ e.0.at) (λ e h. h.1 (other_part e.0 h.0))
          (for_others owns (events_of (outcome step p k is.content)))
          (all_kept (λ e. not (owns e.0.to)) (λ e. division e.0.to ≢ division k.to → bounds (division e.0.to) ≤ e.0.at) (events_of (outcome step p k is.content)) far))

      from_there : AllByRecursion (λ e. owns e.0.from ≡ true) sent
      from_there =
          subst (AllByRecursion (λ e. owns e.0.from ≡ true)) (sym is.sent)
          (all_weaker _ (λ e. owns e.0.from ≡ true) (λ e h. ap owns h.1 ∙ found.0)
          (for_others owns (events_of (outcome step p k is.content))) (all_kept (λ e. not (owns e.0.to)) (λ e. e.0.from ≡ k.to) (events_of (outcome step p k is.content)) (events_own step own p k is.content)))

    -- the steps of a part are steps of the world
    pub leads : (keys : List Key) (u p after : World S C) (out : List (Key × C)) (rows : List R) → Ready u → part_of owns u ≡ with_arrivals p extra
        → PartRun step owns (bounds part) p keys out rows after → Led u after keys out rows
    leads [] u p after out rows ready cut run = record {
      world = u;
      schedule = (refl, run.2);
      ready = ready;
      cut = cut ∙ ap (λ x. with_arrivals x extra) (sym run.0);
      others = λ mine apart. ap (λ l. with_arrivals (part_of mine u) (for_own mine l)) (sym run.1);
      far = subst (AllByRecursion (λ e. bounds (division e.0.to) ≤ e.0.at)) (sym run.1) tt;
      from = subst (AllByRecursion (λ e. owns e.0.from ≡ true)) (sym run.1) tt;
    }
    leads (k ∷ keys) u p after out rows ready cut run =
        let mid = run.0 in
        let sent = run.1 in
        let made = run.3 in
        let is = run.5 in
        let rest = leads keys (led u p mid k sent made ready cut is) mid after run.2 run.4 (ready_there u p mid k sent made ready cut is) (part_there u p mid k sent made ready cut is) run.6 in
        record {
          world = rest.world;
          schedule = (led u p mid k sent made ready cut is, made, run.4, step_there u p mid k sent made ready cut is, rest.schedule, run.8);
          ready = rest.ready;
          cut = rest.cut;
          others = λ mine apart.
              rest.others mine apart
              ∙ ap (λ x. with_arrivals x (for_own mine run.2)) (others_there u p mid k sent made ready cut is mine apart)
              ∙ joined_joined (part_of mine u) (for_own mine sent) (for_own mine run.2)
              ∙ ap (with_arrivals (part_of mine u)) (sym (filter-append _ sent run.2) ∙ ap (for_own mine) (sym run.7));
          far = subst (AllByRecursion (λ e. bounds (division e.0.to) ≤ e.0.at)) (sym run.7) (all_append _ sent run.2 (far_there u p mid k sent made ready cut is) rest.far);
          from = subst (AllByRecursion (λ e. owns e.0.from ≡ true)) (sym run.7) (all_append _ sent run.2 (from_there u p mid k sent made ready cut is) rest.from);
        }
