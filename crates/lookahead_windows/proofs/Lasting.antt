-- Where all parts have come to the end, the run has, and no counter is past its limit.
use Rattle.std.proofs.Common.{◌≡◌, ℕ, ◌+◌, ◌<◌, cond, List, [], Option, None, ap, ◌∙◌, sym, refl, arith}
use Rattle.std.specs.Option.{is_some}
use Rattle.std.specs.Cmp.{nat_cmp_total}
use Rattle.std.specs.FinMap.{get, nat_cmp-IsAntisymmetric}
use Rattle.std.proofs.lemmas.Bool.{eq-eqb, ltb-true}
use Rattle.std.proofs.lemmas.List.Elements.{All-from_recursion}
use Rattle.base.specs.declared.key.Key.{Key}
use Rattle.base.specs.World.{Run, IsOver}
use Rattle.base.proofs.Rising.{all_weaker}
use Rattle.scenario.specs.Setup.{member_count}
use Rattle.trace.specs.declared.row.Row.{Row}
use Rattle.member.specs.Opening.{opening}
use Rattle.member.specs.Step.{step}
use Rattle.member_laws.specs.Runs.{Cluster}
use Rattle.windows.specs.Parts.{part_of, is_in}
use Rattle.windows.proofs.Cuts.{get_retained}
use Rattle.lookahead_windows.specs.Before.{IsWorldBefore}
use Rattle.lookahead_windows.specs.Plan.{Plan, IsPlan}
use Rattle.lookahead_windows.specs.Starts.{IsUpTo, IsRound, HasRunTo}
use Rattle.lookahead_windows.specs.Lots.{IsNotOverflowed, HasLasted}
use Rattle.lookahead_windows.proofs.Worlds.{opening_before}
use Rattle.lookahead_windows.proofs.Bounded.{clear_before}
use Rattle.lookahead_windows.proofs.Turns.{one_at, whole_at}
use Rattle.lookahead_windows.proofs.Reached.{led, some_run_to, run_to_in_time}

-- where nothing is left up to the end, the round's world is that before the moment after the end
pub over_world : (plan : Plan) (is : IsPlan plan) (round : ℕ) (w : Cluster) (first : Option ℕ) → IsRound plan round w first → IsUpTo first (plan.setup.end + 1) → IsWorldBefore plan.setup (plan.setup.end + 1) w
over_world plan is round w first begun past =
    let to = led plan is round w begun.world in
    clear_before plan.setup is.sound plan.division is.ways.between is.ways.lies 0 (plan.setup.end + 1) (opening plan.setup) w to.keys to.rows
    ([], [], opening_before plan.setup 0 (λ q here. omega arith)) (omega arith) to.schedule
    (All-from_recursion (λ (k : Key). k.at < plan.setup.end + 1) to.keys
    (all_weaker (λ (k : Key). (t : ℕ) → HasRunTo plan round (plan.division k.to) t → k.at < t) (λ (k : Key). k.at < plan.setup.end + 1)
    (λ k less.
    let from = some_run_to plan is round (plan.division k.to) in
    let sooner = less from.0 from.1 in
    let high = run_to_in_time plan is round (plan.division k.to) from.0 from.1 in
    omega (arith, sooner, high)) to.keys to.early))
    ((begun.pends (plan.setup.end + 1)).1 past)

-- a member's state in its part
member_kept : (division : ℕ → ℕ) (u : Cluster) (m : ℕ) → get (part_of (is_in division (division m)) u).members m ≡ get u.members m
member_kept division u m =
    get_retained nat_cmp_total nat_cmp-IsAntisymmetric (is_in division (division m)) u.members m ∙ ap (λ b. cond b (get u.members m) None) (eq-eqb (division m) (division m) refl)

module _ (plan : Plan) (is : IsPlan plan) (round : ℕ) (lasted : (m : ℕ) → m < member_count plan.setup → HasLasted plan (plan.division m) round) where
  -- the first member's part
  abbrev one : HasLasted plan (plan.division 0) round
  one = lasted 0 is.sound.members.0

  abbrev world : Cluster
  world = one.begins.world

  over_there : IsOver plan.setup.end world
  over_there q here = let past = (one.begins.in_round.pends (plan.setup.end + 1)).1 one.past q here in omega arith

  no_overflow_there : IsNotOverflowed world
  no_overflow_there m t here =
      let whole = whole_at plan is round world one.begins.in_round.world in
      let own = lasted m (ltb-true m (member_count plan.setup) (sym (whole.peopled m) ∙ ap is_some here)) in
      let same = (one_at plan is round own.begins.world world own.first one.first own.begins.in_round one.begins.in_round).0 in
      own.no_overflow m t (ap (λ (x : Cluster). get x.members m) own.begins.cut ∙ member_kept plan.division own.begins.world m ∙ ap (λ (x : Cluster). get x.members m) same ∙ here)

  end_there : (keys : List Key) × (rows : List Row) × (w : Cluster) × Run (step plan.setup) plan.setup.end (opening plan.setup) keys rows w × IsOver plan.setup.end w × IsNotOverflowed w
  end_there =
      let before = over_world plan is round world one.first one.begins.in_round one.past in
      (before.0, before.1, world, before.2.run, over_there, no_overflow_there)

pub world_of_end : (plan : Plan) (round : ℕ) → IsPlan plan → ((m : ℕ) → m < member_count plan.setup → HasLasted plan (plan.division m) round)
    → (keys : List Key) × (rows : List Row) × (w : Cluster) × Run (step plan.setup) plan.setup.end (opening plan.setup) keys rows w × IsOver plan.setup.end w × IsNotOverflowed w
world_of_end plan round is lasted = end_there plan is round lasted
