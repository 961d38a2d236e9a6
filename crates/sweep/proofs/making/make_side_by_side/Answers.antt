use denote.Param.Send.{sendable}
use Rattle.std.proofs.Common.{◌≤◌, ap, ◌∙◌, map, subst, sym}
use Rattle.std.proofs.Crossing.{crosses}
use Rattle.std.specs.List.{AllZip}
use Rattle.rayon.specs.Lists.{min_len_base}
use Rattle.rayon.proofs.ListFacts.{AllZip-through, IfOk-then}
use Rattle.rayon.proofs.ToStd.{slice-AllZip}
use Rattle.toml.specs.View.{view}
use Rattle.sweep_plan.specs.Sweep.{run_count}
use Rattle.sweep.specs.Shares.{numbers_of}
use Rattle.sweep.specs.declared.shares.Share.{Share}
use Rattle.sweep.specs.Table.{IsMadeLot, IsMadeOf}
use Rattle.sweep.proofs.Sharing.{lists_of}
use Rattle.sweep.proofs.making.make_side_by_side.Goals as goal

pub returns : goal.returns
returns g c =
    let tree = view c.args.document.now in
    let plan = c.args.plan.now in
    let key = c.args.key.now in
    let shares = c.args.shares.now in
    let h = c.in_ok-lots.ensures in
    let chain = rw c.map.ensures.f at h.1 in
    let slice = ap (λ it. it.slice.now) (ap min_len_base c.map.ensures.base ∙ c.with_min_len.ensures.base) ∙ c.par_iter.ensures in
    let made : AllZip (λ share lot. IsMadeLot tree plan key (numbers_of share) lot) shares c.in_ok-lots.lots.items =
    rw h.2 (slice-AllZip chain.0 shares (chain.1 ∙ slice) (λ share lot. IsMadeLot tree plan key (numbers_of share) lot) h.0 chain.2) in
    let lots = AllZip-through numbers_of (λ share lot. IsMadeLot tree plan key (numbers_of share) lot) (IsMadeLot tree plan key) (λ share lot is. is) shares c.in_ok-lots.lots.items made in
    IfOk-then c.joined_runs.result _ _ c.joined_runs.ensures (λ runs go.
    subst (λ l. AllZip (IsMadeOf tree plan key) l runs.items) (lists_of numbers_of shares) (go tree plan key (map numbers_of shares) lots))

-- each share has runs of the sweep
pub collect-requires-clause-ready : goal.collect-requires-clause-ready
collect-requires-clause-ready g c κs within =
    let shared = c.type_bounds.sync-P in
    rw (c.map.ensures.base, c.map.ensures.f, c.with_min_len.ensures.base, c.par_iter.ensures)
    (λ k d lt share same. (((c.requires.asked, c.requires.judged, subst (λ (s : Share). s.till ≤ run_count c.args.plan.now) (sym same) (c.requires.within k d lt)), search (crosses, sendable) depth 40 fits 20000), λ y p. tt))
