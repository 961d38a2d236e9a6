use Rattle.std.proofs.Common.{◌≡◌, ◌<◌, ℕ, List, sym, subst, length, get_or, arith}
use Rattle.scenario.specs.Division.{Deal}
use Rattle.partitioning.specs.Sites.{AreJoined, AreSites, group_for}
use Rattle.partitioning.proofs.Marks.{are_sites}
use Rattle.partitioning.proofs.sites.by_sites.Goals as goal

pub returns : goal.returns
returns c =
    let s = c.args.cluster.scenario.now in
    let ticks = c.args.ticks in
    let firsts = c.in_ok-firsts.firsts.items in
    let sites = c.in_ok-sites.sites.items in
    let part_of = c.in_ok-part_of.part_of.items in
    let joined : AreJoined s ticks firsts firsts sites = subst (λ (xs : List ℕ). AreJoined s ticks xs xs sites) c.deref.ensures.value c.in_ok-sites.ensures.joined in
    let by_group : (m : ℕ) → m < length part_of → get_or part_of m 0 ≡ get_or sites (group_for s m) 0 =
    subst (λ (xs : List ℕ). (m : ℕ) → m < length part_of → get_or part_of m 0 ≡ get_or xs (group_for s m) 0) c.deref-2.ensures.value c.in_ok-part_of.ensures.by_group in
    subst (λ (deal : Deal). AreSites s ticks deal.part_of) (sym c.divided.ensures)
    (are_sites s ticks firsts sites part_of c.in_ok-firsts.ensures joined (omega (arith, c.in_ok-part_of.ensures.each)) by_group)
