use Rattle.std.proofs.Common.{◌≡◌, ℕ, ◌+◌, ◌<◌, List, length, get_or, map, take, sym, ap, ◌∙◌, subst, arith}
use Rattle.std.proofs.lemmas.List.{get_or_read, take_all}
use Rattle.std.proofs.lemmas.List.Elements.{All-nil}
use Rattle.scenario.specs.Setup.{group_at, member_count}
use Rattle.windows.specs.Cluster.{link_delay}
use Rattle.partitioning.specs.Sites.{AreSiteNumbers, IsJoined, joined_site}
use Rattle.partitioning.proofs.Joining.{agree_now, agreed_before, still_numbers}
use Rattle.partitioning.proofs.Neighbours.{joined_too, passed_over}
use Rattle.partitioning.proofs.sites.join_neighbours.Goals.{then-delay-ticks, else-delay-ticks}
use Rattle.partitioning.proofs.sites.join_neighbours.Goals as goal

pub loop-other-init : goal.loop-other-init
loop-other-init c =
    let s = c.args.cluster.scenario.now in (
      c.requires.numbers,
      λ mark. (
        (λ agrees. (agrees, All-nil (λ other. link_delay s c.args.first other < c.args.ticks → mark (group_at s.groups c.args.first) ≡ mark (group_at s.groups other)))),
        (λ both. both.0),
      ),
    )

pub loop-other-preserved : goal.loop-other-preserved
loop-other-preserved c =
    let s = c.args.cluster.scenario.now in
    let ticks = c.args.ticks in
    let firsts = c.args.firsts.now in
    let first = c.args.first in
    let before = c.args.sites.now in
    let next = c.loop-other.other-index in
    let sites = c.loop-other.sites in
    let numbers = c.loop-other.invariant.0 in
    let so_far = c.loop-other.invariant.1 in
    let within : next < length firsts = c.loop-other-test.true in
    let same : c.other-item.result ≡ get_or firsts next 0 = get_or_read firsts next c.other-item.result within c.other-item.is 0 in
    let there : get_or firsts next 0 < member_count s = c.requires.firsts.members next 0 within in
    let high : group_at s.groups (get_or firsts next 0) < 64 = c.requires.firsts.looked_at next 0 within in
    let delay : c.delay.result ≡ link_delay s first c.other-item.result = c.delay.ensures.value s c.args.cluster.fits c.requires.member (omega (arith, same, there)) in
    let length_of : c.delay.result ≡ link_delay s first (get_or firsts next 0) = delay ∙ ap (link_delay s first) same in
    elim c.if-delay-ticks.branch [
      | then-delay-ticks w ↦
          let after = w.join.new.sites in
          let of_first : c.group_number-group.result ≡ group_at s.groups first = c.group_number-group.ensures in
          let of_other : w.group_number.result ≡ group_at s.groups (get_or firsts next 0) = w.group_number.ensures ∙ ap (group_at s.groups) same in
          let moved : after ≡ map (joined_site (get_or sites (group_at s.groups first) 0) (get_or sites (group_at s.groups (get_or firsts next 0)) 0)) sites =
          w.join.ensures ∙ ap (λ g. map (joined_site (get_or sites g 0) (get_or sites w.group_number.result 0)) sites) of_first
          ∙ ap (λ g. map (joined_site (get_or sites (group_at s.groups first) 0) (get_or sites g 0)) sites) of_other in
          let low = c.requires.looked_at in
          let from = group_at s.groups first in
          let to = group_at s.groups (get_or firsts next 0) in
          subst (λ (xs : List ℕ). AreSiteNumbers xs × IsJoined s ticks (take (next + 1) firsts) first before xs) (sym w.sites-is) (
            still_numbers from to sites after numbers low high moved,
            joined_too s ticks firsts first next before sites within so_far after (omega (arith, length_of, w.if-delay-ticks.true))
                (agreed_before from to sites after numbers low high moved) (agree_now from to sites after numbers low high moved),
          )
      | else-delay-ticks w ↦
          subst (λ (xs : List ℕ). AreSiteNumbers xs × IsJoined s ticks (take (next + 1) firsts) first before xs) (sym w.sites-is) (
            numbers,
            passed_over s ticks firsts first next before sites within so_far (λ short. absurd (omega (arith, length_of, short, w.if-delay-ticks.false))),
          )
    ]

pub returns-clause-joined : goal.returns-clause-joined
returns-clause-joined c =
    let s = c.args.cluster.scenario.now in
    let firsts = c.args.firsts.now in
    let all : take c.loop-other.other-index firsts ≡ firsts = take_all c.loop-other.other-index firsts (omega (arith, c.loop-other-test.false)) in
    subst (λ (xs : List ℕ). IsJoined s c.args.ticks xs c.args.first c.args.sites.now c.loop-other.sites) all c.loop-other.invariant.1
