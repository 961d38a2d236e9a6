use Rattle.std.proofs.Common.{◌≡◌, ℕ, ◌+◌, ◌<◌, List, length, get_or, take, sym, subst, arith}
use Rattle.std.proofs.lemmas.List.{get_or_read, take_all}
use Rattle.partitioning.specs.Sites.{AreJoined, AreSiteNumbers, IsJoined}
use Rattle.partitioning.proofs.Neighbours.{all_written, alone, none_joined, one_more}
use Rattle.partitioning.proofs.sites.sites_of_groups.Goals as goal

pub loop-first-init : goal.loop-first-init
loop-first-init c =
    let sites = c.in_ok-sites.sites.items in
    (alone sites c.in_ok-sites.ensures, none_joined c.args.cluster.scenario.now c.args.ticks c.args.firsts.now sites c.in_ok-sites.ensures)

pub loop-first-preserved : goal.loop-first-preserved
loop-first-preserved c =
    let s = c.args.cluster.scenario.now in
    let ticks = c.args.ticks in
    let firsts = c.args.firsts.now in
    let next = c.loop-first.first-index in
    let sites = c.loop-first.sites.items in
    let after = c.join_neighbours.new.sites in
    let numbers = c.join_neighbours.ensures.numbers in
    let within : next < length firsts = c.loop-first-test.true in
    let same : c.first-item.result ≡ get_or firsts next 0 = get_or_read firsts next c.first-item.result within c.first-item.is 0 in
    let lent : c.deref_mut.result.now ≡ sites = c.deref_mut.ensures.value in
    let here : IsJoined s ticks firsts (get_or firsts next 0) sites after =
    subst (λ m. IsJoined s ticks firsts m sites after) same (subst (λ (xs : List ℕ). IsJoined s ticks firsts c.first-item.result xs after) lent c.join_neighbours.ensures.joined) in
    let each : length sites ≡ length after = omega (arith, c.loop-first.invariant.0.each, numbers.each) in
    subst (λ (xs : List ℕ). AreSiteNumbers xs × AreJoined s ticks firsts (take (next + 1) firsts) xs) (sym (all_written sites after c.loop-first.sites.len (omega arith) each))
    (numbers, one_more s ticks firsts next sites after within c.loop-first.invariant.1 here)

pub returns-clause-joined : goal.returns-clause-joined
returns-clause-joined c =
    let firsts = c.args.firsts.now in
    let all : take c.loop-first.first-index firsts ≡ firsts = take_all c.loop-first.first-index firsts (omega (arith, c.loop-first-test.false)) in
    subst (λ (xs : List ℕ). AreJoined c.args.cluster.scenario.now c.args.ticks firsts xs c.loop-first.sites.items) all c.loop-first.invariant.1
