use Rattle.std.proofs.Common.{◌≡◌, ◌<◌, ◌≤◌, ℕ, length, get_or, ap, ◌∙◌, rules, arith}
use Rattle.std.proofs.lemmas.Grind.{common_steps}
use Rattle.std.proofs.lemmas.List.{get_or_read, get_or-replicate}
use Rattle.partitioning.specs.Parts.{members_at}
use Rattle.partitioning.proofs.Evenly.{empty_places, evenly, one_part_more}
use Rattle.partitioning.proofs.folding.places_of.Goals as goal

pub loop-size-init : goal.loop-size-init
loop-size-init c = (
  omega (arith, c.in_ok-filled.ensures.len),
  omega (arith, c.new-places.ensures.len),
  first_of (search rules, grind (arith, common_steps)),
  first_of (search rules, grind (arith, common_steps)),
  rw c.new-places.ensures.items
      (empty_places c.args.most c.args.division.now c.in_ok-filled.filled.items (λ k low. ap (λ xs. get_or xs k 0) (c.in_ok-filled.ensures.items_if_clones_equal (search rules)) ∙ get_or-replicate c.args.most k 0 0 low)),
)

pub loop-size-preserved : goal.loop-size-preserved
loop-size-preserved c =
    let deal = c.args.division.now in
    let sizes = c.in_ok-sizes.sizes.items in
    let filled = c.loop-size.filled.items in
    let places = c.loop-size.places.items in
    let part = c.loop-size.size-index in
    let place = c.least_of-place.result in
    let each : length filled ≡ c.args.most = omega (arith, c.loop-size.invariant.0) in
    let lent : c.deref.result.now ≡ filled = c.deref.ensures.value in
    let all : c.deref-size-items.result.now ≡ sizes = c.deref-size-items.ensures.value in
    let inside : place < c.args.most = omega (arith, c.least_of-place.ensures.within, ap length lent, each) in
    let fewest : c.index_mut.result.now ≡ get_or filled place 0 = get_or_read filled place c.index_mut.result.now (omega (arith, inside, each)) c.index_mut.ensures.value 0 in
    let least : (k : ℕ) → k < c.args.most → get_or filled place 0 ≤ get_or filled k 0 =
    λ k low. omega (arith, c.least_of-place.ensures.least k (omega (arith, low, each, ap length lent)), ap (λ xs. get_or xs place 0) lent, ap (λ xs. get_or xs k 0) lent) in
    let within : part < length sizes = omega (arith, c.loop-size-test.true, ap length all) in
    let size : get_or c.deref-size-items.result.now part 0 ≡ members_at deal (λ p. p) (length places) =
    ap (λ xs. get_or xs part 0) all ∙ c.in_ok-sizes.ensures.counted part within ∙ ap (members_at deal (λ p. p)) (omega (arith, c.loop-size.invariant.1)) in (
      omega (arith, c.loop-size.invariant.0),
      omega (arith, c.in_ok-push.ensures.len, c.loop-size.invariant.1),
      first_of (search rules, grind (arith, common_steps)),
      first_of (search rules, grind (arith, common_steps)),
      one_part_more c.args.most deal filled places c.push.new.self.items place c.index_mut.result.now (get_or c.deref-size-items.result.now part 0) inside each fewest least size c.in_ok-push.ensures.items c.loop-size.invariant.4,
    )

pub returns-clause-even : goal.returns-clause-even
returns-clause-even c =
    evenly c.args.most c.args.division.now c.loop-size.filled.items c.loop-size.places.items
    (omega (arith, c.loop-size-test.false, c.loop-size.auto.size-index-end, c.loop-size.invariant.1, ap length c.deref-size-items.ensures.value, c.in_ok-sizes.ensures.each)) c.loop-size.invariant.4
