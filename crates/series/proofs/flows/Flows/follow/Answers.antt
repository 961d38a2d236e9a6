use Rattle.std.proofs.Common.{◌≡◌, ◌+◌, ◌==◌, ◌&&◌, cond, sym, ap, ◌∙◌}
use Rattle.std.specs.Prelude.{slice_index, slice_set}
use Rattle.series.specs.Grid.{count_at}
use Rattle.series.proofs.Flowing.{unmoved, moved, few_came, few_went, read_at}
use Rattle.series.proofs.flows.Flows.follow.Goals as goal

pub returns-then-before-state-clause-follows : goal.returns-then-before-state-clause-follows
returns-then-before-state-clause-follows c states changes low are =
    let items = c.args.self.now.states.items in
    let here : slice_index items c.args.member ≡ c.index-before.result.now = read_at items c.index-place.result c.args.member c.index-before.result.now c.index-place.ensures c.requires.can.room.members c.index-before.ensures in
    unmoved states c.args.self.now changes c.args.member c.args.state c.args.span are (here ∙ c.if-before-state.true)

pub raise-requires-clause-by_one : goal.raise-requires-clause-by_one
raise-requires-clause-by_one c = few_came c.requires.can.states c.args.self.now c.requires.can.changes c.from.result c.args.span c.requires.can.told c.requires.can.few c.requires.span

pub raise-requires-2-clause-by_one : goal.raise-requires-2-clause-by_one
raise-requires-2-clause-by_one c = few_went c.requires.can.states c.args.self.now c.requires.can.changes _ c.args.span c.requires.can.told c.requires.can.few c.requires.span

pub returns-clause-follows : goal.returns-clause-follows
returns-clause-follows c states changes low are =
    let old = c.args.self.now in
    let before = c.index-before.result.now in
    let here : slice_index old.states.items c.args.member ≡ before = read_at old.states.items c.index-place.result c.args.member before c.index-place.ensures c.requires.can.room.members c.index-before.ensures in
    moved states old _ changes c.args.member c.args.state c.args.span before are low c.requires.can.room.members (sym here) c.if-before-state.false
    (ap (λ p. slice_set old.states.items p c.args.state) c.index-place.ensures)
    (λ t k small. c.raise.ensures.raised t k small ∙ ap (λ x. count_at old.came t k + cond (t == x && k == c.args.span) 1 0) c.from.ensures)
    (λ t k small. c.raise-2.ensures.raised t k small ∙ ap (λ x. count_at old.went t k + cond (t == x && k == c.args.span) 1 0) c.from-2.ensures)
