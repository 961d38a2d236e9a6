use Rattle.std.proofs.Common.{◌≡◌, ◌<◌, ◌≤◌, ◌^◌, Bool, true, false, nat_lt, subst, sym, ap, ◌∙◌, arith}
use Rattle.std.proofs.lemmas.Bool.Decides.{nat_tests}
use Rattle.scenario.specs.Setup.{Setup, is_blocked, IsSound}
use Rattle.scenario.specs.Spells.{is_in_any}
use Rattle.scenario.specs.Naps.{naps_at}
use Rattle.scenario.proofs.Pauses.{as_found, awake_is, awake_small, small_by, with_blocks, free_is}
use Rattle.scenario.proofs.scenario.Scenario.free.Goals as goal

pub returns-clause-value : goal.returns-clause-value
returns-clause-value c =
    let s = with_blocks c.args.self.now in
    let found = c.free_at.ensures in
    sym (sym (free_is c.args.self.now c.args.member c.args.moment) ∙ awake_is s c.args.member c.args.moment c.free_at.result
    (as_found s (naps_at c.as_slice.result.now c.index.result) c.args.member c.index.result c.args.moment c.ticks.result c.free_at.result
    (λ v. ap (λ naps. is_in_any (naps_at naps c.index.result) v) c.as_slice.ensures.value ∙ c.self.invariant.stops c.index.result v ∙ ap (λ (t : Setup). is_blocked t c.index.result v) c.self.view_is)
    c.index.ensures c.ticks.ensures found.later found.before found.there))

pub returns-clause-later : goal.returns-clause-later
returns-clause-later c = omega (arith, c.free_at.ensures.later, c.ticks.ensures)

pub returns-clause-put_off : goal.returns-clause-put_off
returns-clause-put_off c = λ put_off.
    let s = with_blocks c.args.self.now in
    let found = c.free_at.ensures in
    awake_small s (subst IsSound c.self.view_is c.self.invariant.sound).blocks c.args.member c.args.moment c.free_at.result
    (as_found s (naps_at c.as_slice.result.now c.index.result) c.args.member c.index.result c.args.moment c.ticks.result c.free_at.result
    (λ v. ap (λ naps. is_in_any (naps_at naps c.index.result) v) c.as_slice.ensures.value ∙ c.self.invariant.stops c.index.result v ∙ ap (λ (t : Setup). is_blocked t c.index.result v) c.self.view_is)
    c.index.ensures c.ticks.ensures found.later found.before found.there) put_off

pub returns-clause-small : goal.returns-clause-small
returns-clause-small c =
    let s = with_blocks c.args.self.now in
    let found = c.free_at.ensures in
    small_by s (subst IsSound c.self.view_is c.self.invariant.sound).blocks c.args.member c.args.moment c.free_at.result
    (as_found s (naps_at c.as_slice.result.now c.index.result) c.args.member c.index.result c.args.moment c.ticks.result c.free_at.result
    (λ v. ap (λ naps. is_in_any (naps_at naps c.index.result) v) c.as_slice.ensures.value ∙ c.self.invariant.stops c.index.result v ∙ ap (λ (t : Setup). is_blocked t c.index.result v) c.self.view_is)
    c.index.ensures c.ticks.ensures found.later found.before found.there)

pub returns-clause-sound : goal.returns-clause-sound
returns-clause-sound c = subst IsSound c.self.view_is c.self.invariant.sound
