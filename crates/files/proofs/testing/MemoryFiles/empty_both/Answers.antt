-- once both names have their places, nothing is refused
use Rattle.std.proofs.Common.{◌≡◌, ◌∙◌, List, ℕ, Option, Some, true, ap, sym}
use Rattle.files.specs.Memory.{has_place}
use Rattle.files.proofs.KeptLemmas.{placed, where_placed}
use Rattle.files.proofs.testing.MemoryFiles.empty_both.Goals as goal

pub returns-in_err-hold_place-clause-others : goal.returns-in_err-hold_place-clause-others
returns-in_err-hold_place-clause-others c other _ _ = ap (λ (held : List ℕ → Option (List ℕ)). held other) c.in_err-hold_place.ensures.same

pub returns-in_err-hold_place-2-clause-others : goal.returns-in_err-hold_place-2-clause-others
returns-in_err-hold_place-2-clause-others c other _ _ =
    ap (λ (held : List ℕ → Option (List ℕ)). held other) (c.in_err-hold_place-2.ensures.same ∙ c.in_ok-hold_place.ensures.same)

pub returns-clause-empty : goal.returns-clause-empty
returns-clause-empty c =
    let first = c.args.first.now in
    let there : has_place c.hold_place-2.new.self first ≡ true =
    c.in_ok-hold_place-2.ensures.places first (placed c.hold_place.new.self c.in_ok-hold_place.field-0 first c.in_ok-hold_place.ensures.held) in
    c.store-2.ensures.others first (λ e. c.requires.differ (sym e)) ∙ (where_placed c.store.result c.hold_place-2.new.self first c.store.ensures.stored c.store.ensures.there there ∙ ap Some c.new.ensures.items)

pub returns-clause-empty_too : goal.returns-clause-empty_too
returns-clause-empty_too c =
    let second = c.args.second.now in
    let there : has_place c.store.new.self second ≡ true =
    c.store.ensures.places second (placed c.hold_place-2.new.self c.in_ok-hold_place-2.field-0 second c.in_ok-hold_place-2.ensures.held) in
    where_placed c.store-2.result c.store.new.self second c.store-2.ensures.stored c.store-2.ensures.there there ∙ ap Some c.new-2.ensures.items

pub returns-clause-others : goal.returns-clause-others
returns-clause-others c other differs differs_too =
    c.store-2.ensures.others other differs_too ∙ (c.store.ensures.others other differs
    ∙ ap (λ (held : List ℕ → Option (List ℕ)). held other) (c.in_ok-hold_place-2.ensures.same ∙ c.in_ok-hold_place.ensures.same))
