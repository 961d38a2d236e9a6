-- the first has its place before the others are made
use Rattle.std.proofs.Common.{◌≡◌, ◌∙◌, List, ℕ, Option, Some, true, ap}
use Rattle.files.specs.Memory.{has_place}
use Rattle.files.proofs.KeptLemmas.{placed, where_placed}
use Rattle.files.proofs.testing.MemoryFiles.empty_three.Goals as goal

pub returns-in_err-hold_place-clause-others : goal.returns-in_err-hold_place-clause-others
returns-in_err-hold_place-clause-others c other _ _ _ = ap (λ (held : List ℕ → Option (List ℕ)). held other) c.in_err-hold_place.ensures.same

pub returns-in_err-empty_both-clause-others : goal.returns-in_err-empty_both-clause-others
returns-in_err-empty_both-clause-others c other _ _ _ =
    ap (λ (held : List ℕ → Option (List ℕ)). held other) (c.in_err-empty_both.ensures.same ∙ c.in_ok-hold_place.ensures.same)

pub returns-clause-empty : goal.returns-clause-empty
returns-clause-empty c =
    let first = c.args.first.now in
    let there : has_place c.empty_both.new.self first ≡ true =
    c.empty_both.ensures.places first (placed c.hold_place.new.self c.in_ok-hold_place.field-0 first c.in_ok-hold_place.ensures.held) in
    where_placed c.store.result c.empty_both.new.self first c.store.ensures.stored c.store.ensures.there there ∙ ap Some c.new.ensures.items

pub returns-clause-others : goal.returns-clause-others
returns-clause-others c other differs differs_second differs_third =
    c.store.ensures.others other differs ∙ (c.empty_both.ensures.others other differs_second differs_third
    ∙ ap (λ (held : List ℕ → Option (List ℕ)). held other) c.in_ok-hold_place.ensures.same)
