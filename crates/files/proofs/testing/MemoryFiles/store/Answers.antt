-- the bytes at the place of the name
use Rattle.std.proofs.Common.{◌≡◌, ◌∙◌, List, ℕ, Option, Some, position, true, ap}
use Rattle.files.specs.Memory.{has_name}
use Rattle.files.proofs.KeptLemmas.{name_at, places_replaced, replaced, replaced_others}
use Rattle.files.proofs.testing.MemoryFiles.store.Goals as goal

pub returns-in_err-place-clause-others : goal.returns-in_err-place-clause-others
returns-in_err-place-clause-others c other differs = ap (λ (held : List ℕ → Option (List ℕ)). held other) c.in_err-place.ensures.same

pub returns-clause-stored : goal.returns-clause-stored
returns-clause-stored c =
    let name = c.args.name.now in
    let kept = c.hold_place.new.self.kept.items in
    let old = c.index_mut.result.now in
    let at : position (has_name name) kept ≡ Some c.in_ok-place.place = c.in_ok-place.ensures.held in
    let named : has_name name old ≡ true = ap (has_name name) c.index_mut.ensures.value ∙ name_at kept c.in_ok-place.place old name at in
    replaced kept c.in_ok-place.place (record { name = old.name; bytes = Some c.args.bytes }) name at named

pub returns-clause-others : goal.returns-clause-others
returns-clause-others c other differs =
    let name = c.args.name.now in
    let kept = c.hold_place.new.self.kept.items in
    let old = c.index_mut.result.now in
    let at : position (has_name name) kept ≡ Some c.in_ok-place.place = c.in_ok-place.ensures.held in
    let named : has_name name old ≡ true = ap (has_name name) c.index_mut.ensures.value ∙ name_at kept c.in_ok-place.place old name at in
    replaced_others kept c.in_ok-place.place (record { name = old.name; bytes = Some c.args.bytes }) name other at named differs
    ∙ ap (λ (held : List ℕ → Option (List ℕ)). held other) c.in_ok-place.ensures.same

pub returns-clause-places : goal.returns-clause-places
returns-clause-places c other there =
    let name = c.args.name.now in
    let kept = c.hold_place.new.self.kept.items in
    let old = c.index_mut.result.now in
    let at : position (has_name name) kept ≡ Some c.in_ok-place.place = c.in_ok-place.ensures.held in
    let named : has_name name old ≡ true = ap (has_name name) c.index_mut.ensures.value ∙ name_at kept c.in_ok-place.place old name at in
    places_replaced kept c.in_ok-place.place (record { name = old.name; bytes = Some c.args.bytes }) name other at named (c.in_ok-place.ensures.places other there)
