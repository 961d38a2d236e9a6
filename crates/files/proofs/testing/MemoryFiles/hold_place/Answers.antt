-- a place that was there, or one at the end
use Rattle.std.proofs.Common.{◌≡◌, ◌∙◌, List, ℕ, Some, None, find, is_some, position, length, ap, sym, refl, rules}
use Rattle.std.proofs.Math.Path.{fun_ext}
use Rattle.files.specs.declared.testing.Kept.{Kept}
use Rattle.files.specs.Memory.{bytes_under, has_name}
use Rattle.files.proofs.KeptLemmas.{has_own_name, place_added, place_at_end, places_after, unplaced}
use Rattle.files.proofs.testing.MemoryFiles.hold_place.Goals as goal

pub returns-clause-held : goal.returns-clause-held
returns-clause-held c =
    let name = c.args.name.now in
    let kept = c.args.self.now.kept.items in
    let file : Kept = record { name = c.in_ok-name.name; bytes = None } in
    let named = has_own_name file name (search rules) in
    let none : position (has_name name) kept ≡ None = search rules in
    let place : c.len-place.result ≡ length kept = search rules in
    ap (position (has_name name)) c.in_ok-push.ensures.items ∙ (place_at_end kept file name none named ∙ ap Some (sym place))

pub returns-clause-same : goal.returns-clause-same
returns-clause-same c =
    let kept = c.args.self.now.kept.items in
    let file : Kept = record { name = c.in_ok-name.name; bytes = None } in
    fun_ext (λ (other : List ℕ). ap (λ (files : List Kept). bytes_under files other) c.in_ok-push.ensures.items ∙ place_added kept file other refl)

pub returns-in_err-name-clause-there : goal.returns-in_err-name-clause-there
returns-in_err-name-clause-there c =
    let none = unplaced c.args.self.now c.args.name.now (search rules) in
    search rules

pub returns-in_err-push-clause-there : goal.returns-in_err-push-clause-there
returns-in_err-push-clause-there c =
    let none = unplaced c.args.self.now c.args.name.now (search rules) in
    search rules

pub returns-clause-places : goal.returns-clause-places
returns-clause-places c other there =
    let file : Kept = record { name = c.in_ok-name.name; bytes = None } in
    ap (λ (files : List Kept). is_some (find (has_name other) files)) c.in_ok-push.ensures.items ∙ places_after c.args.self.now.kept.items file other there
