use Rattle.std.proofs.Common.{◌≡◌, ◌∙◌, ◌++◌, ◌∷◌, ◌==◌, [], length, ap, subst, rules}
use Rattle.std.specs.Prelude.{if◌then◌else◌}
use Rattle.trace_rows.proofs.Outcomes.{on_ok}
use Rattle.incidents.specs.Kept.{placed}
use Rattle.incidents.specs.Lines.{IsLineOf}
use Rattle.incidents.specs.OpenPlaces.{places_of}
use Rattle.incidents.proofs.Listing.{lines_added}
use Rattle.incidents.proofs.lines.Lines.begin.Goals as goal

pub returns : goal.returns
returns c =
    let row = c.args.row.now in
    let old = c.args.self.now in
    let places = places_of old.open_places in
    let last : c.len-place.result ≡ length old.lines.items = search rules in
    on_ok c.add.result (λ added count rows returns are.
    let first = subst (λ n. IsLineOf n c.in_ok-line.line (placed rows row)) (c.members.ensures ∙ are.room) (c.in_ok-line.ensures rows) in
    lines_added old _ c.in_ok-line.line count returns (placed rows row) are first c.in_ok-push_line.ensures c.add.ensures.room
    (λ m. added m ∙ ap (λ n. if row.member == m then places m ++ n ∷ [] else places m) last)) c.add.ensures.added
