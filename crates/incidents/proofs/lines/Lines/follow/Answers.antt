use Rattle.std.proofs.Common.{◌∙◌, map, sym, arith}
use Rattle.trace_rows.proofs.Outcomes.{on_ok}
use Rattle.incidents.specs.Returns.{returns_in}
use Rattle.incidents.specs.Lines.{and_later}
use Rattle.incidents.proofs.Listing.{lines_kept, lines_with}
use Rattle.incidents.proofs.lines.Lines.follow.Goals as goal

pub see-requires-clause-kept : goal.see-requires-clause-kept
see-requires-clause-kept c = (c.requires.kept.0, returns_in c.requires.kept.1, c.requires.kept.2)

pub begin-requires : goal.begin-requires
begin-requires c = omega (arith, c.requires.member, c.see.ensures.room)

pub returns-then-has_kind : goal.returns-then-has_kind
returns-then-has_kind c =
    on_ok c.begin.result (λ added count rows few low are.
    lines_with c.begin.new.self count rows c.args.row.now (sym c.has_kind.ensures ∙ c.if-has_kind.true)
    (added count rows (map (and_later c.args.row.now) (returns_in rows)) (c.see.ensures.seen count (returns_in rows) few low are))) c.begin.ensures

pub returns : goal.returns
returns c count rows few low are =
    lines_kept c.see.new.self count rows c.args.row.now (sym c.has_kind.ensures ∙ c.if-has_kind.false) (c.see.ensures.seen count (returns_in rows) few low are)
