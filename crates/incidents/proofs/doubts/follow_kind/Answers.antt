use Rattle.std.proofs.Common.{◌∙◌, sym}
use Rattle.trace_rows.specs.Rows.{has_kind}
use Rattle.incidents.specs.Views.{views}
use Rattle.incidents.specs.Flags.{is_up_in}
use Rattle.incidents.specs.Pairs.{has}
use Rattle.trace_rows.proofs.Outcomes.{on_ok}
use Rattle.incidents.proofs.Holding.{dropped_one, kept_one, heard_one, unheard-silent, unheard-none}
use Rattle.incidents.proofs.doubts.follow_kind.Goals as goal

pub drop_first-requires : goal.drop_first-requires
drop_first-requires c off = c.requires.silent (sym c.is_up.ensures ∙ off)

pub returns-then-is_turn-clause-doubts : goal.returns-then-is_turn-clause-doubts
returns-then-is_turn-clause-doubts c a b =
    c.drop_first.ensures.dropped a b
    ∙ dropped_one views c.args.row.now (is_up_in c.args.lives.now) (λ _ _. has_kind c.args.kind c.args.row.now) (has c.args.doubts.now) (sym c.is_turn.ensures ∙ c.if-is_turn.true) a b

pub returns-then-not-is_heard-clause-doubts : goal.returns-then-not-is_heard-clause-doubts
returns-then-not-is_heard-clause-doubts c =
    kept_one views c.args.row.now (is_up_in c.args.lives.now) (λ _ _. has_kind c.args.kind c.args.row.now) (has c.args.doubts.now) (sym c.is_turn.ensures ∙ c.if-is_turn.false)
    (unheard-silent views c.args.row.now (is_up_in c.args.lives.now) (sym c.is_heard.ensures ∙ c.if-not-is_heard.true))

pub returns-in-Some-clause-doubts : goal.returns-in-Some-clause-doubts
returns-in-Some-clause-doubts c =
    on_ok c.put.result (λ put a b. put a b
    ∙ heard_one views c.args.row.now (is_up_in c.args.lives.now) _ c.has_kind.result (λ _ _. has_kind c.args.kind c.args.row.now) (has c.args.doubts.now)
    (sym c.is_turn.ensures ∙ c.if-is_turn.false) (sym c.is_heard.ensures ∙ c.if-not-is_heard.false) c.in-Some.is (sym c.has_kind.ensures) a b) c.put.ensures.put

pub returns-in-None-clause-doubts : goal.returns-in-None-clause-doubts
returns-in-None-clause-doubts c =
    kept_one views c.args.row.now (is_up_in c.args.lives.now) (λ _ _. has_kind c.args.kind c.args.row.now) (has c.args.doubts.now) (sym c.is_turn.ensures ∙ c.if-is_turn.false)
    (unheard-none views c.args.row.now (is_up_in c.args.lives.now) c.in-None.is)
