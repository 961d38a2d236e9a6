use Rattle.table_rows.proofs.by_settings.push_summary.Goals as goal

pub returns : goal.returns
returns c = λ notes kept. (c.in_ok-summary.summary, c.in_ok-summary.ensures notes kept, c.in_ok-push.ensures.items)
