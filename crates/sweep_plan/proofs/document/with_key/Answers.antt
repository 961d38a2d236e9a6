use Rattle.std.proofs.Common.{sym, ap, ◌∙◌}
use Rattle.toml.specs.Data.{table}
use Rattle.toml.specs.View.{view, members_view}
use Rattle.toml.proofs.Views.{view-Table}
use Rattle.sweep_plan.specs.Document.{put, with_key}
use Rattle.sweep_plan.proofs.Members.{members_view-insert_entry}
use Rattle.sweep_plan.proofs.document.with_key.Goals as goal

pub returns-in_ok-insert-in-Table : goal.returns-in_ok-insert-in-Table
returns-in_ok-insert-in-Table c =
    let members = c.in-Table.members in
    let name = c.in_ok-name-in-Table.name in
    let value = view c.args.value in
    let named = c.in_ok-name-in-Table.ensures.ok ∙ c.text.ensures in
    view-Table c.insert.new.self
    ∙ ap table (ap members_view c.in_ok-insert-in-Table.ensures.entries ∙ members_view-insert_entry members.entries name c.args.value ∙ ap (λ bytes. put bytes value (members_view members.entries)) named)
    ∙ sym (ap (λ v. with_key c.args.key value (view v)) c.in-Table.is ∙ ap (with_key c.args.key value) (view-Table members))
