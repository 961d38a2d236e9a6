use Rattle.std.proofs.Common.{◌≡◌, ◌≢◌, ℕ, List, Some, None, length, map, ap, sym, subst, ◌∙◌, arith}
use Rattle.toml.specs.View.{view}
use Rattle.expansion.specs.Verdict.{rule_of}
use Rattle.script_reader.specs.Who.{member_total}
use Rattle.written_entries.specs.Ranges.{AreInRange}
use Rattle.written_names.specs.Roster.{group_of}
use Rattle.written_schema.specs.Lowest.{no_rule}
use Rattle.expanded_text.specs.Rule.{starts_of, IfRefused, IsDocumentRule}
use Rattle.expanded_text.proofs.Judged.{all_members, broken_lists, entries_rule, few_read, refused_lists}
use Rattle.expanded_text.proofs.entries.plain_entries_of.Goals as goal

pub expand_script-requires-clause-members : goal.expand_script-requires-clause-members
expand_script-requires-clause-members c =
    let written = c.args.written.now in
    let groups = written.groups.items in
    let count : length c.as_slice-2.result.now ≡ member_total groups =
    ap (λ (l : List ℕ). length l) c.as_slice-2.ensures.value ∙ all_members c.as_slice.result.now groups _ c.as_slice.ensures.value c.in_ok-starts.ensures.count in
    omega (arith, count, few_read written.tick (view c.args.document.now) (map group_of groups) groups written.script c.requires.read)

pub expand_script-requires-clause-ranges : goal.expand_script-requires-clause-ranges
expand_script-requires-clause-ranges c =
    let groups = c.args.written.now.groups.items in
    let count : length c.as_slice-2.result.now ≡ member_total groups =
    ap (λ (l : List ℕ). length l) c.as_slice-2.ensures.value ∙ all_members c.as_slice.result.now groups _ c.as_slice.ensures.value c.in_ok-starts.ensures.count in
    subst (λ (n : ℕ). AreInRange n c.args.written.now.script) (sym count) c.requires.read.range

pub returns-in-Ok-clause-kept : goal.returns-in-Ok-clause-kept
returns-in-Ok-clause-kept c =
    let starts : c.as_slice-2.result.now ≡ starts_of c.args.written.now.groups.items =
    c.as_slice-2.ensures.value ∙ c.in_ok-starts.ensures.starts ∙ ap starts_of c.as_slice.ensures.value in
    entries_rule (view c.args.document.now) c.args.written.now c.requires c.as_slice-2.result.now c.number-seed.result None starts c.number-seed.ensures c.in-Ok.ensures.kept

pub returns-clause-refused : goal.returns-clause-refused
returns-clause-refused c =
    let d = view c.args.document.now in
    let starts : c.as_slice-2.result.now ≡ starts_of c.args.written.now.groups.items =
    c.as_slice-2.ensures.value ∙ c.in_ok-starts.ensures.starts ∙ ap starts_of c.as_slice.ensures.value in
    subst (IfRefused (IsDocumentRule d)) (sym c.error_of.ensures)
    (refused_lists (IsDocumentRule d) c.in-Err.refusal
    (λ other. entries_rule d c.args.written.now c.requires c.as_slice-2.result.now c.number-seed.result (Some (rule_of c.in-Err.refusal)) starts c.number-seed.ensures
    (c.in-Err.ensures.refused other)))

pub returns-clause-broken : goal.returns-clause-broken
returns-clause-broken c = subst (IfRefused (λ (rule : ℕ). rule ≢ no_rule)) (sym c.error_of.ensures) (broken_lists c.in-Err.refusal)
