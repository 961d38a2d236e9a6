use Rattle.std.proofs.Common.{◌∙◌, List, All, map, flat_map, ap, sym, subst, codes, string_bytes}
use Rattle.std.specs.List.{AllZip}
use Rattle.toml.specs.View.{view}
use Rattle.scenario.specs.Setup.{names_in}
use Rattle.plain_document.specs.Order.{sections_of}
use Rattle.plain_text.specs.Document.{document_of, expression_of, IsPlainLine}
use Rattle.plain_text.specs.Lines.{text_of}
use Rattle.plain_text.specs.declared.line.PlainLine.{PlainLine}
use Rattle.written_groups.specs.Groups.{IsExtraIn}
use Rattle.written_groups.specs.Values.{items_at}
use Rattle.written_names.specs.Roster.{group_of}
use Rattle.written_names.specs.declared.roster.WrittenGroup.{WrittenGroup}
use Rattle.expanded_text.proofs.Texts.{text_stands}
use Rattle.expanded_text.proofs.text.text_in_order.Goals as goal

pub returns : goal.returns
returns c =
    let d = view c.args.document.now in
    let written = c.args.written.now in
    let groups = written.groups.items in
    let whole = c.as_slice-lines.ensures.value in
    text_stands (sections_of c.args.order.now) d written.tick groups written.script (string_bytes c.in_ok-text.text) _
    (record {
      lines = c.in_ok-made_lines.made_lines.items;
      plain = c.in_ok-made_lines.ensures;
      whole = c.in_ok-text.ensures.text ∙ ap text_of whole;
      reads = λ plain. c.in_ok-text.ensures.read (subst (All IsPlainLine) (sym whole) plain) ∙ ap (λ (lines : List PlainLine). document_of (map expression_of lines)) whole;
    })
    c.requires.written.says c.requires.written.read
    (record {
      entries = c.requires.plain;
      names =
          ap (map string_bytes) c.as_slice-names.ensures.value ∙ c.in_ok-made_names.ensures
          ∙ ap (flat_map (λ (group : WrittenGroup). names_in (group_of group))) c.as_slice-groups.ensures.value;
      extras = subst (AllZip (IsExtraIn written.tick) (items_at (codes "slow") d)) (sym c.as_slice-extras.ensures.value) c.in_ok-made_extras.ensures;
    })
