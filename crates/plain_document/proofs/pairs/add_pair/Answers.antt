use Rattle.std.proofs.Common.{◌≡◌, ◌++◌, ◌∷◌, [], Some, None, option_map, map, ap, sym, subst, ◌∙◌}
use Rattle.std.proofs.lemmas.List.{map-append}
use Rattle.plain_text.specs.Document.{data_of, expression_of}
use Rattle.plain_text.specs.declared.line.PlainLine.TheVariants.{Pair}
use Rattle.toml.specs.Data.{get}
use Rattle.toml.specs.Tables.{key_value}
use Rattle.toml.specs.View.{view}
use Rattle.plain_document.specs.Keys.{read_key}
use Rattle.plain_document.specs.Pairs.{AddsValue}
use Rattle.plain_document.specs.declared.keys.KeyKind.{KeyKind}
use Rattle.plain_document.proofs.Plain.{none_plain, none_there, one_plain}
use Rattle.plain_document.proofs.pairs.add_pair.Goals as goal

pub returns-in_default : goal.returns-in_default
returns-in_default c =
    let d = view c.args.table.now in
    let none : get (read_key c.args.way c.args.key.now) d ≡ None =
    ap (λ k. get k d) (sym c.read_key.ensures) ∙ sym c.get.ensures ∙ ap (option_map (λ v. view v.now)) c.in_default.is in
    none_there c.args.tick _ c.args.key.now _ _ none

pub returns-in_default-plain_value : goal.returns-in_default-plain_value
returns-in_default-plain_value c =
    let d = view c.args.table.now in
    let some : get (read_key c.args.way c.args.key.now) d ≡ Some (view c.in-Some.value.now) =
    ap (λ k. get k d) (sym c.read_key.ensures) ∙ sym c.get.ensures ∙ ap (option_map (λ v. view v.now)) c.in-Some.is in
    let lines = map expression_of c.args.lines.now.items in
    subst (λ (kind : KeyKind). AddsValue c.args.tick kind c.args.key.now (get (read_key c.args.way c.args.key.now) d) lines lines) c.kind_of.ensures
    (none_plain c.args.tick c.kind_of.result c.args.key.now _ (view c.in-Some.value.now) lines some c.in_default-plain_value.ensures.none)

pub returns : goal.returns
returns c =
    let d = view c.args.table.now in
    let some : get (read_key c.args.way c.args.key.now) d ≡ Some (view c.in-Some.value.now) =
    ap (λ k. get k d) (sym c.read_key.ensures) ∙ sym c.get.ensures ∙ ap (option_map (λ v. view v.now)) c.in-Some.is in
    let before = map expression_of c.args.lines.now.items in
    let after = map expression_of c.push.new.self.items in
    let plain = data_of c.in-Some-plain_value.value in
    let adds : after ≡ before ++ (([], c.args.key.now), key_value plain) ∷ [] =
    ap (map expression_of) c.in_ok-push.ensures.items ∙ map-append expression_of c.args.lines.now.items (Pair c.args.key c.in-Some-plain_value.value ∷ []) in
    subst (λ (kind : KeyKind). AddsValue c.args.tick kind c.args.key.now (get (read_key c.args.way c.args.key.now) d) before after) c.kind_of.ensures
    (one_plain c.args.tick c.kind_of.result c.args.key.now _ (view c.in-Some.value.now) plain before after some c.in-Some-plain_value.ensures.made adds)
