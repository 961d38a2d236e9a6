use Rattle.std.proofs.Common.{IfNone, IfSome, sym, subst}
use Rattle.plain_text.specs.Document.{data_of}
use Rattle.toml.specs.Data.{Data}
use Rattle.toml.specs.View.{view}
use Rattle.plain_document.specs.Values.{IsPlainOf}
use Rattle.plain_document.specs.declared.keys.KeyKind.{KeyKind}
use Rattle.plain_document.proofs.values.plain_value.Goals as goal

pub returns-in-Ticks-clause-none : goal.returns-in-Ticks-clause-none
returns-in-Ticks-clause-none c =
    subst (λ (kind : KeyKind). IfNone c.ticks_of.result ((plain : Data) → ¬ (IsPlainOf c.args.tick kind (view c.args.value.now) plain))) (sym c.in-Ticks.is) c.ticks_of.ensures.none

pub returns-in-Share-clause-made : goal.returns-in-Share-clause-made
returns-in-Share-clause-made c =
    subst (λ (kind : KeyKind). IfSome c.share_of.result (λ made. IsPlainOf c.args.tick kind (view c.args.value.now) (data_of made))) (sym c.in-Share.is)
    (c.share_of.ensures.made c.args.tick)

pub returns-in-Share-clause-none : goal.returns-in-Share-clause-none
returns-in-Share-clause-none c =
    subst (λ (kind : KeyKind). IfNone c.share_of.result ((plain : Data) → ¬ (IsPlainOf c.args.tick kind (view c.args.value.now) plain))) (sym c.in-Share.is)
    (c.share_of.ensures.none c.args.tick)

pub returns-in-Plain-clause-made : goal.returns-in-Plain-clause-made
returns-in-Plain-clause-made c =
    subst (λ (kind : KeyKind). IfSome c.other_of.result (λ made. IsPlainOf c.args.tick kind (view c.args.value.now) (data_of made))) (sym c.in-Plain.is)
    (c.other_of.ensures.made c.args.tick)

pub returns-in-Plain-clause-none : goal.returns-in-Plain-clause-none
returns-in-Plain-clause-none c =
    subst (λ (kind : KeyKind). IfNone c.other_of.result ((plain : Data) → ¬ (IsPlainOf c.args.tick kind (view c.args.value.now) plain))) (sym c.in-Plain.is)
    (c.other_of.ensures.none c.args.tick)
