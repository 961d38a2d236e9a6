use Rattle.std.proofs.Common.{◌≡◌, ◌++◌, map, subst, sym}
use Rattle.std.specs.Prelude.{OnOk}
use Rattle.std.specs.String.{string_bytes}
use Rattle.figures.specs.SettingLines.{some_words}
use Rattle.figures.proofs.columns.push_some_words.Goals as goal

pub returns-in-WithIncidents : goal.returns-in-WithIncidents
returns-in-WithIncidents c =
    subst (λ columns. OnOk c.push_texts.result (map string_bytes c.push_texts.new.texts.items ≡ map string_bytes c.args.texts.now.items ++ some_words columns)) (sym c.in-WithIncidents.is)
    c.push_texts.ensures
