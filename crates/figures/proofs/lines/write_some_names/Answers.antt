use Rattle.std.proofs.Common.{ℕ, List, ◌++◌, subst, sym}
use Rattle.std.specs.Prelude.{OnOk}
use Rattle.figures.specs.Lines.{HasLaidOut, some_names}
use Rattle.figures.proofs.lines.write_some_names.Goals as goal

pub returns-in-WithIncidents : goal.returns-in-WithIncidents
returns-in-WithIncidents c =
    subst (λ columns. OnOk c.write_texts.result ((fields : List (List ℕ)) → HasLaidOut c.args.writer.now fields → HasLaidOut c.write_texts.new.writer (fields ++ some_names columns)))
    (sym c.in-WithIncidents.is) c.write_texts.ensures
