use Rattle.std.proofs.Common.{◌≡◌, ◌∙◌, ap, map, subst}
use Rattle.std.specs.Prelude.{string_bytes, OnOk, OnErr}
use Rattle.std.specs.Io.KnownBytes.{Appends}
use Rattle.trace.specs.Sinks.{AppendsBeginning}
use Rattle.figures.specs.Lines.{header_line}
use Rattle.sweep.specs.Table.{names_of}
use Rattle.sweep.proofs.values.write_names.Goals as goal

pub returns-clause-whole : goal.returns-clause-whole
returns-clause-whole g c =
    let same : map (λ key. key.now) c.deref-2.result.now ≡ names_of c.args.swept_keys.now =
    ap (map (λ key. key.now)) c.deref-2.ensures.value ∙ c.in_ok-keys.ensures ∙ ap (map string_bytes) c.deref.ensures.value ∙ c.in_ok-names.ensures in
    subst (λ l. OnOk c.write_header.result (Appends (g.S.Sink.held c.args.table.now) (g.S.Sink.held c.write_header.new.sink) (header_line c.args.columns l))) same c.write_header.ensures.whole

pub returns-clause-part : goal.returns-clause-part
returns-clause-part g c =
    let same : map (λ key. key.now) c.deref-2.result.now ≡ names_of c.args.swept_keys.now =
    ap (map (λ key. key.now)) c.deref-2.ensures.value ∙ c.in_ok-keys.ensures ∙ ap (map string_bytes) c.deref.ensures.value ∙ c.in_ok-names.ensures in
    subst (λ l. OnErr c.write_header.result (AppendsBeginning (g.S.Sink.held c.args.table.now) (g.S.Sink.held c.write_header.new.sink) (header_line c.args.columns l))) same c.write_header.ensures.part
