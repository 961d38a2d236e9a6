-- Reports of runs by versions 1 and 2.
use denote.Enum.Bare.{false_same}
use Rattle.std.proofs.Common.{◌≡◌, ◌≢◌, ◌+◌, false, cond, List, [], ◌∷◌, ◌++◌, All, ap, refl, sym, ◌∙◌}
use Rattle.std.specs.Prelude.{codes}
use Rattle.std.specs.Fmt.{digits}
use Rattle.std.proofs.lemmas.List.Elements.{All-head, All-tail, All-weaker}
use Rattle.std.proofs.lemmas.List.Sums.{sum_by-cons}
use Rattle.schema.specs.declared.schema.Version.TheVariants.{One}
use Rattle.scenario.specs.Setup.{Setup}
use Rattle.trace.specs.contracts.row.What.{the_type}
use Rattle.trace.specs.declared.row.What.{What}
use Rattle.trace.specs.declared.row.What.TheVariants as what
use Rattle.trace.specs.declared.row.Row.{Row}
use Rattle.reports.specs.Rows.{has_kind, count_of}
use Rattle.reports.specs.Text.{sent_line, report_text}
use Rattle.reports.proofs.Versions.{second_report}
use Rattle.version_laws.specs.Versions.{in_version_2}
use Rattle.version_laws.proofs.Runs.{by_version_1}

-- where no row is of this kind, none counts
none_counted : (kind : What) (rows : List Row) → All (λ (row : Row). row.what ≢ kind) rows → count_of kind rows ≡ 0
none_counted kind [] none = refl
none_counted kind (row ∷ rows) none =
    sum_by-cons (λ (r : Row). cond (has_kind kind r) 1 0) row rows
    ∙ ap (λ b. cond b 1 0 + count_of kind rows) (false_same the_type tt row.what kind (All-head (λ (r : Row). r.what ≢ kind) row rows none))
    ∙ ap (λ n. cond false 1 0 + n) (none_counted kind rows (All-tail (λ (r : Row). r.what ≢ kind) row rows none))

bye_line : sent_line (codes "bye") 0 0 ≡ codes "sent bye 0 lost 0\n"
unfolding sent_line digits
bye_line = refl

pub one_line_more : (s : Setup) (rows : List Row) → s.version ≡ One → All (λ (row : Row). (row.what ≢ what.Leave) × (row.what ≢ what.Bye)) rows
    → report_text (in_version_2 s) rows ≡ report_text s rows ++ codes "sent bye 0 lost 0\n"
one_line_more s rows first neither =
    second_report s rows
    (none_counted what.Leave rows (All-weaker (λ (r : Row). (r.what ≢ what.Leave) × (r.what ≢ what.Bye)) (λ r. r.what ≢ what.Leave) (λ r neither. neither.0) rows neither))
    (none_counted what.Bye rows (All-weaker (λ (r : Row). (r.what ≢ what.Leave) × (r.what ≢ what.Bye)) (λ r. r.what ≢ what.Bye) (λ r neither. neither.1) rows neither))
    ∙ ap (λ t. report_text t rows ++ sent_line (codes "bye") 0 0) (sym (by_version_1 s first))
    ∙ ap (λ l. report_text s rows ++ l) bye_line
