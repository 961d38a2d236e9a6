-- What version 1 of the format promised of runs and reports.
use denote.Enum.Bare.{sameb}
use Rattle.std.proofs.Common.{◌≡◌, ◌≢◌, ◌+◌, false, cond, List, [], ◌∷◌, All, ap, refl, ◌∙◌}
use Rattle.std.proofs.lemmas.List.Elements.{All-head, All-tail}
use Rattle.std.proofs.lemmas.List.Sums.{sum_by-cons}
use Rattle.schema.specs.declared.schema.Version.TheVariants.{One}
use Rattle.scenario.specs.Setup.{Setup, IsSound}
use Rattle.scenario.specs.Profile.{profile_of_version}
use Rattle.trace.specs.declared.row.What.{What}
use Rattle.trace.specs.declared.row.What.TheVariants as what
use Rattle.trace.specs.contracts.row.What.{the_type}
use Rattle.trace.specs.declared.row.Row.{Row}
use Rattle.reports.specs.Rows.{has_kind, count_of}
use Rattle.reports.specs.Text.{report_text, first_report_text}
use Rattle.reports.proofs.Versions.{first_report}
use Rattle.member_laws.specs.Runs.{IsRunOf, IsPlainRunOf}
use Rattle.member_laws.proofs.Leaves.{to_plain, tells_of_none}

no_leave : (kind : What) → kind ≢ what.Leave → sameb the_type kind what.Leave ≡ false
no_leave what.Leave differs = absurd (differs refl)
no_leave _ differs = refl

none_counted : (rows : List Row) → All (λ (row : Row). (row.what ≢ what.Leave) × (row.what ≢ what.Bye)) rows → count_of what.Leave rows ≡ 0
none_counted [] none = refl
none_counted (row ∷ rows) none =
    sum_by-cons (λ (r : Row). cond (has_kind what.Leave r) 1 0) row rows
    ∙ ap (λ b. cond b 1 0 + count_of what.Leave rows) (no_leave row.what (All-head (λ (row : Row). (row.what ≢ what.Leave) × (row.what ≢ what.Bye)) row rows none).0)
    ∙ ap (λ n. cond false 1 0 + n) (none_counted rows (All-tail (λ (row : Row). (row.what ≢ what.Leave) × (row.what ≢ what.Bye)) row rows none))

module _ (s : Setup) (sound : IsSound s) (first : s.version ≡ One) (rows : List Row) (run : IsRunOf s rows) where
  pub plain : IsPlainRunOf s rows
  plain = to_plain s (sound.first first).0.leaves (ap profile_of_version first) rows run

  pub first_told : report_text s rows ≡ first_report_text s rows
  first_told = first_report s rows first (none_counted rows (tells_of_none s (sound.first first).0.leaves rows run))
