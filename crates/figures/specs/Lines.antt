-- The table of a sweep: a header, and a line for each run.
use Rattle.std.specs.Prelude.{◌≡◌, ℕ, Bool, true, false, Option, Some, None, List, [], ◌∷◌, ◌++◌, ◌-◌, ◌^◌, codes, decimal, length, map, min, Vec}
use Rattle.std.specs.List.{join_with_byte}
use Rattle.std.specs.declared.alloc.Global.{Global}
use Rattle.csv.specs.Writing.{default_writer, field_text, writer_setup, fields_written}
use Rattle.csv.specs.declared.writer.Writer.{Writer}
use Rattle.trace.specs.Lines.{laid_out}
use Rattle.incident_figures.specs.declared.run.RunIncidents.{RunIncidents}
use Rattle.incident_figures.specs.Runs.{incident_names, incidents_in_order}
use Rattle.figures.specs.declared.column_set.ColumnSet.{ColumnSet}
use Rattle.figures.specs.declared.run.RunFigures.{RunFigures}
use Rattle.figures.specs.ColumnSets.{has_revived, has_incidents}

-- fields separated by commas, each in quotes where it calls for them
abbrev pub cells_joined : List (List ℕ) → List ℕ
cells_joined fields = join_with_byte 44 (map (field_text default_writer) fields)

-- a line: its fields, and a line feed
unfoldable pub table_line : List (List ℕ) → List ℕ
table_line fields = cells_joined fields ++ codes "\n"

-- a column that only some tables have
abbrev pub where_told : {A : Type 0} → Bool → List A → List A
where_told true column = column
where_told false column = []

-- The names of the figures, in the order of their columns: those of crashes and of false claims, in some tables that of the members
-- that were taken for alive again and those of incidents, and those of the protocol.
abbrev pub claim_names : List (List ℕ)
claim_names =
    codes "rows" ∷ codes "crashes" ∷ codes "detected" ∷ codes "suspect_least" ∷ codes "confirm_least" ∷ codes "confirm_greatest" ∷ codes "last_greatest"
    ∷ codes "false_suspect" ∷ codes "false_suspect_healthy" ∷ codes "false_confirm" ∷ codes "false_confirm_healthy" ∷ codes "thrown_out" ∷ []

abbrev pub protocol_names : List (List ℕ)
protocol_names = codes "accuse" ∷ codes "refute" ∷ codes "fail" ∷ codes "health" ∷ codes "sent" ∷ codes "lost" ∷ []

abbrev pub some_names : ColumnSet → List (List ℕ)
some_names columns = where_told (has_revived columns) (codes "revived" ∷ []) ++ where_told (has_incidents columns) incident_names

abbrev pub figure_names : ColumnSet → List (List ℕ)
figure_names columns = claim_names ++ (some_names columns ++ protocol_names)

-- the figures in that order
abbrev pub claims_in_order : RunFigures → List (Option ℕ)
claims_in_order run =
    Some run.rows ∷ Some run.crashes ∷ Some run.detected ∷ run.suspect_least ∷ run.confirm_least ∷ run.confirm_greatest ∷ run.last_greatest
    ∷ Some run.false_suspect ∷ Some run.false_suspect_healthy ∷ Some run.false_confirm ∷ Some run.false_confirm_healthy ∷ Some run.thrown_out ∷ []

abbrev pub protocol_in_order : RunFigures → List (Option ℕ)
protocol_in_order run = Some run.accuse ∷ Some run.refute ∷ Some run.fail ∷ Some run.health ∷ Some run.sent ∷ Some run.lost ∷ []

-- nothing stands for the incidents of a run that has none
abbrev pub incident_cells : Option RunIncidents → List (Option ℕ)
incident_cells (Some run) = incidents_in_order run
incident_cells None = None ∷ None ∷ None ∷ None ∷ None ∷ []

abbrev pub some_in_order : ColumnSet → RunFigures → List (Option ℕ)
some_in_order columns run = where_told (has_revived columns) (Some run.revived ∷ []) ++ where_told (has_incidents columns) (incident_cells run.incidents)

abbrev pub figures_in_order : ColumnSet → RunFigures → List (Option ℕ)
figures_in_order columns run = claims_in_order run ++ (some_in_order columns run ++ protocol_in_order run)

-- a figure in decimal, and nothing where there is none
abbrev pub cell : Option ℕ → List ℕ
cell (Some n) = decimal n
cell None = []

-- the first line: the keys that are set, the seed, and the figures
abbrev pub header_line : ColumnSet → List (List ℕ) → List ℕ
header_line columns keys = table_line (keys ++ codes "seed" ∷ figure_names columns)

-- the line of a run: the values of the keys, the seed, and the run's figures
abbrev pub run_line : ColumnSet → List (List ℕ) → ℕ → RunFigures → List ℕ
run_line columns values seed run = table_line (values ++ decimal seed ∷ map cell (figures_in_order columns run))

-- a writer has written these fields of a first line
pub record HasLaidOut (writer : Writer (Vec ℕ Global)) (fields : List (List ℕ)) : Type 0 where
  pub setup : writer_setup writer ≡ default_writer
  pub count : fields_written writer ≡ min (length fields) (2 ^ 64 - 1)
  pub text : laid_out writer ≡ cells_joined fields
