-- The cells of a run, and what its metadata says of them.
use Rattle.std.proofs.Common.{◌≡◌, ◌≢◌, ◌∙◌, ◌+◌, ◌*◌, ◌<◌, ◌^◌, fold, ◌==◌, ◌||◌, ℕ, suc, false, cond, List, [], ◌∷◌, ◌++◌, map, length, get_or, decimal, lit<, arith, refl, sym, ap, subst}
use Rattle.std.specs.Prelude.{Option, Some, None, All, count_by, is_some, max, min, unwrap_or, if◌then◌else◌}
use Rattle.std.specs.Option.{ForSome, option_map}
use Rattle.std.specs.List.{cons_option, filter_map, join_with_byte, reduce, slice_split}
use Rattle.std.specs.Str.{IsAscii}
use Rattle.std.specs.Bool.{Decides}
use Rattle.std.specs.Option.{option_eq}
use Rattle.std.proofs.lemmas.Bool.{false≢true}
use Rattle.std.proofs.lemmas.Bool.Decides.{Decides-eqb}
use Rattle.std.proofs.lemmas.Option.{none-some, same_Some}
use Rattle.std.proofs.lemmas.Str.Ascii.{All-from_ascii, IsAscii-from_all}
use Rattle.std.proofs.lemmas.Fmt.{IsAscii-decimal, decimal_injective, decimal_is_IsNumeral}
use Rattle.std.proofs.lemmas.List.{append_cancel_right, length-map}
use Rattle.std.proofs.lemmas.List.Elements.{All-head, All-map, All-nil, All-tail, All-weaker}
use Rattle.std.proofs.lemmas.List.Splits.{join_with_byte-slice_split}
use Rattle.csv.specs.Writing.{default_writer, field_text, needs_quotes, quoted}
use Rattle.csv.specs.Quoting.{needs_byte}
use Rattle.scenario.specs.Setup.{Setup}
use Rattle.trace.specs.declared.row.Row.{Row}
use Rattle.reports.specs.declared.departure.DepartureReport.{DepartureReport}
use Rattle.reports.specs.Departures.{latency_of}
use Rattle.decimals.specs.Numbers.{IsDecimal}
use Rattle.sweep_plan.proofs.Words.{Lacks, decimal_lacks, joined_split}
use Rattle.incident_figures.specs.declared.run.RunCounts.{RunCounts}
use Rattle.incident_figures.specs.declared.run.RunIncidents.{RunIncidents}
use Rattle.figures.specs.declared.column_set.ColumnSet.{ColumnSet}
use Rattle.figures.specs.declared.column_set.ColumnSet.TheVariants.{First, WithRevived, WithIncidents}
use Rattle.figures.specs.declared.run.RunFigures.{RunFigures}
use Rattle.figures.specs.declared.crashes.CrashTimes.{CrashTimes}
use Rattle.figures.specs.Cells.{AgreesWith, AreCellsOf, SayCells, TakesCells, cells_in_order, counts_kept, counts_told, incidents_taken, is_confirmed, number_in}
use Rattle.figures.specs.Figures.{crashes_told, figures_of, incidents_told, is_detected, last_after, suspected_after}
use Rattle.figures.specs.Lines.{cell, claims_in_order, figures_in_order, incident_cells, protocol_in_order, run_line, table_line}
use Rattle.figures.specs.Notes.{AreWordsOf, IsWordOf, Note, counts_of, note_of, times_of}
use Rattle.figures.specs.Settings.{suspected_in, confirmed_in, last_in}
use Rattle.figures.proofs.SameFigures.{Small, low64}
use Rattle.figures.proofs.SameNotes.{all_joined}

-- ---- a run that was made

times_kept : (f : CrashTimes → Option ℕ) (g : DepartureReport → Option ℕ) → ((crash : DepartureReport) → f (times_of crash) ≡ g crash) → (crashes : List DepartureReport) → filter_map g crashes ≡ filter_map f (map times_of crashes)
times_kept f g same [] = refl
times_kept f g same (crash ∷ crashes) = (λ i. cons_option (sym (same crash) i) (times_kept f g same crashes i))

confirmed_kept : (crash : DepartureReport) → is_confirmed (times_of crash) ≡ is_detected crash
confirmed_kept crash = by crash.detection.confirm refl
  where
    by : (at : Option ℕ) → crash.detection.confirm ≡ at → is_some (latency_of crash) ≡ is_some crash.detection.confirm
    by None none = cc
    by (Some n) some = cc

counted_kept : (crashes : List DepartureReport) (n : ℕ)
    → fold (λ (a : ℕ) (crash : DepartureReport). a + cond (is_detected crash) 1 0) n crashes ≡ fold (λ (a : ℕ) (crash : CrashTimes). a + cond (is_confirmed crash) 1 0) n (map times_of crashes)
counted_kept [] n = refl
counted_kept (crash ∷ crashes) n =
    ap (λ b. fold (λ (a : ℕ) (crash : DepartureReport). a + cond (is_detected crash) 1 0) (n + cond b 1 0) crashes) (sym (confirmed_kept crash))
    ∙ counted_kept crashes (n + cond (is_confirmed (times_of crash)) 1 0)

found_kept : (crashes : List DepartureReport) → count_by is_detected crashes ≡ count_by is_confirmed (map times_of crashes)
found_kept crashes = counted_kept crashes 0

-- a note counts of incidents what the figures say
same_counts : (time : ℕ) (incidents : Option RunIncidents) → option_map counts_told incidents ≡ option_map counts_kept (option_map (counts_of time) incidents)
same_counts time None = refl
same_counts time (Some run) = refl

-- its figures agree with its metadata
pub made_agrees : (s : Setup) (tick : ℕ) (rows : List Row) → AgreesWith (note_of s tick rows) (figures_of s rows)
unfolding note_of figures_of
made_agrees s tick rows =
    let crashes = crashes_told s.version rows in
    let suspected = times_kept suspected_in suspected_after (λ crash. refl) crashes in
    let confirmed = times_kept confirmed_in latency_of (λ crash. refl) crashes in
    let last = times_kept last_in last_after (λ crash. refl) crashes in
    record {
      crashed = sym (length-map crashes times_of);
      found = found_kept crashes;
      first_suspicion = ap (reduce min) suspected;
      first_confirmation = ap (reduce min) confirmed;
      late_confirmation = ap (reduce max) confirmed;
      latest = ap (reduce max) last;
      false_claims = refl;
      thrown = refl;
      returned = refl;
      messages = refl;
      counted = same_counts (s.end * tick) (incidents_told s.version s rows);
    }

-- ---- fields that are written as they are

plain_byte : (b : ℕ) → (b == 44) ≡ false → (b == 34) ≡ false → (b == 13) ≡ false → (b == 10) ≡ false → needs_byte default_writer b ≡ false
plain_byte b comma quote return feed = grind (arith, comma, quote, return, feed)

needs_none : (xs : List ℕ) → Lacks 44 xs → Lacks 34 xs → Lacks 13 xs → Lacks 10 xs → needs_quotes default_writer xs ≡ false
needs_none [] comma quote return feed = refl
needs_none (x ∷ xs) comma quote return feed =
    let here = plain_byte x (All-head (λ y. (y == 44) ≡ false) x xs comma) (All-head (λ y. (y == 34) ≡ false) x xs quote) (All-head (λ y. (y == 13) ≡ false) x xs return)
    (All-head (λ y. (y == 10) ≡ false) x xs feed) in
    let rest = needs_none xs (All-tail (λ y. (y == 44) ≡ false) x xs comma) (All-tail (λ y. (y == 34) ≡ false) x xs quote) (All-tail (λ y. (y == 13) ≡ false) x xs return)
    (All-tail (λ y. (y == 10) ≡ false) x xs feed) in
    (λ i. here i || rest i)

pub plain_field : (xs : List ℕ) → Lacks 44 xs → Lacks 34 xs → Lacks 13 xs → Lacks 10 xs → field_text default_writer xs ≡ xs
plain_field xs comma quote return feed = ap (λ b. if b then quoted default_writer xs else xs) (needs_none xs comma quote return feed)

cell_lacks : (c : ℕ) → c < 48 → (f : Option ℕ) → Small f → Lacks c (cell f)
cell_lacks c low (Some n) small = decimal_lacks n c (low64 n (small n refl)) low
cell_lacks c low None small = All-nil (λ y. (y == c) ≡ false)

plain_cell : (f : Option ℕ) → Small f → field_text default_writer (cell f) ≡ cell f
plain_cell f small = plain_field (cell f) (cell_lacks 44 (lit< tt) f small) (cell_lacks 34 (lit< tt) f small) (cell_lacks 13 (lit< tt) f small) (cell_lacks 10 (lit< tt) f small)

plain_cells : (fs : List (Option ℕ)) → All Small fs → map (field_text default_writer) (map cell fs) ≡ map cell fs
plain_cells [] small = refl
plain_cells (f ∷ fs) small = (λ i. plain_cell f (All-head Small f fs small) i ∷ plain_cells fs (All-tail Small f fs small) i)

-- what a line has behind its values
pub cells_written : (columns : ColumnSet) (seed : ℕ) (run : RunFigures) → All Small (cells_in_order columns seed run)
    → run_line columns [] seed run ≡ join_with_byte 44 (map cell (cells_in_order columns seed run)) ++ 10 ∷ []
unfolding table_line
cells_written columns seed run small = ap (λ (l : List (List ℕ)). join_with_byte 44 l ++ 10 ∷ []) (plain_cells (cells_in_order columns seed run) small)

-- ---- the text of cells

abbrev Low : ℕ → Type 0
Low b = b < 128

low_cell : (f : Option ℕ) → Small f → All Low (cell f)
low_cell (Some n) small = All-from_ascii (decimal n) (IsAscii-decimal n (low64 n (small n refl)))
low_cell None small = All-nil Low

lows : (fs : List (Option ℕ)) → All Small fs → All Low (join_with_byte 44 (map cell fs))
lows fs small = all_joined Low 44 (map cell fs) (lit< tt) (All-map (All Low) cell fs (All-weaker Small (λ f. All Low (cell f)) low_cell fs small))

-- cells with commas between them are cut there again
cells_cut : (f : Option ℕ) (fs : List (Option ℕ)) → All Small (f ∷ fs) → slice_split (λ byte. byte == 44) (join_with_byte 44 (map cell (f ∷ fs))) ≡ map cell (f ∷ fs)
cells_cut f fs small =
    joined_split 44 (map cell (f ∷ fs)) (omega arith) (All-map (Lacks 44) cell (f ∷ fs) (All-weaker Small (λ g. Lacks 44 (cell g)) (cell_lacks 44 (lit< tt)) (f ∷ fs) small))

no_cell : (n : ℕ) → n < 2 ^ 63 → decimal n ≡ [] → ⊥
no_cell n low same =
    let digits = decimal_is_IsNumeral n (low64 n low) in
    let none : length (decimal n) ≡ 0 = ap length same in
    omega (arith, digits.0.0, none)

same_cell : (f g : Option ℕ) → Small f → Small g → cell f ≡ cell g → f ≡ g
same_cell (Some m) (Some n) low high same = ap Some (decimal_injective m n (low64 m (low m refl)) (low64 n (high n refl)) same)
same_cell (Some m) None low high same = absurd (no_cell m (low m refl) same)
same_cell None (Some n) low high same = absurd (no_cell n (high n refl) (sym same))
same_cell None None low high same = refl

same_cells : (fs gs : List (Option ℕ)) → All Small fs → All Small gs → map cell fs ≡ map cell gs → fs ≡ gs
same_cells [] [] low high same = refl
same_cells [] (g ∷ gs) low high same = let none : 0 ≡ suc (length (map cell gs)) = ap length same in absurd (omega arith)
same_cells (f ∷ fs) [] low high same = let none : suc (length (map cell fs)) ≡ 0 = ap length same in absurd (omega arith)
same_cells (f ∷ fs) (g ∷ gs) low high same =
    let first : cell f ≡ cell g = cc in
    let rest : map cell fs ≡ map cell gs = cc in
    let one = same_cell f g (All-head Small f fs low) (All-head Small g gs high) first in
    let more = same_cells fs gs (All-tail Small f fs low) (All-tail Small g gs high) rest in
    (λ i. one i ∷ more i)

-- a word that isn't empty and no number is no cell
pub no_cell_word : (word : List ℕ) → word ≢ [] → ((n : ℕ) → ¬ (IsDecimal word n)) → (f : Option ℕ) → ¬ (IsWordOf cell word f)
no_cell_word word some none None is = some (sym is.written)
no_cell_word word some none (Some n) is = none n (record { written = is.written; low = is.small n refl })

-- ---- a text and its cells

module _ (columns : ColumnSet) (known : Option ℕ) (n : Note) (text : List ℕ) where
  abbrev told : AreCellsOf columns known n text → List (Option ℕ)
  told is = cells_in_order columns is.seed is.run

  pub no_words : ((words : List ℕ) → IsAscii words → text ≢ words ++ 10 ∷ []) → ¬ (AreCellsOf columns known n text)
  no_words none is = none (join_with_byte 44 (map cell (told is))) (IsAscii-from_all _ (lows (told is) is.small)) (is.written ∙ cells_written columns is.seed is.run is.small)

  module _ (words : List ℕ) (fed : text ≡ words ++ 10 ∷ []) where
    words_joined : (is : AreCellsOf columns known n text) → words ≡ join_with_byte 44 (map cell (told is))
    words_joined is = append_cancel_right words (join_with_byte 44 (map cell (told is))) (10 ∷ []) (sym fed ∙ is.written ∙ cells_written columns is.seed is.run is.small)

    words_cut : (is : AreCellsOf columns known n text) → slice_split (λ byte. byte == 44) words ≡ map cell (told is)
    words_cut is = ap (slice_split (λ byte. byte == 44)) (words_joined is) ∙ cells_cut (Some is.seed) (figures_in_order columns is.run) is.small

    pub no_cells : ((fs : List (Option ℕ)) → ¬ (AreWordsOf cell (slice_split (λ byte. byte == 44) words) fs)) → ¬ (AreCellsOf columns known n text)
    no_cells none is = none (told is) (record { written = sym (words_cut is); small = is.small })

    module _ (fs : List (Option ℕ)) (are : AreWordsOf cell (slice_split (λ byte. byte == 44) words) fs) where
      pub cells_so : SayCells columns known n fs → AreCellsOf columns known n text
      cells_so say =
          let small : All Small (cells_in_order columns say.seed say.run) = subst (All Small) say.told are.small in
          record {
            seed = say.seed;
            seeded = say.seeded;
            run = say.run;
            agrees = say.agrees;
            small = small;
            written = fed
                ∙ ap (λ l. l ++ 10 ∷ []) (sym (join_with_byte-slice_split 44 words) ∙ ap (join_with_byte 44) (sym are.written) ∙ ap (λ l. join_with_byte 44 (map cell l)) say.told)
                ∙ sym (cells_written columns say.seed say.run small);
          }

      pub not_cells : ¬ (SayCells columns known n fs) → ¬ (AreCellsOf columns known n text)
      not_cells none is = none (record {
        seed = is.seed;
        seeded = is.seeded;
        run = is.run;
        agrees = is.agrees;
        told = same_cells fs (told is) are.small is.small (are.written ∙ words_cut is);
      })

-- ---- cells that were taken

one_run : (n : Note) (made run : RunFigures) → AgreesWith n made → AgreesWith n run → made.rows ≡ run.rows → made.false_suspect_healthy ≡ run.false_suspect_healthy
    → made.false_confirm ≡ run.false_confirm → made.false_confirm_healthy ≡ run.false_confirm_healthy → made.accuse ≡ run.accuse → made.refute ≡ run.refute
    → made.fail ≡ run.fail → made.health ≡ run.health → made.lost ≡ run.lost
    → (claims_in_order made ≡ claims_in_order run) × ((made.revived ≡ run.revived) × (protocol_in_order made ≡ protocol_in_order run))
one_run n made run agrees has rows suspect confirm healthy accuse refute fail health lost =
    let crashes = agrees.crashed ∙ sym has.crashed in
    let detected = agrees.found ∙ sym has.found in
    let suspect_least = agrees.first_suspicion ∙ sym has.first_suspicion in
    let confirm_least = agrees.first_confirmation ∙ sym has.first_confirmation in
    let confirm_greatest = agrees.late_confirmation ∙ sym has.late_confirmation in
    let last_greatest = agrees.latest ∙ sym has.latest in
    let false_suspect = agrees.false_claims ∙ sym has.false_claims in
    let thrown_out = agrees.thrown ∙ sym has.thrown in
    let revived = agrees.returned ∙ sym has.returned in
    let sent = agrees.messages ∙ sym has.messages in (
      (λ i. Some (rows i) ∷ Some (crashes i) ∷ Some (detected i) ∷ suspect_least i ∷ confirm_least i ∷ confirm_greatest i ∷ last_greatest i
          ∷ Some (false_suspect i) ∷ Some (suspect i) ∷ Some (confirm i) ∷ Some (healthy i) ∷ Some (thrown_out i) ∷ []),
      (revived, (λ i. Some (accuse i) ∷ Some (refute i) ∷ Some (fail i) ∷ Some (health i) ∷ Some (sent i) ∷ Some (lost i) ∷ [])),
    )

one_of : (x y : RunIncidents) → ◌≡◌ {A = Option RunIncidents} (Some x) (Some y) → x ≡ y
one_of x y same = cc

-- incidents that were taken from cells are those that the cells say
same_taken : (counts : Option RunCounts) (cells : List (Option ℕ)) (made found : Option RunIncidents) → made ≡ incidents_taken counts cells
    → option_map counts_told found ≡ option_map counts_kept counts
    → ((run : RunIncidents) → found ≡ Some run → (number_in cells 17 ≡ run.restarts) × (get_or cells 18 None ≡ run.whole)) → made ≡ found
same_taken None cells made None is counted at = is
same_taken None cells made (Some run) is counted at = absurd (none-some (counts_told run) (sym counted))
same_taken (Some c) cells made None is counted at = absurd (none-some (counts_kept c) counted)
same_taken (Some c) cells made (Some run) is counted at =
    let same : counts_told run ≡ counts_kept c = cc in
    let both = at run refl in
    let alarms : c.alarms ≡ run.alarms = sym (ap (λ x. x.0) same) in
    let deaths : c.deaths ≡ run.deaths = sym (ap (λ x. x.1) same) in
    let well : c.deaths_well ≡ run.deaths_well = sym (ap (λ x. x.2) same) in
    let restarts = both.0 in
    let whole = both.1 in
    is ∙ (λ i. Some (record { alarms = alarms i; deaths = deaths i; deaths_well = well i; restarts = restarts i; whole = whole i }))

-- the cells of a run with incidents
abbrev incident_line : ℕ → RunFigures → Option RunIncidents → List (Option ℕ)
incident_line seed run incidents = Some seed ∷ (claims_in_order run ++ ((Some run.revived ∷ incident_cells incidents) ++ protocol_in_order run))

incidents_one : (n : Note) (cells : List (Option ℕ)) (made : RunFigures) → AgreesWith n made → TakesCells WithIncidents n cells made
    → (seed : ℕ) (run : RunFigures) → AgreesWith n run → (found : Option RunIncidents) → run.incidents ≡ found → cells ≡ incident_line seed run found
    → incident_line seed made made.incidents ≡ incident_line seed run found
incidents_one n cells made agrees takes seed run has None here is =
    let at : (place : ℕ) → number_in cells place ≡ number_in (incident_line seed run None) place = λ place. ap (λ l. number_in l place) is in
    let same = one_run n made run agrees has (takes.rows_in ∙ at 1) (takes.suspect_in ∙ at 9) (takes.confirm_in ∙ at 10) (takes.confirm_healthy_in ∙ at 11)
    (takes.accuse_in ∙ at 19) (takes.refute_in ∙ at 20) (takes.fail_in ∙ at 21) (takes.health_in ∙ at 22) (takes.lost_in ∙ at 24) in
    let incidents : made.incidents ≡ None =
    same_taken n.incidents cells made.incidents None takes.incidents_in (sym (ap (option_map counts_told) here) ∙ has.counted) (λ r e. absurd (none-some r e)) in
    (λ i. Some seed ∷ (same.0 i ++ ((Some (same.1.0 i) ∷ incident_cells (incidents i)) ++ same.1.1 i)))
incidents_one n cells made agrees takes seed run has (Some told) here is =
    let at : (place : ℕ) → number_in cells place ≡ number_in (incident_line seed run (Some told)) place = λ place. ap (λ l. number_in l place) is in
    let whole : get_or cells 18 None ≡ told.whole = ap (λ l. get_or l 18 None) is in
    let same = one_run n made run agrees has (takes.rows_in ∙ at 1) (takes.suspect_in ∙ at 9) (takes.confirm_in ∙ at 10) (takes.confirm_healthy_in ∙ at 11)
    (takes.accuse_in ∙ at 19) (takes.refute_in ∙ at 20) (takes.fail_in ∙ at 21) (takes.health_in ∙ at 22) (takes.lost_in ∙ at 24) in
    let incidents : made.incidents ≡ Some told =
    same_taken n.incidents cells made.incidents (Some told) takes.incidents_in (sym (ap (option_map counts_told) here) ∙ has.counted)
    (λ r e. (at 17 ∙ ap (λ (x : RunIncidents). x.restarts) (one_of told r e), whole ∙ ap (λ (x : RunIncidents). x.whole) (one_of told r e))) in
    (λ i. Some seed ∷ (same.0 i ++ ((Some (same.1.0 i) ∷ incident_cells (incidents i)) ++ same.1.1 i)))

-- what neither the metadata nor the cells leave open are the cells of one run
figures_one : (columns : ColumnSet) (n : Note) (cells : List (Option ℕ)) (made : RunFigures) → AgreesWith n made → TakesCells columns n cells made
    → (seed : ℕ) (run : RunFigures) → AgreesWith n run → cells ≡ cells_in_order columns seed run → cells_in_order columns seed made ≡ cells_in_order columns seed run
figures_one First n cells made agrees takes seed run has is =
    let at : (place : ℕ) → number_in cells place ≡ number_in (cells_in_order First seed run) place = λ place. ap (λ l. number_in l place) is in
    let same = one_run n made run agrees has (takes.rows_in ∙ at 1) (takes.suspect_in ∙ at 9) (takes.confirm_in ∙ at 10) (takes.confirm_healthy_in ∙ at 11)
    (takes.accuse_in ∙ at 13) (takes.refute_in ∙ at 14) (takes.fail_in ∙ at 15) (takes.health_in ∙ at 16) (takes.lost_in ∙ at 18) in
    (λ i. Some seed ∷ (same.0 i ++ same.1.1 i))
figures_one WithRevived n cells made agrees takes seed run has is =
    let at : (place : ℕ) → number_in cells place ≡ number_in (cells_in_order WithRevived seed run) place = λ place. ap (λ l. number_in l place) is in
    let same = one_run n made run agrees has (takes.rows_in ∙ at 1) (takes.suspect_in ∙ at 9) (takes.confirm_in ∙ at 10) (takes.confirm_healthy_in ∙ at 11)
    (takes.accuse_in ∙ at 14) (takes.refute_in ∙ at 15) (takes.fail_in ∙ at 16) (takes.health_in ∙ at 17) (takes.lost_in ∙ at 19) in
    (λ i. Some seed ∷ (same.0 i ++ Some (same.1.0 i) ∷ same.1.1 i))
figures_one WithIncidents n cells made agrees takes seed run has is = incidents_one n cells made agrees takes seed run has run.incidents refl is

-- cells of a run are those of the figures that were taken
pub say_so : (columns : ColumnSet) (known : Option ℕ) (n : Note) (cells expected : List (Option ℕ)) (seed : ℕ) (run : RunFigures) → AgreesWith n run → seed ≡ unwrap_or known (number_in cells 0)
    → expected ≡ cells_in_order columns seed run → cells ≡ expected → SayCells columns known n cells
say_so columns known n cells expected seed run agrees is laid same = record { seed = seed; seeded = known_so known is; run = run; agrees = agrees; told = same ∙ laid }
  where
    known_so : (known : Option ℕ) → seed ≡ unwrap_or known (number_in cells 0) → ForSome known (λ k. seed ≡ k)
    known_so None is = λ k none. absurd cc
    known_so (Some k) is = λ j some. is ∙ same_Some k j some

pub say_not : (columns : ColumnSet) (known : Option ℕ) (n : Note) (cells expected : List (Option ℕ)) (seed : ℕ) (run : RunFigures) → AgreesWith n run → TakesCells columns n cells run
    → seed ≡ unwrap_or known (number_in cells 0) → expected ≡ cells_in_order columns seed run → cells ≢ expected → ¬ (SayCells columns known n cells)
say_not columns known n cells expected seed run agrees takes is laid other say =
    let one = figures_one columns n cells run agrees takes say.seed say.run say.agrees say.told in
    let first : number_in cells 0 ≡ say.seed = ap (λ l. number_in l 0) say.told in
    let same : seed ≡ say.seed = by known is say.seeded in
    other (say.told ∙ sym one ∙ ap (λ k. cells_in_order columns k run) (sym same) ∙ sym laid)
  where
    by : (known : Option ℕ) → seed ≡ unwrap_or known (number_in cells 0) → ForSome known (λ k. say.seed ≡ k) → seed ≡ say.seed
    by None is seeded = is ∙ ap (λ l. number_in l 0) say.told
    by (Some k) is seeded = is ∙ sym (seeded k refl)

pub option_decides : (a b : Option ℕ) → Decides (option_eq (λ x y. x == y) a b) (a ≡ b)
option_decides None None = (λ _. refl, λ _. refl)
option_decides None (Some y) = (λ e. absurd (false≢true e), λ e. absurd (none-some y e))
option_decides (Some x) None = (λ e. absurd (false≢true e), λ e. absurd (none-some x (sym e)))
option_decides (Some x) (Some y) = (λ e. ap Some ((Decides-eqb x y).0 e), λ e. (Decides-eqb x y).1 (same_Some x y e))
