-- Reports of traces in which nobody leaves, by both versions of the format.
use Rattle.std.proofs.Common.{◌≡◌, ℕ, ◌+◌, ◌≤◌, Bool, true, false, ◌&&◌, cond, List, [], ◌∷◌, ◌++◌, length, map, refl, sym, ap, ◌∙◌, arith, append-nil, append_assoc}
use Rattle.std.specs.Prelude.{All, filter, count_by, flat_map, codes}
use Rattle.std.proofs.lemmas.List.{length-map, nil_from_length}
use Rattle.std.proofs.lemmas.List.Concat.{flat_map-append}
use Rattle.std.proofs.lemmas.List.Elements.{All-nil, All-cons, All-head, All-tail, All-weaker}
use Rattle.std.proofs.lemmas.List.Sums.{length-filter, sum_by-cons, sum_by-append, sum_by-le-sum_by}
use Rattle.schema.specs.declared.schema.Version.{Version}
use Rattle.schema.specs.declared.schema.Version.TheVariants.{One, Two}
use Rattle.scenario.specs.Setup.{Setup}
use Rattle.trace.specs.Text.{word_of}
use Rattle.trace.specs.declared.row.What.{What}
use Rattle.trace.specs.declared.row.What.TheVariants as what
use Rattle.trace.specs.declared.row.Row.{Row}
use Rattle.reports.specs.declared.departure.DepartureReport.{DepartureReport}
use Rattle.trace_rows.specs.Rows.{Placed, placed_after, rows_in_place, has_kind, tells_lost, count_of, losses_of}
use Rattle.reports.specs.Departures.{crashes_of, leaves_of}
use Rattle.reports.specs.FalsePositives.{ways_to_depart, first_ways_to_depart, departed_by, is_false_claim, is_false_positive, is_healthy, is_healthy_false_positive, false_positives, healthy_false_positives}
use Rattle.reports.specs.Text.{false_line, sent_line, crash_line, leave_line, size_lines, crash_lines, leave_lines, latencies_line, false_claim_line, revived_lines, protocol_lines, message_line, message_kinds, lines_of_version, report_text, first_report_text}
use Rattle.reports.proofs.Pushes.{row_member, departed_member, departed_members}

-- where none passes a test, none is kept
none_kept : {X : Type 0} (test : X → Bool) (xs : List X) → count_by test xs ≡ 0 → filter test xs ≡ []
none_kept test xs none = nil_from_length (filter test xs) (length-filter test xs ∙ none)

none_first : (test : Row → Bool) (first second : List Row) → count_by test (first ++ second) ≡ 0 → count_by test first ≡ 0
none_first test first second none = omega (arith, none, sum_by-append (λ r. cond (test r) 1 0) first second)

-- no row before it reports a leave
abbrev no_leave : Placed → Type 0
no_leave p = count_of what.Leave p.earlier ≡ 0

-- where no row reports a leave, none before any of them does
none_earlier : (earlier rows : List Row) → count_of what.Leave (earlier ++ rows) ≡ 0 → All no_leave (placed_after earlier rows)
none_earlier earlier [] none = All-nil no_leave
none_earlier earlier (row ∷ rows) none =
    All-cons no_leave (record { earlier = earlier; row = row; later = rows }) (placed_after (earlier ++ row ∷ []) rows)
    (none_first (has_kind what.Leave) earlier (row ∷ rows) none) (none_earlier (earlier ++ row ∷ []) rows (ap (count_of what.Leave) (append_assoc earlier (row ∷ []) rows) ∙ none))

-- tests that agree on all count as many
same_count : (test other : Placed → Bool) (ps : List Placed) → All (λ p. test p ≡ other p) ps → count_by test ps ≡ count_by other ps
same_count test other [] same = refl
same_count test other (p ∷ ps) same =
    sum_by-cons (λ q. cond (test q) 1 0) p ps
    ∙ ap (λ b. cond b 1 0 + count_by test ps) (All-head (λ p. test p ≡ other p) p ps same)
    ∙ ap (λ n. cond (other p) 1 0 + n) (same_count test other ps (All-tail (λ p. test p ≡ other p) p ps same))
    ∙ sym (sum_by-cons (λ q. cond (other q) 1 0) p ps)

-- ---- version 1

same_positive : (claim : What) (p : Placed) → no_leave p → is_false_positive ways_to_depart claim p ≡ is_false_positive first_ways_to_depart claim p
same_positive claim p none = ap (λ left. is_false_claim claim (departed_by p.earlier what.Crash ++ (map row_member left ++ [])) p.row) (none_kept (has_kind what.Leave) p.earlier none)

same_line : (s : Setup) (rows : List Row) → count_of what.Leave rows ≡ 0 → (claim : What) → false_claim_line s ways_to_depart rows claim ≡ false_claim_line s first_ways_to_depart rows claim
same_line s rows none claim =
    ap (λ n. false_line (word_of claim) n (healthy_false_positives s ways_to_depart claim rows))
    (same_count (is_false_positive ways_to_depart claim) (is_false_positive first_ways_to_depart claim) (rows_in_place rows)
    (All-weaker no_leave (λ p. is_false_positive ways_to_depart claim p ≡ is_false_positive first_ways_to_depart claim p)
    (same_positive claim) (rows_in_place rows) (none_earlier [] rows none)))
    ∙ ap (λ n. false_line (word_of claim) (false_positives first_ways_to_depart claim rows) n)
    (same_count (is_healthy_false_positive s ways_to_depart claim) (is_healthy_false_positive s first_ways_to_depart claim) (rows_in_place rows)
    (All-weaker no_leave (λ p. is_healthy_false_positive s ways_to_depart claim p ≡ is_healthy_false_positive s first_ways_to_depart claim p)
    (λ p so_far. ap (λ b. b && is_healthy s p.row) (same_positive claim p so_far)) (rows_in_place rows) (none_earlier [] rows none)))

-- the lines of a version with these lines of false claims
abbrev with_claims : Version → Setup → List Row → List ℕ → List ℕ → List ℕ
with_claims version s rows suspected confirmed =
    size_lines s rows ++ crash_lines s rows ++ leave_lines version s (leaves_of rows) ++ latencies_line (crashes_of rows)
    ++ suspected ++ confirmed ++ revived_lines version rows ++ protocol_lines rows ++ flat_map (message_line rows) (message_kinds version)

pub first_report : (s : Setup) (rows : List Row) → s.version ≡ One → count_of what.Leave rows ≡ 0 → report_text s rows ≡ first_report_text s rows
unfolding report_text first_report_text
first_report s rows first none =
    ap (λ v. lines_of_version v s rows) first
    ∙ ap (λ l. with_claims One s rows l (false_claim_line s ways_to_depart rows what.Confirm)) (same_line s rows none what.Suspect)
    ∙ ap (with_claims One s rows (false_claim_line s first_ways_to_depart rows what.Suspect)) (same_line s rows none what.Confirm)

-- ---- version 2

-- where no row reports a leave, there is none
no_leaves : (rows : List Row) → count_of what.Leave rows ≡ 0 → leaves_of rows ≡ []
no_leaves rows none =
    nil_from_length (leaves_of rows)
    (sym (length-map (leaves_of rows) departed_member) ∙ ap length (departed_members what.Leave rows) ∙ ap (λ l. length (map row_member l)) (none_kept (has_kind what.Leave) rows none))

-- of a kind that no row has, nothing was lost
none_lost : (kind : What) (rows : List Row) → count_of kind rows ≡ 0 → losses_of kind rows ≡ 0
none_lost kind rows none = omega (arith, none, sum_by-le-sum_by (λ r. cond (tells_lost kind r) 1 0) (λ r. cond (has_kind kind r) 1 0) rows (λ r. fewer (has_kind kind r) r.lost))
  where
    fewer : (told lost : Bool) → cond (told && lost) 1 0 ≤ cond told 1 0
    fewer true true = omega arith
    fewer true false = omega arith
    fewer false lost = omega arith

-- both versions print the same line for a crash
same_crash_line : (s : Setup) → crash_line (record s { version = Two }) ≡ crash_line (record s { version = One })
unfolding crash_line
same_crash_line s = refl

-- what a report prints, but its messages, with these lines of crashes and leaves
abbrev told : Setup → List Row → (DepartureReport → List ℕ) → List ℕ → List ℕ
told s rows crash leaves =
    size_lines s rows ++ flat_map crash (crashes_of rows) ++ leaves ++ latencies_line (crashes_of rows)
    ++ false_claim_line s ways_to_depart rows what.Suspect ++ false_claim_line s ways_to_depart rows what.Confirm ++ revived_lines Two rows ++ protocol_lines rows

bye_line : (rows : List Row) → count_of what.Bye rows ≡ 0 → message_line rows what.Bye ≡ sent_line (codes "bye") 0 0
bye_line rows none = ap (λ n. sent_line (codes "bye") n (losses_of what.Bye rows)) none ∙ ap (sent_line (codes "bye") 0) (none_lost what.Bye rows none)

bye_last : (rows : List Row) → count_of what.Bye rows ≡ 0 → flat_map (message_line rows) (message_kinds Two) ≡ flat_map (message_line rows) (message_kinds One) ++ sent_line (codes "bye") 0 0
bye_last rows none =
    flat_map-append (message_line rows) (message_kinds One) (what.Bye ∷ [])
    ∙ ap (λ l. flat_map (message_line rows) (message_kinds One) ++ l) (append-nil (message_line rows what.Bye) ∙ bye_line rows none)

pub second_report : (s : Setup) (rows : List Row) → count_of what.Leave rows ≡ 0 → count_of what.Bye rows ≡ 0
    → report_text (record s { version = Two }) rows ≡ report_text (record s { version = One }) rows ++ sent_line (codes "bye") 0 0
unfolding report_text
second_report s rows leaves byes =
    let two = record s { version = Two } in
    let one = record s { version = One } in
    let crash = crash_line one in
    ap (λ c. told one rows c (flat_map (leave_line two) (leaves_of rows)) ++ flat_map (message_line rows) (message_kinds Two)) (same_crash_line s)
    ∙ ap (λ ls. told one rows crash (flat_map (leave_line two) ls) ++ flat_map (message_line rows) (message_kinds Two)) (no_leaves rows leaves)
    ∙ ap (λ l. told one rows crash [] ++ l) (bye_last rows byes)
    ∙ sym (append_assoc (told one rows crash []) (flat_map (message_line rows) (message_kinds One)) (sent_line (codes "bye") 0 0))
