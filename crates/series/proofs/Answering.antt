-- What one row more makes of what came of probes.
use Rattle.std.proofs.Common.{◌≡◌, ℕ, ◌+◌, ◌-◌, ◌<◌, ◌≤◌, ◌^◌, Bool, true, false, cond, ◌&&◌, ◌||◌, ◌==◌, not, List, [], ◌∷◌, ◌++◌, length, map, Option, Some, None, refl, sym, ap, subst, ◌∙◌, arith}
use Rattle.std.specs.Prelude.{filter, count_by, if◌then◌else◌, nat_eq, slice_index_or}
use Rattle.std.proofs.lemmas.List.{length-map}
use Rattle.std.proofs.lemmas.List.Sums.{count_by-le-length}
use Rattle.std.specs.List.{last_or}
use Rattle.trace.specs.declared.row.What.TheVariants as what
use Rattle.trace.specs.contracts.row.What.{the_type}
use Rattle.trace.specs.declared.row.Row.{Row}
use Rattle.reports.specs.Rows.{rows_in_place, has_kind, is_about}
use Rattle.reports.proofs.Detections.{has_kind-same}
use Rattle.reports.proofs.Returning.{length-placed}
use Rattle.series.specs.declared.lines.TraceLine.{TraceLine}
use Rattle.series.specs.declared.accusers.ProbeStory.{ProbeStory}
use Rattle.series.specs.declared.answers.Reply.{Reply}
use Rattle.series.specs.declared.answers.Answers.{Answers}
use Rattle.series.specs.Lines.{line_at}
use Rattle.series.specs.Deaths.{Reached, reached_at, reached, since, begins_probe, last_probe, is_of, is_by_target, acks_for, asks_for, helps_for, acks, asks, helps, is_lost, reply_told, since_probe, answers_of, no_answers, AreAnswersOf}
use Rattle.series.proofs.Telling.{count-push}
use Rattle.series.proofs.Dying.{filter-push, map-push, map-if, last-if, since-push, since_few, reached-push, is_same, not_same}
use denote.Enum.Bare.{same_true}

abbrev met : List Row → Row → Reached
met earlier row = record { earlier = earlier; row = row }

abbrev reply : TraceLine → Bool → Reply
reply line lost = record { line = line; lost = lost }

abbrev answers : Option Reply → ℕ → ℕ → ℕ → ℕ → Answers
answers ack asked requests answered lost = record { ack = ack; asked = asked; requests_lost = requests; answered = answered; answers_lost = lost }

same_answers : {a b : Option Reply} {c d e f g h i j : ℕ} → a ≡ b → c ≡ d → e ≡ f → g ≡ h → i ≡ j → answers a c e g i ≡ answers b d f h j
same_answers {a = a} {b = b} {c = c} {d = d} {e = e} {f = f} {g = g} {h = h} {i = i} {j = j} p q r s t =
    ap (λ x. answers x c e g i) p ∙ ap (λ x. answers b x e g i) q ∙ ap (λ x. answers b d x g i) r ∙ ap (λ x. answers b d f x i) s ∙ ap (λ x. answers b d f h x) t

-- ---- with one row more

-- these, with what a row adds to them
abbrev pub with_row : ℕ → Option ProbeStory → ℕ → Row → Answers → Answers
with_row member probe number row a =
    answers (if acks_for member probe row then Some (reply (line_at number row) row.lost) else a.ack)
    (a.asked + cond (asks_for member probe row) 1 0)
    (a.requests_lost + cond (asks_for member probe row && row.lost) 1 0)
    (a.answered + cond (helps_for member probe row) 1 0)
    (a.answers_lost + cond (helps_for member probe row && row.lost) 1 0)

since_more : (member : ℕ) (rows : List Row) (row : Row) → since_probe member (rows ++ row ∷ []) ≡ (if begins_probe member row then [] else since_probe member rows) ++ met rows row ∷ []
since_more member rows row =
    ap (λ l. since (λ r. begins_probe member r.row) l) (reached-push rows row)
    ∙ since-push (λ r. begins_probe member r.row) (reached rows) (met rows row)

count_since : (member : ℕ) (rows : List Row) (row : Row) (test : Reached → Bool) → count_by test (since_probe member (rows ++ row ∷ []))
    ≡ (if begins_probe member row then 0 else count_by test (since_probe member rows)) + cond (test (met rows row)) 1 0
count_since member rows row test =
    ap (count_by test) (since_more member rows row)
    ∙ count-push test (if begins_probe member row then [] else since_probe member rows) (met rows row)
    ∙ ap (λ n. n + cond (test (met rows row)) 1 0) (by (begins_probe member row))
  where
    by : (t : Bool) → count_by test (if t then [] else since_probe member rows) ≡ (if t then 0 else count_by test (since_probe member rows))
    by true = refl
    by false = refl

ack_since : (member : ℕ) (rows : List Row) (row : Row) → last_or None (map reply_told (filter (acks member) (since_probe member (rows ++ row ∷ []))))
    ≡ (if acks member (met rows row) then Some (reply_told (met rows row)) else (if begins_probe member row then None else last_or None (map reply_told (filter (acks member) (since_probe member rows)))))
ack_since member rows row =
    let before : List Reached = if begins_probe member row then [] else since_probe member rows in
    ap (λ l. last_or None (map reply_told (filter (acks member) l))) (since_more member rows row)
    ∙ ap (λ l. last_or None (map reply_told l)) (filter-push (acks member) before (met rows row))
    ∙ ap (last_or None) (map-push reply_told (filter (acks member) before) (if acks member (met rows row) then met rows row ∷ [] else [])
    ∙ ap (λ l. map reply_told (filter (acks member) before) ++ l) (map-if reply_told (acks member (met rows row)) (met rows row)))
    ∙ last-if (map reply_told (filter (acks member) before)) (acks member (met rows row)) (reply_told (met rows row))
    ∙ ap (λ o. if acks member (met rows row) then Some (reply_told (met rows row)) else o) (by (begins_probe member row))
  where
    by : (t : Bool) → last_or None (map reply_told (filter (acks member) (if t then [] else since_probe member rows)))
        ≡ (if t then None else last_or None (map reply_told (filter (acks member) (since_probe member rows))))
    by true = refl
    by false = refl

pub answers-push : (member : ℕ) (rows : List Row) (row : Row)
    → answers_of member (rows ++ row ∷ []) ≡ with_row member (last_probe member rows) (length rows + 2) row (if begins_probe member row then no_answers else answers_of member rows)
answers-push member rows row =
    same_answers (ack_since member rows row) (count_since member rows row (asks member)) (count_since member rows row (is_lost (asks member)))
    (count_since member rows row (helps member)) (count_since member rows row (is_lost (helps member)))
    ∙ by (begins_probe member row)
  where
    probe : Option ProbeStory
    probe = last_probe member rows

    of : Option Reply → ℕ → ℕ → ℕ → ℕ → Answers
    of ack asked requests answered lost =
        answers (if acks member (met rows row) then Some (reply_told (met rows row)) else ack) (asked + cond (asks member (met rows row)) 1 0) (requests + cond (is_lost (asks member) (met rows row)) 1 0)
        (answered + cond (helps member (met rows row)) 1 0) (lost + cond (is_lost (helps member) (met rows row)) 1 0)

    by : (t : Bool)
        → of (if t then None else last_or None (map reply_told (filter (acks member) (since_probe member rows)))) (if t then 0 else count_by (asks member) (since_probe member rows))
        (if t then 0 else count_by (is_lost (asks member)) (since_probe member rows)) (if t then 0 else count_by (helps member) (since_probe member rows))
        (if t then 0 else count_by (is_lost (helps member)) (since_probe member rows))
        ≡ with_row member probe (length rows + 2) row (if t then no_answers else answers_of member rows)
    by true = refl
    by false = refl

-- ---- rows that add nothing

add_zero : (n : ℕ) → n + 0 ≡ n
add_zero n = omega arith

-- tests that none passes
nothing_more : (member : ℕ) (probe : Option ProbeStory) (number : ℕ) (row : Row) (a : Answers) → acks_for member probe row ≡ false → asks_for member probe row ≡ false → helps_for member probe row ≡ false
    → with_row member probe number row a ≡ a
nothing_more member probe number row a no_ack no_request no_help =
    same_answers (ap (λ t. if t then Some (reply (line_at number row) row.lost) else a.ack) no_ack)
    (ap (λ t. a.asked + cond t 1 0) no_request ∙ add_zero a.asked)
    (ap (λ t. a.requests_lost + cond (t && row.lost) 1 0) no_request ∙ add_zero a.requests_lost)
    (ap (λ t. a.answered + cond t 1 0) no_help ∙ add_zero a.answered)
    (ap (λ t. a.answers_lost + cond (t && row.lost) 1 0) no_help ∙ add_zero a.answers_lost)

and_false : (b : Bool) → (b && false) ≡ false
and_false true = refl
and_false false = refl

-- a ping is no answer and no request
pings_add_nothing : (member : ℕ) (probe : Option ProbeStory) (number : ℕ) (row : Row) (a : Answers) → has_kind what.Ping row ≡ true → with_row member probe number row a ≡ a
pings_add_nothing member None number row a ping = nothing_more member None number row a refl refl refl
pings_add_nothing member (Some p) number row a ping =
    nothing_more member (Some p) number row a
    (ap (λ t. t && (is_about member row && (is_of p row && is_by_target p row))) (has_kind-same what.Ping what.Ack row is))
    (ap (λ t. t && (row.member == member && is_of p row)) (has_kind-same what.Ping what.PingReq row is))
    (ap (λ t. (t || has_kind what.Nack row) && (is_about member row && (is_of p row && not (is_by_target p row)))) (has_kind-same what.Ping what.Ack row is)
    ∙ ap (λ t. (false || t) && (is_about member row && (is_of p row && not (is_by_target p row)))) (has_kind-same what.Ping what.Nack row is))
  where
    is : row.what ≡ what.Ping
    is = same_true the_type tt row.what what.Ping ping

-- a row that is neither by the member nor about it
others_add_nothing : (member : ℕ) (probe : Option ProbeStory) (number : ℕ) (row : Row) (a : Answers) → nat_eq row.member member ≡ false → is_about member row ≡ false → with_row member probe number row a ≡ a
others_add_nothing member None number row a by about = nothing_more member None number row a refl refl refl
others_add_nothing member (Some p) number row a by about =
    nothing_more member (Some p) number row a
    (ap (λ t. has_kind what.Ack row && (t && (is_of p row && is_by_target p row))) about ∙ and_false (has_kind what.Ack row))
    (ap (λ t. has_kind what.PingReq row && (t && is_of p row)) by ∙ and_false (has_kind what.PingReq row))
    (ap (λ t. (has_kind what.Ack row || has_kind what.Nack row) && (t && (is_of p row && not (is_by_target p row)))) about ∙ and_false (has_kind what.Ack row || has_kind what.Nack row))

-- whose row it isn't, and whom it isn't about
pub others_stay : (member : ℕ) (rows : List Row) (row : Row) → nat_eq row.member member ≡ false → is_about member row ≡ false → answers_of member (rows ++ row ∷ []) ≡ answers_of member rows
others_stay member rows row by about =
    answers-push member rows row
    ∙ ap (λ t. with_row member (last_probe member rows) (length rows + 2) row (if t then no_answers else answers_of member rows)) (ap (λ t. has_kind what.Ping row && (t && row.from == member)) by ∙ and_false (has_kind what.Ping row))
    ∙ others_add_nothing member (last_probe member rows) (length rows + 2) row (answers_of member rows) by about

-- a probe that begins has no answers
pub begun_without : (member : ℕ) (rows : List Row) (row : Row) → begins_probe member row ≡ true → answers_of member (rows ++ row ∷ []) ≡ no_answers
begun_without member rows row begins =
    answers-push member rows row
    ∙ ap (λ t. with_row member (last_probe member rows) (length rows + 2) row (if t then no_answers else answers_of member rows)) begins
    ∙ pings_add_nothing member (last_probe member rows) (length rows + 2) row no_answers (left (has_kind what.Ping row) (row.member == member && row.from == member) begins)
  where
    left : (a b : Bool) → (a && b) ≡ true → a ≡ true
    left true b h = refl
    left false b h = h

-- ---- no more answers than rows

few_since : (member : ℕ) (rows : List Row) (test : Reached → Bool) → count_by test (since_probe member rows) ≤ length rows
few_since member rows test =
    omega (
      arith,
      count_by-le-length test (since_probe member rows),
      since_few (λ r. begins_probe member r.row) (reached rows),
      length-map (rows_in_place rows) reached_at,
      length-placed [] rows,
    )

-- what was made of the answers with a row is what came of the probe with it
pub with_it : (member number : ℕ) (probe : Option ProbeStory) (rows : List Row) (row : Row) (old : Answers) (acked asking helping : Bool) (ack : Option Reply) (asked requests answered lost : ℕ)
    → number ≡ length rows + 2 → number < 2 ^ 64 → probe ≡ last_probe member rows → old ≡ answers_of member rows → begins_probe member row ≡ false
    → acked ≡ acks_for member probe row → asking ≡ asks_for member probe row → helping ≡ helps_for member probe row
    → ack ≡ (if acked then Some (reply (line_at number row) row.lost) else old.ack)
    → (old.asked < 2 ^ 64 - 1 → asked ≡ old.asked + cond asking 1 0)
    → (old.requests_lost < 2 ^ 64 - 1 → requests ≡ old.requests_lost + cond (asking && row.lost) 1 0)
    → (old.answered < 2 ^ 64 - 1 → answered ≡ old.answered + cond helping 1 0)
    → (old.answers_lost < 2 ^ 64 - 1 → lost ≡ old.answers_lost + cond (helping && row.lost) 1 0)
    → answers ack asked requests answered lost ≡ answers_of member (rows ++ row ∷ [])
with_it member number probe rows row old acked asking helping ack asked requests answered lost numbered fits probed was begins acks_is asks_is helps_is ack_is asked_is requests_is answered_is lost_is =
    same_answers
    (ack_is ∙ ap (λ t. if t then Some (reply (line_at number row) row.lost) else old.ack) acks_is)
    (asked_is (few old.asked (asks member) (ap (λ (a : Answers). a.asked) was)) ∙ ap (λ t. old.asked + cond t 1 0) asks_is)
    (requests_is (few old.requests_lost (is_lost (asks member)) (ap (λ (a : Answers). a.requests_lost) was)) ∙ ap (λ t. old.requests_lost + cond (t && row.lost) 1 0) asks_is)
    (answered_is (few old.answered (helps member) (ap (λ (a : Answers). a.answered) was)) ∙ ap (λ t. old.answered + cond t 1 0) helps_is)
    (lost_is (few old.answers_lost (is_lost (helps member)) (ap (λ (a : Answers). a.answers_lost) was)) ∙ ap (λ t. old.answers_lost + cond (t && row.lost) 1 0) helps_is)
    ∙ ap (λ n. with_row member probe n row old) numbered
    ∙ ap (λ p. with_row member p (length rows + 2) row old) probed
    ∙ ap (λ a. with_row member (last_probe member rows) (length rows + 2) row a) was
    ∙ sym (answers-push member rows row ∙ ap (λ t. with_row member (last_probe member rows) (length rows + 2) row (if t then no_answers else answers_of member rows)) begins)
  where
    few : (count : ℕ) (test : Reached → Bool) → count ≡ count_by test (since_probe member rows) → count < 2 ^ 64 - 1
    few count test is = omega (arith, numbered, fits, is, few_since member rows test)

-- ---- of each member

turned : (a b : ℕ) → ¬ (a ≡ b) → nat_eq b a ≡ false
turned a b apart = grind (arith, apart)

pub after_one : (old new : List Answers) (rows : List Row) (row : Row) → length new ≡ length old → AreAnswersOf old rows
    → slice_index_or new row.member no_answers ≡ answers_of row.member (rows ++ row ∷ [])
    → ((other : ℕ) → ¬ (other ≡ row.member) → slice_index_or new other no_answers ≡ slice_index_or old other no_answers)
    → ((other : ℕ) → ¬ (other ≡ row.member) → is_about other row ≡ false)
    → AreAnswersOf new (rows ++ row ∷ [])
after_one old new rows row long are here others quiet who low = by (nat_eq who row.member) refl
  where
    by : (t : Bool) → nat_eq who row.member ≡ t → slice_index_or new who no_answers ≡ answers_of who (rows ++ row ∷ [])
    by true h = subst (λ k. slice_index_or new k no_answers ≡ answers_of k (rows ++ row ∷ [])) (sym (is_same who row.member h)) here
    by false h =
        let apart = not_same who row.member h in
        others who apart ∙ are who (omega (arith, low, long)) ∙ sym (others_stay who rows row (turned who row.member apart) (quiet who apart))

pub after_two : (old between new : List Answers) (about : ℕ) (rows : List Row) (row : Row) → length new ≡ length old → AreAnswersOf old rows
    → slice_index_or between row.member no_answers ≡ answers_of row.member (rows ++ row ∷ [])
    → ((other : ℕ) → ¬ (other ≡ row.member) → slice_index_or between other no_answers ≡ slice_index_or old other no_answers)
    → slice_index_or new about no_answers ≡ answers_of about (rows ++ row ∷ [])
    → ((other : ℕ) → ¬ (other ≡ about) → slice_index_or new other no_answers ≡ slice_index_or between other no_answers)
    → ((other : ℕ) → ¬ (other ≡ about) → is_about other row ≡ false)
    → AreAnswersOf new (rows ++ row ∷ [])
after_two old between new about rows row long are first others second later quiet who low = by (nat_eq who about) refl
  where
    at : (t : Bool) → nat_eq who row.member ≡ t → ¬ (who ≡ about) → slice_index_or between who no_answers ≡ answers_of who (rows ++ row ∷ [])
    at true h other = subst (λ k. slice_index_or between k no_answers ≡ answers_of k (rows ++ row ∷ [])) (sym (is_same who row.member h)) first
    at false h other =
        let apart = not_same who row.member h in
        others who apart ∙ are who (omega (arith, low, long)) ∙ sym (others_stay who rows row (turned who row.member apart) (quiet who other))

    by : (t : Bool) → nat_eq who about ≡ t → slice_index_or new who no_answers ≡ answers_of who (rows ++ row ∷ [])
    by true h = subst (λ k. slice_index_or new k no_answers ≡ answers_of k (rows ++ row ∷ [])) (sym (is_same who about h)) second
    by false h = later who (not_same who about h) ∙ at (nat_eq who row.member) refl (not_same who about h)
