-- What one row more makes of counts.
use Rattle.std.proofs.Common.{◌≡◌, ℕ, ◌+◌, ◌<◌, max, Bool, true, false, cond, ◌&&◌, List, [], ◌∷◌, ◌++◌, length, get_or, replicate, map, refl, sym, ap, subst, ◌∙◌, inl, inr, arith, lit<, add-zero, append-nil}
use Rattle.std.specs.Prelude.{filter, count_by, slice_index, slice_set, unwrap_or, if◌then◌else◌}
use Rattle.std.specs.List.{fold, reduce}
use Rattle.std.proofs.Math.Bool.{and-false}
use Rattle.std.proofs.lemmas.Bool.{cases_Bool}
use Rattle.std.proofs.lemmas.List.{get_or-set_same, get_or-set_other, map-append}
use Rattle.std.proofs.lemmas.List.Elements.{filter-append}
use Rattle.std.proofs.lemmas.List.Sums.{sum_by_push}
use denote.Enum.Bare.{sameb, same_true, same_false}
use Rattle.trace.specs.contracts.row.What.{the_type}
use Rattle.trace.specs.declared.row.What.{What}
use Rattle.trace.specs.declared.row.What.TheVariants as what
use Rattle.trace.specs.declared.row.Row.{Row}
use Rattle.trace_rows.specs.Rows.{has_kind, tells_lost, count_of, losses_of, worst_health}
use Rattle.reports.specs.Counts.{count_place}
use Rattle.reports.proofs.Detections.{and-true}

-- ---- places of kinds

pub place_within : (kind : What) → count_place kind < 29
place_within what.Start = lit< tt
place_within what.Crash = lit< tt
place_within what.Joined = lit< tt
place_within what.Join = lit< tt
place_within what.Welcome = lit< tt
place_within what.Ping = lit< tt
place_within what.PingReq = lit< tt
place_within what.Ack = lit< tt
place_within what.Nack = lit< tt
place_within what.Fail = lit< tt
place_within what.Health = lit< tt
place_within what.Alive = lit< tt
place_within what.Suspect = lit< tt
place_within what.Confirm = lit< tt
place_within what.Accuse = lit< tt
place_within what.Refute = lit< tt
place_within what.Dead = lit< tt
place_within what.Leave = lit< tt
place_within what.Bye = lit< tt
place_within what.Gossip = lit< tt
place_within what.Call = lit< tt
place_within what.Answer = lit< tt
place_within what.Push = lit< tt
place_within what.Pull = lit< tt
place_within what.Restart = lit< tt
place_within what.Exit = lit< tt
place_within what.Left = lit< tt
place_within what.Forget = lit< tt
place_within what.Reconnect = lit< tt

abbrev kinds : List What
kinds = what.Start ∷ what.Crash ∷ what.Joined ∷ what.Join ∷ what.Welcome ∷ what.Ping ∷ what.PingReq ∷ what.Ack ∷ what.Nack ∷ what.Fail ∷ what.Health ∷ what.Alive ∷ what.Suspect ∷ what.Confirm ∷ what.Accuse ∷ what.Refute ∷ what.Dead ∷ what.Leave ∷ what.Bye ∷ what.Gossip ∷ what.Call ∷ what.Answer ∷ what.Push ∷ what.Pull ∷ what.Restart ∷ what.Exit ∷ what.Left ∷ what.Forget ∷ what.Reconnect ∷ []

abbrev kind_at : ℕ → What
kind_at place = get_or kinds place what.Start

kind_at-count_place : (kind : What) → kind_at (count_place kind) ≡ kind
kind_at-count_place what.Start = refl
kind_at-count_place what.Crash = refl
kind_at-count_place what.Joined = refl
kind_at-count_place what.Join = refl
kind_at-count_place what.Welcome = refl
kind_at-count_place what.Ping = refl
kind_at-count_place what.PingReq = refl
kind_at-count_place what.Ack = refl
kind_at-count_place what.Nack = refl
kind_at-count_place what.Fail = refl
kind_at-count_place what.Health = refl
kind_at-count_place what.Alive = refl
kind_at-count_place what.Suspect = refl
kind_at-count_place what.Confirm = refl
kind_at-count_place what.Accuse = refl
kind_at-count_place what.Refute = refl
kind_at-count_place what.Dead = refl
kind_at-count_place what.Leave = refl
kind_at-count_place what.Bye = refl
kind_at-count_place what.Gossip = refl
kind_at-count_place what.Call = refl
kind_at-count_place what.Answer = refl
kind_at-count_place what.Push = refl
kind_at-count_place what.Pull = refl
kind_at-count_place what.Restart = refl
kind_at-count_place what.Exit = refl
kind_at-count_place what.Left = refl
kind_at-count_place what.Forget = refl
kind_at-count_place what.Reconnect = refl

-- kinds of one place are one
one_place : (a b : What) → count_place a ≡ count_place b → a ≡ b
one_place a b same = sym (kind_at-count_place a) ∙ ap kind_at same ∙ kind_at-count_place b

pub none_counted : (kind : What) → slice_index (replicate 29 0) (count_place kind) ≡ 0
none_counted what.Start = refl
none_counted what.Crash = refl
none_counted what.Joined = refl
none_counted what.Join = refl
none_counted what.Welcome = refl
none_counted what.Ping = refl
none_counted what.PingReq = refl
none_counted what.Ack = refl
none_counted what.Nack = refl
none_counted what.Fail = refl
none_counted what.Health = refl
none_counted what.Alive = refl
none_counted what.Suspect = refl
none_counted what.Confirm = refl
none_counted what.Accuse = refl
none_counted what.Refute = refl
none_counted what.Dead = refl
none_counted what.Leave = refl
none_counted what.Bye = refl
none_counted what.Gossip = refl
none_counted what.Call = refl
none_counted what.Answer = refl
none_counted what.Push = refl
none_counted what.Pull = refl
none_counted what.Restart = refl
none_counted what.Exit = refl
none_counted what.Left = refl
none_counted what.Forget = refl
none_counted what.Reconnect = refl

-- ---- one row more

abbrev raised : List ℕ → What → Bool → List ℕ
raised counts kind does_count = if does_count then slice_set counts (count_place kind) (slice_index counts (count_place kind) + 1) else counts

raised_at : (counts : List ℕ) (row : Row) (kind : What) (n : ℕ) → length counts ≡ 29 → slice_index counts (count_place kind) ≡ n
    → slice_index (raised counts row.what true) (count_place kind) ≡ n + cond (has_kind kind row && true) 1 0
raised_at counts row kind n long is =
    elim (cases_Bool (sameb the_type row.what kind)) [
      | inl same ↦
          rw same (let one : row.what ≡ kind = same_true the_type tt row.what kind same in
          rw one (get_or-set_same counts (count_place kind) (slice_index counts (count_place kind) + 1) 0 (subst (λ n. count_place kind < n) (sym long) (place_within kind)) ∙ ap (λ m. m + 1) is))
      | inr other ↦
          rw other (get_or-set_other counts (count_place row.what) (count_place kind) (slice_index counts (count_place row.what) + 1) 0
          (λ at. same_false the_type row.what kind other (sym (one_place kind row.what at))) ∙ is ∙ sym (add-zero n))
    ]

raised_if : (does_count : Bool) (counts : List ℕ) (row : Row) (kind : What) (n : ℕ) → length counts ≡ 29 → slice_index counts (count_place kind) ≡ n
    → slice_index (raised counts row.what does_count) (count_place kind) ≡ n + cond (has_kind kind row && does_count) 1 0
raised_if true counts row kind n long is = raised_at counts row kind n long is
raised_if false counts row kind n long is = is ∙ sym (ap (λ b. n + cond b 1 0) (and-false (has_kind kind row)) ∙ add-zero n)

-- a count of rows with one more
count-push : (test : Row → Bool) (rows : List Row) (row : Row) → count_by test (rows ++ row ∷ []) ≡ count_by test rows + cond (test row) 1 0
count-push test rows row = sum_by_push (λ r. cond (test r) 1 0) rows row

pub told-push : (counts new : List ℕ) (rows : List Row) (row : Row) (place : ℕ) → length counts ≡ 29 → place ≡ count_place row.what
    → new ≡ (if true then slice_set counts place (slice_index counts place + 1) else counts)
    → ((kind : What) → slice_index counts (count_place kind) ≡ count_of kind rows)
    → (kind : What) → slice_index new (count_place kind) ≡ count_of kind (rows ++ row ∷ [])
told-push counts new rows row place long at is so_far kind =
    ap (λ l. slice_index l (count_place kind)) (is ∙ ap (λ p. if true then slice_set counts p (slice_index counts p + 1) else counts) at)
    ∙ raised_if true counts row kind (count_of kind rows) long (so_far kind)
    ∙ ap (λ b. count_of kind rows + cond b 1 0) (and-true (has_kind kind row)) ∙ sym (count-push (has_kind kind) rows row)

pub lost-push : (counts new : List ℕ) (rows : List Row) (row : Row) (place : ℕ) → length counts ≡ 29 → place ≡ count_place row.what
    → new ≡ (if row.lost then slice_set counts place (slice_index counts place + 1) else counts)
    → ((kind : What) → slice_index counts (count_place kind) ≡ losses_of kind rows)
    → (kind : What) → slice_index new (count_place kind) ≡ losses_of kind (rows ++ row ∷ [])
lost-push counts new rows row place long at is so_far kind =
    ap (λ l. slice_index l (count_place kind)) (is ∙ ap (λ p. if row.lost then slice_set counts p (slice_index counts p + 1) else counts) at)
    ∙ raised_if row.lost counts row kind (losses_of kind rows) long (so_far kind) ∙ sym (count-push (tells_lost kind) rows row)

-- ---- the worst health

greatest-push : (healths : List ℕ) (n : ℕ) → unwrap_or (reduce max (healths ++ n ∷ [])) 0 ≡ max (unwrap_or (reduce max healths) 0) n
greatest-push [] n = omega arith
greatest-push (first ∷ healths) n = fold-push first healths n
  where
    fold-push : (first : ℕ) (healths : List ℕ) (n : ℕ) → fold max first (healths ++ n ∷ []) ≡ max (fold max first healths) n
    fold-push first [] n = refl
    fold-push first (next ∷ healths) n = fold-push (max first next) healths n

abbrev value_in : Row → ℕ
value_in row = row.value

health-one : (test : Bool) (rows : List Row) (row : Row)
    → unwrap_or (reduce max (map value_in (rows ++ cond test (row ∷ []) []))) 0 ≡ (if test then max (unwrap_or (reduce max (map value_in rows)) 0) row.value else unwrap_or (reduce max (map value_in rows)) 0)
health-one true rows row = ap (λ l. unwrap_or (reduce max l) 0) (map-append value_in rows (row ∷ [])) ∙ greatest-push (map value_in rows) row.value
health-one false rows row = ap (λ l. unwrap_or (reduce max (map value_in l)) 0) (append-nil rows)

pub health-push : (rows : List Row) (row : Row) (old new : ℕ) → new ≡ (if has_kind what.Health row then max old row.value else old) → old ≡ worst_health rows → new ≡ worst_health (rows ++ row ∷ [])
health-push rows row old new is so_far =
    is ∙ ap (λ n. if has_kind what.Health row then max n row.value else n) so_far
    ∙ sym (ap (λ l. unwrap_or (reduce max (map value_in l)) 0) (filter-append (has_kind what.Health) rows (row ∷ [])) ∙ health-one (has_kind what.Health row) (filter (has_kind what.Health) rows) row)
