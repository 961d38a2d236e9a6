-- What is kept, with one row more that tells nothing.
use Rattle.std.proofs.Common.{◌≡◌, ℕ, ◌+◌, ◌≤◌, ◌<◌, ◌^◌, Bool, true, false, ◌&&◌, ◌||◌, ◌==◌, List, [], ◌∷◌, ◌++◌, None, refl, sym, ap, ◌∙◌, arith, length-append, add-zero}
use Rattle.std.specs.Prelude.{not, if◌then◌else◌}
use Rattle.std.proofs.lemmas.Bool.{false≢true}
use Rattle.trace.specs.declared.row.What.{What}
use Rattle.trace.specs.declared.row.What.TheVariants as what
use Rattle.trace.specs.declared.row.Row.{Row}
use Rattle.trace_rows.specs.Rows.{has_kind}
use Rattle.incidents.specs.declared.incidents.Incidents.{Incidents}
use Rattle.incidents.specs.declared.pairs.Pairs.{Pairs}
use Rattle.incidents.specs.Lives.{ends, is_up}
use Rattle.incidents.specs.Views.{views, claims, says}
use Rattle.incidents.specs.Incidents.{is_alarm, is_death}
use Rattle.incidents.specs.Returns.{returns_in}
use Rattle.incidents.specs.Lines.{whom, AreLinesOf}
use Rattle.incidents.specs.Flags.{is_up_in}
use Rattle.incidents.specs.Pairs.{has}
use Rattle.incidents.specs.Kept.{count_of, placed, AreLivesOf, AreDoubtsOf, AreCountsOf}
use Rattle.incidents.specs.Missed.{IsWholenessOf}
use Rattle.incidents.specs.Observed.{passed, AreIncidentsOf}
use Rattle.incidents.specs.Telling.{reports_nothing}
use Rattle.incidents.proofs.Turning.{turn_is_no_view, no_suspicion, no_death, no_claim}
use Rattle.incidents.proofs.Telling.{not_told, no_turn, no_view}
use Rattle.incidents.proofs.Deciding.{of_another}
use Rattle.incidents.proofs.Keeping.{doubt-push}
use Rattle.incidents.proofs.Counting.{alarms-push, deaths-push, well-push, died-push}
use Rattle.incidents.proofs.Holding.{unheard-silent, kept_one, lives-same}
use Rattle.incidents.proofs.Wholes.{views-same, since-more}
use Rattle.incidents.proofs.Living.{whom_none}
use Rattle.incidents.proofs.Listing.{lines_silent, lines_kept}

-- ---- tests

or_false : (b : Bool) → b ≡ (b || false)
or_false true = refl
or_false false = refl

neither : (a b : Bool) → a ≡ false → b ≡ false → (a || b) ≡ false
neither a b first second = ap (λ t. t || b) first ∙ second

never : (b : Bool) → false ≡ (not b && b)
never true = refl
never false = refl

-- ---- what stays

-- the doubts of one kind
doubts_stay : (kind : What) (doubts : Pairs) (incidents : Incidents) (rows : List Row) (row : Row) → reports_nothing row ≡ true
    → has_kind kind row ≡ false → AreLivesOf incidents.lives (count_of incidents.cluster) rows
    → ((a b : ℕ) → has doubts a b ≡ (is_up rows a && says kind rows a b))
    → (a b : ℕ) → has doubts a b ≡ (is_up (rows ++ row ∷ []) a && says kind (rows ++ row ∷ []) a b)
doubts_stay kind doubts incidents rows row nothing other lives are =
    let up = is_up_in incidents.lives in
    doubt-push kind up (has doubts) (has doubts) rows row (λ turn. other) lives.up are
    (kept_one views row up (λ _ _. has_kind kind row) (has doubts) (no_turn row nothing)
    (unheard-silent views row up (ap (λ v. v && up row.member) (no_view row nothing))))

-- how many false alarms and false deaths there are
counts_stay : (incidents : Incidents) (rows : List Row) (row : Row) → reports_nothing row ≡ true → incidents.counts.rows < 2 ^ 63
    → AreCountsOf incidents.counts incidents.cluster rows → AreCountsOf (passed incidents).counts incidents.cluster (rows ++ row ∷ [])
counts_stay incidents rows row nothing few are =
    let count = count_of incidents.cluster in
    let view = no_view row nothing in
    let alarm : false ≡ is_alarm count (placed rows row) =
    of_another (has_kind what.Suspect row || has_kind what.Confirm row) _ (neither _ _ (no_suspicion row view) (no_death row view)) in
    let death : false ≡ is_death count (placed rows row) = of_another (has_kind what.Confirm row) _ (no_death row view) in
    record {
      all = ap (λ n. n + 1) are.all ∙ sym (length-append rows (row ∷ []));
      few = omega (arith, few);
      alarms = alarms-push count incidents.counts.alarms _ false rows row are.alarms alarm (sym (add-zero _));
      deaths = deaths-push count incidents.counts.deaths _ false rows row are.deaths death (sym (add-zero _));
      well = well-push count _ _ incidents.counts.well _ false rows row are.well (of_another (is_death count (placed rows row)) _ (sym death)) (sym (add-zero _));
      died = λ m. died-push count m _ _ false rows row (are.died m) death (or_false _);
      members = are.members;
    }

-- who holds whom
whole_stays : (incidents : Incidents) (rows : List Row) (row : Row) → reports_nothing row ≡ true → AreLivesOf incidents.lives (count_of incidents.cluster) rows
    → IsWholenessOf incidents.whole incidents.cluster rows → IsWholenessOf (passed incidents).whole incidents.cluster (rows ++ row ∷ [])
whole_stays incidents rows row nothing lives are =
    let whole = incidents.whole in
    let up = is_up_in incidents.lives in
    let silent = unheard-silent claims row up (ap (λ c. c && up row.member) (no_claim row (no_view row nothing))) in
    let views = views-same whole incidents.cluster incidents.lives rows row (no_turn row nothing) silent are.views lives in
    record {
      views = record { odd = views.odd; missed = views.missed; members = views.members };
      since =
          since-more incidents.cluster rows row whole.missed whole.missed whole.since whole.since whole.since are.views.missed views.missed are.since refl
          (ap (λ b. if b then row.at else whole.since) (never (whole.missed == 0)));
      begins = λ is. absurd (false≢true is);
    }

-- the restarts
lines_stay : (incidents : Incidents) (rows : List Row) (row : Row) → reports_nothing row ≡ true
    → AreLinesOf incidents.lines (count_of incidents.cluster) rows → AreLinesOf incidents.lines (count_of incidents.cluster) (rows ++ row ∷ [])
lines_stay incidents rows row nothing are =
    let count = count_of incidents.cluster in
    let alive = not_told what.Alive row (λ r. refl) nothing in
    let joined = not_told what.Joined row (λ r. refl) nothing in
    let over = neither (has_kind what.Crash row) (has_kind what.Leave row) (not_told what.Crash row (λ r. refl) nothing) (not_told what.Leave row (λ r. refl) nothing) in
    let whose : whom row ≡ None = sym (whom_none row alive (neither (has_kind what.Joined row) (ends row) joined over)) in
    lines_kept incidents.lines count rows row (not_told what.Restart row (λ r. refl) nothing) (lines_silent incidents.lines count (returns_in rows) row whose are)

-- ---- all of it

pub passed_more : (incidents : Incidents) (rows : List Row) (row : Row) → reports_nothing row ≡ true → incidents.counts.rows < 2 ^ 63
    → AreIncidentsOf incidents rows → AreIncidentsOf (passed incidents) (rows ++ row ∷ [])
passed_more incidents rows row nothing few are =
    let view = no_view row nothing in
    record {
      few = are.few;
      lives = lives-same incidents.lives (count_of incidents.cluster) rows row (no_turn row nothing) are.lives;
      doubts = record {
        suspected = doubts_stay what.Suspect incidents.doubts.suspected incidents rows row nothing (no_suspicion row view) are.lives are.doubts.suspected;
        dead = doubts_stay what.Confirm incidents.doubts.dead incidents rows row nothing (no_death row view) are.lives are.doubts.dead;
        members = are.doubts.members;
        also = are.doubts.also;
      };
      counts = counts_stay incidents rows row nothing few are.counts;
      whole = whole_stays incidents rows row nothing are.lives are.whole;
      lines = lines_stay incidents rows row nothing are.lines;
    }
