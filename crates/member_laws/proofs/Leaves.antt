-- Where nobody leaves, no run has a leave or a bye, so its steps are those of the format's first version.
use Rattle.std.proofs.Common.{◌≡◌, ◌≢◌, ℕ, ◌≤◌, List, [], ◌∷◌, flat_map, find, nat_eq, Option, Some, None, option_map, All, refl, sym, ap, subst, ◌∙◌}
use Rattle.std.specs.List.{AllByRecursion}
use Rattle.std.proofs.lemmas.List.Elements.{All-from_recursion}
use Rattle.std.specs.FinMap.{get, empty}
use Rattle.base.specs.declared.key.Key.{Key}
use Rattle.base.specs.World.{Machine, settled, rows_of, Run}
use Rattle.base.proofs.Rising.{all_append}
use Rattle.base.proofs.Kept.{all_with_events}
use Rattle.scenario.specs.declared.settings.Leave.{Leave as Departure}
use Rattle.scenario.specs.Setup.{Setup, crash_of, leave_of}
use Rattle.trace.specs.declared.row.Row.{Row}
use Rattle.trace.specs.declared.row.What.{What}
use Rattle.trace.specs.declared.row.What.TheVariants as what
use Rattle.lifeguard.specs.Health.{LocalHealth}
use Rattle.base.specs.declared.profile.Profile.TheVariants.{Papers, Memberlist, Hashicorp}
use Rattle.scenario.specs.Profile.{profile_of}
use Rattle.member.specs.declared.member.Phase.{Phase}
use Rattle.member.specs.declared.member.Phase.TheVariants.{Waiting, Joining, Running, Down}
use Rattle.member.specs.declared.event_kind.EventKind.{EventKind}
use Rattle.member.specs.declared.event_kind.EventKind.TheVariants.{Crash, Leave, Bye}
use Rattle.membership.specs.Table.{Known}
use Rattle.member.specs.State.{State}
use Rattle.member.specs.Effects.{Effect, unchanged, with_row, with_event}
use Rattle.std.proofs.Common.{◌+◌, ◌++◌, map}
use Rattle.std.specs.Option.{IfSome}
use Rattle.base.specs.declared.profile.Profile.{Profile}
use Rattle.scenario.specs.Setup as setup
use Rattle.scenario.specs.Setup.{entries_of}
use Rattle.scenario.specs.Script.{crash_event, leave_event, restart_event}
use Rattle.scenario.specs.declared.settings.Crash.{Crash as ACrash}
use Rattle.scenario.specs.declared.settings.Restart.{Restart as ARestart}
use Rattle.scenario.specs.declared.script.ScriptEvent.{ScriptEvent}
use Rattle.member_laws.proofs.Scripts.{events_so}
use Rattle.member.specs.Opening.{opening, numbers, ending_event, content_of, numbered_from, script_by}
use Rattle.member.specs.Step.{plain_handled, handled, handled_by, plain_step, step}
use Rattle.member_laws.specs.Runs.{Cluster, IsRunOf, IsPlainRunOf, IsReached}
use Rattle.member_laws.proofs.Moves.{NewsMoves, OwnMoves, FactOf, keeps_news, keeps_moves, Anyone}
use Rattle.member_laws.proofs.Walk.{NamesOnly}
use Rattle.member_laws.proofs.Made.{IsPlain, MayTell, Makes, AnyTime, any_time, by_step}
use Rattle.member_laws.proofs.Switches.{carries_anyone}
use Rattle.member_laws.proofs.Reached.{AnyRow, any_row, none_pending}
use Rattle.member_laws.proofs.Runs.{IsKept, kept_after, run_kept, run_rows}

-- ---- a step

-- neither a leave nor a bye
abbrev Stays : EventKind → Type 0
Stays c = NamesOnly Anyone ⊥ c

stays_no_leave : (c : EventKind) → Stays c → c ≢ Leave
stays_no_leave c stays is = subst Stays is stays

stays_no_bye : (c : EventKind) → Stays c → c ≢ Bye
stays_no_bye c stays is = subst Stays is stays

same_handled : (s : Setup) (k : Key) (c : EventKind) (phase : Phase) (o : Effect) → c ≢ Leave → c ≢ Bye → handled s k c phase o ≡ plain_handled s k c phase o
unfolding handled
same_handled s k Leave phase o no_leave no_bye = absurd (no_leave refl)
same_handled s k Bye phase o no_leave no_bye = absurd (no_bye refl)
same_handled s k c phase o no_leave no_bye = refl

by_papers : (phase : Phase) (s : Setup) (k : Key) (c : EventKind) (o : Effect) → handled_by phase Papers s k c o ≡ handled s k c phase o
by_papers Waiting s k c o = refl
by_papers Joining s k c o = refl
by_papers Running s k c o = refl
by_papers Down s k c o = refl

pub same_step : (s : Setup) → profile_of s ≡ Papers → (k : Key) (c : EventKind) (t : State) → c ≢ Leave → c ≢ Bye → step s k c t ≡ plain_step s k c t
unfolding step plain_step
same_step s papers k c t no_leave no_bye =
    ap (λ profile. handled_by t.phase profile s k c (unchanged t)) papers ∙ by_papers t.phase s k c (unchanged t) ∙ same_handled s k c t.phase (unchanged t) no_leave no_bye

-- nothing has to be known of the state
abbrev Whatever : Phase → ℕ → LocalHealth → Known → Type 0
Whatever phase number health table = Unit {0}

abbrev AllStay : Effect → Type 0
AllStay o = AllByRecursion (λ e. Stays e.1) o.events

-- a row that records neither
abbrev TellsOfNone : What → Type 0
TellsOfNone what.Leave = ⊥
TellsOfNone what.Bye = ⊥
TellsOfNone _ = Unit {0}

abbrev AllTellOfNone : Effect → Type 0
AllTellOfNone o = AllByRecursion (λ row. TellsOfNone row.what) o.rows

plain_tells : (tells : What) → IsPlain ⊥ tells → TellsOfNone tells
plain_tells what.Leave h = absurd h
plain_tells what.Bye h = absurd h
plain_tells _ h = tt

may_tell : (s : Setup) → MayTell s (FactOf Whatever) ⊥ TellsOfNone
may_tell s = record { plain = plain_tells; nacks = λ t relay r here sends. tt; accuses = λ t u x r here. tt; healths = λ t h r r' differs. tt }

no_leave : (tells : What) → TellsOfNone tells → tells ≢ what.Leave
no_leave tells none is = subst TellsOfNone is none

no_bye : (tells : What) → TellsOfNone tells → tells ≢ what.Bye
no_bye tells none is = subst TellsOfNone is none

module _ (s : Setup) (k : Key) where
  news : NewsMoves s k Anyone (FactOf Whatever)
  news = keeps_news s k Whatever (λ t u says h. tt)

  own_moves : OwnMoves s k (FactOf Whatever)
  own_moves = record {
    refuted = λ t claim number refutes h. tt;
    weakened = λ t failures h. tt;
    mended = λ t h. tt;
    welcomed = λ t h. tt;
    downed = λ t h. tt;
    forgotten = λ t q held rules here dead h. tt;
    began = λ t waits h. tt;
    late = λ t waits h. tt;
    alone = λ t waits rules h. tt;
    again = λ t contact rules h. tt;
  }

  makes : Makes s k Anyone ⊥ AnyRow AnyTime AllStay
  unfolding with_row with_event
  makes = record {
    row = λ tells about value lost o told named h. h;
    event = λ at to content o timed there named h. all_append (λ e. Stays e.1) o.events _ h (named, tt);
    lost = λ o h. h;
    state = λ t o same h. h;
  }

  -- what is made of an event that is neither leave nor bye is neither too
  stays_step : (c : EventKind) (t : State) → Stays c → AllByRecursion (λ e. Stays e.1) (step s k c t).events
  stays_step c t stays =
      by_step s k Anyone (FactOf Whatever) news (keeps_moves s k Whatever own_moves) ⊥ AnyRow (any_row s (FactOf Whatever) ⊥) (carries_anyone s k (FactOf Whatever))
      AnyTime (any_time s k (FactOf Whatever)) AllStay makes c t tt stays (λ _. tt) (λ _. tt) (λ _. tt) (λ _ _. tt) tt

  tells : Makes s k Anyone ⊥ TellsOfNone AnyTime AllTellOfNone
  unfolding with_row with_event
  tells = record {
    row = λ tells about value lost o told named h. all_append (λ row. TellsOfNone row.what) o.rows _ h (told, tt);
    event = λ at to content o timed there named h. h;
    lost = λ o h. h;
    state = λ t o same h. h;
  }

  -- and no row records one
  tells_step : (c : EventKind) (t : State) → Stays c → AllByRecursion (λ row. TellsOfNone row.what) (step s k c t).rows
  tells_step c t stays =
      by_step s k Anyone (FactOf Whatever) news (keeps_moves s k Whatever own_moves) ⊥ TellsOfNone (may_tell s) (carries_anyone s k (FactOf Whatever))
      AnyTime (any_time s k (FactOf Whatever)) AllTellOfNone tells c t tt stays (λ _. tt) (λ _. tt) (λ _. tt) (λ _ _. tt) tt

-- ---- the opening world

nobody_leaves : (s : Setup) (m : ℕ) → s.leaves ≡ [] → leave_of s m ≡ None
nobody_leaves s m none = ap (λ (ls : List Departure). option_map (λ (l : Departure). l.at) (find (λ (l : Departure). nat_eq l.member m) ls)) none

crash_stays : (m : ℕ) (crash : Option ℕ) → AllByRecursion {X = Key × EventKind} (λ e. Stays e.1) (ending_event Crash m crash)
crash_stays m None = tt
crash_stays m (Some at) = (tt, tt)

endings_stay : (s : Setup) (m : ℕ) → s.leaves ≡ [] → AllByRecursion {X = Key × EventKind} (λ e. Stays e.1) (ending_event Crash m (crash_of s m) ++ ending_event Leave m (leave_of s m))
endings_stay s m none =
    all_append (λ e. Stays e.1) (ending_event Crash m (crash_of s m)) (ending_event Leave m (leave_of s m)) (crash_stays m (crash_of s m))
    (subst (λ (o : Option ℕ). AllByRecursion {X = Key × EventKind} (λ e. Stays e.1) (ending_event Leave m o)) (sym (nobody_leaves s m none)) tt)

-- an event of the script that is no leave
abbrev IsNoLeave : ScriptEvent → Type 0
IsNoLeave e = Stays (content_of e.kind)

some_anyone : (o : Option ℕ) → IfSome o Anyone
some_anyone None = tt
some_anyone (Some m) = tt

crashes_stay : (cs : List ACrash) → AllByRecursion IsNoLeave (map crash_event cs)
crashes_stay [] = tt
crashes_stay (c ∷ cs) = (tt, crashes_stay cs)

restarts_stay : (rs : List ARestart) → AllByRecursion IsNoLeave (map restart_event rs)
restarts_stay [] = tt
restarts_stay (r ∷ rs) = (some_anyone r.contact, restarts_stay rs)

entries_stay : (s : Setup) → s.leaves ≡ [] → AllByRecursion IsNoLeave (entries_of s)
entries_stay s none =
    all_append IsNoLeave (map crash_event s.crashes) (map leave_event s.leaves ++ map restart_event s.restarts) (crashes_stay s.crashes)
    (subst (λ (ls : List Departure). AllByRecursion IsNoLeave (map leave_event ls ++ map restart_event s.restarts)) (sym none) (restarts_stay s.restarts))

numbered_stay : (m number : ℕ) (es : List ScriptEvent) → AllByRecursion (λ (e : ScriptEvent). (e.member ≡ m) × IsNoLeave e) es → AllByRecursion {X = Key × EventKind} (λ e. Stays e.1) (numbered_from m number es)
numbered_stay m number [] h = tt
numbered_stay m number (e ∷ es) h = (h.0.1, numbered_stay m (number + 1) es h.1)

script_stays : (profile : Profile) (s : Setup) (m : ℕ) → s.leaves ≡ [] → AllByRecursion {X = Key × EventKind} (λ e. Stays e.1) (script_by profile s m)
script_stays Papers s m none = (tt, endings_stay s m none)
script_stays Memberlist s m none = (tt, endings_stay s m none)
script_stays Hashicorp s m none = (tt, numbered_stay m 1 (setup.script_of s m) (events_so IsNoLeave s (entries_stay s none) m))

scripts_stay : (s : Setup) → s.leaves ≡ [] → (ms : List ℕ) → AllByRecursion {X = Key × EventKind} (λ e. Stays e.1) (flat_map (script_by (profile_of s) s) ms)
scripts_stay s none [] = tt
scripts_stay s none (m ∷ ms) = all_append (λ e. Stays e.1) (script_by (profile_of s) s m) (flat_map (script_by (profile_of s) s) ms) (script_stays (profile_of s) s m none) (scripts_stay s none ms)

-- ---- runs

abbrev StaysAt : Key → EventKind → Type 0
StaysAt k c = Stays c

abbrev AnyState : ℕ → State → Type 0
AnyState m t = Unit {0}

-- Machines that make the same of all events that stay run alike.
module _ (one two : Machine State EventKind Row) (end : ℕ) (alike : (k : Key) (c : EventKind) (t : State) → Stays c → one k c t ≡ two k c t)
    (keeps : (k : Key) (c : EventKind) (t : State) → k.at ≤ end → StaysAt k c → AnyState k.to t → AnyState k.to (one k c t).state × AllByRecursion (λ e. StaysAt e.0 e.1) (one k c t).events) where
  outcome_alike : (k : Key) (c : EventKind) (held : Option State) → Stays c → option_map (one k c) held ≡ option_map (two k c) held
  outcome_alike k c None stays = refl
  outcome_alike k c (Some t) stays = ap Some (alike k c t stays)

  run_alike : (ks : List Key) (w v : Cluster) (rows : List Row) → IsKept one AnyState StaysAt end keeps w → Run one end w ks rows v → Run two end w ks rows v
  run_alike [] w v rows kept run = run
  run_alike (k ∷ ks) w v rows kept run =
      let next = run.4 in
      let stays = kept.events k next.content next.here in
      let same = outcome_alike k next.content (get w.members k.to) stays in
      let after = subst (IsKept one AnyState StaysAt end keeps) (sym next.world) (kept_after one AnyState StaysAt end keeps w k next.content (get w.members k.to) refl run.3 stays kept) in (
        run.0,
        run.1,
        run.2,
        run.3,
        record { content = next.content; here = next.here; least = next.least; world = next.world ∙ ap (settled w k) same; made = next.made ∙ ap rows_of same },
        run_alike ks run.0 v run.2 after run.5,
        run.6,
      )

all_rows : (rows : List Row) → AllByRecursion (λ row. TellsOfNone row.what) rows → AllByRecursion (λ row. (row.what ≢ what.Leave) × (row.what ≢ what.Bye)) rows
all_rows [] h = tt
all_rows (row ∷ rows) h = ((no_leave row.what h.0, no_bye row.what h.0), all_rows rows h.1)

module _ (s : Setup) (none : s.leaves ≡ []) where
  alike : profile_of s ≡ Papers → (k : Key) (c : EventKind) (t : State) → Stays c → step s k c t ≡ plain_step s k c t
  alike papers k c t stays = same_step s papers k c t (stays_no_leave c stays) (stays_no_bye c stays)

  keeps : (k : Key) (c : EventKind) (t : State) → k.at ≤ s.end → StaysAt k c → AnyState k.to t → AnyState k.to (step s k c t).state × AllByRecursion (λ e. StaysAt e.0 e.1) (step s k c t).events
  keeps k c t in_time stays any = (tt, stays_step s k c t stays)

  plain_keeps : profile_of s ≡ Papers → (k : Key) (c : EventKind) (t : State) → k.at ≤ s.end → StaysAt k c → AnyState k.to t → AnyState k.to (plain_step s k c t).state × AllByRecursion (λ e. StaysAt e.0 e.1) (plain_step s k c t).events
  plain_keeps papers k c t in_time stays any = (tt, subst (λ (o : Effect). AllByRecursion (λ e. StaysAt e.0 e.1) o.events) (alike papers k c t stays) (stays_step s k c t stays))

  opened : IsKept (step s) AnyState StaysAt s.end keeps (opening s)
  opened = record { members = λ m t here. tt; events = all_with_events StaysAt (flat_map (script_by (profile_of s) s) (numbers s)) empty (none_pending StaysAt) (scripts_stay s none (numbers s)) }

  plain_opened : (papers : profile_of s ≡ Papers) → IsKept (plain_step s) AnyState StaysAt s.end (plain_keeps papers) (opening s)
  plain_opened papers = record { members = λ m t here. tt; events = opened.events }

  pub no_leaves : (w : Cluster) (k : Key) (c : EventKind) → IsReached s w → get w.pending k ≡ Some c → (c ≢ Leave) × (c ≢ Bye)
  no_leaves w k c reached here =
      let stays = (run_kept (step s) AnyState StaysAt s.end keeps reached.0 (opening s) w reached.1 reached.2 opened).events k c here in
      (stays_no_leave c stays, stays_no_bye c stays)

  pub tells_of_none : (rows : List Row) → IsRunOf s rows → All (λ (row : Row). (row.what ≢ what.Leave) × (row.what ≢ what.Bye)) rows
  tells_of_none rows (keys, run) =
      All-from_recursion (λ (row : Row). (row.what ≢ what.Leave) × (row.what ≢ what.Bye)) rows
      (run_rows (step s) AnyState StaysAt s.end keeps (λ (row : Row). (row.what ≢ what.Leave) × (row.what ≢ what.Bye))
      (λ k c t stays any. all_rows (step s k c t).rows (tells_step s k c t stays)) keys (opening s) run.last rows run.run opened)

  pub to_plain : profile_of s ≡ Papers → (rows : List Row) → IsRunOf s rows → IsPlainRunOf s rows
  to_plain papers rows (keys, run) = (keys, record { last = run.last; run = run_alike (step s) (plain_step s) s.end (alike papers) keeps keys (opening s) run.last rows opened run.run; over = run.over })

  pub from_plain : profile_of s ≡ Papers → (rows : List Row) → IsPlainRunOf s rows → IsRunOf s rows
  from_plain papers rows (keys, run) = (
    keys,
    record {
      last = run.last;
      run = run_alike (plain_step s) (step s) s.end (λ k c t stays. sym (alike papers k c t stays)) (plain_keeps papers) keys (opening s) run.last rows (plain_opened papers) run.run;
      over = run.over;
    },
  )
