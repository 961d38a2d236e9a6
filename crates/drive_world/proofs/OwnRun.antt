-- Our own members over the protocol write the rows of the run.
use Rattle.std.proofs.Common.{◌≡◌, ℕ, ◌≤◌, Bool, true, false, cond, nat_lt, if◌then◌else◌, List, [], ◌∷◌, ◌++◌, flat_map, Option, Some, None, ap, ◌∙◌, sym, subst, refl}
use Rattle.std.specs.Option.{option_map, is_some}
use Rattle.std.specs.List.{AllByRecursion}
use Rattle.std.specs.Ordering.{nat_cmp, eq_by_cmp}
use Rattle.std.specs.Cmp.{nat_cmp_total, unsigned_tied}
use Rattle.std.specs.FinMap.{FinMap, get, contains_key, insert, remove, empty, get-insert, get-empty}
use Rattle.std.proofs.lemmas.Bool.{false≢true, eqb-true}
use Rattle.std.proofs.lemmas.List.{map-append}
use Rattle.base.specs.declared.key.Key.{Key}
use Rattle.base.specs.Order.{key_cmp}
use Rattle.base.specs.Rising.{IsNumbered, AreNew}
use Rattle.base.specs.Run.{trace, handled, run-exists, run_more, one_run}
use Rattle.base.specs.World.{World, IsOver, settled, rows_of, events_of, outcome, with_events, NextStep, Run, SequentialRun}
use Rattle.base.proofs.Rising.{all_weaker, numbered_step, new_step}
use Rattle.scenario.specs.Setup.{Setup, IsSound, start_of, crash_of, leave_of, is_fourth}
use Rattle.scenario.specs.Profile.{profile_of_version, profile_of}
use Rattle.schema.specs.declared.schema.Version.{Version}
use Rattle.schema.specs.declared.schema.Version.TheVariants.{One, Two, Three, Four}
use Rattle.trace.specs.declared.row.Row.{Row}
use Rattle.member.specs.declared.event_kind.EventKind.{EventKind}
use Rattle.member.specs.declared.event_kind.EventKind.TheVariants as own
use Rattle.member.specs.State.{State}
use Rattle.member.specs.Step.{step}
use Rattle.member.specs.Opening as own_opening
use Rattle.member.proofs.Fair.{steps_later}
use Rattle.member_laws.specs.Runs.{Cluster, IsRunOf, IsReached}
use Rattle.member_laws.proofs.Opened.{opening_numbered}
use Rattle.drive_events.specs.declared.content.Content.{Content}
use Rattle.drive_events.specs.declared.content.Content.TheVariants as content
use Rattle.drive_process.specs.declared.process.ProcessPhase.{ProcessPhase}
use Rattle.drive_process.specs.declared.process.ProcessPhase.TheVariants.{Waiting, Up, Leaving, Down}
use Rattle.drive_process.specs.Acts.{all_acted}
use Rattle.drive_process.specs.Answers.{AreSoundAnswers}
use Rattle.drive_process.specs.Driven.{Answers, driven, heeded, timer_ended, opening, script_by, endings_of, ending}
use Rattle.drive_process.specs.Own.{process_in, written_by, Says}
use Rattle.drive_process.specs.Process.{Process, Effect, unchanged}
use Rattle.drive_process.proofs.Fair.{driven_later, driven_numbered}
use Rattle.drive_world.specs.Drives.{IsEncoding, SaysAll, is_script_content}
use Rattle.drive_world.proofs.Alike.{IsLike, AreLike, like_removed, like_without_idle, like_inserted, like_events, HasProcesses, with_process, opened_processes}

-- ---- nothing is done

-- an event that isn't of the script, and is answered by nothing, changes nothing
as_it_was : (b : Bool) (o : Effect) → (if b then o else o) ≡ o
as_it_was true o = refl
as_it_was false o = refl

quiet : (s : Setup) (k : Key) (d : Content) (phase : ProcessPhase) (o : Effect) → is_script_content d ≡ false → heeded s k d phase [] o ≡ o
unfolding heeded timer_ended all_acted
quiet s k content.Start phase o is = absurd (false≢true (sym is))
quiet s k content.Restart phase o is = absurd (false≢true (sym is))
quiet s k content.Crash phase o is = absurd (false≢true (sym is))
quiet s k content.Leave phase o is = absurd (false≢true (sym is))
quiet s k (content.Timer id) Waiting o is = refl
quiet s k (content.Timer id) Up o is = as_it_was (nat_lt k.number o.state.birth) o
quiet s k (content.Timer id) Leaving o is = as_it_was (nat_lt k.number o.state.birth) o
quiet s k (content.Timer id) Down o is = refl
quiet s k (content.Message m) Waiting o is = refl
quiet s k (content.Message m) Up o is = refl
quiet s k (content.Message m) Leaving o is = refl
quiet s k (content.Message m) Down o is = refl

quiet_by : (s : Setup) (answers : Answers) (k : Key) (d : Content) (held : Option Process) → is_script_content d ≡ false → answers k ≡ []
    → option_map (driven s answers k d) held ≡ option_map unchanged held
unfolding driven
quiet_by s answers k d None is none = refl
quiet_by s answers k d (Some p) is none =
    ap Some (ap (λ actions. heeded s k d p.phase actions (unchanged p)) none ∙ quiet s k d p.phase (unchanged p) is)

no_rows : (held : Option Process) → rows_of (option_map unchanged held) ≡ []
no_rows None = refl
no_rows (Some p) = refl

put_back : (v : FinMap nat_cmp Process) (m n : ℕ) (p : Process) (b : Bool) → eq_by_cmp nat_cmp n m ≡ b → get v m ≡ Some p → cond b (Some p) (get v n) ≡ get v n
put_back v m n p true e there = sym there ∙ ap (get v) (sym (eqb-true n m (sym (unsigned_tied n m) ∙ e)))
put_back v m n p false e there = refl

-- ---- worlds that are alike

pub record AreAlike (encode : EventKind → Content) (Idle : Key → Content → Type 0) (w : Cluster) (v : World Process Content) : Type 0 where
  pub members : HasProcesses w.members v.members
  pub pending : AreLike encode Idle w.pending v.pending

there_too : (encode : EventKind → Content) (Idle : Key → Content → Type 0) (q : Key) (o : Option EventKind) (p : Option Content) → IsLike encode Idle q o p → is_some o ≡ true → is_some p ≡ true
there_too encode Idle q None p like here = absurd (false≢true here)
there_too encode Idle q (Some c) None like here = absurd like
there_too encode Idle q (Some c) (Some d) like here = refl

gone_too : (encode : EventKind → Content) (Idle : Key → Content → Type 0) (q : Key) (o : Option EventKind) (p : Option Content) → IsLike encode Idle q o p → is_some p ≡ false → o ≡ None
gone_too encode Idle q None p like gone = refl
gone_too encode Idle q (Some c) None like gone = absurd like
gone_too encode Idle q (Some c) (Some d) like gone = absurd (false≢true (sym gone))

module _ (s : Setup) (sound : IsSound s) (encode : EventKind → Content) (Idle : Key → Content → Type 0) (answers : Answers) (are : AreSoundAnswers s answers) (code : IsEncoding encode)
    (says : SaysAll s encode Idle answers) where
  -- an idle event is handled in the world of the drive alone
  module _ (w : Cluster) (v : World Process Content) (k : Key) (like : AreAlike encode Idle w v) (none : get w.pending k ≡ None) where
    idle_by : (held : Option Process) → get v.members k.to ≡ held → AreAlike encode Idle w (settled v k (option_map unchanged held))
    idle_by None there = record { members = like.members; pending = like_without_idle encode Idle w.pending v.pending k none like.pending }
    idle_by (Some p) there = record {
      members = λ n. get-insert nat_cmp_total v.members k.to p n ∙ put_back v.members k.to n p (eq_by_cmp nat_cmp n k.to) refl there ∙ like.members n;
      pending = like_without_idle encode Idle w.pending v.pending k none like.pending;
    }

  -- an event of both is handled in both
  module _ (w : Cluster) (v : World Process Content) (k : Key) (c : EventKind) (like : AreAlike encode Idle w v) (reached : IsReached s w) (here : get w.pending k ≡ Some c) (in_time : k.at ≤ s.end) where
    new_here : (es : List (Key × Content)) → AllByRecursion (λ e. contains_key (remove v.pending k) e.0 ≡ false) es → AllByRecursion (λ e. get (remove w.pending k) e.0 ≡ None) es
    new_here es all =
        all_weaker (λ e. contains_key (remove v.pending k) e.0 ≡ false) (λ e. get (remove w.pending k) e.0 ≡ None)
        (λ e gone. gone_too encode Idle e.0 (get (remove w.pending k) e.0) (get (remove v.pending k) e.0) (like_removed encode Idle w.pending v.pending k like.pending e.0) gone) es all

    own_by : (held : Option State) → get w.members k.to ≡ held → AreNew (remove v.pending k) (events_of (option_map (driven s answers k (encode c)) (option_map process_in held)))
        → (rows_of (option_map (driven s answers k (encode c)) (option_map process_in held)) ≡ rows_of (option_map (step s k c) held))
        × AreAlike encode Idle (settled w k (option_map (step s k c) held)) (settled v k (option_map (driven s answers k (encode c)) (option_map process_in held)))
    unfolding driven
    own_by None there new = (refl, record { members = like.members; pending = like_removed encode Idle w.pending v.pending k like.pending })
    own_by (Some t) there new =
        let said : Says s encode Idle k c t (answers k) = says.says w k c t reached here there in_time in (
          said.rows,
          record {
            members = subst (λ p. HasProcesses (insert w.members k.to (step s k c t).state) (insert v.members k.to p)) (sym said.state) (with_process w.members v.members k.to (step s k c t).state like.members);
            pending = like_events encode Idle (driven s answers k (encode c) (process_in t)).events (step s k c t).events (remove w.pending k) (remove v.pending k)
                (like_removed encode Idle w.pending v.pending k like.pending) said.events
                (new_here (driven s answers k (encode c) (process_in t)).events new.unlike_pending) new.unlike_each_other;
          },
        )

    own_step : IsNumbered (λ (p : Process). p.next_number) v
        → (rows_of (outcome (driven s answers) v k (encode c)) ≡ rows_of (outcome (step s) w k c))
        × AreAlike encode Idle (settled w k (outcome (step s) w k c)) (settled v k (outcome (driven s answers) v k (encode c)))
    own_step numbered =
        let held : get v.members k.to ≡ option_map process_in (get w.members k.to) = like.members k.to in
        let new : AreNew (remove v.pending k) (events_of (option_map (driven s answers k (encode c)) (option_map process_in (get w.members k.to)))) =
        subst (λ o. AreNew (remove v.pending k) (events_of (option_map (driven s answers k (encode c)) o))) held
        (new_step (λ (p : Process). p.next_number) (driven s answers) (driven_numbered s sound answers are) v k (encode c) numbered) in
        subst
        (λ o. (rows_of (option_map (driven s answers k (encode c)) o) ≡ rows_of (outcome (step s) w k c))
        × AreAlike encode Idle (settled w k (outcome (step s) w k c)) (settled v k (option_map (driven s answers k (encode c)) o)))
        (sym held) (own_by (get w.members k.to) refl new)

  -- a run of our own members that goes on to the end with these rows
  abbrev Found : Cluster → List Row → Type 0
  Found w rows = (keys : List Key) × (u : Cluster) × Run (step s) s.end w keys rows u × IsOver s.end u

  -- one step of the drive's run, where what comes after it is found
  module _ (k : Key) (w : Cluster) (v mid : World Process Content) (rows made more : List Row) (like : AreAlike encode Idle w v) (reached : IsReached s w)
      (numbered : IsNumbered (λ (p : Process). p.next_number) v) (in_time : k.at ≤ s.end) (next : NextStep (driven s answers) v k mid made) (all : rows ≡ made ++ more)
      (onward : (u : Cluster) → AreAlike encode Idle u mid → IsReached s u → Found u more) where
    idle_way : get w.pending k ≡ None → Found w rows
    idle_way none =
        let idle : Idle k next.content = subst (λ o. IsLike encode Idle k o (Some next.content)) none (subst (IsLike encode Idle k (get w.pending k)) next.here (like.pending k)) in
        let is = says.idle k next.content idle in
        let same : outcome (driven s answers) v k next.content ≡ option_map unchanged (get v.members k.to) = quiet_by s answers k next.content (get v.members k.to) is.0 is.2 in
        let there : AreAlike encode Idle w mid = subst (AreAlike encode Idle w) (sym (next.world ∙ ap (settled v k) same)) (idle_by w v k like none (get v.members k.to) refl) in
        let found = onward w there reached in
        let empty_rows : made ≡ [] = next.made ∙ ap rows_of same ∙ no_rows (get v.members k.to) in
        (found.0, found.1, subst (λ l. Run (step s) s.end w found.0 l found.1) (sym (all ∙ ap (λ l. l ++ more) empty_rows)) found.2, found.3)

    own_way : (c : EventKind) → get w.pending k ≡ Some c → Found w rows
    own_way c here =
        let written : next.content ≡ encode c = subst (λ o. IsLike encode Idle k o (Some next.content)) here (subst (IsLike encode Idle k (get w.pending k)) next.here (like.pending k)) in
        let both = own_step w v k c like reached here in_time numbered in
        let u : Cluster = settled w k (outcome (step s) w k c) in
        let first : NextStep (step s) w k u (rows_of (outcome (step s) w k c)) = record {
          content = c;
          here = here;
          least = λ q pends. next.least q (there_too encode Idle q (get w.pending q) (get v.pending q) (like.pending q) pends);
          world = refl;
          made = refl;
        } in
        let there : AreAlike encode Idle u mid = subst (AreAlike encode Idle u) (sym (next.world ∙ ap (λ d. settled v k (outcome (driven s answers) v k d)) written)) both.1 in
        let same : made ≡ rows_of (outcome (step s) w k c) = next.made ∙ ap (λ d. rows_of (outcome (driven s answers) v k d)) written ∙ both.0 in
        let further : IsReached s u = (
          reached.0 ++ k ∷ [],
          reached.1 ++ rows_of (outcome (step s) w k c),
          run_more (step s) (steps_later s sound) s.end reached.0 (own_opening.opening s) w u reached.1 (rows_of (outcome (step s) w k c)) k reached.2 in_time first,
        ) in
        let found = onward u there further in
        (k ∷ found.0, found.1, (u, rows_of (outcome (step s) w k c), more, in_time, first, found.2, all ∙ ap (λ l. l ++ more) same), found.3)

    by_own : (o : Option EventKind) → get w.pending k ≡ o → Found w rows
    by_own None here = idle_way here
    by_own (Some c) here = own_way c here

  -- what the drive's run leads to, a run of our own members leads to, with the same rows
  goes : (ks : List Key) (w : Cluster) (v last : World Process Content) (rows : List Row) → AreAlike encode Idle w v → IsReached s w → IsNumbered (λ (p : Process). p.next_number) v
      → Run (driven s answers) s.end v ks rows last → IsOver s.end last → Found w rows
  goes [] w v last rows like reached numbered run over = (
    [],
    w,
    (refl, run.1),
    λ q here. subst (IsOver s.end) run.0 over q (there_too encode Idle q (get w.pending q) (get v.pending q) (like.pending q) here),
  )
  goes (k ∷ ks) w v last rows like reached numbered run over =
      by_own k w v run.0 rows run.1 run.2 like reached numbered run.3 run.4 run.6
      (λ u alike reach. goes ks u run.0 last run.2 alike reach
      (numbered_step (λ (p : Process). p.next_number) (driven s answers) (driven_numbered s sound answers are) v run.0 k run.1 numbered run.4) run.5 over)
      (get w.pending k) refl

-- ---- where both begin

module _ (s : Setup) (earlier : is_fourth s.version ≡ false) (encode : EventKind → Content) (code : IsEncoding encode) where
  written_ending : (c : EventKind) (d : Content) (m : ℕ) (at : Option ℕ) → encode c ≡ d → written_by encode (own_opening.ending_event c m at) ≡ ending d m at
  written_ending c d m None is = refl
  written_ending c d m (Some at) is = ap (λ x. (own_opening.script_key m at 1, x) ∷ []) is

  written_script : (m : ℕ) → written_by encode (own_opening.script_of s m) ≡ (own_opening.script_key m (start_of s m) 0, content.Start) ∷ endings_of s m
  written_script m =
      let crash = written_ending own.Crash content.Crash m (crash_of s m) code.crash in
      let leave = written_ending own.Leave content.Leave m (leave_of s m) code.leave in
      (λ i. (own_opening.script_key m (start_of s m) 0, code.start i) ∷ map-append (λ (e : Key × EventKind). (e.0, encode e.1)) (own_opening.ending_event own.Crash m (crash_of s m)) (own_opening.ending_event own.Leave m (leave_of s m)) i)
      ∙ (λ i. (own_opening.script_key m (start_of s m) 0, content.Start) ∷ (crash i ++ leave i))

  -- versions 1 to 3 have one script
  written_by_version : (v : Version) (m : ℕ) → is_fourth v ≡ false → written_by encode (own_opening.script_by (profile_of_version v) s m) ≡ script_by (profile_of_version v) s m
  written_by_version One m is = written_script m
  written_by_version Two m is = written_script m
  written_by_version Three m is = written_script m
  written_by_version Four m is = absurd (false≢true (sym is))

  written_own : (m : ℕ) → written_by encode (own_opening.script_by (profile_of s) s m) ≡ script_by (profile_of s) s m
  written_own m = written_by_version s.version m earlier

  written_scripts : (members : List ℕ) → written_by encode (flat_map (own_opening.script_by (profile_of s) s) members) ≡ flat_map (script_by (profile_of s) s) members
  written_scripts [] = refl
  written_scripts (m ∷ members) =
      map-append (λ (e : Key × EventKind). (e.0, encode e.1)) (own_opening.script_by (profile_of s) s m) (flat_map (own_opening.script_by (profile_of s) s) members)
      ∙ (λ i. written_own m i ++ written_scripts members i)

  like_written : (Idle : Key → Content → Type 0) (fs : List (Key × EventKind)) (r : FinMap key_cmp EventKind) (p : FinMap key_cmp Content) → AreLike encode Idle r p
      → AreLike encode Idle (with_events r fs) (with_events p (written_by encode fs))
  like_written Idle [] r p all = all
  like_written Idle (f ∷ fs) r p all = like_written Idle fs (insert r f.0 f.1) (insert p f.0 (encode f.1)) (like_inserted encode Idle r p f.0 f.1 all)

  like_empty : (Idle : Key → Content → Type 0) → AreLike encode Idle empty empty
  like_empty Idle q = subst (λ o. IsLike encode Idle q o (get {R = key_cmp} empty q)) (sym (get-empty key_cmp q)) (subst (IsLike encode Idle q None) (sym (get-empty key_cmp q)) tt)

  pub alike_at_first : (Idle : Key → Content → Type 0) → AreAlike encode Idle (own_opening.opening s) (opening s)
  alike_at_first Idle = record {
    members = opened_processes s (own_opening.numbers s);
    pending = subst (λ es. AreLike encode Idle (with_events empty (flat_map (own_opening.script_by (profile_of s) s) (own_opening.numbers s))) (with_events empty es)) (written_scripts (own_opening.numbers s))
        (like_written Idle (flat_map (own_opening.script_by (profile_of s) s) (own_opening.numbers s)) empty empty (like_empty Idle));
  }

  -- with no idle event: what pends in the one pends in the other
  back : (q : Key) (o : Option EventKind) (p : Option Content) → IsLike encode (λ k d. ⊥) q o p → is_some p ≡ true → is_some o ≡ true
  back q None None like here = absurd (false≢true here)
  back q None (Some d) like here = absurd like
  back q (Some c) p like here = refl

  pub numbered_at_first : IsNumbered (λ (p : Process). p.next_number) (opening s)
  numbered_at_first q here =
      let like = alike_at_first (λ k d. ⊥) in
      let used = opening_numbered s q (back q (get (own_opening.opening s).pending q) (get (opening s).pending q) (like.pending q) here) in
      (process_in used.0, like.members q.from ∙ ap (option_map process_in) used.1, used.2)

pub own_run : (s : Setup) (sound : IsSound s) (earlier : is_fourth s.version ≡ false) (encode : EventKind → Content) (Idle : Key → Content → Type 0) (answers : Answers) (rows : List Row) → AreSoundAnswers s answers → IsEncoding encode
    → SaysAll s encode Idle answers → IsRunOf s rows → (keys : List Key) × SequentialRun (driven s answers) s.end (opening s) keys rows
own_run s sound earlier encode Idle answers rows are code says is =
    let later = driven_later s sound answers are in
    let whole = run-exists (driven s answers) later s.end (opening s) in
    let keys = handled (driven s answers) later s.end (opening s) in
    let found =
    goes s sound encode Idle answers are code says keys (own_opening.opening s) (opening s) whole.last (trace (driven s answers) later s.end (opening s))
    (alike_at_first s earlier encode code Idle) ([], [], (refl, refl)) (numbered_at_first s earlier encode code) whole.run whole.over in
    let same =
    one_run (step s) (steps_later s sound) s.end found.0 is.0 (own_opening.opening s) found.1 is.1.last (trace (driven s answers) later s.end (opening s)) rows found.2 found.3 is.1.run is.1.over in
    (keys, subst (SequentialRun (driven s answers) s.end (opening s) keys) same.1 whole)
