-- The events and the rows that answers make, action by action.
use Rattle.std.proofs.Common.{◌≡◌, ◌≢◌, ◌⊎◌, inl, inr, ℕ, suc, ◌+◌, ◌<◌, ◌≤◌, Bool, true, false, nat_lt, if◌then◌else◌, List, [], ◌∷◌, ◌++◌, map, length, Option, Some, None, ap, ◌∙◌, sym, subst, refl, arith}
use Rattle.std.specs.Option.{IfSome}
use Rattle.std.specs.List.{AllByRecursion, range_with_len}
use Rattle.std.proofs.lemmas.List.{map-append}
use Rattle.std.proofs.lemmas.List.FromFn.{map-range_with_len_more}
use Rattle.base.specs.declared.key.Key.{Key}
use Rattle.base.specs.Run.{MakesLater}
use Rattle.base.specs.Rising.{UsesNumbers, CountsRows}
use Rattle.base.proofs.Rising.{all_append, all_weaker, rising_append}
use Rattle.scenario.specs.Setup.{Setup, IsSound, link_between, awake, member_count}
use Rattle.scenario.proofs.Pauses.{is_awake_at}
use Rattle.trace.specs.declared.row.Row.{Row}
use Rattle.trace.specs.declared.row.What.{What}
use Rattle.trace.specs.declared.row.What.TheVariants as what
use Rattle.streams.specs.Draw.{Words}
use Rattle.member.specs.Places.{place_of}
use Rattle.base.specs.declared.profile.Profile.{Profile}
use Rattle.base.specs.declared.profile.Profile.TheVariants.{Papers, Memberlist, Hashicorp}
use Rattle.scenario.specs.Profile.{profile_of}
use Rattle.member.specs.Blocks.{departs_by, on_its_way}
use Rattle.member.proofs.Ways.{departs_later, through_later}
use Rattle.member.proofs.Fair.{arrival_later, call_later, answer_later, kept_later}
use Rattle.drive_events.specs.declared.content.Content.{Content}
use Rattle.drive_events.specs.declared.content.Content.TheVariants.{Start, Restart, Crash, Leave, Timer, Message}
use Rattle.drive_answers.specs.declared.action.Action.{Action}
use Rattle.drive_answers.specs.declared.action.Action.TheVariants as action
use Rattle.drive_answers.specs.declared.action.Send as declared
use Rattle.drive_process.specs.declared.process.ProcessPhase.{ProcessPhase}
use Rattle.drive_process.specs.declared.process.ProcessPhase.TheVariants.{Waiting, Up, Leaving, Down}
use Rattle.drive_process.specs.Process.{Process, Effect, unchanged, on_process, with_row, with_number, with_event}
use Rattle.drive_process.specs.Acts.{Way, packet, call, stream, kept, way_of, arrival_by, sent_off, carried, message_of, sent, acted, all_acted}
use Rattle.drive_process.specs.Answers.{IsSoundAction, AreSoundActions, AreSoundAnswers}
use Rattle.drive_process.specs.Driven.{Answers, heeded, timer_ended, left_by, crashed, restarted, reborn, driven}
use Rattle.drive_process.specs.Fair.{IsWellMade}

length_more : (rows : List Row) (row : Row) → length (rows ++ row ∷ []) ≡ length rows + 1
length_more [] row = refl
length_more (r ∷ rows) row = ap suc (length_more rows row) ∙ omega arith

-- whichever way a message goes, it arrives no earlier than the link lets it
comes_later : (way : Way) (s : Setup) (from to now : ℕ) (words : Words) → IfSome (arrival_by way s from to now words).0 (λ at. now + (link_between s from to).delay ≤ at)
unfolding arrival_by
comes_later packet s from to now words = arrival_later s from to now words
comes_later call s from to now words = call_later s from to now words
comes_later stream s from to now words = answer_later s from to now words
comes_later kept s from to now words = kept_later s from to now words

no_sooner : (o : Option ℕ) (now departs d : ℕ) → now ≤ departs → IfSome o (λ at. departs + d ≤ at) → IfSome o (λ at. now + d ≤ at)
no_sooner None now departs d h comes = tt
no_sooner (Some at) now departs d h comes = omega (arith, h, comes)

-- also where its sender or its receiver is blocked
way_later : (profile : Profile) (way : Way) (s : Setup) (k : Key) (to : ℕ) (words : Words)
    → IfSome (on_its_way profile s k to (arrival_by way s k.to to) words).0 (λ at. k.at + (link_between s k.to to).delay ≤ at)
way_later profile way s k to words =
    let departs = departs_by profile s k in
    let drawn = (arrival_by way s k.to to departs words).0 in
    through_later profile s to (k.at + (link_between s k.to to).delay) drawn
    (no_sooner drawn k.at departs (link_between s k.to to).delay (departs_later profile s k) (comes_later way s k.to to departs words))

module _ (s : Setup) (sound : IsSound s) (k : Key) (n : ℕ) where
  fair_begin : (p : Process) → p.next_number ≡ n → IsWellMade s k n (unchanged p)
  fair_begin p same = record { later = tt; linked = tt; peopled = tt; made = tt; apart = tt; grows = omega (arith, same); counts = refl }

  -- a change of the process that keeps the next number
  fair_process : (p : Process) (o : Effect) → p.next_number ≡ o.state.next_number → IsWellMade s k n o → IsWellMade s k n (record { state = p; events = o.events; rows = o.rows })
  fair_process p o same fair = record {
    later = fair.later;
    linked = fair.linked;
    peopled = fair.peopled;
    made = subst (λ next. AllByRecursion (λ e. (e.0.from ≡ k.to) × (n ≤ e.0.number) × (e.0.number < next)) o.events) (sym same) fair.made;
    apart = fair.apart;
    grows = subst (λ next. n ≤ next) (sym same) fair.grows;
    counts = fair.counts;
  }

  fair_number : (o : Effect) → IsWellMade s k n o → IsWellMade s k n (on_process with_number o)
  unfolding with_number
  fair_number o fair = record {
    later = fair.later;
    linked = fair.linked;
    peopled = fair.peopled;
    made =
        all_weaker (λ e. (e.0.from ≡ k.to) × (n ≤ e.0.number) × (e.0.number < o.state.next_number)) (λ e. (e.0.from ≡ k.to) × (n ≤ e.0.number) × (e.0.number < o.state.next_number + 1))
        (λ e g. (g.0, g.1, let h = g.2 in omega arith)) o.events fair.made;
    apart = fair.apart;
    grows = let h = fair.grows in omega arith;
    counts = fair.counts;
  }

  fair_event : (at to : ℕ) (content : Content) (o : Effect) → k.at < at → (to ≢ k.to → k.at + (link_between s k.to to).delay ≤ at) → (to ≡ k.to) ⊎ (to < member_count s)
      → IsWellMade s k n o → IsWellMade s k n (with_event s k at to content o)
  unfolding with_event
  fair_event at to content o h linked whom fair =
      let put_off = (is_awake_at s to at).later in
      let last : Key = record { at = awake s to at; to = to; from = k.to; number = o.state.next_number } in
      record {
        later = all_append (λ e. k.at < e.0.at) o.events ((last, content) ∷ []) fair.later (omega (arith, h, put_off), tt);
        linked = all_append (λ e. e.0.to ≢ k.to → k.at + (link_between s k.to e.0.to).delay ≤ e.0.at) o.events ((last, content) ∷ []) fair.linked ((λ other. let there = linked other in omega (arith, there, put_off)), tt);
        peopled = all_append (λ e. (e.0.to ≡ k.to) ⊎ (e.0.to < member_count s)) o.events ((last, content) ∷ []) fair.peopled (whom, tt);
        made = all_append (λ e. (e.0.from ≡ k.to) × (n ≤ e.0.number) × (e.0.number < o.state.next_number + 1)) o.events ((last, content) ∷ [])
            (all_weaker (λ e. (e.0.from ≡ k.to) × (n ≤ e.0.number) × (e.0.number < o.state.next_number)) _ (λ e g. (g.0, g.1, let h = g.2 in omega arith)) o.events fair.made)
            ((refl, fair.grows, omega arith), tt);
        apart = rising_append (λ e f. e.0.number < f.0.number) o.events ((last, content) ∷ []) fair.apart (tt, tt)
            (all_weaker (λ e. (e.0.from ≡ k.to) × (n ≤ e.0.number) × (e.0.number < o.state.next_number)) _ (λ e g. (g.2, tt)) o.events fair.made);
        grows = let h = fair.grows in omega arith;
        counts = fair.counts;
      }

  fair_row : (tells : What) (about : Option ℕ) (value : ℕ) (lost : Bool) (o : Effect) → IsWellMade s k n o → IsWellMade s k n (with_row k tells about value lost o)
  unfolding with_row
  fair_row tells about value lost o fair = record {
    later = fair.later;
    linked = fair.linked;
    peopled = fair.peopled;
    made = fair.made;
    apart = fair.apart;
    grows = fair.grows;
    counts =
        map-append place_of o.rows _ ∙ ap (λ l. l ++ (k, length o.rows) ∷ []) fair.counts
        ∙ sym (map-range_with_len_more (λ i. (k, i)) 0 (length o.rows) (length o.rows) (omega arith))
        ∙ ap (λ l. map (λ i. (k, i)) (range_with_len 0 l)) (sym (length_more o.rows _));
  }

  fair_sent_off : (to : ℕ) (content : Content) (arrival : Option ℕ) (o : Effect) → IfSome arrival (λ at. k.at + (link_between s k.to to).delay ≤ at) → to < member_count s
      → IsWellMade s k n o → IsWellMade s k n (sent_off s k to content arrival o)
  fair_sent_off to content None o h member fair = fair_number o fair
  fair_sent_off to content (Some at) o h member fair = fair_event at to content o (let d = (sound.between k.to to).delay.0 in omega arith) (λ _. h) (inr member) fair

  fair_carried : (tells : What) (to value : ℕ) (content : Content) (arrival : Option ℕ × Words) (o : Effect) → IfSome arrival.0 (λ at. k.at + (link_between s k.to to).delay ≤ at) → to < member_count s
      → IsWellMade s k n o → IsWellMade s k n (carried s k tells to value content arrival o)
  unfolding carried
  fair_carried tells to value content arrival o later member fair = fair_sent_off to content arrival.0 _ later member (fair_row tells _ _ _ _ (fair_process _ o refl fair))

  fair_sent : (x : declared.Send) (o : Effect) → x.to < member_count s → IsWellMade s k n o → IsWellMade s k n (sent s k x o)
  unfolding sent
  fair_sent x o member fair = fair_carried x.what x.to x.value (message_of x) _ o (way_later (profile_of s) (way_of x.what x.stream) s k x.to o.state.words) member fair

  fair_acted : (a : Action) (o : Effect) → IsSoundAction s k.to a → IsWellMade s k n o → IsWellMade s k n (acted s k a o)
  fair_acted (action.Send x) o is fair = fair_sent x o is.0 fair
  fair_acted (action.Timer t) o is fair = fair_event (k.at + t.after) k.to (Timer t.id) o (let h = is.0 in omega arith) (λ other. absurd (other refl)) (inl refl) fair
  fair_acted (action.Noted r) o is fair = fair_row r.what r.about r.value false o fair
  fair_acted (action.Used words) o is fair = fair_process _ o refl fair
  fair_acted action.Exit o is fair = fair_row what.Exit None 0 false _ (fair_process _ o refl fair)

  fair_all : (actions : List Action) (o : Effect) → AreSoundActions s k.to actions → IsWellMade s k n o → IsWellMade s k n (all_acted s k actions o)
  unfolding all_acted
  fair_all [] o are fair = fair
  fair_all (a ∷ rest) o are fair = fair_all rest (acted s k a o) are.1 (fair_acted a o are.0 fair)

  fair_choice : (b : Bool) (actions : List Action) (o : Effect) → AreSoundActions s k.to actions → IsWellMade s k n o → IsWellMade s k n (if b then o else all_acted s k actions o)
  fair_choice true actions o are fair = fair
  fair_choice false actions o are fair = fair_all actions o are fair

  fair_timer : (actions : List Action) (o : Effect) → AreSoundActions s k.to actions → IsWellMade s k n o → IsWellMade s k n (timer_ended s k actions o)
  unfolding timer_ended
  fair_timer actions o are fair = fair_choice (nat_lt k.number o.state.birth) actions o are fair

  fair_left : (profile : Profile) (actions : List Action) (o : Effect) → AreSoundActions s k.to actions → IsWellMade s k n o → IsWellMade s k n (left_by profile s k actions o)
  fair_left Papers actions o are fair = let acted = fair_all actions _ are (fair_row what.Leave None 0 false o fair) in fair_process _ _ refl acted
  fair_left Memberlist actions o are fair = let acted = fair_all actions _ are (fair_row what.Leave None 0 false o fair) in fair_process _ _ refl acted
  fair_left Hashicorp actions o are fair = fair_all actions _ are (fair_row what.Leave None 0 false _ (fair_process _ o refl fair))

  fair_crashed : (o : Effect) → IsWellMade s k n o → IsWellMade s k n (crashed k o)
  fair_crashed o fair = fair_row what.Crash None 0 false _ (fair_process _ o refl fair)

  fair_restarted : (actions : List Action) (o : Effect) → AreSoundActions s k.to actions → IsWellMade s k n o → IsWellMade s k n (restarted s k actions o)
  unfolding reborn
  fair_restarted actions o are fair = fair_all actions _ are (fair_row what.Restart None 0 false _ (fair_process _ o refl fair))

  fair_heeded : (content : Content) (phase : ProcessPhase) (actions : List Action) (o : Effect) → AreSoundActions s k.to actions → IsWellMade s k n o → IsWellMade s k n (heeded s k content phase actions o)
  unfolding heeded
  fair_heeded Start Waiting actions o are fair = fair_all actions _ are (fair_row what.Start None 0 false _ (fair_process _ o refl fair))
  fair_heeded Restart Up actions o are fair = fair_restarted actions o are fair
  fair_heeded Restart Leaving actions o are fair = fair_restarted actions o are fair
  fair_heeded Restart Down actions o are fair = fair_restarted actions o are fair
  fair_heeded Crash Up actions o are fair = fair_crashed o fair
  fair_heeded Crash Leaving actions o are fair = fair_crashed o fair
  fair_heeded Leave Up actions o are fair = fair_left (profile_of s) actions o are fair
  fair_heeded (Timer id) Up actions o are fair = fair_timer actions o are fair
  fair_heeded (Timer id) Leaving actions o are fair = fair_timer actions o are fair
  fair_heeded (Message m) Up actions o are fair = fair_all actions o are fair
  fair_heeded (Message m) Leaving actions o are fair = fair_all actions o are fair
  fair_heeded Start Up actions o are fair = fair
  fair_heeded Start Leaving actions o are fair = fair
  fair_heeded Start Down actions o are fair = fair
  fair_heeded Restart Waiting actions o are fair = fair
  fair_heeded Crash Waiting actions o are fair = fair
  fair_heeded Crash Down actions o are fair = fair
  fair_heeded Leave Waiting actions o are fair = fair
  fair_heeded Leave Leaving actions o are fair = fair
  fair_heeded Leave Down actions o are fair = fair
  fair_heeded (Timer id) Waiting actions o are fair = fair
  fair_heeded (Timer id) Down actions o are fair = fair
  fair_heeded (Message m) Waiting actions o are fair = fair
  fair_heeded (Message m) Down actions o are fair = fair

-- whatever is answered
pub fair_driven : (s : Setup) → IsSound s → (answers : Answers) → AreSoundAnswers s answers → (k : Key) (c : Content) (p : Process) → IsWellMade s k p.next_number (driven s answers k c p)
unfolding driven
fair_driven s sound answers are k c p = fair_heeded s sound k p.next_number c p.phase (answers k) (unchanged p) (are k) (fair_begin s sound k p.next_number p refl)

pub driven_later : (s : Setup) → IsSound s → (answers : Answers) → AreSoundAnswers s answers → MakesLater (driven s answers)
driven_later s sound answers are k c p = (fair_driven s sound answers are k c p).later

pub driven_numbered : (s : Setup) → IsSound s → (answers : Answers) → AreSoundAnswers s answers → UsesNumbers (λ (p : Process). p.next_number) (driven s answers)
driven_numbered s sound answers are = record {
  made = λ k c p. (fair_driven s sound answers are k c p).made;
  apart = λ k c p. (fair_driven s sound answers are k c p).apart;
  grows = λ k c p. (fair_driven s sound answers are k c p).grows;
}

pub driven_own : (s : Setup) → IsSound s → (answers : Answers) → AreSoundAnswers s answers → (k : Key) (c : Content) (p : Process) → AllByRecursion (λ e. e.0.from ≡ k.to) (driven s answers k c p).events
driven_own s sound answers are k c p =
    all_weaker (λ e. (e.0.from ≡ k.to) × (p.next_number ≤ e.0.number) × (e.0.number < (driven s answers k c p).state.next_number)) (λ e. e.0.from ≡ k.to) (λ e g. g.0)
    (driven s answers k c p).events (fair_driven s sound answers are k c p).made

pub driven_linked : (s : Setup) → IsSound s → (answers : Answers) → AreSoundAnswers s answers → (k : Key) (c : Content) (p : Process)
    → AllByRecursion (λ e. e.0.to ≢ k.to → k.at + (link_between s k.to e.0.to).delay ≤ e.0.at) (driven s answers k c p).events
driven_linked s sound answers are k c p = (fair_driven s sound answers are k c p).linked

pub driven_counts : (s : Setup) → IsSound s → (answers : Answers) → AreSoundAnswers s answers → CountsRows place_of (driven s answers)
driven_counts s sound answers are k c p = (fair_driven s sound answers are k c p).counts

pub driven_peopled : (s : Setup) → IsSound s → (answers : Answers) → AreSoundAnswers s answers → (k : Key) (c : Content) (p : Process)
    → AllByRecursion (λ e. (e.0.to ≡ k.to) ⊎ (e.0.to < member_count s)) (driven s answers k c p).events
driven_peopled s sound answers are k c p = (fair_driven s sound answers are k c p).peopled
