-- Each event that pends in a drive is for a member, so what is made for others comes far.
use Rattle.std.proofs.Common.{◌≡◌, ◌≢◌, ◌⊎◌, inl, inr, ℕ, zero, suc, ◌+◌, ◌<◌, ◌≤◌, true, List, [], ◌∷◌, flat_map, Option, Some, None, ap, ◌∙◌, sym, subst, refl, arith}
use Rattle.std.specs.Option.{is_some}
use Rattle.std.specs.List.{AllByRecursion, range_with_len}
use Rattle.std.specs.FinMap.{FinMap, get, contains_key, empty, get-empty}
use Rattle.std.proofs.lemmas.Bool.{false≢true}
use Rattle.base.specs.declared.key.Key.{Key}
use Rattle.base.specs.Order.{key_cmp}
use Rattle.base.specs.World.{World, IsPending, events_of, outcome}
use Rattle.base.specs.Run.{holds-with_events}
use Rattle.base.proofs.Rising.{all_append, all_weaker}
use Rattle.base.specs.declared.profile.Profile.{Profile}
use Rattle.base.specs.declared.profile.Profile.TheVariants.{Papers, Memberlist, Hashicorp}
use Rattle.scenario.specs.Setup as setup
use Rattle.scenario.specs.Setup.{Setup, IsSound, link_between, member_count, start_of, crash_of, leave_of}
use Rattle.scenario.specs.Profile.{profile_of}
use Rattle.scenario.specs.declared.script.ScriptEvent.{ScriptEvent}
use Rattle.windows.specs.Cluster.{IsLeastDelay}
use Rattle.windows.specs.Delays.{ComesFar, KeepsFar}
use Rattle.windows.proofs.Early.{made_all}
use Rattle.windows.proofs.Far.{all_both}
use Rattle.windows.proofs.Safety.{holds_made}
use Rattle.member.specs.Opening.{numbers, script_key}
use Rattle.drive_events.specs.declared.content.Content.{Content}
use Rattle.drive_events.specs.declared.content.Content.TheVariants.{Crash, Leave}
use Rattle.drive_process.specs.Answers.{AreSoundAnswers}
use Rattle.drive_process.specs.Driven.{Answers, driven, opening, script_by, endings_of, ending, numbered_from}
use Rattle.drive_process.specs.Process.{Process}
use Rattle.drive_process.proofs.Fair.{driven_linked, driven_peopled}

-- each event that pends is for a member
abbrev pub IsForMembers : Setup → World Process Content → Type 0
IsForMembers s w = (q : Key) → IsPending w q → q.to < member_count s

far_by : (s : Setup) (d : Option ℕ) (k e : Key) → IsLeastDelay s d → k.to < member_count s → e.to < member_count s
    → (e.to ≢ k.to → k.at + (link_between s k.to e.to).delay ≤ e.at) → ComesFar d k e
far_by s None k e alone here there linked = omega (arith, alone)
far_by s (Some d) k e least here there linked =
    λ other. let h = least.1 k.to e.to (record { sender = here; receiver = there; different = λ same. other (sym same) }) in let l = linked other in omega arith

member_by : (s : Setup) (k e : Key) → k.to < member_count s → (e.to ≡ k.to) ⊎ (e.to < member_count s) → e.to < member_count s
member_by s k e here (inl same) = subst (λ m. m < member_count s) (sym same) here
member_by s k e here (inr there) = there

module _ (s : Setup) (sound : IsSound s) (answers : Answers) (are : AreSoundAnswers s answers) where
  made_peopled : (w : World Process Content) (k : Key) (c : Content) → k.to < member_count s → AllByRecursion (λ e. e.0.to < member_count s) (events_of (outcome (driven s answers) w k c))
  made_peopled w k c here =
      all_weaker (λ e. (e.0.to ≡ k.to) ⊎ (e.0.to < member_count s)) (λ e. e.0.to < member_count s) (λ e whom. member_by s k e.0 here whom)
      (events_of (outcome (driven s answers) w k c))
      (made_all (driven s answers) (λ k e. (e.to ≡ k.to) ⊎ (e.to < member_count s)) (driven_peopled s sound answers are) k c (get w.members k.to))

  made_linked : (w : World Process Content) (k : Key) (c : Content)
      → AllByRecursion (λ e. e.0.to ≢ k.to → k.at + (link_between s k.to e.0.to).delay ≤ e.0.at) (events_of (outcome (driven s answers) w k c))
  made_linked w k c = made_all (driven s answers) (λ k e. e.to ≢ k.to → k.at + (link_between s k.to e.to).delay ≤ e.at) (driven_linked s sound answers are) k c (get w.members k.to)

  pub keeps_far : (least_delay : Option ℕ) → IsLeastDelay s least_delay → KeepsFar s.end least_delay (IsForMembers s) (driven s answers)
  keeps_far d least = record {
    stays = λ w k c fact here in_time. holds_made (driven s answers) (λ q. q.to < member_count s) w k c fact (made_peopled w k c (fact k (ap is_some here)));
    far = λ w k c fact here in_time.
        let me = fact k (ap is_some here) in
        all_weaker (λ e. (e.0.to < member_count s) × (e.0.to ≢ k.to → k.at + (link_between s k.to e.0.to).delay ≤ e.0.at)) (λ e. ComesFar d k e.0)
        (λ e both. far_by s d k e.0 least me both.0 both.1) (events_of (outcome (driven s answers) w k c))
        (all_both (λ e. e.0.to < member_count s) (λ e. e.0.to ≢ k.to → k.at + (link_between s k.to e.0.to).delay ≤ e.0.at) (events_of (outcome (driven s answers) w k c))
        (made_peopled w k c me) (made_linked w k c));
  }

-- ---- where a drive begins

-- what holds of each key of a member's script holds of its events
module _ (P : Key → Type 0) (s : Setup) (m : ℕ) (scripted : (at number : ℕ) → P (script_key m at number)) where
  ending_holds : (content : Content) (at : Option ℕ) → AllByRecursion (λ e. P e.0) (ending content m at)
  ending_holds content None = tt
  ending_holds content (Some at) = (scripted at 1, tt)

  endings_hold : AllByRecursion (λ e. P e.0) (endings_of s m)
  endings_hold = all_append (λ e. P e.0) (ending Crash m (crash_of s m)) (ending Leave m (leave_of s m)) (ending_holds Crash (crash_of s m)) (ending_holds Leave (leave_of s m))

  numbered_hold : (number : ℕ) (events : List ScriptEvent) → AllByRecursion (λ e. P e.0) (numbered_from m number events)
  numbered_hold number [] = tt
  numbered_hold number (e ∷ es) = (scripted e.at number, numbered_hold (number + 1) es)

  pub script_holds : (profile : Profile) → AllByRecursion (λ e. P e.0) (script_by profile s m)
  script_holds Papers = (scripted (start_of s m) 0, endings_hold)
  script_holds Memberlist = (scripted (start_of s m) 0, endings_hold)
  script_holds Hashicorp = (scripted (start_of s m) 0, numbered_hold 1 (setup.script_of s m))

pub scripts_hold : (P : Key → Type 0) (s : Setup) (members : List ℕ) → AllByRecursion (λ m. (at number : ℕ) → P (script_key m at number)) members
    → AllByRecursion (λ e. P e.0) (flat_map (script_by (profile_of s) s) members)
scripts_hold P s [] all = tt
scripts_hold P s (m ∷ members) all =
    all_append (λ e. P e.0) (script_by (profile_of s) s m) (flat_map (script_by (profile_of s) s) members) (script_holds P s m all.0 (profile_of s)) (scripts_hold P s members all.1)

below : (from count n : ℕ) → from + count ≤ n → AllByRecursion (λ m. m < n) (range_with_len from count)
below from zero n h = tt
below from (suc count) n h = (omega (arith, h), below (from + 1) count n (omega (arith, h)))

none_there : (pending : FinMap key_cmp Content) (q : Key) → pending ≡ empty → contains_key pending q ≡ true → ⊥
none_there pending q is here = false≢true (sym (ap is_some (ap (λ (m : FinMap key_cmp Content). get m q) is ∙ get-empty key_cmp q)) ∙ here)

-- the events of a member's script are for it, and of it
pub opening_holds : (P : Key → Type 0) (s : Setup) → ((m at number : ℕ) → m < member_count s → P (script_key m at number)) → (q : Key) → IsPending (opening s) q → P q
opening_holds P s scripted =
    holds-with_events P (flat_map (script_by (profile_of s) s) (numbers s)) empty (λ q here. absurd (none_there empty q refl here))
    (scripts_hold P s (numbers s)
    (all_weaker (λ m. m < member_count s) (λ m. (at number : ℕ) → P (script_key m at number)) (λ m low at number. scripted m at number low) (numbers s)
    (below 0 (member_count s) (member_count s) (omega arith))))

pub opening_people : (s : Setup) → IsForMembers s (opening s)
opening_people s = opening_holds (λ q. q.to < member_count s) s (λ m at number low. low)

pub opening_senders : (s : Setup) (q : Key) → IsPending (opening s) q → q.from < member_count s
opening_senders s = opening_holds (λ q. q.from < member_count s) s (λ m at number low. low)
