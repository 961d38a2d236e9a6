-- Members that are put into their parts, one after the other.
use Rattle.std.proofs.Common.{◌≡◌, ℕ, zero, suc, ◌+◌, ◌<◌, Bool, true, false, cond, eqb, List, [], ◌∷◌, ◌++◌, length, Option, Some, None, slice_set, ap, ◌∙◌, sym, subst, refl, arith}
use Rattle.std.specs.Option.{option_map}
use Rattle.std.specs.List.{AllByRecursion, slice_get}
use Rattle.std.specs.Cmp.{IsTotalOrder, nat_cmp_total}
use Rattle.std.specs.declared.cmp.Ordering.{Ordering}
use Rattle.std.specs.FinMap.{FinMap, IsAntisymmetric, nat_cmp-IsAntisymmetric, empty, retain_keys, get-empty, same_map}
use Rattle.std.proofs.lemmas.Bool.{eqb-true, eqb-false, eq-eqb}
use Rattle.std.proofs.lemmas.List.Elements.{filter-append}
use Rattle.std.proofs.lemmas.Option.{slice_get_within}
use Rattle.base.specs.declared.key.Key.{Key}
use Rattle.base.specs.Order.{key_cmp, key_total, key_exact}
use Rattle.base.specs.World.{IsPending, with_events}
use Rattle.base.specs.declared.profile.Profile.{Profile}
use Rattle.base.specs.declared.profile.Profile.TheVariants.{Papers, Memberlist, Hashicorp}
use Rattle.scenario.specs.Profile.{profile_of}
use Rattle.scenario.specs.Setup as setup
use Rattle.scenario.specs.Setup.{Setup, start_of, crash_of, leave_of}
use Rattle.scenario.specs.declared.script.ScriptEvent.{ScriptEvent}
use Rattle.scenario.specs.Division.{Deal}
use Rattle.member.specs.declared.event_kind.EventKind.{EventKind}
use Rattle.member.specs.declared.event_kind.EventKind.TheVariants.{Start, Crash, Leave}
use Rattle.member.specs.declared.event.Event.{Event}
use Rattle.member.specs.Opening.{opening_state, script_key, ending_event, numbered_from, content_of, script_of, whole_script_of, script_by}
use Rattle.member.specs.State.{State}
use Rattle.member_laws.specs.Runs.{Cluster}
use Rattle.windows.specs.declared.part.Part.{Part}
use Rattle.windows.specs.Parts.{part_of, is_in, for_own}
use Rattle.windows.specs.WorldOf.{world_of}
use Rattle.windows.proofs.Cuts.{get_retained, retain_insert, retain_insert_other, retain_events}
use Rattle.windows.specs.Admitting.{AreFromBelow, with_member, opened_below}
use Rattle.windows.proofs.Admitting.{scripts_from_below, one_more_opened}
use Rattle.windows.proofs.Wholes.{pending_kept}
use Rattle.lookahead.specs.Between.{part_number}
use Rattle.windows.specs.Several.{numbers_of}
use Rattle.turns.specs.Parts.{nobody, CountFrom, StandFor}
use Rattle.turns.proofs.Coming.{same_count, at_place, elsewhere, same_numbers}
use Rattle.turns.proofs.Turning.{world_at}

-- ---- a part of it

none_either : {X : Type 0} (b : Bool) → ◌≡◌ {A = Option X} (cond b None None) None
none_either true = refl
none_either false = refl

retain_none : {K : Type 0} (X : Type 0) {R : K → K → Ordering} (total : IsTotalOrder R) (exact : IsAntisymmetric R) (own : K → Bool) → retain_keys (empty {X = X} {R = R}) own ≡ empty {X = X} {R = R}
retain_none X {R = R} total exact own =
    same_map total exact _ _ (λ q.
    get_retained total exact own (empty {X = X} {R = R}) q ∙ ap (λ (o : Option X). cond (own q) o None) (get-empty {X = X} R q) ∙ none_either {X = X} (own q) ∙ sym (get-empty {X = X} R q))

pub nobody_in : (owns : ℕ → Bool) → part_of owns nobody ≡ nobody
nobody_in owns =
    let members = retain_none State nat_cmp_total nat_cmp-IsAntisymmetric owns in
    let pending = retain_none EventKind key_total key_exact (λ k. owns k.to) in
    λ i. record { members = members i; pending = pending i }

abbrev own_keys : {C : Type 0} (owns : ℕ → Bool) → FinMap key_cmp C → FinMap key_cmp C
own_keys owns pending = retain_keys pending (λ k. owns k.to)

module _ (owns : ℕ → Bool) (m : ℕ) where
  ending_own : (content : EventKind) (b : Bool) → owns m ≡ b → (ending : Option ℕ) → for_own owns (ending_event content m ending) ≡ cond b (ending_event content m ending) []
  ending_own content true is None = refl
  ending_own content false is None = refl
  ending_own content true is (Some at) = ap (λ b. cond b (ending_event content m (Some at)) []) is
  ending_own content false is (Some at) = ap (λ b. cond b (ending_event content m (Some at)) []) is

  abbrev endings : Setup → List (Key × EventKind)
  endings s = ending_event Crash m (crash_of s m) ++ ending_event Leave m (leave_of s m)

  endings_in_two : (s : Setup) (b : Bool) → owns m ≡ b → for_own owns (endings s) ≡ cond b (ending_event Crash m (crash_of s m)) [] ++ cond b (ending_event Leave m (leave_of s m)) []
  endings_in_two s b is =
      filter-append (λ e. owns e.0.to) (ending_event Crash m (crash_of s m)) (ending_event Leave m (leave_of s m))
      ∙ ap (λ l. l ++ for_own owns (ending_event Leave m (leave_of s m))) (ending_own Crash b is (crash_of s m))
      ∙ ap (λ l. cond b (ending_event Crash m (crash_of s m)) [] ++ l) (ending_own Leave b is (leave_of s m))

  -- a member's script is for it alone
  once_own : (s : Setup) (b : Bool) → owns m ≡ b → for_own owns (script_of s m) ≡ cond b (script_of s m) []
  once_own s true is =
      ap (λ b. cond b ((script_key m (start_of s m) 0, Start) ∷ for_own owns (endings s)) (for_own owns (endings s))) is
      ∙ ap (λ l. (script_key m (start_of s m) 0, Start) ∷ l) (endings_in_two s true is)
  once_own s false is =
      ap (λ b. cond b ((script_key m (start_of s m) 0, Start) ∷ for_own owns (endings s)) (for_own owns (endings s))) is
      ∙ endings_in_two s false is

  numbered_own : (number : ℕ) (events : List ScriptEvent) (b : Bool) → owns m ≡ b → for_own owns (numbered_from m number events) ≡ cond b (numbered_from m number events) []
  numbered_own number [] true is = refl
  numbered_own number [] false is = refl
  numbered_own number (e ∷ es) true is =
      ap (λ b. cond b ((script_key m e.at number, content_of e.kind) ∷ for_own owns (numbered_from m (number + 1) es)) (for_own owns (numbered_from m (number + 1) es))) is
      ∙ ap (λ l. (script_key m e.at number, content_of e.kind) ∷ l) (numbered_own (number + 1) es true is)
  numbered_own number (e ∷ es) false is =
      ap (λ b. cond b ((script_key m e.at number, content_of e.kind) ∷ for_own owns (numbered_from m (number + 1) es)) (for_own owns (numbered_from m (number + 1) es))) is
      ∙ numbered_own (number + 1) es false is

  whole_own : (s : Setup) (b : Bool) → owns m ≡ b → for_own owns (whole_script_of s m) ≡ cond b (whole_script_of s m) []
  whole_own s true is =
      ap (λ b. cond b ((script_key m (start_of s m) 0, Start) ∷ for_own owns (numbered_from m 1 (setup.script_of s m))) (for_own owns (numbered_from m 1 (setup.script_of s m)))) is
      ∙ ap (λ l. (script_key m (start_of s m) 0, Start) ∷ l) (numbered_own 1 (setup.script_of s m) true is)
  whole_own s false is =
      ap (λ b. cond b ((script_key m (start_of s m) 0, Start) ∷ for_own owns (numbered_from m 1 (setup.script_of s m))) (for_own owns (numbered_from m 1 (setup.script_of s m)))) is
      ∙ numbered_own 1 (setup.script_of s m) false is

  script_own : (profile : Profile) (s : Setup) (b : Bool) → owns m ≡ b → for_own owns (script_by profile s m) ≡ cond b (script_by profile s m) []
  script_own Papers s b is = once_own s b is
  script_own Memberlist s b is = once_own s b is
  script_own Hashicorp s b is = whole_own s b is

  -- who comes to a cluster comes to its own part, and to no other
  pub part_admits : (s : Setup) (w : Cluster) → owns m ≡ true → part_of owns (with_member s m w) ≡ with_member s m (part_of owns w)
  part_admits s w mine =
      let members = retain_insert nat_cmp_total nat_cmp-IsAntisymmetric owns w.members m (opening_state s m) mine in
      let pending : own_keys owns (with_events w.pending (script_by (profile_of s) s m)) ≡ with_events (own_keys owns w.pending) (script_by (profile_of s) s m) =
      retain_events owns (script_by (profile_of s) s m) w.pending ∙ ap (with_events (own_keys owns w.pending)) (script_own (profile_of s) s true mine) in
      λ i. record { members = members i; pending = pending i }

  pub part_passes : (s : Setup) (w : Cluster) → owns m ≡ false → part_of owns (with_member s m w) ≡ part_of owns w
  part_passes s w other =
      let members = retain_insert_other nat_cmp_total nat_cmp-IsAntisymmetric owns w.members m (opening_state s m) other in
      let pending : own_keys owns (with_events w.pending (script_by (profile_of s) s m)) ≡ own_keys owns w.pending =
      retain_events owns (script_by (profile_of s) s m) w.pending ∙ ap (with_events (own_keys owns w.pending)) (script_own (profile_of s) s false other) in
      λ i. record { members = members i; pending = pending i }

-- one part more, with the next number
pub one_more_counted : {Q : Type 0} (n : ℕ) (parts : List (Part Q)) (next : Part Q) → CountFrom n (numbers_of parts) → next.number ≡ n + length parts → CountFrom n (numbers_of (parts ++ next ∷ []))
one_more_counted n [] next counted is = (omega (arith, is), tt)
one_more_counted n (p ∷ ps) next counted is = (counted.0, one_more_counted (n + 1) ps next counted.1 (omega (arith, is)))

-- ---- all parts

module _ {Q : Type 0} (set : Q → FinMap key_cmp Event) (s : Setup) (deal : Deal) where
  world_there : (parts : List (Part Q)) (i : ℕ) → i < length parts → AllByRecursion (λ p. world_of set p ≡ nobody) parts → option_map (world_of set) (slice_get parts i) ≡ Some nobody
  world_there [] i low all = absurd (omega arith)
  world_there (p ∷ ps) zero low all = ap Some all.0
  world_there (p ∷ ps) (suc i) low all = world_there ps i (omega arith) all.1

  -- at first nobody is in any part
  pub none_stand : (parts : List (Part Q)) → length parts ≡ deal.parts → AllByRecursion (λ p. world_of set p ≡ nobody) parts → CountFrom 0 (numbers_of parts) → StandFor set deal parts (opened_below s 0)
  none_stand parts count all numbered = record {
    count = count;
    numbered = numbered;
    worlds = λ i low. world_there parts i (omega (arith, count)) all ∙ ap Some (sym (nobody_in (is_in (part_number deal) i)));
  }

  -- so far only members before the next have events
  pub from_below : (parts : List (Part Q)) (n i : ℕ) (part : Part Q) → StandFor set deal parts (opened_below s n) → slice_get parts i ≡ Some part → AreFromBelow (world_of set part).pending n
  from_below parts n i part stand here = λ q there.
      scripts_from_below s n (opened_below s n).pending refl q
      (pending_kept (is_in (part_number deal) i) (opened_below s n) q (subst (λ (w : Cluster). IsPending w q) (world_at set deal parts (opened_below s n) stand i part here) there))

  module _ (parts : List (Part Q)) (n place : ℕ) (part after : Part Q) (stand : StandFor set deal parts (opened_below s n)) (own : part_number deal n ≡ place) (here : slice_get parts place ≡ Some part)
      (admitted : world_of set after ≡ with_member s n (world_of set part)) (number : after.number ≡ part.number) where
    within : place < length parts
    within = slice_get_within parts place part here

    at : (i : ℕ) → i < deal.parts → (b : Bool) → eqb i place ≡ b
        → option_map (world_of set) (slice_get (slice_set parts place after) i) ≡ Some (part_of (is_in (part_number deal) i) (with_member s n (opened_below s n)))
    at i low true e =
        let same : i ≡ place = eqb-true i place e in
        subst (λ j. option_map (world_of set) (slice_get (slice_set parts place after) j) ≡ Some (part_of (is_in (part_number deal) j) (with_member s n (opened_below s n)))) (sym same)
        (ap (option_map (world_of set)) (at_place parts place after within)
        ∙ ap Some (admitted ∙ ap (with_member s n) (world_at set deal parts (opened_below s n) stand place part here)
        ∙ sym (part_admits (is_in (part_number deal) place) n s (opened_below s n) (eq-eqb (part_number deal n) place own))))
    at i low false e =
        ap (option_map (world_of set)) (elsewhere parts place i after (eqb-false i place e))
        ∙ stand.worlds i low
        ∙ ap Some (sym (part_passes (is_in (part_number deal) i) n s (opened_below s n) (other (is_in (part_number deal) i n) refl)))
      where
        other : (b : Bool) → eqb (part_number deal n) i ≡ b → b ≡ false
        other true is = absurd (eqb-false i place e (sym (eqb-true (part_number deal n) i is) ∙ own))
        other false is = refl

    -- one member more is in its part
    pub one_more_stands : StandFor set deal (slice_set parts place after) (opened_below s (n + 1))
    one_more_stands = record {
      count = same_count parts place after ∙ stand.count;
      numbered = subst (CountFrom 0) (sym (same_numbers parts place part after here number)) stand.numbered;
      worlds = λ i low. at i low (eqb i place) refl ∙ ap (λ w. Some (part_of (is_in (part_number deal) i) w)) (sym (one_more_opened s n));
    }
