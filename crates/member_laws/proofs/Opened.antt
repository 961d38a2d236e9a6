-- The numbers of the events that pend at the beginning of a run.
use Rattle.std.proofs.Common.{◌≡◌, ℕ, zero, suc, ◌+◌, ◌<◌, ◌≤◌, Bool, true, false, cond, eqb, ◌⊎◌, inl, inr, ◌++◌, map, flat_map, Option, Some, None, ap, ◌∙◌, sym, refl, arith}
use Rattle.std.specs.Option.{is_some, option_map_or, option_or}
use Rattle.std.specs.List.{AllByRecursion, range_with_len}
use Rattle.std.specs.Ordering.{nat_cmp, eq_by_cmp}
use Rattle.std.specs.Cmp.{nat_cmp_total, unsigned_tied}
use Rattle.std.specs.FinMap.{empty, get, find, get-empty, get-from_entries}
use Rattle.std.proofs.lemmas.Bool.{false≢true, eqb-false, eqb-true}
use Rattle.base.specs.declared.key.Key.{Key}
use Rattle.base.specs.Order.{key_cmp}
use Rattle.base.specs.Run.{holds-with_events}
use Rattle.base.specs.Rising.{IsNumbered}
use Rattle.base.proofs.Rising.{all_append}
use Rattle.scenario.specs.Setup.{Setup, member_count, start_of, crash_of, leave_of}
use Rattle.member.specs.declared.event_kind.EventKind.{EventKind}
use Rattle.member.specs.declared.event_kind.EventKind.TheVariants.{Crash, Leave}
use Rattle.member.specs.State.{State}
use Rattle.std.proofs.Common.{List, [], ◌∷◌, length}
use Rattle.scenario.specs.Setup as setup
use Rattle.scenario.specs.Profile.{profile_of}
use Rattle.scenario.specs.declared.script.ScriptEvent.{ScriptEvent}
use Rattle.base.specs.declared.profile.Profile.{Profile}
use Rattle.base.specs.declared.profile.Profile.TheVariants.{Papers, Memberlist, Hashicorp}
use Rattle.member.specs.Opening.{opening, opening_state, first_number, first_number_by, numbers, ending_event, numbered_from, script_by}

module _ (s : Setup) where
  next_find : (m a : ℕ) (rest : Option State) (b : Bool) → eqb m a ≡ b → (¬ (m ≡ a) → rest ≡ Some (opening_state s m))
      → cond (eq_by_cmp nat_cmp m a) (Some (opening_state s a)) rest ≡ Some (opening_state s m)
  next_find m a rest true e later = ap (λ b. cond b (Some (opening_state s a)) rest) (unsigned_tied m a ∙ e) ∙ ap (λ n. Some (opening_state s n)) (sym (eqb-true m a e))
  next_find m a rest false e later = ap (λ b. cond b (Some (opening_state s a)) rest) (unsigned_tied m a ∙ e) ∙ later (eqb-false m a e)

  find_member : (m a n : ℕ) → a ≤ m → m < a + n → find nat_cmp m (map (λ i. (i, opening_state s i)) (range_with_len a n)) ≡ Some (opening_state s m)
  find_member m a zero from below = absurd (omega arith)
  find_member m a (suc n) from below =
      next_find m a (find nat_cmp m (map (λ i. (i, opening_state s i)) (range_with_len (a + 1) n))) (eqb m a) refl (λ other. find_member m (a + 1) n (omega arith) (omega arith))

  pub member_there : (m : ℕ) → m < member_count s → get (opening s).members m ≡ Some (opening_state s m)
  member_there m there =
      get-from_entries nat_cmp_total (map (λ i. (i, opening_state s i)) (numbers s)) m ∙ find_member m 0 (member_count s) (omega arith) (omega arith)

  opened_number : (m : ℕ) → (opening_state s m).next_number ≡ first_number_by (profile_of s) s m
  unfolding opening_state
  opened_number m = refl

  -- the maker of an event of the script has used its number
  abbrev Numbered : Key → Type 0
  Numbered q = (t : State) × (get (opening s).members q.from ≡ Some t) × (q.number < t.next_number)

  first_after : (ending : Option ℕ) → 0 < option_map_or (λ at. 2) ending 1
  first_after None = omega arith
  first_after (Some at) = omega arith

  -- a member whose part ends uses 2 first
  pub two_after : (crash leave : Option ℕ) (at : ℕ) → (crash ≡ Some at) ⊎ (leave ≡ Some at) → ◌≡◌ {A = ℕ} (option_map_or (λ at. 2) (option_or crash leave) 1) 2
  two_after (Some c) leave at is = refl
  two_after None (Some l) at is = refl
  two_after None None at (inl is) = absurd (false≢true (ap is_some is))
  two_after None None at (inr is) = absurd (false≢true (ap is_some is))

  -- by the rules of a profile
  abbrev pub NumberedBelow : ℕ → Key × EventKind → Type 0
  NumberedBelow n e = e.0.number < n

  ending_numbered : (m : ℕ) (content : EventKind) (ending : Option ℕ) → ((at : ℕ) → ending ≡ Some at → first_number s m ≡ 2)
      → AllByRecursion {X = Key × EventKind} (NumberedBelow (first_number s m)) (ending_event content m ending)
  ending_numbered m content None two = tt
  ending_numbered m content (Some at) two = (let is = two at refl in omega arith, tt)

  endings_numbered : (m : ℕ) → AllByRecursion {X = Key × EventKind} (NumberedBelow (first_number s m)) (ending_event Crash m (crash_of s m) ++ ending_event Leave m (leave_of s m))
  endings_numbered m =
      all_append (NumberedBelow (first_number s m)) (ending_event Crash m (crash_of s m)) (ending_event Leave m (leave_of s m))
      (ending_numbered m Crash (crash_of s m) (λ at is. two_after (crash_of s m) (leave_of s m) at (inl is)))
      (ending_numbered m Leave (leave_of s m) (λ at is. two_after (crash_of s m) (leave_of s m) at (inr is)))

  from_numbered : (m number n : ℕ) (es : List ScriptEvent) → number + length es ≤ n → AllByRecursion {X = Key × EventKind} (NumberedBelow n) (numbered_from m number es)
  from_numbered m number n [] h = tt
  from_numbered m number n (e ∷ es) h = (omega (arith, h), from_numbered m (number + 1) n es (omega (arith, h)))

  pub below_first : (profile : Profile) (m : ℕ) → AllByRecursion {X = Key × EventKind} (NumberedBelow (first_number_by profile s m)) (script_by profile s m)
  below_first Papers m = (first_after (option_or (crash_of s m) (leave_of s m)), endings_numbered m)
  below_first Memberlist m = (first_after (option_or (crash_of s m) (leave_of s m)), endings_numbered m)
  below_first Hashicorp m = (omega arith, from_numbered m 1 (1 + length (setup.script_of s m)) (setup.script_of s m) (omega arith))

  -- and their sender is the member
  abbrev pub IsOf : ℕ → Key × EventKind → Type 0
  IsOf m e = e.0.from ≡ m

  ending_own : (m : ℕ) (content : EventKind) (ending : Option ℕ) → AllByRecursion {X = Key × EventKind} (IsOf m) (ending_event content m ending)
  ending_own m content None = tt
  ending_own m content (Some at) = (refl, tt)

  from_own : (m number : ℕ) (es : List ScriptEvent) → AllByRecursion {X = Key × EventKind} (IsOf m) (numbered_from m number es)
  from_own m number [] = tt
  from_own m number (e ∷ es) = (refl, from_own m (number + 1) es)

  endings_own : (m : ℕ) → AllByRecursion {X = Key × EventKind} (IsOf m) (ending_event Crash m (crash_of s m) ++ ending_event Leave m (leave_of s m))
  endings_own m = all_append (IsOf m) (ending_event Crash m (crash_of s m)) (ending_event Leave m (leave_of s m)) (ending_own m Crash (crash_of s m)) (ending_own m Leave (leave_of s m))

  pub own_script : (profile : Profile) (m : ℕ) → AllByRecursion {X = Key × EventKind} (IsOf m) (script_by profile s m)
  own_script Papers m = (refl, endings_own m)
  own_script Memberlist m = (refl, endings_own m)
  own_script Hashicorp m = (refl, from_own m 1 (setup.script_of s m))

  used : (m : ℕ) (es : List (Key × EventKind)) → m < member_count s → AllByRecursion {X = Key × EventKind} (NumberedBelow (first_number_by (profile_of s) s m)) es → AllByRecursion {X = Key × EventKind} (IsOf m) es
      → AllByRecursion {X = Key × EventKind} (λ e. Numbered e.0) es
  used m [] there low own = tt
  used m (e ∷ es) there low own =
      ((opening_state s m, ap (get (opening s).members) own.0 ∙ member_there m there, omega (arith, low.0, opened_number m)), used m es there low.1 own.1)

  script_numbered : (m : ℕ) → m < member_count s → AllByRecursion {X = Key × EventKind} (λ e. Numbered e.0) (script_by (profile_of s) s m)
  script_numbered m there = used m (script_by (profile_of s) s m) there (below_first (profile_of s) m) (own_script (profile_of s) m)

  scripts_numbered : (a n : ℕ) → a + n ≤ member_count s → AllByRecursion {X = Key × EventKind} (λ e. Numbered e.0) (flat_map (script_by (profile_of s) s) (range_with_len a n))
  scripts_numbered a zero h = tt
  scripts_numbered a (suc n) h =
      all_append (λ e. Numbered e.0) (script_by (profile_of s) s a) (flat_map (script_by (profile_of s) s) (range_with_len (a + 1) n)) (script_numbered a (omega arith)) (scripts_numbered (a + 1) n (omega arith))

  -- each event that pends at the beginning has a number that its sender has used
  pub opening_numbered : IsNumbered (λ (t : State). t.next_number) (opening s)
  opening_numbered =
      holds-with_events Numbered (flat_map (script_by (profile_of s) s) (numbers s)) empty
      (λ q here. absurd (false≢true (ap is_some (sym (get-empty key_cmp q)) ∙ here))) (scripts_numbered 0 (member_count s) (omega arith))
