-- The suspicions that stand at a member, and what starts them, who accuses, and what ends them (SWIM, section 4.2; Lifeguard's LHA-Suspicion).
use Rattle.std.specs.Prelude.{ℕ, ◌+◌, ◌≤◌, max, count_by, ◌==◌, ◌||◌, ◌&&◌, Bool, not, false, nat_lt, nat_le, if◌then◌else◌, Option, Some, None, List, [], ◌∷◌, ◌++◌, length}
use Rattle.std.specs.List.{list_any}
use Rattle.std.specs.Option.{option_map, option_map_or, option_and_then}
use Rattle.std.specs.Ordering.{nat_cmp}
use Rattle.std.specs.FinMap.{FinMap, get, insert}
use Rattle.suspicion.specs.declared.terms.Terms.{Terms}
use Rattle.suspicion.specs.declared.suspicions.Accused.{Accused}
use Rattle.suspicion.specs.Times.{most_accusers, timeout}

pub record HeldSuspicion : Type 0 where
  -- the settings under which it started
  pub terms : Terms
  -- how many members were not confirmed when it started, oneself included
  pub members : ℕ
  pub since : ℕ
  -- the first accuser
  pub first : ℕ
  -- the further accusers, in the order in which they came
  pub further : List ℕ
  -- the number of its present timer
  pub timer : ℕ

-- at most one suspicion of each subject
abbrev pub HeldSuspicions : Type 0
HeldSuspicions = FinMap nat_cmp HeldSuspicion

-- one that starts: this accuser is the only one
abbrev pub started_of : Terms → ℕ → ℕ → ℕ → ℕ → HeldSuspicion
started_of terms accuser members now generation = record { terms = terms; members = members; since = now; first = accuser; further = []; timer = generation }

-- C, the number of accusers less one
abbrev pub accusers_counted : HeldSuspicion → ℕ
accusers_counted s = length s.further

-- whether a member is among the accusers
abbrev pub is_accuser : HeldSuspicion → ℕ → Bool
is_accuser s m = s.first == m || list_any (λ x. x == m) s.further

-- an accusation counts with LHA-Suspicion, from a member that has not accused yet, while fewer than K did after the first
abbrev pub counts : HeldSuspicion → ℕ → Bool
counts s accuser = s.terms.shortens && nat_lt (accusers_counted s) (most_accusers s.terms s.members) && not (is_accuser s accuser)

-- with one accuser more, and a new timer in the place of the old one
abbrev pub with_accuser : HeldSuspicion → ℕ → ℕ → HeldSuspicion
with_accuser s accuser generation = record s { further = s.further ++ accuser ∷ []; timer = generation }

-- what an accusation makes of a suspicion, None where it changes nothing
abbrev pub accused : HeldSuspicion → ℕ → ℕ → Option HeldSuspicion
accused s accuser generation = if counts s accuser then Some (with_accuser s accuser generation) else None

-- when its time is over: its timeout after its start, but later than now
abbrev pub due_of : HeldSuspicion → ℕ → ℕ
due_of s now = max (now + 1) (s.since + timeout s.terms s.members (accusers_counted s))

-- whether its time is over by now
abbrev pub is_over : HeldSuspicion → ℕ → Bool
is_over s now = nat_le (s.since + timeout s.terms s.members (accusers_counted s)) now

-- whether a suspicion of the subject stands whose time is over by now
abbrev pub is_over_of : HeldSuspicions → ℕ → ℕ → Bool
is_over_of held subject now = option_map_or (λ s. is_over s now) (get held subject) false

-- the count and the due moment that an accusation answers
abbrev pub answer_of : ℕ → HeldSuspicion → Accused
answer_of now s = record { count = accusers_counted s; due = due_of s now }

-- the suspicion of the subject as the accusation leaves it, None where nothing changes
abbrev pub accused_of : HeldSuspicions → ℕ → ℕ → ℕ → Option HeldSuspicion
accused_of held subject accuser generation = option_and_then (λ s. accused s accuser generation) (get held subject)

-- all of them after the accusation
abbrev pub after_accusation : HeldSuspicions → ℕ → ℕ → ℕ → HeldSuspicions
after_accusation held subject accuser generation = option_map_or (insert held subject) (accused_of held subject accuser generation) held

-- whether this is the number of the present timer of the subject's suspicion
abbrev pub is_due : HeldSuspicions → ℕ → ℕ → Bool
is_due held subject generation = option_map_or (λ s. s.timer == generation) (get held subject) false

abbrev pub first_accuser_of : HeldSuspicions → ℕ → Option ℕ
first_accuser_of held subject = option_map (λ s. s.first) (get held subject)

-- no member accuses twice, and no more than K do after the first
pub record CountsAccusersOnce (s : HeldSuspicion) : Type 0 where
  pub once : (m : ℕ) → count_by (λ x. x == m) (s.first ∷ s.further) ≤ 1
  pub few : accusers_counted s ≤ most_accusers s.terms s.members
