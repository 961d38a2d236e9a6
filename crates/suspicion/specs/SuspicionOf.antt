-- What the suspicions in memory stand for.
use Rattle.std.specs.Prelude.{ℕ, List, map}
use Rattle.std.specs.FinMap.{from_entries}
use Rattle.suspicion.specs.declared.standing.Standing.{Standing}
use Rattle.suspicion.specs.Suspicions.{HeldSuspicion, HeldSuspicions}

abbrev pub suspicion_of : Standing → HeldSuspicion
suspicion_of s = record { terms = s.terms; members = s.members; since = s.since; first = s.first; further = s.further; timer = s.timer }

-- those of these entries, each under its subject
abbrev pub held_of : List (ℕ × Standing) → HeldSuspicions
held_of es = from_entries (map (λ e. (e.0, suspicion_of e.1)) es)
