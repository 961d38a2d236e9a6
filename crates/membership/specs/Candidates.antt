-- Of whom some are drawn that fit (memberlist's rules).
use Rattle.std.specs.Prelude.{ℕ, ◌+◌, ◌&&◌, ◌||◌, Bool, false, not, nat_lt, nat_le, nat_eq, List, ◌∷◌, ◌++◌, map, filter}
use Rattle.std.specs.FinMap.{entries}
use Rattle.incarnation.specs.declared.Claim.{Claim}
use Rattle.membership.specs.declared.candidates.Candidate.{Candidate}
use Rattle.membership.specs.declared.candidates.Fitting.{Fitting}
use Rattle.membership.specs.declared.candidates.Fitting.TheVariants.{AliveBut, Reachable}
use Rattle.membership.specs.Table.{Known, is_alive, is_confirm, is_left}
use Rattle.membership.specs.Deaths.{Since}

-- whether a member that is held so fits: held to be up, and not this one; or not held to be down for more than so many ticks, of which 0 stands for never; nobody
-- who has left fits that
abbrev pub does_fit : Fitting → Since → ℕ → Claim → Bool
does_fit (AliveBut other) since member claim = is_alive claim && not (nat_eq member other)
does_fit (Reachable now dead) since member claim = not (is_confirm claim) || (not (is_left claim) && nat_lt 0 dead && nat_le now (since member + dead))

-- a member in the table
abbrev pub known_candidate : (ℕ → Claim → Bool) → ℕ × (Claim × ℕ) → Candidate
known_candidate fits e = record { member = e.0; fits = fits e.0 e.1.0 }

-- All members in the table, and among them oneself, who never fits, in the order of their numbers.
unfoldable pub candidates_of : ℕ → (ℕ → Claim → Bool) → Known → List Candidate
candidates_of me fits table =
    map (known_candidate fits) (filter (λ e. nat_lt e.0 me) (entries table))
    ++ (record { member = me; fits = false } ∷ map (known_candidate fits) (filter (λ e. nat_lt me e.0) (entries table)))
