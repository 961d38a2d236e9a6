-- Troubles, and flags, that are the same.
use Rattle.std.proofs.Common.{◌≡◌, ℕ, Bool, true, false, Decides, refl, sym, ap, ◌∙◌, ◌&&◌, ◌==◌}
use Rattle.std.specs.Bool.{beq}
use Rattle.std.proofs.lemmas.Bool.{false≢true}
use Rattle.std.proofs.lemmas.Bool.Decides.{Decides-eqb, Decides-and, Decides-like}
use Rattle.incidents.specs.declared.cluster.Trouble.{Trouble}

-- two flags are one just if a test of them says so
pub flags_decide : (a b : Bool) → Decides (beq a b) (a ≡ b)
flags_decide true true = (λ _. refl, λ _. refl)
flags_decide true false = (λ e. absurd (false≢true e), λ e. absurd (false≢true (sym e)))
flags_decide false true = (λ e. absurd (false≢true e), λ e. absurd (false≢true e))
flags_decide false false = (λ _. refl, λ _. refl)

abbrev made : ℕ → ℕ → ℕ → Trouble
made member from until = record { member = member; from = from; until = until }

-- and so are two troubles
pub troubles_decide : (a b : Trouble) → Decides ((a.member == b.member) && ((a.from == b.from) && (a.until == b.until))) (a ≡ b)
troubles_decide a b =
    Decides-like ((a.member == b.member) && ((a.from == b.from) && (a.until == b.until)))
    (λ same. ap (λ m. made m a.from a.until) same.0 ∙ ap (λ f. made b.member f a.until) same.1.0 ∙ ap (made b.member b.from) same.1.1)
    (λ same. (ap (λ (t : Trouble). t.member) same, (ap (λ (t : Trouble). t.from) same, ap (λ (t : Trouble). t.until) same)))
    (Decides-and (a.member == b.member) ((a.from == b.from) && (a.until == b.until)) (Decides-eqb a.member b.member) (Decides-and (a.from == b.from) (a.until == b.until) (Decides-eqb a.from b.from) (Decides-eqb a.until b.until)))
