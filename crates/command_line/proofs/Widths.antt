-- A word asks for one width.
use Rattle.std.proofs.Common.{◌≡◌, ℕ, List, [], Option, Some, None, codes, refl, sym, ap, subst, unwrap_or}
use Rattle.clap.specs.Words.{Row, Text, all_of, first_of}
use Rattle.sweep_plan.specs.Asked.{IsSweepOf}
use Rattle.sweep_plan.specs.Sweep.{Sweep as Planned}
use Rattle.decimals.proofs.Numbers.{same_number}
use Rattle.command_line.specs.Words.{AsksForWidth, IsPlanIn}

same_width : (word : Option Text) (a b : Option ℕ) → AsksForWidth word a → AsksForWidth word b → a ≡ b
same_width None None None asks other = refl
same_width None None (Some n) asks other = absurd other
same_width None (Some n) b asks other = absurd asks
same_width (Some word) None b asks other = absurd asks
same_width (Some word) (Some n) None asks other = absurd other
same_width (Some word) (Some n) (Some m) asks other =
    let some : ℕ → Option ℕ = λ k. Some k in
    ap some (same_number word n m asks other)

-- where the words, those of the seeds and the width that is asked for make no plan, none is asked for
pub no_plan : (rows : List Row) (words : List Text) (seeds : Option Text) (until : Option ℕ) → words ≡ unwrap_or (all_of (codes "set") rows) []
    → seeds ≡ first_of (codes "seeds") rows → AsksForWidth (first_of (codes "until") rows) until
    → ((plan : Planned) → ¬ (IsSweepOf words seeds until plan)) → (plan : Planned) → IsPlanIn rows plan → ⊥
no_plan rows words seeds until swept_keys seeded asks none plan h =
    let same = same_width (first_of (codes "until") rows) plan.until until h.width asks in
    let set = subst (λ w. IsSweepOf w (first_of (codes "seeds") rows) plan.until plan) (sym swept_keys) h.planned in
    let all = subst (λ s. IsSweepOf words s plan.until plan) (sym seeded) set in
    none plan (subst (λ w. IsSweepOf words seeds w plan) same all)

-- where they make one, it is asked for
pub plans : (rows : List Row) (words : List Text) (seeds : Option Text) (until : Option ℕ) (plan : Planned) → words ≡ unwrap_or (all_of (codes "set") rows) []
    → seeds ≡ first_of (codes "seeds") rows → AsksForWidth (first_of (codes "until") rows) until → IsSweepOf words seeds until plan → IsPlanIn rows plan
plans rows words seeds until plan swept_keys seeded asks h =
    let same = sym h.wanted in
    let set = subst (λ w. IsSweepOf w seeds until plan) swept_keys h in
    let all = subst (λ s. IsSweepOf (unwrap_or (all_of (codes "set") rows) []) s until plan) seeded set in
    record {
      width = subst (AsksForWidth (first_of (codes "until") rows)) same asks;
      planned = subst (λ w. IsSweepOf (unwrap_or (all_of (codes "set") rows) []) (first_of (codes "seeds") rows) w plan) same all;
    }
