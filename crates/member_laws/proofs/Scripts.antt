-- What is so of all entries of the lists is so of each event of a member's script.
use Rattle.std.proofs.Common.{◌≡◌, ℕ, List, [], ◌∷◌, nat_le}
use Rattle.std.specs.List.{filter, AllByRecursion}
use Rattle.std.proofs.lemmas.Bool.{cond_both, eqb-true}
use Rattle.scenario.specs.Setup.{Setup, script_of, entries_of}
use Rattle.scenario.specs.Script.{put_before, by_moment, is_of, script_in}
use Rattle.scenario.specs.declared.script.ScriptEvent.{ScriptEvent}

module _ (P : ScriptEvent → Type 0) where
  put_so : (e : ScriptEvent) (es : List ScriptEvent) → P e → AllByRecursion P es → AllByRecursion P (put_before e es)
  put_so e [] this all = (this, tt)
  put_so e (n ∷ es) this all = cond_both (nat_le e.at n.at) (e ∷ n ∷ es) (n ∷ put_before e es) (AllByRecursion P) (λ _. (this, all)) (λ _. (all.0, put_so e es this all.1))

  by_moment_so : (es : List ScriptEvent) → AllByRecursion P es → AllByRecursion P (by_moment es)
  by_moment_so [] all = tt
  by_moment_so (e ∷ es) all = put_so e (by_moment es) all.0 (by_moment_so es all.1)

  of_member : (m : ℕ) (es : List ScriptEvent) → AllByRecursion P es → AllByRecursion (λ (e : ScriptEvent). (e.member ≡ m) × P e) (filter (is_of m) es)
  of_member m [] all = tt
  of_member m (e ∷ es) all =
      cond_both (is_of m e) (e ∷ filter (is_of m) es) (filter (is_of m) es) (AllByRecursion (λ (e : ScriptEvent). (e.member ≡ m) × P e))
      (λ its. ((eqb-true e.member m its, all.0), of_member m es all.1)) (λ _. of_member m es all.1)

  pub events_so : (s : Setup) → AllByRecursion P (entries_of s) → (m : ℕ) → AllByRecursion (λ (e : ScriptEvent). (e.member ≡ m) × P e) (script_of s m)
  unfolding script_in
  events_so s all m = of_member m (by_moment (entries_of s)) (by_moment_so (entries_of s) all)
