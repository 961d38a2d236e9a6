-- Two runs, of which the second begins where the first ends.
use Rattle.std.proofs.Common.{◌≡◌, ℕ, List, [], ◌∷◌, ◌++◌, append_assoc, ap, ◌∙◌, sym, subst}
use Rattle.base.specs.declared.key.Key.{Key}
use Rattle.base.specs.World.{Machine, World, Run}

pub run_joins : {S C R : Type 0} (step : Machine S C R) (end : ℕ) (ks ls : List Key) (w v u : World S C) (rows more : List R) → Run step end w ks rows v → Run step end v ls more u → Run step end w (ks ++ ls) (rows ++ more) u
run_joins step end [] ls w v u rows more run next =
    subst (λ l. Run step end w ls (l ++ more) u) (sym run.1) (subst (λ x. Run step end x ls more u) run.0 next)
run_joins step end (k ∷ ks) ls w v u rows more run next =
    (run.0, run.1, run.2 ++ more, run.3, run.4, run_joins step end ks ls run.0 v u run.2 more run.5 next, ap (λ l. l ++ more) run.6 ∙ append_assoc run.1 run.2 more)
