-- Choices of members as a schedule, over any machine and any test.
use Rattle.std.proofs.Common.{ℕ, List, [], ◌∷◌, ◌++◌, append_assoc, append-nil, ap, ◌∙◌, sym, subst, refl, inl, inr}
use Rattle.base.specs.declared.key.Key.{Key}
use Rattle.base.specs.World.{Machine, World}
use Rattle.windows.specs.Schedule.{Schedule}
use Rattle.windows.specs.Play.{Chooses, ChoosesAll}

module _ {S C R : Type 0} (step : Machine S C R) (Test : World S C → Key → Type 0) where
  -- a choice goes before a schedule
  chosen_first : (w mid v : World S C) (m : ℕ) (first others : List Key) (made more : List R) → Chooses step Test w m first made mid → Schedule step Test mid others more v
      → Schedule step Test w (first ++ others) (made ++ more) v
  chosen_first w mid v m first others made more (inl is) rest =
      subst (λ ks. Schedule step Test w (ks ++ others) (made ++ more) v) (sym is.3) (mid, made, more, is.2, rest, refl)
  chosen_first w mid v m first others made more (inr is) rest =
      subst (λ ks. Schedule step Test w (ks ++ others) (made ++ more) v) (sym is.2)
      (subst (λ rows. Schedule step Test w others (rows ++ more) v) (sym is.3) (subst (λ u. Schedule step Test u others more v) is.1 rest))

  -- the events that choices handle are handled one after the other
  pub schedule_of : (ms : List ℕ) (w v : World S C) (keys : List Key) (rows : List R) → ChoosesAll step Test w ms keys rows v → Schedule step Test w keys rows v
  schedule_of [] w v keys rows is = subst (λ ks. Schedule step Test w ks rows v) (sym is.1) (is.0, is.2)
  schedule_of (m ∷ ms) w v keys rows is =
      let rest = schedule_of ms is.0 v is.2 is.4 is.6 in
      subst (λ ks. Schedule step Test w ks rows v) (sym is.7)
      (subst (λ made. Schedule step Test w (is.1 ++ is.2) made v) (sym is.8) (chosen_first w is.0 v m is.1 is.2 is.3 is.4 is.5 rest))

  -- no choice leaves all as it is
  pub none_chosen : (w : World S C) → ChoosesAll step Test w [] [] [] w
  none_chosen w = (refl, refl, refl)

  -- one choice more
  pub one_chosen_more : (ms : List ℕ) (m : ℕ) (w u v : World S C) (keys more_keys : List Key) (rows more : List R) → ChoosesAll step Test w ms keys rows u → Chooses step Test u m more_keys more v
      → ChoosesAll step Test w (ms ++ m ∷ []) (keys ++ more_keys) (rows ++ more) v
  one_chosen_more [] m w u v keys more_keys rows more is chosen = (
    v,
    more_keys,
    [],
    more,
    [],
    subst (λ x. Chooses step Test x m more_keys more v) is.0 chosen,
    none_chosen v,
    ap (λ ks. ks ++ more_keys) is.1 ∙ sym (append-nil more_keys),
    ap (λ made. made ++ more) is.2 ∙ sym (append-nil more),
  )
  one_chosen_more (l ∷ ms) m w u v keys more_keys rows more is chosen = (
    is.0,
    is.1,
    is.2 ++ more_keys,
    is.3,
    is.4 ++ more,
    is.5,
    one_chosen_more ms m is.0 u v is.2 more_keys is.4 more is.6 chosen,
    ap (λ ks. ks ++ more_keys) is.7 ∙ append_assoc is.1 is.2 more_keys,
    ap (λ made. made ++ more) is.8 ∙ append_assoc is.3 is.4 more,
  )
