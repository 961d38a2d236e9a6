-- What the end of a round leaves of a table.
use Rattle.std.proofs.Common.{◌≡◌, ℕ, zero, suc, ◌<◌, Bool, true, false, cond, eqb, ◌==◌, length, Option, Some, None, inl, inr, refl, sym, ap, subst, ◌∙◌, arith}
use Rattle.std.proofs.lemmas.Bool.{false≢true, eqb-true, eq-eqb, cases_lt}
use Rattle.std.proofs.lemmas.Option.{same_Some}
use Rattle.std.specs.FinMap.{get}
use Rattle.base.specs.declared.key.Key.{Key}
use Rattle.scenario.specs.Setup.{Setup, member_count}
use Rattle.incarnation.specs.declared.Claim.{Claim}
use Rattle.trace.specs.declared.row.What.TheVariants as what
use Rattle.membership.specs.Deaths.{Since}
use Rattle.member.specs.Effects.{Effect, on_state, with_row}
use Rattle.member.specs.Forgetting.{kept_for, is_long_dead, without_entry, forgotten_if, all_forgotten, round_ended}
use Rattle.member_laws.proofs.Tables.{get_left}

module _ (s : Setup) (k : Key) where
  abbrev IsPast : Since → ℕ → Claim × ℕ → Bool
  IsPast since q held = is_long_dead k.at (kept_for s.gossip) (since q) held.0

  same_since_if : (member : ℕ) (held : Option (Claim × ℕ)) (o : Effect) → (forgotten_if s k member held o).state.since ≡ o.state.since
  unfolding with_row
  same_since_if member None o = refl
  same_since_if member (Some held) o = either (IsPast o.state.since member held)
    where
      either : (b : Bool) → (cond b (with_row k what.Forget (Some member) held.1 false (on_state (without_entry member) o)) o).state.since ≡ o.state.since
      either true = refl
      either false = refl

  same_since : (count : ℕ) (o : Effect) → (all_forgotten s k count o).state.since ≡ o.state.since
  unfolding all_forgotten
  same_since zero o = refl
  same_since (suc count) o = same_since_if count _ (all_forgotten s k count o) ∙ same_since count o

  -- a claim that isn't past stays, whoever is looked at
  kept_if : (member q : ℕ) (held : Option (Claim × ℕ)) (o : Effect) (x : Claim × ℕ) → get o.state.table member ≡ held → get o.state.table q ≡ Some x → IsPast o.state.since q x ≡ false
      → get (forgotten_if s k member held o).state.table q ≡ Some x
  unfolding with_row
  kept_if member q None o x none here fresh = here
  kept_if member q (Some held) o x there here fresh = by_past (IsPast o.state.since member held) refl
    where
      by_place : (b : Bool) → eqb q member ≡ b → IsPast o.state.since member held ≡ true → cond b None (get o.state.table q) ≡ Some x
      by_place true e past =
          let same : q ≡ member = eqb-true q member e in
          let one : x ≡ held = same_Some x held (sym here ∙ ap (get o.state.table) same ∙ there) in
          absurd (false≢true (sym fresh ∙ ap (λ m. IsPast o.state.since m x) same ∙ ap (IsPast o.state.since member) one ∙ past))
      by_place false e past = here

      by_past : (b : Bool) → IsPast o.state.since member held ≡ b
          → get (cond b (with_row k what.Forget (Some member) held.1 false (on_state (without_entry member) o)) o).state.table q ≡ Some x
      by_past true past = get_left o.state.table member q ∙ by_place (eqb q member) refl past
      by_past false fresh = here

  kept_all : (count q : ℕ) (o : Effect) (x : Claim × ℕ) → get o.state.table q ≡ Some x → IsPast o.state.since q x ≡ false → get (all_forgotten s k count o).state.table q ≡ Some x
  unfolding all_forgotten
  kept_all zero q o x here fresh = here
  kept_all (suc count) q o x here fresh =
      kept_if count q _ (all_forgotten s k count o) x refl (kept_all count q o x here fresh) (ap (λ since. IsPast since q x) (same_since count o) ∙ fresh)

  -- and one that is past goes where its subject is looked at, and doesn't come back
  gone_here : (q : ℕ) (o : Effect) (held : Option (Claim × ℕ)) → ((x : Claim × ℕ) → held ≡ Some x → IsPast o.state.since q x ≡ true) → get o.state.table q ≡ held
      → get (forgotten_if s k q held o).state.table q ≡ None
  unfolding with_row
  gone_here q o None past there = there
  gone_here q o (Some held) past there = by_past (IsPast o.state.since q held) (past held refl)
    where
      by_past : (b : Bool) → b ≡ true → get (cond b (with_row k what.Forget (Some q) held.1 false (on_state (without_entry q) o)) o).state.table q ≡ None
      by_past true is = get_left o.state.table q q ∙ ap (λ b. cond b None (get o.state.table q)) (eq-eqb q q refl)
      by_past false is = absurd (false≢true is)

  stays_gone : (member q : ℕ) (held : Option (Claim × ℕ)) (o : Effect) → get o.state.table q ≡ None → get (forgotten_if s k member held o).state.table q ≡ None
  unfolding with_row
  stays_gone member q None o none = none
  stays_gone member q (Some held) o none = by_past (IsPast o.state.since member held)
    where
      by_place : (b : Bool) → cond b None (get o.state.table q) ≡ None
      by_place true = refl
      by_place false = none

      by_past : (b : Bool) → get (cond b (with_row k what.Forget (Some member) held.1 false (on_state (without_entry member) o)) o).state.table q ≡ None
      by_past true = get_left o.state.table member q ∙ by_place (eqb q member)
      by_past false = none

  -- what is held of a member when its turn comes is what was held, if anything
  held_before : (count q : ℕ) (o : Effect) (x y : Claim × ℕ) → get o.state.table q ≡ Some x → get (all_forgotten s k count o).state.table q ≡ Some y → IsPast o.state.since q x ≡ true
      → IsPast o.state.since q y ≡ true
  unfolding all_forgotten with_row
  held_before zero q o x y here now past = ap (IsPast o.state.since q) (same_Some y x (sym now ∙ here)) ∙ past
  held_before (suc count) q o x y here now past = held_before count q o x y here (was (get (all_forgotten s k count o).state.table count) refl now) past
    where
      was : (held : Option (Claim × ℕ)) → get (all_forgotten s k count o).state.table count ≡ held → get (forgotten_if s k count held (all_forgotten s k count o)).state.table q ≡ Some y
          → get (all_forgotten s k count o).state.table q ≡ Some y
      was None there now = now
      was (Some held) there now = by_past (IsPast (all_forgotten s k count o).state.since count held) now
        where
          by_place : (b : Bool) → cond b None (get (all_forgotten s k count o).state.table q) ≡ Some y → get (all_forgotten s k count o).state.table q ≡ Some y
          by_place true now = absurd (let e = now in cc)
          by_place false now = now

          by_past : (b : Bool) → get (cond b (with_row k what.Forget (Some count) held.1 false (on_state (without_entry count) (all_forgotten s k count o))) (all_forgotten s k count o)).state.table q ≡ Some y
              → get (all_forgotten s k count o).state.table q ≡ Some y
          by_past true now = by_place (eqb q count) (sym (get_left (all_forgotten s k count o).state.table count q) ∙ now)
          by_past false now = now

  gone_all : (count q : ℕ) (o : Effect) (x : Claim × ℕ) → q < count → get o.state.table q ≡ Some x → IsPast o.state.since q x ≡ true → get (all_forgotten s k count o).state.table q ≡ None
  unfolding all_forgotten
  gone_all zero q o x below here past = absurd (omega (arith, below))
  gone_all (suc count) q o x below here past =
      elim (cases_lt q count) [
        | inl sooner ↦ stays_gone count q _ (all_forgotten s k count o) (gone_all count q o x sooner here past)
        | inr last ↦
            let same : q ≡ count = omega (arith, below, last) in
            subst (λ m. get (forgotten_if s k m (get (all_forgotten s k count o).state.table m) (all_forgotten s k count o)).state.table q ≡ None) same
            (gone_here q (all_forgotten s k count o) _ (λ y now. ap (λ since. IsPast since q y) (same_since count o) ∙ held_before count q o x y here now past) refl)
      ]

  pub stays_at_end : (q : ℕ) (o : Effect) (x : Claim × ℕ) → get o.state.table q ≡ Some x → IsPast o.state.since q x ≡ false → get (round_ended s k o).state.table q ≡ Some x
  unfolding round_ended
  stays_at_end q o x here fresh = either (o.state.rota.mark == length o.state.rota.members)
    where
      either : (b : Bool) → get (cond b (all_forgotten s k (member_count s) o) o).state.table q ≡ Some x
      either true = kept_all (member_count s) q o x here fresh
      either false = here

  pub gone_at_end : (q : ℕ) (o : Effect) (x : Claim × ℕ) → q < member_count s → o.state.rota.mark ≡ length o.state.rota.members → get o.state.table q ≡ Some x → IsPast o.state.since q x ≡ true
      → get (round_ended s k o).state.table q ≡ None
  unfolding round_ended
  gone_at_end q o x below over here past = rw (eq-eqb o.state.rota.mark (length o.state.rota.members) over) (gone_all (member_count s) q o x below here past)
