-- An entry that is confirmed.
use Rattle.std.proofs.Common.{◌≡◌, ℕ, ◌&&◌, Bool, true, false, cond, eqb, Some, None, refl, sym, ap, subst, ◌∙◌}
use Rattle.std.proofs.lemmas.Bool.{false≢true, eqb-true}
use Rattle.std.specs.Option.{is_some}
use Rattle.std.specs.Ordering.{nat_cmp}
use Rattle.std.specs.Cmp.{nat_cmp_total, unsigned_tied}
use Rattle.std.specs.FinMap.{get, insert, get-insert, get-empty}
use Rattle.base.specs.declared.key.Key.{Key}
use Rattle.scenario.specs.Setup.{Setup}
use Rattle.scenario.specs.Profile.{profile_of}
use Rattle.base.specs.declared.profile.Profile.TheVariants.{Papers}
use Rattle.incarnation.specs.declared.Claim.{Claim}
use Rattle.incarnation.specs.declared.Claim.TheVariants.{Confirm}
use Rattle.incarnation.specs.declared.Update.{Update}
use Rattle.member.specs.declared.event_kind.EventKind.{EventKind}
use Rattle.lifeguard.specs.Health.{LocalHealth}
use Rattle.member.specs.declared.member.Phase.{Phase}
use Rattle.member.specs.declared.member.Phase.TheVariants.{Waiting}
use Rattle.membership.specs.Table.{Known, are_claims}
use Rattle.member.specs.State.{State}
use Rattle.member.specs.Opening.{opening_state}
use Rattle.member.specs.Apply.{with_claim}
use Rattle.member.specs.Step.{step}
use Rattle.member_laws.specs.Words.{WaitsAsOpened}
use Rattle.member_laws.proofs.Moves.{is_news, IsNews, FactOf, OwnMoves, keeps_news, keeps_moves, Anyone}
use Rattle.member_laws.proofs.Walk.{on_step, anyone_named}

-- what a table has at a member after another or the same was put
pub get_put : (table : Known) (k q : ℕ) (v : Claim × ℕ) → get (insert table k v) q ≡ cond (eqb q k) (Some v) (get table q)
get_put table k q v = get-insert nat_cmp_total table k v q ∙ ap (λ b. cond b (Some v) (get table q)) (unsigned_tied q k)

abbrev Holds : ℕ → ℕ → Phase → ℕ → LocalHealth → Known → Type 0
Holds q i phase number health table = (get table q ≡ Some (Confirm, i)) × ¬ (phase ≡ Waiting)

-- nothing overrides it
unlike : (me q i : ℕ) (t : State) (u : Update) → IsNews Papers me t u → FactOf (Holds q i) t → q ≡ u.subject → ⊥
unlike me q i t u says h same =
    false≢true (sym (never (are_claims u.claim Confirm) _) ∙ subst (λ held. is_news Papers (u.claim, u.inc) held ≡ true) (ap (get t.table) (sym same) ∙ h.0) says.news)
  where
    never : (a c : Bool) → (a && false && c) ≡ false
    never true c = refl
    never false c = refl

put_cases : (me q i : ℕ) (t : State) (u : Update) (b : Bool) → eqb q u.subject ≡ b → IsNews Papers me t u → FactOf (Holds q i) t
    → cond b (Some (u.claim, u.inc)) (get t.table q) ≡ Some (Confirm, i)
put_cases me q i t u true e says h = absurd (unlike me q i t u says h (eqb-true q u.subject e))
put_cases me q i t u false e says h = h.0

put_keeps : (me q i : ℕ) (t : State) (u : Update) → IsNews Papers me t u → FactOf (Holds q i) t → get (insert t.table u.subject (u.claim, u.inc)) q ≡ Some (Confirm, i)
put_keeps me q i t u says h = get_put t.table u.subject q (u.claim, u.inc) ∙ put_cases me q i t u (eqb q u.subject) refl says h

claimed : (me q i : ℕ) (t : State) (u : Update) → IsNews Papers me t u → FactOf (Holds q i) t → FactOf (Holds q i) (with_claim u t)
claimed me q i t u says h = (put_keeps me q i t u says h, h.1)

moves : (s : Setup) → profile_of s ≡ Papers → (k : Key) (q i : ℕ) → OwnMoves s k (FactOf (Holds q i))
moves s papers k q i = record {
  refuted = λ t claim number refutes h. h;
  weakened = λ t failures h. h;
  mended = λ t h. h;
  welcomed = λ t h. (h.0, λ is. absurd (let e = is in cc));
  downed = λ t h. (h.0, λ is. absurd (let e = is in cc));
  forgotten = λ t who held rules here dead h. absurd (let e = sym papers ∙ rules in cc);
  began = λ t waits h. absurd (h.1 waits);
  late = λ t waits h. absurd (h.1 waits);
  alone = λ t waits rules h. absurd (h.1 waits);
  again = λ t contact rules h. absurd (let e = sym papers ∙ rules in cc);
}

pub opened : (s : Setup) (m q : ℕ) → get (opening_state s m).table q ≡ None
unfolding opening_state
opened s m q = get-empty nat_cmp q

-- by the papers' rules
pub stays_confirmed : (s : Setup) → profile_of s ≡ Papers → (k : Key) (c : EventKind) (t : State) (q i : ℕ) → WaitsAsOpened s k.to t → get t.table q ≡ Some (Confirm, i)
    → get (step s k c t).state.table q ≡ Some (Confirm, i)
stays_confirmed s papers k c t q i waits here =
    (on_step s k Anyone (FactOf (Holds q i)) (keeps_news s k (Holds q i) (λ v u says h. claimed k.to q i v u (subst (λ profile. IsNews profile k.to v u) papers says) h)) (keeps_moves s k (Holds q i) (moves s papers k q i)) c t tt (anyone_named c)
    (here, λ is. false≢true (ap is_some (sym (ap (λ (t : State). get t.table q) (waits is) ∙ opened s k.to q) ∙ here)))).0
