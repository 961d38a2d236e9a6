-- At which number a member that is confirmed may be held otherwise (memberlist's rules).
use Rattle.std.proofs.Common.{◌≡◌, ℕ, ◌<◌, ◌≤◌, Bool, true, false, cond, eqb, Some, refl, sym, ap, subst, ◌∙◌, arith}
use Rattle.std.proofs.lemmas.Bool.{false≢true, eqb-true, ltb-true, leb-true}
use Rattle.std.proofs.lemmas.Option.{same_Some}
use Rattle.std.specs.Option.{is_some}
use Rattle.std.specs.FinMap.{get}
use Rattle.base.specs.declared.key.Key.{Key}
use Rattle.base.specs.declared.profile.Profile.TheVariants.{Memberlist}
use Rattle.scenario.specs.Setup.{Setup}
use Rattle.scenario.specs.Profile.{profile_of}
use Rattle.incarnation.specs.declared.Claim.{Claim}
use Rattle.incarnation.specs.declared.Claim.TheVariants.{Alive, Suspect, Confirm, Left, Intent}
use Rattle.incarnation.specs.declared.Update.{Update}
use Rattle.lifeguard.specs.Health.{LocalHealth}
use Rattle.membership.specs.Table.{Known, does_override}
use Rattle.member.specs.declared.event_kind.EventKind.{EventKind}
use Rattle.member.specs.declared.member.Phase.{Phase}
use Rattle.member.specs.declared.member.Phase.TheVariants.{Waiting}
use Rattle.member.specs.State.{State}
use Rattle.member.specs.Apply.{with_claim}
use Rattle.member.specs.Step.{step}
use Rattle.member_laws.specs.Words.{WaitsAsOpened}
use Rattle.member_laws.proofs.Confirms.{get_put, opened}
use Rattle.member_laws.proofs.Moves.{is_news, IsNews, FactOf, OwnMoves, keeps_news, keeps_moves, Anyone}
use Rattle.member_laws.proofs.Walk.{on_step, anyone_named}

-- what may be held once somebody was confirmed at number j
abbrev pub Over : ℕ → Claim × ℕ → Type 0
Over j (Alive, i) = j < i
Over j (Suspect, i) = j < i
Over j (Confirm, i) = j ≤ i
Over j (Left, i) = j ≤ i
Over j (Intent, i) = ⊥

-- and what overrides such a claim is one
over_after : (j : ℕ) (new old : Claim × ℕ) → does_override Memberlist new old ≡ true → Over j old → Over j new
over_after j (Alive, i) (Alive, n) h over = let more = ltb-true n i h in omega (arith, more, over)
over_after j (Alive, i) (Suspect, n) h over = let more = ltb-true n i h in omega (arith, more, over)
over_after j (Alive, i) (Confirm, n) h over = let more = ltb-true n i h in omega (arith, more, over)
over_after j (Suspect, i) (Alive, n) h over = let more = leb-true n i h in omega (arith, more, over)
over_after j (Suspect, i) (Suspect, n) h over = absurd (false≢true h)
over_after j (Suspect, i) (Confirm, n) h over = absurd (false≢true h)
over_after j (Confirm, i) (Alive, n) h over = let more = leb-true n i h in omega (arith, more, over)
over_after j (Confirm, i) (Suspect, n) h over = let more = leb-true n i h in omega (arith, more, over)
over_after j (Confirm, i) (Confirm, n) h over = absurd (false≢true h)
over_after j (Alive, i) (Left, n) h over = let more = ltb-true n i h in omega (arith, more, over)
over_after j (Suspect, i) (Left, n) h over = absurd (false≢true h)
over_after j (Confirm, i) (Left, n) h over = absurd (false≢true h)
over_after j (Left, i) (Alive, n) h over = let more = leb-true n i h in omega (arith, more, over)
over_after j (Left, i) (Suspect, n) h over = let more = leb-true n i h in omega (arith, more, over)
over_after j (Left, i) (Confirm, n) h over = absurd (false≢true h)
over_after j (Left, i) (Left, n) h over = absurd (false≢true h)
over_after j (Intent, i) old h over = absurd (false≢true h)
over_after j new (Intent, n) h over = absurd over

-- somebody is held so
abbrev pub HeldOver : ℕ → ℕ → Known → Type 0
HeldOver q j table = (held : Claim × ℕ) × (get table q ≡ Some held) × Over j held

abbrev Holds : ℕ → ℕ → Phase → ℕ → LocalHealth → Known → Type 0
Holds q j phase number health table = HeldOver q j table × ¬ (phase ≡ Waiting)

put_cases : (me q j : ℕ) (t : State) (u : Update) (b : Bool) → eqb q u.subject ≡ b → IsNews Memberlist me t u → HeldOver q j t.table
    → (held : Claim × ℕ) × (cond b (Some (u.claim, u.inc)) (get t.table q) ≡ Some held) × Over j held
put_cases me q j t u true e says (held, is, over) =
    let there : get t.table u.subject ≡ Some held = ap (get t.table) (sym (eqb-true q u.subject e)) ∙ is in
    let overrides : does_override Memberlist (u.claim, u.inc) held ≡ true = subst (λ h. is_news Memberlist (u.claim, u.inc) h ≡ true) there says.news in
    ((u.claim, u.inc), refl, over_after j (u.claim, u.inc) held overrides over)
put_cases me q j t u false e says held = held

claimed : (me q j : ℕ) (t : State) (u : Update) → IsNews Memberlist me t u → FactOf (Holds q j) t → FactOf (Holds q j) (with_claim u t)
claimed me q j t u says h =
    let put = put_cases me q j t u (eqb q u.subject) refl says h.0 in
    ((put.0, get_put t.table u.subject q (u.claim, u.inc) ∙ put.1, put.2), h.1)

moves : (s : Setup) → profile_of s ≡ Memberlist → (k : Key) (q j : ℕ) → OwnMoves s k (FactOf (Holds q j))
moves s rules k q j = record {
  refuted = λ t claim number refutes h. h;
  weakened = λ t failures h. h;
  mended = λ t h. h;
  welcomed = λ t h. (h.0, λ is. absurd (let e = is in cc));
  downed = λ t h. (h.0, λ is. absurd (let e = is in cc));
  forgotten = λ t who held others here dead h. absurd (let e = sym rules ∙ others in cc);
  began = λ t waits h. absurd (h.1 waits);
  late = λ t waits h. absurd (h.1 waits);
  alone = λ t waits others h. absurd (h.1 waits);
  again = λ t contact others h. absurd (let e = sym rules ∙ others in cc);
}

-- who knows somebody has started
started : (s : Setup) (m : ℕ) (t : State) (q : ℕ) (held : Claim × ℕ) → WaitsAsOpened s m t → get t.table q ≡ Some held → ¬ (t.phase ≡ Waiting)
started s m t q held waits here is = false≢true (ap is_some (sym (ap (λ (t : State). get t.table q) (waits is) ∙ opened s m q) ∙ here))

pub stays_over : (s : Setup) → profile_of s ≡ Memberlist → (k : Key) (c : EventKind) (t : State) (q j : ℕ) → WaitsAsOpened s k.to t → HeldOver q j t.table → HeldOver q j (step s k c t).state.table
stays_over s rules k c t q j waits (held, here, over) =
    (on_step s k Anyone (FactOf (Holds q j)) (keeps_news s k (Holds q j) (λ v u says h. claimed k.to q j v u (subst (λ profile. IsNews profile k.to v u) rules says) h))
    (keeps_moves s k (Holds q j) (moves s rules k q j)) c t tt (anyone_named c) ((held, here, over), started s k.to t q held waits here)).0

-- who was confirmed at number j, and is held so now
pub confirmed_over : (q j : ℕ) (table : Known) → get table q ≡ Some (Confirm, j) → HeldOver q j table
confirmed_over q j table here = ((Confirm, j), here, omega arith)

pub alive_over : (q j i : ℕ) (table : Known) → HeldOver q j table → get table q ≡ Some (Alive, i) → j < i
alive_over q j i table (held, here, over) alive = subst (Over j) (same_Some held (Alive, i) (sym here ∙ alive)) over

pub revived_over : (s : Setup) → profile_of s ≡ Memberlist → (k : Key) (c : EventKind) (t : State) (q j i : ℕ) → WaitsAsOpened s k.to t → get t.table q ≡ Some (Confirm, j)
    → get (step s k c t).state.table q ≡ Some (Alive, i) → j < i
revived_over s rules k c t q j i waits before after =
    alive_over q j i (step s k c t).state.table (stays_over s rules k c t q j waits (confirmed_over q j t.table before)) after
