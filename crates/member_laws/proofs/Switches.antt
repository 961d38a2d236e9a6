-- What the switches of Lifeguard's mechanisms leave out.
use Rattle.std.proofs.Common.{◌≡◌, ℕ, Bool, true, false, cond, ◌&&◌, ◌||◌, nat_eq, Option, Some, None, All, refl, sym, ap, ◌∙◌, arith, List, [], ◌∷◌}
use Rattle.std.specs.List.{AllByRecursion}
use Rattle.std.specs.Option.{is_some, option_and_then, IfSome}
use Rattle.std.specs.FinMap.{get, insert, remove}
use Rattle.std.specs.FinSet as set
use Rattle.std.specs.FinSet.{contains-remove}
use Rattle.std.proofs.lemmas.Bool.{false≢true, eq-eqb}
use Rattle.std.proofs.lemmas.List.Elements.{All-from_recursion}
use Rattle.base.specs.declared.key.Key.{Key}
use Rattle.base.proofs.Rising.{all_append}
use Rattle.scenario.specs.Setup.{Setup}
use Rattle.trace.specs.declared.row.Row.{Row}
use Rattle.trace.specs.declared.row.What.{What}
use Rattle.trace.specs.declared.row.What.TheVariants as what
use Rattle.incarnation.specs.declared.Update.{Update}
use Rattle.lifeguard.specs.Health.{LocalHealth}
use Rattle.lifeguard.proofs.RelaySets.{relays_total}
use Rattle.suspicion.specs.declared.terms.Terms.{Terms}
use Rattle.suspicion.specs.Settings.{terms_of}
use Rattle.suspicion.specs.Suspicions.{HeldSuspicion, HeldSuspicions, counts, with_accuser, accused}
use Rattle.member.specs.declared.event_kind.EventKind.{EventKind}
use Rattle.member.specs.State.{State}
use Rattle.member.specs.Effects.{Effect, with_row, with_event}
use Rattle.member.specs.LoneBuddy.{suspicion_held, lone_buddy_of}
use Rattle.member.specs.Send.{suspicion_told, buddy_of}
use Rattle.scenario.specs.Profile.{profile_of}
use Rattle.member.specs.Apply.{claim_kept_by, without_suspicion, death_kept}
use Rattle.member.specs.Opening.{opening_health}
use Rattle.member.specs.Step.{step}
use Rattle.member_laws.specs.Words.{keeps_relays, HasTerms, OwesNoneWithout, IsConsistent}
use Rattle.member_laws.specs.Rows.{IsOn}
use Rattle.scenario.specs.declared.settings.Queue.{Queue}
use Rattle.std.specs.FinSet.{contains-empty}
use Rattle.lifeguard.specs.Relays.{relay_cmp}
use Rattle.member.specs.Opening.{opening_state}
use Rattle.member.specs.Riding.{without_claims, without_both, room_of}
use Rattle.member_laws.proofs.Moves.{NewsMoves, Moves, at_again, kept_either, death_either, put_either, Anyone}
use Rattle.member_laws.proofs.Walk.{all_anyone, anyone_named}
use Rattle.member_laws.proofs.Made.{IsPlain, MayTell, SendsNacks, Makes, AnyTime, any_time, by_step, Carries}
use Rattle.member_laws.proofs.Tables.{OfAll, of_put, of_left, of_accused, none_suspects}
use Rattle.member_laws.proofs.Consistency.{IsHealthy, healthy_raised, healthy_lowered, relay_gone}

-- ---- what the switches stand on

record IsSet (s : Setup) (t : State) : Type 0 where
  terms : HasTerms s t
  relays : OwesNoneWithout s t
  health : IsHealthy (opening_health s).ceiling t.health

abbrev Settled : HeldSuspicions → Terms → Type 0
Settled suspicions terms = OfAll (λ x. x.terms ≡ terms) suspicions

module _ (s : Setup) (k : Key) where
  news : NewsMoves s k Anyone (IsSet s)
  news = record {
    counted = λ t h. record { terms = h.terms; relays = h.relays; health = h.health };
    put = λ t u named h.
        put_either (IsSet s) s s.queue u t (λ buffer. record { terms = h.terms; relays = h.relays; health = h.health }) (λ queue. record { terms = h.terms; relays = h.relays; health = h.health });
    regarding = λ t regards h. record { terms = h.terms; relays = h.relays; health = h.health };
    intended = λ t u named h. record { terms = h.terms; relays = h.relays; health = h.health };
    alive = λ t u named says e h. ended t u h;
    suspect = λ t u x named says e begins h. begun t u x begins.terms h;
    confirm = λ t u named says e h. out t u h;
    accused = λ t u h. record {
      terms = of_accused (λ x. x.terms ≡ terms_of s) (λ x accuser g own. own) t.suspicions u.subject u.accuser t.next_number h.terms;
      relays = h.relays;
      health = h.health;
    };
    gossiping = λ t set h. record { terms = h.terms; relays = h.relays; health = h.health };
  }
    where
      left : (t : State) (u : Update) → IsSet s t → Settled (remove t.suspicions u.subject) (terms_of s)
      left t u h = of_left (λ x. x.terms ≡ terms_of s) t.suspicions u.subject h.terms

      ended : (t : State) (u : Update) → IsSet s t → IsSet s (record (claim_kept_by (profile_of s) u t) { suspicions = remove (claim_kept_by (profile_of s) u t).suspicions u.subject })
      ended t u h =
          kept_either (λ v. IsSet s (record v { suspicions = remove v.suspicions u.subject })) (profile_of s) u t
          (record { terms = left t u h; relays = h.relays; health = h.health }) (record { terms = left t u h; relays = h.relays; health = h.health }) (record { terms = left t u h; relays = h.relays; health = h.health }) (record { terms = left t u h; relays = h.relays; health = h.health })

      out : (t : State) (u : Update) → IsSet s t → IsSet s (death_kept (profile_of s) u.subject k.at (without_suspicion u.subject (claim_kept_by (profile_of s) u t)))
      out t u h =
          let kept = ended t u h in
          death_either (IsSet s) (profile_of s) u.subject k.at (without_suspicion u.subject (claim_kept_by (profile_of s) u t)) kept (record { terms = kept.terms; relays = kept.relays; health = kept.health })

      more : (t : State) (u : Update) (x : HeldSuspicion) → x.terms ≡ terms_of s → IsSet s t → Settled (insert t.suspicions u.subject x) (terms_of s)
      more t u x own h = of_put (λ x. x.terms ≡ terms_of s) t.suspicions u.subject x own h.terms

      begun : (t : State) (u : Update) (x : HeldSuspicion) → x.terms ≡ terms_of s → IsSet s t
          → IsSet s (record (claim_kept_by (profile_of s) u t) { suspicions = insert (claim_kept_by (profile_of s) u t).suspicions u.subject x })
      begun t u x own h =
          kept_either (λ v. IsSet s (record v { suspicions = insert v.suspicions u.subject x })) (profile_of s) u t
          (record { terms = more t u x own h; relays = h.relays; health = h.health }) (record { terms = more t u x own h; relays = h.relays; health = h.health }) (record { terms = more t u x own h; relays = h.relays; health = h.health }) (record { terms = more t u x own h; relays = h.relays; health = h.health })

  rides : (queue : Option Queue) (room : ℕ) (t : State) → IsSet s t → IsSet s (without_claims s queue room t)
  rides None room t h = record { terms = h.terms; relays = h.relays; health = h.health }
  rides (Some q) room t h = record { terms = h.terms; relays = h.relays; health = h.health }

  rides_both : (t : State) (bearer : _) → IsSet s t → IsSet s (without_both s k.to bearer t)
  unfolding without_both
  rides_both t bearer h = let left = rides s.queue (room_of s k.to bearer s.queue) t h in record { terms = left.terms; relays = left.relays; health = left.health }

  born_again : (t : State) (contact : Option ℕ) → IsSet s t → IsSet s (at_again s k contact t)
  unfolding opening_state
  born_again t contact h = record {
    terms = (none_suspects (terms_of s)).settled;
    relays = λ off relay. contains-empty relay_cmp relay;
    health = record { within = omega arith; same = refl };
  }

  moves : Moves s k Anyone (IsSet s)
  moves = record {
    own = tt;
    aimed = λ t probe h is. tt;
    targets = λ t target h is. tt;
    known = λ t q held h here. tt;
    drawn = λ t rest is h. record { terms = h.terms; relays = h.relays; health = h.health };
    picked = λ t buddy h. record { terms = h.terms; relays = h.relays; health = h.health };
    probing = λ t seq probe up aim h. record { terms = h.terms; relays = h.relays; health = h.health };
    turned = λ t h. record { terms = h.terms; relays = h.relays; health = h.health };
    forgotten = λ t q held rules here dead h. record { terms = h.terms; relays = h.relays; health = h.health };
    mixed = λ t h. record { terms = h.terms; relays = h.relays; health = h.health };
    relay_added = λ t relay on h. record { terms = h.terms; relays = λ off. absurd (false≢true (sym off ∙ on)); health = h.health };
    relay_removed = λ t relay h. record {
      terms = h.terms;
      relays = λ off other. contains-remove relays_total t.relays relay other ∙ relay_gone _ _ (h.relays off other);
      health = h.health;
    };
    heard_dead = λ t h. record { terms = h.terms; relays = h.relays; health = h.health };
    waiting = λ t waits h. record { terms = h.terms; relays = h.relays; health = h.health };
    beaten = λ t beat h. record { terms = h.terms; relays = h.relays; health = h.health };
    refuted = λ t claim number refutes h. record { terms = h.terms; relays = h.relays; health = h.health };
    weakened = λ t failures h. record { terms = h.terms; relays = h.relays; health = healthy_raised (opening_health s).ceiling t.health failures h.health };
    mended = λ t h. record { terms = h.terms; relays = h.relays; health = healthy_lowered (opening_health s).ceiling t.health h.health };
    welcomed = λ t h. record { terms = h.terms; relays = h.relays; health = h.health };
    downed = λ t h. record { terms = h.terms; relays = h.relays; health = h.health };
    began = λ t waits h. record { terms = h.terms; relays = h.relays; health = h.health };
    late = λ t waits h. record { terms = h.terms; relays = h.relays; health = h.health };
    ridden = rides_both;
    asked = λ t contact h is. tt;
    answered = λ t h. record { terms = h.terms; relays = h.relays; health = h.health };
    leaving = λ t leaving h. record { terms = h.terms; relays = h.relays; health = h.health };
    alone = λ t waits rules h. record { terms = h.terms; relays = h.relays; health = h.health };
    again = λ t contact rules named h. born_again t contact h;
  }

-- ---- rows

on_plain : (s : Setup) (tells : What) → IsPlain (Unit {0}) tells → IsOn s tells
on_plain s what.Accuse h = absurd h
on_plain s what.Nack h = absurd h
on_plain s what.Health h = absurd h
on_plain s _ h = tt

on_nack : (s : Setup) (t : State) (relay : ℕ × ℕ) (b c : Bool) → s.lifeguard.probe ≡ b → keeps_relays (profile_of s) ≡ c → SendsNacks s → IsSet s t → set.contains t.relays relay ≡ true → b ≡ true
on_nack s t relay true c e kept sends h here = refl
on_nack s t relay false true e kept sends h here = sym e ∙ sends kept
on_nack s t relay false false e kept sends h here = absurd (false≢true (sym (h.relays (λ i. e i || kept i) relay) ∙ here))

counts_shortens : (a b c : Bool) → (a && b && c) ≡ true → a ≡ true
counts_shortens true b c h = refl
counts_shortens false b c h = h

confirmed_counts : (y x : HeldSuspicion) (accuser g : ℕ) (b : Bool) → cond b (Some (with_accuser y accuser g)) None ≡ Some x → b ≡ true
confirmed_counts y x accuser g true is = refl
confirmed_counts y x accuser g false is = absurd (false≢true (ap is_some is))

on_accuse : (s : Setup) (t : State) (k accuser g : ℕ) (x : HeldSuspicion) (o : Option HeldSuspicion) → IsSet s t → get t.suspicions k ≡ o
    → option_and_then (λ y. accused y accuser g) o ≡ Some x → s.lifeguard.suspicion ≡ true
on_accuse s t k accuser g x None h here is = absurd (false≢true (ap is_some is))
on_accuse s t k accuser g x (Some y) h here is =
    ap (λ (terms : Terms). terms.shortens) (sym (h.terms k y here))
    ∙ counts_shortens y.terms.shortens _ _ (confirmed_counts y x accuser g (counts y accuser) is)

none_differs : (c g h : LocalHealth) → c.ceiling ≡ 0 → IsHealthy c.ceiling g → IsHealthy c.ceiling h → nat_eq h.counter g.counter ≡ true
none_differs c g h none is as' = eq-eqb h.counter g.counter (omega (arith, is.within, is.same, as'.within, as'.same))

on_health : (s : Setup) (t : State) (h : LocalHealth) (b : Bool) → s.lifeguard.probe ≡ b → IsHealthy (opening_health s).ceiling t.health → IsHealthy (opening_health s).ceiling h
    → nat_eq h.counter t.health.counter ≡ false → b ≡ true
on_health s t h true e is as' differs = refl
on_health s t h false e is as' differs =
    absurd (false≢true (sym differs ∙ none_differs (opening_health s) t.health h (ap (λ b. cond b s.lifeguard.ceiling 0) e) is as'))

may : (s : Setup) → MayTell s (IsSet s) (Unit {0}) (IsOn s)
may s = record {
  plain = on_plain s;
  nacks = λ t relay h here sends. on_nack s t relay s.lifeguard.probe (keeps_relays (profile_of s)) refl refl sends h here;
  accuses = λ t u x h is. on_accuse s t u.subject u.accuser t.next_number x (get t.suspicions u.subject) h refl is;
  healths = λ t h is as' differs. on_health s t h s.lifeguard.probe refl is.health as'.health differs;
}

each_anyone : (xs : List ℕ) → AllByRecursion Anyone xs
each_anyone [] = tt
each_anyone (x ∷ xs) = (tt, each_anyone xs)

-- anyone may be named
pub carries_anyone : (s : Setup) (k : Key) (R : State → Type 0) → Carries s k Anyone R
carries_anyone s k R = record {
  plain = λ t bearer h. all_anyone _;
  ping = λ t to h. all_anyone _;
  contact = λ c is. tt;
  helpers = λ t but count h. each_anyone _;
  sample = λ t fitting count h. each_anyone _;
  whole = λ t h. all_anyone _;
  known = λ t h. all_anyone _;
  failed = λ t m place failed h are. tt;
}

abbrev AllOn : Setup → Effect → Type 0
AllOn s o = AllByRecursion (λ row. IsOn s row.what) o.rows

one_row : (s : Setup) (k : Key) (tells : What) (about : Option ℕ) (value : ℕ) (lost : Bool) (o : Effect) → IsOn s tells → IfSome about Anyone → AllOn s o → AllOn s (with_row k tells about value lost o)
unfolding with_row
one_row s k tells about value lost o on named h = all_append (λ row. IsOn s row.what) o.rows _ h (on, tt)

same_rows : (s : Setup) (k : Key) (at to : ℕ) (content : EventKind) (o : Effect) → AllOn s o → AllOn s (with_event s k at to content o)
unfolding with_event
same_rows s k at to content o h = h

makes : (s : Setup) (k : Key) → Makes s k Anyone (Unit {0}) (IsOn s) AnyTime (AllOn s)
makes s k = record {
  row = one_row s k;
  event = λ at to content o timed there named h. same_rows s k at to content o h;
  lost = λ o h. h;
  state = λ t o same h. h;
}

pub each_row_is_on : (s : Setup) (k : Key) (c : EventKind) (t : State) → IsConsistent s k.to t → AllByRecursion (λ (row : Row). IsOn s row.what) (step s k c t).rows
each_row_is_on s k c t h =
    let is : IsSet s t = record { terms = h.terms; relays = h.relays; health = record { within = h.health; same = h.ceiling } } in
    by_step s k Anyone (IsSet s) (news s k) (moves s k) (Unit {0}) (IsOn s) (may s) (carries_anyone s k (IsSet s)) AnyTime (any_time s k (IsSet s)) (AllOn s) (makes s k) c t tt (anyone_named c)
    (λ _. is) (λ waits. (moves s k).began t waits is) (λ waits. (moves s k).late t waits is) (λ waits rules. (moves s k).alone t waits rules is) tt

pub rows_are_on : (s : Setup) (k : Key) (c : EventKind) (t : State) → IsConsistent s k.to t → All (λ (row : Row). IsOn s row.what) (step s k c t).rows
rows_are_on s k c t h = All-from_recursion (λ (row : Row). IsOn s row.what) (step s k c t).rows (each_row_is_on s k c t h)

pub full_without : (s : Setup) (m : ℕ) (t : State) → s.lifeguard.probe ≡ false → IsConsistent s m t → t.health.counter ≡ 0
full_without s m t off h =
    let none : (opening_health s).ceiling ≡ 0 = ap (λ b. cond b s.lifeguard.ceiling 0) off in
    omega (arith, h.health, h.ceiling)

pub no_buddy : (s : Setup) (to : ℕ) (t : State) → s.lifeguard.buddy ≡ false → buddy_of s to t ≡ None
unfolding buddy_of
no_buddy s to t off = ap (λ b. cond b (suspicion_told t to (get t.table to)) None) off

pub no_lone_buddy : (s : Setup) (me to : ℕ) (t : State) → s.lifeguard.buddy ≡ false → lone_buddy_of s me to t ≡ None
unfolding lone_buddy_of
no_lone_buddy s me to t off = ap (λ b. cond b (suspicion_held me to (get t.table to)) None) off
