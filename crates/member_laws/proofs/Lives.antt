-- A fact of a member's state that each change keeps but a start anew, through one life of the member.
use Rattle.std.proofs.Common.{◌≡◌, ℕ, ◌<◌, ◌≤◌, Option, Some, None, arith}
use Rattle.base.specs.declared.key.Key.{Key}
use Rattle.scenario.specs.Setup.{Setup}
use Rattle.scenario.specs.Profile.{profile_of}
use Rattle.scenario.specs.declared.settings.Queue.{Queue}
use Rattle.incarnation.specs.declared.Update.{Update}
use Rattle.lifeguard.specs.Health.{LocalHealth}
use Rattle.membership.specs.Table.{Known}
use Rattle.member.specs.declared.event_kind.EventKind.{EventKind}
use Rattle.member.specs.declared.member.Phase.{Phase}
use Rattle.member.specs.State.{State}
use Rattle.member.specs.Riding.{without_claims, without_both, room_of}
use Rattle.member.specs.Apply.{with_claim, without_suspicion, claim_kept_by}
use Rattle.member.specs.Step.{step}
use Rattle.member_laws.specs.Words.{IsBorn}
use Rattle.member_laws.proofs.Moves.{IsNews, FactOf, LifeMoves, NewsMoves, Moves, kept_either, death_either, put_either, Anyone}
use Rattle.member_laws.proofs.Walk.{on_step, anyone_named}

-- the life began no sooner than with a number, and where it is that one the fact holds
abbrev pub Within : ℕ → (Phase → ℕ → LocalHealth → Known → Type 0) → State → Type 0
Within b P t = (b ≤ t.life.birth) × (t.life.birth < t.next_number) × (t.life.birth ≡ b → FactOf P t)

module _ (s : Setup) (k : Key) (b : ℕ) (P : Phase → ℕ → LocalHealth → Known → Type 0)
    (claimed : (t : State) (u : Update) → IsNews (profile_of s) k.to t u → FactOf P t → FactOf P (with_claim u t)) (own : LifeMoves s k (FactOf P)) where
  kept : (t : State) (u : Update) → IsNews (profile_of s) k.to t u → Within b P t → Within b P (claim_kept_by (profile_of s) u t)
  kept t u says h =
      let there : Within b P (with_claim u t) = (h.0, h.1, λ same. claimed t u says (h.2 same)) in
      kept_either (Within b P) (profile_of s) u t there there there there

  life_news : NewsMoves s k Anyone (Within b P)
  life_news = record {
    counted = λ t h. (h.0, let low = h.1 in omega arith, h.2);
    put = λ t u named h. put_either (Within b P) s s.queue u t (λ buffer. h) (λ queue. h);
    alive = λ t u named says e h. kept t u says h;
    suspect = λ t u x named says e begins h. kept t u says h;
    confirm = λ t u named says e h. death_either (Within b P) (profile_of s) u.subject k.at (without_suspicion u.subject (claim_kept_by (profile_of s) u t)) (kept t u says h) (kept t u says h);
    accused = λ t u h. h;
    gossiping = λ t set h. h;
    regarding = λ t regards h. h;
    intended = λ t u named h. h;
  }

  claims_kept : (queue : Option Queue) (room : ℕ) (t : State) → Within b P t → Within b P (without_claims s queue room t)
  claims_kept None room t h = h
  claims_kept (Some q) room t h = h

  ridden_kept : (t : State) (bearer : _) → Within b P t → Within b P (without_both s k.to bearer t)
  unfolding without_both
  ridden_kept t bearer h = claims_kept s.queue (room_of s k.to bearer s.queue) t h

  life_moves : Moves s k Anyone (Within b P)
  life_moves = record {
    own = tt;
    known = λ t q held h here. tt;
    drawn = λ t rest is h. h;
    picked = λ t buddy h. h;
    ridden = ridden_kept;
    aimed = λ t probe h is. tt;
    targets = λ t target h is. tt;
    probing = λ t seq probe up aim h. h;
    turned = λ t h. h;
    forgotten = λ t q held rules here dead h. (h.0, h.1, λ same. own.forgotten t q held rules here dead (h.2 same));
    mixed = λ t h. h;
    relay_added = λ t relay on h. h;
    relay_removed = λ t relay h. h;
    waiting = λ t waits h. h;
    beaten = λ t beat h. h;
    heard_dead = λ t h. h;
    refuted = λ t claim number refutes h. (h.0, h.1, λ same. own.refuted t claim number refutes (h.2 same));
    weakened = λ t failures h. (h.0, h.1, λ same. own.weakened t failures (h.2 same));
    mended = λ t h. (h.0, h.1, λ same. own.mended t (h.2 same));
    welcomed = λ t h. (h.0, h.1, λ same. own.welcomed t (h.2 same));
    downed = λ t h. (h.0, h.1, λ same. own.downed t (h.2 same));
    began = λ t waits h. (h.0, h.1, λ same. own.began t waits (h.2 same));
    late = λ t waits h. (h.0, h.1, λ same. own.late t waits (h.2 same));
    asked = λ t contact h is. tt;
    answered = λ t h. h;
    leaving = λ t leaving h. h;
    alone = λ t waits rules h. (h.0, h.1, λ same. own.alone t waits rules (h.2 same));
    again = λ t contact rules named h. (let low = h.0 in let born = h.1 in omega arith, omega arith, λ same. absurd (let low = h.0 in let born = h.1 in omega arith));
  }

pub life_step : (s : Setup) (k : Key) (t : State) (P : Phase → ℕ → LocalHealth → Known → Type 0)
    → ((v : State) (u : Update) → IsNews (profile_of s) k.to v u → FactOf P v → FactOf P (with_claim u v)) → LifeMoves s k (FactOf P) → (c : EventKind) → IsBorn t → FactOf P t → Within t.life.birth P (step s k c t).state
life_step s k t P claimed own c born h =
    on_step s k Anyone (Within t.life.birth P) (life_news s k t.life.birth P claimed own) (life_moves s k t.life.birth P claimed own) c t tt (anyone_named c) (omega arith, born, λ same. h)

-- a life's timers have numbers from its birth on
Whatever : Phase → ℕ → LocalHealth → Known → Type 0
Whatever phase number health table = Unit {0}

any_moves : (s : Setup) (k : Key) → LifeMoves s k (FactOf Whatever)
unfolding Whatever
any_moves s k = record {
  refuted = λ t claim number refutes h. tt;
  weakened = λ t failures h. tt;
  mended = λ t h. tt;
  welcomed = λ t h. tt;
  downed = λ t h. tt;
  forgotten = λ t q held rules here dead h. tt;
  began = λ t waits h. tt;
  late = λ t waits h. tt;
  alone = λ t waits rules h. tt;
}

-- and a later life has a later birth
pub born_step : (s : Setup) (k : Key) (c : EventKind) (t : State) → IsBorn t → (t.life.birth ≤ (step s k c t).state.life.birth) × IsBorn (step s k c t).state
unfolding Whatever
born_step s k c t born =
    let there = life_step s k t Whatever (λ v u says h. tt) (any_moves s k) c born tt in
    (there.0, there.1)
