-- What a member keeps through one life, from a start to the next, by memberlist 0.5.0's and Serf's rules.
use Rattle.std.specs.Prelude.{ℕ, Bool, true, false, Option, Some, None, Box}
use Rattle.std.specs.FinMap.{empty}
use Rattle.std.specs.Box.{box_value}
use Rattle.piggyback.specs.Picked as piggyback
use Rattle.broadcast_queue.specs.Broadcasts.{Queue, new_queue}
use Rattle.lives.specs.declared.kept.Kept.{Kept}
use Rattle.lives.specs.declared.life.Life.{Life}
use Rattle.lives.specs.declared.leaving.Leaving.{Leaving}
use Rattle.lives.specs.declared.leaving.Leaving.TheVariants.{Stays, Intends, Says, Lingers}
use Rattle.lives.specs.Regards.{Regards, usual, regards_of}

pub record LifeState : Type 0 where
  -- the number from which on its timers are of this life
  pub birth : ℕ
  -- whom it asks for all that is known, until it has heard that
  pub contact : Option ℕ
  -- how far its leave is
  pub leaving : Leaving
  -- how Serf regards the others
  pub regards : Regards
  -- the intents that are still to be sent
  pub intents : piggyback.HeldUpdates
  -- the updates that are still to be sent, where memberlist's queue holds them
  pub queue : Queue

abbrev pub first_life : LifeState
first_life = record { birth = 0; contact = None; leaving = Stays; regards = usual; intents = empty; queue = new_queue }

-- a life that begins with this number, of a member that asks somebody, or nobody
abbrev pub life_begun : ℕ → Option ℕ → LifeState
life_begun birth contact = record first_life { birth = birth; contact = contact }

-- whether it says, or has said, that it has left
abbrev pub has_said : Leaving → Bool
has_said Stays = false
has_said Intends = false
has_said Says = true
has_said Lingers = true

abbrev pub does_stay : Leaving → Bool
does_stay Stays = true
does_stay Intends = false
does_stay Says = false
does_stay Lingers = false

abbrev pub does_intend : Leaving → Bool
does_intend Stays = false
does_intend Intends = true
does_intend Says = false
does_intend Lingers = false

abbrev pub does_say : Leaving → Bool
does_say Stays = false
does_say Intends = false
does_say Says = true
does_say Lingers = false

-- what is kept in memory
abbrev pub kept_state : Kept → LifeState
kept_state kept = record {
  birth = kept.birth;
  contact = kept.contact;
  leaving = kept.leaving;
  regards = regards_of kept.regards.items;
  intents = kept.intents;
  queue = kept.queue;
}

-- as long as nothing was kept it is as at first
abbrev pub held_state : {Z : Type 0} → Option (Box Kept Z) → LifeState
held_state None = first_life
held_state (Some held) = kept_state (box_value held)

abbrev pub life_of : Life → LifeState
life_of life = held_state life.kept
