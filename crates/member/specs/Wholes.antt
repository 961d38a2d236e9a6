-- All that a member knows, as it tells others in one message.
use Rattle.std.specs.Prelude.{ℕ, List, if◌then◌else◌}
use Rattle.std.specs.FinMap.{insert}
use Rattle.base.specs.declared.profile.Profile.{Profile}
use Rattle.base.specs.declared.profile.Profile.TheVariants.{Papers, Memberlist, Hashicorp}
use Rattle.incarnation.specs.declared.Claim.{Claim}
use Rattle.incarnation.specs.declared.Claim.TheVariants.{Alive, Left}
use Rattle.incarnation.specs.declared.Update.{Update}
use Rattle.lives.specs.declared.leaving.Leaving.{Leaving}
use Rattle.lives.specs.Lives.{has_said}
use Rattle.membership.specs.Table.{Known, updates_by}
use Rattle.member.specs.State.{State}

-- The whole table, and oneself alive at one's own number.
unfoldable pub whole_table : ℕ → ℕ → Known → List Update
whole_table me incarnation table = updates_by me (insert table me (Alive, incarnation))

-- what a member claims of itself by memberlist 0.5.0's rules: that it has left, once it says so
abbrev pub own_word : Leaving → Claim
own_word leaving = if has_said leaving then Left else Alive

-- The whole table, and oneself by one's own word.
unfoldable pub whole_state : ℕ → State → List Update
whole_state me t = updates_by me (insert t.table me (own_word t.life.leaving, t.incarnation))

-- by the rules of a profile
abbrev pub whole_by : Profile → ℕ → State → List Update
whole_by Papers me t = whole_table me t.incarnation t.table
whole_by Memberlist me t = whole_table me t.incarnation t.table
whole_by Hashicorp me t = whole_state me t
