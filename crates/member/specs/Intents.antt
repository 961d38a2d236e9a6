-- Serf's intents (serf.go: handleNodeLeaveIntent, handleNodeLeave): a member that is about to leave tells others so before it leaves. Who dies or leaves without
-- having told so has failed.
use Rattle.std.specs.Prelude.{ℕ, ◌||◌, Bool, nat_eq, if◌then◌else◌, Option, Some, None}
use Rattle.std.specs.FinMap.{insert}
use Rattle.scenario.specs.declared.settings.Serf.{Serf}
use Rattle.incarnation.specs.declared.Update.{Update}
use Rattle.membership.specs.Table.{is_alive, is_confirm}
use Rattle.lives.specs.declared.regards.Regard.{Regard}
use Rattle.lives.specs.declared.regards.Regard.TheVariants.{Usual}
use Rattle.lives.specs.Regards.{gone_now, is_marked, regarded}
use Rattle.member.specs.State.{State}

-- a member is regarded so from now on
abbrev pub with_regard : ℕ → Regard → State → State
with_regard subject regard t = record t { life = record t.life { regards = regarded subject regard t.life.regards } }

-- how a member is regarded after a claim that is news: as usual where it is up, as failed where it is gone and is not known to leave
abbrev pub regard_kept : ℕ → Update → State → State
regard_kept now u t =
    if is_alive u.claim then with_regard u.subject Usual t
    else if is_confirm u.claim then with_regard u.subject (gone_now now (t.life.regards u.subject)) t
    else t

-- where there is Serf
abbrev pub regards_kept : Option Serf → ℕ → Update → State → State
regards_kept None now u t = t
regards_kept (Some serf) now u t = regard_kept now u t

-- an intent is put among those that are still to be sent
abbrev pub with_intent : Update → State → State
with_intent u t = record t { life = record t.life { intents = insert t.life.intents u.subject (u, 0) } }

-- whether an intent tells a member nothing: it is about itself, or about one of whom it knows that
abbrev pub is_known_intent : ℕ → ℕ → State → Bool
is_known_intent me subject t = nat_eq subject me || is_marked (t.life.regards subject)
