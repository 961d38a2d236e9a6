-- The round with which a member starts that knows others: by memberlist 0.5.0's rules it is somewhere in a round, as one that has been up for long.
-- Else all members would come to the ends of their rounds in step, and forget the dead in step.
use Rattle.base.specs.declared.profile.Profile.{Profile}
use Rattle.base.specs.declared.profile.Profile.TheVariants.{Papers, Memberlist, Hashicorp}
use Rattle.probing.specs.Mixed.{mixed_of}
use Rattle.member.specs.State.{State}

-- by the rules of a profile: at the beginning of a round, or somewhere in it
abbrev pub first_round : Profile → State → State
first_round Papers t = t
first_round Memberlist t = t
first_round Hashicorp t = record t { rota = (mixed_of t.words t.rota).0; words = (mixed_of t.words t.rota).1 }
