-- Whether what an update changes is written as rows and passed on.
use Rattle.std.specs.Prelude.{Bool, true, false}
use Rattle.member.specs.declared.announce.Announce.{Announce}
use Rattle.member.specs.declared.announce.Announce.TheVariants.{Aloud, Quietly}

-- what a member hears in a message or makes itself it announces aloud, an entry that a welcome brought it takes over quietly
abbrev pub is_aloud : Announce → Bool
is_aloud Aloud = true
is_aloud Quietly = false
