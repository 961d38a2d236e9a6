-- How Serf regards the other members (Serf, serf.go: handleNodeLeaveIntent, handleNodeLeave): of whom it heard that it is about to leave, and who failed, that
-- is died or left without having said so before.
use Rattle.std.specs.Prelude.{ℕ, ◌+◌, Bool, true, false, nat_eq, nat_lt, if◌then◌else◌, List, filter, slice_index_or}
use Rattle.std.specs.List.{range_with_len}
use Rattle.lives.specs.declared.regards.Regard.{Regard}
use Rattle.lives.specs.declared.regards.Regard.TheVariants.{Usual, Marked, Failed}

-- how each member is regarded, by its number
abbrev pub Regards : Type 0
Regards = ℕ → Regard

-- at first
abbrev pub usual : Regards
usual = λ member. Usual

-- one member is regarded so from now on
abbrev pub regarded : ℕ → Regard → Regards → Regards
regarded subject regard regards = λ member. if nat_eq member subject then regard else regards member

abbrev pub is_marked : Regard → Bool
is_marked Usual = false
is_marked Marked = true
is_marked (Failed since) = false

abbrev pub is_failed : Regard → Bool
is_failed Usual = false
is_failed Marked = false
is_failed (Failed since) = true

-- of one that dies or leaves now: it has failed, unless it is marked
abbrev pub gone_now : ℕ → Regard → Regard
gone_now now regard = if is_marked regard then regard else Failed now

-- one that failed more than so many ticks ago is regarded as any other
abbrev pub reaped : ℕ → ℕ → Regard → Regard
reaped now ticks Usual = Usual
reaped now ticks Marked = Marked
reaped now ticks (Failed since) = if nat_lt (since + ticks) now then Usual else Failed since

-- among the first members, so many of them, those that failed, in the order of their numbers
abbrev pub failed_among : ℕ → Regards → List ℕ
failed_among members regards = filter (λ m. is_failed (regards m)) (range_with_len 0 members)

-- what a column of them says, in which nothing stands for those past its end
abbrev pub regards_of : List Regard → Regards
regards_of column = λ member. slice_index_or column member Usual
