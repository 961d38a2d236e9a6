-- How long members wait, and how many of them may have failed.
use Rattle.std.proofs.Common.{ℕ, ◌≤◌, ◌^◌, length, Option, Some, None, arith}
use Rattle.std.specs.Option.{IfSome}
use Rattle.std.specs.List.{range_with_len}
use Rattle.std.proofs.lemmas.List.Sums.{length-filter, count_by-le-length}
use Rattle.std.proofs.lemmas.List.FromFn.{length-range_with_len}
use Rattle.scenario.specs.Setup.{IsSoundSerf}
use Rattle.scenario.specs.declared.settings.Serf.{Serf}
use Rattle.lives.specs.Regards.{Regards, is_failed, failed_among}
use Rattle.member.specs.Leaves.{linger_of}

pub linger_short : (serf : Option Serf) → IfSome serf IsSoundSerf → linger_of serf ≤ 2 ^ 24
linger_short None is = omega arith
linger_short (Some serf) is = is.linger.1

pub few_failed : (members : ℕ) (regards : Regards) → length (failed_among members regards) ≤ members
few_failed members regards =
    let test = λ (m : ℕ). is_failed (regards m) in
    omega (arith, length-filter test (range_with_len 0 members), count_by-le-length test (range_with_len 0 members), length-range_with_len 0 members)
