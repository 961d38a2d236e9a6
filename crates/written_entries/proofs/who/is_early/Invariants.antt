use Rattle.std.proofs.Common.{◌≡◌, ◌≤◌, ◌+◌, ◌*◌, ◌^◌, drop}
use Rattle.plain_entries.specs.Entries.{start_in}
use Rattle.written_entries.specs.Bad.{is_early}
use Rattle.written_entries.proofs.who.is_early.Given as goal

-- the members from this one on are early, or not, as all are
abbrev pub invariant-loop-member : goal.invariant-loop-member
invariant-loop-member l = record {
  rest : is_early (start_in l.starts) l.moment l.each (drop l.member-index l.members) ≡ is_early (start_in l.starts) l.fn.at l.each l.members;
  low : l.moment ≤ 2 ^ 40 + l.member-index * 2 ^ 40;
}
