use Rattle.probing.proofs.AheadLemmas.{sixteen_read}
use Rattle.probing.proofs.sixteen_from.Goals as goal

pub returns : goal.returns
returns c =
    sixteen_read c.args.members.now c.args.place _ _ _ _ _ _ _ _ _ _ _ _ _ _ _ _
    c.member_at.ensures c.member_at-2.ensures c.member_at-3.ensures c.member_at-4.ensures c.member_at-5.ensures c.member_at-6.ensures c.member_at-7.ensures c.member_at-8.ensures c.member_at-9.ensures c.member_at-10.ensures c.member_at-11.ensures c.member_at-12.ensures c.member_at-13.ensures c.member_at-14.ensures c.member_at-15.ensures c.member_at-16.ensures
