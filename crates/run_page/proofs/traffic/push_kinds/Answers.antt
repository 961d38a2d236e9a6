use Rattle.std.proofs.Common.{append_assoc, refl}
use Rattle.run_page.specs.Traffic.{kinds_legend}
use Rattle.run_page.proofs.traffic.push_kinds.Goals as goal

pub returns : goal.returns
unfolding kinds_legend
returns c = simp (c.in_ok-push_str-2.ensures.bytes, c.in_ok-push_lost_entry.ensures, c.in_ok-push_all_entries.ensures, c.in_ok-push_str.ensures.bytes, append_assoc) refl
