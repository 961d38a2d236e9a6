-- The world in which a run begins is a whole cluster, and the part of it that owns every member is consistent.
use Rattle.std.proofs.Common.{◌≡◌, ℕ, Bool, true, false, nat_lt, map, ap, ◌∙◌, subst, refl, arith}
use Rattle.std.specs.Option.{is_some}
use Rattle.std.specs.Cmp.{nat_cmp_total}
use Rattle.std.specs.FinMap.{contains_key, nat_cmp-IsAntisymmetric, get-from_entries, same_map}
use Rattle.std.proofs.lemmas.Bool.{ltb-true, ltb-false}
use Rattle.base.specs.Order.{key_total, key_exact}
use Rattle.scenario.specs.Setup.{Setup, IsSound, member_count}
use Rattle.member.specs.Opening.{opening, opening_state, numbers}
use Rattle.member_laws.specs.Runs.{Cluster}
use Rattle.member_laws.proofs.Opened.{member_there, opening_numbered}
use Rattle.windows.specs.Parts.{part_of}
use Rattle.windows.specs.Cluster.{IsWholeCluster}
use Rattle.windows.specs.Window.{IsConsistentPart}
use Rattle.windows.proofs.Admitting.{find_none}
use Rattle.windows.proofs.Cuts.{get_retained}
use Rattle.windows.proofs.Wholes.{part_consistent}
use Rattle.windows.proofs.Members.{sound_opening}

pub opening_whole : (s : Setup) → IsSound s → IsWholeCluster s (opening s)
opening_whole s sound = record {
  sound = sound_opening s sound;
  numbered = opening_numbered s;
  peopled = λ m. by_test m (nat_lt m (member_count s)) refl;
}
  where
    by_test : (m : ℕ) (b : Bool) → nat_lt m (member_count s) ≡ b → contains_key (opening s).members m ≡ b
    by_test m true h = ap is_some (member_there s m (ltb-true m (member_count s) h))
    by_test m false h =
        let past = ltb-false m (member_count s) h in
        ap is_some (get-from_entries nat_cmp_total (map (λ i. (i, opening_state s i)) (numbers s)) m ∙ find_none s m 0 (member_count s) (omega arith))

-- the part of a world that owns every member
all_of : (w : Cluster) → part_of (λ m. true) w ≡ w
all_of w =
    let members = same_map nat_cmp_total nat_cmp-IsAntisymmetric _ _ (get_retained nat_cmp_total nat_cmp-IsAntisymmetric (λ m. true) w.members) in
    let pending = same_map key_total key_exact _ _ (get_retained key_total key_exact (λ k. true) w.pending) in
    λ i. record { members = members i; pending = pending i }

pub opening_consistent : (s : Setup) → IsSound s → IsConsistentPart s (opening s)
opening_consistent s sound = subst (IsConsistentPart s) (all_of (opening s)) (part_consistent s (opening s) (opening_whole s sound) (λ m. true))
