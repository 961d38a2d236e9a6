-- A process as the run begins.
use Rattle.std.proofs.Common.{◌≡◌, ℕ, ◌<◌, Option, List, [], ◌∷◌, ◌++◌, length, Some, zero-le, refl, ap, ◌∙◌, sym, subst, arith}
use Rattle.std.specs.List.{slice_get}
use Rattle.std.specs.FinMap.{FinMap}
use Rattle.std.specs.Option.{option_map}
use Rattle.std.proofs.lemmas.Option.{same_Some}
use Rattle.std.proofs.lemmas.List.{length-append}
use Rattle.base.specs.Order.{key_cmp}
use Rattle.member.specs.declared.event.Event.{Event}
use Rattle.member.specs.Opening.{opening}
use Rattle.windows.specs.declared.part.Part.{Part}
use Rattle.windows.specs.WorldOf.{world_of}
use Rattle.turns.specs.Parts.{StandFor}
use Rattle.lookahead_windows.specs.Starts.{IsFirstMoment}
use Rattle.lookahead_windows.specs.Messages.{BeginsRound}
use Rattle.lookahead_windows.proofs.Worlds.{opening_before}
use Rattle.lookahead_windows.proofs.WindowResult.{begins_opening}
use Rattle.lookahead_windows.specs.Basis.{Basis, plan_of}
use Rattle.parallel_run.specs.declared.of_run.OfRun.{Ghosts}
use Rattle.parallel_run.specs.declared.connections.Connections.{Connections}
use Rattle.parallel_run.specs.Peers.{AreLines, AreOthers, numbers_of}
use Rattle.parallel_run.specs.Windows.{Begins}

-- what stands behind a beginning of a list
item_behind : {X : Type 0} (before : List X) (x : X) (rest : List X) → slice_get (before ++ x ∷ rest) (length before) ≡ Some x
item_behind [] x rest = refl
item_behind (y ∷ before) x rest = item_behind before x rest

-- two lists are as long as each other, the one without its last item and the other without its first too
pub one_less : {X Y : Type 0} (all left : List X) (x : X) (others rest : List Y) (y : Y) → all ≡ left ++ x ∷ [] → others ≡ y ∷ rest → length all ≡ length others → length left ≡ length rest
one_less all left x others rest y popped stepped same = omega (arith, ap length popped, length-append left (x ∷ []), ap length stepped, same)

module _ {K Q : Type 0} {G : Ghosts K} (set : Q → FinMap key_cmp Event) (basis : Basis) where
  -- the next part, and its lines
  pub begins_first : (parts before rest : List (Part Q)) (part : Part Q) (first : Option ℕ) (lines : Connections K G) → StandFor set basis.deal parts (opening basis.setup) → IsFirstMoment (opening basis.setup) first
      → before ++ part ∷ rest ≡ parts → lines.number ≡ length before → AreOthers (length parts) (length before) (numbers_of lines.peers.items)
      → Begins set basis lines.number 0 first part × AreLines basis lines
  begins_first parts before rest part first lines stand pends all number are =
      let below : lines.number < basis.deal.parts = omega (arith, number, ap length all, length-append before (part ∷ rest), stand.count) in
      let here : slice_get parts lines.number ≡ Some part = ap (slice_get parts) number ∙ ap (λ (l : List (Part Q)). slice_get l (length before)) (sym all) ∙ item_behind before part rest in
      let world = same_Some _ _ (sym (ap (option_map (world_of set)) here) ∙ stand.worlds lines.number below) in (
        subst (BeginsRound (plan_of basis) lines.number 0 first) (sym world)
            (begins_opening (plan_of basis) lines.number (opening basis.setup) first ([], [], opening_before basis.setup 0 (λ q pends. zero-le)) pends),
        record {
          own = below;
          peers = subst (λ n. AreOthers n lines.number (numbers_of lines.peers.items)) stand.count (subst (λ n. AreOthers (length parts) n (numbers_of lines.peers.items)) (sym number) are);
        },
      )
