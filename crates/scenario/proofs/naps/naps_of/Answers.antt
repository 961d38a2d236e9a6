use Rattle.std.proofs.Common.{◌≡◌, ℕ, List, Vec, Global, sym, ap, ◌∙◌}
use Rattle.std.specs.List.{list_any}
use Rattle.std.proofs.lemmas.List.Sorted.{list_any-IsPermutation}
use Rattle.std.proofs.lemmas.Result.{IfOk-weaker}
use Rattle.scenario.specs.Setup.{is_in_pause}
use Rattle.scenario.specs.Spells.{is_in_any}
use Rattle.scenario.specs.Naps.{naps_at}
use Rattle.scenario.specs.declared.settings.Pause.{Pause}
use Rattle.scenario.specs.declared.spells.Spell.{Spell}
use Rattle.scenario.proofs.naps.naps_of.Goals as goal

-- these are the times of these pauses
abbrev Are : List Pause → Vec (List Spell) Global → Type 0
Are ps naps = (m t : ℕ) → is_in_any (naps_at naps.items m) t ≡ list_any (is_in_pause m t) ps

pub returns : goal.returns
returns c =
    let ps = c.args.pauses.now in
    IfOk-weaker c.list_naps.result (Are c.as_slice.result.now) (Are ps) (λ naps kept m t.
    kept m t ∙ ap (list_any (is_in_pause m t)) c.as_slice.ensures.value
    ∙ sym (list_any-IsPermutation (is_in_pause m t) ps c.in_ok-sorted.sorted.items c.in_ok-sorted.ensures.same)) c.list_naps.ensures
