use Rattle.std.proofs.Common.{◌≡◌, ◌<◌, List, ◌++◌, length, ap, sym, ◌∙◌, subst, arith}
use Rattle.std.specs.Prelude.{All}
use Rattle.streams.specs.Draw.{Words, words_of}
use Rattle.plain_entries.specs.declared.departures.Departure.{Departure}
use Rattle.plain_entries.specs.declared.departures.DepartureTime.{DepartureTime}
use Rattle.plain_entries.specs.declared.entry.Entry.{Entry}
use Rattle.plain_entries.specs.declared.plain.Plain.{Plain}
use Rattle.plain_entries.specs.declared.restarts.Restart.{Restart}
use Rattle.plain_entries.specs.declared.restarts.RestartTime.{RestartTime}
use Rattle.plain_entries.specs.declared.spells.SpellTime.{SpellTime}
use Rattle.plain_entries.specs.Entries.{list_of, made_again, start_in}
use Rattle.plain_entries.specs.Departures.{departure_timing, returns_of, CanReturn}
use Rattle.plain_entries.specs.Restarts.{restart_timing}
use Rattle.plain_entries.specs.Spells.{spell_timing}
use Rattle.plain_entries.specs.Script.{entries_made, most_made, plain_of, PlainLists}
use Rattle.plain_entries.proofs.Returns.{all_return}
use Rattle.plain_entries.proofs.Turns.{met}
use Rattle.plain_entries.proofs.Whole.{all_made, no_restarts, over_crashes, over_leaves, over_slows, over_pauses, over_blocks}
use Rattle.plain_entries.proofs.script.plain_script.Goals as goal

pub returns-in_err-crashes-clause-too_many : goal.returns-in_err-crashes-clause-too_many
returns-in_err-crashes-clause-too_many c = λ failed.
    let same = met c.from_residual.result c.plain_list.result c.in_err-crashes.field-0.0 _ c.from_residual.ensures.1 c.in_err-crashes.was failed in
    let more = c.plain_list.ensures.too_many same in
    let P : List (Entry DepartureTime) → Type 0 = λ es. most_made < made_again (list_of departure_timing (start_in c.args.starts.now) es (words_of c.of.result)).0 in
    let over = subst P c.as_slice.ensures.value more in
    let all =
    over_crashes (start_in c.args.starts.now) c.args.script.now (words_of c.of.result) most_made over in
    subst (λ (w : Words). most_made < entries_made (plain_of (start_in c.args.starts.now) c.args.script.now w)) c.of.ensures all

pub returns-in_err-leaves-clause-too_many : goal.returns-in_err-leaves-clause-too_many
returns-in_err-leaves-clause-too_many c = λ failed.
    let same = met c.from_residual-in_err-leaves.result c.plain_list-2.result c.in_err-leaves.field-0.0 _ c.from_residual-in_err-leaves.ensures.1 c.in_err-leaves.was failed in
    let more = c.plain_list-2.ensures.too_many same in
    let P : List (Entry DepartureTime) → Type 0 = λ es. c.plain_list.new.drawing.room < made_again (list_of departure_timing (start_in c.args.starts.now) es (words_of c.plain_list.new.drawing.stream)).0 in
    let over = subst P c.as_slice-2.ensures.value more in
    let room_crashes = c.in_ok-crashes.ensures.room in
    let all =
    over_leaves (start_in c.args.starts.now) c.args.script.now (words_of c.of.result) most_made c.plain_list.new.drawing.room
    (c.in_ok-crashes.crashes.items, words_of c.plain_list.new.drawing.stream)
    (c.in_ok-crashes.ensures.made ∙ ap (λ (es : List (Entry DepartureTime)). list_of departure_timing (start_in c.args.starts.now) es (words_of c.of.result)) c.as_slice.ensures.value)
    (omega (arith, room_crashes)) over in
    subst (λ (w : Words). most_made < entries_made (plain_of (start_in c.args.starts.now) c.args.script.now w)) c.of.ensures all

pub returns-in_err-restarts-clause-too_many : goal.returns-in_err-restarts-clause-too_many
returns-in_err-restarts-clause-too_many c = λ failed.
    let same = met c.from_residual-in_err-restarts.result c.plain_list-3.result c.in_err-restarts.field-0.0 _ c.from_residual-in_err-restarts.ensures.1 c.in_err-restarts.was failed in
    let more = c.plain_list-3.ensures.too_many same in
    let none = no_restarts (start_in c.args.starts.now) c.as_slice-3.result.now (words_of c.plain_list-2.new.drawing.stream) in
    absurd (omega (arith, more, none))

pub returns-in_err-slows-clause-too_many : goal.returns-in_err-slows-clause-too_many
returns-in_err-slows-clause-too_many c = λ failed.
    let same = met c.from_residual-in_err-slows.result c.plain_list-4.result c.in_err-slows.field-0.0 _ c.from_residual-in_err-slows.ensures.1 c.in_err-slows.was failed in
    let more = c.plain_list-4.ensures.too_many same in
    let P : List (Entry SpellTime) → Type 0 = λ es. c.plain_list-3.new.drawing.room < made_again (list_of spell_timing (start_in c.args.starts.now) es (words_of c.plain_list-3.new.drawing.stream)).0 in
    let over = subst P c.as_slice-4.ensures.value more in
    let none = ap (λ (p : List (Plain Restart) × Words). made_again p.0) c.in_ok-restarts.ensures.made ∙ no_restarts (start_in c.args.starts.now) c.as_slice-3.result.now (words_of c.plain_list-2.new.drawing.stream) in
    let room_crashes = c.in_ok-crashes.ensures.room in
    let room_leaves = c.in_ok-leaves.ensures.room in
    let room_restarts = c.in_ok-restarts.ensures.room in
    let all =
    over_slows (start_in c.args.starts.now) c.args.script.now (words_of c.of.result) most_made c.plain_list-3.new.drawing.room
    (c.in_ok-crashes.crashes.items, words_of c.plain_list.new.drawing.stream)
    (c.in_ok-leaves.leaves.items, words_of c.plain_list-2.new.drawing.stream)
    (c.in_ok-restarts.restarts.items, words_of c.plain_list-3.new.drawing.stream)
    (c.in_ok-crashes.ensures.made ∙ ap (λ (es : List (Entry DepartureTime)). list_of departure_timing (start_in c.args.starts.now) es (words_of c.of.result)) c.as_slice.ensures.value)
    (c.in_ok-leaves.ensures.made ∙ ap (λ (es : List (Entry DepartureTime)). list_of departure_timing (start_in c.args.starts.now) es (words_of c.plain_list.new.drawing.stream)) c.as_slice-2.ensures.value)
    (c.in_ok-restarts.ensures.made ∙ ap (λ (es : List (Entry RestartTime)). list_of restart_timing (start_in c.args.starts.now) es (words_of c.plain_list-2.new.drawing.stream)) c.as_slice-3.ensures.value)
    (omega (arith, room_crashes, room_leaves, room_restarts, none)) over in
    subst (λ (w : Words). most_made < entries_made (plain_of (start_in c.args.starts.now) c.args.script.now w)) c.of.ensures all

pub returns-in_err-pauses-clause-too_many : goal.returns-in_err-pauses-clause-too_many
returns-in_err-pauses-clause-too_many c = λ failed.
    let same = met c.from_residual-in_err-pauses.result c.plain_list-5.result c.in_err-pauses.field-0.0 _ c.from_residual-in_err-pauses.ensures.1 c.in_err-pauses.was failed in
    let more = c.plain_list-5.ensures.too_many same in
    let P : List (Entry SpellTime) → Type 0 = λ es. c.plain_list-4.new.drawing.room < made_again (list_of spell_timing (start_in c.args.starts.now) es (words_of c.plain_list-4.new.drawing.stream)).0 in
    let over = subst P c.as_slice-5.ensures.value more in
    let none = ap (λ (p : List (Plain Restart) × Words). made_again p.0) c.in_ok-restarts.ensures.made ∙ no_restarts (start_in c.args.starts.now) c.as_slice-3.result.now (words_of c.plain_list-2.new.drawing.stream) in
    let room_crashes = c.in_ok-crashes.ensures.room in
    let room_leaves = c.in_ok-leaves.ensures.room in
    let room_restarts = c.in_ok-restarts.ensures.room in
    let room_slows = c.in_ok-slows.ensures.room in
    let all =
    over_pauses (start_in c.args.starts.now) c.args.script.now (words_of c.of.result) most_made c.plain_list-4.new.drawing.room
    (c.in_ok-crashes.crashes.items, words_of c.plain_list.new.drawing.stream)
    (c.in_ok-leaves.leaves.items, words_of c.plain_list-2.new.drawing.stream)
    (c.in_ok-restarts.restarts.items, words_of c.plain_list-3.new.drawing.stream)
    (c.in_ok-slows.slows.items, words_of c.plain_list-4.new.drawing.stream)
    (c.in_ok-crashes.ensures.made ∙ ap (λ (es : List (Entry DepartureTime)). list_of departure_timing (start_in c.args.starts.now) es (words_of c.of.result)) c.as_slice.ensures.value)
    (c.in_ok-leaves.ensures.made ∙ ap (λ (es : List (Entry DepartureTime)). list_of departure_timing (start_in c.args.starts.now) es (words_of c.plain_list.new.drawing.stream)) c.as_slice-2.ensures.value)
    (c.in_ok-restarts.ensures.made ∙ ap (λ (es : List (Entry RestartTime)). list_of restart_timing (start_in c.args.starts.now) es (words_of c.plain_list-2.new.drawing.stream)) c.as_slice-3.ensures.value)
    (c.in_ok-slows.ensures.made ∙ ap (λ (es : List (Entry SpellTime)). list_of spell_timing (start_in c.args.starts.now) es (words_of c.plain_list-3.new.drawing.stream)) c.as_slice-4.ensures.value)
    (omega (arith, room_crashes, room_leaves, room_restarts, room_slows, none)) over in
    subst (λ (w : Words). most_made < entries_made (plain_of (start_in c.args.starts.now) c.args.script.now w)) c.of.ensures all

pub returns-in_err-blocks-clause-too_many : goal.returns-in_err-blocks-clause-too_many
returns-in_err-blocks-clause-too_many c = λ failed.
    let same = met c.from_residual-in_err-blocks.result c.plain_list-6.result c.in_err-blocks.field-0.0 _ c.from_residual-in_err-blocks.ensures.1 c.in_err-blocks.was failed in
    let more = c.plain_list-6.ensures.too_many same in
    let P : List (Entry SpellTime) → Type 0 = λ es. c.plain_list-5.new.drawing.room < made_again (list_of spell_timing (start_in c.args.starts.now) es (words_of c.plain_list-5.new.drawing.stream)).0 in
    let over = subst P c.as_slice-6.ensures.value more in
    let none = ap (λ (p : List (Plain Restart) × Words). made_again p.0) c.in_ok-restarts.ensures.made ∙ no_restarts (start_in c.args.starts.now) c.as_slice-3.result.now (words_of c.plain_list-2.new.drawing.stream) in
    let room_crashes = c.in_ok-crashes.ensures.room in
    let room_leaves = c.in_ok-leaves.ensures.room in
    let room_restarts = c.in_ok-restarts.ensures.room in
    let room_slows = c.in_ok-slows.ensures.room in
    let room_pauses = c.in_ok-pauses.ensures.room in
    let all =
    over_blocks (start_in c.args.starts.now) c.args.script.now (words_of c.of.result) most_made c.plain_list-5.new.drawing.room
    (c.in_ok-crashes.crashes.items, words_of c.plain_list.new.drawing.stream)
    (c.in_ok-leaves.leaves.items, words_of c.plain_list-2.new.drawing.stream)
    (c.in_ok-restarts.restarts.items, words_of c.plain_list-3.new.drawing.stream)
    (c.in_ok-slows.slows.items, words_of c.plain_list-4.new.drawing.stream)
    (c.in_ok-pauses.pauses.items, words_of c.plain_list-5.new.drawing.stream)
    (c.in_ok-crashes.ensures.made ∙ ap (λ (es : List (Entry DepartureTime)). list_of departure_timing (start_in c.args.starts.now) es (words_of c.of.result)) c.as_slice.ensures.value)
    (c.in_ok-leaves.ensures.made ∙ ap (λ (es : List (Entry DepartureTime)). list_of departure_timing (start_in c.args.starts.now) es (words_of c.plain_list.new.drawing.stream)) c.as_slice-2.ensures.value)
    (c.in_ok-restarts.ensures.made ∙ ap (λ (es : List (Entry RestartTime)). list_of restart_timing (start_in c.args.starts.now) es (words_of c.plain_list-2.new.drawing.stream)) c.as_slice-3.ensures.value)
    (c.in_ok-slows.ensures.made ∙ ap (λ (es : List (Entry SpellTime)). list_of spell_timing (start_in c.args.starts.now) es (words_of c.plain_list-3.new.drawing.stream)) c.as_slice-4.ensures.value)
    (c.in_ok-pauses.ensures.made ∙ ap (λ (es : List (Entry SpellTime)). list_of spell_timing (start_in c.args.starts.now) es (words_of c.plain_list-4.new.drawing.stream)) c.as_slice-5.ensures.value)
    (omega (arith, room_crashes, room_leaves, room_restarts, room_slows, room_pauses, none)) over in
    subst (λ (w : Words). most_made < entries_made (plain_of (start_in c.args.starts.now) c.args.script.now w)) c.of.ensures all

pub add_returns-requires : goal.add_returns-requires
add_returns-requires c =
    let all = all_return (length c.args.starts.now) (start_in c.args.starts.now) c.args.script.now.crashes.items (words_of c.of.result) (words_of c.plain_list.new.drawing.stream) c.in_ok-crashes.crashes.items
    c.requires.sound.crashes (c.in_ok-crashes.ensures.made ∙ ap (λ (es : List (Entry DepartureTime)). list_of departure_timing (start_in c.args.starts.now) es (words_of c.of.result)) c.as_slice.ensures.value) in
    subst (λ (l : List (Plain Departure)). All CanReturn l) (sym c.as_slice-7.ensures.value) all

pub add_returns-requires-2 : goal.add_returns-requires-2
add_returns-requires-2 c =
    let all = all_return (length c.args.starts.now) (start_in c.args.starts.now) c.args.script.now.leaves.items (words_of c.plain_list.new.drawing.stream) (words_of c.plain_list-2.new.drawing.stream) c.in_ok-leaves.leaves.items
    c.requires.sound.leaves (c.in_ok-leaves.ensures.made ∙ ap (λ (es : List (Entry DepartureTime)). list_of departure_timing (start_in c.args.starts.now) es (words_of c.plain_list.new.drawing.stream)) c.as_slice-2.ensures.value) in
    subst (λ (l : List (Plain Departure)). All CanReturn l) (sym c.as_slice-8.ensures.value) all

pub returns-clause-made : goal.returns-clause-made
returns-clause-made c =
    let returned : c.add_returns-2.new.restarts.items ≡ c.in_ok-restarts.restarts.items ++ returns_of c.in_ok-crashes.crashes.items ++ returns_of c.in_ok-leaves.leaves.items =
    c.in_ok-add_returns-2.ensures.made
    ∙ ap (λ (l : List (Plain Departure)). c.add_returns.new.restarts.items ++ returns_of l) c.as_slice-8.ensures.value
    ∙ ap (λ (l : List (Plain Restart)). l ++ returns_of c.in_ok-leaves.leaves.items) (c.in_ok-add_returns.ensures.made ∙ ap (λ (l : List (Plain Departure)). c.in_ok-restarts.restarts.items ++ returns_of l) c.as_slice-7.ensures.value) in
    let made = all_made (start_in c.args.starts.now) c.args.script.now (words_of c.of.result)
    (c.in_ok-crashes.crashes.items, words_of c.plain_list.new.drawing.stream)
    (c.in_ok-leaves.leaves.items, words_of c.plain_list-2.new.drawing.stream)
    (c.in_ok-restarts.restarts.items, words_of c.plain_list-3.new.drawing.stream)
    (c.in_ok-slows.slows.items, words_of c.plain_list-4.new.drawing.stream)
    (c.in_ok-pauses.pauses.items, words_of c.plain_list-5.new.drawing.stream)
    (c.in_ok-blocks.blocks.items, words_of c.plain_list-6.new.drawing.stream)
    (record {
      crashes_is = c.in_ok-crashes.ensures.made ∙ ap (λ (es : List (Entry DepartureTime)). list_of departure_timing (start_in c.args.starts.now) es (words_of c.of.result)) c.as_slice.ensures.value;
      leaves_is = c.in_ok-leaves.ensures.made ∙ ap (λ (es : List (Entry DepartureTime)). list_of departure_timing (start_in c.args.starts.now) es (words_of c.plain_list.new.drawing.stream)) c.as_slice-2.ensures.value;
      restarts_is = c.in_ok-restarts.ensures.made ∙ ap (λ (es : List (Entry RestartTime)). list_of restart_timing (start_in c.args.starts.now) es (words_of c.plain_list-2.new.drawing.stream)) c.as_slice-3.ensures.value;
      slows_is = c.in_ok-slows.ensures.made ∙ ap (λ (es : List (Entry SpellTime)). list_of spell_timing (start_in c.args.starts.now) es (words_of c.plain_list-3.new.drawing.stream)) c.as_slice-4.ensures.value;
      pauses_is = c.in_ok-pauses.ensures.made ∙ ap (λ (es : List (Entry SpellTime)). list_of spell_timing (start_in c.args.starts.now) es (words_of c.plain_list-4.new.drawing.stream)) c.as_slice-5.ensures.value;
      blocks_is = c.in_ok-blocks.ensures.made ∙ ap (λ (es : List (Entry SpellTime)). list_of spell_timing (start_in c.args.starts.now) es (words_of c.plain_list-5.new.drawing.stream)) c.as_slice-6.ensures.value;
    }) in
    let With : List (Plain Restart) → PlainLists = λ restarts. record {
      crashes = c.in_ok-crashes.crashes.items;
      leaves = c.in_ok-leaves.leaves.items;
      restarts = restarts;
      slows = c.in_ok-slows.slows.items;
      pauses = c.in_ok-pauses.pauses.items;
      blocks = c.in_ok-blocks.blocks.items;
    } in
    ap With returned ∙ made ∙ ap (λ (w : Words). plain_of (start_in c.args.starts.now) c.args.script.now w) c.of.ensures
