use Rattle.std.proofs.Common.{◌<◌, ◌≤◌, ℕ, List, length, sym, subst}
use Rattle.std.specs.Prelude.{All}
use Rattle.streams.specs.Draw.{words_of}
use Rattle.plain_entries.proofs.Members.{are_turns}
use Rattle.plain_entries.proofs.listing.add_entry.Goals as goal

pub add_members-requires-clause-few : goal.add_members-requires-clause-few
add_members-requires-clause-few g c =
    let turns = are_turns (length c.args.starts.now) c.args.entry.now.who c.in_ok-members.field-0.items c.in_ok-members-2.members.items c.recurs.result
    (words_of c.args.drawing.now.stream) (words_of c.members.new.self.stream) c.requires.sound.who c.in_ok-members.ensures.made c.in_ok-members-2.ensures.made in
    subst (λ (l : List ℕ). length l ≤ 16384) (sym c.as_slice.ensures.value) turns.few

pub add_members-requires-clause-known : goal.add_members-requires-clause-known
add_members-requires-clause-known g c =
    let turns = are_turns (length c.args.starts.now) c.args.entry.now.who c.in_ok-members.field-0.items c.in_ok-members-2.members.items c.recurs.result
    (words_of c.args.drawing.now.stream) (words_of c.members.new.self.stream) c.requires.sound.who c.in_ok-members.ensures.made c.in_ok-members-2.ensures.made in
    subst (λ (l : List ℕ). All (λ member. member < length c.args.starts.now) l) (sym c.as_slice.ensures.value) turns.known
