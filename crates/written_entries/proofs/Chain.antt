-- One list after the other is judged; and what rule 9 leaves of slow times, pauses and blocks.
use Rattle.std.proofs.Common.{◌≡◌, ◌<◌, ℕ, zero, suc, List, [], ◌∷◌, ◌||◌, Bool, true, false, length, get_or, nat_lt, nat_le, Option, is_some, refl, ap, sym, ◌∙◌, arith}
use Rattle.std.specs.Prelude.{All}
use Rattle.std.specs.List.{list_any}
use Rattle.std.proofs.lemmas.Bool.{false≢true}
use Rattle.std.proofs.lemmas.Bool.Decides.{nat_tests}
use Rattle.plain_entries.specs.Entries.{IsEntry}
use Rattle.plain_entries.specs.Spells.{IsSpellTime}
use Rattle.plain_entries.specs.declared.entry.Entry.{Entry}
use Rattle.plain_entries.specs.declared.spells.SpellTime.{SpellTime}
use Rattle.plain_entries.specs.declared.spells.SpellTime.TheVariants as spell
use Rattle.written_entries.specs.Bad.{is_bad_spell, is_bad_spell_time, is_bad_who}
use Rattle.written_entries.specs.Ranges.{IsSpellRange}

-- whether one of a list is refused, by what was found
pub found_in : {A : Type 0} (test : A → Bool) (items list : List A) (found : Option ℕ) (b : Bool) → is_some found ≡ list_any test items → items ≡ list → is_some found ≡ b → list_any test list ≡ b
found_in test items list found b judged same is = ap (list_any test) (sym same) ∙ sym judged ∙ is

-- the first list that has one decides
pub here : (a rest : Bool) → a ≡ true → true ≡ (a || rest)
here true rest is = refl
here false rest is = absurd (false≢true is)

pub further : (b a rest : Bool) → a ≡ false → b ≡ rest → b ≡ (a || rest)
further b true rest is then = absurd (false≢true (sym is))
further b false rest is then = then

neither : (a b : Bool) → (a || b) ≡ false → (a ≡ false) × (b ≡ false)
neither true b e = absurd (false≢true (sym e))
neither false b e = (refl, e)

spell_sound : (when : SpellTime) → IsSpellRange when → is_bad_spell_time when ≡ false → IsSpellTime when
spell_sound (spell.Once once) is fine = tt
spell_sound (spell.Again recurrence lasting) is fine =
    let ordered : nat_lt lasting.most lasting.least ≡ false = (neither (nat_le recurrence.until recurrence.from) (nat_lt lasting.most lasting.least) fine).1 in
    (is.0, record { some = is.1.0; ordered = grind (arith, nat_tests); low = is.1.1 })

none_by : {A : Type 0} (test : A → Bool) (xs : List A) → list_any test xs ≡ false → (k : ℕ) (d : A) → k < length xs → test (get_or xs k d) ≡ false
none_by test [] fine k d within = absurd (omega arith)
none_by test (x ∷ xs) fine zero d within = (neither (test x) (list_any test xs) fine).0
none_by test (x ∷ xs) fine (suc k) d within = none_by test xs (neither (test x) (list_any test xs) fine).1 k d (omega arith)

-- those that are in their ranges and aren't refused may be drawn
pub spells_sound : (count : ℕ) (xs : List (Entry SpellTime)) → All (IsEntry IsSpellRange count) xs → list_any is_bad_spell xs ≡ false → All (IsEntry IsSpellTime count) xs
spells_sound count xs ranges fine = λ k d within.
    let entry = get_or xs k d in
    let is = ranges k d within in
    let time = (neither (is_bad_who entry.who) (is_bad_spell_time entry.when) (none_by is_bad_spell xs fine k d within)).1 in
    record { who = is.who; when = spell_sound entry.when is.when time }
