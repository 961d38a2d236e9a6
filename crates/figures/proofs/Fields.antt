-- Fields of a line, written one after another.
use Rattle.std.proofs.Common.{◌≡◌, ◌≢◌, ◌+◌, ◌-◌, ◌^◌, ◌≤◌, ◌==◌, ℕ, suc, Bool, true, false, cond, not, ◌&&◌, ◌||◌, List, [], ◌∷◌, ◌++◌, codes, length, min, refl, sym, ap, ◌∙◌, arith, append_assoc, length-append, subst}
use Rattle.std.specs.Prelude.{Vec, Option, Result, OnOk, map}
use Rattle.std.proofs.lemmas.List.{map-append}
use Rattle.std.specs.declared.alloc.Global.{Global}
use Rattle.std.proofs.lemmas.Bool.Decides.{nat_tests}
use Rattle.csv.specs.Writing.{default_writer, field_text, next_sep, tail_text, writer_setup, fields_written, has_written}
use Rattle.csv.specs.declared.writer.QuoteStyle.TheVariants as style
use Rattle.csv.specs.declared.writer.Writer.{Writer}
use Rattle.trace.specs.Lines.{laid_out}
use Rattle.figures.specs.Lines.{cells_joined, cell, table_line, HasLaidOut}

-- one field more, after others
one_more : (first : List ℕ) (rest : List (List ℕ)) (field : List ℕ) → cells_joined (first ∷ rest ++ field ∷ []) ≡ cells_joined (first ∷ rest) ++ 44 ∷ field_text default_writer field
one_more first [] field = refl
one_more first (next ∷ rest) field =
    ap (λ l. field_text default_writer first ++ 44 ∷ l) (one_more next rest field)
    ∙ sym (append_assoc (field_text default_writer first) (44 ∷ cells_joined (next ∷ rest)) (44 ∷ field_text default_writer field))

not_first : (n : ℕ) → (min (suc n) (2 ^ 64 - 1) == 0) ≡ false
not_first n = grind (arith, nat_tests)

-- one field more, with what parts it from those before it
joined_push : (fields : List (List ℕ)) (field : List ℕ) → cells_joined (fields ++ field ∷ []) ≡ cells_joined fields ++ (next_sep default_writer (min (length fields) (2 ^ 64 - 1)) ++ field_text default_writer field)
joined_push [] field = refl
joined_push (first ∷ rest) field =
    one_more first rest field ∙ ap (λ b. cells_joined (first ∷ rest) ++ (cond b [] (44 ∷ []) ++ field_text default_writer field)) (sym (not_first (length rest)))

pub written_more : (old new : Writer (Vec ℕ Global)) (fields : List (List ℕ)) (field : List ℕ) → HasLaidOut old fields → writer_setup new ≡ writer_setup old
    → fields_written new ≡ min (fields_written old + 1) (2 ^ 64 - 1)
    → ((writer_setup old).style ≢ style.NonNumeric → laid_out new ≡ laid_out old ++ (next_sep (writer_setup old) (fields_written old) ++ field_text (writer_setup old) field))
    → HasLaidOut new (fields ++ field ∷ [])
written_more old new fields field has same counted grows =
    record {
      setup = same ∙ has.setup;
      count = omega (arith, counted, has.count, length-append fields (field ∷ []));
      text =
          grows necessary ∙ ap (λ s. laid_out old ++ (next_sep s (fields_written old) ++ field_text s field)) has.setup
          ∙ ap (λ n. laid_out old ++ (next_sep default_writer n ++ field_text default_writer field)) has.count
          ∙ ap (λ l. l ++ (next_sep default_writer (min (length fields) (2 ^ 64 - 1)) ++ field_text default_writer field)) has.text
          ∙ sym (joined_push fields field);
    }
  where
    necessary : (writer_setup old).style ≢ style.NonNumeric
    necessary is = let other : style.Necessary ≡ style.NonNumeric = sym (ap (λ s. s.style) has.setup) ∙ is in cc

and_false : (b : Bool) → (b && false) ≡ false
and_false true = refl
and_false false = refl

no_blank : (n : ℕ) → 2 ≤ n → ((min n (2 ^ 64 - 1) == 0) || (min n (2 ^ 64 - 1) == 1)) ≡ false
no_blank n two = grind (arith, nat_tests)

-- a line of two fields or more ends in a line feed alone
pub line_ended : (old new : Writer (Vec ℕ Global)) (fields : List (List ℕ)) → HasLaidOut old fields → 2 ≤ length fields
    → laid_out new ≡ laid_out old ++ tail_text (writer_setup old) (has_written old) (fields_written old) → laid_out new ≡ table_line fields
unfolding table_line
line_ended old new fields has two ended =
    ended ∙ ap (λ s. laid_out old ++ tail_text s (has_written old) (fields_written old)) has.setup
    ∙ ap (λ n. laid_out old ++ tail_text default_writer (has_written old) n) has.count
    ∙ ap (λ b. laid_out old ++ (cond (not (has_written old) && b) (34 ∷ 34 ∷ []) [] ++ codes "\n")) (no_blank (length fields) two)
    ∙ ap (λ b. laid_out old ++ (cond b (34 ∷ 34 ∷ []) [] ++ codes "\n")) (and_false (not (has_written old)))
    ∙ ap (λ l. l ++ codes "\n") has.text

-- a line with two fields at least
pub long : (keys : List (List ℕ)) (seed next : List ℕ) (rest more last : List (List ℕ)) → 2 ≤ length ((((keys ++ seed ∷ []) ++ next ∷ rest) ++ more) ++ last)
long keys seed next rest more last =
    omega (arith, length-append (((keys ++ seed ∷ []) ++ next ∷ rest) ++ more) last, length-append ((keys ++ seed ∷ []) ++ next ∷ rest) more, length-append (keys ++ seed ∷ []) (next ∷ rest), length-append keys (seed ∷ []))

-- the parts of a line, as they were written and as the definition has them
pub parts_joined : (keys : List (List ℕ)) (seed : List ℕ) (claims revived protocol : List (List ℕ))
    → (((keys ++ seed ∷ []) ++ claims) ++ revived) ++ protocol ≡ keys ++ seed ∷ (claims ++ (revived ++ protocol))
parts_joined keys seed claims revived protocol = simp append_assoc

pub cells_of_parts : (claims revived protocol : List (Option ℕ)) → map cell (claims ++ (revived ++ protocol)) ≡ map cell claims ++ (map cell revived ++ map cell protocol)
cells_of_parts claims revived protocol = map-append cell claims (revived ++ protocol) ∙ ap (λ l. map cell claims ++ l) (map-append cell revived protocol)

pub on_same : {T E : Type 0} (P : Type 0) (r s : Result T E) → r ≡ s → OnOk s P → OnOk r P
on_same {T} {E} P r s same held = subst (λ (x : Result T E). OnOk x P) (sym same) held
