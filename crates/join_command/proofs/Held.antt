-- Texts that the files hold, one more at a time, and a file that was not read.
use Rattle.std.proofs.Common.{◌≡◌, ◌<◌, ◌+◌, ℕ, List, [], ◌∷◌, ◌++◌, ◌⊎◌, ◌≤◌, inl, inr, get_or, length, take, arith, sym, subst}
use Rattle.std.specs.Prelude.{OnOk, Result, Ok, Err, Vec, Some, None, slice_get}
use Rattle.std.specs.Borrow.{Bor}
use Rattle.std.specs.List.{AllZip}
use Rattle.std.specs.declared.alloc.Global.{Global}
use Rattle.std.proofs.lemmas.List.{take_more}
use Rattle.std.proofs.lemmas.Option.{slice_get-get_or, slice_get_cases}
use Rattle.clap.specs.Words.{Text}
use Rattle.files.specs.Files.{Holds}
use Rattle.command_line.specs.declared.failure.Failure.{Failure}
use Rattle.command_line.specs.declared.failure.Failure.TheVariants.{Memory}
use Rattle.scenario_files.specs.Shelves.{Shelf, IsUnread}
use Rattle.join_command.specs.Outcomes.{FailsToRead, HoldTexts}

-- what is said of a success, and what follows from that
pub on_ok_then : {T E : Type 0} (A B : Type 0) (r : Result T E) → OnOk r A → (A → B) → OnOk r B
on_ok_then A B (Ok x) a turn = turn a
on_ok_then A B (Err e) a turn = tt

zip_push : {A B : Type 0} (R : A → B → Type 0) (xs : List A) (ys : List B) (x : A) (y : B) → AllZip R xs ys → R x y → AllZip R (xs ++ x ∷ []) (ys ++ y ∷ [])
zip_push R [] [] x y all here = (here, tt)
zip_push R [] (z ∷ ys) x y all here = absurd all
zip_push R (w ∷ xs) [] x y all here = absurd all
zip_push R (w ∷ xs) (z ∷ ys) x y all here = (all.0, zip_push R xs ys x y all.1 here)

-- memory was refused at a file that there is
pub memory_at : (before : Shelf) (names : List (Bor Text)) (i : ℕ) → i < length names → FailsToRead before names Memory
memory_at before names i inside = by (slice_get_cases names i).1
  where
    by : ((name : Bor Text) × (i < length names) × (slice_get names i ≡ Some name) × (get_or names i name ≡ name)) ⊎ ((length names ≤ i) × (slice_get names i ≡ None))
        → FailsToRead before names Memory
    by (inl there) = (i, there.0, there.2, tt)
    by (inr past) =
        let over = past.0 in
        absurd (omega (arith, inside, over))

module _ (before now : Shelf) (same : now ≡ before) (names : List (Bor Text)) (i : ℕ) (d : Bor Text) (inside : i < length names) where
  -- one text more
  pub text_more : (texts more : List (Vec ℕ Global)) (held : Vec ℕ Global) → HoldTexts before (take i names) texts
      → Holds (now (get_or names i d).now) held.items → more ≡ texts ++ held ∷ [] → HoldTexts before (take (i + 1) names) more
  text_more texts more held so here is =
      let there : Holds (before (get_or names i d).now) held.items = subst (λ (shelf : Shelf). Holds (shelf (get_or names i d).now) held.items) same here in
      subst (λ l. HoldTexts before (take (i + 1) names) l) (sym is)
      (subst (λ l. HoldTexts before l (texts ++ held ∷ [])) (sym (take_more names i d inside))
      (zip_push (λ (name : Bor Text) (text : Vec ℕ Global). Holds (before name.now) text.items) (take i names) texts (get_or names i d) held so there))

  -- the file of the next name was not read
  pub unread_at : (failure : Failure) → IsUnread (now (get_or names i d).now) (get_or names i d).now failure → FailsToRead before names failure
  unread_at failure fails = (
    i,
    get_or names i d,
    slice_get-get_or names i d inside,
    subst (λ (shelf : Shelf). IsUnread (shelf (get_or names i d).now) (get_or names i d).now failure) same fails,
  )
