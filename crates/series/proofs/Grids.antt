-- A grid in which one count rises.
use Rattle.std.proofs.Common.{◌≡◌, ℕ, ◌+◌, ◌*◌, ◌<◌, ◌≤◌, true, false, cond, ◌&&◌, ◌==◌, inl, inr, List, length, sym, ap, ◌∙◌, arith, add-zero}
use Rattle.std.specs.Prelude.{slice_index, slice_set}
use Rattle.std.proofs.lemmas.Bool.{cases_Bool}
use Rattle.std.proofs.lemmas.List.{get_or-set_other}
use Rattle.std.proofs.lemmas.Grind.{get_or-set_at}

-- both tests hold
both_are : (t track k span : ℕ) → (t == track && k == span) ≡ true → (t ≡ track) × (k ≡ span)
both_are t track k span h = (grind (arith), grind (arith))

-- two places are one only where track and span are
one_place : (t track k span : ℕ) → k < 120 → span < 120 → t * 120 + k ≡ track * 120 + span → (t ≡ track) × (k ≡ span)
one_place t track k span low below same = (omega (arith, low, below, same), omega (arith, low, below, same))

not_both : (t track k span : ℕ) → (t == track && k == span) ≡ false → (t ≡ track) × (k ≡ span) → ⊥
not_both t track k span h both = grind (arith, both.0, both.1)

pub raised_at : (old new : List ℕ) (track span t k : ℕ) → span < 120 → k < 120 → track * 120 + 120 ≤ length old
    → new ≡ slice_set old (track * 120 + span) (slice_index old (track * 120 + span) + 1)
    → slice_index new (t * 120 + k) ≡ slice_index old (t * 120 + k) + cond (t == track && k == span) 1 0
raised_at old new track span t k below low room is =
    ap (λ l. slice_index l (t * 120 + k)) is
    ∙ elim (cases_Bool (t == track && k == span)) as (λ _. slice_index (slice_set old (track * 120 + span) (slice_index old (track * 120 + span) + 1)) (t * 120 + k) ≡ slice_index old (t * 120 + k) + cond (t == track && k == span) 1 0) [
      | inl h ↦
          let both = both_are t track k span h in
          let place : t * 120 + k ≡ track * 120 + span = omega (arith, both.0, both.1) in
          get_or-set_at old (track * 120 + span) (t * 120 + k) (slice_index old (track * 120 + span) + 1) 0 place (omega (arith, room, below))
          ∙ ap (λ p. slice_index old p + 1) (sym place) ∙ ap (λ b. slice_index old (t * 120 + k) + cond b 1 0) (sym h)
      | inr h ↦
          get_or-set_other old (track * 120 + span) (t * 120 + k) (slice_index old (track * 120 + span) + 1) 0 (λ same. not_both t track k span h (one_place t track k span low below same))
          ∙ sym (add-zero (slice_index old (t * 120 + k))) ∙ ap (λ b. slice_index old (t * 120 + k) + cond b 1 0) (sym h)
    ]
