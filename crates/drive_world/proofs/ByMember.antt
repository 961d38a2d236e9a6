-- The processes at their places as the map of what they stand for.
use Rattle.std.proofs.Common.{◌≡◌, ℕ, zero, suc, ◌+◌, ◌<◌, ◌≤◌, Bool, true, false, cond, eqb, List, [], ◌∷◌, ◌++◌, length, map, Option, Some, None, slice_set, ap, ◌∙◌, sym, refl, arith}
use Rattle.std.specs.Option.{option_map}
use Rattle.std.specs.List.{slice_get, range_with_len}
use Rattle.std.specs.Ordering.{nat_cmp, eq_by_cmp}
use Rattle.std.specs.Cmp.{nat_cmp_total, unsigned_tied}
use Rattle.std.specs.FinMap.{nat_cmp-IsAntisymmetric, get, insert, find, get-from_entries, get-insert, same_map}
use Rattle.std.proofs.lemmas.Bool.{eqb-true, eqb-false, eq-eqb}
use Rattle.std.proofs.lemmas.List.FromFn.{map-range_with_len_more}
use Rattle.scenario.specs.Setup.{Setup}
use Rattle.drive_process.specs.declared.process.Process.{Process as Held}
use Rattle.drive_process.specs.Process.{opening_process}
use Rattle.drive_process.specs.ProcessOf.{process_of}
use Rattle.drive_world.specs.WorldOf.{processes_from, by_member}

differs : (a b : ℕ) → ¬ (a ≡ b) → (t : Bool) → eqb a b ≡ t → t ≡ false
differs a b other true e = absurd (other (eqb-true a b e))
differs a b other false e = refl

untied : (a b : ℕ) → ¬ (a ≡ b) → eq_by_cmp nat_cmp a b ≡ false
untied a b other = unsigned_tied a b ∙ differs a b other (eqb a b) refl

tied : (a b : ℕ) → a ≡ b → eq_by_cmp nat_cmp a b ≡ true
tied a b same = unsigned_tied a b ∙ eq-eqb a b same

-- who stands at a place
abbrev pub held_at : List Held → ℕ → Option Held
held_at [] i = None
held_at (p ∷ ps) zero = Some p
held_at (p ∷ ps) (suc i) = held_at ps i

find_process : (ps : List Held) (a i : ℕ) → find nat_cmp (a + i) (processes_from a ps) ≡ option_map process_of (held_at ps i)
find_process [] a zero = refl
find_process [] a (suc i) = refl
find_process (p ∷ ps) a zero = ap (λ b. cond b (Some (process_of p)) (find nat_cmp (a + 0) (processes_from (a + 1) ps))) (tied (a + 0) a (omega arith))
find_process (p ∷ ps) a (suc i) =
    ap (λ b. cond b (Some (process_of p)) (find nat_cmp (a + suc i) (processes_from (a + 1) ps))) (untied (a + suc i) a (λ same. omega arith))
    ∙ ap (λ n. find nat_cmp n (processes_from (a + 1) ps)) (let e : a + suc i ≡ (a + 1) + i = omega arith in e) ∙ find_process ps (a + 1) i

-- the process of a number
pub process_at : (ps : List Held) (q : ℕ) → get (by_member ps) q ≡ option_map process_of (held_at ps q)
process_at ps q =
    get-from_entries nat_cmp_total (processes_from 0 ps) q ∙ ap (λ n. find nat_cmp n (processes_from 0 ps)) (let e : q ≡ 0 + q = omega arith in e) ∙ find_process ps 0 q

past : (ps : List Held) (q : ℕ) → length ps ≤ q → held_at ps q ≡ None
past [] q over = refl
past (p ∷ ps) zero over = absurd (omega arith)
past (p ∷ ps) (suc q) over = past ps q (omega arith)

-- past the last place there is nobody
pub nobody_past : (ps : List Held) (q : ℕ) → length ps ≤ q → get (by_member ps) q ≡ None
nobody_past ps q over = process_at ps q ∙ ap (option_map process_of) (past ps q over)

read_at : (ps : List Held) (i : ℕ) (p : Held) → slice_get ps i ≡ Some p → held_at ps i ≡ Some p
read_at [] zero p here = here
read_at [] (suc i) p here = here
read_at (x ∷ ps) zero p here = here
read_at (x ∷ ps) (suc i) p here = read_at ps i p here

-- who was read at a place
pub receiver_at : (ps : List Held) (i : ℕ) (p : Held) → slice_get ps i ≡ Some p → get (by_member ps) i ≡ Some (process_of p)
receiver_at ps i p here = process_at ps i ∙ ap (option_map process_of) (read_at ps i p here)

set_held : (ps : List Held) (i q : ℕ) (p : Held) → i < length ps → (b : Bool) → eqb q i ≡ b → option_map process_of (held_at (slice_set ps i p) q) ≡ cond b (Some (process_of p)) (option_map process_of (held_at ps q))
set_held [] i q p within b e = absurd (omega arith)
set_held (x ∷ ps) zero zero p within true e = refl
set_held (x ∷ ps) zero zero p within false e = absurd (eqb-false zero zero e refl)
set_held (x ∷ ps) zero (suc q) p within true e = absurd (let same = eqb-true (suc q) zero e in omega (arith, same))
set_held (x ∷ ps) zero (suc q) p within false e = refl
set_held (x ∷ ps) (suc i) zero p within true e = absurd (let same = eqb-true zero (suc i) e in omega (arith, same))
set_held (x ∷ ps) (suc i) zero p within false e = refl
set_held (x ∷ ps) (suc i) (suc q) p within true e = set_held ps i q p (omega arith) true (eq-eqb q i (let same = eqb-true (suc q) (suc i) e in omega (arith, same)))
set_held (x ∷ ps) (suc i) (suc q) p within false e = set_held ps i q p (omega arith) false (differs q i (λ same. eqb-false (suc q) (suc i) e (ap suc same)) (eqb q i) refl)

-- to write a process at a place is to insert it there
pub put_at : (ps : List Held) (i : ℕ) (p : Held) → i < length ps → by_member (slice_set ps i p) ≡ insert (by_member ps) i (process_of p)
put_at ps i p within =
    same_map nat_cmp_total nat_cmp-IsAntisymmetric _ _ (λ q.
    process_at (slice_set ps i p) q ∙ set_held ps i q p within (eqb q i) refl
    ∙ ap (λ b. cond b (Some (process_of p)) (option_map process_of (held_at ps q))) (sym (unsigned_tied q i))
    ∙ ap (cond (eq_by_cmp nat_cmp q i) (Some (process_of p))) (sym (process_at ps q)) ∙ sym (get-insert nat_cmp_total (by_member ps) i (process_of p) q))

-- one more process
pub one_more : (ps : List Held) (p : Held) (a : ℕ) → processes_from a (ps ++ p ∷ []) ≡ processes_from a ps ++ (a + length ps, process_of p) ∷ []
one_more [] p a = ap (λ n. (n, process_of p) ∷ []) (let e : a ≡ a + 0 = omega arith in e)
one_more (x ∷ ps) p a = ap (λ l. (a, process_of x) ∷ l) (one_more ps p (a + 1) ∙ ap (λ n. processes_from (a + 1) ps ++ (n, process_of p) ∷ []) (let e : (a + 1) + length ps ≡ a + suc (length ps) = omega arith in e))

-- one more member waits
pub one_waits : (s : Setup) (ps : List Held) (p : Held) (n : ℕ) → processes_from 0 ps ≡ map (λ m. (m, opening_process s m)) (range_with_len 0 n) → length ps ≡ n → process_of p ≡ opening_process s n
    → processes_from 0 (ps ++ p ∷ []) ≡ map (λ m. (m, opening_process s m)) (range_with_len 0 (n + 1))
one_waits s ps p n so_far many is =
    let place : 0 + length ps ≡ n = omega (arith, many) in
    one_more ps p 0 ∙ (λ i. so_far i ++ (place i, is i) ∷ []) ∙ sym (map-range_with_len_more (λ m. (m, opening_process s m)) 0 n n (omega arith))
