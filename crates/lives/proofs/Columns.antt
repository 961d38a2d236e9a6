-- Columns of regards: how they change place by place, and who of the first members failed.
use Rattle.std.proofs.Common.{◌≡◌, ℕ, zero, suc, ◌<◌, ◌≤◌, ◌+◌, ◌-◌, Bool, true, false, cond, min, nat_eq, List, [], ◌∷◌, ◌++◌, map, length, get_or, take, drop, All, inl, inr, refl, ap, sym, ◌∙◌, zero-add, append-nil, map-id, arith}
use Rattle.std.proofs.Math.Path.{fun_ext}
use Rattle.std.proofs.Math.ListN.{set}
use Rattle.std.specs.List.{filter, range_with_len}
use Rattle.std.proofs.lemmas.Bool.{cases_lt, cases_eq, cond-true, cond-false, eq-eqb, ne_eqb}
use Rattle.std.proofs.lemmas.List.{length-append, length-map, take_all, drop_all, get_or_append_left, get_or_push, get_or_past, get_or-map, get_or-set_same, get_or-set_other}
use Rattle.std.proofs.lemmas.List.Elements.{All-filter, All-from_get_or, filter-append}
use Rattle.std.proofs.lemmas.List.FromFn.{length-range_with_len, get_or-range_with_len, map-range_with_len_more}
use Rattle.lives.specs.declared.regards.Regard.{Regard}
use Rattle.lives.specs.declared.regards.Regard.TheVariants.{Usual}
use Rattle.lives.specs.Regards.{Regards, failed_among, is_failed, reaped, regarded, regards_of, usual}

-- ---- one place

pub regarded_at : (column : List Regard) (m : ℕ) (r : Regard) → m < length column → regards_of (set column m r) ≡ regarded m r (regards_of column)
regarded_at column m r within = fun_ext (λ k.
    elim (cases_eq k m) as (λ _. get_or (set column m r) k Usual ≡ regarded m r (regards_of column) k) [
      | inl same ↦
          ap (λ n. get_or (set column m r) n Usual) same ∙ get_or-set_same column m r Usual within
          ∙ sym (cond-true (nat_eq k m) r (get_or column k Usual) (eq-eqb k m same))
      | inr other ↦ get_or-set_other column m k r Usual other ∙ sym (cond-false (nat_eq k m) r (get_or column k Usual) (ne_eqb k m other))
    ])

-- who has no place is regarded as usual
pub usual_past : (column : List Regard) (m : ℕ) → length column ≤ m → regards_of column ≡ regarded m Usual (regards_of column)
usual_past column m past = fun_ext (λ k.
    elim (cases_eq k m) as (λ _. get_or column k Usual ≡ regarded m Usual (regards_of column) k) [
      | inl same ↦
          ap (λ n. get_or column n Usual) same ∙ get_or_past column m Usual past
          ∙ sym (cond-true (nat_eq k m) Usual (get_or column k Usual) (eq-eqb k m same))
      | inr other ↦ sym (cond-false (nat_eq k m) Usual (get_or column k Usual) (ne_eqb k m other))
    ])

-- a place more
pub one_more : (column : List Regard) → regards_of (column ++ Usual ∷ []) ≡ regards_of column
one_more column = fun_ext (λ m.
    elim (cases_lt m (length column)) as (λ _. get_or (column ++ Usual ∷ []) m Usual ≡ get_or column m Usual) [
      | inl within ↦ get_or_append_left column (Usual ∷ []) Usual m within
      | inr past ↦ elim (cases_eq (length column) m) as (λ _. get_or (column ++ Usual ∷ []) m Usual ≡ get_or column m Usual) [
        | inl last ↦ get_or_push column Usual Usual m last ∙ sym (get_or_past column m Usual past)
        | inr other ↦
            get_or_past (column ++ Usual ∷ []) m Usual (let all = length-append column (Usual ∷ []) in omega (arith, all, past, other))
            ∙ sym (get_or_past column m Usual past)
      ]
    ])

-- ---- all places

pub reaped_all : (now ticks : ℕ) (old new : List Regard) → new ≡ map (reaped now ticks) old → (m : ℕ) → regards_of new m ≡ reaped now ticks (regards_of old m)
reaped_all now ticks old new is m =
    ap (λ (l : List Regard). get_or l m Usual) is
    ∙ (elim (cases_lt m (length old)) as (λ _. get_or (map (reaped now ticks) old) m Usual ≡ reaped now ticks (get_or old m Usual)) [
      | inl within ↦ get_or-map (reaped now ticks) old m Usual Usual within
      | inr past ↦
          get_or_past (map (reaped now ticks) old) m Usual (let all = length-map old (reaped now ticks) in omega (arith, all, past))
          ∙ sym (ap (reaped now ticks) (get_or_past old m Usual past))
    ])

-- where all places have been gone through
pub all_reaped : (now ticks : ℕ) (old new : List Regard) (i : ℕ) → new ≡ map (reaped now ticks) (take i old) ++ drop i old → length old ≤ i
    → (m : ℕ) → regards_of new m ≡ reaped now ticks (regards_of old m)
all_reaped now ticks old new i is past =
    reaped_all now ticks old new (is ∙ (λ j. map (reaped now ticks) (take_all i old past j) ++ drop_all i old past j) ∙ append-nil (map (reaped now ticks) old))

-- ---- who failed

numbers_more : (n : ℕ) → range_with_len 0 (n + 1) ≡ range_with_len 0 n ++ n ∷ []
numbers_more n =
    sym (map-id (range_with_len 0 (n + 1))) ∙ map-range_with_len_more (λ x. x) 0 n n (zero-add n) ∙ ap (λ xs. xs ++ n ∷ []) (map-id (range_with_len 0 n))

one_looked_at : (p : ℕ → Bool) (n : ℕ) (b : Bool) → p n ≡ b → filter p (range_with_len 0 n) ++ cond b (n ∷ []) [] ≡ filter p (range_with_len 0 (n + 1))
one_looked_at p n b is =
    ap (λ c. filter p (range_with_len 0 n) ++ cond c (n ∷ []) []) (sym is) ∙ sym (filter-append p (range_with_len 0 n) (n ∷ [])) ∙ ap (filter p) (sym (numbers_more n))

pub one_failed : (n : ℕ) (regards : Regards) → is_failed (regards n) ≡ true → failed_among n regards ++ n ∷ [] ≡ failed_among (n + 1) regards
one_failed n regards is = one_looked_at (λ m. is_failed (regards m)) n true is

pub one_stays : (n : ℕ) (regards : Regards) → is_failed (regards n) ≡ false → failed_among n regards ≡ failed_among (n + 1) regards
one_stays n regards isnt = sym (append-nil (failed_among n regards)) ∙ one_looked_at (λ m. is_failed (regards m)) n false isnt

longer : (regards : Regards) (n k : ℕ) → ((m : ℕ) → n ≤ m → is_failed (regards m) ≡ false) → failed_among (n + k) regards ≡ failed_among n regards
longer regards n zero none = ap (λ j. failed_among j regards) (let e : n + zero ≡ n = omega arith in e)
longer regards n (suc k) none =
    ap (λ j. failed_among j regards) (let e : n + suc k ≡ n + k + 1 = omega arith in e)
    ∙ sym (one_stays (n + k) regards (none (n + k) (omega arith)))
    ∙ longer regards n k none

-- nobody failed where all are regarded as usual
pub nobody_failed : (members : ℕ) → failed_among members usual ≡ []
nobody_failed members =
    ap (λ n. failed_among n usual) (let e : members ≡ 0 + members = omega arith in e) ∙ longer usual 0 members (λ m past. refl)

-- nobody without a place has failed
pub failed_in : (column : List Regard) (members end : ℕ) → end ≡ min members (length column) → failed_among end (regards_of column) ≡ failed_among members (regards_of column)
failed_in column members end is =
    elim (cases_lt (length column) members) as (λ _. failed_among end (regards_of column) ≡ failed_among members (regards_of column)) [
      | inl less ↦
          ap (λ n. failed_among n (regards_of column)) (let e : end ≡ length column = omega (arith, is, less) in e)
          ∙ sym (longer (regards_of column) (length column) (members - length column) (λ m past. ap is_failed (get_or_past column m Usual past)))
          ∙ ap (λ n. failed_among n (regards_of column)) (let e : length column + (members - length column) ≡ members = omega (arith, less) in e)
      | inr all ↦ ap (λ n. failed_among n (regards_of column)) (let e : end ≡ members = omega (arith, is, all) in e)
    ]

numbers_below : (n : ℕ) → All (λ m. m < n) (range_with_len 0 n)
numbers_below n =
    All-from_get_or (λ m. m < n) (range_with_len 0 n) 0 (λ i within.
    let few : i < n = omega (arith, within, length-range_with_len 0 n) in
    let is = get_or-range_with_len 0 n i 0 few in
    omega (arith, is, few))

pub failed_below : (members : ℕ) (regards : Regards) → All (λ m. m < members) (failed_among members regards)
failed_below members regards = All-filter (λ m. is_failed (regards m)) (λ m. m < members) (range_with_len 0 members) (numbers_below members)
