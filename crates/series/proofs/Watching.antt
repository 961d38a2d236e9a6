-- Which crashes are watched, member by member.
use Rattle.std.proofs.Common.{◌≡◌, ℕ, ◌+◌, cond, [], ◌∷◌, ◌++◌, Option, sym, ap, ◌∙◌, arith}
use Rattle.std.specs.Prelude.{None, count_by, if◌then◌else◌, nat_lt}
use Rattle.std.specs.List.{range_with_len}
use Rattle.std.specs.Option.{is_some}
use Rattle.std.proofs.lemmas.List.{map-id}
use Rattle.std.proofs.lemmas.List.FromFn.{map-range_with_len_more}
use Rattle.scenario.specs.Setup.{Setup}
use Rattle.series.specs.Watched.{crash_by_end, crashes, crashed, watched}
use Rattle.series.proofs.Telling.{count-push}

range_more : (n : ℕ) → range_with_len 0 (n + 1) ≡ range_with_len 0 n ++ n ∷ []
range_more n = sym (map-id (range_with_len 0 (n + 1))) ∙ map-range_with_len_more (λ x. x) 0 n n (omega arith) ∙ ap (λ l. l ++ n ∷ []) (map-id (range_with_len 0 n))

-- how many crash, with one member more
pub crashed_more : (s : Setup) (member before : ℕ) (crash : Option ℕ) → before ≡ crashed s member → crash ≡ crash_by_end s member → before + cond (is_some crash) 1 0 ≡ crashed s (member + 1)
crashed_more s member before crash so_far is =
    ap (λ o. before + cond (is_some o) 1 0) is ∙ ap (λ n. n + cond (crashes s member) 1 0) so_far
    ∙ sym (ap (count_by (crashes s)) (range_more member) ∙ count-push (crashes s) (range_with_len 0 member) member)

-- the crash that is watched
pub watched_by : (s : Setup) (member before : ℕ) (crash since : Option ℕ) → crash ≡ crash_by_end s member → before ≡ crashed s member → since ≡ (if nat_lt before 12 then crash else None) → since ≡ watched s member
watched_by s member before crash since is so_far kept =
    kept ∙ ap (λ o. if nat_lt before 12 then o else None) is ∙ ap (λ n. if nat_lt n 12 then crash_by_end s member else None) so_far
