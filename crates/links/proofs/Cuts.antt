-- Which messages a scenario's cuts lose.
use Rattle.std.proofs.Common.{◌≡◌, ℕ, Bool, true, false, ◌&&◌, nat_eq, nat_le, None, refl, sym, ap, ◌∙◌, le-leb, lt-ltb}
use Rattle.std.specs.List.{list_any}
use Rattle.std.proofs.lemmas.Bool.{and_parts, eqb-true, eq-eqb, leb-true, ltb-true}
use Rattle.std.proofs.lemmas.List.Folds.{Any-from_list_any, list_any_at}
use Rattle.streams.specs.Draw.{Words}
use Rattle.schema.specs.declared.schema.Version.TheVariants.{One}
use Rattle.scenario.specs.Setup.{Setup, group_at, cuts_off, is_cut, IsSound}
use Rattle.scenario.specs.declared.settings.Cut.{Cut}
use Rattle.links.specs.Arrival.{uncut_arrival_of, arrival_of, IsCutBy}
use Rattle.links.proofs.Arrivals.{cut_arrival, uncut_arrival}

module _ (s : Setup) (from to now : ℕ) where
  found : (c : Cut) → IsCutBy s from to now c → is_cut s from to now ≡ true
  found c by =
      let off : cuts_off (group_at s.groups from) (group_at s.groups to) now c ≡ true = rw (eq-eqb c.from _ by.sender, eq-eqb c.to _ by.receiver, le-leb c.at now by.begun, lt-ltb now c.until by.lasting) in
      list_any_at (cuts_off (group_at s.groups from) (group_at s.groups to) now) s.cuts by.among.0 c by.among.1.0 (ap (cuts_off (group_at s.groups from) (group_at s.groups to) now) (sym by.among.1.1) ∙ off)

  pub lost : (words : Words) (c : Cut) → IsCutBy s from to now c → arrival_of s from to now words ≡ (None, words)
  lost words c by = cut_arrival s from to now words (found c by)

  cut_by : is_cut s from to now ≡ true → (c : Cut) × IsCutBy s from to now c
  cut_by cut =
      let (k, c, within, here, off) = Any-from_list_any (cuts_off (group_at s.groups from) (group_at s.groups to) now) s.cuts cut in
      let both = and_parts (nat_eq c.from (group_at s.groups from) && nat_eq c.to (group_at s.groups to)) _ off in
      let groups = and_parts (nat_eq c.from (group_at s.groups from)) _ both.0 in
      let times = and_parts (nat_le c.at now) _ both.1 in
      (c, record { among = (k, (within, sym here)); sender = eqb-true c.from _ groups.0; receiver = eqb-true c.to _ groups.1; begun = leb-true c.at now times.0; lasting = ltb-true now c.until times.1 })

  by_cut : (b : Bool) (words : Words) → is_cut s from to now ≡ b → ((c : Cut) → ¬ (IsCutBy s from to now c)) → arrival_of s from to now words ≡ uncut_arrival_of s from to now words
  by_cut true words cut none = let by = cut_by cut in absurd (none by.0 by.1)
  by_cut false words uncut none = uncut_arrival s from to now words uncut

  pub not_changed : (words : Words) → ((c : Cut) → ¬ (IsCutBy s from to now c)) → arrival_of s from to now words ≡ uncut_arrival_of s from to now words
  not_changed words none = by_cut (is_cut s from to now) words refl none

  pub never_cut : (words : Words) → IsSound s → s.version ≡ One → arrival_of s from to now words ≡ uncut_arrival_of s from to now words
  never_cut words sound one = uncut_arrival s from to now words (ap (list_any (cuts_off (group_at s.groups from) (group_at s.groups to) now)) (sound.first one).0.cuts)
