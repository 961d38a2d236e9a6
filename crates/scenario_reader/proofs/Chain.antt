-- Each link of the chain of rules: a rule is the least broken where those before it are kept.
use Rattle.std.proofs.Common.{◌≡◌, ℕ, List, Bool, true, false, if◌then◌else◌, nat_le, Some, None, Result, Ok, Err, IfOk, IfErr, IsErrAnd, option_map, refl, subst, sym, ap, ◌∙◌}
use Rattle.std.specs.List.{list_any}
use Rattle.std.proofs.lemmas.Bool.{true≢false}
use Rattle.std.specs.Option.{option_or}
use Rattle.std.specs.Str.{IsUtf8, is_utf8}
use Rattle.std.proofs.lemmas.Str.{IsUtf8-from_is_utf8, is_utf8-from_IsUtf8}
use Rattle.toml.specs.Data.{Data, table, Members}
use Rattle.toml.specs.Parse.{parse_document}
use Rattle.schema.specs.declared.schema.Version.{Version}
use Rattle.schema.specs.declared.schema.Version.TheVariants.{One, Two, Three, Four}
use Rattle.schema.specs.declared.schema.FormatKey.TheVariants as key
use Rattle.schema.specs.Tree.{items_at}
use Rattle.schema.specs.Shape.{least_broken_of_shape, KeepsShape}
use Rattle.schema.proofs.Chain.{nothing_of_shape}
use Rattle.scenario.specs.declared.settings.Slow.{Slow}
use Rattle.scenario.specs.declared.settings.Crash.{Crash}
use Rattle.scenario.specs.declared.settings.Leave.{Leave}
use Rattle.scenario.specs.Setup.{Setup, Group, is_fourth}
use Rattle.scenario_reader.specs.Reading.{version_of, added_items, pause_items, plain_groups, setup_of_tree}
use Rattle.scenario_reader.specs.Rules.{any_two, is_same_member, overlaps, has_lost_contact, names_no_member, names_no_group, is_bad_contact, is_over, is_early, breaks_names, breaks_references, is_same_leaver, crashes_too, is_early_leave, is_cut_over, is_pause_over, breaks_pairs, breaks_times, breaks_added_references, breaks_departures, breaks_pauses, breaks_added_times, breaks_size, is_early_restart, asks_itself, breaks_names_in, fourth_breaks_references, fourth_breaks_times, least_broken, least_broken_by, fourth_least_broken_by, least_broken_in, judged_if_read, unless_broken, document_verdict, tree_of, verdict, KeepsValues, KeepsFourth}

-- where no rule on the tables is broken, the rules on the values decide
pub values_least : (d : Data) → KeepsShape (version_of d) d → least_broken d ≡ least_broken_in (version_of d) d (setup_of_tree d)
unfolding least_broken
values_least d k = ap (λ o. option_or o (least_broken_in (version_of d) d (setup_of_tree d))) (nothing_of_shape (version_of d) d k)

-- a broken rule on the tables is the least
pub shape_least : (d : Data) (rule : ℕ) → least_broken_of_shape (version_of d) d ≡ Some rule → least_broken d ≡ Some rule
unfolding least_broken
shape_least d rule broken = ap (λ o. option_or o (least_broken_in (version_of d) d (setup_of_tree d))) broken

-- which rules on the values decide
pub earlier_least : (v : Version) (d : Data) (s : Setup) → is_fourth v ≡ false → least_broken_in v d s ≡ least_broken_by d s
earlier_least One d s earlier = refl
earlier_least Two d s earlier = refl
earlier_least Three d s earlier = refl
earlier_least Four d s earlier = absurd (true≢false earlier)

pub the_fourth : (v : Version) → is_fourth v ≡ true → v ≡ Four
the_fourth One it = absurd (true≢false (sym it))
the_fourth Two it = absurd (true≢false (sym it))
the_fourth Three it = absurd (true≢false (sym it))
the_fourth Four it = refl

pub fourth_least : (v : Version) (d : Data) (s : Setup) → v ≡ Four → least_broken_in v d s ≡ fourth_least_broken_by d s
fourth_least v d s version = ap (λ w. least_broken_in w d s) version

module _ (d : Data) (s : Setup) where
  pub names_least : breaks_names (plain_groups d) ≡ true → least_broken_by d s ≡ Some 6
  unfolding least_broken_by
  names_least broken = rw broken

  module _ (named : breaks_names (plain_groups d) ≡ false) where
    pub references_least : breaks_references d (plain_groups d) ≡ true → least_broken_by d s ≡ Some 7
    unfolding least_broken_by
    references_least broken = rw (named, broken)

    module _ (known : breaks_references d (plain_groups d) ≡ false) where
      pub added_references_least : breaks_added_references s.version d (plain_groups d) ≡ true → least_broken_by d s ≡ Some 7
      unfolding least_broken_by
      added_references_least broken = rw (named, known, broken)

      module _ (known_too : breaks_added_references s.version d (plain_groups d) ≡ false) where
        pub pairs_least : breaks_pairs s.crashes s.slows ≡ true → least_broken_by d s ≡ Some 8
        unfolding least_broken_by
        pairs_least broken = rw (named, known, known_too, broken)

        module _ (once : breaks_pairs s.crashes s.slows ≡ false) where
          pub departures_least : breaks_departures s.crashes s.leaves ≡ true → least_broken_by d s ≡ Some 8
          unfolding least_broken_by
          departures_least broken = rw (named, known, known_too, once, broken)

          module _ (once_too : breaks_departures s.crashes s.leaves ≡ false) where
            pub pauses_least : breaks_pauses s.pauses ≡ true → least_broken_by d s ≡ Some 8
            unfolding least_broken_by
            pauses_least broken = rw (named, known, known_too, once, once_too, broken)

            module _ (apart : breaks_pauses s.pauses ≡ false) where
              pub times_least : breaks_times s ≡ true → least_broken_by d s ≡ Some 9
              unfolding least_broken_by
              times_least broken = rw (named, known, known_too, once, once_too, apart, broken)

              module _ (timely : breaks_times s ≡ false) where
                pub added_times_least : breaks_added_times s ≡ true → least_broken_by d s ≡ Some 9
                unfolding least_broken_by
                added_times_least broken = rw (named, known, known_too, once, once_too, apart, timely, broken)

                pub size_least : breaks_added_times s ≡ false → breaks_size s ≡ true → least_broken_by d s ≡ Some 10
                unfolding least_broken_by
                size_least timely_too broken = rw (named, known, known_too, once, once_too, apart, timely, timely_too, broken)

-- the same links in version 4
module _ (d : Data) (s : Setup) where
  pub fourth_names_least : breaks_names_in Four (plain_groups d) ≡ true → fourth_least_broken_by d s ≡ Some 6
  unfolding fourth_least_broken_by
  fourth_names_least broken = rw broken

  module _ (named : breaks_names_in Four (plain_groups d) ≡ false) where
    pub fourth_references_least : breaks_references d (plain_groups d) ≡ true → fourth_least_broken_by d s ≡ Some 7
    unfolding fourth_least_broken_by
    fourth_references_least broken = rw (named, broken)

    module _ (known : breaks_references d (plain_groups d) ≡ false) where
      pub fourth_added_references_least : breaks_added_references Four d (plain_groups d) ≡ true → fourth_least_broken_by d s ≡ Some 7
      unfolding fourth_least_broken_by
      fourth_added_references_least broken = rw (named, known, broken)

      module _ (known_too : breaks_added_references Four d (plain_groups d) ≡ false) where
        pub own_references_least : fourth_breaks_references d (plain_groups d) ≡ true → fourth_least_broken_by d s ≡ Some 7
        unfolding fourth_least_broken_by
        own_references_least broken = rw (named, known, known_too, broken)

        module _ (all_known : fourth_breaks_references d (plain_groups d) ≡ false) where
          pub fourth_times_least : breaks_times s ≡ true → fourth_least_broken_by d s ≡ Some 9
          unfolding fourth_least_broken_by
          fourth_times_least broken = rw (named, known, known_too, all_known, broken)

          module _ (timely : breaks_times s ≡ false) where
            pub fourth_added_times_least : breaks_added_times s ≡ true → fourth_least_broken_by d s ≡ Some 9
            unfolding fourth_least_broken_by
            fourth_added_times_least broken = rw (named, known, known_too, all_known, timely, broken)

            module _ (timely_too : breaks_added_times s ≡ false) where
              pub own_times_least : fourth_breaks_times s ≡ true → fourth_least_broken_by d s ≡ Some 9
              unfolding fourth_least_broken_by
              own_times_least broken = rw (named, known, known_too, all_known, timely, timely_too, broken)

              module _ (all_timely : fourth_breaks_times s ≡ false) where
                pub fourth_size_least : (r : Bool) → breaks_size s ≡ r → fourth_least_broken_by d s ≡ (if r then Some 10 else None)
                unfolding fourth_least_broken_by
                fourth_size_least r size = rw (named, known, known_too, all_known, timely, timely_too, all_timely, size)

pub version_is : (d : Data) → (setup_of_tree d).version ≡ version_of d
unfolding setup_of_tree
version_is d = refl

nothing_by : (d : Data) (s : Setup) → breaks_names (plain_groups d) ≡ false → breaks_references d (plain_groups d) ≡ false → breaks_added_references s.version d (plain_groups d) ≡ false
    → breaks_pairs s.crashes s.slows ≡ false → breaks_departures s.crashes s.leaves ≡ false → breaks_pauses s.pauses ≡ false → breaks_times s ≡ false → breaks_added_times s ≡ false → breaks_size s ≡ false → least_broken_by d s ≡ None
unfolding least_broken_by
nothing_by d s a b e f g p h i j = rw (a, b, e, f, g, p, h, i, j)

pub nothing_broken : (d : Data) → KeepsValues d → least_broken_by d (setup_of_tree d) ≡ None
nothing_broken d k =
    nothing_by d (setup_of_tree d) k.names k.references (ap (λ v. breaks_added_references v d (plain_groups d)) (version_is d) ∙ k.added_references) k.pairs k.departures k.pauses k.times k.added_times k.size

pub fourth_nothing_broken : (d : Data) → KeepsFourth d → fourth_least_broken_by d (setup_of_tree d) ≡ None
fourth_nothing_broken d k = fourth_size_least d (setup_of_tree d) k.names k.references k.added_references k.fourth_references k.times k.added_times k.fourth_times false k.size

-- the four kinds of references
module _ (d : Data) (gs : List Group) where
  pub lost_contact : list_any (has_lost_contact gs) (items_at key.Group d) ≡ true → breaks_references d gs ≡ true
  unfolding breaks_references
  lost_contact broken = rw broken

  pub lost_slow : list_any (has_lost_contact gs) (items_at key.Group d) ≡ false → list_any (names_no_member gs) (items_at key.Slow d) ≡ true → breaks_references d gs ≡ true
  unfolding breaks_references
  lost_slow a broken = rw (a, broken)

  pub lost_crash : list_any (has_lost_contact gs) (items_at key.Group d) ≡ false → list_any (names_no_member gs) (items_at key.Slow d) ≡ false
      → list_any (names_no_member gs) (items_at key.Crash d) ≡ true → breaks_references d gs ≡ true
  unfolding breaks_references
  lost_crash a b broken = rw (a, b, broken)

  pub lost_path : (r : Bool) → list_any (has_lost_contact gs) (items_at key.Group d) ≡ false → list_any (names_no_member gs) (items_at key.Slow d) ≡ false
      → list_any (names_no_member gs) (items_at key.Crash d) ≡ false → list_any (names_no_group gs) (items_at key.Path d) ≡ r → breaks_references d gs ≡ r
  unfolding breaks_references
  lost_path r a b e f = rw (a, b, e, f)

-- the two kinds of pairs
module _ (crashes : List Crash) (slows : List Slow) where
  pub crash_pairs : any_two is_same_member crashes ≡ true → breaks_pairs crashes slows ≡ true
  unfolding breaks_pairs
  crash_pairs broken = rw broken

  pub slow_pairs : (r : Bool) → any_two is_same_member crashes ≡ false → any_two overlaps slows ≡ r → breaks_pairs crashes slows ≡ r
  unfolding breaks_pairs
  slow_pairs r a b = rw (a, b)

-- the four kinds of moments
module _ (s : Setup) where
  pub late_timeout : nat_le s.swim.period s.swim.timeout ≡ true → breaks_times s ≡ true
  unfolding breaks_times
  late_timeout broken = rw broken

  pub bad_contact : nat_le s.swim.period s.swim.timeout ≡ false → list_any (is_bad_contact s) s.groups ≡ true → breaks_times s ≡ true
  unfolding breaks_times
  bad_contact a broken = rw (a, broken)

  pub slow_over : nat_le s.swim.period s.swim.timeout ≡ false → list_any (is_bad_contact s) s.groups ≡ false → list_any is_over s.slows ≡ true → breaks_times s ≡ true
  unfolding breaks_times
  slow_over a b broken = rw (a, b, broken)

  pub early_crash : (r : Bool) → nat_le s.swim.period s.swim.timeout ≡ false → list_any (is_bad_contact s) s.groups ≡ false → list_any is_over s.slows ≡ false
      → list_any (is_early s) s.crashes ≡ r → breaks_times s ≡ r
  unfolding breaks_times
  early_crash r a b e f = rw (a, b, e, f)

-- the three kinds of references that versions 2 and 3 add
module _ (v : Version) (d : Data) (gs : List Group) where
  pub lost_leave : list_any (names_no_member gs) (added_items v key.Leave d) ≡ true → breaks_added_references v d gs ≡ true
  unfolding breaks_added_references
  lost_leave broken = rw broken

  pub lost_cut : list_any (names_no_member gs) (added_items v key.Leave d) ≡ false → list_any (names_no_group gs) (added_items v key.Cut d) ≡ true → breaks_added_references v d gs ≡ true
  unfolding breaks_added_references
  lost_cut a broken = rw (a, broken)

  pub lost_pause : (r : Bool) → list_any (names_no_member gs) (added_items v key.Leave d) ≡ false → list_any (names_no_group gs) (added_items v key.Cut d) ≡ false
      → list_any (names_no_member gs) (pause_items v d) ≡ r → breaks_added_references v d gs ≡ r
  unfolding breaks_added_references
  lost_pause r a b e = rw (a, b, e)

-- two of the kinds of pairs
module _ (crashes : List Crash) (leaves : List Leave) where
  pub leave_pairs : any_two is_same_leaver leaves ≡ true → breaks_departures crashes leaves ≡ true
  unfolding breaks_departures
  leave_pairs broken = rw broken

  pub crash_and_leave : (r : Bool) → any_two is_same_leaver leaves ≡ false → list_any (crashes_too crashes) leaves ≡ r → breaks_departures crashes leaves ≡ r
  unfolding breaks_departures
  crash_and_leave r a b = rw (a, b)

-- the three kinds of moments
module _ (s : Setup) where
  pub early_leave : list_any (is_early_leave s) s.leaves ≡ true → breaks_added_times s ≡ true
  unfolding breaks_added_times
  early_leave broken = rw broken

  pub cut_over : list_any (is_early_leave s) s.leaves ≡ false → list_any is_cut_over s.cuts ≡ true → breaks_added_times s ≡ true
  unfolding breaks_added_times
  cut_over a broken = rw (a, broken)

  pub pause_over : (r : Bool) → list_any (is_early_leave s) s.leaves ≡ false → list_any is_cut_over s.cuts ≡ false → list_any is_pause_over s.pauses ≡ r → breaks_added_times s ≡ r
  unfolding breaks_added_times
  pause_over r a b e = rw (a, b, e)

-- the three kinds of references that version 4 adds
module _ (d : Data) (gs : List Group) where
  pub lost_restart : list_any (names_no_member gs) (items_at key.Restart d) ≡ true → fourth_breaks_references d gs ≡ true
  unfolding fourth_breaks_references
  lost_restart broken = rw broken

  pub lost_restart_contact : list_any (names_no_member gs) (items_at key.Restart d) ≡ false → list_any (has_lost_contact gs) (items_at key.Restart d) ≡ true → fourth_breaks_references d gs ≡ true
  unfolding fourth_breaks_references
  lost_restart_contact a broken = rw (a, broken)

  pub lost_block : (r : Bool) → list_any (names_no_member gs) (items_at key.Restart d) ≡ false → list_any (has_lost_contact gs) (items_at key.Restart d) ≡ false
      → list_any (names_no_member gs) (items_at key.Block d) ≡ r → fourth_breaks_references d gs ≡ r
  unfolding fourth_breaks_references
  lost_block r a b e = rw (a, b, e)

-- and of moments
module _ (s : Setup) where
  pub early_restart : list_any (is_early_restart s) s.restarts ≡ true → fourth_breaks_times s ≡ true
  unfolding fourth_breaks_times
  early_restart broken = rw broken

  pub asking_itself : list_any (is_early_restart s) s.restarts ≡ false → list_any asks_itself s.restarts ≡ true → fourth_breaks_times s ≡ true
  unfolding fourth_breaks_times
  asking_itself a broken = rw (a, broken)

  pub block_over : (r : Bool) → list_any (is_early_restart s) s.restarts ≡ false → list_any asks_itself s.restarts ≡ false → list_any is_pause_over s.blocks ≡ r → fourth_breaks_times s ≡ r
  unfolding fourth_breaks_times
  block_over r a b e = rw (a, b, e)

-- the document of bytes that `toml` read
pub has_tree : (bytes : List ℕ) (ms : Members) → IsUtf8 bytes → parse_document bytes ≡ Some ms → tree_of bytes ≡ Some (table ms)
has_tree bytes ms text parsed = rw (is_utf8-from_IsUtf8 bytes text) (ap (option_map table) parsed)

no_tree_of : (bytes : List ℕ) (b : Bool) → is_utf8 bytes ≡ b → (IsUtf8 bytes → parse_document bytes ≡ None) → tree_of bytes ≡ None
no_tree_of bytes true text refused = rw text (ap (option_map table) (refused (IsUtf8-from_is_utf8 bytes text)))
no_tree_of bytes false text refused = rw text refl

-- bytes that are text only where `toml` finds no document are none
pub no_tree : (bytes : List ℕ) → (IsUtf8 bytes → parse_document bytes ≡ None) → tree_of bytes ≡ None
no_tree bytes refused = no_tree_of bytes (is_utf8 bytes) refl refused

-- bytes that are no document are answered by rule 1, and others as their document is
pub answered_without : (bytes : List ℕ) → tree_of bytes ≡ None → verdict bytes ≡ Err 1
unfolding verdict
answered_without bytes none = ap (judged_if_read least_broken) none

pub answered_as_document : (bytes : List ℕ) (d : Data) → tree_of bytes ≡ Some d → verdict bytes ≡ document_verdict d
unfolding verdict
answered_as_document bytes d read = ap (judged_if_read least_broken) read

pub rule_broken : (d : Data) (rule : ℕ) → least_broken d ≡ Some rule → document_verdict d ≡ Err rule
rule_broken d rule broken = ap (unless_broken (setup_of_tree d)) broken

pub accepted : (d : Data) → least_broken d ≡ None → document_verdict d ≡ Ok (setup_of_tree d)
accepted d fine = ap (unless_broken (setup_of_tree d)) fine

-- what holds of an answer, from what was known of it
pub ok_so : {A E : Type 0} (P Q : A → Type 0) (r : Result A E) → IfOk r P → ((x : A) → P x → Q x) → IfOk r Q
ok_so P Q (Ok x) known so = so x known
ok_so P Q (Err e) known so = known

pub err_so : {A E : Type 0} (P Q : E → Type 0) (r : Result A E) → IfErr r P → ((e : E) → P e → Q e) → IfErr r Q
err_so P Q (Ok x) known so = known
err_so P Q (Err e) known so = so e known

-- what a `?` hands on is the error that it was given
pub handed_on : {T E : Type 0} (Q : E → Type 0) (r : Result T E) (e : E) → IsErrAnd r (λ y. y ≡ e) → Q e → IfErr r Q
handed_on Q (Ok x) e gives h = absurd gives
handed_on Q (Err y) e gives h = subst Q (sym gives) h
