-- How often the files of a drive have failed.
use Rattle.std.proofs.Common.{◌≡◌, ◌+◌, ◌<◌, ℕ, List, Option, Some, None, ap, arith, refl}
use Rattle.clap.specs.Words.{Text}
use Rattle.trace.specs.declared.sink.Put.{Put}
use Rattle.trace.specs.Writers.{put_failures}
use Rattle.scenario_files.specs.Shelves.{Shelf}
use Rattle.drive_command.specs.declared.making.Made.{Made}
use Rattle.drive_command.specs.Making.{AreMade, IsFreshAsked, failures_asked, failures_closed}
use Rattle.drive_command.specs.Playing.{AreUnfailed, HasShape, HaveShape, failures_in, failures_of}

module _ {M : Type 0} (contents : M → Option (List ℕ)) (before after : Shelf) where
  counts_asked : (name : Option Text) (first last : Option (Put M)) → IsFreshAsked contents before after name first → HasShape first last
      → failures_asked name last ≡ failures_of last
  counts_asked None None None fresh shape = refl
  counts_asked None None (Some last) fresh shape = absurd shape
  counts_asked None (Some first) last fresh shape = absurd fresh
  counts_asked (Some name) None last fresh shape = absurd fresh
  counts_asked (Some name) (Some first) None fresh shape = absurd shape
  counts_asked (Some name) (Some first) (Some last) fresh shape = refl

  unfailed_asked : (name : Option Text) (made : Option (Put M)) → IsFreshAsked contents before after name made → failures_of made ≡ 0
  unfailed_asked None None fresh = refl
  unfailed_asked None (Some put) fresh = absurd fresh
  unfailed_asked (Some name) None fresh = absurd fresh
  unfailed_asked (Some name) (Some put) fresh = fresh.unfailed

  module _ (trace : Text) (report page : Option Text) (first : Made M) (makes : AreMade contents before after trace report page first) where
    pub are_unfailed : AreUnfailed first
    are_unfailed = record {
      trace = makes.trace_made.unfailed;
      report = unfailed_asked report first.report makes.report_made;
      page = unfailed_asked page first.page makes.page_made;
    }

    -- those that are counted when the files are closed are all that there are
    pub all_counted : (last : Made M) → HaveShape first last → failures_closed report page last ≡ failures_in last
    all_counted last shape =
        let reported = counts_asked report first.report last.report makes.report_made shape.0 in
        let paged = counts_asked page first.page last.page makes.page_made shape.1 in
        omega (arith, reported, paged)

-- what a failed write adds is counted
pub grown : (before made after closed failed : ℕ) → made ≡ before → after ≡ made + closed → closed ≡ failed → 0 < failed → before < after
grown before made after closed failed same counted is more = omega (arith, same, counted, is, more)

pub kept : (before made after closed failed : ℕ) → made ≡ before → after ≡ made + closed → closed ≡ failed → failed ≡ 0 → after ≡ before
kept before made after closed failed same counted is none = omega (arith, same, counted, is, none)
