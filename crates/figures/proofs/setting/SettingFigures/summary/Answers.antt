use Rattle.std.proofs.Common.{length, sym, subst, ◌∙◌, IsPermutation}
use Rattle.figures.specs.Settings.{crashes_in, suspected_in, confirmed_in, last_in, incidents_in, thrown_out_in, runs_with, false_deaths_in, death_squares_in, deaths_low, deaths_high}
use Rattle.figures.specs.Histograms.{IsHistogramOf}
use Rattle.figures.proofs.Summaries.{of_rank, false_rate_of, low_of, high_of, per_run_of, end_of, rate_of}
use Rattle.figures.proofs.setting.SettingFigures.summary.Goals as goal

pub returns : goal.returns
returns c runs are =
    let setting = c.args.self in
    let suspected = subst (IsPermutation setting.suspected.items) (sym c.as_slice-suspected.ensures.value) c.in_ok-sort.ensures.permutation in
    let confirmed = subst (IsPermutation setting.confirmed.items) (sym c.as_slice-confirmed.ensures.value) c.in_ok-sort-2.ensures.permutation in
    let last = subst (IsPermutation setting.last.items) (sym c.as_slice-last.ensures.value) c.in_ok-sort-3.ensures.permutation in
    record {
      all = are.all;
      crashed = are.crashed;
      early_suspicion = of_rank 5 suspected_in (crashes_in runs) _ setting.suspected.items setting.crashes (c.percentile.ensures setting.suspected.items suspected) are.crashed are.suspicions;
      suspicion = of_rank 50 suspected_in (crashes_in runs) _ setting.suspected.items setting.crashes (c.percentile-2.ensures setting.suspected.items suspected) are.crashed are.suspicions;
      late_suspicion = of_rank 95 suspected_in (crashes_in runs) _ setting.suspected.items setting.crashes (c.percentile-3.ensures setting.suspected.items suspected) are.crashed are.suspicions;
      early_confirmation = of_rank 5 confirmed_in (crashes_in runs) _ setting.confirmed.items setting.crashes (c.percentile-4.ensures setting.confirmed.items confirmed) are.crashed are.confirmations;
      confirmation = of_rank 50 confirmed_in (crashes_in runs) _ setting.confirmed.items setting.crashes (c.percentile-5.ensures setting.confirmed.items confirmed) are.crashed are.confirmations;
      rather_late_confirmation = of_rank 95 confirmed_in (crashes_in runs) _ setting.confirmed.items setting.crashes (c.percentile-6.ensures setting.confirmed.items confirmed) are.crashed are.confirmations;
      late_confirmation = of_rank 99 confirmed_in (crashes_in runs) _ setting.confirmed.items setting.crashes (c.percentile-7.ensures setting.confirmed.items confirmed) are.crashed are.confirmations;
      latest_confirmation = of_rank 100 confirmed_in (crashes_in runs) _ setting.confirmed.items setting.crashes (c.percentile-8.ensures setting.confirmed.items confirmed) are.crashed are.confirmations;
      confirmations = subst (IsHistogramOf c.histogram_of-confirm_times.result) (c.as_slice.ensures.value ∙ are.confirmations) c.histogram_of-confirm_times.ensures;
      early_last = of_rank 5 last_in (crashes_in runs) _ setting.last.items setting.crashes (c.percentile-9.ensures setting.last.items last) are.crashed are.lasts;
      last = of_rank 50 last_in (crashes_in runs) _ setting.last.items setting.crashes (c.percentile-10.ensures setting.last.items last) are.crashed are.lasts;
      late_last = of_rank 95 last_in (crashes_in runs) _ setting.last.items setting.crashes (c.percentile-11.ensures setting.last.items last) are.crashed are.lasts;
      latest_last = of_rank 100 last_in (crashes_in runs) _ setting.last.items setting.crashes (c.percentile-12.ensures setting.last.items last) are.crashed are.lasts;
      false_claims = false_rate_of runs setting.false_suspect setting.runs c.from.result are.false_claims c.from.ensures are.all;
      thrown = are.thrown;
      returned = are.returned;
      with_thrown = are.with_thrown;
      low = low_of (runs_with runs) (length runs) setting.runs_with setting.runs _ c.share_low.ensures are.with_thrown are.all;
      high = high_of (runs_with runs) (length runs) setting.runs_with setting.runs _ c.share_high.ensures are.with_thrown are.all;
      per_run = per_run_of (thrown_out_in runs) (length runs) setting.thrown_out setting.runs _ c.deaths_of.ensures are.thrown are.all;
      fewest = end_of deaths_low (false_deaths_in runs) (death_squares_in runs) (length runs) setting.deaths setting.squares setting.runs _ c.deaths_low.ensures are.deaths are.squares are.all;
      most = end_of deaths_high (false_deaths_in runs) (death_squares_in runs) (length runs) setting.deaths setting.squares setting.runs _ c.deaths_high.ensures are.deaths are.squares are.all;
      incidents = c.incidents_of.ensures (incidents_in runs) are.with_incidents;
      rate = rate_of runs setting.sent setting.member_ticks _ c.message_rate.ensures are.sendings are.lasting;
    }
