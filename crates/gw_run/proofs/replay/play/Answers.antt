-- Proof of the contract of `play`.
use Rattle.std.proofs.Common.{◌<◌, length, ◌∙◌, ap, sym, subst, arith}
use Rattle.gw_site.specs.Observed.{Observed}
use Rattle.gw_script.specs.site.StepTurns.{site_turns}
use Rattle.sim_site.specs.Sites.{PlaysOrigin, played_script, sim_observed}
use Rattle.gw_run.proofs.SiteRunLemmas.{as-ending, is-play-end, lit-unless, play-has-end, given-end, given-play}
use Rattle.gw_run.proofs.replay.play.Goals as goal

pub write_play-requires : goal.write_play-requires
write_play-requires g c =
    let few : length c.as_slice.result.now < 18446744073709551615 = (let size = c.as_slice.type_inv.1 in omega (arith, size)) in
    given-end _ c.requires.whole c.ending_of.result c.play_site-end.new.site c.as_slice.result.now (c.as_slice.ensures ∙ c.log.ensures.log) few
    (as-ending _ _ c.play_site-end.result c.ending_of.result (sim_observed c.play_site-end.new.site) _ c.ending_of.ensures (c.play_site-end.ensures.run c.requires.whole c.requires.plan_is)) (lit-unless c.play_site-end.result c.ending_of.result (sim_observed c.play_site-end.new.site) c.ending_of.ensures c.play_site-end.ensures.lit)

pub returns-clause-which : goal.returns-clause-which
returns-clause-which g c =
    let few : length c.as_slice.result.now < 18446744073709551615 = (let size = c.as_slice.type_inv.1 in omega (arith, size)) in
    let ends = given-end _ c.requires.whole c.ending_of.result c.play_site-end.new.site c.as_slice.result.now (c.as_slice.ensures ∙ c.log.ensures.log) few
    (as-ending _ _ c.play_site-end.result c.ending_of.result (sim_observed c.play_site-end.new.site) _ c.ending_of.ensures (c.play_site-end.ensures.run c.requires.whole c.requires.plan_is)) (lit-unless c.play_site-end.result c.ending_of.result (sim_observed c.play_site-end.new.site) c.ending_of.ensures c.play_site-end.ensures.lit) in
    is-play-end c.ending_of.result c.write_play.result c.as_slice.result.now ends c.write_play.ensures.which

pub returns-clause-printed : goal.returns-clause-printed
returns-clause-printed g c = λ text served fresh.
    let few : length c.as_slice.result.now < 18446744073709551615 = (let size = c.as_slice.type_inv.1 in omega (arith, size)) in
    let ran = c.play_site-end.ensures.run (site_turns (played_script c.args.site.now).lines) (ap (λ (o : Observed). o.plan) fresh) in
    let plays = subst (PlaysOrigin (sim_observed c.play_site-end.new.site).origin) (sym c.as_slice.ensures) c.log.ensures.plays in
    c.write_play.ensures.printed text (given-play text (played_script c.args.site.now) c.ending_of.result (sim_observed c.args.site.now) c.play_site-end.new.site c.as_slice.result.now served fresh (c.as_slice.ensures ∙ c.log.ensures.log) few
    (as-ending _ _ c.play_site-end.result c.ending_of.result (sim_observed c.play_site-end.new.site) _ c.ending_of.ensures ran) (lit-unless c.play_site-end.result c.ending_of.result (sim_observed c.play_site-end.new.site) c.ending_of.ensures c.play_site-end.ensures.lit) c.play_site-end.ensures.origin plays)

pub returns-clause-end : goal.returns-clause-end
returns-clause-end g c = λ text served fresh.
    let few : length c.as_slice.result.now < 18446744073709551615 = (let size = c.as_slice.type_inv.1 in omega (arith, size)) in
    let ran = c.play_site-end.ensures.run (site_turns (played_script c.args.site.now).lines) (ap (λ (o : Observed). o.plan) fresh) in
    let plays = subst (PlaysOrigin (sim_observed c.play_site-end.new.site).origin) (sym c.as_slice.ensures) c.log.ensures.plays in
    let p = given-play text (played_script c.args.site.now) c.ending_of.result (sim_observed c.args.site.now) c.play_site-end.new.site c.as_slice.result.now served fresh (c.as_slice.ensures ∙ c.log.ensures.log) few
    (as-ending _ _ c.play_site-end.result c.ending_of.result (sim_observed c.play_site-end.new.site) _ c.ending_of.ensures ran) (lit-unless c.play_site-end.result c.ending_of.result (sim_observed c.play_site-end.new.site) c.ending_of.ensures c.play_site-end.ensures.lit) c.play_site-end.ensures.origin plays in
    play-has-end text c.ending_of.result c.write_play.result c.as_slice.result.now p c.write_play.ensures.which
