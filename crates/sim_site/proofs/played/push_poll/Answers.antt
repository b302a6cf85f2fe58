-- Proof of the contract of `push_poll`.
use Rattle.std.proofs.Common.{◌∷◌, ◌++◌, [], ◌∙◌, ap, append_assoc, inr, rules}
use Rattle.std.proofs.lemmas.Int.{to_z-of_z}
use Rattle.std.specs.Option.{option_to_list}
use mir.Syntax.{w64}
use mir.Val.{SFits}
use Rattle.gw_site.specs.declared.turn.Turn.TheVariants.{Polled}
use Rattle.sim_site.proofs.SiteLemmas.{on_err, on_ok}
use Rattle.sim_site.proofs.played.push_poll.Goals as goal

pub returns-clause-ok : goal.returns-clause-ok
returns-clause-ok c =
    let fits : SFits w64 c.args.now = search rules in
    let polled = simp (to_z-of_z, fits) at c.in_ok-push.ensures.ok in
    let turns = option_to_list c.args.event in
    on_ok c.push_event.result (λ more. more ∙ ap (λ log. log ++ turns) polled ∙ append_assoc c.args.log.now (Polled c.args.now ∷ []) turns) c.push_event.ensures.ok

pub returns-clause-err : goal.returns-clause-err
returns-clause-err c =
    let fits : SFits w64 c.args.now = search rules in
    let polled = simp (to_z-of_z, fits) at c.in_ok-push.ensures.ok in
    on_err c.push_event.result (λ same. inr (same ∙ polled)) c.push_event.ensures.err
