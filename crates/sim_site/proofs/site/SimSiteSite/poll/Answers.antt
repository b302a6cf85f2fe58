-- Proof of the contract of `poll`.
use Rattle.std.proofs.Common.{◌∷◌, ◌∙◌, refl, sym}
use Rattle.gw_site.specs.Steps.{PollCall}
use Rattle.gw_site.specs.Turns.{PolledTurns, event_turns}
use Rattle.gw_site.specs.declared.turn.Turn.TheVariants.{Polled}
use Rattle.sim_site.specs.Sites.{observed_with}
use Rattle.sim_site.proofs.SiteLemmas.{dark_grows, goes_on, polled_grows, refused_poll_grows}
use Rattle.sim_site.proofs.StepLemmas.{dark_step, made_step}
use Rattle.sim_site.proofs.site.SimSiteSite.poll.Goals as goal

pub returns-then-is_dark-clause-turns : goal.returns-then-is_dark-clause-turns
returns-then-is_dark-clause-turns c =
    let s = c.args.self.now in
    let poll = c.poll_result.result in
    dark_grows (observed_with s.faults s.played) (observed_with s.faults s.played) (PolledTurns poll c.args.buf.now) (Polled poll.now ∷ event_turns poll.what c.args.buf.now) refl (sym c.is_dark.ensures.dark ∙ c.if-is_dark.true) refl refl

pub returns-in-Ok-clause-turns : goal.returns-in-Ok-clause-turns
returns-in-Ok-clause-turns c =
    let s = c.args.self.now in
    polled_grows s.faults s.faults s.played c.poll.new.self c.in-Ok.what c.poll_result-in-Ok.result c.poll.new.buf (c.is_dark.ensures.lit c.if-is_dark.false) c.in-Ok.ensures.made c.in-Ok.ensures.polled c.in-Ok.ensures.same c.poll_result-in-Ok.ensures

pub returns-in-Err-clause-turns : goal.returns-in-Err-clause-turns
returns-in-Err-clause-turns c =
    let s = c.args.self.now in
    refused_poll_grows s.faults s.faults s.played c.poll.new.self c.poll_result-in-Err.result c.poll.new.buf (c.is_dark.ensures.lit c.if-is_dark.false) c.in-Err.ensures.refused c.in-Err.ensures.short c.in-Err.ensures.same c.poll_result-in-Err.ensures

pub returns-in-Ok-clause-call : goal.returns-in-Ok-clause-call
returns-in-Ok-clause-call c = λ lit whole.
    let s = c.args.self.now in
    goes_on s (record s { played = c.poll.new.self }) c.poll.new.self PollCall refl c.in-Ok.ensures.made

pub returns-then-is_dark-clause-step : goal.returns-then-is_dark-clause-step
returns-then-is_dark-clause-step c =
    let s = c.args.self.now in
    dark_step s.faults s.faults s.played s.played PollCall (sym c.is_dark.ensures.dark ∙ c.if-is_dark.true) refl

pub returns-in-Ok-clause-step : goal.returns-in-Ok-clause-step
returns-in-Ok-clause-step c =
    let s = c.args.self.now in
    made_step s.faults s.faults s.played c.poll.new.self c.poll.new.self PollCall c.poll.result refl (c.is_dark.ensures.lit c.if-is_dark.false) c.poll.ensures.made c.poll.ensures.short

pub returns-in-Err-clause-step : goal.returns-in-Err-clause-step
returns-in-Err-clause-step c =
    let s = c.args.self.now in
    made_step s.faults s.faults s.played c.poll.new.self c.poll.new.self PollCall c.poll.result refl (c.is_dark.ensures.lit c.if-is_dark.false) c.poll.ensures.made c.poll.ensures.short
