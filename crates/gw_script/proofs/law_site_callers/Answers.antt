-- Proof of the contract of `law_site_callers`.
use Rattle.std.proofs.Common.{◌≡◌, List, [], ◌∷◌, ◌++◌, refl, ◌∙◌, ap}
use Rattle.std.specs.Prelude.{Some}
use Rattle.gw_site.specs.Steps.{SiteStep, Junk}
use Rattle.gw_script.specs.site.CallExample.{planned}
use Rattle.gw_script.proofs.site.CallerLemmas.{one-log-of-caller}
use Rattle.gw_script.proofs.law_site_callers.Goals as goal

pub returns-clause-one_log : goal.returns-clause-one_log
returns-clause-one_log c = one-log-of-caller

-- after the first steps of a plan comes the next
planned_next : (before : List SiteStep) (step : SiteStep) (rest : List SiteStep) → planned (before ++ step ∷ rest) before ≡ Some step
planned_next [] step rest = refl
planned_next (first ∷ before) step rest = planned_next before step rest

pub returns-clause-plan : goal.returns-clause-plan
returns-clause-plan c = record {
  plays = (_, (_, _, (record { no_event = refl; no_failure = refl; power = refl }, refl), refl, (_, _, (record { no_event = refl; no_failure = refl; power = refl }, refl), refl, (_, _, (record { no_event = refl; no_failure = refl; power = refl }, refl), refl, (_, _, (record { no_event = refl; no_failure = refl; power = refl }, refl), refl, (_, _, (record { no_event = refl; no_failure = refl; power = refl }, refl), refl, (_, _, (record { no_event = refl; no_failure = refl; power = refl }, refl), refl, (_, _, (record { no_event = refl; no_failure = refl; power = refl }, refl), refl, (_, _, (record { no_event = refl; no_failure = refl; power = refl }, refl), refl, (_, _, (record { no_event = refl; no_failure = refl; power = refl }, refl), refl, (Junk 165, _, refl, refl, (_, _, (record { no_event = refl; no_failure = refl; power = refl }, refl), refl, (refl, refl)))))))))))));
  each = λ before step rest past e plays. ap (λ steps. planned steps before) e ∙ planned_next before step rest;
  ends = refl;
}
