-- Proof of the contract of `push_payment`.
use Rattle.std.proofs.Common.{◌≡◌, ◌∷◌, ◌++◌, [], OnOk, subst}
use Rattle.gw_script.specs.site.Drill.{payment_begins, payment_ends, payment_waits}
use Rattle.gw_script.specs.site.ScriptLine.{FromTill, Poll}
use Rattle.sim_script.specs.Drawn.{payment_value}
use Rattle.sim_script.specs.Values.{lines_value}
use Rattle.sim_script.proofs.DrillLemmas.{asked_lines, last_appended}
use Rattle.sim_script.proofs.drill_lines.push_payment.Goals as goal

pub returns : goal.returns
returns c =
    let payment = payment_value c.args.payment.now in
    let old = lines_value c.args.lines.now.items in
    let begun = lines_value c.push_begins.new.lines.items in
    let asked = lines_value c.push_event.new.lines.items in
    let ticked = lines_value c.push_ticks.new.lines.items in
    let new = lines_value c.push_ends.new.lines.items in
    let result = c.push_ends.result in
    let ask = Poll (FromTill c.paying_till.result c.in_ok-asked.asked.bytes) ∷ [] in
    let rest = payment_waits payment ++ payment_ends payment in
    let lines = asked_lines payment c.paying_till.result c.in_ok-asked.asked.bytes c.paying_till.ensures c.in_ok-asked.ensures in
    let two = last_appended result asked ticked new (payment_waits payment) (payment_ends payment) c.in_ok-push_ticks.ensures c.push_ends.ensures in
    let one = last_appended result begun asked new ask rest c.in_ok-push_event.ensures two in
    subst (λ these. OnOk result (new ≡ old ++ these)) lines (last_appended result old begun new (payment_begins payment) (ask ++ rest) c.in_ok-push_begins.ensures one)
