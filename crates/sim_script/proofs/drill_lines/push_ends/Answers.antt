-- Proof of the contract of `push_ends`.
use Rattle.std.proofs.Common.{◌≡◌, ◌∷◌, ◌++◌, [], OnOk, refl, subst}
use Rattle.gw_script.specs.site.Drill.{payment_ends}
use Rattle.gw_script.specs.site.ScriptLine.{Open, Close, FromTill, Poll}
use Rattle.sim_script.specs.Drawn.{payment_value}
use Rattle.sim_script.specs.Values.{lines_value}
use Rattle.sim_script.proofs.DrillLemmas.{last_appended}
use Rattle.sim_script.proofs.drill_lines.push_ends.Goals as goal

pub returns : goal.returns
returns c =
    let old = lines_value c.args.lines.now.items in
    let first = lines_value c.push_event.new.lines.items in
    let second = lines_value c.push_event-2.new.lines.items in
    let third = lines_value c.push_event-3.new.lines.items in
    let new = lines_value c.push_event-4.new.lines.items in
    let result = c.push_event-4.result in
    let a = Poll (Open c.asking_till.result) ∷ [] in
    let b = Poll (FromTill c.asking_till-2.result c.in_ok-status.status.bytes) ∷ [] in
    let d = Poll (Close c.asking_till-3.result) ∷ [] in
    let e = Poll (Close c.paying_till.result) ∷ [] in
    let ends : (a ++ (b ++ (d ++ e))) ≡ payment_ends (payment_value c.args.payment.now) = rw (c.asking_till.ensures, c.asking_till-2.ensures, c.asking_till-3.ensures, c.paying_till.ensures, c.in_ok-status.ensures) refl in
    let three = last_appended result second third new d e c.in_ok-push_event-3.ensures c.push_event-4.ensures in
    let two = last_appended result first second new b (d ++ e) c.in_ok-push_event-2.ensures three in
    subst (λ lines. OnOk result (new ≡ old ++ lines)) ends (last_appended result old first new a (b ++ (d ++ e)) c.in_ok-push_event.ensures two)
