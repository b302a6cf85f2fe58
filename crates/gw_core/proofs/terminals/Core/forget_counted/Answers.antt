-- Proof of the contract of `forget_counted`.
use Rattle.std.proofs.Common.{◌≡◌, ap, sym, ◌∙◌, map, length, refl}
use Rattle.std.proofs.lemmas.List.{length-map}
use Rattle.std.proofs.lemmas.List.Edits.{map_over_more}
use Rattle.gw_owes.specs.Terminals.{asker_but, forgets_till}
use Rattle.gw_owes.specs.declared.terminal.Terminal.{Terminal}
use Rattle.gw_core.proofs.CoreLemmas.{all-mapped, forgotten-have-settings, written-back}
use Rattle.gw_core.proofs.terminals.Core.forget_counted.Goals as goal

pub loop-terminal-preserved : goal.loop-terminal-preserved
loop-terminal-preserved g c =
    let terminal : Terminal = c.terminal-item.result in
    let asker_is : c.asker_but-terminal.result ≡ asker_but c.args.till terminal.asker = c.asker_but-terminal.ensures ∙ ap (λ (t : Terminal). asker_but c.args.till t.asker) (sym c.terminal-item.is) in
    rw (← c.terminal-item.is, asker_is)
    (map_over_more (forgets_till c.args.till) c.deref_mut-terminal-items.result.now c.loop-terminal.terminal-items c.loop-terminal.terminal-index terminal c.loop-terminal-test.true c.loop-terminal.invariant c.terminal-item.is)

pub invariant_of-self : goal.invariant_of-self
invariant_of-self g c =
    let items = c.self.inside.terminals.items in
    let is : c.loop-terminal.terminal-items ≡ map (forgets_till c.args.till) items =
    all-mapped (forgets_till c.args.till) items c.deref_mut-terminal-items.result.now c.loop-terminal.terminal-items c.loop-terminal.terminal-index c.deref_mut-terminal-items.ensures.value c.loop-terminal-test.false c.loop-terminal.invariant in
    rw (written-back items c.loop-terminal.terminal-items c.self.inside.terminals.len (ap length is ∙ length-map items (forgets_till c.args.till)) (sym c.deref_mut-terminal-items.ensures.len ∙ ap length c.deref_mut-terminal-items.ensures.value), is)
    (rw length-map c.self.invariant.0, forgotten-have-settings items c.args.till c.self.invariant.1, c.self.invariant.2)

pub returns-clause-forgotten : goal.returns-clause-forgotten
returns-clause-forgotten g c =
    let items = c.self.inside.terminals.items in
    let is : c.loop-terminal.terminal-items ≡ map (forgets_till c.args.till) items =
    all-mapped (forgets_till c.args.till) items c.deref_mut-terminal-items.result.now c.loop-terminal.terminal-items c.loop-terminal.terminal-index c.deref_mut-terminal-items.ensures.value c.loop-terminal-test.false c.loop-terminal.invariant in
    rw (← c.self.view_is, c.forget.ensures.forgotten, written-back items c.loop-terminal.terminal-items c.self.inside.terminals.len (ap length is ∙ length-map items (forgets_till c.args.till)) (sym c.deref_mut-terminal-items.ensures.len ∙ ap length c.deref_mut-terminal-items.ensures.value), is) refl
