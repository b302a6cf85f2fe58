-- Proof of the contract of `mark_ended`.
use Rattle.std.proofs.Common.{◌∙◌, ◌<◌, ℕ, Option, length, set, ap, arith}
use Rattle.gw_ledger.specs.Steps.{ended_mark}
use Rattle.gw_ledger.proofs.MarkLemmas.{set_is_changed}
use Rattle.gw_ledger.proofs.tables.mark_ended.Goals as goal

pub returns-clause-marks : goal.returns-clause-marks
returns-clause-marks c =
    let inside : c.args.slot < length c.args.marks.now.items = omega (arith, c.args.marks.now.ok.0, c.requires.inside) in
    ap (λ (ended : Option ℕ). set c.args.marks.now.items c.args.slot (record { ended = ended; reversed = c.index_mut.result.now.reversed })) c.at.ensures
    ∙ ap (λ mark. set c.args.marks.now.items c.args.slot (ended_mark c.args.at mark)) c.index_mut.ensures.value
    ∙ set_is_changed (ended_mark c.args.at) c.args.marks.now.items c.args.slot c.index_mut.result.now inside
