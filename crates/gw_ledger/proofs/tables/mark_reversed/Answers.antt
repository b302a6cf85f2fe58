-- Proof of the contract of `mark_reversed`.
use Rattle.std.proofs.Common.{◌∙◌, ◌<◌, ◌≤◌, length, set, sym, ap, arith}
use Rattle.gw_ledger.specs.Steps.{reversed_mark}
use Rattle.gw_ledger.proofs.MarkLemmas.{set_is_changed, past_is_changed}
use Rattle.gw_ledger.proofs.tables.mark_reversed.Goals as goal

pub returns-then-original-len-clause-marks : goal.returns-then-original-len-clause-marks
returns-then-original-len-clause-marks c =
    let inside : c.args.original < length c.args.marks.now.items = omega (arith, c.len.ensures, c.args.marks.now.ok.0, c.if-original-len.true) in
    ap (λ mark. set c.args.marks.now.items c.args.original (reversed_mark mark)) c.index_mut.ensures.value
    ∙ set_is_changed reversed_mark c.args.marks.now.items c.args.original c.index_mut.result.now inside

pub returns-else-original-len-clause-marks : goal.returns-else-original-len-clause-marks
returns-else-original-len-clause-marks c =
    let past : length c.args.marks.now.items ≤ c.args.original = omega (arith, c.len.ensures, c.args.marks.now.ok.0, c.if-original-len.false) in
    sym (past_is_changed reversed_mark c.args.marks.now.items c.args.original past)
