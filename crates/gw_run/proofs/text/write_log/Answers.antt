-- Proof of the contract of `write_log`.
use Rattle.std.proofs.Common.{◌+◌, arith, ◌<◌, length}
use Rattle.std.specs.Prelude.{string_bytes}
use Rattle.gw_run.proofs.TextLemmas.{gathered_more, gathered_written, written_whole, written_prefix, written_part}
use Rattle.gw_run.proofs.text.write_log.Goals as goal
use Rattle.gw_run.proofs.text.write_log.Goals.{then-len-ge-CHUNK+in_ok-write, else-len-ge-CHUNK}

pub returns-in_err-push_line-clause-written : goal.returns-in_err-push_line-clause-written
returns-in_err-push_line-clause-written g c =
    written_prefix c.args.log.now c.loop-turn.turn-index _ _ _ c.from_residual.result c.from_residual.ensures.1 c.loop-turn.invariant.gathered

pub returns-in_err-write-clause-written : goal.returns-in_err-write-clause-written
returns-in_err-write-clause-written g c =
    let log = c.args.log.now in
    let index = c.loop-turn.turn-index in
    let lt : index < length log = omega arith in
    let gathered = gathered_more log index c.turn-item.result _ (string_bytes c.push_line.new.lines) _ _ lt c.turn-item.is c.in_ok-push_line.ensures c.loop-turn.invariant.gathered in
    written_part log (index + 1) _ _ _ _ c.from_residual-in_err-write.result c.from_residual-in_err-write.ensures.1 gathered (rw c.as_bytes.ensures.value at c.in_err-write.ensures.bytes)

pub loop-turn-preserved : goal.loop-turn-preserved
loop-turn-preserved g c =
    let log = c.args.log.now in
    let index = c.loop-turn.turn-index in
    let lt : index < length log = omega arith in
    let gathered = gathered_more log index c.turn-item.result _ (string_bytes c.push_line.new.lines) _ _ lt c.turn-item.is c.in_ok-push_line.ensures c.loop-turn.invariant.gathered in
    record {
      gathered = elim c.if-len-ge-CHUNK.branch [
        | then-len-ge-CHUNK+in_ok-write w ↦ rw (w.out-is, w.lines-is, w.clear.ensures.bytes) (gathered_written log (index + 1) _ _ _ _ gathered (rw w.as_bytes.ensures.value at w.in_ok-write.ensures.bytes))
        | else-len-ge-CHUNK w ↦ rw (w.out-is, w.lines-is) gathered
      ];
      later = elim c.if-len-ge-CHUNK.branch [
        | then-len-ge-CHUNK+in_ok-write w ↦ rw w.out-is (omega (arith, w.in_ok-write.ensures.cause.later))
        | else-len-ge-CHUNK w ↦ rw w.out-is c.loop-turn.invariant.later
      ];
    }

pub returns-in_err-write-2-clause-written : goal.returns-in_err-write-2-clause-written
returns-in_err-write-2-clause-written g c =
    written_part c.args.log.now c.loop-turn.turn-index _ _ _ _ c.from_residual-in_err-write-2.result c.from_residual-in_err-write-2.ensures.1 c.loop-turn.invariant.gathered
    (rw c.as_bytes-2.ensures.value at c.in_err-write-2.ensures.bytes)

pub returns-clause-written : goal.returns-clause-written
returns-clause-written g c =
    written_whole c.args.log.now c.loop-turn.turn-index _ _ (omega arith)
    (gathered_written c.args.log.now c.loop-turn.turn-index _ _ _ _ c.loop-turn.invariant.gathered (rw c.as_bytes-2.ensures.value at c.in_ok-write-2.ensures.bytes))
