-- Proof of the contract of `read_lines`.
use Rattle.std.proofs.Common.{◌<◌, length, sym, ap, ◌∙◌, arith}
use Rattle.std.proofs.lemmas.Bool.{eqb-true, eqb-false}
use Rattle.zvt_msg.specs.CommandDecode.{decode_display_lines}
use Rattle.zvt_msg.proofs.DisplayLemmas.{all_begin, all_full, all_misnumbered, ends_there, goes_on}
use Rattle.zvt_msg.proofs.display_reading.read_lines.Goals as goal
use Rattle.zvt_msg.proofs.display_reading.read_lines.Goals.{then-is_full-via-then-is_full, then-is_full-via-else-is_full+then-number-len}

pub loop-rest-init : goal.loop-rest-init
loop-rest-init c = record { few = omega (arith, ap length c.new-lines.ensures); same = all_begin c.new-lines.result.items c.args.bytes.now c.new-lines.ensures }

pub returns-then-is_full : goal.returns-then-is_full
unfolding decode_display_lines
returns-then-is_full c =
    sym c.loop-rest.invariant.same ∙ (elim c.then-is_full.branch [
      | then-is_full-via-then-is_full w ↦ all_full c.loop-rest.lines.items c.loop-rest.rest.now (eqb-true _ _ (sym c.is_full.ensures.value ∙ w.if-is_full.true)) c.in-len1-up.len_at_least
      | then-is_full-via-else-is_full+then-number-len w ↦
          let other = eqb-false _ _ (sym c.is_full.ensures.value ∙ w.if-is_full.false) in
          all_misnumbered c.loop-rest.lines.items c.loop-rest.rest.now (omega (arith, other, c.loop-rest.invariant.few)) c.in-len1-up.len_at_least (λ is. w.if-number-len.true (is ∙ omega (arith, w.len.ensures.value)))
    ])

pub returns-in_err-line : goal.returns-in_err-line
unfolding decode_display_lines
returns-in_err-line c =
    let other = eqb-false _ _ (sym c.is_full.ensures.value ∙ c.if-is_full.false) in
    rw c.from_residual.ensures (
    sym c.loop-rest.invariant.same
    ∙ ends_there c.loop-rest.lines.items c.loop-rest.rest.now (omega (arith, other, c.loop-rest.invariant.few)) c.in-len1-up.len_at_least (omega (arith, c.if-number-len.false, c.len.ensures.value)) c.in_err-line.ensures.line
    )

pub loop-rest-preserved : goal.loop-rest-preserved
loop-rest-preserved c =
    let other = eqb-false _ _ (sym c.is_full.ensures.value ∙ c.if-is_full.false) in
    let room : length c.loop-rest.lines.items < 8 = omega (arith, other, c.loop-rest.invariant.few) in
    record {
      few = omega (arith, c.push.ensures.len, room);
      same = goes_on c.loop-rest.lines.items c.push.new.self.items c.loop-rest.rest.now c.in_ok-line.line c.in_ok-line.after.now room c.in-len1-up.len_at_least (omega (arith, c.if-number-len.false, c.len.ensures.value)) c.push.ensures.items c.in_ok-line.ensures.line ∙ c.loop-rest.invariant.same;
    }
