-- Proof of the contract of `read_limits`.
use Rattle.std.proofs.Common.{refl}
use Rattle.gw_config.proofs.ReadLemmas.{beyond, here, leaves, no_fault}
use Rattle.gw_config.proofs.document.read_limits.Goals as goal

pub returns-in_err-line : goal.returns-in_err-line
returns-in_err-line c = leaves c.from_residual.result _ _ c.in_err-line.field-0.0 c.from_residual.ensures.1 (here _ _ _ c.in_err-line.ensures.reads)

pub returns-in_err-wait : goal.returns-in_err-wait
returns-in_err-wait c = leaves c.from_residual-in_err-wait.result _ _ c.in_err-wait.field-0.0 c.from_residual-in_err-wait.ensures.1 (beyond _ _ _ c.in_ok-line.ensures.reads.sound (here _ _ _ c.in_err-wait.ensures.reads))

pub returns-in_err-slots : goal.returns-in_err-slots
returns-in_err-slots c = leaves c.from_residual-in_err-slots.result _ _ c.in_err-slots.field-0.0 c.from_residual-in_err-slots.ensures.1 (beyond _ _ _ c.in_ok-line.ensures.reads.sound (beyond _ _ _ c.in_ok-wait.ensures.reads.sound (here _ _ _ c.in_err-slots.ensures.reads)))

pub returns : goal.returns
returns c = (
  no_fault _ _ c.in_ok-line.ensures.reads.sound (no_fault _ _ c.in_ok-wait.ensures.reads.sound (no_fault _ _ c.in_ok-slots.ensures.reads.sound refl)),
  record {
    line = c.in_ok-line.ensures.reads.value;
    wait = c.in_ok-wait.ensures.reads.value;
    slots = c.in_ok-slots.ensures.reads.value;
  },
)
