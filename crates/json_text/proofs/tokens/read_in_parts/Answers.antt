-- Proof of the contract of `read_in_parts`.
use Rattle.std.proofs.Common.{ℕ, List, [], string_bytes, sym, subst, arith}
use Rattle.json_text.specs.inner.ReaderProgress.{ReadTo, StringRead}
use Rattle.json_text.specs.inner.ReaderStates.{string_in}
use Rattle.json_text.specs.declared.fault.FaultKind.TheVariants as kinds
use Rattle.json_text.proofs.ProgressLemmas.{refused_at, refuse_end, handed_on}
use Rattle.json_text.proofs.TokenLemmas.{string_open}
use Rattle.json_text.proofs.tokens.read_in_parts.Goals as goal

pub returns-then-offset-bytes-clause-refused : goal.returns-then-offset-bytes-clause-refused
returns-then-offset-bytes-clause-refused c = record {
  refuses = λ role st r h. refused_at c.args.bytes.now _ c.take_plain.new.offset kinds.NotJson c.not_json.ensures
      (refuse_end c.args.bytes.now c.take_plain.new.offset (string_in role (string_bytes c.take_plain.new.text)) st (omega (arith, c.if-offset-bytes.true))
      (c.in_ok-take_plain.ensures.read.comes role st r (c.loop-text.invariant.reads.comes role st r h)) (string_open role (string_bytes c.take_plain.new.text) st));
}

pub returns-in_err-c-clause-refused : goal.returns-in_err-c-clause-refused
returns-in_err-c-clause-refused c =
    handed_on _ c.from_residual-in_err-c.result _ c.from_residual-in_err-c.ensures.1
    (record {
      refuses = λ role st r h. (c.in_err-c.ensures.refused.refuses (string_bytes c.take_plain.new.text)).refuses role st r (c.in_ok-take_plain.ensures.read.comes role st r (c.loop-text.invariant.reads.comes role st r h));
    })

pub loop-text-init : goal.loop-text-init
loop-text-init c = record {
  reads = subst (λ (text : List ℕ). StringRead c.args.bytes.now c.args.offset.now [] c.args.offset.now text) (sym c.in_ok-text.ensures.bytes) (record { comes = λ role st r h. h });
  forward = omega arith;
  fits = c.requires;
}

pub loop-text-preserved : goal.loop-text-preserved
loop-text-preserved c = record {
  reads = record {
    comes = λ role st r h. subst (λ (text : List ℕ). ReadTo c.args.bytes.now c.read_character.new.offset (string_in role text) st) (sym c.in_ok-push.ensures.bytes)
        ((c.in_ok-c.ensures.read.reads (string_bytes c.take_plain.new.text)).comes role st r (c.in_ok-take_plain.ensures.read.comes role st r (c.loop-text.invariant.reads.comes role st r h)));
  };
  forward = omega (arith, c.loop-text.invariant.forward, c.in_ok-take_plain.ensures.forward, c.in_ok-c.ensures.forward);
  fits = c.in_ok-c.ensures.within;
}

pub returns-then-bytes-offset-eq34-clause-read : goal.returns-then-bytes-offset-eq34-clause-read
returns-then-bytes-offset-eq34-clause-read c = record {
  comes = λ role st r h. subst (λ (text : List ℕ). ReadTo c.args.bytes.now c.take_plain.new.offset (string_in role text) st) (sym c.new.ensures)
      (c.in_ok-take_plain.ensures.read.comes role st r (c.loop-text.invariant.reads.comes role st r h));
}
