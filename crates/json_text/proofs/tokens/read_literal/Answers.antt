-- Proof of the contract of `read_literal`.
use Rattle.std.proofs.Common.{◌≡◌, ◌≢◌, ◌<◌, List, ℕ, length, get_or, refl, subst, arith}
use Rattle.json_text.specs.inner.ReaderStates.{literal_text}
use Rattle.json_text.specs.declared.fault.FaultKind.TheVariants as kinds
use Rattle.json_text.proofs.ProgressLemmas.{refused_at, refuse_end}
use Rattle.json_text.proofs.TokenLemmas.{letter_read, wrong_letter, literal_open}
use Rattle.json_text.proofs.tokens.read_literal.Goals.{then-offset-bytes-via-then-offset-bytes, then-offset-bytes-via-else-offset-bytes+then-bytes-offset}
use Rattle.json_text.proofs.tokens.read_literal.Goals as goal

pub returns-then-offset-bytes-clause-refused : goal.returns-then-offset-bytes-clause-refused
returns-then-offset-bytes-clause-refused c =
    let less : c.loop-read.read < length (literal_text c.args.wanted) = subst (λ (t : List ℕ). c.loop-read.read < length t) c.text-text.ensures c.loop-read-test.true in
    record {
      refuses = λ st h. refused_at c.args.bytes.now _ c.loop-read.offset kinds.NotJson c.not_json.ensures
          (elim c.then-offset-bytes.branch [
            | then-offset-bytes-via-then-offset-bytes w ↦ refuse_end c.args.bytes.now c.loop-read.offset _ st (omega (arith, w.if-offset-bytes.true)) (c.loop-read.invariant.takes.comes st h) (literal_open c.loop-read.read c.args.wanted st less)
            | then-offset-bytes-via-else-offset-bytes+then-bytes-offset w ↦
                wrong_letter c.args.bytes.now c.loop-read.offset _ c.loop-read.read c.args.wanted st (omega (arith, w.if-offset-bytes.false)) refl less
                (subst (λ (t : List ℕ). get_or c.args.bytes.now c.loop-read.offset 0 ≢ get_or t c.loop-read.read 0) c.text-text.ensures w.if-bytes-offset.true) (c.loop-read.invariant.takes.comes st h)
          ]);
    }

pub loop-read-preserved : goal.loop-read-preserved
loop-read-preserved c =
    let less : c.loop-read.read < length (literal_text c.args.wanted) = subst (λ (t : List ℕ). c.loop-read.read < length t) c.text-text.ensures c.loop-read-test.true in
    record {
      takes = record {
        comes = λ st h. letter_read c.args.bytes.now c.loop-read.offset _ c.loop-read.read c.args.wanted st (omega (arith, c.if-offset-bytes.false)) refl less
            (subst (λ (t : List ℕ). get_or c.args.bytes.now c.loop-read.offset 0 ≡ get_or t c.loop-read.read 0) c.text-text.ensures c.if-bytes-offset.false) (c.loop-read.invariant.takes.comes st h);
      };
      forward = omega (arith, c.loop-read.invariant.forward);
    }
