-- Proof of the contract of `read`.
use Rattle.std.proofs.Common.{[], refl, arith}
use Rattle.json_text.specs.ValueOf.{value_of}
use Rattle.json_text.specs.inner.ReaderStates.{after}
use Rattle.json_text.specs.declared.fault.FaultKind.TheVariants as kinds
use Rattle.json_text.proofs.ProgressLemmas.{begin, refused_at, handed_on, whole_spells, whole_only}
use Rattle.json_text.proofs.TokenLemmas.{after_between}
use Rattle.json_text.proofs.NestingLemmas.{no_end}
use Rattle.json_text.proofs.reader.read.Goals as goal

pub returns-in_err-json-clause-fault : goal.returns-in_err-json-clause-fault
returns-in_err-json-clause-fault c = handed_on _ c.from_residual.result _ c.from_residual.ensures.1 (c.in_err-json.ensures.refused.refuses [] refl (begin c.args.bytes.now))

pub returns-then-offset-bytes-clause-fault : goal.returns-then-offset-bytes-clause-fault
returns-then-offset-bytes-clause-fault c =
    let x = value_of c.in_ok-json.json in
    refused_at c.args.bytes.now _ c.skip_white.new.offset kinds.NotJson c.not_json.ensures
    (no_end c.args.bytes.now c.skip_white.new.offset _ x c.if-offset-bytes.true refl (c.skip_white.ensures.not_space c.if-offset-bytes.true) (c.skip_white.ensures.stays.comes (after x) [] (after_between x) (c.in_ok-json.ensures.read.comes [] refl (begin c.args.bytes.now))))

pub returns-clause-spelled : goal.returns-clause-spelled
returns-clause-spelled c =
    let x = value_of c.in_ok-json.json in
    whole_spells c.args.bytes.now c.skip_white.new.offset x (omega (arith, c.if-offset-bytes.false)) (c.skip_white.ensures.stays.comes (after x) [] (after_between x) (c.in_ok-json.ensures.read.comes [] refl (begin c.args.bytes.now)))

pub returns-clause-only : goal.returns-clause-only
returns-clause-only c =
    let x = value_of c.in_ok-json.json in
    λ v. whole_only c.args.bytes.now c.skip_white.new.offset x (omega (arith, c.if-offset-bytes.false)) (c.skip_white.ensures.stays.comes (after x) [] (after_between x) (c.in_ok-json.ensures.read.comes [] refl (begin c.args.bytes.now))) v
