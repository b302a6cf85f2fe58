-- Proof of the contract of `append_text`.
use Rattle.std.proofs.Common.{◌∙◌}
use Rattle.json_text.specs.Canonical.{AppendsPrefix, canonical_string}
use Rattle.json_text.proofs.PrefixLemmas.{prefix_at, unchanged, on_err, byte_written, text_closed}
use Rattle.json_text.proofs.WrittenLemmas.{last_appended}
use Rattle.json_text.proofs.writer.append_text.Goals as goal

pub returns-in_err-write_byte-clause-err : goal.returns-in_err-write_byte-clause-err
returns-in_err-write_byte-clause-err c =
    on_err c.from_residual-in_err-write_byte.result _
    (prefix_at c.args.text.now c.args.out.now.items c.write_byte.new.out.items c.loop-byte.byte-index
    (c.in_err-write_byte.ensures.err ∙ c.loop-byte.invariant))

pub returns-clause-err : goal.returns-clause-err
returns-clause-err c =
    unchanged c.extend_from_slice-2.result c.extend_from_slice-2.new.self.items c.loop-byte.out.items _
    (AppendsPrefix (canonical_string c.args.text.now) c.args.out.now.items) c.extend_from_slice-2.ensures.items
    (prefix_at c.args.text.now c.args.out.now.items c.loop-byte.out.items c.loop-byte.byte-index c.loop-byte.invariant)

pub loop-byte-init : goal.loop-byte-init
loop-byte-init c = c.in_ok-extend_from_slice.ensures.items

pub loop-byte-preserved : goal.loop-byte-preserved
loop-byte-preserved c = byte_written c.args.text.now c.args.out.now.items c.loop-byte.out.items c.write_byte.new.out.items c.loop-byte.byte-index c.loop-byte-test.true c.loop-byte.invariant c.in_ok-write_byte.ensures.ok

pub returns-clause-ok : goal.returns-clause-ok
returns-clause-ok c =
    last_appended c.extend_from_slice-2.result c.loop-byte.out.items _ _ _
    (text_closed c.args.text.now c.args.out.now.items c.loop-byte.out.items c.loop-byte.byte-index c.loop-byte-test.false c.loop-byte.invariant) c.extend_from_slice-2.ensures.items
