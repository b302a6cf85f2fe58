-- Each field that is read leaves the rest to be read; after the last one all are known.
use Rattle.std.proofs.Common.{◌-◌, length, Ok, sym, ap, ◌∙◌, arith}
use Rattle.std.proofs.lemmas.Result.{err_from_is_err_and}
use Rattle.zvt_bmp.specs.Decode.{with_tail}
use Rattle.zvt_bmp.proofs.DecodeLemmas.{goes_on, ends_there, fails_there, all_within}
use Rattle.zvt_bmp.proofs.fields.read_all.Goals as goal

pub loop-after-init : goal.loop-after-init
loop-after-init c = record { within = omega arith; same = rw c.no_fields_yet-so_far.ensures (all_within c.args.bytes.now); digits = rw c.no_fields_yet-so_far.ensures (record { amount = tt; trace = tt; receipt = tt }) }

pub returns-in_err-after-clause-computes : goal.returns-in_err-after-clause-computes
returns-in_err-after-clause-computes c =
    let p = err_from_is_err_and c.from_residual.result c.from_residual.ensures.1 in
    let fails = fails_there (length c.args.bytes.now) c.loop-after.so_far c.loop-after.rest.now c.in_err-after.field-0.0 c.in_err-after.ensures.field in
    rw (p.1, p.2) (sym fails ∙ c.loop-after.invariant.same)

pub loop-after-preserved : goal.loop-after-preserved
loop-after-preserved c =
    let field = rw c.in-Some.is at c.in_ok-after.ensures.field in
    let shorter = rw c.in-Some.is at c.in_ok-after.ensures.shorter in
    record {
      within = omega (arith, shorter, c.loop-after.invariant.within);
      same = sym (goes_on (length c.args.bytes.now) c.loop-after.so_far c.loop-after.rest.now c.read_field.new.self c.in-Some.after.now field) ∙ c.loop-after.invariant.same;
      digits = c.read_field.ensures.digits c.loop-after.invariant.digits;
    }

pub returns-clause-digits : goal.returns-clause-digits
returns-clause-digits c =
    let digits = c.read_field.ensures.digits c.loop-after.invariant.digits in
    record { amount = digits.amount; trace = digits.trace; receipt = digits.receipt }

pub returns-clause-computes : goal.returns-clause-computes
returns-clause-computes c =
    let field = rw c.in_default.is at c.in_ok-after.ensures.field in
    let ends = ends_there (length c.args.bytes.now) c.loop-after.so_far c.loop-after.rest.now field.1 in
    ap (λ s. Ok (with_tail s (length c.args.bytes.now - length c.loop-after.rest.now))) field.0 ∙ sym ends ∙ c.loop-after.invariant.same
