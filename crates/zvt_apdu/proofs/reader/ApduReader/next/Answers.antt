-- `next` returns the APDU that the waiting bytes begin with, and then it is no longer among them.
use Rattle.std.proofs.Common.{◌≡◌, ℕ, ◌+◌, ◌-◌, ◌≤◌, List, ◌++◌, length, take, drop, Some, None, Ok, Err, refl, sym, ap, subst, ◌∙◌, arith}
use Rattle.std.proofs.lemmas.List.{take_rest, length-drop, length-append, drop_at, drop-drop}
use Rattle.std.proofs.lemmas.Result.{err_from_is_err_and}
use Rattle.gw_bytes.specs.Bytes.{AreBytes}
use Rattle.zvt_apdu.specs.Grammar.{value_of}
use Rattle.zvt_apdu.specs.Decode.{DecodedApdu, decode_apdu}
use Rattle.zvt_apdu.specs.inner.FirstApdu.{ReturnsFirstApdu}
use Rattle.zvt_apdu.specs.Results.{ReturnsApdu, LeavesBytes}
use Rattle.zvt_apdu.proofs.DecodeLemmas.{whole_begins, prefix_incomplete}
use Rattle.zvt_apdu.proofs.ResultLemmas.{fault_results, fault_leaves, clauses}
use Rattle.zvt_apdu.proofs.reader.ApduReader.next.Goals as goal

-- `&bytes[start..]` is what the reader's model says
abbrev Remaining : List ℕ → ℕ → List ℕ
Remaining all start = take (length all - start) (drop start all)

is_value : (all buffer value : List ℕ) (start : ℕ) → buffer ≡ all → drop start all ≡ value → Remaining buffer start ≡ value
is_value all buffer value start e view_is = rw e (take_rest all start ∙ view_is)

-- what is left after the APDU that was found is the end of what was read
tail : (all value prefix rest : List ℕ) (start len : ℕ) → drop start all ≡ value → value ≡ prefix ++ rest → length all ≡ len → start ≤ len → drop (len - length rest) all ≡ rest
tail all value prefix rest start len view_is parts size within =
    let whole : length (drop start all) ≡ length prefix + length rest = ap length (view_is ∙ parts) ∙ length-append prefix rest in
    let offset : len - length rest ≡ start + length prefix = omega (arith, length-drop start all) in
    ap (λ (k : ℕ). drop k all) offset ∙ sym (drop-drop (length prefix) start all) ∙ ap (drop (length prefix)) (view_is ∙ parts) ∙ drop_at prefix rest (length prefix) refl

pub returns-in_err-apdu : goal.returns-in_err-apdu
returns-in_err-apdu c =
    let bytes = c.args.self.now in
    let same = is_value c.self.inside.bytes.items c.deref.result.now bytes c.self.inside.start c.deref.ensures.value c.self.view_is in
    let bounds : AreBytes bytes = subst AreBytes same c.first_apdu.ensures.bytes in
    let p = err_from_is_err_and c.from_residual.result c.from_residual.ensures.1 in
    let found : ReturnsFirstApdu (Err c.in_err-apdu.field-0.0) (decode_apdu bytes) = subst (λ (b : List ℕ). ReturnsFirstApdu (Err c.in_err-apdu.field-0.0) (decode_apdu b)) same c.in_err-apdu.ensures.computes in
    let returned : ReturnsApdu c.from_residual.result (decode_apdu bytes) = fault_results c.in_err-apdu.field-0.0 (decode_apdu bytes) c.from_residual.result (p.1 ∙ ap (λ e. Err e) p.2) found in
    let leaves = fault_leaves bytes c.from_residual.result p.0 bounds p.1 returned in
    ((refl, (λ _. tt), subst (λ (new : List ℕ). LeavesBytes bytes c.from_residual.result new) (sym c.self.view_is) leaves), clauses bytes c.from_residual.result bounds returned)

pub returns-in_default : goal.returns-in_default
returns-in_default c =
    let bytes = c.args.self.now in
    let same = is_value c.self.inside.bytes.items c.deref.result.now bytes c.self.inside.start c.deref.ensures.value c.self.view_is in
    let bounds : AreBytes bytes = subst AreBytes same c.first_apdu.ensures.bytes in
    let found : decode_apdu bytes ≡ DecodedApdu.Incomplete = rw (← same) (rw c.in_default.is at c.in_ok-apdu.ensures.computes) in
    ((refl, (λ _. tt), (prefix_incomplete bytes bounds found, c.self.view_is)), clauses bytes (Ok None) bounds found)

pub overflow_sub-self : goal.overflow_sub-self
overflow_sub-self c =
    let bytes = c.args.self.now in
    let same = is_value c.self.inside.bytes.items c.deref.result.now bytes c.self.inside.start c.deref.ensures.value c.self.view_is in
    let bounds : AreBytes bytes = subst AreBytes same c.first_apdu.ensures.bytes in
    let found : decode_apdu bytes ≡ DecodedApdu.Whole (value_of c.in-Some.apdu) c.in-Some.rest.now = rw (← same) (rw c.in-Some.is at c.in_ok-apdu.ensures.computes) in
    let begins = whole_begins bytes (value_of c.in-Some.apdu) c.in-Some.rest.now bounds found in
    omega (arith, ap length begins.2, length-append begins.0 c.in-Some.rest.now, ap length c.self.view_is, length-drop c.self.inside.start c.self.inside.bytes.items, c.deref.ensures.len, ap length c.deref.ensures.value)

pub returns : goal.returns
returns c =
    let bytes = c.args.self.now in
    let same = is_value c.self.inside.bytes.items c.deref.result.now bytes c.self.inside.start c.deref.ensures.value c.self.view_is in
    let bounds : AreBytes bytes = subst AreBytes same c.first_apdu.ensures.bytes in
    let found : decode_apdu bytes ≡ DecodedApdu.Whole (value_of c.in-Some.apdu) c.in-Some.rest.now = rw (← same) (rw c.in-Some.is at c.in_ok-apdu.ensures.computes) in
    let begins = whole_begins bytes (value_of c.in-Some.apdu) c.in-Some.rest.now bounds found in
    let size : length c.self.inside.bytes.items ≡ c.len.result = omega (arith, c.deref.ensures.len, ap length c.deref.ensures.value) in
    let left = tail c.self.inside.bytes.items bytes begins.0 c.in-Some.rest.now c.self.inside.start c.len.result c.self.view_is begins.2 size (omega arith) in
    ((refl, (λ _. tt), (begins.0, begins.1, rw left begins.2)), clauses bytes (Ok (Some c.in-Some.apdu)) bounds (c.in-Some.rest.now, found))
