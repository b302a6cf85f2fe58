-- `serve_all` serves the requests that wait whole, one after another.
use Rattle.std.proofs.Common.{◌≡◌, ℕ, length, List, Ok, Err, sym, ap, subst, ◌∙◌, arith}
use Rattle.zvt_apdu.specs.Grammar.{value_of, BeginsWithApdu}
use Rattle.zvt_apdu.specs.Decode.{DecodedApdu, decode_apdu}
use Rattle.zvt_apdu.specs.DecodeStream.{DecodedApdus}
use Rattle.zvt_apdu.specs.Results.{ReturnsApdu, LeavesBytes}
use Rattle.pt_core.specs.inner.Results.{account_value}
use Rattle.pt_core.proofs.PrefixLemmas.{begins_at_prefix}
use Rattle.pt_core.proofs.SplitLemmas.{Laws}
use Rattle.pt_core.proofs.ProgressLemmas.{bad_by, cut_at, one_more}
use Rattle.pt_core.proofs.account.Account.serve_all.Goals as goal

pub returns-then-serve-clause-bytes : goal.returns-then-serve-clause-bytes
returns-then-serve-clause-bytes c =
    let laws : Laws = record { whole = c.law_decode_apdus.ensures.whole; incomplete = c.law_decode_apdus.ensures.incomplete; too_long = c.law_decode_apdus.ensures.too_long } in
    let prefix : (rest : List ℕ) × (decode_apdu c.requests.reader ≡ DecodedApdu.Whole (value_of c.in-Ok-Some.apdu) rest) =
    subst (λ r. ReturnsApdu r (decode_apdu c.requests.reader)) (c.in-Ok-Some.is ∙ ap Ok c.in-Ok-Some.field-0-is) c.next.ensures.computes in
    (cut_at laws (account_value c.args.self.now) c.args.reader.now c.args.out.now.items (account_value c.requests.self) c.requests.reader c.requests.out.items (value_of c.in-Ok-Some.apdu) prefix.0 c.serve.new.out.items
    c.requests.invariant.0 prefix.1 (sym c.serve.ensures.cut ∙ c.if-serve.true) c.serve.ensures.bytes).out_is

pub requests-preserved : goal.requests-preserved
requests-preserved c =
    let laws : Laws = record { whole = c.law_decode_apdus.ensures.whole; incomplete = c.law_decode_apdus.ensures.incomplete; too_long = c.law_decode_apdus.ensures.too_long } in
    let begins : BeginsWithApdu c.requests.reader (value_of c.in-Ok-Some.apdu) c.next.follows.lender-at-none =
    subst (λ r. LeavesBytes c.requests.reader r c.next.follows.lender-at-none) (c.in-Ok-Some.is ∙ ap Ok c.in-Ok-Some.field-0-is) c.next.follows.holds-at-none in
    let prefix = begins_at_prefix c.requests.reader (value_of c.in-Ok-Some.apdu) c.next.follows.lender-at-none begins in
    let fewer = ap (λ (s : DecodedApdus). length s.apdus) (laws.whole c.requests.reader (value_of c.in-Ok-Some.apdu) c.next.follows.lender-at-none prefix) in (
      one_more laws (account_value c.args.self.now) c.args.reader.now c.args.out.now.items (account_value c.requests.self) c.requests.reader c.requests.out.items (value_of c.in-Ok-Some.apdu) c.next.follows.lender-at-none c.serve.new.out.items
          c.requests.invariant.0 prefix (sym c.serve.ensures.cut ∙ c.if-serve.false) c.serve.ensures.bytes c.serve.ensures.account,
      omega (arith, fewer, c.requests.invariant.1, c.serve.ensures.sent_len),
      omega (arith, c.requests.invariant.2, c.serve.ensures.sent_capacity),
      omega (arith, fewer, c.requests.invariant.3, c.serve.ensures.book_len),
      omega (arith, c.requests.invariant.4, c.serve.ensures.book_capacity),
      c.serve.ensures.none ∙ c.requests.invariant.5,
      c.serve.ensures.plays ∙ c.requests.invariant.6,
    )

pub returns-in-Err-clause-bytes : goal.returns-in-Err-clause-bytes
returns-in-Err-clause-bytes c =
    let laws : Laws = record { whole = c.law_decode_apdus.ensures.whole; incomplete = c.law_decode_apdus.ensures.incomplete; too_long = c.law_decode_apdus.ensures.too_long } in
    let bad : ReturnsApdu (Err c.in-Err.field-0) (decode_apdu c.requests.reader) = c.in-Err.ensures.computes in
    (bad_by laws (account_value c.args.self.now) c.args.reader.now c.args.out.now.items (account_value c.requests.self) c.requests.reader c.requests.out.items c.in-Err.field-0 c.requests.invariant.0 bad).out_is

pub returns-in-Err-clause-cut : goal.returns-in-Err-clause-cut
returns-in-Err-clause-cut c =
    let laws : Laws = record { whole = c.law_decode_apdus.ensures.whole; incomplete = c.law_decode_apdus.ensures.incomplete; too_long = c.law_decode_apdus.ensures.too_long } in
    let bad : ReturnsApdu (Err c.in-Err.field-0) (decode_apdu c.requests.reader) = c.in-Err.ensures.computes in
    (bad_by laws (account_value c.args.self.now) c.args.reader.now c.args.out.now.items (account_value c.requests.self) c.requests.reader c.requests.out.items c.in-Err.field-0 c.requests.invariant.0 bad).cut_is
