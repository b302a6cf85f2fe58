-- `next` returns the object that the bytes left begin with, and goes on only past an object.
use Rattle.std.proofs.Common.{◌≡◌, ◌≢◌, ℕ, List, length, Some, None, Ok, Err, sym, ap, ◌∙◌, arith}
use Rattle.std.proofs.lemmas.Bool.{eqb-false}
use Rattle.zvt_tlv.specs.Grammar.{value_of}
use Rattle.zvt_tlv.specs.Decode.{decode_tlv_object}
use Rattle.zvt_tlv.specs.Reader.{TlvReaderValue, ReturnsTlvObject}
use Rattle.zvt_tlv.proofs.ResultLemmas.{whole_clause, fault_clause, fault_at, goes_on, no_longer_rest, reader_at}
use Rattle.zvt_tlv.proofs.tlv.Tlv.next.Goals as goal

failed : (old : TlvReaderValue) (offset : ℕ) (rest : List ℕ) → reader_at offset rest ≡ old → length rest ≢ 0 → decode_tlv_object rest ≡ None → ReturnsTlvObject (Err (fault_at offset)) old
failed old offset rest view_is some none = (
  ap (λ (p : TlvReaderValue). fault_at p.offset) view_is,
  (λ empty. some (ap length (ap (λ (p : TlvReaderValue). p.rest) view_is ∙ empty))),
  ap (λ (p : TlvReaderValue). decode_tlv_object p.rest) (sym view_is) ∙ none,
)

pub returns-in_default-clause-whole : goal.returns-in_default-clause-whole
returns-in_default-clause-whole c =
    let result_is = failed c.args.self.now c.self.inside.offset c.self.inside.rest.now c.self.view_is (eqb-false _ _ (sym c.if-is_empty.ensures)) c.in_default.ensures in
    whole_clause c.args.self.now (Err (fault_at c.self.inside.offset)) result_is

pub returns-in_default-clause-fault : goal.returns-in_default-clause-fault
returns-in_default-clause-fault c =
    let result_is = failed c.args.self.now c.self.inside.offset c.self.inside.rest.now c.self.view_is (eqb-false _ _ (sym c.if-is_empty.ensures)) c.in_default.ensures in
    fault_clause c.args.self.now (Err (fault_at c.self.inside.offset)) result_is

pub overflow_sub-self : goal.overflow_sub-self
overflow_sub-self c = no_longer_rest (reader_at c.self.inside.offset c.self.inside.rest.now) (value_of c.in-Some.object) c.in-Some.rest.now c.in-Some.ensures

pub invariant_of-self : goal.invariant_of-self
invariant_of-self c =
    let shorter = no_longer_rest (reader_at c.self.inside.offset c.self.inside.rest.now) (value_of c.in-Some.object) c.in-Some.rest.now c.in-Some.ensures in
    omega (arith, c.self.invariant)

pub returns-clause-whole : goal.returns-clause-whole
returns-clause-whole c =
    let found = ap (λ (p : TlvReaderValue). decode_tlv_object p.rest) (sym c.self.view_is) ∙ c.in-Some.ensures in
    whole_clause c.args.self.now (Ok (Some c.in-Some.object)) (c.in-Some.rest.now, found)

pub returns-clause-fault : goal.returns-clause-fault
returns-clause-fault c =
    let found = ap (λ (p : TlvReaderValue). decode_tlv_object p.rest) (sym c.self.view_is) ∙ c.in-Some.ensures in
    fault_clause c.args.self.now (Ok (Some c.in-Some.object)) (c.in-Some.rest.now, found)

pub returns-clause-computes : goal.returns-clause-computes
returns-clause-computes c = (c.in-Some.rest.now, ap (λ (p : TlvReaderValue). decode_tlv_object p.rest) (sym c.self.view_is) ∙ c.in-Some.ensures)

pub returns-clause-leaves : goal.returns-clause-leaves
returns-clause-leaves c = goes_on c.args.self.now c.self.inside.offset c.self.inside.rest.now (value_of c.in-Some.object) c.in-Some.rest.now c.self.view_is c.in-Some.ensures
