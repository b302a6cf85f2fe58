-- The bodies that are decoded are those of the open slots.
use Rattle.std.proofs.Common.{◌≡◌, ℕ, zero, suc, ◌+◌, ◌*◌, ◌≤◌, eqb, Bool, true, false, ◌&&◌, List, [], ◌∷◌, ◌++◌, length, refl, sym, ◌∙◌, ap, subst, arith, inl, inr, append_assoc, append-nil, eq-eqb}
use Rattle.std.specs.Prelude.{nat_lt, slice_index, Result, Ok, Err, IfOk}
use Rattle.std.proofs.lemmas.Bool.{cond-true, cond-false}
use Rattle.std.proofs.lemmas.Bool.Decides.{nat_tests}
use Rattle.jrn_log.specs.declared.fault.OpenFault.{OpenFault}
use Rattle.jrn_log.specs.declared.fault.OpenFault.TheVariants.{Disk, TooLong, Cut, Memory}
use Rattle.jrn_log.specs.Slots.{HasGate, AreSlots, IsFileTooLong, body_at}
use Rattle.jrn_log.specs.Opening.{IsExactlyTruncated}
use Rattle.jrn_log.specs.Decode.{has_gate, decode_from, decode_slots}
use Rattle.jrn_log.specs.inner.FileReader.{BeginsWithSlots, AreBodiesRead, IsFileFault, IsReadFault}
use Rattle.jrn_log.proofs.OpenLemmas.{fault_truncated, ok_not_truncated}
use Rattle.jrn_log.proofs.SlotLemmas.{begins_end, begins_more, begins_none, gate_cases, one_slots, past_closed, push_length}

both : (a b : Bool) → (a && b) ≡ true → (a ≡ true) × (b ≡ true)
both true true e = (refl, refl)
both true false e = cc
both false b e = cc

-- the test of a gate is the fact
open_test : (file : List ℕ) (slot : ℕ) → HasGate file slot → has_gate file slot ≡ true
open_test file slot gate =
    let some : nat_lt 1 (length file) ≡ true = let lt = gate.0 in grind (arith, nat_tests) in
    ap (λ b. b && eqb (slice_index file (256 * slot)) 165) some ∙ eq-eqb (slice_index file (256 * slot)) 165 gate.1

closed_test : (file : List ℕ) (slot : ℕ) → (HasGate file slot → ⊥) → has_gate file slot ≡ false
closed_test file slot closed = by_test (has_gate file slot) refl
  where
    by_test : (b : Bool) → has_gate file slot ≡ b → has_gate file slot ≡ false
    by_test false e = e
    by_test true e =
        let parts = both (nat_lt 1 (length file)) (eqb (slice_index file (256 * slot)) 165) e in
        let some : nat_lt 1 (length file) ≡ true = parts.0 in
        let gate : eqb (slice_index file (256 * slot)) 165 ≡ true = parts.1 in
        absurd (closed (grind (arith, nat_tests), grind (arith, nat_tests)))

-- after bodies with which a file begins, the others are decoded
decoded_after : (count : ℕ) (file : List ℕ) (bodies : List (List ℕ)) → length file ≤ 256 * length bodies + count → BeginsWithSlots file bodies
    → AreSlots file (bodies ++ decode_from count file (length bodies))
decoded_after zero file bodies le begins = rw append-nil (begins_end file bodies begins (past_closed file (length bodies) (omega arith)))
decoded_after (suc count) file bodies le begins = elim (gate_cases file (length bodies)) [
  | inl gate ↦
      let body = body_at file (length bodies) in
      let next : decode_from (suc count) file (length bodies) ≡ body ∷ decode_from count file (suc (length bodies)) = cond-true _ _ _ (open_test file (length bodies) gate) in
      let more = decoded_after count file (bodies ++ body ∷ []) (rw (push_length bodies body) (omega arith)) (begins_more file bodies body begins gate refl) in
      let len : length (bodies ++ body ∷ []) ≡ suc (length bodies) = push_length bodies body ∙ omega arith in
      let whole : (bodies ++ body ∷ []) ++ decode_from count file (length (bodies ++ body ∷ [])) ≡ bodies ++ decode_from (suc count) file (length bodies) =
      append_assoc bodies (body ∷ []) (decode_from count file (length (bodies ++ body ∷ [])))
      ∙ ap (λ n. bodies ++ body ∷ decode_from count file n) len ∙ ap (λ rest. bodies ++ rest) (sym next) in
      subst (AreSlots file) whole more
  | inr closed ↦
      let none : decode_from (suc count) file (length bodies) ≡ [] = cond-false _ _ _ (closed_test file (length bodies) closed) in
      subst (λ rest. AreSlots file (bodies ++ rest)) (sym none) (rw append-nil (begins_end file bodies begins closed))
]

pub decoded_are_slots : (file : List ℕ) → AreSlots file (decode_slots file)
decoded_are_slots file = decoded_after (length file) file [] (omega arith) (begins_none file)

-- the bodies of the open slots are those that are decoded
pub decoded_is : (file : List ℕ) (bodies : List (List ℕ)) → AreSlots file bodies → bodies ≡ decode_slots file
decoded_is file bodies slots = one_slots file bodies (decode_slots file) slots (decoded_are_slots file)

-- ---- what reading a file in memory returns

pub read_decoded : (file : List ℕ) (result : Result (List (List ℕ)) OpenFault) → AreBodiesRead file result → IfOk result (λ bodies. bodies ≡ decode_slots file)
read_decoded file (Ok bodies) read = decoded_is file bodies read.0
read_decoded file (Err fault) read = tt

pub read_truncated : (slots : ℕ) (file : List ℕ) (result : Result (List (List ℕ)) OpenFault) → (IsFileTooLong slots file → ⊥) → AreBodiesRead file result → IsExactlyTruncated slots file result
read_truncated slots file (Ok bodies) fits read = ok_not_truncated slots file bodies bodies (record { fits = fits; slots_are = read.0; gate = λ some. read.1 })
read_truncated slots file (Err fault) fits read = fault_truncated slots file fault (by_fault fault read)
  where
    by_fault : (fault : OpenFault) → IsReadFault file fault → IsFileFault slots file fault
    by_fault Disk read = tt
    by_fault (TooLong count) read = elim read [ ]
    by_fault (Cut slot) read = (fits, read)
    by_fault Memory read = tt
