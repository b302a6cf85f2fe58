-- A call of `next` returns exactly what the bytes that wait say.
use Rattle.std.proofs.Common.{◌≡◌, ℕ, List, ◌+◌, ◌-◌, ◌++◌, length, take, drop, refl, sym, ◌∙◌, subst, ap, arith, length-drop, Option, Some, None, Result, Ok, Err, Bor}
use Rattle.std.proofs.Math.Seq.{take-length}
use Rattle.std.proofs.lemmas.List.{drop-drop}
use Rattle.std.specs.Prelude.{◌↔◌}
use Rattle.sale_frame.specs.Grammar.{frame, BeginsWithPayload, IsIncompleteFrame, BeginsWithBadLength}
use Rattle.gw_bytes.specs.Chunks.{Gave}
use Rattle.sale_frame.specs.Steps.{IsFrameFault, TakesFrame, frame_step, GivesPayload, ReadsFrame}
use Rattle.sale_frame.specs.declared.fault.FrameFault.{FrameFault}
use Rattle.sale_frame.specs.declared.fault.FrameFault.TheVariants.{Zero, TooLong}
use Rattle.sale_frame.proofs.FrameLemmas.{one_length, one_payload, incomplete_has_no_payload, bad_has_no_payload, bad_is_no_prefix, after_payload}

pub fault_is_bad : (waiting : List ℕ) (fault : FrameFault) → IsFrameFault waiting fault → BeginsWithBadLength waiting
fault_is_bad waiting Zero h = (0, h, λ possible. omega arith)
fault_is_bad waiting (TooLong n) h = (n, h.0, λ possible. omega arith)

pub one_fault : (waiting : List ℕ) (a b : FrameFault) → IsFrameFault waiting a → IsFrameFault waiting b → a ≡ b
one_fault waiting Zero Zero p q = refl
one_fault waiting Zero (TooLong n) p q = absurd (omega (arith, one_length waiting 0 n p q.0))
one_fault waiting (TooLong n) Zero p q = absurd (omega (arith, one_length waiting n 0 p.0 q))
one_fault waiting (TooLong m) (TooLong n) p q = ap TooLong (one_length waiting m n p.0 q.0)

-- the slice from the start on is what waits
pub all_waiting : (buffer all : List ℕ) (start : ℕ) → buffer ≡ all → take (length buffer - start) (drop start buffer) ≡ drop start all
all_waiting buffer all start same =
    ap (λ k. take k (drop start buffer)) (sym (length-drop start buffer)) ∙ take-length (drop start buffer) ∙ ap (drop start) same

-- what waits once the reader's start is after the payload
pub gives : (all : List ℕ) (start : ℕ) (found : Option (Bor (List ℕ))) → ReadsFrame (drop start all) (Ok found) → (payload : Bor (List ℕ)) → found ≡ Some payload
    → TakesFrame (drop start all) (frame_step (Ok found)) (drop (start + (4 + length payload.now)) all)
gives all start (Some m) begins payload is =
    let same : m ≡ payload = cc in
    let left : drop (start + (4 + length m.now)) all ≡ begins.1 = sym (drop-drop (4 + length m.now) start all) ∙ after_payload (drop start all) m.now begins in
    subst (λ (k : Bor (List ℕ)). TakesFrame (drop start all) (Gave m.now) (drop (start + (4 + length k.now)) all)) same
    (begins.0, begins.2 ∙ ap (λ rest. frame m.now ++ rest) (sym left))
gives all start None incomplete payload is = cc

-- and where there is none
pub none_taken : (waiting : List ℕ) (found : Option (Bor (List ℕ))) → ReadsFrame waiting (Ok found) → ((payload : Bor (List ℕ)) → found ≡ Some payload → ⊥) → TakesFrame waiting (frame_step (Ok found)) waiting
none_taken waiting (Some m) begins none = absurd (none m refl)
none_taken waiting None incomplete none = (incomplete, refl)

-- the three clauses on a result
pub record IsExact (waiting : List ℕ) (result : Result (Option (Bor (List ℕ))) FrameFault) : Type 0 where
  pub payload : (payload : List ℕ) → GivesPayload result payload ↔ BeginsWithPayload waiting payload
  pub none : (result ≡ Ok None) ↔ IsIncompleteFrame waiting
  pub fault : (fault : FrameFault) → (result ≡ Err fault) ↔ IsFrameFault waiting fault

pub exactly : (waiting : List ℕ) (result : Result (Option (Bor (List ℕ))) FrameFault) → ReadsFrame waiting result → IsExact waiting result
exactly waiting (Ok (Some found)) begins = record {
  payload = λ payload. (
    λ same. subst (BeginsWithPayload waiting) same begins,
    λ other. (one_payload found.now payload begins.1 other.1 begins.0 other.0 (sym begins.2 ∙ other.2)).0,
  );
  none = (λ same. cc, λ incomplete. absurd (incomplete_has_no_payload waiting found.now incomplete begins));
  fault = λ fault. (λ same. cc, λ bad. absurd (bad_has_no_payload waiting found.now (fault_is_bad waiting fault bad) begins));
}
exactly waiting (Ok None) incomplete = record {
  payload = λ payload. (λ given. absurd given, λ begins. absurd (incomplete_has_no_payload waiting payload incomplete begins));
  none = (λ _. incomplete, λ _. refl);
  fault = λ fault. (λ same. cc, λ bad. absurd (bad_is_no_prefix waiting incomplete (fault_is_bad waiting fault bad)));
}
exactly waiting (Err fault) bad = record {
  payload = λ payload. (λ given. absurd given, λ begins. absurd (bad_has_no_payload waiting payload (fault_is_bad waiting fault bad) begins));
  none = (λ same. cc, λ incomplete. absurd (bad_is_no_prefix waiting incomplete (fault_is_bad waiting fault bad)));
  fault = λ other. (λ same. subst (IsFrameFault waiting) (cc) bad, λ reported. ap Err (one_fault waiting fault other bad reported));
}
