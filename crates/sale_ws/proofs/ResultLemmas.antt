-- The result of a turn is the one of what it met.
use Rattle.std.proofs.Common.{◌≡◌, ◌<◌, ℕ, List, [], length, Some, None, Result, Ok, Err, refl, sym, ap, ◌∙◌, subst, arith, inl, inr, Bool, true, false}
use Rattle.std.specs.Prelude.{◌⊎◌, ◌↔◌}
use Rattle.sale_frame.proofs.FrameLemmas.{bad_is_no_prefix}
use Rattle.sale_ws.specs.Gateway.{Heard, Brought, ReadFailed, NotAsked}
use Rattle.sale_ws.specs.Turn.{Delivery, HasBytes, HasNoFrame, IsFaulty, Results}
use Rattle.sale_ws.specs.inner.Steps.{IsHearing, IsPassed}
use Rattle.sale_ws.specs.declared.bridge.Bridged.TheVariants.{Went, Ended}
use Rattle.sale_ws.specs.declared.bridge.Hearing.{Hearing}
use Rattle.sale_ws.specs.declared.fault.BridgeFault.{BridgeFault}
use Rattle.sale_ws.specs.declared.fault.BridgeFault.TheVariants as Fault
use Rattle.sale_ws.specs.declared.wire.Got.{Got}
use Rattle.sale_ws.specs.declared.wire.Got.TheVariants.{Nothing, End}
use Rattle.sale_ws.specs.declared.wire.WireFault.{WireFault}
use Rattle.sale_ws.specs.declared.wire.WireFault.TheVariants.{Failed, Memory}

-- a turn that ended before it read the gateway's connection
abbrev pub unheard : List ℕ → Delivery
unheard waiting = record { heard = NotAsked; sent = []; rest = waiting; sending = Ok tt }

neither : {A B : Type 0} → (A → ⊥) → (B → ⊥) → A ↔ B
neither p q = (λ a. absurd (p a), λ b. absurd (q b))

both : {A B : Type 0} → A → B → A ↔ B
both a b = (λ _. b, λ _. a)

neither-of : {A B : Type 0} → (A → ⊥) → (B → ⊥) → A ⊎ B → ⊥
neither-of p q (inl a) = p a
neither-of p q (inr b) = q b

fault-is-no-message : (fault : WireFault) (n : ℕ) → HasNoFrame (Err fault) n → ⊥
fault-is-no-message fault n (message, is, none, size) = cc

end-is-no-message : (n : ℕ) → HasNoFrame (Ok End) n → ⊥
end-is-no-message n (message, is, none, size) = cc

-- a message has one length
one-size : (got : Result Got WireFault) (m n : ℕ) → HasNoFrame got m → HasNoFrame got n → m ≡ n
one-size got m n (first, is, none, size) (second, also, no_frame, length_is) =
    let same : first ≡ second = cc in
    size ∙ ap length same ∙ sym length_is

no-bytes : (heard other : Heard) → heard ≡ other → ((chunk : List ℕ) → other ≡ Brought (Some chunk) → 0 < length chunk → ⊥) → HasBytes heard → ⊥
no-bytes heard other same none (chunk, is, some) = none chunk (sym same ∙ is) some

unasked-has-none : (chunk : List ℕ) → NotAsked ≡ Brought (Some chunk) → 0 < length chunk → ⊥
unasked-has-none chunk is some = cc

failed-has-none : (chunk : List ℕ) → ReadFailed ≡ Brought (Some chunk) → 0 < length chunk → ⊥
failed-has-none chunk is some = cc

nothing-has-none : (chunk : List ℕ) → Brought None ≡ Brought (Some chunk) → 0 < length chunk → ⊥
nothing-has-none chunk is some = cc

end-has-none : (chunk : List ℕ) → Brought (Some []) ≡ Brought (Some chunk) → 0 < length chunk → ⊥
end-has-none chunk is some = let same : [] ≡ chunk = cc in omega (arith, ap length same)

-- bytes came, so the read brought neither the end nor nothing, and was made
has-no-end : (heard : Heard) → HasBytes heard → heard ≡ Brought (Some []) → ⊥
has-no-end heard bytes is = no-bytes heard (Brought (Some [])) is end-has-none bytes

has-something : (heard : Heard) → HasBytes heard → heard ≡ Brought None → ⊥
has-something heard bytes is = no-bytes heard (Brought None) is nothing-has-none bytes

was-asked : (heard : Heard) → HasBytes heard → heard ≡ NotAsked → ⊥
was-asked heard bytes is = no-bytes heard NotAsked is unasked-has-none bytes

was-read : (heard : Heard) → HasBytes heard → heard ≡ ReadFailed → ⊥
was-read heard bytes is = no-bytes heard ReadFailed is failed-has-none bytes

-- what was passed on is no fault
not-faulty : (got : Got) → IsPassed got (Ok tt) → IsFaulty (Ok got) → ⊥
not-faulty got passed (inl failed) = let no : false ≡ true = failed in cc
not-faulty got passed (inr (n, none)) = passed n none

module _ {W : Type 0} where
  pub read-failed : (read : W) (waiting left : List ℕ) → Results waiting left false (record { got = Err Failed; read = read; delivery = unheard waiting }) (Err Fault.Socket)
  read-failed read waiting left = record {
    ended = neither (λ e. cc) (neither-of (λ e. cc) (λ e. cc));
    outsized = λ n. neither (λ e. cc) (fault-is-no-message Failed n);
    unreadable = neither (λ e. cc) (λ bad. no-bytes NotAsked NotAsked refl unasked-has-none bad.0.0);
    faultless = tt;
    first = λ _. refl;
    asked = tt;
    delivered = tt;
    idle = neither (λ e. cc) (λ h. let e = h.0 in cc);
  }

  pub read-without-memory : (read : W) (waiting left : List ℕ) → Results waiting left false (record { got = Err Memory; read = read; delivery = unheard waiting }) (Err Fault.Memory)
  read-without-memory read waiting left = record {
    ended = neither (λ e. cc) (neither-of (λ e. cc) (λ e. cc));
    outsized = λ n. neither (λ e. cc) (fault-is-no-message Memory n);
    unreadable = neither (λ e. cc) (λ bad. no-bytes NotAsked NotAsked refl unasked-has-none bad.0.0);
    faultless = tt;
    first = λ _. refl;
    asked = tt;
    delivered = tt;
    idle = neither (λ e. cc) (λ h. let e = h.0 in cc);
  }

  pub socket-ended : (read : W) (waiting : List ℕ) → Results waiting waiting false (record { got = Ok End; read = read; delivery = unheard waiting }) (Ok Ended)
  socket-ended read waiting = record {
    ended = both refl (inl refl);
    outsized = λ n. neither (λ e. cc) (end-is-no-message n);
    unreadable = neither (λ e. cc) (λ bad. no-bytes NotAsked NotAsked refl unasked-has-none bad.0.0);
    faultless = record { got = refl; heard = λ e. cc; sent = refl };
    first = λ _. refl;
    asked = both refl refl;
    delivered = (refl, inr (refl, refl));
    idle = neither (λ e. cc) (λ h. let e = h.0 in cc);
  }

  pub not-passed : (read : W) (waiting left : List ℕ) (got : Got) (fault : BridgeFault) → ¬ (got ≡ End) → IsPassed got (Err fault) → Results waiting left false (record { got = Ok got; read = read; delivery = unheard waiting }) (Err fault)
  not-passed read waiting left got Fault.Gate not_end passed = record {
    ended = neither (λ e. cc) (neither-of (λ e. let is : got ≡ End = cc in not_end is) (λ e. cc));
    outsized = λ n. neither (λ e. cc) (passed n);
    unreadable = neither (λ e. cc) (λ bad. no-bytes NotAsked NotAsked refl unasked-has-none bad.0.0);
    faultless = tt;
    first = λ _. refl;
    asked = tt;
    delivered = tt;
    idle = neither (λ e. cc) (λ h. let e = h.1 in cc);
  }
  not-passed read waiting left got (Fault.Length size) not_end passed = record {
    ended = neither (λ e. cc) (neither-of (λ e. let is : got ≡ End = cc in not_end is) (λ e. cc));
    outsized = λ n. (λ e. let same : size ≡ n = cc in subst (HasNoFrame (Ok got)) same passed, λ other. ap (λ k. Err (Fault.Length k)) (one-size (Ok got) size n passed other));
    unreadable = neither (λ e. cc) (λ bad. no-bytes NotAsked NotAsked refl unasked-has-none bad.0.0);
    faultless = tt;
    first = λ _. refl;
    asked = tt;
    delivered = tt;
    idle = neither (λ e. cc) (λ h. let e = h.1 in cc);
  }
  not-passed read waiting left got Fault.Memory not_end passed = record {
    ended = neither (λ e. cc) (neither-of (λ e. let is : got ≡ End = cc in not_end is) (λ e. cc));
    outsized = λ n. neither (λ e. cc) (passed n);
    unreadable = neither (λ e. cc) (λ bad. no-bytes NotAsked NotAsked refl unasked-has-none bad.0.0);
    faultless = tt;
    first = λ _. refl;
    asked = tt;
    delivered = tt;
    idle = neither (λ e. cc) (λ h. let e = h.1 in cc);
  }
  not-passed read waiting left got Fault.Frame not_end passed = absurd passed
  not-passed read waiting left got Fault.Socket not_end passed = absurd passed

  pub heard-nothing : (read : W) (waiting left : List ℕ) (is_idle : Bool) (got : Got) (delivery : Delivery) → ¬ (got ≡ End) → IsPassed got (Ok tt) → (is_idle ≡ true) ↔ (got ≡ Nothing) → IsHearing (Ok Hearing.Nothing) waiting left delivery
      → Results waiting left is_idle (record { got = Ok got; read = read; delivery = delivery }) (Ok Went)
  heard-nothing read waiting left is_idle got delivery not_end passed quiet (heard, (none, rest, same, sending)) = record {
    ended = neither (λ e. cc) (neither-of (λ e. let is : got ≡ End = cc in not_end is) (λ e. cc));
    outsized = λ n. neither (λ e. cc) (passed n);
    unreadable = neither (λ e. cc) (λ bad. has-something delivery.heard bad.0.0 heard);
    faultless = record { got = refl; heard = λ e. cc; sent = sending };
    first = λ faulty. absurd (not-faulty got passed faulty);
    asked = neither (λ e. cc) (λ e. let is : got ≡ End = cc in not_end is);
    delivered = (same ∙ sym rest, inr (none, rest));
    idle = (λ e. (ap Ok (quiet.0 e), heard), λ h. let is : got ≡ Nothing = cc in quiet.1 is);
  }

  pub heard-end : (read : W) (waiting left : List ℕ) (got : Got) (delivery : Delivery) → ¬ (got ≡ End) → IsPassed got (Ok tt) → IsHearing (Ok Hearing.Ended) waiting left delivery
      → Results waiting left false (record { got = Ok got; read = read; delivery = delivery }) (Ok Ended)
  heard-end read waiting left got delivery not_end passed (heard, (none, rest, same, sending)) = record {
    ended = both refl (inr heard);
    outsized = λ n. neither (λ e. cc) (passed n);
    unreadable = neither (λ e. cc) (λ bad. has-no-end delivery.heard bad.0.0 heard);
    faultless = record { got = refl; heard = λ e. cc; sent = sending };
    first = λ faulty. absurd (not-faulty got passed faulty);
    asked = neither (λ e. cc) (λ e. let is : got ≡ End = cc in not_end is);
    delivered = (same ∙ sym rest, inr (none, rest));
    idle = neither (λ e. cc) (λ h. let e = h.1 in cc);
  }

  pub heard-messages : (read : W) (waiting left : List ℕ) (got : Got) (delivery : Delivery) → ¬ (got ≡ End) → IsPassed got (Ok tt) → IsHearing (Ok Hearing.Messages) waiting left delivery
      → Results waiting left false (record { got = Ok got; read = read; delivery = delivery }) (Ok Went)
  heard-messages read waiting left got delivery not_end passed (done, less, same) = record {
    ended = neither (λ e. cc) (neither-of (λ e. let is : got ≡ End = cc in not_end is) (has-no-end delivery.heard done.0));
    outsized = λ n. neither (λ e. cc) (passed n);
    unreadable = neither (λ e. cc) (λ bad. bad_is_no_prefix delivery.rest less bad.1);
    faultless = record { got = refl; heard = was-read delivery.heard done.0; sent = done.1 };
    first = λ faulty. absurd (not-faulty got passed faulty);
    asked = neither (was-asked delivery.heard done.0) (λ e. let is : got ≡ End = cc in not_end is);
    delivered = (same, inl (done, less));
    idle = neither (λ e. cc) (λ h. has-something delivery.heard done.0 h.1);
  }

  pub heard-fault : (read : W) (waiting left : List ℕ) (got : Got) (delivery : Delivery) (fault : BridgeFault) → ¬ (got ≡ End) → IsPassed got (Ok tt) → IsHearing (Err fault) waiting left delivery
      → Results waiting left false (record { got = Ok got; read = read; delivery = delivery }) (Err fault)
  heard-fault read waiting left got delivery Fault.Gate not_end passed failed = record {
    ended = neither (λ e. cc) (neither-of (λ e. let is : got ≡ End = cc in not_end is) (λ e. cc));
    outsized = λ n. neither (λ e. cc) (passed n);
    unreadable = neither (λ e. cc) (λ bad. no-bytes delivery.heard ReadFailed failed failed-has-none bad.0.0);
    faultless = tt;
    first = λ faulty. absurd (not-faulty got passed faulty);
    asked = tt;
    delivered = tt;
    idle = neither (λ e. cc) (λ h. let e = h.1 in cc);
  }
  heard-fault read waiting left got delivery Fault.Frame not_end passed bad = record {
    ended = neither (λ e. cc) (neither-of (λ e. let is : got ≡ End = cc in not_end is) (has-no-end delivery.heard bad.0.0));
    outsized = λ n. neither (λ e. cc) (passed n);
    unreadable = both refl bad;
    faultless = tt;
    first = λ faulty. absurd (not-faulty got passed faulty);
    asked = tt;
    delivered = tt;
    idle = neither (λ e. cc) (λ h. has-something delivery.heard bad.0.0 h.1);
  }
  heard-fault read waiting left got delivery (Fault.Length size) not_end passed wrong = absurd wrong
  heard-fault read waiting left got delivery Fault.Socket not_end passed (bytes, failed) = record {
    ended = neither (λ e. cc) (neither-of (λ e. let is : got ≡ End = cc in not_end is) (has-no-end delivery.heard bytes));
    outsized = λ n. neither (λ e. cc) (passed n);
    unreadable = neither (λ e. cc) (λ bad. let e = bad.0.1 in cc);
    faultless = tt;
    first = λ faulty. absurd (not-faulty got passed faulty);
    asked = tt;
    delivered = tt;
    idle = neither (λ e. cc) (λ h. has-something delivery.heard bytes h.1);
  }
  heard-fault read waiting left got delivery Fault.Memory not_end passed (bytes, failed) = record {
    ended = neither (λ e. cc) (neither-of (λ e. let is : got ≡ End = cc in not_end is) (has-no-end delivery.heard bytes));
    outsized = λ n. neither (λ e. cc) (passed n);
    unreadable = neither (λ e. cc) (λ bad. let e = bad.0.1 in cc);
    faultless = tt;
    first = λ faulty. absurd (not-faulty got passed faulty);
    asked = tt;
    delivered = tt;
    idle = neither (λ e. cc) (λ h. has-something delivery.heard bytes h.1);
  }
