-- One call is due, and the example acts.
use Rattle.std.proofs.Common.{◌≡◌, [], ◌∷◌, refl, sym, ◌∙◌, ap, inl, inr}
use Rattle.std.specs.Prelude.{ℕ, Bool, true, false, Some, None}
use Rattle.gw_site.specs.Steps.{SiteCall, PollCall, SendPtCall, LengthCall, ReadCall, SyncCall}
use Rattle.gw_owes.specs.Calls.{OwedCall, Acknowledge, SendPt, Sync, WriteFirstGate, site_call}
use Rattle.gw_rules.specs.ActExample.{LongerIsRead, NothingBeforeSync, OpeningIsDue, OwedBytesAreSent, acknowledging_view}
use Rattle.gw_rules.specs.ActLaws.{OneCallIsDue, OneCallIsOwed, ReadsFile}
use Rattle.gw_rules.specs.Acts.{IsDueCall, IsMeasuring, IsOwedCall, IsReading, Unopened, Unmeasured, Measured, Looked}
use Rattle.gw_rules.specs.Example.{example_setup, opening_view}
use Rattle.gw_rules.specs.Lawful.{IsNext, MayPoll, first_call}
use Rattle.gw_rules.specs.Stage.{is_looking}
use Rattle.gw_rules.specs.View.{View}

-- ---- one call is due

no-poll : (v : View) (owed : OwedCall) → IsNext v owed → MayPoll v → ⊥
no-poll v owed next may = let h : None ≡ Some owed = sym (ap first_call may.calls) ∙ next in absurd cc

one-next : (v : View) (owed other : OwedCall) → IsNext v owed → IsNext v other → owed ≡ other
one-next v owed other next also = let h : Some owed ≡ Some other = sym next ∙ also in cc

pub one-call-is-owed : OneCallIsOwed
one-call-is-owed v call other (inl (owed, next, e)) (inl (also, second, f)) = e ∙ ap site_call (one-next v owed also next second) ∙ sym f
one-call-is-owed v call other (inl (owed, next, e)) (inr (may, f)) = absurd (no-poll v owed next may)
one-call-is-owed v call other (inr (may, e)) (inl (owed, next, f)) = absurd (no-poll v owed next may)
one-call-is-owed v call other (inr (may, e)) (inr (also, f)) = e ∙ sym f

reads-file : (slots : ℕ) (v : View) (call : SiteCall) → IsReading slots v call → ReadsFile call
reads-file slots v call h = (h.offset, h.size, h.call_is)

one-measured : (looking : Bool) (v : View) (call other : SiteCall) → IsMeasuring looking v call → IsMeasuring looking v other → call ≡ other
one-measured true v call other h k = h ∙ sym k
one-measured false v call other h k = one-call-is-owed v call other h k

pub one-call-is-due : OneCallIsDue
one-call-is-due own v Unopened call other h k = inl (h ∙ sym k)
one-call-is-due own v Unmeasured call other h k = inl (one-measured (is_looking v.scene.stage) v call other h k)
one-call-is-due own v Measured call other h k = inr (inl (reads-file own.slots v call h))
one-call-is-due own v Looked call other (inl h) (inl k) = inl (one-call-is-owed v call other h k)
one-call-is-due own v Looked call other (inl h) (inr k) = inr (inr (reads-file own.slots v other k))
one-call-is-due own v Looked call other (inr h) k = inr (inl (reads-file own.slots v call h))

-- ---- examples

pub opening-is-due : OpeningIsDue
opening-is-due = record {
  opened = record { due = (refl, tt); ends = λ e. refl };
  opening = record {
    due = (inl (Sync, refl, refl), (refl, (inl (inl (WriteFirstGate, refl, refl)), (inl (inl (Sync, refl, refl)), (inl (inr (record { running = refl; calls = refl; items = refl }, refl)), tt)))));
    ends = λ e. refl;
  };
}

-- what is owed first is all that is due
not-owed : (v : View) (owed : OwedCall) (call : SiteCall) → IsNext v owed → (call ≡ site_call owed → ⊥) → IsOwedCall v call → ⊥
not-owed v owed call next differs h = differs (one-call-is-owed v call (site_call owed) h (inl (owed, next, refl)))

pub nothing-before-sync : NothingBeforeSync
nothing-before-sync = record {
  sync = inl (Sync, refl, refl);
  poll = λ h. not-owed opening_view Sync PollCall refl (λ e. absurd (let n : PollCall ≡ SyncCall = e in cc)) h;
  length = λ h. not-owed opening_view Sync LengthCall refl (λ e. absurd (let n : LengthCall ≡ SyncCall = e in cc)) h;
}

pub longer-is-read : LongerIsRead
longer-is-read = record {
  length = refl;
  poll_before_length = λ e. absurd (let n : PollCall ≡ LengthCall = e in cc);
  look = refl;
  reading = record { to_read = refl; offset = 0; size = 2; call_is = refl };
  poll_before_read = λ h. absurd (let n : PollCall ≡ ReadCall h.offset h.size = h.call_is in cc);
  poll = inl (inr (record { running = refl; calls = refl; items = refl }, refl));
}

not-due : (call : SiteCall) → (call ≡ SendPtCall 1 (0x80 ∷ 0 ∷ 0 ∷ []) → ⊥) → ((offset size : ℕ) → call ≡ ReadCall offset size → ⊥) → IsDueCall example_setup acknowledging_view Looked call → ⊥
not-due call differs sends (inl h) = not-owed acknowledging_view (SendPt 1 Acknowledge) call refl differs h
not-due call differs sends (inr h) = sends h.offset h.size h.call_is

pub owed-bytes-are-sent : OwedBytesAreSent
owed-bytes-are-sent = record {
  owed = inl (inl (SendPt 1 Acknowledge, refl, refl));
  other_bytes = λ h. not-due (SendPtCall 1 (0x84 ∷ 0x83 ∷ 0 ∷ [])) (λ e. absurd (let n : SendPtCall 1 (0x84 ∷ 0x83 ∷ 0 ∷ []) ≡ SendPtCall 1 (0x80 ∷ 0 ∷ 0 ∷ []) = e in cc)) (λ offset size e. absurd (let n : SendPtCall 1 (0x84 ∷ 0x83 ∷ 0 ∷ []) ≡ ReadCall offset size = e in cc)) h;
  other_terminal = λ h. not-due (SendPtCall 2 (0x80 ∷ 0 ∷ 0 ∷ [])) (λ e. absurd (let n : SendPtCall 2 (0x80 ∷ 0 ∷ 0 ∷ []) ≡ SendPtCall 1 (0x80 ∷ 0 ∷ 0 ∷ []) = e in cc)) (λ offset size e. absurd (let n : SendPtCall 2 (0x80 ∷ 0 ∷ 0 ∷ []) ≡ ReadCall offset size = e in cc)) h;
}
