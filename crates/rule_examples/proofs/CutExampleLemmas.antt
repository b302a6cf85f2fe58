-- The example logs of cuts.
use Rattle.std.proofs.Common.{◌≡◌, ℕ, zero, suc, List, [], ◌∷◌, ◌++◌, refl, sym, ◌∙◌, ap, true, false, arith}
use Rattle.std.proofs.lemmas.Bool.{and_parts}
use Rattle.std.specs.Prelude.{Bool, ◌&&◌, ◌||◌, not, if◌then◌else◌, pos}
use Rattle.zvt_apdu.specs.DecodeStream.{decode_apdus, decode_apdus_within}
use Rattle.zvt_msg.specs.MessageDecode.{decode_pt_message}
use Rattle.gw_site.specs.declared.turn.Turn.{Turn}
use Rattle.gw_site.specs.declared.turn.Turn.TheVariants.{Start, OpenFailed, Polled, Opened, HeardTill, Closed, HeardPt, Lost, Stopped, Linked, LinkFailed, SentTill, SentPt, CutTill, CutPt, Wrote, Synced, DiskFailed, Crash}
use Rattle.gw_owes.specs.Calls.{OwedCall, SendPt, LinkPt, CutPt as OwedCutPt}
use Rattle.gw_owes.specs.Items.{RoundItem}
use Rattle.gw_owes.specs.TerminalExample.{ack, completion, enquiry_sent}
use Rattle.gw_rules.specs.AloneExample.{both_linked_moves}
use Rattle.rule_examples.specs.CutCauseExample.{unacknowledged_done_log, unacknowledged_done_course}
use Rattle.gw_rules.specs.Lawful.{first_call, may_begin, AllowedTurn}
use Rattle.gw_rules.specs.TerminalLogExample.{linked_log, items_begin}
use Rattle.gw_rules.specs.View.{View, Begin, Make, after, after_turn, at_first}
use Rattle.gw_rules.proofs.AloneExampleLemmas.{from-two}
use Rattle.gw_rules.proofs.CutCauseLemmas.{failed-send-cuts}
use Rattle.gw_rules.proofs.LinkLawLemmas.{same-call}
use Rattle.gw_rules.proofs.PrefixLemmas.{Along, along, lawful-along}
use Rattle.gw_rules.proofs.StageLemmas.{no-true, no-call}
use Rattle.gw_rules.proofs.TerminalLogLemmas.{after_start, from-start}
use Rattle.gw_rules.proofs.UnlawfulLemmas.{take-owed, begin-next}
use Rattle.rule_examples.proofs.UnlawfulLemmas.{take-next, no-poll-item, no-poll-call}
use Rattle.rule_examples.specs.CutExample.{both_silent_log, both_silent_course, both_cut_course, BothAreCut, BothAreLinkedAgain, OtherIsNotCutFirst, PollBeforeOtherCut, UnacknowledgedDoneIsCut, EnquiryUnacknowledged}

-- ---- what is lawful

pub both-are-cut : BothAreCut
both-are-cut = record { along = record { turns = refl; lawful = from-two (after_start both_cut_course) refl }; first_is = refl; other_is = refl }

pub both-are-linked-again : BothAreLinkedAgain
both-are-linked-again = record {
  along = record { turns = refl; lawful = from-two (after_start (both_cut_course ++ items_begin 4 ++ Make (Polled (pos 10)) ∷ (both_linked_moves ++ Make (Polled (pos 11)) ∷ Make Stopped ∷ []))) refl };
  first_is = refl;
  other_is = refl;
}

pub unacknowledged-done-cut : UnacknowledgedDoneIsCut
unfolding decode_apdus decode_apdus_within decode_pt_message
unacknowledged-done-cut = record {
  along = record { turns = refl; lawful = from-start (after_start (unacknowledged_done_course ++ Make (CutPt 0) ∷ (items_begin 4 ++ Make (Polled (pos 2)) ∷ Make Stopped ∷ []))) refl };
  standing_is = refl;
}

-- ---- the one course

abbrev no_calls : List OwedCall → Bool
no_calls [] = true
no_calls (call ∷ calls) = false

abbrev no_items : List RoundItem → Bool
no_items [] = true
no_items (item ∷ items) = false

-- the turn is a poll, or the outcome of a call on a terminal
abbrev is_plain : Turn → Bool
is_plain (Start setup) = false
is_plain OpenFailed = false
is_plain (Polled now) = true
is_plain (Opened till) = false
is_plain (HeardTill till bytes) = false
is_plain (Closed till) = false
is_plain (HeardPt pt bytes) = false
is_plain (Lost pt) = false
is_plain Stopped = false
is_plain (Linked pt) = true
is_plain (LinkFailed pt) = true
is_plain (SentTill till bytes sent) = false
is_plain (SentPt pt bytes sent) = true
is_plain (CutTill till) = false
is_plain (CutPt pt) = true
is_plain (Wrote offset bytes) = false
is_plain Synced = false
is_plain DiskFailed = false
is_plain (Crash file) = false

-- it doesn't come where no call is owed and an item may begin
plain-waits : (v : View) (turn : Turn) → is_plain turn ≡ true → v.calls ≡ [] → may_begin v.scene v.items ≡ true → AllowedTurn v turn → ⊥
plain-waits v (Start setup) e calls begins ok = no-true e
plain-waits v OpenFailed e calls begins ok = no-true e
plain-waits v (Polled now) e calls begins ok = no-poll-item v now begins ok
plain-waits v (Opened till) e calls begins ok = no-true e
plain-waits v (HeardTill till bytes) e calls begins ok = no-true e
plain-waits v (Closed till) e calls begins ok = no-true e
plain-waits v (HeardPt pt bytes) e calls begins ok = no-true e
plain-waits v (Lost pt) e calls begins ok = no-true e
plain-waits v Stopped e calls begins ok = no-true e
plain-waits v (Linked pt) e calls begins ok = no-call v.calls (LinkPt pt) calls ok
plain-waits v (LinkFailed pt) e calls begins ok = no-call v.calls (LinkPt pt) calls ok
plain-waits v (SentTill till bytes sent) e calls begins ok = no-true e
plain-waits v (SentPt pt bytes true) e calls begins ok = no-call v.calls (SendPt pt ok.0) calls ok.1
plain-waits v (SentPt pt bytes false) e calls begins ok = no-call v.calls (SendPt pt ok.0) calls ok.1
plain-waits v (CutTill till) e calls begins ok = no-true e
plain-waits v (CutPt pt) e calls begins ok = no-call v.calls (OwedCutPt pt) calls ok
plain-waits v (Wrote offset bytes) e calls begins ok = no-true e
plain-waits v Synced e calls begins ok = no-true e
plain-waits v DiskFailed e calls begins ok = no-true e
plain-waits v (Crash file) e calls begins ok = no-true e

-- an item begins next: no call is owed, and one is there
abbrev begins_next : View → Bool
begins_next v = no_calls v.calls && may_begin v.scene v.items

-- a turn comes next: a call is owed, or no item is there
abbrev makes_next : View → Bool
makes_next v = not (no_calls v.calls) || no_items v.items

-- the view after these turns in the one course along them, with at most so many moves
abbrev leads_along : ℕ → View → List Turn → View
leads_along zero v turns = v
leads_along (suc most) v [] = v
leads_along (suc most) v (turn ∷ turns) = if begins_next v then leads_along most (after v Begin) (turn ∷ turns) else leads_along most (after_turn v turn) turns

-- so many moves are enough, and what comes next is known before each
abbrev is_led : ℕ → View → List Turn → Bool
is_led zero v [] = true
is_led zero v (turn ∷ turns) = false
is_led (suc most) v [] = true
is_led (suc most) v (turn ∷ turns) = if begins_next v then is_plain turn && is_led most (after v Begin) (turn ∷ turns) else (makes_next v && is_led most (after_turn v turn) turns)

empty-calls : (calls : List OwedCall) → no_calls calls ≡ true → calls ≡ []
empty-calls [] e = refl
empty-calls (call ∷ calls) e = no-true e

empty-items : (items : List RoundItem) → no_items items ≡ true → items ≡ []
empty-items [] e = refl
empty-items (item ∷ items) e = no-true e

take-made : (v : View) (turn : Turn) (turns : List Turn) → makes_next v ≡ true → Along v (turn ∷ turns) → Along (after_turn v turn) turns
take-made v turn turns makes x = by_calls v.calls refl
  where
    by_calls : (calls : List OwedCall) → v.calls ≡ calls → Along (after_turn v turn) turns
    by_calls [] e = (take-next v turn turns (empty-items v.items (sym (ap (λ c. not (no_calls c) || no_items v.items) e) ∙ makes)) x).1
    by_calls (call ∷ calls) e = (take-owed v call turn turns (ap first_call e) x).1

lead : (most : ℕ) (v : View) (turns rest : List Turn) → is_led most v turns ≡ true → Along v (turns ++ rest) → Along (leads_along most v turns) rest
lead zero v [] rest e x = x
lead zero v (turn ∷ turns) rest e x = no-true e
lead (suc most) v [] rest e x = x
lead (suc most) v (turn ∷ turns) rest e x = by_test (begins_next v) refl e (lead most (after v Begin) (turn ∷ turns) rest) (lead most (after_turn v turn) turns rest)
  where
    by_test : (test : Bool) → begins_next v ≡ test → (if test then is_plain turn && is_led most (after v Begin) (turn ∷ turns) else (makes_next v && is_led most (after_turn v turn) turns)) ≡ true
        → (is_led most (after v Begin) (turn ∷ turns) ≡ true → Along (after v Begin) (turn ∷ (turns ++ rest)) → Along (leads_along most (after v Begin) (turn ∷ turns)) rest)
        → (is_led most (after_turn v turn) turns ≡ true → Along (after_turn v turn) (turns ++ rest) → Along (leads_along most (after_turn v turn) turns) rest)
        → Along (if test then leads_along most (after v Begin) (turn ∷ turns) else leads_along most (after_turn v turn) turns) rest
    by_test true t led begun made =
        let p = and_parts (is_plain turn) (is_led most (after v Begin) (turn ∷ turns)) led in
        let q = and_parts (no_calls v.calls) (may_begin v.scene v.items) t in
        begun p.1 (begin-next v turn (turns ++ rest) q.1 (plain-waits v turn p.0 (empty-calls v.calls q.0) q.1) x)
    by_test false t led begun made =
        let p = and_parts (makes_next v) (is_led most (after_turn v turn) turns) led in
        made p.1 (take-made v turn (turns ++ rest) p.0 x)

-- ---- what isn't lawful

pub other-not-cut-first : OtherIsNotCutFirst
other-not-cut-first = record {
  before = lawful-along both_silent_log both_silent_course refl (from-two (after_start both_silent_course) refl);
  with_turn = λ lawful.
      let v = leads_along 24 at_first both_silent_log in
      let led = lead 24 at_first both_silent_log (CutPt 1 ∷ []) refl (along (both_silent_log ++ CutPt 1 ∷ []) lawful) in
      let w = after v Begin in
      let begun = begin-next v (CutPt 1) [] refl (plain-waits v (CutPt 1) refl refl refl) led in
      let next = take-owed w (OwedCutPt 0) (CutPt 1) [] refl begun in
      not_first (same-call w.calls (OwedCutPt 0) (OwedCutPt 1) refl next.0);
}
  where
    not_first : OwedCutPt 0 ≡ OwedCutPt 1 → ⊥
    not_first e = let number : ◌≡◌ {A = ℕ} 0 1 = cc in omega (arith, number)

pub poll-before-other-cut : PollBeforeOtherCut
poll-before-other-cut = record {
  before = lawful-along (both_silent_log ++ CutPt 0 ∷ []) (both_silent_course ++ Begin ∷ Make (CutPt 0) ∷ []) refl (from-two (after_start (both_silent_course ++ Begin ∷ Make (CutPt 0) ∷ [])) refl);
  with_turn = λ lawful.
      let turn = Polled (pos 5) in
      let v = leads_along 24 at_first (both_silent_log ++ CutPt 0 ∷ []) in
      let led = lead 24 at_first (both_silent_log ++ CutPt 0 ∷ []) (turn ∷ []) refl (along (both_silent_log ++ CutPt 0 ∷ turn ∷ []) lawful) in
      let w = after v Begin in
      let begun = begin-next v turn [] refl (no-poll-item v (pos 5) refl) led in
      no-poll-call w (pos 5) (OwedCutPt 1) refl (take-owed w (OwedCutPt 1) turn [] refl begun).0;
}

pub enquiry-unacknowledged : EnquiryUnacknowledged
unfolding decode_apdus decode_apdus_within decode_pt_message
enquiry-unacknowledged = record {
  before = lawful-along unacknowledged_done_log unacknowledged_done_course refl (from-start (after_start unacknowledged_done_course) refl);
  with_turn = λ lawful.
      let cut = failed-send-cuts (linked_log ++ Polled (pos 1) ∷ HeardPt 0 (ack ++ completion) ∷ []) [] 0 (0x80 ∷ []) (SentPt 0 enquiry_sent true) lawful refl in
      absurd (let n : SentPt 0 enquiry_sent true ≡ CutPt 0 = cut in cc);
}
