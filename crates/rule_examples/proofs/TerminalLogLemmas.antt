-- The example logs of a gateway with one terminal.
use Rattle.std.proofs.Common.{◌≡◌, ℕ, List, [], ◌∷◌, ◌++◌, refl, subst, true, false, inl, inr, arith}
use Rattle.std.specs.Prelude.{ℤ, pos, ◌+◌, ◌≤◌, Some}
use Rattle.gw_base.specs.declared.setup.Pt.{Pt}
use Rattle.zvt_apdu.specs.DecodeStream.{decode_apdus, decode_apdus_within}
use Rattle.zvt_msg.specs.MessageDecode.{decode_pt_message}
use Rattle.zvt_msg.specs.CommandCanonical.{canonical_command}
use Rattle.gw_site.specs.Outside.{outside_of}
use Rattle.gw_site.specs.declared.turn.Turn.{Turn}
use Rattle.gw_site.specs.declared.turn.Turn.TheVariants.{Start, Polled, HeardPt, Lost, Stopped, Linked, LinkFailed, SentPt, CutPt}
use Rattle.gw_owes.specs.TerminalExample.{ack, enquiry_sent}
use Rattle.gw_owes.specs.Terminals.{registration}
use Rattle.gw_rules.specs.Example.{first_turns, began, began_moves}
use Rattle.gw_rules.specs.LinkLaws.{EndsLink, IsOfTerminal, IsSilentIn, IsPtCutIn, ack_bytes, IsSentTo, IsRegistered, HasRested, IsTriedIn}
use Rattle.gw_rules.specs.RowExample.{example_pt, terminal_setup, register_bytes}
use Rattle.gw_rules.specs.SilenceLaws.{CompletesNone, SaysNothingIn, linked_turns}
use Rattle.gw_rules.specs.TerminalLogExample.{before_link, linked_log, linked_course, items_begin, declined_course}
use Rattle.rule_examples.specs.TerminalLogExample.{done_log, done_course, silent_registration_course, SilentRegistrationIsLawful, DoneIsEnquired, DoneThenSilentIsCut, UnfinishedIsCut, PollBeforeSilentCut, PollBeforeEnquiry, cut_log, cut_course, PollBeforeLink, LinkTooEarly, EnquiryBeforeRegistration, EnquiryAfterCut, due_again_course, silent_enquiry_course, unacknowledged_course, DueAgainIsLawful, DeclinedIsLawful, SilentEnquiryIsLawful, UnacknowledgedIsLawful}
use Rattle.gw_rules.specs.View.{Begin, Make}
use Rattle.gw_rules.proofs.DueLemmas.{due-is-tried, tried-once-rested}
use Rattle.gw_rules.proofs.EnquiryLemmas.{registered-is-enquired}
use Rattle.gw_rules.proofs.LinkLawLemmas.{uses-links, linked-registers}
use Rattle.gw_rules.proofs.PrefixLemmas.{lawful-along}
use Rattle.gw_rules.proofs.RestLemmas.{none-split, lasts-tested}
use Rattle.gw_rules.proofs.StageLemmas.{no-true}
use Rattle.gw_rules.proofs.LinkedSilenceLemmas.{silent-registration-is-cut}
use Rattle.gw_rules.proofs.TerminalLogLemmas.{quiet-tested, before-link-quiet, after_start, from-start, poll-ends-none}

-- ---- a run that begins

pub due-again-lawful : DueAgainIsLawful
due-again-lawful = record { along = record { turns = refl; lawful = from-start (after_start due_again_course) refl }; standing_is = refl }

pub declined-lawful : DeclinedIsLawful
unfolding decode_apdus decode_apdus_within decode_pt_message
declined-lawful = record { along = record { turns = refl; lawful = from-start (after_start declined_course) refl }; standing_is = refl }

pub silent-enquiry-lawful : SilentEnquiryIsLawful
unfolding decode_apdus decode_apdus_within decode_pt_message
silent-enquiry-lawful = record { along = record { turns = refl; lawful = from-start (after_start silent_enquiry_course) refl }; standing_is = refl }

pub silent-registration-lawful : SilentRegistrationIsLawful
silent-registration-lawful = record { along = record { turns = refl; lawful = from-start (after_start silent_registration_course) refl }; standing_is = refl }

pub done-enquired : DoneIsEnquired
unfolding decode_apdus decode_apdus_within decode_pt_message
done-enquired = record {
  along = record { turns = refl; lawful = from-start (after_start (done_course ++ Begin ∷ Make (SentPt 0 enquiry_sent true) ∷ (items_begin 3 ++ Make (Polled (pos 3)) ∷ Make Stopped ∷ []))) refl };
  standing_is = refl;
}

pub done-then-silent-cut : DoneThenSilentIsCut
unfolding decode_apdus decode_apdus_within decode_pt_message
done-then-silent-cut = record {
  along = record {
    turns = refl;
    lawful = from-start (after_start (done_course ++ Begin ∷ Make (SentPt 0 enquiry_sent true) ∷ (items_begin 3 ++ Make (Polled (pos 7)) ∷ Begin ∷ Make (CutPt 0) ∷ Begin ∷ Make (Polled (pos 8)) ∷ Make Stopped ∷ []))) refl;
  };
  standing_is = refl;
}

pub unfinished-cut : UnfinishedIsCut
unfolding decode_apdus decode_apdus_within decode_pt_message
unfinished-cut = record {
  along = record {
    turns = refl;
    lawful = from-start (after_start (linked_course ++ Make (Polled (pos 1)) ∷ Make (HeardPt 0 ack) ∷ (items_begin 5 ++ Make (Polled (pos 60)) ∷ (items_begin 2 ++ Make (Polled (pos 61)) ∷ Begin ∷ Make (CutPt 0) ∷ Begin ∷ Make (Polled (pos 62)) ∷ Make Stopped ∷ [])))) refl;
  };
  standing_is = refl;
}

pub unacknowledged-lawful : UnacknowledgedIsLawful
unfolding decode_apdus decode_apdus_within decode_pt_message
unacknowledged-lawful = record { along = record { turns = refl; lawful = from-start (after_start unacknowledged_course) refl }; standing_is = refl }

-- ---- what isn't lawful

none-tried : (pt : ℕ) → IsTriedIn pt [] → ⊥
none-tried pt ([], turn, rest, e, tried) = absurd (let n : [] ≡ turn ∷ rest = e in cc)
none-tried pt (x ∷ first, turn, rest, e, tried) = absurd (let n : [] ≡ x ∷ (first ++ turn ∷ rest) = e in cc)

-- no turn ends the link before the first poll
none-ended : (o : List Turn) (pt moment : ℕ) → HasRested o first_turns pt moment
none-ended o pt moment first rest turn e ends none = none-split pt first_turns first turn rest (lasts-tested pt first_turns refl) e ends

pub poll-before-link : PollBeforeLink
poll-before-link = record {
  before = lawful-along (began terminal_setup ++ Polled (pos 0) ∷ []) (began_moves terminal_setup ++ Make (Polled (pos 0)) ∷ []) refl (from-start (after_start (began_moves terminal_setup ++ Make (Polled (pos 0)) ∷ [])) refl);
  with_turn = λ lawful. none-tried 0 (due-is-tried [] first_turns [] [] terminal_setup example_pt 0 (pos 0) (pos 1) lawful (quiet-tested first_turns refl) tt refl refl (none-ended (Start terminal_setup ∷ []) 0 0));
}

pub link-too-early : LinkTooEarly
link-too-early = record {
  before = lawful-along (began terminal_setup ++ Polled (pos 0) ∷ LinkFailed 0 ∷ Polled (pos 4) ∷ []) (began_moves terminal_setup ++ Make (Polled (pos 0)) ∷ (items_begin 2 ++ Make (LinkFailed 0) ∷ Make (Polled (pos 4)) ∷ [])) refl
      (from-start (after_start (began_moves terminal_setup ++ Make (Polled (pos 0)) ∷ (items_begin 2 ++ Make (LinkFailed 0) ∷ Make (Polled (pos 4)) ∷ []))) refl);
  with_turn = λ lawful.
      let rested = tried-once-rested [] (before_link ++ LinkFailed 0 ∷ Polled (pos 4) ∷ []) [] terminal_setup 0 (Linked 0) lawful (quiet-tested (before_link ++ LinkFailed 0 ∷ Polled (pos 4) ∷ []) refl) (inl refl) before_link (Polled (pos 4) ∷ []) (LinkFailed 0) refl (inr (inr refl)) (poll-ends-none (pos 4), tt) in
      too_late rested;
}
  where
    too_late : 5 ≤ 4 → ⊥
    too_late e = omega arith

-- the enquiry isn't the registration
not-registered : IsRegistered terminal_setup 0 (SentPt 0 enquiry_sent true) → ⊥
not-registered (settings, configured, sent) = by_sent (subst (λ (p : Pt). IsSentTo 0 (canonical_command (registration p)) (SentPt 0 enquiry_sent true)) (same settings configured) sent)
  where
    same : (settings : Pt) → Some example_pt ≡ Some settings → settings ≡ example_pt
    same settings e = cc

    by_sent : IsSentTo 0 (canonical_command (registration example_pt)) (SentPt 0 enquiry_sent true) → ⊥
    by_sent (inl e) = absurd (let n : SentPt 0 enquiry_sent true ≡ SentPt 0 register_bytes true = e in cc)
    by_sent (inr (taken, prefix, e)) = absurd (let n : SentPt 0 enquiry_sent true ≡ SentPt 0 taken false = e in cc)

pub enquiry-before-registration : EnquiryBeforeRegistration
enquiry-before-registration = record {
  before = lawful-along (began terminal_setup ++ Polled (pos 0) ∷ Linked 0 ∷ []) (began_moves terminal_setup ++ Make (Polled (pos 0)) ∷ (items_begin 2 ++ Make (Linked 0) ∷ [])) refl (from-start (after_start (began_moves terminal_setup ++ Make (Polled (pos 0)) ∷ (items_begin 2 ++ Make (Linked 0) ∷ []))) refl);
  with_turn = λ lawful. not-registered (linked-registers [] before_link [] terminal_setup 0 (SentPt 0 enquiry_sent true) lawful before-link-quiet refl);
}

pub enquiry-after-cut : EnquiryAfterCut
enquiry-after-cut = record {
  before = lawful-along cut_log cut_course refl (from-start (after_start cut_course) refl);
  with_turn = λ lawful. no-true ((uses-links cut_log 0).sent enquiry_sent lawful);
}

-- what was sent to the terminal doesn't end its silence
sent-silent : (bytes : List ℕ) → IsSilentIn 0 (SentPt 0 bytes true ∷ [])
sent-silent bytes = record { quiet = (refl, tt); unheard = (none_heard, tt); lasts = (none_ended, tt) }
  where
    none_heard : IsOfTerminal 0 (SentPt 0 bytes true) → ⊥
    none_heard (inl (heard, e)) = absurd (let n : SentPt 0 bytes true ≡ HeardPt 0 heard = e in cc)
    none_heard (inr e) = absurd (let n : SentPt 0 bytes true ≡ Lost 0 = e in cc)

    none_ended : EndsLink 0 (SentPt 0 bytes true) → ⊥
    none_ended (inl lost) = absurd (let n : SentPt 0 bytes true ≡ Lost 0 = lost in cc)
    none_ended (inr (inl cut)) = absurd (let n : SentPt 0 bytes true ≡ CutPt 0 = cut in cc)
    none_ended (inr (inr failed)) = absurd (let n : SentPt 0 bytes true ≡ LinkFailed 0 = failed in cc)

-- nor does a poll
polled-silent : (before : List Turn) (now : ℤ) → IsSilentIn 0 before → IsSilentIn 0 (Polled now ∷ before)
polled-silent before now silent = record { quiet = (refl, silent.quiet); unheard = (none_heard, silent.unheard); lasts = (poll-ends-none now, silent.lasts) }
  where
    none_heard : IsOfTerminal 0 (Polled now) → ⊥
    none_heard (inl (heard, e)) = absurd (let n : Polled now ≡ HeardPt 0 heard = e in cc)
    none_heard (inr e) = absurd (let n : Polled now ≡ Lost 0 = e in cc)

pub none-cut : (pt : ℕ) → IsPtCutIn pt [] → ⊥
none-cut pt ([], rest, e) = absurd (let n : [] ≡ CutPt pt ∷ rest = e in cc)
none-cut pt (x ∷ first, rest, e) = absurd (let n : [] ≡ x ∷ (first ++ CutPt pt ∷ rest) = e in cc)

pub poll-before-silent-cut : PollBeforeSilentCut
poll-before-silent-cut = record {
  before = lawful-along (linked_log ++ Polled (pos 5) ∷ []) (linked_course ++ Make (Polled (pos 5)) ∷ []) refl (from-start (after_start (linked_course ++ Make (Polled (pos 5)) ∷ [])) refl);
  with_turn = λ lawful. none-cut 0 (silent-registration-is-cut [] before_link (SentPt 0 register_bytes true ∷ []) [] [] terminal_setup example_pt 0 (pos 5) (pos 6) lawful before-link-quiet sent_says_nothing tt tt tt refl in_time);
}
  where
    in_time : 0 + 5 ≤ 5
    in_time = omega arith

    none_heard : (chunk : List ℕ) → SentPt 0 register_bytes true ≡ HeardPt 0 chunk → CompletesNone (outside_of (linked_turns [] terminal_setup before_link 0 [])) 0 chunk
    none_heard chunk e = absurd (let n : SentPt 0 register_bytes true ≡ HeardPt 0 chunk = e in cc)

    sent_says_nothing : SaysNothingIn (outside_of (linked_turns [] terminal_setup before_link 0 [])) 0 (SentPt 0 register_bytes true ∷ [])
    sent_says_nothing = record { quiet = (refl, tt); completes_none = (none_heard, tt); lasts = (sent-silent register_bytes).lasts }

none-sent : (bytes : List ℕ) (now : ℤ) → IsSentTo 0 bytes (Polled now) → ⊥
none-sent bytes now (inl e) = absurd (let n : Polled now ≡ SentPt 0 bytes true = e in cc)
none-sent bytes now (inr (taken, prefix, e)) = absurd (let n : Polled now ≡ SentPt 0 taken false = e in cc)

pub poll-before-enquiry : PollBeforeEnquiry
unfolding decode_apdus decode_apdus_within decode_pt_message
poll-before-enquiry = record {
  before = lawful-along done_log done_course refl (from-start (after_start done_course) refl);
  with_turn = λ lawful.
      let sent = sent-silent register_bytes in
      let next = registered-is-enquired [] before_link (SentPt 0 register_bytes true ∷ Polled (pos 1) ∷ []) (Polled (pos 2) ∷ []) [] terminal_setup example_pt 0 (SentPt 0 ack_bytes true) (Polled (pos 3)) lawful before-link-quiet
      (record { quiet = (refl, (refl, tt)); unheard = (sent.unheard.0, (polled-silent [] (pos 1) silent).unheard); lasts = (sent.lasts.0, (polled-silent [] (pos 1) silent).lasts) }) (polled-silent [] (pos 2) silent) refl refl refl in
      none-sent _ (pos 3) (next.enquired refl);
}
  where
    silent : IsSilentIn 0 []
    silent = record { quiet = tt; unheard = tt; lasts = tt }
