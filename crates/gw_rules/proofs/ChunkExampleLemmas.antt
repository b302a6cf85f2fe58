-- The example log of a registration that is acknowledged and done with the same bytes.
use Rattle.std.proofs.Common.{◌≡◌, ℕ, List, [], ◌∷◌, ◌++◌, refl, subst, true, inl, inr, arith}
use Rattle.std.specs.Prelude.{ℤ, pos}
use Rattle.gw_site.specs.Outside.{Outside, outside_of}
use Rattle.gw_site.specs.declared.turn.Turn.{Turn}
use Rattle.gw_site.specs.declared.turn.Turn.TheVariants.{Polled, HeardPt, Lost, LinkFailed, SentPt, CutPt, Stopped}
use Rattle.zvt_apdu.specs.DecodeStream.{decode_apdus, decode_apdus_within}
use Rattle.zvt_apdu.specs.Grammar.{ApduValue, IsProperApduPrefix}
use Rattle.zvt_apdu.proofs.DecodeStreamLemmas.{split_is}
use Rattle.zvt_msg.specs.Message.{Ack, Completion}
use Rattle.zvt_msg.specs.MessageDecode.{decode_pt_message}
use Rattle.gw_owes.specs.TerminalExample.{ack, completion, enquiry_sent}
use Rattle.gw_rules.specs.ChunkExample.{split_log, split_course, SplitIsEnquired, PollBeforeSplitEnquiry}
use Rattle.gw_rules.specs.ChunkLaws.{registering_terminal}
use Rattle.gw_rules.specs.DialogueLaws.{EndsWith, IsDone, IsEnquiredIn}
use Rattle.gw_rules.specs.LinkLaws.{EndsLink, HasSaid}
use Rattle.gw_rules.specs.RowExample.{example_pt, terminal_setup, register_bytes}
use Rattle.gw_rules.specs.SilenceLaws.{CompletesNone, SaysNothingIn, linked_turns}
use Rattle.gw_rules.specs.TerminalLogExample.{before_link, items_begin}
use Rattle.gw_rules.specs.View.{Begin, Make}
use Rattle.gw_rules.proofs.ChunkLemmas.{done-at-once-is-enquired}
use Rattle.gw_rules.proofs.PrefixLemmas.{lawful-along}
use Rattle.gw_rules.proofs.TerminalLogLemmas.{before-link-quiet, after_start, from-start, poll-ends-none}
use Rattle.gw_rules.proofs.TextLemmas.{bytes-tested}

pub split-enquired : SplitIsEnquired
unfolding decode_apdus decode_apdus_within decode_pt_message
split-enquired = record {
  along = record { turns = refl; lawful = from-start (after_start (split_course ++ Begin ∷ Make (SentPt 0 enquiry_sent true) ∷ (items_begin 3 ++ Make (Polled (pos 3)) ∷ Make Stopped ∷ []))) refl };
  standing_is = refl;
}

-- ---- what the terminal says

abbrev said_first : List Turn
said_first = SentPt 0 register_bytes true ∷ Polled (pos 1) ∷ HeardPt 0 (0x80 ∷ []) ∷ Polled (pos 2) ∷ []

abbrev rest_chunk : List ℕ
rest_chunk = 0x00 ∷ 0x00 ∷ completion

abbrev pub ack_apdu : ApduValue
ack_apdu = record { class = 0x80; instr = 0x00; body = [] }

abbrev done_apdu : ApduValue
done_apdu = record { class = 0x06; instr = 0x0F; body = [] }

pub one-byte : IsProperApduPrefix (0x80 ∷ [])
one-byte = (0x00 ∷ 0x00 ∷ [], ack_apdu, (λ e. cc), record { length_bytes = 0x00 ∷ []; is_length = inl (omega arith, refl); within = omega arith; whole = refl })

-- the first byte completes nothing
first-completes-none : CompletesNone (outside_of (linked_turns [] terminal_setup before_link 0 (SentPt 0 register_bytes true ∷ Polled (pos 1) ∷ []))) 0 (0x80 ∷ [])
unfolding decode_apdus decode_apdus_within
first-completes-none = (0x80 ∷ [], record { before = []; rest = []; spelled = split_is [] tt; all = split_is (0x80 ∷ []) (bytes-tested (0x80 ∷ []) refl) }, one-byte)

-- the rest completes both
pub rest-completes : HasSaid (outside_of (linked_turns [] terminal_setup before_link 0 said_first)) 0 rest_chunk (ack_apdu ∷ done_apdu ∷ []) []
unfolding decode_apdus decode_apdus_within
rest-completes = record {
  before = [];
  rest = 0x80 ∷ [];
  spelled = split_is (0x80 ∷ []) (bytes-tested (0x80 ∷ []) refl);
  all = split_is (0x80 ∷ rest_chunk) (bytes-tested (0x80 ∷ rest_chunk) refl);
}

pub both-are-done : EndsWith IsDone (registering_terminal example_pt 0) 2 (ack_apdu ∷ done_apdu ∷ [])
unfolding decode_pt_message
both-are-done = (Ack, refl, inr (refl, (Completion, refl, inl refl)))

-- a send that succeeds, a poll and bytes end no link
pub sent-lasts : (bytes : List ℕ) → EndsLink 0 (SentPt 0 bytes true) → ⊥
sent-lasts bytes (inl lost) = absurd (let n : SentPt 0 bytes true ≡ Lost 0 = lost in cc)
sent-lasts bytes (inr (inl cut)) = absurd (let n : SentPt 0 bytes true ≡ CutPt 0 = cut in cc)
sent-lasts bytes (inr (inr failed)) = absurd (let n : SentPt 0 bytes true ≡ LinkFailed 0 = failed in cc)

pub heard-lasts : (bytes : List ℕ) → EndsLink 0 (HeardPt 0 bytes) → ⊥
heard-lasts bytes (inl lost) = absurd (let n : HeardPt 0 bytes ≡ Lost 0 = lost in cc)
heard-lasts bytes (inr (inl cut)) = absurd (let n : HeardPt 0 bytes ≡ CutPt 0 = cut in cc)
heard-lasts bytes (inr (inr failed)) = absurd (let n : HeardPt 0 bytes ≡ LinkFailed 0 = failed in cc)

pub first-silent : SaysNothingIn (outside_of (linked_turns [] terminal_setup before_link 0 [])) 0 said_first
first-silent = record {
  quiet = (refl, (refl, (refl, (refl, tt))));
  completes_none = (not_sent, (not_polled, (heard, (not_polled, tt))));
  lasts = (sent-lasts register_bytes, (poll-ends-none (pos 1), (heard-lasts (0x80 ∷ []), (poll-ends-none (pos 2), tt))));
}
  where
    not_sent : {o : Outside} → (chunk : List ℕ) → SentPt 0 register_bytes true ≡ HeardPt 0 chunk → CompletesNone o 0 chunk
    not_sent chunk e = absurd (let n : SentPt 0 register_bytes true ≡ HeardPt 0 chunk = e in cc)

    not_polled : {o : Outside} {now : ℤ} → (chunk : List ℕ) → Polled now ≡ HeardPt 0 chunk → CompletesNone o 0 chunk
    not_polled {o} {now} chunk e = absurd (let n : Polled now ≡ HeardPt 0 chunk = e in cc)

    heard : (chunk : List ℕ) → HeardPt 0 (0x80 ∷ []) ≡ HeardPt 0 chunk → CompletesNone (outside_of (linked_turns [] terminal_setup before_link 0 (SentPt 0 register_bytes true ∷ Polled (pos 1) ∷ []))) 0 chunk
    heard chunk e =
        let same : 0x80 ∷ [] ≡ chunk = (let n : HeardPt 0 (0x80 ∷ []) ≡ HeardPt 0 chunk = e in cc) in
        subst (CompletesNone (outside_of (linked_turns [] terminal_setup before_link 0 (SentPt 0 register_bytes true ∷ Polled (pos 1) ∷ []))) 0) same first-completes-none

-- ---- what isn't lawful

only-acknowledged : IsEnquiredIn example_pt 0 (SentPt 0 ack true ∷ []) → ⊥
only-acknowledged ([], rest, e) = absurd (let n : SentPt 0 ack true ∷ [] ≡ SentPt 0 enquiry_sent true ∷ rest = e in cc)
only-acknowledged (x ∷ [], rest, e) = absurd (let n : SentPt 0 ack true ∷ [] ≡ x ∷ SentPt 0 enquiry_sent true ∷ rest = e in cc)
only-acknowledged (x ∷ y ∷ first, rest, e) = absurd (let n : SentPt 0 ack true ∷ [] ≡ x ∷ y ∷ (first ++ SentPt 0 enquiry_sent true ∷ rest) = e in cc)

pub poll-before-split-enquiry : PollBeforeSplitEnquiry
unfolding decode_apdus decode_apdus_within decode_pt_message
poll-before-split-enquiry = record {
  before = lawful-along split_log split_course refl (from-start (after_start split_course) refl);
  with_turn = λ lawful.
      only-acknowledged (done-at-once-is-enquired [] before_link said_first (SentPt 0 ack true ∷ []) [] terminal_setup example_pt 0 rest_chunk (ack_apdu ∷ done_apdu ∷ []) [] (pos 3) lawful before-link-quiet refl first-silent (refl, tt) (sent-lasts ack, tt) rest-completes both-are-done);
}
