-- The example log of a terminal that says single bytes until its deadline comes.
use Rattle.std.proofs.Common.{◌≡◌, ◌≢◌, ℕ, List, [], ◌∷◌, ◌++◌, refl, subst, inl, arith, true}
use Rattle.std.specs.Prelude.{◌+◌, ◌≤◌, pos}
use Rattle.gw_site.specs.Outside.{Outside, outside_of}
use Rattle.gw_site.specs.declared.turn.Turn.{Turn}
use Rattle.gw_site.specs.declared.turn.Turn.TheVariants.{Polled, HeardPt, Lost, SentPt, CutPt, Stopped}
use Rattle.zvt_apdu.specs.DecodeStream.{decode_apdus, decode_apdus_within}
use Rattle.zvt_apdu.specs.Grammar.{IsProperApduPrefix}
use Rattle.zvt_apdu.proofs.DecodeStreamLemmas.{split_is}
use Rattle.gw_rules.specs.LinkLaws.{IsPtCutIn}
use Rattle.gw_rules.specs.RowExample.{example_pt, terminal_setup, register_bytes}
use Rattle.gw_rules.specs.SilenceLaws.{CompletesNone, CompleteNone, SaysNothingIn, linked_turns}
use Rattle.gw_rules.specs.TerminalLogExample.{before_link, linked_log, linked_course}
use Rattle.gw_rules.specs.TrickleExample.{trickle_log, trickle_first, trickle_second, linked_view, TrickleIsCut, TrickleIsSilent, PollBeforeTrickleCut}
use Rattle.gw_rules.specs.View.{Make}
use Rattle.gw_rules.proofs.ChunkExampleLemmas.{ack_apdu, one-byte, heard-lasts, sent-lasts}
use Rattle.gw_rules.proofs.LinkedSilenceLemmas.{silent-registration-is-cut}
use Rattle.gw_rules.proofs.PrefixLemmas.{lawful-along}
use Rattle.gw_rules.proofs.TerminalLogLemmas.{before-link-quiet, after_start, from-start, poll-ends-none}
use Rattle.gw_rules.proofs.TestedLemmas.{course-tested}
use Rattle.gw_rules.proofs.TextLemmas.{bytes-tested}

pub trickle-cut : TrickleIsCut
unfolding decode_apdus decode_apdus_within
trickle-cut = record {
  along = record { turns = refl; lawful = from-start (after_start (linked_course ++ trickle_first ++ Make (Polled (pos 5)) ∷ (trickle_second ++ Make (Polled (pos 6)) ∷ Make Stopped ∷ []))) refl };
  standing_is = refl;
}

two-bytes : IsProperApduPrefix (0x80 ∷ 0x00 ∷ [])
two-bytes = (0x00 ∷ [], ack_apdu, (λ e. cc), record { length_bytes = 0x00 ∷ []; is_length = inl (omega arith, refl); within = omega arith; whole = refl })

first-none : CompletesNone (outside_of (linked_log ++ Polled (pos 1) ∷ [])) 0 (0x80 ∷ [])
unfolding decode_apdus decode_apdus_within
first-none = (0x80 ∷ [], record { before = []; rest = []; spelled = split_is [] tt; all = split_is (0x80 ∷ []) (bytes-tested (0x80 ∷ []) refl) }, one-byte)

second-none : CompletesNone (outside_of (linked_log ++ Polled (pos 1) ∷ HeardPt 0 (0x80 ∷ []) ∷ Polled (pos 5) ∷ [])) 0 (0x00 ∷ [])
unfolding decode_apdus decode_apdus_within
second-none = (
  0x80 ∷ 0x00 ∷ [],
  record { before = []; rest = 0x80 ∷ []; spelled = split_is (0x80 ∷ []) (bytes-tested (0x80 ∷ []) refl); all = split_is (0x80 ∷ 0x00 ∷ []) (bytes-tested (0x80 ∷ 0x00 ∷ []) refl) },
  two-bytes,
)

-- these bytes and no others
heard-none : (o : Outside) (bytes chunk : List ℕ) → CompletesNone o 0 bytes → HeardPt 0 bytes ≡ HeardPt 0 chunk → CompletesNone o 0 chunk
heard-none o bytes chunk none e = subst (CompletesNone o 0) (let n : HeardPt 0 bytes ≡ HeardPt 0 chunk = e in cc) none

first-silent : SaysNothingIn (outside_of linked_log) 0 (Polled (pos 1) ∷ HeardPt 0 (0x80 ∷ []) ∷ [])
first-silent = record {
  quiet = (refl, (refl, tt));
  completes_none = (not_polled, (λ chunk e. heard-none (outside_of (linked_log ++ Polled (pos 1) ∷ [])) (0x80 ∷ []) chunk first-none e, tt));
  lasts = (poll-ends-none (pos 1), (heard-lasts (0x80 ∷ []), tt));
}
  where
    not_polled : (chunk : List ℕ) → Polled (pos 1) ≡ HeardPt 0 chunk → CompletesNone (outside_of linked_log) 0 chunk
    not_polled chunk e = absurd (let n : Polled (pos 1) ≡ HeardPt 0 chunk = e in cc)

second-silent : CompleteNone (outside_of (linked_log ++ Polled (pos 1) ∷ HeardPt 0 (0x80 ∷ []) ∷ Polled (pos 5) ∷ [])) 0 (HeardPt 0 (0x00 ∷ []) ∷ CutPt 0 ∷ [])
second-silent = (λ chunk e. heard-none (outside_of (linked_log ++ Polled (pos 1) ∷ HeardPt 0 (0x80 ∷ []) ∷ Polled (pos 5) ∷ [])) (0x00 ∷ []) chunk second-none e, (not_cut, tt))
  where
    not_cut : {o : Outside} → (chunk : List ℕ) → CutPt 0 ≡ HeardPt 0 chunk → CompletesNone o 0 chunk
    not_cut chunk e = absurd (let n : CutPt 0 ≡ HeardPt 0 chunk = e in cc)

not-lost : HeardPt 0 (0x00 ∷ []) ≢ Lost 0
not-lost e = absurd (let n : HeardPt 0 (0x00 ∷ []) ≡ Lost 0 = e in cc)

cut-not-lost : CutPt 0 ≢ Lost 0
cut-not-lost e = absurd (let n : CutPt 0 ≡ Lost 0 = e in cc)

pub trickle-silent : TrickleIsSilent
unfolding decode_apdus decode_apdus_within
trickle-silent = record {
  before = record { course = linked_course; log_is = refl; lawful = from-start (after_start linked_course) refl; view_is = refl };
  may_poll = record { running = refl; calls = refl; items = refl };
  terminal = _;
  found = refl;
  standing_has = tt;
  facts = _;
  talk_is = refl;
  lawful = course-tested linked_view (trickle_first ++ Make (Polled (pos 5)) ∷ trickle_second) refl;
  silent = first-silent;
  late = refl;
  round = (refl, (refl, tt));
  completes_none = second-silent;
  unlost = (not-lost, (cut-not-lost, tt));
  ends = record { running = refl; calls = refl; items = refl };
}

-- ---- what isn't lawful

-- nothing comes of it before but the two bytes
abbrev said_before : List Turn
said_before = SentPt 0 register_bytes true ∷ Polled (pos 1) ∷ HeardPt 0 (0x80 ∷ []) ∷ []

since-linked : SaysNothingIn (outside_of (linked_turns [] terminal_setup before_link 0 [])) 0 said_before
since-linked = record { quiet = (refl, first-silent.quiet); completes_none = (not_sent, first-silent.completes_none); lasts = (sent-lasts register_bytes, first-silent.lasts) }
  where
    not_sent : (chunk : List ℕ) → SentPt 0 register_bytes true ≡ HeardPt 0 chunk → CompletesNone (outside_of (linked_turns [] terminal_setup before_link 0 [])) 0 chunk
    not_sent chunk e = absurd (let n : SentPt 0 register_bytes true ≡ HeardPt 0 chunk = e in cc)

only-heard : IsPtCutIn 0 (HeardPt 0 (0x00 ∷ []) ∷ []) → ⊥
only-heard ([], rest, e) = absurd (let n : HeardPt 0 (0x00 ∷ []) ∷ [] ≡ CutPt 0 ∷ rest = e in cc)
only-heard (x ∷ [], rest, e) = absurd (let n : HeardPt 0 (0x00 ∷ []) ∷ [] ≡ x ∷ CutPt 0 ∷ rest = e in cc)
only-heard (x ∷ y ∷ first, rest, e) = absurd (let n : HeardPt 0 (0x00 ∷ []) ∷ [] ≡ x ∷ y ∷ (first ++ CutPt 0 ∷ rest) = e in cc)

in-time : 0 + 5 ≤ 5
in-time = omega arith

pub poll-before-trickle-cut : PollBeforeTrickleCut
unfolding decode_apdus decode_apdus_within
poll-before-trickle-cut = record {
  before = lawful-along trickle_log (linked_course ++ trickle_first ++ Make (Polled (pos 5)) ∷ Make (HeardPt 0 (0x00 ∷ [])) ∷ []) refl (from-start (after_start (linked_course ++ trickle_first ++ Make (Polled (pos 5)) ∷ Make (HeardPt 0 (0x00 ∷ [])) ∷ [])) refl);
  with_turn = λ lawful.
      only-heard (silent-registration-is-cut [] before_link said_before (HeardPt 0 (0x00 ∷ []) ∷ []) [] terminal_setup example_pt 0 (pos 5) (pos 6) lawful before-link-quiet since-linked (refl, tt) (second-silent.0, tt) (not-lost, tt) refl in-time);
}
