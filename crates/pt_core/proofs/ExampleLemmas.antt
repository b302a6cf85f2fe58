-- The examples of a played terminal, by computing.
use Rattle.std.proofs.Common.{◌≡◌, ℕ, ◌+◌, ◌≤◌, cond, leb, List, [], ◌∷◌, ◌++◌, length, refl, ap, ◌∙◌, arith}
use Rattle.std.specs.Prelude.{◌%◌, false, true}
use Rattle.std.proofs.lemmas.List.{length-replicate}
use Rattle.zvt_apdu.specs.DecodeStream.{decode_apdus, decode_apdus_within}
use Rattle.zvt_bmp.specs.Decode.{decode_field_value, decode_status, decode_status_field, decode_status_within}
use Rattle.zvt_msg.specs.declared.command.Command.TheVariants as command
use Rattle.zvt_msg.specs.CommandDecode.{decode_command}
use Rattle.zvt_msg.specs.MessageDecode.{decode_pt_message}
use Rattle.pt_core.specs.declared.book.BookEntry.{BookEntry}
use Rattle.pt_core.specs.declared.play.Play.TheVariants as play
use Rattle.pt_core.specs.declared.reaction.Reaction.{Reaction}
use Rattle.pt_core.specs.declared.reaction.Reaction.TheVariants as reaction
use Rattle.pt_core.specs.Table.{at_command}
use Rattle.pt_core.specs.Exchange.{Hears, Links}
use Rattle.pt_core.specs.Example.{ExampleBook, ExampleEnd, ExampleHearing, ExampleLastTrace, ExampleMet, ExampleSharedCause, ExampleSince, acknowledgement, approval, approved_came, known_reversal, long_book, payment_bytes, payment_entry, played_dialogue}

pub example_met : ExampleMet
unfolding decode_apdus decode_apdus_within decode_command
example_met = record { part = refl; whole = refl; sent_bytes = refl; three = refl; cut = refl; new_link = refl }

pub example_book : ExampleBook
unfolding decode_apdus decode_apdus_within decode_command
example_book = record { reversed = refl; numbers = (refl, (refl, tt)); unknown = refl; refused = refl }

pub example_end : ExampleEnd
unfolding decode_command
example_end = record { spells = refl; begins = refl; sent_first = ([], refl); ends = refl; true_end = (refl, refl) }

pub example_hearing : ExampleHearing
unfolding decode_apdus decode_apdus_within decode_command decode_pt_message decode_status decode_status_within decode_status_field decode_field_value
example_hearing = record {
  hears = (([], refl), ((approval, refl), tt));
  all_heard = refl;
  places = refl;
  brings = record {
    after = [];
    bytes = approval;
    parts = refl;
    one_link = tt;
    later = [];
    sent = refl;
    command = command.Authorise 1099 978;
    spells = refl;
    dialogue = played_dialogue;
    begins = refl;
    came = approved_came;
    heard = refl;
    ends = refl;
  };
}

pub example_since : ExampleSince
unfolding decode_apdus decode_apdus_within decode_command
example_since = record { one_link = tt; all_heard = refl; since = refl }

two_more : (before all : ℕ) → before ≡ 0 → all ≡ 2 → before + 2 ≤ all
two_more before all is_before is_all = omega arith

pub example_shared_cause : ExampleSharedCause
unfolding decode_apdus decode_apdus_within decode_command
example_shared_cause = record {
  places = refl;
  completes = record { after = []; bytes = payment_bytes ++ known_reversal; before = Links ∷ []; parts = refl; position = refl; two = two_more _ _ refl refl };
}

-- ---- the last trace number

long_length : (count : ℕ) → length (long_book count) ≡ count
unfolding long_book
long_length count = length-replicate count (payment_entry 1)

-- what is done at a payment, by how many entries there are
abbrev payment_with : ℕ → Reaction
payment_with count =
    cond (leb 999999 count) (reaction.Aborted 0x83)
    (reaction.Approved (record { number = count + 1; receipt = (count + 1) % 10000; amount = 1099; reversal = false; approved = true }))

payment_at : (count : ℕ) → at_command 0x83 play.Approve (long_book count) (command.Authorise 1099 978) ≡ payment_with count
payment_at count = ap payment_with (long_length count)

reversal_choice : (count n : ℕ) (other : Reaction) → n ≡ count → leb 999999 count ≡ true → cond (leb 999999 n) (reaction.Aborted 0x83) other ≡ reaction.Aborted 0x83
reversal_choice count n other is full = ap (λ (k : ℕ). cond (leb 999999 k) (reaction.Aborted 0x83) other) is ∙ ap (λ b. cond b (reaction.Aborted 0x83) other) full

pub example_last_trace : ExampleLastTrace
example_last_trace = record {
  many = long_length 999998;
  last = payment_at 999998;
  full = long_length 999999;
  payment = payment_at 999999;
  reversal = reversal_choice 999999 (length (long_book 999999)) _ (long_length 999999) refl;
}
