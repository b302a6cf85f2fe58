-- Which terminals are linked after what their items and links leave of them, and which rows link one.
use Rattle.std.proofs.Common.{◌≡◌, ◌≢◌, ◌<◌, ℕ, zero, suc, List, [], ◌∷◌, length, refl, sym, ◌∙◌, ap, subst, arith, Bool, true, false}
use Rattle.std.proofs.lemmas.Bool.{eqb-true, eqb-false, ne_eqb, eq-eqb}
use Rattle.std.specs.Prelude.{◌==◌, ◌++◌, ◌||◌, set, slice_get, Option, Some, None}
use Rattle.gw_site.specs.Outside.{Connection, Outside, outside_after, is_connected, without, new_connection}
use Rattle.gw_site.specs.declared.turn.Turn.TheVariants.{Linked, CutPt as PtCut}
use Rattle.zvt_msg.specs.Message.{MessageValue, Ack, Nack, Intermediate, Line, Block, Status, Completion, Abort, Other}
use Rattle.zvt_apdu.specs.Grammar.{ApduValue}
use Rattle.gw_owes.specs.Calls.{OwedCall, CutPt, SendTill}
use Rattle.gw_owes.specs.Core.{Core}
use Rattle.gw_owes.specs.declared.terminal.Standing.TheVariants.{Ready}
use Rattle.gw_owes.specs.declared.terminal.Terminal.{Terminal}
use Rattle.gw_owes.specs.Row.{Known, Row, owing, owing_where}
use Rattle.gw_owes.specs.Terminals.{terminal_at, of_terminal, reply_calls_to, terminal_becomes, unlinks, unlinked_terminal}
use Rattle.gw_owes.specs.Links.{is_linked, cutting, LinkIsMade, LinkIsLost, link_row}
use Rattle.gw_owes.specs.Greeting.{greeting, sending_calls, greeted_row}
use Rattle.gw_owes.specs.DeviceRequests.{requests_device}
use Rattle.gw_owes.specs.Handling.{handle_row, taking}
use Rattle.gw_owes.specs.Reconciliations.{reply_to_settled}
use Rattle.gw_owes.specs.Reply.{ReplyValue}
use Rattle.gw_owes.specs.Serving.{at_rest, done_with, reply_to_outcome}
use Rattle.gw_owes.specs.Deadlines.{late_row, is_late}
use Rattle.gw_owes.specs.TerminalLaws.{ChangesTerminalAlone}
use Rattle.gw_owes.proofs.HandlingLemmas.{each-terminal, each-linked}
use Rattle.gw_owes.proofs.SetLemmas.{new-is-there}
use Rattle.gw_owes.proofs.TerminalLemmas.{link-changes-alone}
use Rattle.gw_rules.proofs.RowFormLemmas.{EachForm, form-handled}
use Rattle.gw_dispatch.specs.MidRound.{AreLinked, is_linked_in}
use Rattle.gw_dispatch.specs.Wanted.{owes_link}
use Rattle.gw_dispatch.proofs.HeardLemmas.{cut-there, cut-others}

-- ---- terminals that are linked as they were

-- each terminal is linked exactly where it was before
abbrev pub LinksStay : Core → Core → Type 0
LinksStay old new = (number : ℕ) → is_linked_in (slice_get new.terminals number) ≡ is_linked_in (slice_get old.terminals number)

-- the row leaves each terminal linked or not as it was, and links none
pub record KeepsLinks (core : Core) (row : Row) : Type 0 where
  pub stay : LinksStay core row.core
  pub none : owes_link row.calls ≡ false

set-linked : (all : List Terminal) (at number : ℕ) (old new : Terminal) → slice_get all at ≡ Some old → is_linked new.standing ≡ is_linked old.standing
    → is_linked_in (slice_get (set all at new) number) ≡ is_linked_in (slice_get all number)
set-linked [] at number old new found same = refl
set-linked (first ∷ rest) zero zero old new found same = same ∙ ap is_linked_in (sym found)
set-linked (first ∷ rest) zero (suc number) old new found same = refl
set-linked (first ∷ rest) (suc at) zero old new found same = refl
set-linked (first ∷ rest) (suc at) (suc number) old new found same = set-linked rest at number old new found same

pub becomes-keeps : (known : Known) (number : ℕ) (old new : Terminal) (calls : List OwedCall) → terminal_at known number ≡ Some old → is_linked new.standing ≡ is_linked old.standing → owes_link calls ≡ false
    → KeepsLinks known.core (terminal_becomes known number new calls)
becomes-keeps known number old new calls found same none = record { stay = λ other. set-linked known.core.terminals number other old new found same; none = none }

pub owing-keeps : (known : Known) (calls : List OwedCall) → owes_link calls ≡ false → KeepsLinks known.core (owing known calls)
owing-keeps known calls none = record { stay = λ other. refl; none = none }

-- ---- what a message leaves

pub reply-none : (asker : Option ℕ) (reply : Option ReplyValue) → owes_link (reply_calls_to asker reply) ≡ false
reply-none None reply = refl
reply-none (Some till) None = refl
reply-none (Some till) (Some reply) = refl

where-keeps : (there : Bool) (known : Known) (row : Row) → KeepsLinks known.core row → KeepsLinks known.core (owing_where there known row)
where-keeps true known row kept = kept
where-keeps false known row kept = owing-keeps known [] refl

-- each form of what follows from a message of a terminal that is linked
module _ (known : Known) (number : ℕ) (old : Terminal) (found : terminal_at known number ≡ Some old) (linked : is_linked old.standing ≡ true) (terminal : Terminal) (same : terminal.standing ≡ old.standing) where
  becomes : (new : Terminal) (calls : List OwedCall) → is_linked new.standing ≡ true → owes_link calls ≡ false → KeepsLinks known.core (terminal_becomes known number new calls)
  becomes new calls is none = becomes-keeps known number old new calls found (is ∙ sym linked) none

  stays : (calls : List OwedCall) → owes_link calls ≡ false → KeepsLinks known.core (terminal_becomes known number terminal calls)
  stays calls none = becomes-keeps known number old terminal calls found (ap is_linked same) none

  requests : (till : ℕ) (request : ReplyValue) → KeepsLinks known.core (requests_device known number terminal till request)
  requests till request = let kept = stays (SendTill till request ∷ []) refl in record { stay = kept.stay; none = refl }

  forms-keep : EachForm (KeepsLinks known.core) known number terminal
  forms-keep = record {
    nothing = owing-keeps known [] refl;
    stays = stays [] refl;
    cuts = stays (CutPt number ∷ []) refl;
    stops = becomes-keeps known number old _ _ found (ap is_linked same) refl;
    enquires = becomes _ _ refl refl;
    rests = λ standing is. becomes (at_rest terminal standing) [] is refl;
    resolves = λ standing outcome is. becomes (done_with terminal standing) _ is (reply-none terminal.asker (reply_to_outcome known.kept outcome.slot outcome));
    settles = λ last settled. becomes (done_with terminal (Ready last)) _ refl (reply-none terminal.asker (reply_to_settled known.kept settled));
    replies = λ last reply. becomes (done_with terminal (Ready last)) _ refl (reply-none terminal.asker reply);
    requests = λ till request asks. requests till request;
  }

-- a message that was acknowledged or refused
pub handled-keeps : (known : Known) (number : ℕ) (apdu : ApduValue) → KeepsLinks known.core (handle_row known number apdu)
handled-keeps known number apdu =
    form-handled (KeepsLinks known.core) known number apdu (owing-keeps known [] refl)
    (λ terminal message found linked decoded is. forms-keep known number terminal found linked (taking terminal message known.moment) refl)

sending-keeps : (number : ℕ) (message : MessageValue) → owes_link (sending_calls number (greeting message)) ≡ false
sending-keeps number Ack = refl
sending-keeps number (Nack error_code) = refl
sending-keeps number (Intermediate intermediate_status) = refl
sending-keeps number (Line text) = refl
sending-keeps number (Block objects) = refl
sending-keeps number (Status fields) = refl
sending-keeps number Completion = refl
sending-keeps number (Abort result_code) = refl
sending-keeps number Other = refl

-- its greeting
pub greeted-keeps : (known : Known) (number : ℕ) (message : MessageValue) → KeepsLinks known.core (greeted_row known number message)
greeted-keeps known number message =
    each-linked (KeepsLinks known.core) known number (λ terminal. owing known (sending_calls number (greeting message))) (owing-keeps known [] refl)
    (λ terminal found linked. owing-keeps known (sending_calls number (greeting message)) (sending-keeps number message))

-- a silence
pub late-keeps : (known : Known) (number : ℕ) → KeepsLinks known.core (late_row known number)
late-keeps known number =
    each-terminal (KeepsLinks known.core) known number (λ terminal. owing_where (is_late known.moment terminal.talk) known (cutting known number)) (owing-keeps known [] refl)
    (λ terminal found. where-keeps (is_late known.moment terminal.talk) known (cutting known number) (owing-keeps known (CutPt number ∷ []) refl))

-- ---- the links of the log

new-there : (connections : List Connection) (number : ℕ) → is_connected (connections ++ new_connection number ∷ []) number ≡ true
new-there [] number = rw (eq-eqb number number refl) refl
new-there (connection ∷ connections) number = by_test (connection.number == number) refl (new-there connections number)
  where
    by_test : (test : Bool) → (connection.number == number) ≡ test → is_connected (connections ++ new_connection number ∷ []) number ≡ true → is_connected (connection ∷ (connections ++ new_connection number ∷ [])) number ≡ true
    by_test true e h = rw e refl
    by_test false e h = rw e h

new-others : (connections : List Connection) (number other : ℕ) → other ≢ number → is_connected (connections ++ new_connection number ∷ []) other ≡ is_connected connections other
new-others [] number other apart = rw (ne_eqb number other (λ same. apart (sym same))) refl
new-others (connection ∷ connections) number other apart = ap (λ found. (connection.number == other) || found) (new-others connections number other apart)

-- of the terminals one is changed, and of the links its own
one-changes : (old new : Core) (pt : ℕ) (before after : Outside) → ChangesTerminalAlone pt old new → ((other : ℕ) → other ≢ pt → is_connected after.links other ≡ is_connected before.links other)
    → is_connected after.links pt ≡ is_linked_in (slice_get new.terminals pt) → AreLinked old before → AreLinked new after
one-changes old new pt before after alone others own linked number = by_test (number == pt) refl
  where
    by_test : (test : Bool) → (number == pt) ≡ test → is_connected after.links number ≡ is_linked_in (slice_get new.terminals number)
    by_test true e = subst (λ n. is_connected after.links n ≡ is_linked_in (slice_get new.terminals n)) (sym (eqb-true number pt e)) own
    by_test false e =
        let apart : number ≢ pt = eqb-false number pt e in
        others number apart ∙ linked number ∙ ap is_linked_in (sym (alone.others number apart))

-- ---- what a link leaves

lost-unlinked : (known : Known) (number : ℕ) (found : Option Terminal) → terminal_at known number ≡ found → is_linked_in (slice_get (of_terminal known (unlinks known number) found).core.terminals number) ≡ false
lost-unlinked known number None none = ap is_linked_in none
lost-unlinked known number (Some terminal) some = ap is_linked_in (new-is-there known.core.terminals number terminal (unlinked_terminal terminal known.moment) some)

made-linked : (known : Known) (number : ℕ) (terminal : Terminal) → terminal_at known number ≡ Some terminal → is_linked_in (slice_get (link_row known number LinkIsMade).core.terminals number) ≡ true
made-linked known number terminal found = rw found (ap is_linked_in (new-is-there known.core.terminals number terminal _ found))

-- there is a terminal of each number below their count
pub one-there : (all : List Terminal) (at : ℕ) → at < length all → (terminal : Terminal) × (slice_get all at ≡ Some terminal)
one-there [] at inside = absurd (omega arith)
one-there (first ∷ rest) zero inside = (first, refl)
one-there (first ∷ rest) (suc at) inside = one-there rest at (omega arith)

-- after the loss of its link a terminal isn't linked
pub lost-is-unlinked : (known : Known) (number : ℕ) → is_linked_in (slice_get (link_row known number LinkIsLost).core.terminals number) ≡ false
lost-is-unlinked known number = lost-unlinked known number (terminal_at known number) refl

-- the links after a cut
pub cut-linked : (known : Known) (number : ℕ) (o : Outside) → AreLinked known.core o → AreLinked (link_row known number LinkIsLost).core (outside_after o (PtCut number))
cut-linked known number o linked =
    one-changes known.core (link_row known number LinkIsLost).core number o (outside_after o (PtCut number)) (link-changes-alone known number LinkIsLost) (λ other apart. cut-others o.links number other apart)
    (cut-there o.links number ∙ sym (lost-is-unlinked known number)) linked

-- after a link that was made
pub made-linked-so : (known : Known) (number : ℕ) (o : Outside) → number < length known.core.terminals → AreLinked known.core o → AreLinked (link_row known number LinkIsMade).core (outside_after o (Linked number))
made-linked-so known number o inside linked =
    let there = one-there known.core.terminals number inside in
    one-changes known.core (link_row known number LinkIsMade).core number o (outside_after o (Linked number)) (link-changes-alone known number LinkIsMade)
    (λ other apart. new-others (without o.links number) number other apart ∙ cut-others o.links number other apart)
    (new-there (without o.links number) number ∙ sym (made-linked known number there.0 there.1)) linked

-- and after one that could not be made, of a terminal that isn't linked
pub failed-linked : (known : Known) (number : ℕ) (o : Outside) → is_linked_in (slice_get known.core.terminals number) ≡ false → AreLinked known.core o → AreLinked (link_row known number LinkIsLost).core o
failed-linked known number o unlinked linked =
    one-changes known.core (link_row known number LinkIsLost).core number o o (link-changes-alone known number LinkIsLost) (λ other apart. refl) (linked number ∙ unlinked ∙ sym (lost-is-unlinked known number)) linked
