-- The rows of what a played terminal says: which calls they owe, and that nothing follows but a stop while a dialogue goes on.
use Rattle.std.proofs.Common.{◌≡◌, ◌≢◌, ℕ, Bool, true, false, ◌&&◌, eqb, List, [], ◌∷◌, ◌++◌, inl, inr, refl, sym, ap, subst}
use Rattle.std.specs.Prelude.{◌||◌, ◌⊎◌, Option, Some, None}
use Rattle.gw_base.specs.declared.setup.Pt.{Pt}
use Rattle.sale_values.specs.declared.header.Header.{Header}
use Rattle.sale_reply.specs.declared.reply.Shown.{Shown}
use Rattle.zvt_msg.specs.declared.command.Command.{Command}
use Rattle.zvt_msg.specs.declared.command.Command.TheVariants as commands
use Rattle.zvt_talk.specs.declared.dialogue_kind.DialogueKind.{DialogueKind}
use Rattle.zvt_talk.specs.declared.dialogue_kind.DialogueKind.TheVariants.{Payment, Reversal}
use Rattle.zvt_talk.specs.declared.meaning.Heard.{Heard}
use Rattle.zvt_talk.specs.declared.meaning.Heard.TheVariants as heard
use Rattle.zvt_talk.specs.Dialogue.{dialogue_kind_of}
use Rattle.zvt_talk.specs.Talk.{is_end}
use Rattle.jrn_record.specs.declared.records.Record.{Record}
use Rattle.gw_owes.specs.declared.terminal.Terminal.{Terminal}
use Rattle.gw_owes.specs.Calls.{Ask, OwedCall, SendPt, CutPt, keep_calls}
use Rattle.gw_owes.specs.Displays.{serving_display}
use Rattle.gw_owes.specs.Handling.{enquiring, enquiry_command, registering}
use Rattle.gw_owes.specs.Reconciliations.{serving_day}
use Rattle.gw_owes.specs.Reply.{ReplyValue}
use Rattle.gw_owes.specs.Row.{Known}
use Rattle.gw_owes.specs.Serving.{serving_transaction, staying, stops}
use Rattle.gw_owes.specs.Terminals.{reply_calls_to}
use Rattle.gw_owes.proofs.HandlingLemmas.{IsShown}
use Rattle.gw_rules.specs.TranscriptLaws.{cut_owed}
use Rattle.gw_books.specs.Past.{ending_with}
use Rattle.gw_books.proofs.Holding.{charges, charge_owed}
use Rattle.gw_played.proofs.Playing.{ask_owed, link_owed}
use Rattle.gw_played.proofs.PeerTalkLemmas.{GoesOn, IsAsked, MayEnd, same-kind}
use Rattle.gw_played.proofs.TakenMessageLemmas.{own-number, other-number, no-true}

-- ---- calls

-- the calls ask no other terminal for anything, link none, and charge none
pub record AreMild (number : ℕ) (calls : List OwedCall) : Type 0 where
  pub asks_others : (other : ℕ) → other ≢ number → ask_owed other calls ≡ false
  pub links_none : (other : ℕ) → link_owed other calls ≡ false
  pub charges_none : (other : ℕ) → charge_owed other calls ≡ false

pub neither : (b : Bool) → ((b && false) || false) ≡ false
neither true = refl
neither false = refl

pub mild-none : (number : ℕ) → AreMild number []
mild-none number = record { asks_others = λ other apart. refl; links_none = λ other. refl; charges_none = λ other. refl }

pub mild-cut : (number : ℕ) → AreMild number (CutPt number ∷ [])
mild-cut number = record { asks_others = λ other apart. refl; links_none = λ other. refl; charges_none = λ other. refl }

pub mild-enquiry : (number : ℕ) (pt : Pt) → AreMild number (SendPt number (Ask (enquiry_command pt)) ∷ [])
mild-enquiry number pt = record {
  asks_others = λ other apart. ap (λ (b : Bool). (b && true) || false) (other-number number other apart);
  links_none = λ other. refl;
  charges_none = λ other. neither (eqb number other);
}

-- a stop asks nothing
pub mild-stop : (number : ℕ) → AreMild number (SendPt number (Ask commands.Stop) ∷ [])
mild-stop number = record { asks_others = λ other apart. neither (eqb number other); links_none = λ other. refl; charges_none = λ other. neither (eqb number other) }

pub mild-replies : (number : ℕ) (asker : Option ℕ) (reply : Option ReplyValue) → AreMild number (reply_calls_to asker reply)
mild-replies number None reply = mild-none number
mild-replies number (Some till) None = mild-none number
mild-replies number (Some till) (Some reply) = record { asks_others = λ other apart. refl; links_none = λ other. refl; charges_none = λ other. refl }

pub mild-kept : (number slot : ℕ) (the_record : Record) (calls : List OwedCall) → AreMild number calls → AreMild number (keep_calls slot the_record ++ calls)
mild-kept number slot the_record calls mild = record { asks_others = mild.asks_others; links_none = mild.links_none; charges_none = mild.charges_none }

pub asks-no-more : (number : ℕ) (asker : Option ℕ) (reply : Option ReplyValue) → ask_owed number (reply_calls_to asker reply) ≡ false
asks-no-more number None reply = refl
asks-no-more number (Some till) None = refl
asks-no-more number (Some till) (Some reply) = refl

pub own-cut : (number : ℕ) → cut_owed number (CutPt number ∷ []) ≡ true
own-cut number = ap (λ (b : Bool). b || false) (own-number number)

pub own-enquiry : (number : ℕ) (pt : Pt) → ask_owed number (SendPt number (Ask (enquiry_command pt)) ∷ []) ≡ true
own-enquiry number pt = ap (λ (b : Bool). (b && true) || false) (own-number number)

-- ---- rows that go on

pub registering-on : (known : Known) (number : ℕ) (terminal : Terminal) (meant : Heard) → GoesOn meant → registering known number terminal meant ≡ staying known number terminal
registering-on known number terminal (heard.Begun stop) on = refl
registering-on known number terminal (heard.Note intermediate_status) on = absurd on
registering-on known number terminal heard.Line on = absurd on
registering-on known number terminal heard.Block on = absurd on
registering-on known number terminal heard.Seen on = refl
registering-on known number terminal (heard.Approved figures) on = absurd on
registering-on known number terminal heard.Done on = absurd on
registering-on known number terminal (heard.Told reported approved result_code) on = absurd on
registering-on known number terminal (heard.Declined result_code reported) on = absurd on
registering-on known number terminal heard.Unclear on = absurd on
registering-on known number terminal heard.Stray on = absurd on

pub enquiring-on : (known : Known) (number : ℕ) (terminal : Terminal) (meant : Heard) → GoesOn meant → enquiring known number terminal meant ≡ staying known number terminal
enquiring-on known number terminal (heard.Begun stop) on = refl
enquiring-on known number terminal (heard.Note intermediate_status) on = absurd on
enquiring-on known number terminal heard.Line on = absurd on
enquiring-on known number terminal heard.Block on = absurd on
enquiring-on known number terminal heard.Seen on = refl
enquiring-on known number terminal (heard.Approved figures) on = absurd on
enquiring-on known number terminal heard.Done on = absurd on
enquiring-on known number terminal (heard.Told reported approved result_code) on = absurd on
enquiring-on known number terminal (heard.Declined result_code reported) on = absurd on
enquiring-on known number terminal heard.Unclear on = absurd on
enquiring-on known number terminal heard.Stray on = absurd on

-- a payment or a reversal goes on, and a stop is sent or not
pub serving-on : (known : Known) (number : ℕ) (terminal : Terminal) (slot last : ℕ) (meant : Heard) → GoesOn meant
    → (serving_transaction known number terminal slot last meant ≡ staying known number terminal) ⊎ (serving_transaction known number terminal slot last meant ≡ stops known number terminal)
serving-on known number terminal slot last (heard.Begun true) on = inr refl
serving-on known number terminal slot last (heard.Begun false) on = inl refl
serving-on known number terminal slot last (heard.Note intermediate_status) on = absurd on
serving-on known number terminal slot last heard.Line on = absurd on
serving-on known number terminal slot last heard.Block on = absurd on
serving-on known number terminal slot last heard.Seen on = inl refl
serving-on known number terminal slot last (heard.Approved figures) on = absurd on
serving-on known number terminal slot last heard.Done on = absurd on
serving-on known number terminal slot last (heard.Told reported approved result_code) on = absurd on
serving-on known number terminal slot last (heard.Declined result_code reported) on = absurd on
serving-on known number terminal slot last heard.Unclear on = absurd on
serving-on known number terminal slot last heard.Stray on = absurd on

-- so does an end of day
pub day-on : (known : Known) (number : ℕ) (terminal : Terminal) (last : ℕ) (header : Header) (meant : Heard) → GoesOn meant
    → (serving_day known number terminal last header meant ≡ staying known number terminal) ⊎ (serving_day known number terminal last header meant ≡ stops known number terminal)
day-on known number terminal last header (heard.Begun true) on = inr refl
day-on known number terminal last header (heard.Begun false) on = inl refl
day-on known number terminal last header (heard.Note intermediate_status) on = absurd on
day-on known number terminal last header heard.Line on = absurd on
day-on known number terminal last header heard.Block on = absurd on
day-on known number terminal last header heard.Seen on = inl refl
day-on known number terminal last header (heard.Approved figures) on = absurd on
day-on known number terminal last header heard.Done on = absurd on
day-on known number terminal last header (heard.Told reported approved result_code) on = absurd on
day-on known number terminal last header (heard.Declined result_code reported) on = absurd on
day-on known number terminal last header heard.Unclear on = absurd on
day-on known number terminal last header heard.Stray on = absurd on

-- where a display goes on nothing follows
pub display-on : (known : Known) (number : ℕ) (terminal : Terminal) (last : ℕ) (header : Header) (results : Option (List Shown)) (meant : Heard) → GoesOn meant
    → (serving_display known number terminal last header results meant ≡ staying known number terminal) ⊎ (serving_display known number terminal last header results meant ≡ stops known number terminal)
display-on known number terminal last header results (heard.Begun stop) on = inl refl
display-on known number terminal last header results (heard.Note intermediate_status) on = absurd on
display-on known number terminal last header results heard.Line on = absurd on
display-on known number terminal last header results heard.Block on = absurd on
display-on known number terminal last header results heard.Seen on = inl refl
display-on known number terminal last header results (heard.Approved figures) on = absurd on
display-on known number terminal last header results heard.Done on = absurd on
display-on known number terminal last header results (heard.Told reported approved result_code) on = absurd on
display-on known number terminal last header results (heard.Declined result_code reported) on = absurd on
display-on known number terminal last header results heard.Unclear on = absurd on
display-on known number terminal last header results heard.Stray on = absurd on

-- what is shown or printed doesn't go on
pub on-unshown : (meant : Heard) → GoesOn meant → IsShown meant → ⊥
on-unshown (heard.Begun stop) on is_shown = is_shown
on-unshown (heard.Note intermediate_status) on is_shown = on
on-unshown heard.Line on is_shown = on
on-unshown heard.Block on is_shown = on
on-unshown heard.Seen on is_shown = is_shown
on-unshown (heard.Approved figures) on is_shown = on
on-unshown heard.Done on is_shown = on
on-unshown (heard.Told reported approved result_code) on is_shown = on
on-unshown (heard.Declined result_code reported) on is_shown = on
on-unshown heard.Unclear on is_shown = on
on-unshown heard.Stray on is_shown = on

-- and is no end
pub end-unshown : (meant : Heard) → is_end meant ≡ true → IsShown meant → ⊥
end-unshown (heard.Begun stop) ends is_shown = is_shown
end-unshown (heard.Note intermediate_status) ends is_shown = no-true (sym ends)
end-unshown heard.Line ends is_shown = no-true (sym ends)
end-unshown heard.Block ends is_shown = no-true (sym ends)
end-unshown heard.Seen ends is_shown = is_shown
end-unshown (heard.Approved figures) ends is_shown = is_shown
end-unshown heard.Done ends is_shown = is_shown
end-unshown (heard.Told reported approved result_code) ends is_shown = is_shown
end-unshown (heard.Declined result_code reported) ends is_shown = is_shown
end-unshown heard.Unclear ends is_shown = is_shown
end-unshown heard.Stray ends is_shown = is_shown

-- what goes on brings no end
pub none-ends : (command : Option ℕ) (meant : Heard) → GoesOn meant → ending_with command meant ≡ None
none-ends command (heard.Begun stop) on = refl
none-ends command (heard.Note intermediate_status) on = absurd on
none-ends command heard.Line on = absurd on
none-ends command heard.Block on = absurd on
none-ends command heard.Seen on = refl
none-ends command (heard.Approved figures) on = absurd on
none-ends command heard.Done on = absurd on
none-ends command (heard.Told reported approved result_code) on = absurd on
none-ends command (heard.Declined result_code reported) on = absurd on
none-ends command heard.Unclear on = absurd on
none-ends command heard.Stray on = absurd on

-- ---- commands that may charge a card

-- such a command begins a dialogue
pub charge-asked : (asked : Command) → charges asked ≡ true → IsAsked asked
charge-asked (commands.Register password config currency) charge = no-true (sym charge)
charge-asked (commands.Authorise amount currency) charge = tt
charge-asked (commands.Enquire password) charge = no-true (sym charge)
charge-asked (commands.Reverse password receipt) charge = tt
charge-asked (commands.EndOfDay password) charge = no-true (sym charge)
charge-asked commands.Stop charge = no-true (sym charge)
charge-asked (commands.Show display_lines) charge = no-true (sym charge)

-- which ends as a payment may
pub charge-ends : (asked : Command) (kind : DialogueKind) (meant : Heard) → charges asked ≡ true → dialogue_kind_of asked ≡ Some kind → MayEnd kind meant → MayEnd Payment meant
charge-ends (commands.Register password config currency) kind meant charge begins may = no-true (sym charge)
charge-ends (commands.Authorise amount currency) kind meant charge begins may = subst (λ (one : DialogueKind). MayEnd one meant) (sym (same-kind Payment kind begins)) may
charge-ends (commands.Enquire password) kind meant charge begins may = no-true (sym charge)
charge-ends (commands.Reverse password receipt) kind meant charge begins may = subst (λ (one : DialogueKind). MayEnd one meant) (sym (same-kind Reversal kind begins)) may
charge-ends (commands.EndOfDay password) kind meant charge begins may = no-true (sym charge)
charge-ends commands.Stop kind meant charge begins may = no-true (sym charge)
charge-ends (commands.Show display_lines) kind meant charge begins may = no-true (sym charge)
