-- A command that may charge a card begins so in its bytes, and nothing else that a terminal is sent does; its bytes say of which kind it is.
use Rattle.std.proofs.Common.{◌≡◌, ◌∙◌, ℕ, Bool, true, false, List, [], ◌∷◌, ◌++◌, refl, sym, ap, Option, Some, None, is_some}
use Rattle.std.specs.Prelude.{◌&&◌, if◌then◌else◌, is_some, Option, Some, None}
use Rattle.gw_bytes.specs.Bytes.{IsPrefix}
use Rattle.zvt_msg.specs.CommandCanonical.{canonical_command}
use Rattle.zvt_msg.specs.declared.command.Command.{Command}
use Rattle.zvt_msg.specs.declared.command.Command.TheVariants as command
use Rattle.gw_owes.specs.Calls.{Sending, Ask, Acknowledge, Refuse, sending_bytes}
use Rattle.gw_rules.proofs.StageLemmas.{no-true}
use Rattle.gw_books.specs.Kinds.{BookedKind, BookedPayment, BookedReversal, kind_of_command, may_charge}
use Rattle.gw_books.proofs.Holding.{charges, sending_charges}

-- ---- kinds

-- what a command asks for, where it may charge a card
abbrev pub kind_asked : Command → Option BookedKind
kind_asked (command.Register password config_byte currency) = None
kind_asked (command.Authorise amount currency) = Some BookedPayment
kind_asked (command.Reverse password receipt) = Some BookedReversal
kind_asked (command.EndOfDay password) = None
kind_asked (command.Enquire password) = None
kind_asked command.Stop = None
kind_asked (command.Show lines) = None

abbrev pub kind_of_sending : Sending → Option BookedKind
kind_of_sending (Ask asked) = kind_asked asked
kind_of_sending Acknowledge = None
kind_of_sending Refuse = None

-- the bytes of each say it
command-kind : (asked : Command) → kind_of_command (canonical_command asked) ≡ kind_asked asked
command-kind (command.Register password config_byte currency) = refl
command-kind (command.Authorise amount currency) = refl
command-kind (command.Reverse password receipt) = refl
command-kind (command.EndOfDay password) = refl
command-kind (command.Enquire password) = refl
command-kind command.Stop = refl
command-kind (command.Show lines) = refl

sending-kind : (sending : Sending) → kind_of_command (sending_bytes sending) ≡ kind_of_sending sending
sending-kind (Ask asked) = command-kind asked
sending-kind Acknowledge = refl
sending-kind Refuse = refl

-- a command of a kind is one that may charge a card
command-charges : (asked : Command) → charges asked ≡ is_some (kind_asked asked)
command-charges (command.Register password config_byte currency) = refl
command-charges (command.Authorise amount currency) = refl
command-charges (command.Reverse password receipt) = refl
command-charges (command.EndOfDay password) = refl
command-charges (command.Enquire password) = refl
command-charges command.Stop = refl
command-charges (command.Show lines) = refl

sending-charges : (sending : Sending) → sending_charges sending ≡ is_some (kind_of_sending sending)
sending-charges (Ask asked) = command-charges asked
sending-charges Acknowledge = refl
sending-charges Refuse = refl

-- ---- beginnings

-- one byte is no beginning of two
no-one : {A : Type 0} (one other : Bool) (kind : BookedKind) → (if one && false then Some BookedPayment else (if other && false then Some BookedReversal else None)) ≡ Some kind → A
no-one true true kind e = absurd cc
no-one true false kind e = absurd cc
no-one false true kind e = absurd cc
no-one false false kind e = absurd cc

-- bytes of a kind are of it with more after them
more-kind : (bytes more : List ℕ) (kind : BookedKind) → kind_of_command bytes ≡ Some kind → kind_of_command (bytes ++ more) ≡ Some kind
more-kind [] more kind e = absurd cc
more-kind (one ∷ []) more kind e = no-one _ _ kind e
more-kind (one ∷ two ∷ bytes) more kind e = e

-- what begins as a command of a kind is the beginning of one
pub kind-sent : (sending : Sending) (bytes : List ℕ) (kind : BookedKind) → IsPrefix bytes (sending_bytes sending) → kind_of_command bytes ≡ Some kind → kind_of_sending sending ≡ Some kind
kind-sent sending bytes kind first e = sym (sending-kind sending) ∙ ap kind_of_command first.1 ∙ more-kind bytes first.0 kind e

-- so it may charge a card
pub charging : (sending : Sending) (bytes : List ℕ) → IsPrefix bytes (sending_bytes sending) → may_charge bytes ≡ true → sending_charges sending ≡ true
charging sending bytes first e = by-kind (kind_of_command bytes) refl e
  where
    by-kind : (found : Option BookedKind) → kind_of_command bytes ≡ found → is_some found ≡ true → sending_charges sending ≡ true
    by-kind None is none = no-true none
    by-kind (Some kind) is some = sending-charges sending ∙ ap (λ (found : Option BookedKind). is_some found) (kind-sent sending bytes kind first is)

-- and such a command begins so
pub charged : (sending : Sending) → sending_charges sending ≡ true → may_charge (sending_bytes sending) ≡ true
charged sending e = ap (λ (found : Option BookedKind). is_some found) (sending-kind sending) ∙ sym (sending-charges sending) ∙ e
