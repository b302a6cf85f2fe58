-- What a played terminal sends and keeps, by the few facts alone that it keeps.
use Rattle.std.specs.Prelude.{ℕ, List, [], ◌∷◌, ◌++◌, drop, Option, None, Some, Bool, true, false, if◌then◌else◌}
use Rattle.zvt_apdu.specs.Grammar.{ApduValue}
use Rattle.zvt_apdu.specs.Decode.{DecodedApdu, decode_apdu}
use Rattle.zvt_apdu.specs.DecodeStream.{decode_apdus}
use Rattle.zvt_msg.specs.CommandDecode.{decode_command}
use Rattle.pt_core.specs.declared.book.BookEntry.{BookEntry}
use Rattle.pt_core.specs.declared.play.Play.{Play}
use Rattle.pt_core.specs.declared.play.Play.TheVariants as play
use Rattle.pt_core.specs.declared.reaction.Reaction.{Reaction}
use Rattle.pt_core.specs.Table.{reaction_at, bytes_of, entries_of, cuts, is_authorisation}

-- the result code with which an enquiry is aborted where there is no transaction, the plays that are left, and the book
pub record AccountValue : Type 0 where
  pub none : ℕ
  pub plays : List Play
  pub book : List BookEntry

-- what a terminal keeps: its account, and what waits on its connection, or none where it cut that
pub record TerminalValue : Type 0 where
  pub account : AccountValue
  pub connection : Option (List ℕ)

-- the next play; further payments are approved
abbrev pub first_play : List Play → Play
first_play [] = play.Approve
first_play (first ∷ plays) = first

-- what is done at a request
abbrev pub reaction_by : AccountValue → ApduValue → Reaction
reaction_by account apdu = reaction_at account.none (first_play account.plays) account.book apdu

-- the plays that are left after a request
abbrev pub plays_after : List Play → ApduValue → List Play
plays_after plays apdu = if is_authorisation (decode_command apdu) then drop 1 plays else plays

-- the account after a request
abbrev pub account_after : AccountValue → ApduValue → AccountValue
account_after account apdu = record account {
  plays = plays_after account.plays apdu;
  book = account.book ++ entries_of (reaction_by account apdu);
}

-- what requests came to: the bytes that were sent, the account, and whether the connection was cut
pub record Served : Type 0 where
  pub bytes : List ℕ
  pub account : AccountValue
  pub cut : Bool

-- these bytes were sent before
abbrev pub after_bytes : List ℕ → Served → Served
after_bytes bytes served = record served { bytes = bytes ++ served.bytes }

-- requests one after another, up to the first at which the connection is cut
abbrev pub served : AccountValue → List ApduValue → Served
served account [] = record { bytes = []; account = account; cut = false }
served account (apdu ∷ apdus) =
    if cuts (reaction_by account apdu)
    then record { bytes = bytes_of (reaction_by account apdu); account = account_after account apdu; cut = true }
    else after_bytes (bytes_of (reaction_by account apdu)) (served (account_after account apdu) apdus)

-- the bytes can't begin an APDU
abbrev pub is_bad : DecodedApdu → Bool
is_bad (DecodedApdu.Whole apdu rest) = false
is_bad DecodedApdu.Incomplete = false
is_bad (DecodedApdu.TooLong n) = true

-- after the requests of a connection comes its rest, at which the connection is cut where it is bad
abbrev pub with_rest : Served → List ℕ → Served
with_rest done rest = if done.cut then done else record done { cut = is_bad (decode_apdu rest) }

-- all the bytes of a connection that wait
abbrev pub heard : AccountValue → List ℕ → Served
heard account bytes = with_rest (served account (decode_apdus bytes).apdus) (decode_apdus bytes).rest

-- what waits on the connection after them
abbrev pub what_waits : Served → List ℕ → Option (List ℕ)
what_waits done bytes = if done.cut then None else Some (decode_apdus bytes).rest

-- what bytes on the connection come to; one that was cut is heard no more
abbrev pub heard_by_terminal : TerminalValue → Option (List ℕ) → List ℕ → Served
heard_by_terminal terminal None bytes = record { bytes = []; account = terminal.account; cut = false }
heard_by_terminal terminal (Some waiting) bytes = heard terminal.account (waiting ++ bytes)

-- the connection after bytes on it
abbrev pub connection_after : TerminalValue → Option (List ℕ) → List ℕ → Option (List ℕ)
connection_after terminal None bytes = None
connection_after terminal (Some waiting) bytes = what_waits (heard terminal.account (waiting ++ bytes)) (waiting ++ bytes)

-- the terminal after bytes on its connection
abbrev pub next_terminal : TerminalValue → List ℕ → TerminalValue
next_terminal terminal bytes = record {
  account = (heard_by_terminal terminal terminal.connection bytes).account;
  connection = connection_after terminal terminal.connection bytes;
}
