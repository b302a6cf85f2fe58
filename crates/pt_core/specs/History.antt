-- What a played terminal sends and books, by all that it met: the new links, and what it heard on them.
use Rattle.std.specs.Prelude.{ℕ, ◌+◌, List, [], ◌∷◌, ◌++◌, drop, None, Some, Bool, true, false, ◌||◌, slice_get, unwrap_or, if◌then◌else◌}
use Rattle.zvt_apdu.specs.Grammar.{ApduValue}
use Rattle.zvt_apdu.specs.Decode.{decode_apdu}
use Rattle.zvt_apdu.specs.DecodeStream.{decode_apdus}
use Rattle.zvt_msg.specs.CommandDecode.{decode_command}
use Rattle.pt_core.specs.declared.book.BookEntry.{BookEntry}
use Rattle.pt_core.specs.declared.play.Play.{Play}
use Rattle.pt_core.specs.declared.play.Play.TheVariants as play
use Rattle.pt_core.specs.declared.reaction.Reaction.{Reaction}
use Rattle.pt_core.specs.Table.{reaction_at, bytes_of, entries_of, cuts, is_authorisation}
use Rattle.pt_core.specs.Serving.{AccountValue, TerminalValue, is_bad}

-- what a terminal is set up with: the result code with which an enquiry is aborted where there is no transaction, and the plays
pub record Setting : Type 0 where
  pub none : ℕ
  pub plays : List Play

-- one thing that a terminal meets
pub data Met : Type 0 where
  -- a new link
  NewLink : Met
  -- bytes on the present link
  Chunk : (bytes : List ℕ) → Met

-- ---- a list of requests, the newest first

-- how many of the requests are authorisations
abbrev pub count_authorisations : List ApduValue → ℕ
count_authorisations [] = 0
count_authorisations (apdu ∷ before) = count_authorisations before + (if is_authorisation (decode_command apdu) then 1 else 0)

-- the play at a request with these before it: one for each authorisation, in their order, and then approvals
abbrev pub play_left : List Play → List ApduValue → Play
play_left plays before = unwrap_or (slice_get plays (count_authorisations before)) play.Approve

-- the book that requests leave, its oldest entry first: what each of them books after those before it
abbrev pub book_of : Setting → List ApduValue → List BookEntry
book_of setting [] = []
book_of setting (apdu ∷ before) = book_of setting before
    ++ entries_of (reaction_at setting.none (play_left setting.plays before) (book_of setting before) apdu)

-- what is done at a request with these before it
abbrev pub reaction_after : Setting → List ApduValue → ApduValue → Reaction
reaction_after setting before apdu = reaction_at setting.none (play_left setting.plays before) (book_of setting before) apdu

-- ---- the requests of one link, the oldest first, with those of earlier links before them

-- all that are handled, the newest first: of the link's up to the first at which the connection is cut
abbrev pub handled : Setting → List ApduValue → List ApduValue → List ApduValue
handled setting before [] = before
handled setting before (apdu ∷ apdus) =
    if cuts (reaction_after setting before apdu) then apdu ∷ before else handled setting (apdu ∷ before) apdus

-- the connection is cut at one of them
abbrev pub is_cut_by : Setting → List ApduValue → List ApduValue → Bool
is_cut_by setting before [] = false
is_cut_by setting before (apdu ∷ apdus) =
    if cuts (reaction_after setting before apdu) then true else is_cut_by setting (apdu ∷ before) apdus

-- the bytes that are sent for them
abbrev pub sent_for : Setting → List ApduValue → List ApduValue → List ℕ
sent_for setting before [] = []
sent_for setting before (apdu ∷ apdus) =
    if cuts (reaction_after setting before apdu) then bytes_of (reaction_after setting before apdu)
    else bytes_of (reaction_after setting before apdu) ++ sent_for setting (apdu ∷ before) apdus

-- ---- all that was met, the newest first

-- the bytes heard on the present link
abbrev pub link_bytes : List Met → List ℕ
link_bytes [] = []
link_bytes (NewLink ∷ met) = []
link_bytes (Chunk bytes ∷ met) = link_bytes met ++ bytes

-- the whole requests among them
abbrev pub requests : List Met → List ApduValue
requests met = (decode_apdus (link_bytes met)).apdus

-- the requests handled on all earlier links, the newest first
abbrev pub earlier : Setting → List Met → List ApduValue
earlier setting [] = []
earlier setting (NewLink ∷ met) = handled setting (earlier setting met) (requests met)
earlier setting (Chunk bytes ∷ met) = earlier setting met

-- all the requests handled, the newest first
abbrev pub all_handled : Setting → List Met → List ApduValue
all_handled setting met = handled setting (earlier setting met) (requests met)

-- the book
abbrev pub book_after : Setting → List Met → List BookEntry
book_after setting met = book_of setting (all_handled setting met)

-- the terminal has cut the present link: at a request, or at bytes that can't begin one
abbrev pub has_cut : Setting → List Met → Bool
has_cut setting met = is_cut_by setting (earlier setting met) (requests met) || is_bad (decode_apdu (decode_apdus (link_bytes met)).rest)

-- all the bytes sent on the present link
abbrev pub sent_on_link : Setting → List Met → List ℕ
sent_on_link setting met = sent_for setting (earlier setting met) (requests met)

-- ---- what a terminal keeps

-- the account after these requests
abbrev pub terminal_account : Setting → List ApduValue → AccountValue
terminal_account setting before = record {
  none = setting.none;
  plays = drop (count_authorisations before) setting.plays;
  book = book_of setting before;
}

-- the terminal after all that it met
abbrev pub terminal_after : Setting → List Met → TerminalValue
terminal_after setting met = record {
  account = terminal_account setting (all_handled setting met);
  connection = if has_cut setting met then None else Some (decode_apdus (link_bytes met)).rest;
}
