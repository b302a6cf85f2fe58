-- Each end of a dialogue with a played terminal is true of its book.
use Rattle.std.proofs.Common.{List, subst, sym}
use Rattle.gw_bytes.specs.Bytes.{IsPrefix}
use Rattle.zvt_msg.specs.CommandDecode.{decode_command}
use Rattle.zvt_msg.specs.Message.{MessageValue}
use Rattle.zvt_talk.specs.Came.{messages}
use Rattle.pt_core.specs.History.{book_of, play_left, reaction_after}
use Rattle.pt_core.proofs.EndLemmas.{same_messages, true_end}
use Rattle.pt_core.proofs.laws.law_ends.Goals as goal

pub returns : goal.returns
returns c setting before apdu command dialogue came end spells which first e =
    let P : List MessageValue → Type 0 = λ l. IsPrefix (messages came) l in
    true_end 0 setting.none (play_left setting.plays before) (book_of setting before) apdu.class (decode_command apdu) command dialogue came end spells which
    (subst P (sym (same_messages (reaction_after setting before apdu))) first) e
