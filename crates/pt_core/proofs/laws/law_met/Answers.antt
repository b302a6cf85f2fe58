-- What is met changes a terminal as its history says, from the laws of the stream of APDUs.
use Rattle.std.proofs.Common.{ℕ, List, cond, None, Some, [], ◌++◌, refl, sym, ap, append_assoc}
use Rattle.std.specs.Prelude.{◌||◌}
use Rattle.zvt_apdu.specs.Decode.{decode_apdu}
use Rattle.zvt_apdu.specs.Grammar.{ApduValue}
use Rattle.zvt_apdu.specs.DecodeStream.{DecodedApdus, decode_apdus}
use Rattle.pt_core.specs.Serving.{TerminalValue, is_bad}
use Rattle.pt_core.specs.History.{Setting, terminal_account, all_handled, sent_for, earlier, handled, is_cut_by, link_bytes}
use Rattle.pt_core.proofs.SplitLemmas.{Laws}
use Rattle.pt_core.proofs.HistoryLemmas.{adds}
use Rattle.pt_core.proofs.laws.law_met.Goals as goal

pub returns-clause-fresh : goal.returns-clause-fresh
returns-clause-fresh c setting =
    let e = c.law_decode_apdus.ensures.incomplete [] refl in
    ap (λ (s : DecodedApdus). let t : TerminalValue = record { account = terminal_account setting (handled setting [] s.apdus); connection = cond (is_cut_by setting [] s.apdus || is_bad (decode_apdu s.rest)) None (Some s.rest) } in t) e

pub returns-clause-bytes : goal.returns-clause-bytes
returns-clause-bytes c setting met bytes =
    let laws : Laws = record { whole = c.law_decode_apdus.ensures.whole; incomplete = c.law_decode_apdus.ensures.incomplete; too_long = c.law_decode_apdus.ensures.too_long } in
    (adds laws setting met bytes).terminal

pub returns-clause-sent : goal.returns-clause-sent
returns-clause-sent c setting met bytes =
    let laws : Laws = record { whole = c.law_decode_apdus.ensures.whole; incomplete = c.law_decode_apdus.ensures.incomplete; too_long = c.law_decode_apdus.ensures.too_long } in
    (adds laws setting met bytes).sent_bytes

pub returns-clause-cut : goal.returns-clause-cut
returns-clause-cut c setting met bytes =
    let laws : Laws = record { whole = c.law_decode_apdus.ensures.whole; incomplete = c.law_decode_apdus.ensures.incomplete; too_long = c.law_decode_apdus.ensures.too_long } in
    (adds laws setting met bytes).cut

pub returns-clause-link : goal.returns-clause-link
returns-clause-link c setting met =
    let e = c.law_decode_apdus.ensures.incomplete [] refl in
    let before = all_handled setting met in
    sym (ap (λ (s : DecodedApdus). let t : TerminalValue = record { account = terminal_account setting (handled setting before s.apdus); connection = cond (is_cut_by setting before s.apdus || is_bad (decode_apdu s.rest)) None (Some s.rest) } in t) e)

-- the terminal after these requests and these bytes on its link
abbrev terminal_at : Setting → List ApduValue → List ℕ → TerminalValue
terminal_at setting before bytes = record {
  account = terminal_account setting (handled setting before (decode_apdus bytes).apdus);
  connection = cond (is_cut_by setting before (decode_apdus bytes).apdus || is_bad (decode_apdu (decode_apdus bytes).rest)) None (Some (decode_apdus bytes).rest);
}

pub returns-clause-chunks : goal.returns-clause-chunks
returns-clause-chunks c setting met first second = ap (terminal_at setting (earlier setting met)) (append_assoc (link_bytes met) first second)

pub returns-clause-chunks_sent : goal.returns-clause-chunks_sent
returns-clause-chunks_sent c setting met first second =
    ap (λ (b : List ℕ). sent_for setting (earlier setting met) (decode_apdus b).apdus) (append_assoc (link_bytes met) first second)
