-- The examples: the scripts are read, the logs are those of them, and have their texts.
use Rattle.std.proofs.Common.{◌≡◌, List, true, false, [], ◌∷◌, ◌++◌, refl, arith, inl, inr}
use Rattle.std.proofs.lemmas.List.Elements.{All-from_recursion}
use Rattle.std.specs.Prelude.{pos, Ok}
use Rattle.std.specs.Str.{is_utf8, chars}
use Rattle.std.specs.Fmt.{digits}
use lib.Utf8.{encode}
use Rattle.gw_base.specs.Setup.{IsPt, IsSetup}
use Rattle.gw_base.proofs.BcdLemmas.{passes_bcd}
use Rattle.hex.specs.Hex.{decode_pairs, encode_with}
use Rattle.sale_frame.specs.Grammar.{frame}
use Rattle.gw_site.specs.declared.turn.Turn.TheVariants.{Start, Polled, Opened, HeardTill, Lost, Stopped, Linked, LinkFailed, SentTill, SentPt, CutPt}
use Rattle.gw_script.specs.site.ByLines.{GoesByLines}
use Rattle.gw_script.specs.site.ScriptLine.{Open, FromTill, Lose, Tick, FailLink, FailSendPt, At, Poll, Fail, Script, nothing_given}
use Rattle.gw_rules.specs.Acts.{moves_of}
use Rattle.gw_rules.specs.Example.{began_moves, example_setup, first_turns, status_request, status_reply_bytes, status_log, status_course}
use Rattle.gw_rules.specs.Lawful.{IsCourse, turns_of}
use Rattle.gw_rules.specs.RowExample.{register_bytes}
use Rattle.gw_rules.specs.View.{Move, Make, after, at_first, view_from}
use Rattle.gw_rules.specs.TerminalLogExample.{items_begin}
use Rattle.gw_rules.proofs.CourseLemmas.{course-append}
use Rattle.gw_rules.proofs.ExampleLemmas.{status-lawful}
use Rattle.gw_rules.proofs.PrefixLemmas.{lawful-along}
use Rattle.gw_rules.proofs.RowExampleLemmas.{formed}
use Rattle.gw_rules.proofs.TestedLemmas.{course-tested}
use Rattle.gw_rules.proofs.TextLemmas.{ident-tested}
use Rattle.gw_script.specs.site.Decode.{script_of}
use Rattle.gw_run.specs.Example.{status_script, links_script, links_pt, links_setup, links_log, StatusIsOfScript, StatusHasText, LinksIsOfScript, LinksHasText}
use Rattle.gw_run.proofs.ByLinesLemmas.{log-by-lines}
use Rattle.gw_run.proofs.ExampleActLemmas.{Doing, ItemsBegin, Step, acts_of, due-of, before_last, onward, power-of, turns-of}

-- ---- a status

-- the script that was read
abbrev status_read : Script
status_read = record { given = nothing_given; lines = Poll (Open 1) ∷ Poll (FromTill 1 (frame status_request)) ∷ [] }

status-served : script_of status_script ≡ Ok status_read
unfolding status_request is_utf8 chars encode decode_pairs
status-served = refl

status-goes : GoesByLines status_read.lines status_log
status-goes = record {
  setup = example_setup;
  calls = first_turns;
  later = Polled (pos 0) ∷ Opened 1 ∷ Polled (pos 0) ∷ HeardTill 1 (frame status_request) ∷ SentTill 1 (frame status_reply_bytes) true ∷ Polled (pos 0) ∷ Stopped ∷ [];
  are_calls = (tt, (tt, (tt, tt)));
  log_is = refl;
  goes_on = inr (record {
    calls = [];
    later = Polled (pos 0) ∷ HeardTill 1 (frame status_request) ∷ SentTill 1 (frame status_reply_bytes) true ∷ Polled (pos 0) ∷ Stopped ∷ [];
    not_skipped = λ less. absurd (omega (arith, less));
    are_calls = tt;
    turns_are = refl;
    goes_on = inr (record { calls = SentTill 1 (frame status_reply_bytes) true ∷ []; later = Polled (pos 0) ∷ Stopped ∷ []; not_skipped = λ e. (let h : true ≡ false = e in cc); are_calls = (refl, tt); turns_are = refl; goes_on = refl });
  });
}

pub status-of-script : StatusIsOfScript
status-of-script = (log-by-lines status_script status_read status_log status-served tt).1
    (lawful-along status_log status_course status-lawful.turns status-lawful.lawful, (_, refl, (refl, (refl, (refl, (refl, (refl, (refl, (refl, (refl, (refl, (refl, tt))))))))))), status-goes)

pub status-has-text : StatusHasText
unfolding status_request status_reply_bytes digits encode_with
status-has-text = refl

-- ---- a terminal

-- the script that was read
abbrev links_read : Script
links_read = record {
  given = record nothing_given { terminals = links_pt ∷ [] };
  lines = Poll Tick ∷ Fail (FailSendPt 0 3) ∷ Poll (Lose 0) ∷ At (pos 5) ∷ Poll Tick ∷ Fail (FailLink 0) ∷ At (pos 10) ∷ Poll Tick ∷ [];
}

links-served : script_of links_script ≡ Ok links_read
unfolding is_utf8 chars encode decode_pairs
links-served = refl

links-pt-formed : IsPt links_pt
links-pt-formed = record {
  poi = ident-tested 40 links_pt.poi refl;
  password = (refl, passes_bcd links_pt.password refl);
  config = omega arith;
  none = omega arith;
  answer = (omega arith, omega arith);
  command = (omega arith, omega arith);
}

pub links-formed : IsSetup links_setup
links-formed = record {
  name = formed.name;
  line = formed.line;
  wait = formed.wait;
  slots = formed.slots;
  count = omega arith;
  each = All-from_recursion IsPt (links_pt ∷ []) (links-pt-formed, tt);
  distinct = (All-from_recursion _ [] tt, tt);
}

-- what is done: the site is opened and the file looked at; at each poll what may be late and what may be due passes, and after a link is lost that too
abbrev links_done : List Doing
links_done = Step ∷ Step ∷ Step ∷ Step ∷ Step ∷ Step ∷ ItemsBegin 2 ∷ Step ∷ Step ∷ Step ∷ ItemsBegin 3 ∷ Step ∷ ItemsBegin 2 ∷ Step ∷ Step ∷ Step ∷ Step ∷ ItemsBegin 2 ∷ Step ∷ Step ∷ []

links-turns : turns_of (moves_of (acts_of links_done links_setup links_read.lines)) ≡ links_log
links-turns = refl

-- the moves up to the loss of the link, and those after it
abbrev links_first : List Move
links_first = began_moves links_setup ++ Make (Polled (pos 0)) ∷ (items_begin 2 ++ Make (Linked 0) ∷ Make (SentPt 0 register_bytes true) ∷ Make (Polled (pos 0)) ∷ [])

abbrev links_later : List Move
links_later =
    items_begin 3
    ++ Make (Polled (pos 5))
    ∷ (items_begin 2
    ++ Make (Linked 0) ∷ Make (SentPt 0 (6 ∷ 0 ∷ 6 ∷ []) false) ∷ Make (CutPt 0) ∷ Make (Polled (pos 10))
    ∷ (items_begin 2 ++ Make (LinkFailed 0) ∷ Make (Polled (pos 10)) ∷ Make Stopped ∷ []))

links-lawful : IsCourse at_first (links_first ++ Make (Lost 0) ∷ links_later)
links-lawful =
    course-append at_first links_first (Make (Lost 0) ∷ links_later) ((refl, links-formed), course-tested (after at_first (Make (Start links_setup))) (onward links_first) refl)
    (record { polled = refl; connected_is = refl }, course-tested (after (view_from at_first links_first) (Make (Lost 0))) links_later refl)

pub links-of-script : LinksIsOfScript
links-of-script = record {
  script = links_read;
  script_is = links-served;
  acts = acts_of links_done links_setup links_read.lines;
  done = record { lawful = links-lawful; due = due-of links_done links_setup links_read.lines; log_is = links-turns };
  turns = turns-of links_done links_setup links_read.lines;
  ends = inl (before_last links_log, refl);
  power = power-of links_done links_setup links_read.lines refl;
}

pub links-has-text : LinksHasText
unfolding digits encode_with
links-has-text = refl
