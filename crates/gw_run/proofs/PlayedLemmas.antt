-- What a play of a script has printed.
use Rattle.std.proofs.Common.{◌≡◌, ℕ, List, ◌++◌, refl, sym, ◌∙◌, ap, subst, append_assoc, inl, inr, true}
use Rattle.std.proofs.Math.Logic.{∥∥₁_map}
use Rattle.std.specs.Prelude.{Option}
use Rattle.gw_bytes.specs.Bytes.{IsPrefix}
use Rattle.gw_site.specs.declared.turn.Turn.{Turn}
use Rattle.gw_script.proofs.site.LeadsLemmas.{prefixes-play}
use Rattle.gw_script.specs.LogText.{log_text}
use Rattle.gw_script.specs.site.Playing.{PlaysLines}
use Rattle.gw_script.specs.site.ScriptLine.{PlayedLine, setup_of}
use Rattle.gw_rules.proofs.PrefixLemmas.{prefix-lawful}
use Rattle.gw_rules.specs.Acts.{moves_of}
use Rattle.gw_rules.specs.Lawful.{IsLawful}
use Rattle.gw_rules.specs.View.{at_first, view_from}
use Rattle.gw_books.specs.PastLaws.{EachLogAgrees}
use Rattle.gw_run.specs.Replay.{HasEnd, HasNumber, IsPlayOf, IsReportedEnd, IsWrittenEnd, PlayPrinted, WritesTail}
use Rattle.gw_run.specs.ScriptLog.{AreOpenings, IsLogOf}
use Rattle.gw_run.specs.Top.{ShowsEnd, IsInput, Prints, Printed, tail_of}
use Rattle.gw_run.specs.declared.ending.Ending.{Ending}
use Rattle.gw_run.specs.declared.ending.Ending.TheVariants.{Played, Words, Long, Line as AtLine, Input, NotOpened, Memory, OutputFailed, Disk, LongJournal, CutJournal, BadSlot}
use Rattle.gw_run.proofs.RefusedLemmas.{openings-prefix}

-- ---- a prefix of a log

-- a prefix of a play is a play
plays-prefix : (lines : List PlayedLine) (prefix log : List Turn) → IsPrefix prefix log → ∥ PlaysLines lines log ∥₁ → ∥ PlaysLines lines prefix ∥₁
plays-prefix lines prefix log (rest, e) plays = ∥∥₁_map plays (λ p. prefixes-play lines prefix rest (subst (λ l. PlaysLines lines l) e p))

-- a prefix of what was played is played in part
pub part-prefix : (text : List ℕ) (ending : Ending) (prefix log : List Turn) → IsPrefix prefix log → IsPlayOf text ending log → IsPlayOf text Memory prefix
part-prefix text ending prefix log f p = record {
  script = p.script;
  script_is = p.script_is;
  lawful = prefix-lawful prefix log f p.lawful;
  openings = openings-prefix (setup_of p.script.given) true prefix f.0 (subst (AreOpenings (setup_of p.script.given) true) f.1 p.openings);
  plays = plays-prefix p.script.lines prefix log f p.plays;
  whole = inl refl;
}

-- ---- what is printed

-- what is printed of a log that was played in part
part-text : EachLogAgrees → (text : List ℕ) (input : Option (List ℕ)) (ending : Ending) (log : List Turn) → IsInput input text → IsPlayOf text ending log → Prints Memory input (log_text log ++ tail_of Memory)
part-text headline text input ending log i p = inr (record { script_text = text; script = p.script; log = log; input_is = i; script_is = p.script_is; lawful = p.lawful; openings = p.openings; plays = p.plays; agrees = headline log p.lawful; is = refl })

-- the log of a script is lawful
lawful-log : (text : List ℕ) (log : List Turn) → IsLogOf text log → IsLawful log
lawful-log text log is = (view_from at_first (moves_of is.acts), record { course = moves_of is.acts; log_is = is.done.log_is; lawful = is.done.lawful; view_is = refl })

-- what is printed of a log that was played whole
whole-text : EachLogAgrees → (text : List ℕ) (input : Option (List ℕ)) (ending : Ending) (log : List Turn) → IsInput input text → IsLogOf text log → ShowsEnd ending log → Prints ending input (log_text log ++ tail_of ending)
whole-text headline text input Played log i is end = record { script = text; log = log; input_is = i; log_is = is; end = end; agrees = headline log (lawful-log text log is); is = refl }
whole-text headline text input NotOpened log i is end = record { script = text; log = log; input_is = i; log_is = is; end = end; agrees = headline log (lawful-log text log is); is = refl }
whole-text headline text input Disk log i is end = record { script = text; log = log; input_is = i; log_is = is; end = end; agrees = headline log (lawful-log text log is); is = refl }
whole-text headline text input Words log i is end = absurd end
whole-text headline text input Long log i is end = absurd end
whole-text headline text input (AtLine line) log i is end = absurd end
whole-text headline text input Input log i is end = absurd end
whole-text headline text input Memory log i is end = absurd end
whole-text headline text input OutputFailed log i is end = absurd end
whole-text headline text input (LongJournal size) log i is end = absurd end
whole-text headline text input (CutJournal slot) log i is end = absurd end
whole-text headline text input (BadSlot slot) log i is end = absurd end

play-text : EachLogAgrees → (text : List ℕ) (input : Option (List ℕ)) (ending : Ending) (log : List Turn) → IsInput input text → IsPlayOf text ending log → Prints ending input (log_text log ++ tail_of ending)
play-text headline text input ending log i p = elim p.whole [
  | inl e ↦ subst (λ one. Prints one input (log_text log ++ tail_of one)) (sym e) (part-text headline text input ending log i p)
  | inr w ↦ whole-text headline text input ending log i w.0 w.1
]

end-of-play : (text : List ℕ) (ending : Ending) (log : List Turn) → IsPlayOf text ending log → HasEnd text ending
end-of-play text ending log p = elim p.whole [ inl e ↦ inl e | inr w ↦ inr (inr (log, w.0, w.1)) ]

prefix-prefix : (text added tail : List ℕ) → IsPrefix added tail → IsPrefix (text ++ added) (text ++ tail)
prefix-prefix text added tail (rest, e) = (rest, ap (λ t. text ++ t) e ∙ sym (append_assoc text added rest))

-- the fault line of a play's end has no number
no-number : (text : List ℕ) (ending : Ending) (log : List Turn) → IsPlayOf text ending log → HasNumber ending → ⊥
no-number text ending log p = elim p.whole [ inl e ↦ (λ n. subst HasNumber e n) | inr w ↦ numbered ending log w.1 ]
  where
    numbered : (ending : Ending) (log : List Turn) → ShowsEnd ending log → HasNumber ending → ⊥
    numbered Played log end n = n
    numbered NotOpened log end n = n
    numbered Disk log end n = n
    numbered Words log end n = end
    numbered Long log end n = end
    numbered (AtLine line) log end n = end
    numbered Input log end n = end
    numbered Memory log end n = end
    numbered OutputFailed log end n = end
    numbered (LongJournal size) log end n = end
    numbered (CutJournal slot) log end n = end
    numbered (BadSlot slot) log end n = end

-- the lines after a text, written in full or in part
printed-after : (script : List ℕ) (ending result : Ending) (input : Option (List ℕ)) (text added : List ℕ)
    → (HasNumber ending → ⊥) → HasEnd script ending → Prints ending input (text ++ tail_of ending) → WritesTail ending result added → Printed (HasEnd script) input result (text ++ added)
printed-after script ending result input text added never end w (inl (same, all)) = rw (same, all) (inl w)
printed-after script ending result input text added never end w (inr (inl (m, numbered, a))) = absurd (never numbered)
printed-after script ending result input text added never end w (inr (inr (failed, (observed, inl same, prefix)))) = inr (
  failed,
  record {
    ending = ending;
    whole = text ++ tail_of ending;
    could = end;
    prints = w;
    prefix = prefix-prefix text added (tail_of ending) (rw same at prefix);
  },
)
printed-after script ending result input text added never end w (inr (inr (failed, (observed, inr other, prefix)))) = absurd (never other.1)

-- the log was written, and the lines after it
pub log-printed : EachLogAgrees → (script : List ℕ) (ending result : Ending) (log : List Turn) (first added : List ℕ) → IsPlayOf script ending log → first ≡ log_text log → WritesTail ending result added → PlayPrinted script result (first ++ added)
log-printed headline script ending result log first added p f t = λ input i.
    subst (λ l. Printed (HasEnd script) input result (l ++ added)) (sym f)
    (printed-after script ending result input (log_text log) added (no-number script ending log p) (end-of-play script ending log p) (play-text headline script input ending log i p) t)

-- a prefix of the log's text was written, and then no more
pub log-unprinted : EachLogAgrees → (script : List ℕ) (ending : Ending) (log : List Turn) (added : List ℕ) → IsPlayOf script ending log → IsPrefix added (log_text log) → PlayPrinted script OutputFailed added
log-unprinted headline script ending log added p (rest, e) = λ input i. inr (
  refl,
  record {
    ending = Memory;
    whole = log_text log ++ tail_of Memory;
    could = inl refl;
    prints = part-text headline script input ending log i p;
    prefix = (rest ++ tail_of Memory, ap (λ t. t ++ tail_of Memory) e ∙ append_assoc added rest (tail_of Memory));
  },
)

-- how the end of a play is reported
pub written-end : (ending result : Ending) → IsReportedEnd ending result → IsWrittenEnd ending result
written-end ending result (inl same) = inl same
written-end ending result (inr (inl (memory, numbered))) = inr (inl memory)
written-end ending result (inr (inr failed)) = inr (inr failed)

-- and without memory for its log
pub memory-end : (ending result : Ending) → IsReportedEnd Memory result → IsWrittenEnd ending result
memory-end ending result (inl same) = inr (inl same)
memory-end ending result (inr (inl (memory, numbered))) = inr (inl memory)
memory-end ending result (inr (inr failed)) = inr (inr failed)
