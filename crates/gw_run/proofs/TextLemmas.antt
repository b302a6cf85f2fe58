-- The text of a log, as it is gathered and written.
use Rattle.std.proofs.Common.{◌≡◌, ℕ, zero, suc, ◌+◌, ◌<◌, ◌≤◌, List, [], ◌∷◌, ◌++◌, length, take, drop, get_or, refl, sym, ◌∙◌, ap, append_assoc, append-nil, arith, lit<, true, false}
use Rattle.std.proofs.lemmas.List.{take_all, take_more, take-append-drop}
use Rattle.std.proofs.lemmas.Bool.Decides.{nat_tests}
use Rattle.std.proofs.lemmas.Str.{IsUtf8-from_ascii}
use Rattle.std.specs.List.{list_all}
use Rattle.std.specs.Prelude.{Bool, ◌&&◌, if◌then◌else◌, Option, Some, None, Result, Ok, Err, IsErrAnd}
use Rattle.std.specs.Str.{IsUtf8}
use Rattle.sale_frame.specs.Decode.{is_frame}
use Rattle.gw_bytes.specs.Bytes.{IsPrefix}
use Rattle.gw_site.specs.declared.turn.Turn.{Turn}
use Rattle.gw_script.specs.LogText.{is_space_or_visible, is_printable_frame, turn_text, log_text}
use Rattle.gw_run.specs.LogWritten.{Adds, LogWritten}
use Rattle.gw_run.specs.declared.text.Unwritten.{Unwritten}
use Rattle.gw_run.specs.declared.text.Unwritten.TheVariants.{Memory, Sink}

pub log_text-append : (first second : List Turn) → log_text (first ++ second) ≡ log_text first ++ log_text second
log_text-append [] second = refl
log_text-append (turn ∷ first) second = rw (log_text-append first second) (sym (append_assoc (turn_text turn) (10 ∷ log_text first) (log_text second)))

-- the text of one turn more
pub log_text-more : (log : List Turn) (index : ℕ) (turn : Turn) → index < length log → turn ≡ get_or log index turn → log_text (take (index + 1) log) ≡ log_text (take index log) ++ log_text (turn ∷ [])
log_text-more log index turn lt is = rw (take_more log index turn lt, ← is) (log_text-append (take index log) (turn ∷ []))

-- the turns before the count are written, and the lines of those from there to the index wait
pub record Gathered (log : List Turn) (index : ℕ) (lines : List ℕ) (old new : Option (List ℕ)) : Type 0 where
  pub count : ℕ
  pub observed : (written : List ℕ) → old ≡ Some written → new ≡ Some (written ++ log_text (take count log))
  pub waiting : log_text (take index log) ≡ log_text (take count log) ++ lines

pub gathered_none : (log : List Turn) (lines : List ℕ) (out : Option (List ℕ)) → lines ≡ [] → Gathered log 0 lines out out
gathered_none log lines out e = record { count = 0; observed = λ written observed. rw (append-nil written) observed; waiting = sym e }

-- one line more waits
pub gathered_more : (log : List Turn) (index : ℕ) (turn : Turn) (lines more : List ℕ) (old new : Option (List ℕ)) → index < length log → turn ≡ get_or log index turn → more ≡ lines ++ log_text (turn ∷ []) →
    Gathered log index lines old new → Gathered log (index + 1) more old new
gathered_more log index turn lines more old new lt is e gathered = record {
  count = gathered.count;
  observed = gathered.observed;
  waiting = log_text-more log index turn lt is
      ∙ ap (λ text. text ++ log_text (turn ∷ [])) gathered.waiting
      ∙ append_assoc (log_text (take gathered.count log)) lines (log_text (turn ∷ []))
      ∙ ap (λ text. log_text (take gathered.count log) ++ text) (sym e);
}

-- all lines that waited are written
pub gathered_written : (log : List Turn) (index : ℕ) (lines : List ℕ) (old before new : Option (List ℕ)) → Gathered log index lines old before → ((written : List ℕ) → before ≡ Some written → new ≡ Some (written ++ lines)) →
    Gathered log index [] old new
gathered_written log index lines old before new gathered wrote = record {
  count = index;
  observed = λ written e.
      wrote (written ++ log_text (take gathered.count log)) (gathered.observed written e)
      ∙ ap Some (append_assoc written (log_text (take gathered.count log)) lines ∙ ap (λ text. written ++ text) (sym gathered.waiting));
  waiting = sym (append-nil (log_text (take index log)));
}

-- what was written where all turns are gathered and no line waits
pub written_whole : (log : List Turn) (index : ℕ) (old new : Option (List ℕ)) → length log ≤ index → Gathered log index [] old new → Adds old new (λ added. added ≡ log_text log)
written_whole log index old new le gathered = λ written e.
    let all : log_text (take gathered.count log) ≡ log_text log = sym (append-nil (log_text (take gathered.count log))) ∙ sym gathered.waiting ∙ ap log_text (take_all index log le) in
    (log_text (take gathered.count log), all, gathered.observed written e)

-- without memory
pub written_prefix : (log : List Turn) (index : ℕ) (lines : List ℕ) (old new : Option (List ℕ)) (result : Result (Unit {0}) Unwritten) → IsErrAnd result (λ unwritten. unwritten ≡ Memory) → Gathered log index lines old new → Adds old new (LogWritten log result)
written_prefix log index lines old new (Ok done) is gathered = absurd is
written_prefix log index lines old new (Err Memory) is gathered = λ written e.
    (log_text (take gathered.count log), (take gathered.count log, (drop gathered.count log, sym (take-append-drop gathered.count log)), refl), gathered.observed written e)
written_prefix log index lines old new (Err Sink) is gathered = cc

-- where the sink failed
part_prefix : (log : List Turn) (index : ℕ) (sent lines part : List ℕ) → log_text (take index log) ≡ sent ++ lines → IsPrefix part lines → IsPrefix (sent ++ part) (log_text log)
part_prefix log index sent lines part waiting prefix =
    let later = log_text (drop index log) in
    let parts : (sent ++ (part ++ prefix.0)) ++ later ≡ (sent ++ part) ++ (prefix.0 ++ later) = simp append_assoc in (
      prefix.0 ++ later,
      ap log_text (sym (take-append-drop index log))
          ∙ log_text-append (take index log) (drop index log)
          ∙ ap (λ text. text ++ later) (waiting ∙ ap (λ text. sent ++ text) prefix.1)
          ∙ parts,
    )

pub written_part : (log : List Turn) (index : ℕ) (lines : List ℕ) (old before new : Option (List ℕ)) (result : Result (Unit {0}) Unwritten) → IsErrAnd result (λ unwritten. unwritten ≡ Sink) → Gathered log index lines old before →
    ((written : List ℕ) → before ≡ Some written → (part : List ℕ) × IsPrefix part lines × (new ≡ Some (written ++ part))) → Adds old new (LogWritten log result)
written_part log index lines old before new (Ok done) is gathered failed = absurd is
written_part log index lines old before new (Err Memory) is gathered failed = cc
written_part log index lines old before new (Err Sink) is gathered failed = λ written e.
    let sent = log_text (take gathered.count log) in
    let part = failed (written ++ sent) (gathered.observed written e) in
    (sent ++ part.0, part_prefix log index sent lines part.0 gathered.waiting part.1, part.2 ∙ ap Some (append_assoc written sent part.0))

both : (a b : Bool) → (a && b) ≡ true → (a ≡ true) × (b ≡ true)
both true b e = (refl, e)
both false b e = cc

below_128 : (byte : ℕ) → is_space_or_visible byte ≡ true → byte < 128
below_128 byte e = grind (arith, nat_tests)

printable_ascii : (bytes : List ℕ) → list_all is_space_or_visible bytes ≡ true → (i : ℕ) → get_or bytes i 0 < 128
printable_ascii [] e i = lit< tt
printable_ascii (byte ∷ bytes) e zero = below_128 byte (both (is_space_or_visible byte) (list_all is_space_or_visible bytes) e).0
printable_ascii (byte ∷ bytes) e (suc i) = printable_ascii bytes (both (is_space_or_visible byte) (list_all is_space_or_visible bytes) e).1 i

-- what a result of `framed_payload` says of the bytes
found_frame : (one : Bool) (bytes message : List ℕ) → Some message ≡ (if one then Some (drop 4 bytes) else None) → (one ≡ true) × (message ≡ drop 4 bytes)
found_frame true bytes message e = (refl, cc)
found_frame false bytes message e = cc

-- printable bytes are text
pub printable_utf8 : (bytes : List ℕ) → list_all is_space_or_visible bytes ≡ true → IsUtf8 bytes
printable_utf8 bytes e = IsUtf8-from_ascii bytes (printable_ascii bytes e)

-- a printable frame, from its parts
pub printable_from : (bytes message : List ℕ) → Some message ≡ (if is_frame bytes then Some (drop 4 bytes) else None) → list_all is_space_or_visible message ≡ true → Some message ≡ (if is_printable_frame bytes then Some (drop 4 bytes) else None)
printable_from bytes message e printable =
    let frame = found_frame (is_frame bytes) bytes message e in
    let all = rw frame.1 at printable in
    rw (frame.0, all) (ap Some frame.1)
