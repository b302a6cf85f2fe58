-- Any openings, appends and power failures, one after the other, leave what a journal can have left.
use Rattle.std.proofs.Common.{◌≡◌, ℕ, ◌+◌, ◌*◌, ◌<◌, List, [], ◌∷◌, ◌++◌, length, get_or, refl, sym, ◌∙◌, ap, subst, arith, append-nil}
use Rattle.std.specs.Prelude.{Option, None, Some}
use Rattle.gw_site.specs.Outside.{outside_of}
use Rattle.gw_site.specs.declared.turn.Turn.{Turn}
use Rattle.gw_site.specs.declared.turn.Turn.TheVariants.{Synced}
use Rattle.gw_site.proofs.OutsideLemmas.{outside_of_more}
use Rattle.jrn_log.specs.Slots.{AreSlots}
use Rattle.jrn_log.specs.Journal.{IsAtRest, AreKept}
use Rattle.jrn_log.specs.JournalTurns.{first_gate}
use Rattle.jrn_log.specs.Foreign.{LeavesJournals, LeavesDisk, EndsClosed, append_turns}
use Rattle.jrn_log.specs.JournalLogs.{HasGateAfter, IsJournalLog, IsOpenWith}
use Rattle.jrn_log.specs.inner.FileReader.{AreJournalBodies}
use Rattle.jrn_log.proofs.SlotLemmas.{push_length}
use Rattle.jrn_log.proofs.AppendLemmas.{append_rests}
use Rattle.jrn_log.proofs.OpenLemmas.{opened_rest}
use Rattle.jrn_log.proofs.ForeignLemmas.{append_closed, append_leaves, beginning_leaves, crash_leaves, failed_append_leaves, failed_opening_leaves, file_can, opening_closed, opening_leaves, others_leave}

-- a limit of slots that the file keeps within is that of its length
pub opening_rests : (log : List Turn) (bodies : List (List ℕ)) → AreSlots (outside_of log).file bodies → HasGateAfter (outside_of log).file (length bodies) →
    IsAtRest (log ++ Synced ∷ first_gate (length (outside_of log).file)) (length bodies) × AreKept (log ++ Synced ∷ first_gate (length (outside_of log).file)) bodies
opening_rests log bodies s gate =
    let file = (outside_of log).file in
    let found : AreJournalBodies (length file) file bodies = record { fits = λ long. omega (arith, long); slots_are = s; gate = gate } in
    opened_rest log (log ++ Synced ∷ first_gate (length file)) (length file) (length file) bodies refl refl found

opening_opens : (log : List Turn) (bodies : List (List ℕ)) → LeavesJournals log → AreSlots (outside_of log).file bodies → HasGateAfter (outside_of log).file (length bodies) → IsOpenWith (log ++ Synced ∷ first_gate (length (outside_of log).file)) bodies
opening_opens log bodies leaves s gate =
    let rests = opening_rests log bodies s gate in
    record { at_rest = rests.0; kept = rests.1; ends = opening_closed log bodies (file_can log leaves) s }

append_opens : (log : List Turn) (bodies : List (List ℕ)) (body : List ℕ) → IsOpenWith log bodies → length body ≡ 255 → IsOpenWith (log ++ append_turns (length bodies) body) (bodies ++ body ∷ [])
append_opens log bodies body o e =
    let after = log ++ append_turns (length bodies) body in
    let rests = append_rests log bodies body o.at_rest o.kept e in
    let n : length bodies + 1 ≡ length (bodies ++ body ∷ []) = sym (push_length bodies body) in
    record {
      at_rest = subst (λ len. IsAtRest after len) n rests.0;
      kept = rests.1;
      ends = subst (λ len. EndsClosed (outside_of after).file len) n (append_closed log bodies body o.at_rest o.kept o.ends e);
    }

-- a log whose files are those of another is open as it is
open_alike : (log other : List Turn) (bodies : List (List ℕ)) → (outside_of other).file ≡ (outside_of log).file → (outside_of other).stable ≡ (outside_of log).stable → (outside_of other).written ≡ (outside_of log).written → IsOpenWith log bodies → IsOpenWith other bodies
open_alike log other bodies file stable written o = record {
  at_rest = record {
    synced = file ∙ o.at_rest.synced ∙ sym stable;
    clean = written ∙ o.at_rest.clean;
    kept = (bodies, kept, refl);
    gate = subst (λ (f : List ℕ). 256 * length bodies < length f) (sym file) o.at_rest.gate;
    closed = λ e. o.at_rest.closed (sym (ap (λ f. get_or f (256 * length bodies) 0) file) ∙ e);
  };
  kept = kept;
  ends = subst (λ f. EndsClosed f (length bodies)) (sym file) o.ends;
}
  where
    kept : AreKept other bodies
    kept = subst (λ f. AreSlots f bodies) (sym stable) o.kept

others_open : (log : List Turn) (bodies : List (List ℕ)) (turn : Turn) → LeavesDisk turn → IsOpenWith log bodies → IsOpenWith (log ++ turn ∷ []) bodies
others_open log bodies turn still o =
    let more = outside_of_more log turn in
    let same = still (outside_of log) in
    open_alike log (log ++ turn ∷ []) bodies (ap (λ p. p.file) more ∙ same.0) (ap (λ p. p.stable) more ∙ same.1) (ap (λ p. p.written) more ∙ same.2) o

-- what is so after each such log
abbrev Holds : List Turn → Option (List (List ℕ)) → Type 0
Holds log None = LeavesJournals log
Holds log (Some bodies) = LeavesJournals log × IsOpenWith log bodies

holds_leave : (log : List Turn) (state : Option (List (List ℕ))) → Holds log state → LeavesJournals log
holds_leave log None h = h
holds_leave log (Some bodies) h = h.0

others_hold : (log : List Turn) (state : Option (List (List ℕ))) (turn : Turn) → LeavesDisk turn → Holds log state → Holds (log ++ turn ∷ []) state
others_hold log None turn still h = others_leave log turn still h
others_hold log (Some bodies) turn still h = (others_leave log turn still h.0, others_open log bodies turn still h.1)

-- the whole of an opening, and of an append, is a part of it with nothing after it
whole_opening : (log : List Turn) (bodies : List (List ℕ)) → LeavesJournals log → AreSlots (outside_of log).file bodies → HasGateAfter (outside_of log).file (length bodies) → Holds (log ++ Synced ∷ first_gate (length (outside_of log).file)) (Some bodies)
whole_opening log bodies leaves s gate =
    let turns = first_gate (length (outside_of log).file) in
    (opening_leaves log turns [] (file_can log leaves) (sym (append-nil turns)), opening_opens log bodies leaves s gate)

whole_append : (log : List Turn) (bodies : List (List ℕ)) (body : List ℕ) → IsOpenWith log bodies → length body ≡ 255 → Holds (log ++ append_turns (length bodies) body) (Some (bodies ++ body ∷ []))
whole_append log bodies body o e = (append_leaves log bodies body (append_turns (length bodies) body) [] o.at_rest o.kept o.ends e refl, append_opens log bodies body o e)

holds : (log : List Turn) (state : Option (List (List ℕ))) → IsJournalLog log state → Holds log state
holds _ _ IsJournalLog.NoTurns = beginning_leaves
holds _ _ (IsJournalLog.Opening log state made rest before parts) = opening_leaves log made rest (file_can log (holds_leave log state (holds log state before))) parts
holds _ _ (IsJournalLog.Opened log state bodies before s gate) = whole_opening log bodies (holds_leave log state (holds log state before)) s gate
holds _ _ (IsJournalLog.FailedOpening log state made rest before failed) = failed_opening_leaves log made rest (holds_leave log state (holds log state before)) failed
holds _ _ (IsJournalLog.Append log bodies body made rest before e parts) = let o = (holds log (Some bodies) before).1 in append_leaves log bodies body made rest o.at_rest o.kept o.ends e parts
holds _ _ (IsJournalLog.Appended log bodies body before e) = whole_append log bodies body (holds log (Some bodies) before).1 e
holds _ _ (IsJournalLog.FailedAppend log bodies body made rest before e failed) = let o = (holds log (Some bodies) before).1 in failed_append_leaves log bodies body made rest o.at_rest o.kept o.ends e failed
holds _ _ (IsJournalLog.PowerFailure log state file before image) = crash_leaves log file (holds_leave log state (holds log state before)) image
holds _ _ (IsJournalLog.OtherTurn log state turn before still) = others_hold log state turn still (holds log state before)

pub logs_leave : (log : List Turn) (state : Option (List (List ℕ))) → IsJournalLog log state → LeavesJournals log
logs_leave log state j = holds_leave log state (holds log state j)

pub logs_open : (log : List Turn) (bodies : List (List ℕ)) → IsJournalLog log (Some bodies) → IsOpenWith log bodies
logs_open log bodies j = (holds log (Some bodies) j).1
