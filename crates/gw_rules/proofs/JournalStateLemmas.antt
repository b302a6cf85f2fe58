-- What a log leaves of its journal, and of one that is open, from whichever log before it.
use Rattle.std.proofs.Common.{◌≡◌, ℕ, ◌+◌, ◌*◌, ◌<◌, List, [], ◌∷◌, ◌++◌, length, refl, sym, ◌∙◌, ap, subst, append-nil}
use Rattle.std.specs.Prelude.{get_or, Option, Some, None}
use Rattle.gw_site.specs.Image.{Image}
use Rattle.gw_site.specs.Outside.{Outside, outside_of}
use Rattle.gw_site.specs.declared.turn.Turn.{Turn}
use Rattle.gw_site.specs.declared.turn.Turn.TheVariants.{Synced, Crash}
use Rattle.gw_site.proofs.OutsideLemmas.{outside_of_more}
use Rattle.jrn_log.specs.Foreign.{LeavesJournals, LeavesDisk, EndsClosed, append_turns}
use Rattle.jrn_log.specs.Journal.{IsAtRest, AreKept}
use Rattle.jrn_log.specs.JournalLogs.{HasGateAfter, IsOpenWith}
use Rattle.jrn_log.specs.JournalTurns.{first_gate}
use Rattle.jrn_log.specs.Slots.{AreSlots}
use Rattle.jrn_log.proofs.AppendLemmas.{append_rests}
use Rattle.jrn_log.proofs.ForeignLemmas.{append_closed, append_leaves, beginning_leaves, crash_leaves, file_can, opening_closed, opening_leaves, others_leave}
use Rattle.jrn_log.proofs.JournalLogLemmas.{opening_rests}
use Rattle.jrn_log.proofs.SlotLemmas.{push_length}

-- whatever a power failure leaves a journal can have left, and the journal with these bodies is open, where one is
abbrev pub JournalState : List Turn → Option (List (List ℕ)) → Type 0
JournalState log None = LeavesJournals log
JournalState log (Some bodies) = LeavesJournals log × IsOpenWith log bodies

pub state-leaves : (log : List Turn) (state : Option (List (List ℕ))) → JournalState log state → LeavesJournals log
state-leaves log None h = h
state-leaves log (Some bodies) h = h.0

pub state-open : (log : List Turn) (bodies : List (List ℕ)) → JournalState log (Some bodies) → IsOpenWith log bodies
state-open log bodies h = h.1

-- before the first turn
pub state-first : JournalState [] None
state-first = beginning_leaves

-- an opening up to one of its turns, and the whole of one
pub state-opening : (log : List Turn) (state : Option (List (List ℕ))) (made rest : List Turn) → JournalState log state → first_gate (length (outside_of log).file) ≡ made ++ rest → JournalState (log ++ Synced ∷ made) None
state-opening log state made rest h parts = opening_leaves log made rest (file_can log (state-leaves log state h)) parts

pub state-opened : (log : List Turn) (state : Option (List (List ℕ))) (bodies : List (List ℕ)) → JournalState log state → AreSlots (outside_of log).file bodies → HasGateAfter (outside_of log).file (length bodies)
    → JournalState (log ++ Synced ∷ first_gate (length (outside_of log).file)) (Some bodies)
state-opened log state bodies h slots gate =
    let turns = first_gate (length (outside_of log).file) in
    let can = file_can log (state-leaves log state h) in
    let rests = opening_rests log bodies slots gate in
    (opening_leaves log turns [] can (sym (append-nil turns)), record { at_rest = rests.0; kept = rests.1; ends = opening_closed log bodies can slots })

-- an append up to one of its turns, and the whole of one
pub state-append : (log : List Turn) (bodies : List (List ℕ)) (body : List ℕ) (made rest : List Turn) → JournalState log (Some bodies) → length body ≡ 255 → append_turns (length bodies) body ≡ made ++ rest → JournalState (log ++ made) None
state-append log bodies body made rest h size parts = append_leaves log bodies body made rest h.1.at_rest h.1.kept h.1.ends size parts

pub state-appended : (log : List Turn) (bodies : List (List ℕ)) (body : List ℕ) → JournalState log (Some bodies) → length body ≡ 255 → JournalState (log ++ append_turns (length bodies) body) (Some (bodies ++ body ∷ []))
state-appended log bodies body h size =
    let after : List Turn = log ++ append_turns (length bodies) body in
    let rests = append_rests log bodies body h.1.at_rest h.1.kept size in
    let n : length bodies + 1 ≡ length (bodies ++ body ∷ []) = sym (push_length bodies body) in (
      append_leaves log bodies body (append_turns (length bodies) body) [] h.1.at_rest h.1.kept h.1.ends size refl,
      record {
        at_rest = subst (λ len. IsAtRest after len) n rests.0;
        kept = rests.1;
        ends = subst (λ len. EndsClosed (outside_of after).file len) n (append_closed log bodies body h.1.at_rest h.1.kept h.1.ends size);
      },
    )

-- a power failure
pub state-failure : (log : List Turn) (state : Option (List (List ℕ))) (file : List ℕ) → JournalState log state → Image (outside_of log) file → JournalState (log ++ Crash file ∷ []) None
state-failure log state file h image = crash_leaves log file (state-leaves log state h) image

-- a turn that leaves the disk as it is
open-alike : (log other : List Turn) (bodies : List (List ℕ)) → (outside_of other).file ≡ (outside_of log).file → (outside_of other).stable ≡ (outside_of log).stable → (outside_of other).written ≡ (outside_of log).written
    → IsOpenWith log bodies → IsOpenWith other bodies
open-alike log other bodies file stable written o = record {
  at_rest = record {
    synced = file ∙ o.at_rest.synced ∙ sym stable;
    clean = written ∙ o.at_rest.clean;
    kept = (bodies, kept, refl);
    gate = subst (λ (f : List ℕ). 256 * length bodies < length f) (sym file) o.at_rest.gate;
    closed = λ e. o.at_rest.closed (sym (ap (λ f. get_or f (256 * length bodies) 0) file) ∙ e);
  };
  kept = kept;
  ends = subst (λ f. EndsClosed f (length bodies)) (sym file) o.ends;
}
  where
    kept : AreKept other bodies
    kept = subst (λ f. AreSlots f bodies) (sym stable) o.kept

pub state-other : (log : List Turn) (state : Option (List (List ℕ))) (turn : Turn) → JournalState log state → LeavesDisk turn → JournalState (log ++ turn ∷ []) state
state-other log None turn h still = others_leave log turn still h
state-other log (Some bodies) turn h still =
    let more = outside_of_more log turn in
    let same = still (outside_of log) in
    (others_leave log turn still h.0, open-alike log (log ++ turn ∷ []) bodies (ap (λ (p : Outside). p.file) more ∙ same.0) (ap (λ (p : Outside). p.stable) more ∙ same.1) (ap (λ (p : Outside). p.written) more ∙ same.2) h.1)
