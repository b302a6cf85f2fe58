-- The examples of files that a journal can have left and can't.
use Rattle.std.proofs.Common.{◌≡◌, ℕ, true, false, List, [], ◌∷◌, ◌++◌, refl, arith}
use Rattle.std.specs.Prelude.{None, Some, slice_index, codes}
use Rattle.std.proofs.lemmas.Bool.{leb-true, ltb-true, le-leb}
use Rattle.jrn_log.specs.Example.{body, opened, two, two_log, gate_lost, TwoAreLeft, FailureIsJournalLog, LostGateIsForeign, TextIsForeign}
use Rattle.gw_site.specs.declared.turn.Turn.{Turn}
use Rattle.gw_site.specs.declared.turn.Turn.TheVariants.{Crash, Synced}
use Rattle.gw_site.proofs.ImageLemmas.{file_image}
use Rattle.jrn_log.specs.Foreign.{EndsClosed, append_turns}
use Rattle.jrn_log.specs.Journal.{IsAtRest}
use Rattle.jrn_log.specs.JournalLogs.{IsJournalLog}
use Rattle.jrn_log.specs.JournalTurns.{body_write, gate_write}
use Rattle.jrn_log.proofs.DecodeLemmas.{decoded_are_slots}
use Rattle.jrn_log.proofs.ForeignLemmas.{closed_can}

two_ends : EndsClosed two 2
two_ends = record { bounded = leb-true 513 769 refl; closed = λ le. refl }

two_rest : IsAtRest two_log 2
two_rest = record {
  synced = refl;
  clean = refl;
  kept = (body 1 ∷ body 2 ∷ [], decoded_are_slots two, refl);
  gate = ltb-true 512 513 refl;
  closed = λ e. (let h : 0 ≡ 165 = e in cc);
}

pub two_are_left : TwoAreLeft
two_are_left = record {
  file_is = refl;
  at_rest = two_rest;
  ends = two_ends;
  fits = record { bounded = leb-true 513 769 refl; closed = λ lt le. refl };
  can_be = closed_can two (body 1 ∷ body 2 ∷ []) (decoded_are_slots two) two_ends;
}

opening_made : IsJournalLog (opened []) (Some [])
opening_made = IsJournalLog.Opened [] None [] IsJournalLog.NoTurns (decoded_are_slots []) (λ lt. absurd (omega (arith, lt)))

append_made : IsJournalLog (opened (append_turns 0 (body 1))) (Some (body 1 ∷ []))
append_made = IsJournalLog.Appended (opened []) [] (body 1) opening_made refl

-- the second append up to the write of its gate
abbrev gate_log : List Turn
gate_log = opened (append_turns 0 (body 1) ++ (body_write 1 (body 2) ∷ Synced ∷ gate_write 1 ∷ []))

gate_made : IsJournalLog gate_log None
gate_made = IsJournalLog.Append (opened (append_turns 0 (body 1))) (body 1 ∷ []) (body 2) (body_write 1 (body 2) ∷ Synced ∷ gate_write 1 ∷ []) (Synced ∷ []) append_made refl refl

failure_made : IsJournalLog (gate_log ++ Crash two ∷ []) None
failure_made = IsJournalLog.PowerFailure gate_log None two gate_made (file_image gate_log)

pub failure_is_journal_log : FailureIsJournalLog
failure_is_journal_log = record {
  file_is = refl;
  is_made = IsJournalLog.Opened (gate_log ++ Crash two ∷ []) None (body 1 ∷ body 2 ∷ []) failure_made (decoded_are_slots two) (λ lt. ltb-true 512 513 refl);
}

pub lost_gate_is_foreign : LostGateIsForeign
lost_gate_is_foreign can = let h : false ≡ true = le-leb 513 257 (can [] (decoded_are_slots gate_lost)).bounded in cc

not_closed : (gate : ℕ) → gate ≡ 0 → gate ≡ 108 → ⊥
not_closed gate closed is = omega arith

pub text_is_foreign : TextIsForeign
text_is_foreign can = not_closed (slice_index (codes "listen") 0) ((can [] (decoded_are_slots (codes "listen"))).closed (ltb-true 1 6 refl) (leb-true 6 256 refl)) refl
