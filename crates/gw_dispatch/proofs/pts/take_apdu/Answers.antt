-- Proof of the contract of `take_apdu`.
use Rattle.std.proofs.Common.{◌≡◌, ◌++◌, ℕ, [], sym, ◌∙◌, ap, subst}
use Rattle.std.specs.Prelude.{Ok, Err, Some, None, false, slice_get}
use Rattle.std.proofs.lemmas.Int.{to_z-of_z}
use Rattle.zvt_apdu.specs.declared.fault.ApduFault.{ApduFault}
use Rattle.zvt_apdu.specs.declared.fault.ApduFault.TheVariants.{TooLong}
use Rattle.zvt_apdu.specs.Decode.{DecodedApdu, decode_apdu}
use Rattle.zvt_apdu.specs.Grammar.{value_of}
use Rattle.zvt_apdu.specs.Results.{LeavesBytes, ReturnsApdu}
use Rattle.zvt_apdu.proofs.DecodeLemmas.{begins_whole}
use Rattle.gw_dispatch.specs.Apdus.{items_held}
use Rattle.gw_dispatch.specs.MidRound.{AreHeard, HeldRound, is_linked_in}
use Rattle.gw_dispatch.proofs.ApduLemmas.{less-apdu, rest-waiting}
use Rattle.gw_dispatch.proofs.HandleLemmas.{disk-done, disk-failed}
use Rattle.gw_dispatch.proofs.ReaderLemmas.{still-same}
use Rattle.gw_dispatch.proofs.RunStateLemmas.{well-core}
use Rattle.gw_dispatch.proofs.PtsLemmas.{apdu-first, apdu-handled, apdu-cut, apdu-waits, oversized-cut}
use Rattle.gw_dispatch.proofs.pts.take_apdu.Goals as goal
use Rattle.gw_dispatch.proofs.pts.take_apdu.Goals.{in-Ok-Some+in-Ok-false, in-Err}

-- the only fault is a length above the limit
too-long : (fault : ApduFault) (decoded : DecodedApdu) → ReturnsApdu (Err fault) decoded → (n : ℕ) × (decoded ≡ DecodedApdu.TooLong n)
too-long (TooLong n) decoded e = (n, e)

pub returns-in-Ok-None-clause-triple : goal.returns-in-Ok-None-clause-triple
returns-in-Ok-None-clause-triple g c =
    let none : decode_apdu c.args.reader.now ≡ DecodedApdu.Incomplete = subst (λ r. ReturnsApdu r (decode_apdu c.args.reader.now)) (c.in-Ok-None.is ∙ ap Ok c.in-Ok-None.field-0-is) c.next.ensures.computes in
    apdu-waits _ c.args.state.now c.args.tills.now.list.items c.args.now c.args.pt c.args.reader.now none

pub returns-in-Ok-None-clause-reader : goal.returns-in-Ok-None-clause-reader
returns-in-Ok-None-clause-reader g c =
    let none : decode_apdu c.args.reader.now ≡ DecodedApdu.Incomplete = subst (λ r. ReturnsApdu r (decode_apdu c.args.reader.now)) (c.in-Ok-None.is ∙ ap Ok c.in-Ok-None.field-0-is) c.next.ensures.computes in
    let leaves : LeavesBytes c.args.reader.now (Ok None) c.next.follows.lender-at-none =
    subst (λ r. LeavesBytes c.args.reader.now r c.next.follows.lender-at-none) (c.in-Ok-None.is ∙ ap Ok c.in-Ok-None.field-0-is) c.next.follows.holds-at-none in
    record { waits = ap decode_apdu leaves.1 ∙ none; rest = λ linked. leaves.1 ∙ sym (rest-waiting c.args.reader.now none) }

pub on_apdu-requires-clause-within : goal.on_apdu-requires-clause-within
on_apdu-requires-clause-within g c =
    let leaves : LeavesBytes c.args.reader.now (Ok (Some c.in-Ok-Some.apdu)) c.next.follows.lender-at-none =
    subst (λ r. LeavesBytes c.args.reader.now r c.next.follows.lender-at-none) (c.in-Ok-Some.is ∙ ap Ok c.in-Ok-Some.field-0-is) c.next.follows.holds-at-none in
    leaves.1.within

pub returns-in-Ok-true-clause-triple : goal.returns-in-Ok-true-clause-triple
returns-in-Ok-true-clause-triple g c =
    let leaves : LeavesBytes c.args.reader.now (Ok (Some c.in-Ok-Some.apdu)) c.next.follows.lender-at-none =
    subst (λ r. LeavesBytes c.args.reader.now r c.next.follows.lender-at-none) (c.in-Ok-Some.is ∙ ap Ok c.in-Ok-Some.field-0-is) c.next.follows.holds-at-none in
    apdu-handled _ _ c.args.state.now c.on_apdu.new.state c.args.tills.now.list.items c.on_apdu.new.tills.list.items c.args.now c.args.pt c.args.reader.now c.next.follows.lender-at-none (value_of c.in-Ok-Some.apdu) (begins_whole _ _ _ leaves)
    (λ setup polls heard items. disk-done _ _ c.on_apdu.result _ _ (λ linked. HeldRound setup c.on_apdu.new.state c.on_apdu.new.tills.list.items polls c.args.now (AreHeard heard) [] items) c.in-Ok-true.is (simp (to_z-of_z, c.ranges.now) at (c.on_apdu.ensures.triple setup polls heard items)))

pub returns-in-Ok-true-clause-reader : goal.returns-in-Ok-true-clause-reader
returns-in-Ok-true-clause-reader g c =
    let leaves : LeavesBytes c.args.reader.now (Ok (Some c.in-Ok-Some.apdu)) c.next.follows.lender-at-none =
    subst (λ r. LeavesBytes c.args.reader.now r c.next.follows.lender-at-none) (c.in-Ok-Some.is ∙ ap Ok c.in-Ok-Some.field-0-is) c.next.follows.holds-at-none in
    less-apdu c.args.reader.now (value_of c.in-Ok-Some.apdu) c.next.follows.lender-at-none (begins_whole _ _ _ leaves)

pub returns-in-Err-on_apdu-clause-triple : goal.returns-in-Err-on_apdu-clause-triple
returns-in-Err-on_apdu-clause-triple g c = λ setup polls heard items.
    let leaves : LeavesBytes c.args.reader.now (Ok (Some c.in-Ok-Some.apdu)) c.next.follows.lender-at-none =
    subst (λ r. LeavesBytes c.args.reader.now r c.next.follows.lender-at-none) (c.in-Ok-Some.is ∙ ap Ok c.in-Ok-Some.field-0-is) c.next.follows.holds-at-none in
    apdu-first _ _ c.args.state.now c.args.tills.now.list.items c.args.now c.args.pt c.args.reader.now c.next.follows.lender-at-none (value_of c.in-Ok-Some.apdu) (begins_whole _ _ _ leaves) setup polls heard items _
    (disk-failed _ _ c.on_apdu.result _ _ (λ linked. HeldRound setup c.on_apdu.new.state c.on_apdu.new.tills.list.items polls c.args.now (AreHeard heard) [] (items_held c.args.pt c.next.follows.lender-at-none ++ items)) c.in-Err-on_apdu.is
    (simp (to_z-of_z, c.ranges.now) at (c.on_apdu.ensures.triple setup polls heard (items_held c.args.pt c.next.follows.lender-at-none ++ items))))

pub returns-clause-triple : goal.returns-clause-triple
returns-clause-triple g c = λ setup polls heard items.
    elim c.match-next.branch [
      | in-Ok-Some+in-Ok-false w ↦
          rw (w.state-is, w.tills-is, w.site-is) (
          let leaves : LeavesBytes c.args.reader.now (Ok (Some w.in-Ok-Some.apdu)) c.next.follows.lender-at-none =
          subst (λ r. LeavesBytes c.args.reader.now r c.next.follows.lender-at-none) (w.in-Ok-Some.is ∙ ap Ok w.in-Ok-Some.field-0-is) c.next.follows.holds-at-none in
          let unlinked : is_linked_in (slice_get w.on_apdu.new.state.core.terminals c.args.pt) ≡ false = sym w.in-Ok-false.ensures.linked ∙ w.in-Ok-false.field-0-test in
          apdu-cut _ _ c.args.state.now w.on_apdu.new.state c.args.tills.now.list.items w.on_apdu.new.tills.list.items c.args.now c.args.pt c.args.reader.now c.next.follows.lender-at-none (value_of w.in-Ok-Some.apdu) (begins_whole _ _ _ leaves) unlinked
          (λ setup polls heard items. disk-done _ _ w.on_apdu.result _ _ (λ linked. HeldRound setup w.on_apdu.new.state w.on_apdu.new.tills.list.items polls c.args.now (AreHeard heard) [] items) w.in-Ok-false.is (simp (to_z-of_z, c.ranges.now) at (w.on_apdu.ensures.triple setup polls heard items)))
          setup polls heard items)
      | in-Err w ↦
          rw (w.state-is, w.tills-is, w.site-is) (
          let fault : ReturnsApdu (Err w.in-Err.field-0) (decode_apdu c.args.reader.now) = subst (λ r. ReturnsApdu r (decode_apdu c.args.reader.now)) w.in-Err.is c.next.ensures.computes in
          let long = too-long w.in-Err.field-0 (decode_apdu c.args.reader.now) fault in
          oversized-cut _ _ c.args.state.now (record c.args.state.now { core = w.on_oversized.new.core }) c.args.tills.now.list.items w.on_oversized.new.tills.list.items c.args.now c.args.pt c.args.reader.now long.0 long.1
          (λ setup polls heard items. simp (to_z-of_z, c.ranges.now) at (w.on_oversized.ensures.triple setup c.args.state.now.records.ledger.records polls heard items))
          setup polls heard items)
    ]

pub returns-clause-well : goal.returns-clause-well
returns-clause-well g c =
    elim c.match-next.branch [
      | in-Ok-Some+in-Ok-false w ↦ rw (w.state-is, w.site-is) w.in-Ok-false.ensures.well
      | in-Err w ↦ rw (w.state-is, w.site-is) (well-core c.args.state.now w.on_oversized.new.core _ _ c.requires.well w.on_oversized.ensures.order w.on_oversized.ensures.dialogues w.on_oversized.ensures.goes_on)
    ]

pub returns-in-Ok-None-clause-still : goal.returns-in-Ok-None-clause-still
returns-in-Ok-None-clause-still g c = still-same c.args.tills.now.list.items

pub returns-clause-still : goal.returns-clause-still
returns-clause-still g c =
    elim c.match-next.branch [
      | in-Ok-Some+in-Ok-false w ↦ rw w.tills-is w.on_apdu.ensures.still
      | in-Err w ↦ rw w.tills-is w.on_oversized.ensures.still
    ]
