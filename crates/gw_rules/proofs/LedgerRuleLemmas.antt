-- What is kept is the fold of a ledger, and which openings are refused.
use Rattle.std.proofs.Common.{◌≡◌, ◌+◌, ◌*◌, Bool, true, false, List, [], ◌∷◌, ◌++◌, length, refl, sym, ◌∙◌, ap, arith}
use Rattle.std.proofs.lemmas.Bool.{ltb-true}
use Rattle.std.proofs.lemmas.List.Elements.{All-nil, All-cons}
use Rattle.std.specs.Prelude.{nat_lt, ◌||◌, All}
use Rattle.gw_site.specs.Outside.{Outside, outside_of}
use Rattle.jrn_record.specs.Limits.{IsRecord}
use Rattle.jrn_record.specs.declared.records.Record.{Record}
use Rattle.gw_ledger.specs.Fold.{Fit, AreFolded}
use Rattle.gw_ledger.specs.History.{history}
use Rattle.gw_ledger.specs.Sums.{open_count_of}
use Rattle.gw_rules.specs.KeptLaws.{AreInSequence, HadMoreSlots}
use Rattle.gw_rules.specs.LedgerRules.{ledger_rules, EachFileFolds, EachImageFolds, RefusedOnlyWithFewerSlots, RefusedAtLimits}
use Rattle.gw_rules.specs.Scene.{records_of}
use Rattle.gw_rules.proofs.KeptFileLemmas.{owned}
use Rattle.gw_rules.proofs.KeptLawLemmas.{has-kept, holds}
use Rattle.gw_rules.proofs.KeptPhaseLemmas.{Holds}

-- ---- records in order by the ledger's rules are those that a ledger is the fold of

in-order-within : (before records : List Record) → AreInSequence ledger_rules before records → All IsRecord records
in-order-within before [] h = All-nil IsRecord
in-order-within before (the_record ∷ records) h = All-cons IsRecord the_record records h.0 (in-order-within (before ++ the_record ∷ []) records h.2)

in-order-fit : (before records : List Record) → AreInSequence ledger_rules before records → Fit before records
in-order-fit before [] h = tt
in-order-fit before (the_record ∷ records) h = (h.1, in-order-fit (before ++ the_record ∷ []) records h.2)

pub folded-in-order : (records : List Record) → AreInSequence ledger_rules [] records → AreFolded records
folded-in-order records h = record { within = in-order-within [] records h; fit = in-order-fit [] records h }

pub each-file-folds : EachFileFolds
each-file-folds log v k = folded-in-order (records_of v.scene) (holds ledger_rules log v k).facts.in_order

pub each-image-folds : EachImageFolds
each-image-folds log v file bodies k image slots =
    let b = (has-kept ledger_rules log v k).bad file bodies image slots in
    (b.records, record { bodies_are = b.bodies_are; folded = folded-in-order b.records b.in_order })

-- ---- openings that are refused

pub refused-only-with-fewer-slots : RefusedOnlyWithFewerSlots
refused-only-with-fewer-slots log v setup k e = by_long (nat_lt (256 * setup.slots + 1) (length v.scene.outside.file)) refl
  where
    h : Holds (owned ledger_rules) log v
    h = holds ledger_rules log v k

    by_long : (long : Bool) → nat_lt (256 * setup.slots + 1) (length v.scene.outside.file) ≡ long → HadMoreSlots setup.slots log
    by_long true is =
        let same : length v.scene.outside.file ≡ length (outside_of log).file = ap (λ (o : Outside). length o.file) h.outside_is in
        let lt = ltb-true (256 * setup.slots + 1) (length v.scene.outside.file) is in
        h.facts.long setup.slots (omega (arith, same, lt))
    by_long false is =
        let needs = length (records_of v.scene) + open_count_of (records_of v.scene) in
        h.facts.all_free setup.slots (ltb-true setup.slots needs (sym (ap (λ test. test || nat_lt setup.slots needs) is) ∙ e))

pub refused-at-limits : RefusedAtLimits
unfolding history
refused-at-limits = record { longest = refl; longer = refl; enough = refl; too_few = refl }
