-- The calls of an opening on the pair.
use Rattle.std.proofs.Common.{◌≡◌, ℕ, List, [], ◌∷◌, ◌++◌, refl, sym, ◌∙◌, ap, subst, inl, inr}
use Rattle.std.specs.Prelude.{Bool, true, false, ◌||◌, Option, Some, None, is_some, IfSome, length}
use Rattle.gw_base.specs.declared.setup.Setup.{Setup}
use Rattle.gw_bytes.specs.Bytes.{AreBytes}
use Rattle.gw_site.specs.Outside.{Outside, no_run}
use Rattle.gw_site.specs.declared.turn.Turn.{Turn}
use Rattle.gw_site.specs.declared.turn.Turn.TheVariants.{Start}
use Rattle.jrn_mirror.specs.declared.turn.Half.{Half}
use Rattle.jrn_mirror.specs.declared.turn.Half.TheVariants.{First, Second}
use Rattle.jrn_mirror.specs.declared.turn.Turn2.{Turn2}
use Rattle.jrn_mirror.specs.declared.turn.Turn2.TheVariants.{Line}
use Rattle.jrn_mirror.specs.PairOutside.{pair_outside_of}
use Rattle.jrn_mirror.specs.One.{Joint, gained, joint_of}
use Rattle.jrn_mirror.specs.Mirrored.{MayOpen, IsCopying}
use Rattle.jrn_mirror.specs.MirrorObserved.{MayOpenAs}
use Rattle.jrn_mirror.specs.PairObserved.{PairObserved, IfLogged, PairGrows, is_lost}
use Rattle.jrn_mirror.specs.inner.Copying.{other_half, first_left, second_left, CopyGoesOn, AreLengths}
use Rattle.jrn_mirror.specs.inner.Halves.{AreGone, StayGone, HasOf, loss, half_write, there_sync}
use Rattle.jrn_mirror.specs.inner.Opening.{stands_first, IsOpeningOf, OpeningGoes, IsGivenUp, OpeningEnds, HasEndedSo, IsUnderWay, KeepsOpening, EndsAll, CanOpen, HaveSameFile, there_looks}
use Rattle.jrn_mirror.proofs.HoldsLemmas.{no_true, no_false}
use Rattle.jrn_mirror.proofs.BeforeLemmas.{lengths-before}
use Rattle.jrn_mirror.proofs.OutsideLemmas.{joint_has_outside}
use Rattle.jrn_mirror.proofs.PairLemmas.{pair-same}
use Rattle.jrn_mirror.proofs.ReachLemmas.{Steps, reach-first, reach-then, reach-still, lit_before}
use Rattle.jrn_mirror.proofs.OpeningLemmas.{open_joint, GoesBy, EndsBy, opening_is, begun_is, looks_go, source_goes, target_goes, write_goes, both_end, first_ends, second_ends}

-- ---- the beginning

-- the first line, and what comes after it
begun_steps : (j : Joint) (setup : Setup) (rest : List Turn2) (Lit Dark : List Turn → Joint → Type 0) → MayOpen j.stage j → Dark [] j → Dark [] (gained j (Line (Start setup))).joint →
    Steps (gained j (Line (Start setup))).joint rest Lit Dark → Steps j (Line (Start setup) ∷ rest) Lit Dark
begun_steps j setup rest Lit Dark may before after s = record { may = (may, s.may); whole = s.whole; parts = (before, s.parts) }

-- a disk whose length was returned isn't lost
asked : (log : List Turn2) (first second : Option ℕ) → AreLengths log first second → (is_some first ≡ true → (joint_of log).outside.first.lost ≡ false) × (is_some second ≡ true → (joint_of log).outside.second.lost ≡ false)
asked log first second a = (λ e. rw (joint_has_outside log) (has_first first e a.first_has), λ e. rw (joint_has_outside log) (has_second second e a.second_has))
  where
    has_first : (count : Option ℕ) → is_some count ≡ true → IfSome count (λ n. HasOf log First (λ file. n ≡ length file)) → (pair_outside_of log).first.lost ≡ false
    has_first None e h = no_true e
    has_first (Some n) e h = h.0

    has_second : (count : Option ℕ) → is_some count ≡ true → IfSome count (λ n. HasOf log Second (λ file. n ≡ length file)) → (pair_outside_of log).second.lost ≡ false
    has_second None e h = no_true e
    has_second (Some n) e h = h.0

pub opens-begun : (start now : PairObserved) (setup : Setup) (first second : Bool) (first_size second_size : Option ℕ) → CanOpen start first second → PairGrows start now (λ turns. turns ≡ Line (Start setup) ∷ there_looks first second (is_some first_size) (is_some second_size)) →
    (start.dark ≡ false → IfLogged start (λ log. AreLengths log first_size second_size)) → StayGone first second (is_some first_size) (is_some second_size) → AreGone now (is_some first_size) (is_some second_size) → IsUnderWay start now setup (is_some first_size) (is_some second_size)
opens-begun start now setup first second first_size second_size can grows lengths stay gone = record {
  logged = λ log e. reach-first start now log (Line (Start setup) ∷ there_looks first second (is_some first_size) (is_some second_size)) _ _ grows e (λ d. steps log (can.may d log e) (lengths d log e)) (λ d. inl refl);
  unlogged = grows.unlogged;
  gone = gone;
}
  where
    steps : (log : List Turn2) → MayOpenAs first second (joint_of log) → AreLengths log first_size second_size → GoesBy (joint_of log) (Line (Start setup) ∷ there_looks first second (is_some first_size) (is_some second_size)) setup (stands_first (joint_of log).stage) (is_some first_size) (is_some second_size)
    steps log may has =
        let j = joint_of log in
        let there = asked log first_size second_size has in
        begun_steps j setup (there_looks first second (is_some first_size) (is_some second_size)) _ _ may.may (inl refl) (inl refl)
        (subst (λ (k : Joint). GoesBy k (there_looks first second (is_some first_size) (is_some second_size)) setup (stands_first j.stage) (is_some first_size) (is_some second_size)) (sym (begun_is j setup))
        (looks_go (no_run j.outside.lines) j.outside.first.outside j.outside.second.outside j.outside.first.lost j.outside.second.lost setup (stands_first j.stage) first second (is_some first_size) (is_some second_size) may.first_gone may.second_gone there.0 there.1 stay.0 stay.1))

-- ---- one more call, where both disks are there

shifted : (ones : List Turn) (j : Joint) (turns : List Turn2) (Lit Dark : List Turn → Joint → Type 0) → ones ≡ [] → Steps j turns Lit Dark → Steps j turns (λ more k. Lit (ones ++ more) k) (λ more k. Dark (ones ++ more) k)
shifted ones j turns Lit Dark e s = subst (λ (o : List Turn). Steps j turns (λ more k. Lit (o ++ more) k) (λ more k. Dark (o ++ more) k)) (sym e) s

no_more : (xs : List Turn) → xs ++ [] ≡ xs
no_more [] = refl
no_more (x ∷ xs) = ap (λ ys. x ∷ ys) (no_more xs)

-- a call in an opening in which both disks are there
call-goes : (old new : PairObserved) (turns : List Turn2) (first second : Bool) → PairGrows old new (λ xs. xs ≡ turns) → AreGone new first second →
    (old.dark ≡ false → IfLogged old (λ log. (setup : Setup) (is_first : Bool) → IsOpeningOf setup is_first true true (joint_of log) → GoesBy (joint_of log) turns setup is_first first second)) → KeepsOpening old new true true first second
call-goes old new turns first second grows gone steps = λ start setup o. record {
  logged = λ log e. reach-then old new log turns _ _ (OpeningGoes (first || second) setup (stands_first (joint_of log).stage) first second) (λ ones j. IsGivenUp (first || second) ones) (o.logged log e) grows
      (λ d after f ones l. shifted ones (joint_of after) turns (OpeningGoes (first || second) setup (stands_first (joint_of log).stage) first second) (λ more k. IsGivenUp (first || second) more) l.0 (steps d after f setup (stands_first (joint_of log).stage) l.1))
      (λ d ones j up. inl (no_more ones ∙ nothing ones up));
  unlogged = λ e. grows.unlogged (o.unlogged e);
  gone = gone;
}
  where
    nothing : (ones : List Turn) → IsGivenUp true ones → ones ≡ []
    nothing ones up = elim up [ inl e ↦ e | inr f ↦ no_false f.0 ]

by_flags : (j : Joint) (turns : List Turn2) (setup : Setup) (is_first first second : Bool) → IsOpeningOf setup is_first true true j → ((lines a b : Outside) → j.outside.lines ≡ lines → GoesBy (open_joint lines a false b false setup is_first) turns setup is_first first second) → GoesBy j turns setup is_first first second
by_flags j turns setup is_first first second o make = subst (λ (k : Joint). GoesBy k turns setup is_first first second) (sym (opening_is j setup is_first true true o)) (make j.outside.lines j.outside.first.outside j.outside.second.outside refl)

-- a disk is gone where its call failed
gone_source : (source : Half) (observed : PairObserved) (there : Bool) → (there ≡ false → observed.dark ≡ false → is_lost observed source ≡ true) → AreGone observed (first_left source there true) (second_left source there true)
gone_source First observed there g = (λ d e. g e d, λ d e. no_false e)
gone_source Second observed there g = (λ d e. no_false e, λ d e. g e d)

gone_target : (source : Half) (observed : PairObserved) (there : Bool) → (there ≡ false → observed.dark ≡ false → is_lost observed (other_half source) ≡ true) → AreGone observed (first_left source true there) (second_left source true there)
gone_target First observed there g = (λ d e. no_false e, λ d e. g e d)
gone_target Second observed there g = (λ d e. g e d, λ d e. no_false e)

pub source-looked : (source : Half) (old new : PairObserved) (there : Bool) → PairGrows old new (λ turns. turns ≡ loss there source) → (there ≡ false → new.dark ≡ false → is_lost new source ≡ true) → CopyGoesOn old new source there true
source-looked source old new there grows gone = call-goes old new (loss there source) (first_left source there true) (second_left source there true) grows (gone_source source new there gone)
    (λ d log e setup is_first o. by_flags (joint_of log) (loss there source) setup is_first (first_left source there true) (second_left source there true) o (λ lines a b e. source_goes source lines a b setup is_first there))

pub target-looked : (source : Half) (old new : PairObserved) (there : Bool) → PairGrows old new (λ turns. turns ≡ loss there (other_half source)) → (there ≡ false → new.dark ≡ false → is_lost new (other_half source) ≡ true) → CopyGoesOn old new source true there
target-looked source old new there grows gone = call-goes old new (loss there (other_half source)) (first_left source true there) (second_left source true there) grows (gone_target source new there gone)
    (λ d log e setup is_first o. by_flags (joint_of log) (loss there (other_half source)) setup is_first (first_left source true there) (second_left source true there) o (λ lines a b e. target_goes source lines a b setup is_first there))

-- a write to the target, which copies
pub target-written : (source : Half) (old new : PairObserved) (there : Bool) (offset : ℕ) (bytes : List ℕ) → AreBytes bytes → PairGrows old new (λ turns. turns ≡ half_write (other_half source) offset bytes there) → (there ≡ false → new.dark ≡ false → is_lost new (other_half source) ≡ true) →
    (old.dark ≡ false → IfLogged old (λ log. (setup : Setup) (is_first : Bool) → IsOpeningOf setup is_first true true (joint_of log) → IsCopying (joint_of log) (other_half source) offset bytes)) → CopyGoesOn old new source true there
target-written source old new there offset bytes k grows gone copies = call-goes old new (half_write (other_half source) offset bytes there) (first_left source true there) (second_left source true there) grows (gone_target source new there gone)
    (λ d log e setup is_first o.
    let j = joint_of log in
    let is = opening_is j setup is_first true true o in
    let c : IsCopying (open_joint j.outside.lines j.outside.first.outside false j.outside.second.outside false setup is_first) (other_half source) offset bytes = subst (λ (i : Joint). IsCopying i (other_half source) offset bytes) is (copies d log e setup is_first o) in
    subst (λ (i : Joint). GoesBy i (half_write (other_half source) offset bytes there) setup is_first (first_left source true there) (second_left source true there)) (sym is)
    (write_goes source j.outside.lines j.outside.first.outside j.outside.second.outside setup is_first there offset bytes k c))

pub goes-still : (observed : PairObserved) (first second : Bool) → KeepsOpening observed observed first second first second
goes-still observed first second = λ start setup o. o

pub goes-then : (old mid new : PairObserved) (first_now second_now : Bool) → KeepsOpening old mid true true true true → KeepsOpening mid new true true first_now second_now → KeepsOpening old new true true first_now second_now
goes-then old mid new first_now second_now x y = λ start setup o. y start setup (x start setup o)

-- ---- the end

ended_by : (there there_now : Bool) (setup : Setup) (is_first : Bool) (ones : List Turn) (j : Joint) → (there ≡ false → there_now ≡ false) → IsGivenUp there ones → HasEndedSo there_now setup is_first (ones ++ []) j
ended_by there there_now setup is_first ones j stay up = elim up [ inl e ↦ inl (no_more ones ∙ e) | inr f ↦ (let n : there_now ≡ false = stay f.0 in rw n (inr (no_more ones ∙ f.1))) ]

-- the syncs of the disks that are there
ends-by : (old new : PairObserved) (turns : List Turn2) (first second first_now second_now : Bool) → (first || second) ≡ true → PairGrows old new (λ xs. xs ≡ turns) → AreGone new first_now second_now →
    (old.dark ≡ false → IfLogged old (λ log. (setup : Setup) (is_first : Bool) → IsOpeningOf setup is_first first second (joint_of log) → EndsBy (joint_of log) turns setup is_first first_now second_now)) → EndsAll old new first second first_now second_now
ends-by old new turns first second first_now second_now some grows gone steps = λ start setup o. record {
  logged = λ log e. reach-then old new log turns (OpeningGoes true setup (stands_first (joint_of log).stage) first second) (λ ones j. IsGivenUp true ones) (OpeningEnds (first_now || second_now) setup (stands_first (joint_of log).stage) first_now second_now) (HasEndedSo (first_now || second_now) setup (stands_first (joint_of log).stage)) (rw some at (o.logged log e)) grows
      (λ d after f ones l. shifted ones (joint_of after) turns (OpeningEnds (first_now || second_now) setup (stands_first (joint_of log).stage) first_now second_now) (HasEndedSo (first_now || second_now) setup (stands_first (joint_of log).stage)) l.0 (steps d after f setup (stands_first (joint_of log).stage) l.1))
      (λ d ones j up. ended_by true (first_now || second_now) setup (stands_first (joint_of log).stage) ones j (λ e. no_false e) up);
  unlogged = λ e. grows.unlogged (o.unlogged e);
  gone = gone;
}

-- none is there: it has failed already
pub ends-gone : (observed : PairObserved) → EndsAll observed observed false false false false
ends-gone observed = λ start setup o. record {
  logged = λ log e. reach-still observed log (OpeningGoes false setup (stands_first (joint_of log).stage) false false) (λ ones j. IsGivenUp false ones) (OpeningEnds false setup (stands_first (joint_of log).stage) false false) (HasEndedSo false setup (stands_first (joint_of log).stage)) (o.logged log e)
      (λ ones j l. l) (λ ones j up. elim up [ inl e ↦ inl e | inr f ↦ inr f.1 ]);
  unlogged = o.unlogged;
  gone = o.gone;
}

end_flags : (j : Joint) (setup : Setup) (is_first first second first_now second_now : Bool) → (first || second) ≡ true → StayGone first second first_now second_now → (first ≡ true → second ≡ true → j.outside.first.outside.file ≡ j.outside.second.outside.file) → IsOpeningOf setup is_first first second j →
    EndsBy j (there_sync first second first_now second_now) setup is_first first_now second_now
end_flags j setup is_first true true first_now second_now some stay same o = subst (λ (k : Joint). EndsBy k (there_sync true true first_now second_now) setup is_first first_now second_now) (sym (opening_is j setup is_first true true o)) (both_end j.outside.lines j.outside.first.outside j.outside.second.outside setup is_first first_now second_now (same refl refl))
end_flags j setup is_first true false first_now true some stay same o = no_true (sym (stay.1 refl))
end_flags j setup is_first true false first_now false some stay same o = subst (λ (k : Joint). EndsBy k (there_sync true false first_now false) setup is_first first_now false) (sym (opening_is j setup is_first true false o)) (first_ends j.outside.lines j.outside.first.outside j.outside.second.outside setup is_first first_now)
end_flags j setup is_first false true true second_now some stay same o = no_true (sym (stay.0 refl))
end_flags j setup is_first false true false second_now some stay same o = subst (λ (k : Joint). EndsBy k (there_sync false true false second_now) setup is_first false second_now) (sym (opening_is j setup is_first false true o)) (second_ends j.outside.lines j.outside.first.outside j.outside.second.outside setup is_first second_now)
end_flags j setup is_first false false first_now second_now some stay same o = no_true some

pub ends-synced : (old new : PairObserved) (first second first_now second_now : Bool) → (first || second) ≡ true → (first ≡ true → second ≡ true → HaveSameFile old) → StayGone first second first_now second_now → AreGone new first_now second_now →
    PairGrows old new (λ turns. turns ≡ there_sync first second first_now second_now) → EndsAll old new first second first_now second_now
ends-synced old new first second first_now second_now some same stay gone grows = ends-by old new (there_sync first second first_now second_now) first second first_now second_now some grows gone
    (λ d log e setup is_first o. end_flags (joint_of log) setup is_first first second first_now second_now some stay (λ f s. rw (joint_has_outside log) (same f s d log e)) o)

-- where both are there, whichever is the source
pub both-flags : (source : Half) (old new : PairObserved) → KeepsOpening old new true true true true → CopyGoesOn old new source true true
both-flags First old new x = x
both-flags Second old new x = x

pub flags-both : (source : Half) (old new : PairObserved) → CopyGoesOn old new source true true → KeepsOpening old new true true true true
flags-both First old new x = x
flags-both Second old new x = x

pub copy-both : (source : Half) (old new : PairObserved) (source_left target_left : Bool) → source_left ≡ true → target_left ≡ true → CopyGoesOn old new source source_left target_left → KeepsOpening old new true true true true
copy-both source old new true true e f x = flags-both source old new x
copy-both source old new true false e f x = no_true f
copy-both source old new false target_left e f x = no_true e

pub copy-then : (source : Half) (old mid new : PairObserved) (source_left target_left : Bool) → KeepsOpening old mid true true true true → CopyGoesOn mid new source source_left target_left → CopyGoesOn old new source source_left target_left
copy-then source old mid new source_left target_left x y = goes-then old mid new (first_left source source_left target_left) (second_left source source_left target_left) x y

-- an opening has begun: the pair was opened, and both lengths were asked
pub opens-asked : (start mid now : PairObserved) (setup : Setup) (first second : Bool) (first_size second_size : Option ℕ) → CanOpen start first second → PairGrows start mid (λ turns. turns ≡ Line (Start setup) ∷ []) →
    PairGrows mid now (λ turns. turns ≡ there_looks first second (is_some first_size) (is_some second_size)) → IfLogged mid (λ log. AreLengths log first_size second_size) → StayGone first second (is_some first_size) (is_some second_size) → AreGone now (is_some first_size) (is_some second_size) → IsUnderWay start now setup (is_some first_size) (is_some second_size)
opens-asked start mid now setup first second first_size second_size can opened looks lengths stay gone =
    opens-begun start now setup first second first_size second_size can (pair-same start now (Line (Start setup) ∷ []) (there_looks first second (is_some first_size) (is_some second_size)) (Line (Start setup) ∷ there_looks first second (is_some first_size) (is_some second_size)) refl mid opened looks)
    (λ d. lengths-before start mid setup first_size second_size opened lengths) stay gone

-- a disk that is taken to be lost is, after one more call
pub gone-after : (old new : PairObserved) (first second : Bool) (Call : List Turn2 → Type 0) → PairGrows old new Call → AreGone old first second → AreGone new first second
gone-after old new first second Call grows gone = (λ d e. grows.first_stays (gone.0 (lit_before old new Call grows d) e), λ d e. grows.second_stays (gone.1 (lit_before old new Call grows d) e))
