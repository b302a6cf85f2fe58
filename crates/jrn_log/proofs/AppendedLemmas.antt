-- What is observed of a site after an append.
use Rattle.std.proofs.Common.{◌≡◌, ℕ, ◌+◌, ◌*◌, List, [], ◌∷◌, ◌++◌, length, refl, sym, ◌∙◌, ap, subst, inl, inr}
use Rattle.std.specs.Prelude.{Result, Ok, Err, Bool, true, false, Some}
use Rattle.gw_site.specs.Outside.{Outside, outside_of}
use Rattle.gw_site.specs.Observed.{Observed, IfObserved, Grows, Added}
use Rattle.gw_site.specs.declared.turn.Turn.{Turn}
use Rattle.gw_site.specs.declared.turn.Turn.TheVariants.{Wrote, Synced, DiskFailed}
use Rattle.jrn_log.specs.Journal.{JournalValue, IsAtRest, AreKept, StandsFor}
use Rattle.jrn_log.specs.JournalTurns.{AppendTurns, body_write, gate_write}
use Rattle.jrn_log.specs.Images.{AppendImages}
use Rattle.jrn_log.specs.inner.FileReader.{WroteSyncedTurns}
use Rattle.jrn_log.proofs.SlotLemmas.{one_slots}
use Rattle.jrn_log.proofs.SequenceLemmas.{added_prefix, added_whole, observed_before, observed_same}
use Rattle.jrn_log.proofs.ImageLemmas.{Rest}
use Rattle.jrn_log.proofs.AppendLemmas.{PrefixesLeave, whole_prefixes, body_prefixes, gate_prefixes, prefix_images, append_rests, rest_of}

-- an append's turns are those of its two writes
pub keep_then : {E : Type 0} (result : Result (Unit {0}) E) (slot offset : ℕ) (body bytes : List ℕ) (p q : List Turn) → offset ≡ 256 * slot → bytes ≡ body ++ 0 ∷ [] →
    p ≡ Wrote (offset + 1) bytes ∷ Synced ∷ [] → WroteSyncedTurns offset (165 ∷ []) result q → AppendTurns slot body result (p ++ q)
keep_then (Ok done) slot offset body bytes p q is s e f = rw (e, f, s, is) refl
keep_then (Err failed) slot offset body bytes p q is s e f = inr (rw (e, f, s, is) refl)

pub keep_fails : {E : Type 0} (failed : E) (slot offset : ℕ) (body bytes : List ℕ) (p : List Turn) → offset ≡ 256 * slot → bytes ≡ body ++ 0 ∷ [] → p ≡ Wrote (offset + 1) bytes ∷ DiskFailed ∷ [] → AppendTurns {T = Unit {0}} slot body (Err failed) p
keep_fails failed slot offset body bytes p is s e = inl (rw (e, s, is) refl)

append_prefixes : {T E : Type 0} (o : Outside) (bodies : List (List ℕ)) (body : List ℕ) (result : Result T E) (turns : List Turn) → Rest o bodies → length body ≡ 255 → AppendTurns (length bodies) body result turns → PrefixesLeave o bodies body turns
append_prefixes o bodies body (Ok given) turns r e t = rw t (whole_prefixes o bodies body r e)
append_prefixes o bodies body (Err failed) turns r e (inl t) = rw t (body_prefixes o bodies body r e)
append_prefixes o bodies body (Err failed) turns r e (inr t) = rw t (gate_prefixes o bodies body r e)

-- the kept bodies are as many as the journal says
kept_len : (log : List Turn) (len : ℕ) (bodies : List (List ℕ)) → IsAtRest log len → AreKept log bodies → len ≡ length bodies
kept_len log len bodies r k = sym r.kept.2 ∙ ap (λ xs. length xs) (one_slots (outside_of log).stable r.kept.0 bodies r.kept.1 k)

-- the site is at rest with so many bodies, where its log is observed and it isn't dark
abbrev pub RestsAt : ℕ → Observed → Type 0
RestsAt len observed = observed.dark ≡ false → IfObserved observed (λ log. IsAtRest log len)

pub stands_at : (journal : JournalValue) (len : ℕ) (observed : Observed) → len ≡ journal.len → StandsFor journal observed → RestsAt len observed
stands_at journal len observed n stands lit log e = rw n (stands lit log e)

pub grown_images : {T E : Type 0} (len : ℕ) (old new : Observed) (body : List ℕ) (result : Result T E) → length body ≡ 255 → RestsAt len old → Grows old new (AppendTurns len body result) →
    old.dark ≡ false → IfObserved old (λ before. IfObserved new (λ after. (bodies : List (List ℕ)) → AreKept before bodies → AppendImages before after bodies body))
grown_images len old new body result e stands grows lit before observed after observed_after bodies kept =
    let rest = stands lit before observed in
    let a = grows.observed before observed in
    let f = added_prefix old.dark new.dark a.0 a.1 a.3 in
    let n = kept_len before len bodies rest kept in
    prefix_images before after a.1 f.0 a.0 bodies body (observed_same new after (before ++ a.1) observed_after a.4) f.1
    (append_prefixes (outside_of before) bodies body result a.0 (rest_of before bodies (subst (λ len. IsAtRest before len) n rest) kept) e (subst (λ len. AppendTurns len body result a.0) n a.2))

pub was_lit : (old new : Bool) → (old ≡ true → new ≡ true) → new ≡ false → old ≡ false
was_lit true new stays lit = absurd (let h : true ≡ false = sym (stays refl) ∙ lit in cc)
was_lit false new stays lit = refl

-- what a log is after a whole append
record AfterAppend (before after : List Turn) (len : ℕ) (body : List ℕ) : Type 0 where
  rests : IsAtRest after (len + 1)
  keeps : (bodies : List (List ℕ)) → AreKept before bodies → AreKept after (bodies ++ body ∷ [])

after_append : {T : Type 0} (E : Type 0) (len : ℕ) (old new : Observed) (body : List ℕ) (given : T) → length body ≡ 255 → RestsAt len old → Grows old new (AppendTurns {E = E} len body (Ok given)) →
    new.dark ≡ false → (before after : List Turn) → old.log ≡ Some before → new.log ≡ Some after → AfterAppend before after len body
after_append E len old new body given e stands grows lit before after observed observed_after = record {
  rests = let n = kept_len before len rest.kept.0 rest rest.kept.1 in subst (λ len. IsAtRest after (len + 1)) (sym n) (whole rest.kept.0 rest.kept.1).0;
  keeps = λ bodies kept. (whole bodies kept).1;
}
  where
    rest : IsAtRest before len
    rest = stands (was_lit old.dark new.dark grows.stays lit) before observed

    grown : after ≡ before ++ body_write len body ∷ Synced ∷ gate_write len ∷ Synced ∷ []
    grown = let a = grows.observed before observed in observed_same new after (before ++ a.1) observed_after a.4 ∙ ap (λ xs. before ++ xs) (added_whole old.dark new.dark a.0 a.1 a.3 lit ∙ a.2)

    whole : (bodies : List (List ℕ)) → AreKept before bodies → IsAtRest after (length bodies + 1) × AreKept after (bodies ++ body ∷ [])
    whole bodies kept =
        let n = kept_len before len bodies rest kept in
        let log : after ≡ before ++ body_write (length bodies) body ∷ Synced ∷ gate_write (length bodies) ∷ Synced ∷ [] = subst (λ len. after ≡ before ++ body_write len body ∷ Synced ∷ gate_write len ∷ Synced ∷ []) n grown in
        rw log (append_rests before bodies body (subst (λ len. IsAtRest before len) n rest) kept e)

pub grown_rests : {T : Type 0} (E : Type 0) (len : ℕ) (old new : Observed) (body : List ℕ) (given : T) → length body ≡ 255 → RestsAt len old → Grows old new (AppendTurns {E = E} len body (Ok given)) → RestsAt (len + 1) new
grown_rests E len old new body given e stands grows lit after observed_after =
    let b = observed_before Added old new (λ before. AppendTurns {E = E} len body (Ok given)) after grows observed_after in
    (after_append E len old new body given e stands grows lit b.0 after b.1 observed_after).rests

pub grown_keeps : {T : Type 0} (E : Type 0) (len : ℕ) (old new : Observed) (body : List ℕ) (given : T) → length body ≡ 255 → RestsAt len old → Grows old new (AppendTurns {E = E} len body (Ok given)) →
    new.dark ≡ false → IfObserved old (λ before. IfObserved new (λ after. (bodies : List (List ℕ)) → AreKept before bodies → AreKept after (bodies ++ body ∷ [])))
grown_keeps E len old new body given e stands grows lit before observed after observed_after = (after_append E len old new body given e stands grows lit before after observed observed_after).keeps
