-- An append after a log at rest.
use Rattle.std.proofs.Common.{◌≡◌, ℕ, ◌+◌, ◌*◌, List, [], ◌∷◌, ◌++◌, length, get_or, refl, sym, ◌∙◌, ap, subst, arith, append_assoc}
use Rattle.std.proofs.lemmas.List.{append_cancel_left}
use Rattle.gw_site.specs.Outside.{Outside, outside_from, outside_of}
use Rattle.gw_site.specs.declared.turn.Turn.{Turn}
use Rattle.gw_site.specs.declared.turn.Turn.TheVariants.{Synced, DiskFailed}
use Rattle.gw_site.proofs.OutsideLemmas.{outside_of-append}
use Rattle.jrn_log.specs.Journal.{IsAtRest, AreKept}
use Rattle.jrn_log.specs.JournalTurns.{body_write, gate_write}
use Rattle.jrn_log.specs.Images.{AppendImages}
use Rattle.jrn_log.specs.Laws.{appended}
use Rattle.jrn_log.proofs.SlotLemmas.{push_length}
use Rattle.jrn_log.proofs.PrefixLemmas.{AllPrefixes, prefix_holds}
use Rattle.jrn_log.proofs.ImageLemmas.{Rest, Leaves, rest_leaves, body_leaves, body_sync_rest, gate_leaves, gate_sync_rest, new_leaves, after_gate_sync}

pub rest_of : (log : List Turn) (bodies : List (List ℕ)) → IsAtRest log (length bodies) → AreKept log bodies → Rest (outside_of log) bodies
rest_of log bodies r k = record {
  synced = r.synced;
  clean = r.clean;
  slots = k;
  gate = let e : length (outside_of log).file ≡ length (outside_of log).stable = ap length r.synced in omega (arith, r.gate, e);
  closed = λ q. r.closed (ap (λ file. get_or file (256 * length bodies) 0) r.synced ∙ q);
}

pub at_rest : (log : List Turn) (o : Outside) (bodies : List (List ℕ)) → outside_of log ≡ o → Rest o bodies → IsAtRest log (length bodies) × AreKept log bodies
at_rest log o bodies e r = (
  record {
    synced = rw e r.synced;
    clean = rw e r.clean;
    kept = (bodies, rw e r.slots, refl);
    gate = rw e (rw r.synced r.gate);
    closed = λ q. r.closed (sym (ap (λ file. get_or file (256 * length bodies) 0) r.synced) ∙ (rw e at q));
  },
  rw e r.slots,
)

-- after this outside, the images of each prefix of these turns are those of an append
abbrev pub PrefixesLeave : Outside → List (List ℕ) → List ℕ → List Turn → Type 0
PrefixesLeave o bodies body turns = AllPrefixes (λ made. Leaves (outside_from o made) bodies body made) turns

pub whole_prefixes : (o : Outside) (bodies : List (List ℕ)) (body : List ℕ) → Rest o bodies → length body ≡ 255 → PrefixesLeave o bodies body (body_write (length bodies) body ∷ Synced ∷ gate_write (length bodies) ∷ Synced ∷ [])
whole_prefixes o bodies body r e =
    let b = body_write (length bodies) body in
    let g = gate_write (length bodies) in (
      rest_leaves o bodies body [] r,
      (
        body_leaves o bodies body (b ∷ []) r,
        (
          rest_leaves _ bodies body (b ∷ Synced ∷ []) (body_sync_rest o bodies body r e),
          (
            gate_leaves o bodies body (b ∷ Synced ∷ g ∷ []) r e (b ∷ Synced ∷ [], [], refl),
            new_leaves _ bodies body (b ∷ Synced ∷ g ∷ Synced ∷ []) (gate_sync_rest o bodies body r e) (b ∷ Synced ∷ [], Synced ∷ [], refl),
          ),
        ),
      ),
    )

pub body_prefixes : (o : Outside) (bodies : List (List ℕ)) (body : List ℕ) → Rest o bodies → length body ≡ 255 → PrefixesLeave o bodies body (body_write (length bodies) body ∷ DiskFailed ∷ [])
body_prefixes o bodies body r e =
    let b = body_write (length bodies) body in (
      rest_leaves o bodies body [] r,
      (
        body_leaves o bodies body (b ∷ []) r,
        body_leaves o bodies body (b ∷ DiskFailed ∷ []) r,
      ),
    )

pub gate_prefixes : (o : Outside) (bodies : List (List ℕ)) (body : List ℕ) → Rest o bodies → length body ≡ 255 → PrefixesLeave o bodies body (body_write (length bodies) body ∷ Synced ∷ gate_write (length bodies) ∷ DiskFailed ∷ [])
gate_prefixes o bodies body r e =
    let b = body_write (length bodies) body in
    let g = gate_write (length bodies) in (
      rest_leaves o bodies body [] r,
      (
        body_leaves o bodies body (b ∷ []) r,
        (
          rest_leaves _ bodies body (b ∷ Synced ∷ []) (body_sync_rest o bodies body r e),
          (
            gate_leaves o bodies body (b ∷ Synced ∷ g ∷ []) r e (b ∷ Synced ∷ [], [], refl),
            gate_leaves o bodies body (b ∷ Synced ∷ g ∷ DiskFailed ∷ []) r e (b ∷ Synced ∷ [], DiskFailed ∷ [], refl),
          ),
        ),
      ),
    )

-- the log went on from before by a prefix of turns whose prefixes leave such images
pub prefix_images : (before after added rest turns : List Turn) (bodies : List (List ℕ)) (body : List ℕ) → after ≡ before ++ added → turns ≡ added ++ rest → PrefixesLeave (outside_of before) bodies body turns → AppendImages before after bodies body
prefix_images before after added rest turns bodies body grown prefix f made more e file image =
    prefix_holds (λ made. Leaves (outside_from (outside_of before) made) bodies body made) turns made (more ++ rest) f parts file (rw outside_of-append at image)
  where
    parts : turns ≡ made ++ (more ++ rest)
    parts = let same : added ≡ made ++ more = append_cancel_left before added (made ++ more) (sym grown ∙ e) in prefix ∙ ap (λ xs. xs ++ rest) same ∙ append_assoc made more rest

pub append_images : (log : List Turn) (bodies : List (List ℕ)) (body : List ℕ) → IsAtRest log (length bodies) → AreKept log bodies → length body ≡ 255 → AppendImages log (appended log (length bodies) body) bodies body
append_images log bodies body r k e =
    let turns : List Turn = body_write (length bodies) body ∷ Synced ∷ gate_write (length bodies) ∷ Synced ∷ [] in
    prefix_images log (log ++ turns) turns [] turns bodies body refl refl (whole_prefixes (outside_of log) bodies body (rest_of log bodies r k) e)

pub append_rests : (log : List Turn) (bodies : List (List ℕ)) (body : List ℕ) → IsAtRest log (length bodies) → AreKept log bodies → length body ≡ 255 →
    IsAtRest (appended log (length bodies) body) (length bodies + 1) × AreKept (appended log (length bodies) body) (bodies ++ body ∷ [])
append_rests log bodies body r k e =
    let turns : List Turn = body_write (length bodies) body ∷ Synced ∷ gate_write (length bodies) ∷ Synced ∷ [] in
    let x = at_rest (log ++ turns) (after_gate_sync (outside_of log) (length bodies) body) (bodies ++ body ∷ []) (outside_of-append log turns) (gate_sync_rest (outside_of log) bodies body (rest_of log bodies r k) e) in
    (subst (λ n. IsAtRest (log ++ turns) n) (push_length bodies body) x.0, x.1)
