-- What a byte, a fault and the end do to what has been read.
use Rattle.std.proofs.Common.{◌≡◌, ℕ, zero, suc, ◌+◌, ◌<◌, ◌≤◌, List, [], ◌∷◌, ◌++◌, length, get_or, take, drop, refl, sym, ap, subst, ◌∙◌, arith, append_assoc, length-drop, Result, Ok, Err}
use Rattle.std.proofs.lemmas.List.{append-nil, take_all}
use Rattle.std.proofs.Math.Seq.{take-add}
use Rattle.json_text.specs.Tree.{Tree}
use Rattle.json_text.specs.Grammar.{Rules, SpellsBy, Spells, profile}
use Rattle.json_text.specs.Scan.{Scan, outside, scan, scan_from, scan_step, IsBadUtf8}
use Rattle.std.specs.Prelude.{IfOk, IfErr, IsErrAnd}
use Rattle.json_text.specs.Fault.{IsJsonFault, RefusesText}
use Rattle.json_text.specs.inner.ReaderStates.{Level, ReaderState, value, after, Rest, LeadsTo, IsDead, IsAlive, LeadsOver, Follows, scan_of, CannotEnd}
use Rattle.json_text.specs.inner.ByteFaults.{IsWrongByte, FailsAt, fault_at}
use Rattle.json_text.specs.inner.ReaderProgress.{AreSound, IsLive, IsLedTo, BeginAlike, ReadTo, LeadsThrough}
use Rattle.json_text.specs.declared.fault.FaultKind.{FaultKind}
use Rattle.json_text.specs.declared.fault.FaultKind.TheVariants as kinds
use Rattle.json_text.specs.declared.fault.ReadError.{ReadError}
use Rattle.json_text.proofs.FollowLemmas.{start, at_byte, fault, end_fault}
use Rattle.json_text.proofs.LiveLemmas.{value_live}

-- ---- what comes next

pub scan_append : (s : Scan) (w x : List ℕ) → scan_from s (w ++ x) ≡ scan_from (scan_from s w) x
scan_append s [] x = refl
scan_append s (c ∷ w) x = scan_append (scan_step s c) w x

-- so many bytes, and then others, begin as the bytes do
alike : (n : ℕ) (b t : List ℕ) → 0 < n → n ≤ length b → BeginAlike b (take n b ++ t)
alike zero b t some le = absurd (omega arith)
alike (suc n) [] t some le = absurd (omega arith)
alike (suc n) (c ∷ b) t some le = refl

nothing_left : (offset : ℕ) (b : List ℕ) → length b ≤ offset → BeginAlike (drop offset b) []
nothing_left zero [] le = refl
nothing_left zero (c ∷ b) le = absurd (omega arith)
nothing_left (suc offset) [] le = refl
nothing_left (suc offset) (c ∷ b) le = nothing_left offset b (omega arith)

-- one byte more
pub first_left : (offset : ℕ) (b : List ℕ) → offset < length b → take 1 (drop offset b) ≡ get_or b offset 0 ∷ []
first_left offset [] lt = absurd (omega arith)
first_left zero (c ∷ b) lt = refl
first_left (suc offset) (c ∷ b) lt = first_left offset b (omega arith)

begins_with : (offset : ℕ) (b : List ℕ) (c : ℕ) (t : List ℕ) → offset < length b → c ≡ get_or b offset 0 → BeginAlike (drop offset b) (c ∷ t)
begins_with offset [] c t lt e = absurd (omega arith)
begins_with zero (x ∷ b) c t lt e = sym e
begins_with (suc offset) (x ∷ b) c t lt e = begins_with offset b c t (omega arith) e

-- ---- further on

-- the state is reached itself
pub come : (b : List ℕ) (offset : ℕ) (p : ReaderState) (st : List Level) → offset ≤ length b → AreSound st → IsLedTo (take offset b) p st → ReadTo b offset p st
come b offset p st le sound r = record { within = le; sound = sound; state = p; inside = st; read = r; on = λ R t v a h. h; back = λ R t v a h. h; scans = refl }

pub begin : (b : List ℕ) → ReadTo b 0 value []
begin b = come b 0 value [] (omega arith) tt (record { follows = λ R le. start R; live = λ R. value_live R [] tt; scans = refl })

-- some bytes more
pub more_bytes : (b : List ℕ) (offset n : ℕ) (p : ReaderState) (st : List Level) (q : ReaderState) (st' : List Level) → 0 < n → offset + n ≤ length b → ReadTo b offset p st → LeadsThrough p st (take n (drop offset b)) q st' → AreSound st' → ((R : Rules) → IsLive R q st') → ReadTo b (offset + n) q st'
more_bytes b offset n p st q st' some le c l sound live =
    let w = take n (drop offset b) in
    let same : (t : List ℕ) → BeginAlike (drop offset b) (w ++ t) = λ t. alike n (drop offset b) t some (omega (arith, length-drop offset b)) in
    come b (offset + n) q st' le sound (record {
      follows = λ R lim. subst (λ (x : List ℕ). Follows R x q st') (sym (take-add offset n b)) (record {
        on = λ t v h. l.on R lim t v (c.on R (w ++ t) v (same t) ((c.read.follows R lim).on (w ++ t) v (subst (λ (x : List ℕ). SpellsBy R v x) (append_assoc (take offset b) w t) h)));
        back = λ t v h. subst (λ (x : List ℕ). SpellsBy R v x) (sym (append_assoc (take offset b) w t)) ((c.read.follows R lim).back (w ++ t) v (c.back R (w ++ t) v (same t) (l.back R lim t v h)));
      });
      live = live;
      scans = ap scan (take-add offset n b) ∙ scan_append outside (take offset b) w ∙ ap (λ (s : Scan). scan_from s w) (c.read.scans ∙ c.scans) ∙ l.scans;
    })

-- one byte more
pub step : (b : List ℕ) (offset c : ℕ) (p : ReaderState) (st : List Level) (q : ReaderState) (st' : List Level) → offset < length b → c ≡ get_or b offset 0 → ReadTo b offset p st → ((R : Rules) → 32 ≤ R.limit → LeadsTo R p st c q st')
    → scan_step (scan_of p) c ≡ scan_of q → AreSound st' → ((R : Rules) → IsLive R q st') → ReadTo b (offset + 1) q st'
step b offset c p st q st' lt e h l s sound live =
    more_bytes b offset 1 p st q st' (omega arith) (omega arith) h
    (subst (λ (w : List ℕ). LeadsThrough p st w q st') (sym (first_left offset b lt ∙ ap (λ (x : ℕ). x ∷ []) (sym e))) (record { on = λ R le t v g. (l R le).on t v g; back = λ R le t v g. (l R le).back t v g; scans = s }))
    sound live

-- what does the same whatever comes
pub same : (b : List ℕ) (offset : ℕ) (p : ReaderState) (st : List Level) (q : ReaderState) → ReadTo b offset p st → ((R : Rules) (t : List ℕ) (v : Tree) → Rest R p st t v → Rest R q st t v) → ((R : Rules) (t : List ℕ) (v : Tree) → Rest R q st t v → Rest R p st t v)
    → scan_of p ≡ scan_of q → ReadTo b offset q st
same b offset p st q h on back s = record {
  within = h.within;
  sound = h.sound;
  state = h.state;
  inside = h.inside;
  read = h.read;
  on = λ R t v a g. on R t v (h.on R t v a g);
  back = λ R t v a g. h.back R t v a (back R t v g);
  scans = h.scans ∙ s;
}

-- bytes that lead over whatever is open
pub over : (b : List ℕ) (offset n : ℕ) (p q : ReaderState) (st : List Level) → offset + n ≤ length b → ReadTo b offset p st → LeadsOver p (take n (drop offset b)) q → ((R : Rules) → IsLive R q st) → ReadTo b (offset + n) q st
over b offset zero p q st le c l live =
    subst (λ (k : ℕ). ReadTo b k q st) (omega arith) (same b offset p st q c (λ R t v h. l.on R st t v h) (λ R t v h. l.back R st t v h) l.scans)
over b offset (suc n) p q st le c l live =
    more_bytes b offset (suc n) p st q st (omega arith) le c (record { on = λ R lim t v h. l.on R st t v h; back = λ R lim t v h. l.back R st t v h; scans = l.scans }) c.sound live

-- what does the same with the byte that comes next
pub same_there : (b : List ℕ) (offset c : ℕ) (p : ReaderState) (st : List Level) (q : ReaderState) (st' : List Level) → offset < length b → c ≡ get_or b offset 0 → ReadTo b offset p st → AreSound st'
    → ((R : Rules) (t : List ℕ) (v : Tree) → Rest R p st (c ∷ t) v → Rest R q st' (c ∷ t) v) → ((R : Rules) (t : List ℕ) (v : Tree) → Rest R q st' (c ∷ t) v → Rest R p st (c ∷ t) v) → scan_of p ≡ scan_of q → ReadTo b offset q st'
same_there b offset c p st q st' lt e h sound on back s = record {
  within = h.within;
  sound = sound;
  state = h.state;
  inside = h.inside;
  read = h.read;
  on = λ R t v a g. forth R t v a (h.on R t v a g);
  back = λ R t v a g. h.back R t v a (fro R t v a g);
  scans = h.scans ∙ s;
}
  where
    is_next : (t : List ℕ) (x : ℕ) → BeginAlike (drop offset b) (x ∷ t) → x ≡ c
    is_next t x a = next offset b lt e a
      where
        next : (offset : ℕ) (b : List ℕ) → offset < length b → c ≡ get_or b offset 0 → BeginAlike (drop offset b) (x ∷ t) → x ≡ c
        next offset [] lt e a = absurd (omega arith)
        next zero (y ∷ b) lt e a = sym a ∙ sym e
        next (suc offset) (y ∷ b) lt e a = next offset b (omega arith) e a

    not_nothing : (offset : ℕ) (b : List ℕ) → offset < length b → BeginAlike (drop offset b) [] → ⊥
    not_nothing offset [] lt a = omega arith
    not_nothing zero (y ∷ b) lt a = a
    not_nothing (suc offset) (y ∷ b) lt a = not_nothing offset b (omega arith) a

    forth : (R : Rules) (t : List ℕ) (v : Tree) → BeginAlike (drop offset b) t → Rest R p st t v → Rest R q st' t v
    forth R [] v a g = absurd (not_nothing offset b lt a)
    forth R (x ∷ t) v a g =
        let i = is_next t x a in
        subst (λ (y : ℕ). Rest R q st' (y ∷ t) v) (sym i) (on R t v (subst (λ (y : ℕ). Rest R p st (y ∷ t) v) i g))

    fro : (R : Rules) (t : List ℕ) (v : Tree) → BeginAlike (drop offset b) t → Rest R q st' t v → Rest R p st t v
    fro R [] v a g = absurd (not_nothing offset b lt a)
    fro R (x ∷ t) v a g =
        let i = is_next t x a in
        subst (λ (y : ℕ). Rest R p st (y ∷ t) v) (sym i) (back R t v (subst (λ (y : ℕ). Rest R q st' (y ∷ t) v) i g))

-- what does the same where nothing comes
pub same_at_end : (b : List ℕ) (offset : ℕ) (p : ReaderState) (st : List Level) (q : ReaderState) → length b ≤ offset → ReadTo b offset p st
    → ((R : Rules) (v : Tree) → Rest R p st [] v → Rest R q st [] v) → ((R : Rules) (v : Tree) → Rest R q st [] v → Rest R p st [] v) → scan_of p ≡ scan_of q → ReadTo b offset q st
same_at_end b offset p st q le h on back s = record {
  within = h.within;
  sound = h.sound;
  state = h.state;
  inside = h.inside;
  read = h.read;
  on = λ R t v a g. subst (λ (x : List ℕ). Rest R q st x v) (sym (none offset b t le a)) (on R v (subst (λ (x : List ℕ). Rest R p st x v) (none offset b t le a) (h.on R t v a g)));
  back = λ R t v a g. h.back R t v a (subst (λ (x : List ℕ). Rest R p st x v) (sym (none offset b t le a)) (back R v (subst (λ (x : List ℕ). Rest R q st x v) (none offset b t le a) g)));
  scans = h.scans ∙ s;
}
  where
    none : (offset : ℕ) (b t : List ℕ) → length b ≤ offset → BeginAlike (drop offset b) t → t ≡ []
    none zero [] t le a = a
    none zero (c ∷ b) t le a = absurd (omega arith)
    none (suc offset) [] t le a = a
    none (suc offset) (c ∷ b) t le a = none offset b t (omega arith) a

-- ---- faults

-- what the byte c does in one state it does in the other
record DoesAs (p : ReaderState) (st : List Level) (q : ReaderState) (st' : List Level) (c : ℕ) : Type 0 where
  pub on : (R : Rules) (t : List ℕ) (v : Tree) → Rest R q st' (c ∷ t) v → Rest R p st (c ∷ t) v
  pub back : (R : Rules) (t : List ℕ) (v : Tree) → Rest R p st (c ∷ t) v → Rest R q st' (c ∷ t) v
  pub scans : scan_of q ≡ scan_of p

alive_as : (R : Rules) (p : ReaderState) (st : List Level) (q : ReaderState) (st' : List Level) (c : ℕ) → DoesAs p st q st' c → IsAlive R p st c → IsAlive R q st' c
alive_as R p st q st' c s l = (l.0, l.1, s.back R l.0 l.1 l.2)

fails_as : (p : ReaderState) (st : List Level) (q : ReaderState) (st' : List Level) (c : ℕ) (fault_kind : FaultKind) → DoesAs p st q st' c → FailsAt p st c fault_kind → FailsAt q st' c fault_kind
fails_as p st q st' c kinds.NotJson s h = record { dead = λ R t v g. h.dead R t v (s.on R t v g); utf8 = λ g. h.utf8 (subst (λ (x : Scan). IsBadUtf8 x c) s.scans g) }
fails_as p st q st' c kinds.BadUtf8 s h = record { dead = λ R t v g. h.dead R t v (s.on R t v g); utf8 = subst (λ (x : Scan). IsBadUtf8 x c) (sym s.scans) h.utf8 }
fails_as p st q st' c kinds.TooDeep s h = record {
  dead = λ R le t v g. h.dead R le t v (s.on R t v g);
  enough = h.enough;
  alive = λ R lt. alive_as R p st q st' c s (h.alive R lt);
  scans = s.scans ∙ h.scans;
}
fails_as p st q st' c kinds.Repeated s h = record {
  dead = λ R d t v g. h.dead R d t v (s.on R t v g);
  alive = λ R d. alive_as R p st q st' c s (h.alive R d);
  scans = s.scans ∙ h.scans;
  quote = h.quote;
}

-- the byte that comes next is a fault
pub refuse : (b : List ℕ) (offset c : ℕ) (p : ReaderState) (st : List Level) (fault_kind : FaultKind) → offset < length b → c ≡ get_or b offset 0 → ReadTo b offset p st → FailsAt p st c fault_kind → IsJsonFault b offset fault_kind
refuse b offset c p st fault_kind lt e h f =
    fault b offset c h.state h.inside fault_kind (at_byte b offset c lt e) h.read
    (fails_as p st h.state h.inside c fault_kind
    (record { on = λ R t v g. h.on R (c ∷ t) v (begins_with offset b c t lt e) g; back = λ R t v g. h.back R (c ∷ t) v (begins_with offset b c t lt e) g; scans = h.scans }) f)

-- nothing comes where something has to
pub refuse_end : (b : List ℕ) (offset : ℕ) (p : ReaderState) (st : List Level) → length b ≤ offset → ReadTo b offset p st → CannotEnd p st → IsJsonFault b offset kinds.NotJson
refuse_end b offset p st le h open_ =
    let whole : offset ≡ length b = omega (arith, h.within) in
    subst (λ (n : ℕ). IsJsonFault b n kinds.NotJson) (sym whole)
    (end_fault b h.state h.inside (subst (λ (t : List ℕ). IsLedTo t h.state h.inside) (take_all offset b le) h.read) (λ R v g. open_ R v (h.on R [] v (nothing_left offset b le) g)))

-- the error that says so
pub refused_at : (b : List ℕ) (e : ReadError) (offset : ℕ) (fault_kind : FaultKind) → e ≡ fault_at offset fault_kind → IsJsonFault b offset fault_kind → RefusesText b e
refused_at b e offset fault_kind is f = subst (λ (x : ReadError). RefusesText b x) (sym is) f

-- an error that is handed on
pub handed_on : {T : Type 0} (Q : ReadError → Type 0) (r : Result T ReadError) (e : ReadError) → IsErrAnd r (λ x. x ≡ e) → Q e → IfErr r Q
handed_on Q (Ok x) e h q = tt
handed_on Q (Err x) e h q = subst Q (sym h) q

-- what is said of one's success is said of the other's
pub ok_as : {T E : Type 0} {P : T → Type 0} {Q : T → Type 0} (r : Result T E) → IfOk r P → ((x : T) → P x → Q x) → IfOk r Q
ok_as (Ok x) h f = f x h
ok_as (Err e) h f = tt

pub err_as : {T E : Type 0} {P Q : E → Type 0} (r : Result T E) → IfErr r P → ((e : E) → P e → Q e) → IfErr r Q
err_as (Ok x) h f = tt
err_as (Err e) h f = f e h

-- outside of strings no byte is bad UTF-8
pub outside_wrong : (p : ReaderState) (st : List Level) (c : ℕ) → scan_of p ≡ outside → ((R : Rules) → IsDead R p st c) → IsWrongByte p st c (IsBadUtf8 (scan_of p) c → ⊥)
outside_wrong p st c e dead = record { dead = dead; utf8 = λ h. subst (λ (s : Scan). IsBadUtf8 s c) e h }

-- ---- the whole text

pub whole_spells : (b : List ℕ) (offset : ℕ) (x : Tree) → length b ≤ offset → ReadTo b offset (after x) [] → Spells x b
whole_spells b offset x le h =
    subst (λ (t : List ℕ). SpellsBy profile x t) (append-nil b) (subst (λ (t : List ℕ). SpellsBy profile x (t ++ [])) (take_all offset b le) ((h.read.follows profile (omega arith)).back [] x (h.back profile [] x (nothing_left offset b le) (refl, refl))))

pub whole_only : (b : List ℕ) (offset : ℕ) (x : Tree) → length b ≤ offset → ReadTo b offset (after x) [] → (v : Tree) → Spells v b → v ≡ x
whole_only b offset x le h v s =
    (h.on profile [] v (nothing_left offset b le) ((h.read.follows profile (omega arith)).on [] v (subst (λ (t : List ℕ). SpellsBy profile v t) (sym (append-nil (take offset b))) (subst (λ (t : List ℕ). SpellsBy profile v t) (sym (take_all offset b le)) s)))).1
