-- What has been read so far, and what it says of the whole.
use Rattle.std.proofs.Common.{◌≡◌, ℕ, suc, ◌+◌, ◌<◌, ◌≤◌, List, [], ◌∷◌, ◌++◌, length, get_or, take, drop, true, false, refl, sym, subst, arith, append_assoc}
use Rattle.std.proofs.lemmas.List.{append-nil, take_more, take-append-drop}
use Rattle.std.proofs.Math.Seq.{take-length}
use Rattle.json_text.specs.Tree.{Tree}
use Rattle.json_text.specs.Grammar.{Rules, skip, Value, SpellsBy, Spells, BeginsTextBy, BeginsText, profile}
use Rattle.json_text.specs.Scan.{Scan, outside, inside, scan, IsBadUtf8}
use Rattle.json_text.specs.inner.ReaderStates.{Level, ReaderState, value, IsDead, IsAlive, Follows, scan_of, CannotEnd}
use Rattle.json_text.specs.Fault.{IsJsonFault, BreaksUtf8}
use Rattle.json_text.specs.inner.ByteFaults.{FailsAt}
use Rattle.json_text.specs.declared.fault.FaultKind.{FaultKind}
use Rattle.json_text.specs.declared.fault.FaultKind.TheVariants as kinds
use Rattle.json_text.specs.inner.ReaderProgress.{IsLive, IsLedTo}

-- ---- one rule book

pub start : (R : Rules) → Follows R [] value []
start R = record {
  on = λ b v h. record { tree = v; rest = h.0; valued = h.1; after = (h.2, refl) };
  back = λ b v h. (h.rest, subst (λ (t : Tree). Value R 0 t (skip b) h.rest) (sym h.after.1) h.valued, h.after.0);
}

begins : (R : Rules) (prefix : List ℕ) (p : ReaderState) (st : List Level) → Follows R prefix p st → IsLive R p st → BeginsTextBy R prefix
begins R prefix p st f l = (l.1, l.0, f.back l.0 l.1 l.2)

begins_more : (R : Rules) (prefix : List ℕ) (p : ReaderState) (st : List Level) (c : ℕ) → Follows R prefix p st → IsAlive R p st c → BeginsTextBy R (prefix ++ c ∷ [])
begins_more R prefix p st c f l = (l.1, l.0, rw append_assoc (f.back (c ∷ l.0) l.1 l.2))

dead_end : (R : Rules) (prefix : List ℕ) (p : ReaderState) (st : List Level) (c : ℕ) → Follows R prefix p st → IsDead R p st c → BeginsTextBy R (prefix ++ c ∷ []) → ⊥
dead_end R prefix p st c f dead g = dead g.1 g.0 (f.on (c ∷ g.1) g.0 (rw append_assoc at g.2))

-- ---- every rule book that allows 32 levels

abbrev limited : ℕ → Rules
limited n = record { limit = n; distinct = true }

abbrev lax : Rules
lax = record { limit = 32; distinct = false }

none_after : (b : List ℕ) (offset : ℕ) → (BeginsText (take (offset + 1) b) → ⊥) → (v : Tree) → Spells v b → ⊥
none_after b offset dead v h = dead (v, drop (offset + 1) b, subst (λ (t : List ℕ). SpellsBy profile v t) (sym (take-append-drop (offset + 1) b)) h)

-- the byte at the offset, and the bytes before it
pub record IsAt (b : List ℕ) (offset c : ℕ) : Type 0 where
  pub within : offset < length b
  pub byte : c ≡ get_or b offset 0
  pub taken : take (offset + 1) b ≡ take offset b ++ c ∷ []

pub at_byte : (b : List ℕ) (offset c : ℕ) → offset < length b → c ≡ get_or b offset 0 → IsAt b offset c
at_byte b offset c lt e = record { within = lt; byte = e; taken = rw e (take_more b offset 0 lt) }

more_begins : (R : Rules) (b : List ℕ) (offset c : ℕ) (p : ReaderState) (st : List Level) → IsAt b offset c → Follows R (take offset b) p st → IsAlive R p st c → BeginsTextBy R (take (offset + 1) b)
more_begins R b offset c p st i f l = subst (λ (t : List ℕ). BeginsTextBy R t) (sym i.taken) (begins_more R (take offset b) p st c f l)

more_dead : (R : Rules) (b : List ℕ) (offset c : ℕ) (p : ReaderState) (st : List Level) → IsAt b offset c → Follows R (take offset b) p st → IsDead R p st c → BeginsTextBy R (take (offset + 1) b) → ⊥
more_dead R b offset c p st i f dead g = dead_end R (take offset b) p st c f dead (subst (λ (t : List ℕ). BeginsTextBy R t) i.taken g)

-- what the scan says of the byte at the offset
utf8_at : (b : List ℕ) (offset c : ℕ) (p : ReaderState) → IsAt b offset c → scan (take offset b) ≡ scan_of p → BreaksUtf8 b offset → IsBadUtf8 (scan_of p) c
utf8_at b offset c p i s h = subst (λ (x : ℕ). IsBadUtf8 (scan_of p) x) (sym i.byte) (subst (λ (x : Scan). IsBadUtf8 x (get_or b offset 0)) s h.1)

utf8_there : (b : List ℕ) (offset c : ℕ) (p : ReaderState) → IsAt b offset c → scan (take offset b) ≡ scan_of p → IsBadUtf8 (scan_of p) c → BreaksUtf8 b offset
utf8_there b offset c p i s h = (i.within, subst (λ (x : Scan). IsBadUtf8 x (get_or b offset 0)) (sym s) (subst (λ (x : ℕ). IsBadUtf8 (scan_of p) x) i.byte h))

not_bad : (s : Scan) (c : ℕ) → s ≡ outside → IsBadUtf8 s c → ⊥
not_bad s c e h = subst (λ (x : Scan). IsBadUtf8 x c) e h

quote_not_bad : (s : Scan) (c : ℕ) → s ≡ inside → c ≡ 34 → IsBadUtf8 s c → ⊥
quote_not_bad s c e q h = let le : 128 ≤ c = subst (λ (x : Scan). IsBadUtf8 x c) e h in omega arith

pub fault : (b : List ℕ) (offset c : ℕ) (p : ReaderState) (st : List Level) (fault_kind : FaultKind) → IsAt b offset c → IsLedTo (take offset b) p st → FailsAt p st c fault_kind → IsJsonFault b offset fault_kind
fault b offset c p st kinds.NotJson i r f =
    let stuck = more_dead profile b offset c p st i (r.follows profile (omega arith)) (f.dead profile) in
    record {
      within = omega (arith, i.within);
      begins = begins profile (take offset b) p st (r.follows profile (omega arith)) (r.live profile);
      longest = λ _ g. stuck g;
      spelled_by_none = none_after b offset stuck;
      too_deep = (λ e. absurd cc, λ g. absurd (more_dead (limited g.1.0) b offset c p st i (r.follows (limited g.1.0) g.1.1) (f.dead (limited g.1.0)) g.1.2));
      repeated = (λ e. absurd cc, λ g. absurd (more_dead lax b offset c p st i (r.follows lax (omega arith)) (f.dead lax) g.1));
      bad_utf8 = (λ e. absurd cc, λ g. absurd (f.utf8 (utf8_at b offset c p i r.scans g)));
    }
fault b offset c p st kinds.BadUtf8 i r f =
    let stuck = more_dead profile b offset c p st i (r.follows profile (omega arith)) (f.dead profile) in
    record {
      within = omega (arith, i.within);
      begins = begins profile (take offset b) p st (r.follows profile (omega arith)) (r.live profile);
      longest = λ _ g. stuck g;
      spelled_by_none = none_after b offset stuck;
      too_deep = (λ e. absurd cc, λ g. absurd (more_dead (limited g.1.0) b offset c p st i (r.follows (limited g.1.0) g.1.1) (f.dead (limited g.1.0)) g.1.2));
      repeated = (λ e. absurd cc, λ g. absurd (more_dead lax b offset c p st i (r.follows lax (omega arith)) (f.dead lax) g.1));
      bad_utf8 = (λ e. utf8_there b offset c p i r.scans f.utf8, λ g. refl);
    }
fault b offset c p st kinds.TooDeep i r f =
    let stuck = more_dead profile b offset c p st i (r.follows profile (omega arith)) (f.dead profile (omega arith)) in
    let more = limited (32 + suc f.enough) in
    record {
      within = omega (arith, i.within);
      begins = begins profile (take offset b) p st (r.follows profile (omega arith)) (r.live profile);
      longest = λ _ g. stuck g;
      spelled_by_none = none_after b offset stuck;
      too_deep = (λ e. (i.within, (32 + suc f.enough, omega arith, more_begins more b offset c p st i (r.follows more (omega arith)) (f.alive more (omega arith)))), λ g. refl);
      repeated = (λ e. absurd cc, λ g. absurd (more_dead lax b offset c p st i (r.follows lax (omega arith)) (f.dead lax (omega arith)) g.1));
      bad_utf8 = (λ e. absurd cc, λ g. absurd (not_bad (scan_of p) c f.scans (utf8_at b offset c p i r.scans g)));
    }
fault b offset c p st kinds.Repeated i r f =
    let stuck = more_dead profile b offset c p st i (r.follows profile (omega arith)) (f.dead profile refl) in
    record {
      within = omega (arith, i.within);
      begins = begins profile (take offset b) p st (r.follows profile (omega arith)) (r.live profile);
      longest = λ _ g. stuck g;
      spelled_by_none = none_after b offset stuck;
      too_deep = (λ e. absurd cc, λ g. absurd (more_dead (limited g.1.0) b offset c p st i (r.follows (limited g.1.0) g.1.1) (f.dead (limited g.1.0) refl) g.1.2));
      repeated = (λ e. (i.within, more_begins lax b offset c p st i (r.follows lax (omega arith)) (f.alive lax refl)), λ g. refl);
      bad_utf8 = (λ e. absurd cc, λ g. absurd (quote_not_bad (scan_of p) c f.scans f.quote (utf8_at b offset c p i r.scans g)));
    }

-- the bytes end in the middle
pub end_fault : (b : List ℕ) (p : ReaderState) (st : List Level) → IsLedTo b p st → CannotEnd p st → IsJsonFault b (length b) kinds.NotJson
end_fault b p st r open_ = record {
  within = omega arith;
  begins = rw (take-length b) (begins profile b p st (r.follows profile (omega arith)) (r.live profile));
  longest = λ lt. absurd (omega arith);
  spelled_by_none = λ v s. open_ profile v ((r.follows profile (omega arith)).on [] v (subst (λ (t : List ℕ). SpellsBy profile v t) (sym (append-nil b)) s));
  too_deep = (λ e. absurd cc, λ g. absurd (omega (arith, g.0)));
  repeated = (λ e. absurd cc, λ g. absurd (omega (arith, g.0)));
  bad_utf8 = (λ e. absurd cc, λ g. absurd (omega (arith, g.0)));
}
