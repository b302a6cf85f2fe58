-- Which connections are open, as turns change them.
use Rattle.std.proofs.Common.{◌≡◌, ℕ, List, [], ◌∷◌, ◌++◌, take, refl, sym, ◌∙◌, ap, subst, inl, inr, true, false}
use Rattle.std.proofs.lemmas.Bool.Decides.{eqb_tells}
use Rattle.std.specs.Prelude.{◌==◌, ◌||◌, Bool, if◌then◌else◌, Some}
use Rattle.gw_site.specs.Outside.{Connection, Outside, hears, is_connected, new_connection, outside_after, outside_from, without}
use Rattle.gw_site.specs.Turns.{event_turns}
use Rattle.gw_site.specs.declared.site.What.{What}
use Rattle.gw_site.specs.declared.site.What.TheVariants.{TillOpened, TillBytes, TillClosed, PtBytes, PtClosed, Nothing, Stopped}
use Rattle.gw_site.specs.declared.turn.Turn.TheVariants.{HeardPt, HeardTill, Linked, Opened}
use Rattle.sim_site.specs.Connected.{HasConnections, IsFollowed}
use Rattle.sim_site.specs.Numbers.{least_till, numbers_value, numbers_with, numbers_without}
use Rattle.sim_site.specs.declared.connections.Connections.{Connections}

-- ---- which numbers are open

heard_there : (connections : List Connection) (number : ℕ) (bytes : List ℕ) (other : ℕ) → is_connected (hears connections number bytes) other ≡ is_connected connections other
heard_there [] number bytes other = refl
heard_there (connection ∷ connections) number bytes other = by_test (connection.number == number) (heard_there connections number bytes other)
  where
    by_test : (test : Bool) → is_connected (hears connections number bytes) other ≡ is_connected connections other →
        is_connected (if test then record connection { heard = connection.heard ++ bytes } ∷ connections else connection ∷ hears connections number bytes) other ≡ is_connected (connection ∷ connections) other
    by_test true later = refl
    by_test false later = ap (λ rest. (connection.number == other) || rest) later

-- the first connection is the one that is gone
first_gone : (number other first : ℕ) (rest : Bool) → first ≡ number → (if other == number then false else rest) ≡ (if other == number then false else ((first == other) || rest))
first_gone number other first rest same = elim (eqb_tells other number) [
  | inl e ↦ rw e.0 refl
  | inr e ↦ rw e.0 (elim (eqb_tells first other) [ inl f ↦ absurd (e.1 (sym f.1 ∙ same)) | inr f ↦ rw f.0 refl ])
]

-- the first connection stays
first_stays : (number other first : ℕ) (rest : Bool) → (first ≡ number → ⊥) → ((first == other) || (if other == number then false else rest)) ≡ (if other == number then false else ((first == other) || rest))
first_stays number other first rest differs = elim (eqb_tells other number) [
  | inl e ↦ rw e.0 (elim (eqb_tells first other) [ inl f ↦ absurd (differs (f.1 ∙ e.1)) | inr f ↦ rw f.0 refl ])
  | inr e ↦ rw e.0 refl
]

none_gone : (test : Bool) → false ≡ (if test then false else false)
none_gone true = refl
none_gone false = refl

gone_there : (connections : List Connection) (number other : ℕ) → is_connected (without connections number) other ≡ (if other == number then false else is_connected connections other)
gone_there [] number other = none_gone (other == number)
gone_there (connection ∷ connections) number other = elim (eqb_tells connection.number number) [
  | inl e ↦ rw e.0 (gone_there connections number other ∙ first_gone number other connection.number (is_connected connections other) e.1)
  | inr e ↦ rw e.0 (ap (λ rest. (connection.number == other) || rest) (gone_there connections number other) ∙ first_stays number other connection.number (is_connected connections other) e.1)
]

new_there : (number other : ℕ) → ((number == other) || false) ≡ (if other == number then true else false)
new_there number other = elim (eqb_tells other number) [
  | inl e ↦ rw e.0 (elim (eqb_tells number other) [ inl f ↦ rw f.0 refl | inr f ↦ absurd (f.1 (sym e.1)) ])
  | inr e ↦ rw e.0 (elim (eqb_tells number other) [ inl f ↦ absurd (e.1 (sym f.1)) | inr f ↦ rw f.0 refl ])
]

or_new : (first test rest : Bool) → (first || (if test then true else rest)) ≡ (if test then true else (first || rest))
or_new true true rest = refl
or_new true false rest = refl
or_new false true rest = refl
or_new false false rest = refl

more_there : (connections : List Connection) (number other : ℕ) → is_connected (connections ++ new_connection number ∷ []) other ≡ (if other == number then true else is_connected connections other)
more_there [] number other = new_there number other
more_there (connection ∷ connections) number other = ap (λ rest. (connection.number == other) || rest) (more_there connections number other) ∙ or_new (connection.number == other) (other == number) (is_connected connections other)

again_there : (test rest : Bool) → (if test then true else (if test then false else rest)) ≡ (if test then true else rest)
again_there true rest = refl
again_there false rest = refl

are_heard : (connections : List Connection) (number : ℕ) (bytes : List ℕ) → is_connected (hears connections number bytes) ≡ is_connected connections
are_heard connections number bytes = λ i other. heard_there connections number bytes other i

are_without : (connections : List Connection) (number : ℕ) → is_connected (without connections number) ≡ numbers_without (is_connected connections) number
are_without connections number = λ i other. gone_there connections number other i

are_with : (connections : List Connection) (number : ℕ) → is_connected (connections ++ new_connection number ∷ []) ≡ numbers_with (is_connected connections) number
are_with connections number = λ i other. more_there connections number other i

-- a connection that is there again
are_again : (numbers : ℕ → Bool) (number : ℕ) → numbers_with (numbers_without numbers number) number ≡ numbers_with numbers number
are_again numbers number = λ i other. again_there (other == number) (numbers other) i

-- ---- turns

-- a till or terminal is gone
pub tills_cut : (o : Outside) (held next : Connections) (till : ℕ) → HasConnections o held → numbers_value next.tills ≡ numbers_without (numbers_value held.tills) till → next.opened ≡ held.opened → next.links ≡ held.links →
    HasConnections (record o { tills = without o.tills till }) next
tills_cut o held next till h tills opened links = record {
  tills = are_without o.tills till ∙ ap (λ numbers. numbers_without numbers till) h.tills ∙ sym tills;
  next = h.next ∙ ap least_till (sym opened);
  links = h.links ∙ ap numbers_value (sym links);
}

pub links_cut : (o : Outside) (held next : Connections) (pt : ℕ) → HasConnections o held → numbers_value next.links ≡ numbers_without (numbers_value held.links) pt → next.opened ≡ held.opened → next.tills ≡ held.tills →
    HasConnections (record o { links = without o.links pt }) next
links_cut o held next pt h links opened tills = record {
  tills = h.tills ∙ ap numbers_value (sym tills);
  next = h.next ∙ ap least_till (sym opened);
  links = are_without o.links pt ∙ ap (λ numbers. numbers_without numbers pt) h.links ∙ sym links;
}

-- a terminal is linked, maybe anew
pub links_made : (o : Outside) (held next : Connections) (pt : ℕ) → HasConnections o held → numbers_value next.links ≡ numbers_with (numbers_value held.links) pt → next.opened ≡ held.opened → next.tills ≡ held.tills →
    HasConnections (outside_after o (Linked pt)) next
links_made o held next pt h links opened tills = record {
  tills = h.tills ∙ ap numbers_value (sym tills);
  next = h.next ∙ ap least_till (sym opened);
  links = are_with (without o.links pt) pt ∙ ap (λ numbers. numbers_with numbers pt) (are_without o.links pt) ∙ are_again (is_connected o.links) pt ∙ ap (λ numbers. numbers_with numbers pt) h.links ∙ sym links;
}

-- a till opens
pub tills_made : (o : Outside) (held next : Connections) (till : ℕ) → HasConnections o held → numbers_value next.tills ≡ numbers_with (numbers_value held.tills) till → next.opened ≡ Some till → next.links ≡ held.links →
    HasConnections (outside_after o (Opened till)) next
tills_made o held next till h tills opened links = record {
  tills = are_with o.tills till ∙ ap (λ numbers. numbers_with numbers till) h.tills ∙ sym tills;
  next = ap least_till (sym opened);
  links = h.links ∙ ap numbers_value (sym links);
}

-- bytes are heard on a connection
pub till_heard : (o : Outside) (held : Connections) (till : ℕ) (bytes : List ℕ) → HasConnections o held → HasConnections (outside_after o (HeardTill till bytes)) held
till_heard o held till bytes h = record { tills = are_heard o.tills till bytes ∙ h.tills; next = h.next; links = h.links }

pub pt_heard : (o : Outside) (held : Connections) (pt : ℕ) (bytes : List ℕ) → HasConnections o held → HasConnections (outside_after o (HeardPt pt bytes)) held
pt_heard o held pt bytes h = record { tills = h.tills; next = h.next; links = are_heard o.links pt bytes ∙ h.links }

-- what a poll brings, as the connections follow it
pub followed : (o : Outside) (old new : Connections) (what : What) (buf : List ℕ) → IsFollowed old new what → HasConnections o old → HasConnections (outside_from o (event_turns what buf)) new
followed o old new (TillOpened till) buf f h = f o h
followed o old new (TillBytes till count) buf f h = till_heard o new till (take count buf) (subst (HasConnections o) (sym f) h)
followed o old new (TillClosed till) buf f h = f o h
followed o old new (PtBytes pt count) buf f h = pt_heard o new pt (take count buf) (subst (HasConnections o) (sym f) h)
followed o old new (PtClosed pt) buf f h = f o h
followed o old new Nothing buf f h = subst (HasConnections o) (sym f) h
followed o old new Stopped buf f h = subst (HasConnections o) (sym f) h
