-- Rows that are met, and the first that isn't.
use Rattle.std.proofs.Common.{◌≡◌, ◌∙◌, ℕ, suc, ◌<◌, List, [], ◌∷◌, Option, Some, None, refl, sym, ap, subst, get_or, drop, length, map, All, MatchOption, inl, inr, drop-cons}
use Rattle.std.proofs.lemmas.List.Elements.{All-nil, All-cons}
use Rattle.std.specs.Option.{option_and_then}
use Rattle.json_text.specs.Tree.{Tree, string_of}
use Rattle.sale_msg.specs.Path.{tree_at}
use Rattle.sale_msg.specs.Form.{HasForm}
use Rattle.sale_msg.specs.Table.{MemberRow}
use Rattle.sale_msg.specs.Flaw.{AreMet, IsFirstAmong, IsFirstFlaw, IsFlaw, IsMet, MayBeAbsent, HasFound, MayHaveFound}
use Rattle.sale_msg.specs.inner.RowValue.{AreFound, row_value, values_at}
use Rattle.sale_msg.specs.declared.table.Form.{Form}
use Rattle.sale_msg.specs.declared.table.Presence.{Presence}
use Rattle.sale_msg.specs.declared.table.Presence.TheVariants.{Required, Optional}
use Rattle.sale_msg.specs.declared.table.MemberRow.{MemberRow as ProgramRow}
use Rattle.sale_msg.specs.declared.flaw.Flaw.{Flaw}
use Rattle.sale_msg.specs.declared.flaw.Flaw.TheVariants as flaws

-- ---- one row

pub met_absent : (row : MemberRow) (tree : Tree) → None ≡ tree_at row.within tree → MayBeAbsent row.presence tree → IsMet row tree
unfolding IsMet
met_absent row tree e h =
    let P : Option Tree → Type 0 = λ found. MatchOption found (MayBeAbsent row.presence tree) (HasForm row.form) in subst P e h

pub met_there : (row : MemberRow) (tree value : Tree) → Some value ≡ tree_at row.within tree → HasForm row.form value → IsMet row tree
unfolding IsMet
met_there row tree value e h =
    let P : Option Tree → Type 0 = λ found. MatchOption found (MayBeAbsent row.presence tree) (HasForm row.form) in subst P e h

abbrev FlawOf : MemberRow → Tree → Flaw → Option Tree → Type 0
FlawOf row tree flaw found = MatchOption found ((¬ MayBeAbsent row.presence tree) × (flaw ≡ flaws.Missing row.path))
    (λ value. (¬ HasForm row.form value) × (flaw ≡ flaws.Wrong row.path))

pub flaw_absent : (row : MemberRow) (tree : Tree) (path : List ℕ) → None ≡ tree_at row.within tree → (¬ MayBeAbsent row.presence tree)
    → path ≡ row.path → IsFlaw row tree (flaws.Missing path)
unfolding IsFlaw
flaw_absent row tree path e h p = subst (FlawOf row tree (flaws.Missing path)) e (h, ap flaws.Missing p)

pub flaw_there : (row : MemberRow) (tree value : Tree) (path : List ℕ) → Some value ≡ tree_at row.within tree → (¬ HasForm row.form value)
    → path ≡ row.path → IsFlaw row tree (flaws.Wrong path)
unfolding IsFlaw
flaw_there row tree value path e h p = subst (FlawOf row tree (flaws.Wrong path)) e (h, ap flaws.Wrong p)

-- ---- row by row

-- what is true of the rest of the rows leads to what is true of all
pub record LeadsTo (rest rows : List MemberRow) (tree : Tree) : Type 0 where
  pub met : AreMet rest tree → AreMet rows tree
  pub flaw : (flaw : Flaw) → IsFirstFlaw rest tree flaw → IsFirstFlaw rows tree flaw

pub leads_all : (rows : List MemberRow) (tree : Tree) → LeadsTo rows rows tree
leads_all rows tree = record { met = λ h. h; flaw = λ f h. h }

leads_by : (row : MemberRow) (rest rows : List MemberRow) (tree : Tree) → IsMet row tree → LeadsTo (row ∷ rest) rows tree → LeadsTo rest rows tree
leads_by row rest rows tree m h = record { met = λ k. h.met (m, k); flaw = λ f k. h.flaw f (inr (m, k)) }

split : (program : List ProgramRow) (i : ℕ) (d : ProgramRow) → i < length program
    → map row_value (drop i program) ≡ row_value (get_or program i d) ∷ map row_value (drop (suc i) program)
split program i d inside = ap (map row_value) (drop-cons program i d inside)

pub leads_next : (program : List ProgramRow) (rows : List MemberRow) (tree : Tree) (i : ℕ) (d : ProgramRow) → i < length program
    → IsMet (row_value (get_or program i d)) tree → LeadsTo (map row_value (drop i program)) rows tree
    → LeadsTo (map row_value (drop (suc i) program)) rows tree
leads_next program rows tree i d inside m h =
    let P : List MemberRow → Type 0 = λ rest. LeadsTo rest rows tree in
    leads_by (row_value (get_or program i d)) (map row_value (drop (suc i) program)) rows tree m (subst P (split program i d inside) h)

pub leads_flaw : (program : List ProgramRow) (rows : List MemberRow) (tree : Tree) (i : ℕ) (d : ProgramRow) (flaw : Flaw) → i < length program
    → IsFlaw (row_value (get_or program i d)) tree flaw → LeadsTo (map row_value (drop i program)) rows tree → IsFirstFlaw rows tree flaw
leads_flaw program rows tree i d flaw inside f h =
    let P : List MemberRow → Type 0 = λ rest. IsFirstFlaw rest tree flaw in
    h.flaw flaw (subst P (sym (split program i d inside)) (inl f))

pub leads_end : (rows : List MemberRow) (tree : Tree) (rest : List MemberRow) → rest ≡ [] → LeadsTo rest rows tree → AreMet rows tree
leads_end rows tree rest e h = let P : List MemberRow → Type 0 = λ l. AreMet l tree in h.met (subst P (sym e) tt)

-- ---- what follows from rows that are met

-- a member that meets its row is of its form where it is there
pub met_may_hold : (row : MemberRow) (tree : Tree) → IsMet row tree → MayHaveFound row.form (tree_at row.within tree)
unfolding IsMet
met_may_hold row tree h = by (tree_at row.within tree) h
  where
    by : (found : Option Tree) → MatchOption found (MayBeAbsent row.presence tree) (HasForm row.form)
        → MatchOption found (Unit {0}) (HasForm row.form)
    by None m = tt
    by (Some value) m = m

-- ---- object by object

-- what is true of the rest of the objects leads to what is true of all
pub record LeadsToEach (rows : List MemberRow) (rest trees : List Tree) : Type 0 where
  pub met : All (AreMet rows) rest → All (AreMet rows) trees
  pub flaw : (flaw : Flaw) → IsFirstAmong rows rest flaw → IsFirstAmong rows trees flaw

pub each_all : (rows : List MemberRow) (trees : List Tree) → LeadsToEach rows trees trees
each_all rows trees = record { met = λ h. h; flaw = λ f h. h }

split_each : {A : Type 0} (f : A → Tree) (xs : List A) (i : ℕ) (d : A) → i < length xs
    → map f (drop i xs) ≡ f (get_or xs i d) ∷ map f (drop (suc i) xs)
split_each f xs i d inside = ap (map f) (drop-cons xs i d inside)

each_by : (rows : List MemberRow) (tree : Tree) (rest trees : List Tree) → AreMet rows tree → LeadsToEach rows (tree ∷ rest) trees
    → LeadsToEach rows rest trees
each_by rows tree rest trees m h =
    record { met = λ k. h.met (All-cons (AreMet rows) tree rest m k); flaw = λ f k. h.flaw f (inr (m, k)) }

pub each_next : {A : Type 0} (rows : List MemberRow) (f : A → Tree) (xs : List A) (trees : List Tree) (i : ℕ) (x : A) → i < length xs
    → x ≡ get_or xs i x → AreMet rows (f x) → LeadsToEach rows (map f (drop i xs)) trees
    → LeadsToEach rows (map f (drop (suc i) xs)) trees
each_next {A} rows f xs trees i x inside e m h =
    let P : List Tree → Type 0 = λ rest. LeadsToEach rows rest trees in
    let Q : A → Type 0 = λ y. AreMet rows (f y) in
    each_by rows (f (get_or xs i x)) (map f (drop (suc i) xs)) trees (subst Q e m) (subst P (split_each f xs i x inside) h)

pub each_flaw : {A : Type 0} (rows : List MemberRow) (f : A → Tree) (xs : List A) (trees : List Tree) (i : ℕ) (x : A) (flaw : Flaw)
    → i < length xs → x ≡ get_or xs i x → IsFirstFlaw rows (f x) flaw → LeadsToEach rows (map f (drop i xs)) trees
    → IsFirstAmong rows trees flaw
each_flaw {A} rows f xs trees i x flaw inside e k h =
    let P : List Tree → Type 0 = λ rest. IsFirstAmong rows rest flaw in
    let Q : A → Type 0 = λ y. IsFirstFlaw rows (f y) flaw in
    h.flaw flaw (subst P (sym (split_each f xs i x inside)) (inl (subst Q e k)))

pub each_end : (rows : List MemberRow) (rest trees : List Tree) → rest ≡ [] → LeadsToEach rows rest trees → All (AreMet rows) trees
each_end rows rest trees e h =
    let P : List Tree → Type 0 = λ l. All (AreMet rows) l in h.met (subst P (sym e) (All-nil (AreMet rows)))

-- ---- members that were found

pub row_found : (table : List MemberRow) (tree : Tree) (values : List (Option Tree)) (number : ℕ) (found : Option Tree) → AreFound table tree values
    → found ≡ get_or values number None → found ≡ get_or (values_at table tree) number None
row_found table tree values number found h e = e ∙ ap (λ l. get_or l number None) h.are

pub required_found : (within path : List ℕ) (form : Form) (tree : Tree) (found : Option Tree)
    → IsMet (record { within = within; path = path; presence = Required; form = form }) tree → found ≡ tree_at within tree → HasFound form found
unfolding IsMet
required_found within path form tree found h e = let P : Option Tree → Type 0 = λ o. MatchOption o ⊥ (HasForm form) in subst P (sym e) h

-- what a required member is
pub required_is : (within path : List ℕ) (form : Form) (tree : Tree)
    → IsMet (record { within = within; path = path; presence = Required; form = form }) tree → (value : Tree) × (tree_at within tree ≡ Some value)
unfolding IsMet
required_is within path form tree h = by (tree_at within tree) refl h
  where
    by : (found : Option Tree) → tree_at within tree ≡ found → MatchOption found ⊥ (HasForm form) → (value : Tree) × (tree_at within tree ≡ Some value)
    by None e k = absurd k
    by (Some value) e k = (value, e)

pub may_be_found : (within path : List ℕ) (presence : Presence) (form : Form) (tree : Tree) (found : Option Tree)
    → IsMet (record { within = within; path = path; presence = presence; form = form }) tree → found ≡ tree_at within tree → MayHaveFound form found
may_be_found within path presence form tree found h e =
    let P : Option Tree → Type 0 = λ o. MatchOption o (Unit {0}) (HasForm form) in
    subst P (sym e) (met_may_hold (record { within = within; path = path; presence = presence; form = form }) tree h)

-- what is read of the member that was found is so of what is at the path
pub text_found : (found at : Option Tree) (text : Option (List ℕ)) → found ≡ at → option_and_then string_of found ≡ text → option_and_then string_of at ≡ text
text_found found at text e h = ap (option_and_then string_of) (sym e) ∙ h

-- ---- rows of one member by two paths

pub required_as : (within path other reported : List ℕ) (form : Form) (tree part : Tree)
    → IsMet (record { within = within; path = path; presence = Required; form = form }) tree → tree_at within tree ≡ tree_at other part
    → IsMet (record { within = other; path = reported; presence = Required; form = form }) part
unfolding IsMet
required_as within path other reported form tree part h e = let P : Option Tree → Type 0 = λ o. MatchOption o ⊥ (HasForm form) in subst P e h

pub optional_as : (within path other reported : List ℕ) (form : Form) (tree part : Tree)
    → IsMet (record { within = within; path = path; presence = Optional; form = form }) tree → tree_at within tree ≡ tree_at other part
    → IsMet (record { within = other; path = reported; presence = Optional; form = form }) part
unfolding IsMet
optional_as within path other reported form tree part h e = let P : Option Tree → Type 0 = λ o. MatchOption o (Unit {0}) (HasForm form) in subst P e h
