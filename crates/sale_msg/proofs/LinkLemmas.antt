-- Members that are looked for in those of earlier rows.
use Rattle.std.proofs.Common.{◌≡◌, ℕ, suc, ◌+◌, ◌<◌, ◌≤◌, List, [], ◌∷◌, ◌++◌, Option, Some, None, Bool, true, false, ◌&&◌, refl, sym, ap, subst, ◌∙◌, get_or, drop, take, length, map, true≢false, drop-cons, arith}
use Rattle.std.specs.Prelude.{nat_le, bytes_eq}
use Rattle.std.specs.Cmp.Lexicographic.{pointwise}
use Rattle.std.specs.Option.{option_and_then}
use Rattle.std.proofs.lemmas.Bool.{leb-true}
use Rattle.std.proofs.lemmas.List.{get_or-map, length-map, length-take, map-append, map_more, take_all}
use Rattle.std.proofs.lemmas.Slice.Eq.{bytes_eq-Decides}
use Rattle.json_text.specs.Tree.{Tree}
use Rattle.sale_msg.specs.Path.{tree_at, tree_under}
use Rattle.sale_msg.specs.inner.RowValue.{all_names, have_parents, own_names, row_value, values_at}
use Rattle.sale_msg.specs.declared.table.MemberRow.{MemberRow as ProgramRow}
use Rattle.sale_msg.proofs.PathLemmas.{within}

both : (a b : Bool) → (a && b) ≡ true → (a ≡ true) × (b ≡ true)
both true b h = (refl, h)
both false b h = absurd (true≢false (sym h))

names_same : (xs ys : List (List ℕ)) → pointwise bytes_eq xs ys ≡ true → xs ≡ ys
names_same [] [] h = refl
names_same [] (y ∷ ys) h = absurd (true≢false (sym h))
names_same (x ∷ xs) [] h = absurd (true≢false (sym h))
names_same (x ∷ xs) (y ∷ ys) h =
    let parts = both (bytes_eq x y) (pointwise bytes_eq xs ys) h in
    ap (λ z. z ∷ xs) ((bytes_eq-Decides x y).0 parts.0) ∙ ap (λ zs. y ∷ zs) (names_same xs ys parts.1)

-- ---- the names of rows

-- the names that lead to the table's object and to the members of the rows before this number
abbrev pub names_before : List ProgramRow → ℕ → List (List (List ℕ))
names_before rows i = [] ∷ map all_names (take i rows)

-- where a row's member is looked for, after the rows before it
pub record IsLinked (earlier : List (List (List ℕ))) (row : ProgramRow) (rest : List ProgramRow) : Type 0 where
  pub inside : row.parent < length earlier
  pub names : all_names row ≡ get_or earlier row.parent [] ++ own_names row
  pub others : have_parents (earlier ++ all_names row ∷ []) rest ≡ true

first_linked : (earlier : List (List (List ℕ))) (row : ProgramRow) (rest : List ProgramRow) → have_parents earlier (row ∷ rest) ≡ true
    → IsLinked earlier row rest
first_linked earlier row rest h =
    let others = have_parents (earlier ++ all_names row ∷ []) rest in
    let same = pointwise bytes_eq (all_names row) (get_or earlier row.parent [] ++ own_names row) in
    let first = both (nat_le (row.parent + 1) (length earlier)) (same && others) h in
    let second = both same others first.1 in
    let below : row.parent + 1 ≤ length earlier = leb-true (row.parent + 1) (length earlier) first.0 in
    record { inside = omega (arith, below); names = names_same _ _ second.0; others = second.1 }

pub row_linked : (rows : List ProgramRow) (i : ℕ) (d : ProgramRow) → i < length rows → have_parents (names_before rows i) (drop i rows) ≡ true
    → IsLinked (names_before rows i) (get_or rows i d) (drop (suc i) rows)
row_linked rows i d inside h =
    let P : List ProgramRow → Type 0 = λ rest. have_parents (names_before rows i) rest ≡ true in
    first_linked (names_before rows i) (get_or rows i d) (drop (suc i) rows) (subst P (drop-cons rows i d inside) h)

names_more : (rows : List ProgramRow) (i : ℕ) (d : ProgramRow) → i < length rows
    → names_before rows (i + 1) ≡ names_before rows i ++ all_names (get_or rows i d) ∷ []
names_more rows i d inside = ap (λ l. [] ∷ l) (map_more all_names rows i d inside)

others_linked : (rows : List ProgramRow) (i : ℕ) (d : ProgramRow) → i < length rows → have_parents (names_before rows i) (drop i rows) ≡ true
    → have_parents (names_before rows (i + 1)) (drop (i + 1) rows) ≡ true
others_linked rows i d inside h =
    let P : List (List (List ℕ)) → Type 0 = λ earlier. have_parents earlier (drop (suc i) rows) ≡ true in
    let Q : ℕ → Type 0 = λ k. have_parents (names_before rows (i + 1)) (drop k rows) ≡ true in
    let next : suc i ≡ i + 1 = omega arith in
    subst Q next (subst P (sym (names_more rows i d inside)) (row_linked rows i d inside h).others)

pub linked_next : (rows : List ProgramRow) (i : ℕ) → i < length rows → have_parents (names_before rows i) (drop i rows) ≡ true
    → have_parents (names_before rows (i + 1)) (drop (i + 1) rows) ≡ true
linked_next [] i inside h = absurd (omega (arith, inside))
linked_next (row ∷ rows) i inside h = others_linked (row ∷ rows) i row inside h

-- ---- the members

-- what is under each of these names
abbrev pub values_under : List (List (List ℕ)) → Tree → List (Option Tree)
values_under earlier tree = map (λ names. tree_under names tree) earlier

-- what is looked for in the parent is what is at the row's path
pub member_found : (earlier : List (List (List ℕ))) (row : ProgramRow) (rest : List ProgramRow) (tree : Tree) (values : List (Option Tree))
    → IsLinked earlier row rest → values ≡ values_under earlier tree
    → option_and_then (tree_under (own_names row)) (get_or values row.parent None) ≡ tree_at row.within.now tree
unfolding tree_at
member_found earlier row rest tree values linked e =
    ap (λ l. option_and_then (tree_under (own_names row)) (get_or l row.parent None)) e
    ∙ ap (option_and_then (tree_under (own_names row))) (get_or-map (λ names. tree_under names tree) earlier row.parent [] None linked.inside)
    ∙ sym (within (get_or earlier row.parent []) (own_names row) tree)
    ∙ ap (λ names. tree_under names tree) (sym linked.names)

-- one more is found
pub values_next : {A : Type 0} (f : A → Option Tree) (found : List A) (member : A) (rows : List ProgramRow) (i : ℕ) (d : ProgramRow) (tree : Tree) → i < length rows
    → map f found ≡ values_under (names_before rows i) tree → f member ≡ tree_at (get_or rows i d).within.now tree
    → map f (found ++ member ∷ []) ≡ values_under (names_before rows (i + 1)) tree
unfolding tree_at
values_next f found member rows i d tree inside e m =
    map-append f found (member ∷ [])
    ∙ ap (λ l. l ++ f member ∷ []) e
    ∙ ap (λ value. values_under (names_before rows i) tree ++ value ∷ []) m
    ∙ sym (map-append (λ names. tree_under names tree) (names_before rows i) (all_names (get_or rows i d) ∷ []))
    ∙ ap (λ earlier. values_under earlier tree) (sym (names_more rows i d inside))

each_value : (rows : List ProgramRow) (tree : Tree)
    → map (λ names. tree_under names tree) (map all_names rows) ≡ map (λ row. tree_at row.within tree) (map row_value rows)
unfolding tree_at
each_value [] tree = refl
each_value (row ∷ rows) tree = ap (λ l. tree_under (all_names row) tree ∷ l) (each_value rows tree)

-- all are found
pub values_end : (values : List (Option Tree)) (rows : List ProgramRow) (i : ℕ) (tree : Tree) → length rows ≤ i
    → values ≡ values_under (names_before rows i) tree → values ≡ values_at (map row_value rows) tree
values_end values rows i tree all e =
    e ∙ ap (λ l. values_under ([] ∷ map all_names l) tree) (take_all i rows all) ∙ ap (λ l. Some tree ∷ l) (each_value rows tree)

-- there is room for one more
pub room : {A : Type 0} (f : A → Option Tree) (found : List A) (rows : List ProgramRow) (i : ℕ) (tree : Tree) → i < length rows → length rows ≤ 12
    → map f found ≡ values_under (names_before rows i) tree → length found < 13
room f found rows i tree inside few e =
    let same : length (map f found) ≡ length (values_under (names_before rows i) tree) = ap length e in
    omega (arith, same, length-map found f, length-map (names_before rows i) (λ (names : List (List ℕ)). tree_under names tree), length-map (take i rows) all_names, length-take i rows)

-- the parent is found
pub parent_inside : {A : Type 0} (f : A → Option Tree) (found : List A) (earlier : List (List (List ℕ))) (row : ProgramRow) (rest : List ProgramRow) (tree : Tree)
    → IsLinked earlier row rest → map f found ≡ values_under earlier tree → row.parent < length found
parent_inside f found earlier row rest tree linked e =
    let same : length (map f found) ≡ length (values_under earlier tree) = ap length e in
    omega (arith, same, linked.inside, length-map found f, length-map earlier (λ (names : List (List ℕ)). tree_under names tree))
