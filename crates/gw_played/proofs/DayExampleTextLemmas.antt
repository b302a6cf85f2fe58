-- The texts of the Display and of the Abort of an end of day of the examples, and what they are read as.
use Rattle.std.proofs.Common.{◌≡◌, ℕ, suc, Bool, true, false, List, [], ◌∷◌, refl, sym, subst, arith, inl}
use Rattle.std.proofs.lemmas.Bool.{and_parts, ltb-true}
use Rattle.std.proofs.lemmas.List.Elements.{All-from_recursion}
use Rattle.std.proofs.lemmas.Slice.Eq.{bytes_eq-Decides}
use Rattle.std.proofs.lemmas.Str.{IsUtf8-from_is_utf8}
use Rattle.std.specs.Prelude.{nat_lt, ◌&&◌, not, bytes_eq, codes}
use Rattle.std.specs.Str.{is_utf8, chars}
use lib.Utf8.{encode}
use Rattle.json_text.specs.Tree.{Tree, null, boolean, number, string, array, object, Elements, no_elements, element, Members, no_members, member, names}
use Rattle.json_text.specs.Grammar.{Spells, IsNew, AreDistinct}
use Rattle.json_text.specs.Spellable.{IsSpellableAt, AreSpellable, HaveSpellable}
use Rattle.json_text.specs.Canonical.{canonical}
use Rattle.json_text.proofs.CanonicalLemmas.{spellable_written}
use Rattle.sale_frame.specs.Grammar.{frame}
use Rattle.sale_values.specs.MemberShapes.{text_member}
use Rattle.sale_values.specs.declared.names.Class.TheVariants.{Device, Service}
use Rattle.sale_values.specs.declared.request.Incoming.TheVariants as incoming
use Rattle.sale_values.specs.declared.request.SaleRequest.TheVariants as requests
use Rattle.sale_msg.specs.declared.category.Category.TheVariants as categories
use Rattle.sale_msg.specs.Canonical.{body_object, request_tree, display_output_tree}
use Rattle.sale_msg.specs.Form.{HasTextMember, IsJsonObject}
use Rattle.sale_msg.specs.Flaw.{IsMet, AreMet}
use Rattle.sale_msg.specs.Grammar.{IsTillMessage, HeaderHolds, Asks, parts_of}
use Rattle.sale_msg.specs.Path.{tree_at}
use Rattle.sale_msg.specs.Table.{rows_of, part_rows}
use Rattle.gw_owes.specs.ReadAs.{IsReadAs}
use Rattle.gw_rules.specs.DayLogExample.{display_header, hello}
use Rattle.gw_rules.specs.Lawful.{IsChunk}
use Rattle.gw_books.specs.ReversalExample.{aborting_header}
use Rattle.gw_rules.proofs.StageLemmas.{no-true}
use Rattle.gw_rules.proofs.TextLemmas.{bytes-tested, ident-tested, letters-tested}
use Rattle.gw_played.specs.DayExample.{asked_day_abort, asked_display, day_abort_text, day_reference, display_text}

pub display-chunk : IsChunk (frame display_text)
unfolding display_text
display-chunk = record { count = (omega arith, omega arith); bytes = bytes-tested (frame display_text) refl }

-- ---- a tree without numbers is tested by computing

abbrev lacks_name : List ℕ → List (List ℕ) → Bool
lacks_name name [] = true
lacks_name name (other ∷ names) = not (bytes_eq name other) && lacks_name name names

abbrev are_distinct : List (List ℕ) → Bool
are_distinct [] = true
are_distinct (name ∷ names) = lacks_name name names && are_distinct names

abbrev mutual
  is_spellable : ℕ → Tree → Bool
  is_spellable d null = true
  is_spellable d (boolean b) = true
  is_spellable d (number text) = false
  is_spellable d (string text) = is_utf8 text
  is_spellable d (array xs) = nat_lt d 32 && are_spellable (suc d) xs
  is_spellable d (object members) = nat_lt d 32 && (are_distinct (names members) && have_spellable (suc d) members)

  are_spellable : ℕ → Elements → Bool
  are_spellable d no_elements = true
  are_spellable d (element value more) = is_spellable d value && are_spellable d more

  have_spellable : ℕ → Members → Bool
  have_spellable d no_members = true
  have_spellable d (member name value more) = is_utf8 name && (is_spellable d value && have_spellable d more)

other-name : (name other : List ℕ) → not (bytes_eq name other) ≡ true → name ≡ other → ⊥
other-name name other h e = no-true (subst (λ b. not b ≡ true) ((bytes_eq-Decides name other).1 e) h)

lacks-name : (name : List ℕ) (others : List (List ℕ)) → lacks_name name others ≡ true → IsNew name others
lacks-name name [] e = tt
lacks-name name (other ∷ others) e = let p = and_parts (not (bytes_eq name other)) (lacks_name name others) e in (other-name name other p.0, lacks-name name others p.1)

are-distinct : (list : List (List ℕ)) → are_distinct list ≡ true → AreDistinct list
are-distinct [] e = tt
are-distinct (name ∷ list) e = let p = and_parts (lacks_name name list) (are_distinct list) e in (lacks-name name list p.0, are-distinct list p.1)

mutual
  spellable-tree : (d : ℕ) (tree : Tree) → is_spellable d tree ≡ true → IsSpellableAt d tree
  spellable-tree d null e = tt
  spellable-tree d (boolean b) e = tt
  spellable-tree d (number text) e = no-true e
  spellable-tree d (string text) e = IsUtf8-from_is_utf8 text e
  spellable-tree d (array xs) e = let p = and_parts (nat_lt d 32) (are_spellable (suc d) xs) e in (ltb-true d 32 p.0, spellable-elements (suc d) xs p.1)
  spellable-tree d (object members) e =
      let p = and_parts (nat_lt d 32) (are_distinct (names members) && have_spellable (suc d) members) e in
      let q = and_parts (are_distinct (names members)) (have_spellable (suc d) members) p.1 in
      (ltb-true d 32 p.0, are-distinct (names members) q.0, spellable-members (suc d) members q.1)

  spellable-elements : (d : ℕ) (xs : Elements) → are_spellable d xs ≡ true → AreSpellable d xs
  spellable-elements d no_elements e = tt
  spellable-elements d (element value more) e = let p = and_parts (is_spellable d value) (are_spellable d more) e in (spellable-tree d value p.0, spellable-elements d more p.1)

  spellable-members : (d : ℕ) (members : Members) → have_spellable d members ≡ true → HaveSpellable d members
  spellable-members d no_members e = tt
  spellable-members d (member name value more) e =
      let p = and_parts (is_utf8 name) (is_spellable d value && have_spellable d more) e in
      let q = and_parts (is_spellable d value) (have_spellable d more) p.1 in
      (IsUtf8-from_is_utf8 name p.0, spellable-tree d value q.0, spellable-members d more q.1)

-- ---- the Display

abbrev display_body : Tree
display_body = body_object display_header (requests.Display (hello ∷ []))

abbrev display_tree : Tree
display_tree = request_tree display_header (requests.Display (hello ∷ []))

display-canonical : display_text ≡ canonical display_tree
unfolding display_text display_output_tree
display-canonical = refl

display-spellable : is_spellable 0 display_tree ≡ true
unfolding is_utf8 chars encode display_output_tree
display-spellable = refl

display-spelled : Spells display_tree display_text
display-spelled = subst (Spells display_tree) (sym display-canonical) (spellable_written display_tree (spellable-tree 0 display_tree display-spellable))

display-header : HeaderHolds display_body display_header
unfolding tree_at
display-header = record { class = refl; category = refl; message_type = refl; service = refl; device = refl; sale = refl; poi = refl }

display-met : AreMet (rows_of categories.Display) display_body
unfolding IsMet tree_at display_output_tree
display-met = (refl, ((omega arith, omega arith, All-from_recursion IsJsonObject (display_output_tree hello ∷ []) (refl, tt)), tt))

output-met : AreMet (part_rows categories.Display) (display_output_tree hello)
unfolding IsMet tree_at display_output_tree
output-met = (ident-tested 40 (codes "CustomerDisplay") refl, (ident-tested 40 (codes "Display") refl, (refl, (refl, (tt, (All-from_recursion HasTextMember (object (text_member (codes "Text") (codes "Hello") no_members) ∷ []) (refl, tt), tt))))))

display-asks : Asks display_body (requests.Display (hello ∷ []))
unfolding tree_at display_output_tree
display-asks = (record { device = refl; qualify = refl; required = refl; texts = refl }, tt)

display-message : IsTillMessage display_tree (incoming.Request display_header (requests.Display (hello ∷ [])))
unfolding IsMet tree_at display_output_tree
display-message = (
  display_body,
  record {
    request_of = record {
      under = refl;
      header_is = record {
        members = (
          refl,
          (
            (codes "0", refl),
            (
              (Device, refl),
              (
                (omega arith, omega arith, letters-tested (codes "Display") refl),
                (inl refl, (ident-tested 10 (codes "3") refl, (ident-tested 10 (codes "1") refl, (ident-tested 40 (codes "S1") refl, (ident-tested 40 (codes "T1") refl, tt))))),
              ),
            ),
          ),
        );
        values = display-header;
      };
      message_type = refl;
    };
    category = refl;
    members = record { members = display-met; parts = All-from_recursion (AreMet (part_rows categories.Display)) (parts_of categories.Display display_body) (output-met, tt) };
    asks = display-asks;
  },
)

-- the Display is read as it is meant
pub display-read : IsReadAs display_text asked_display
display-read = record { tree = display_tree; spelled = display-spelled; read = display-message }

-- ---- the Abort

pub day-abort-chunk : IsChunk (frame day_abort_text)
unfolding day_abort_text
day-abort-chunk = record { count = (omega arith, omega arith); bytes = bytes-tested (frame day_abort_text) refl }

abbrev abort_tree : Tree
abort_tree = request_tree aborting_header (requests.Abort day_reference)

abbrev abort_body : Tree
abort_body = body_object aborting_header (requests.Abort day_reference)

abort-canonical : day_abort_text ≡ canonical abort_tree
unfolding day_abort_text
abort-canonical = refl

abort-spellable : is_spellable 0 abort_tree ≡ true
unfolding is_utf8 chars encode
abort-spellable = refl

abort-spelled : Spells abort_tree day_abort_text
abort-spelled = subst (Spells abort_tree) (sym abort-canonical) (spellable_written abort_tree (spellable-tree 0 abort_tree abort-spellable))

abort-header : HeaderHolds abort_body aborting_header
unfolding tree_at
abort-header = record { class = refl; category = refl; message_type = refl; service = refl; device = refl; sale = refl; poi = refl }

abort-met : AreMet (rows_of categories.Abort) abort_body
unfolding IsMet tree_at
abort-met = (ident-tested 10 (codes "9") refl, (refl, (refl, (ident-tested 10 (codes "2") refl, (tt, (tt, (tt, tt)))))))

abort-asks : Asks abort_body (requests.Abort day_reference)
unfolding tree_at
abort-asks = (_, refl, record { service = refl; sale = refl; poi = refl })

abort-message : IsTillMessage abort_tree (incoming.Request aborting_header (requests.Abort day_reference))
unfolding IsMet tree_at
abort-message = (
  abort_body,
  record {
    request_of = record {
      under = refl;
      header_is = record {
        members = (
          refl,
          (
            (codes "0", refl),
            (
              (Service, refl),
              (
                (omega arith, omega arith, letters-tested (codes "Abort") refl),
                (inl refl, (ident-tested 10 (codes "9") refl, (tt, (ident-tested 40 (codes "S1") refl, (ident-tested 40 (codes "T1") refl, tt))))),
              ),
            ),
          ),
        );
        values = abort-header;
      };
      message_type = refl;
    };
    category = refl;
    members = record { members = abort-met; parts = All-from_recursion (AreMet (part_rows categories.Abort)) [] tt };
    asks = abort-asks;
  },
)

-- the Abort is read as it is meant
pub day-abort-read : IsReadAs day_abort_text asked_day_abort
day-abort-read = record { tree = abort_tree; spelled = abort-spelled; read = abort-message }
