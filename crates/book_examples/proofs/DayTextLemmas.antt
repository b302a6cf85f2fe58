-- The text of the Display of the example, and what it is read as.
use Rattle.std.proofs.Common.{◌≡◌, ℕ, suc, Bool, true, false, List, [], ◌∷◌, refl, sym, subst, arith, inl}
use Rattle.std.proofs.lemmas.Bool.{and_parts, ltb-true}
use Rattle.std.proofs.lemmas.List.Elements.{All-from_recursion}
use Rattle.std.proofs.lemmas.Slice.Eq.{bytes_eq-Decides}
use Rattle.std.proofs.lemmas.Str.{IsUtf8-from_is_utf8}
use Rattle.std.specs.Prelude.{nat_lt, ◌&&◌, not, bytes_eq, codes}
use Rattle.std.specs.Str.{is_utf8, chars}
use lib.Utf8.{encode}
use Rattle.json_text.specs.Tree.{Tree, null, boolean, number, string, array, object, Elements, no_elements, element, Members, no_members, member, names}
use Rattle.json_text.specs.Grammar.{Spells, IsNew, AreDistinct}
use Rattle.json_text.specs.Spellable.{IsSpellableAt, AreSpellable, HaveSpellable}
use Rattle.json_text.specs.Canonical.{canonical}
use Rattle.json_text.proofs.CanonicalLemmas.{spellable_written}
use Rattle.sale_frame.specs.Grammar.{frame}
use Rattle.sale_values.specs.MemberShapes.{text_member}
use Rattle.sale_values.specs.declared.names.Class.TheVariants.{Device}
use Rattle.sale_values.specs.declared.request.Incoming.TheVariants as incoming
use Rattle.sale_values.specs.declared.request.SaleRequest.TheVariants as requests
use Rattle.sale_msg.specs.declared.category.Category.TheVariants as categories
use Rattle.sale_msg.specs.Canonical.{body_object, request_tree, display_output_tree}
use Rattle.sale_msg.specs.Form.{HasTextMember, IsJsonObject}
use Rattle.sale_msg.specs.Flaw.{IsMet, AreMet}
use Rattle.sale_msg.specs.Grammar.{IsTillMessage, HeaderHolds, Asks, parts_of}
use Rattle.sale_msg.specs.Path.{tree_at}
use Rattle.sale_msg.specs.Table.{rows_of, part_rows}
use Rattle.gw_owes.specs.ReadAs.{IsReadAs}
use Rattle.gw_rules.specs.DayLogExample.{display_header, hello, hello_cashier}
use Rattle.gw_rules.specs.Lawful.{IsChunk}
use Rattle.gw_rules.proofs.StageLemmas.{no-true}
use Rattle.gw_rules.proofs.TextLemmas.{bytes-tested, ident-tested, letters-tested}
use Rattle.book_examples.specs.DayExample.{asked_hello, hello_outputs, hello_text}

pub hello-chunk : IsChunk (frame hello_text)
unfolding hello_text
hello-chunk = record { count = (omega arith, omega arith); bytes = bytes-tested (frame hello_text) refl }

-- ---- a tree without numbers is tested by computing

abbrev lacks_name : List ℕ → List (List ℕ) → Bool
lacks_name name [] = true
lacks_name name (other ∷ names) = not (bytes_eq name other) && lacks_name name names

abbrev are_distinct : List (List ℕ) → Bool
are_distinct [] = true
are_distinct (name ∷ names) = lacks_name name names && are_distinct names

abbrev mutual
  pub is_spellable : ℕ → Tree → Bool
  is_spellable d null = true
  is_spellable d (boolean b) = true
  is_spellable d (number text) = false
  is_spellable d (string text) = is_utf8 text
  is_spellable d (array xs) = nat_lt d 32 && are_spellable (suc d) xs
  is_spellable d (object members) = nat_lt d 32 && (are_distinct (names members) && have_spellable (suc d) members)

  are_spellable : ℕ → Elements → Bool
  are_spellable d no_elements = true
  are_spellable d (element value more) = is_spellable d value && are_spellable d more

  have_spellable : ℕ → Members → Bool
  have_spellable d no_members = true
  have_spellable d (member name value more) = is_utf8 name && (is_spellable d value && have_spellable d more)

other-name : (name other : List ℕ) → not (bytes_eq name other) ≡ true → name ≡ other → ⊥
other-name name other h e = no-true (subst (λ b. not b ≡ true) ((bytes_eq-Decides name other).1 e) h)

lacks-name : (name : List ℕ) (others : List (List ℕ)) → lacks_name name others ≡ true → IsNew name others
lacks-name name [] e = tt
lacks-name name (other ∷ others) e = let p = and_parts (not (bytes_eq name other)) (lacks_name name others) e in (other-name name other p.0, lacks-name name others p.1)

are-distinct : (list : List (List ℕ)) → are_distinct list ≡ true → AreDistinct list
are-distinct [] e = tt
are-distinct (name ∷ list) e = let p = and_parts (lacks_name name list) (are_distinct list) e in (lacks-name name list p.0, are-distinct list p.1)

mutual
  pub spellable-tree : (d : ℕ) (tree : Tree) → is_spellable d tree ≡ true → IsSpellableAt d tree
  spellable-tree d null e = tt
  spellable-tree d (boolean b) e = tt
  spellable-tree d (number text) e = no-true e
  spellable-tree d (string text) e = IsUtf8-from_is_utf8 text e
  spellable-tree d (array xs) e = let p = and_parts (nat_lt d 32) (are_spellable (suc d) xs) e in (ltb-true d 32 p.0, spellable-elements (suc d) xs p.1)
  spellable-tree d (object members) e =
      let p = and_parts (nat_lt d 32) (are_distinct (names members) && have_spellable (suc d) members) e in
      let q = and_parts (are_distinct (names members)) (have_spellable (suc d) members) p.1 in
      (ltb-true d 32 p.0, are-distinct (names members) q.0, spellable-members (suc d) members q.1)

  spellable-elements : (d : ℕ) (xs : Elements) → are_spellable d xs ≡ true → AreSpellable d xs
  spellable-elements d no_elements e = tt
  spellable-elements d (element value more) e = let p = and_parts (is_spellable d value) (are_spellable d more) e in (spellable-tree d value p.0, spellable-elements d more p.1)

  spellable-members : (d : ℕ) (members : Members) → have_spellable d members ≡ true → HaveSpellable d members
  spellable-members d no_members e = tt
  spellable-members d (member name value more) e =
      let p = and_parts (is_utf8 name) (is_spellable d value && have_spellable d more) e in
      let q = and_parts (is_spellable d value) (have_spellable d more) p.1 in
      (IsUtf8-from_is_utf8 name p.0, spellable-tree d value q.0, spellable-members d more q.1)

-- ---- its spelling

abbrev hello_body : Tree
hello_body = body_object display_header (requests.Display hello_outputs)

abbrev hello_tree : Tree
hello_tree = request_tree display_header (requests.Display hello_outputs)

hello-canonical : hello_text ≡ canonical hello_tree
unfolding hello_text display_output_tree
hello-canonical = refl

hello-spellable : is_spellable 0 hello_tree ≡ true
unfolding is_utf8 chars encode display_output_tree
hello-spellable = refl

hello-spelled : Spells hello_tree hello_text
hello-spelled = subst (Spells hello_tree) (sym hello-canonical) (spellable_written hello_tree (spellable-tree 0 hello_tree hello-spellable))

-- ---- what it is read as

hello-header : HeaderHolds hello_body display_header
unfolding tree_at
hello-header = record { class = refl; category = refl; message_type = refl; service = refl; device = refl; sale = refl; poi = refl }

hello-met : AreMet (rows_of categories.Display) hello_body
unfolding IsMet tree_at display_output_tree
hello-met = (refl, ((omega arith, omega arith, All-from_recursion IsJsonObject (display_output_tree hello_cashier ∷ display_output_tree hello ∷ []) (refl, (refl, tt))), tt))

cashier-met : AreMet (part_rows categories.Display) (display_output_tree hello_cashier)
unfolding IsMet tree_at display_output_tree
cashier-met = (ident-tested 40 (codes "CashierDisplay") refl, (ident-tested 40 (codes "Display") refl, (refl, (refl, (tt, (All-from_recursion HasTextMember (object (text_member (codes "Text") (codes "Hello") no_members) ∷ []) (refl, tt), tt))))))

customer-met : AreMet (part_rows categories.Display) (display_output_tree hello)
unfolding IsMet tree_at display_output_tree
customer-met = (ident-tested 40 (codes "CustomerDisplay") refl, (ident-tested 40 (codes "Display") refl, (refl, (refl, (tt, (All-from_recursion HasTextMember (object (text_member (codes "Text") (codes "Hello") no_members) ∷ []) (refl, tt), tt))))))

hello-asks : Asks hello_body (requests.Display hello_outputs)
unfolding tree_at display_output_tree
hello-asks = (record { device = refl; qualify = refl; required = refl; texts = refl }, (record { device = refl; qualify = refl; required = refl; texts = refl }, tt))

hello-message : IsTillMessage hello_tree (incoming.Request display_header (requests.Display hello_outputs))
unfolding IsMet tree_at display_output_tree
hello-message = (
  hello_body,
  record {
    request_of = record {
      under = refl;
      header_is = record {
        members = (
          refl,
          (
            (codes "0", refl),
            (
              (Device, refl),
              (
                (omega arith, omega arith, letters-tested (codes "Display") refl),
                (inl refl, (ident-tested 10 (codes "3") refl, (ident-tested 10 (codes "1") refl, (ident-tested 40 (codes "S1") refl, (ident-tested 40 (codes "T1") refl, tt))))),
              ),
            ),
          ),
        );
        values = hello-header;
      };
      message_type = refl;
    };
    category = refl;
    members = record { members = hello-met; parts = All-from_recursion (AreMet (part_rows categories.Display)) (parts_of categories.Display hello_body) (cashier-met, (customer-met, tt)) };
    asks = hello-asks;
  },
)

-- the Display is read as it is meant
pub hello-reads : IsReadAs hello_text asked_hello
hello-reads = record { tree = hello_tree; spelled = hello-spelled; read = hello-message }
