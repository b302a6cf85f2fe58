-- What was read of a till lies within the limits of a reply: headers, paths of faults, outputs.
use Rattle.std.proofs.Common.{◌≡◌, ◌∙◌, ℕ, ◌≤◌, leb, Bool, true, ◌&&◌, List, [], ◌∷◌, length, All, refl, sym, ap, subst, arith, inl, inr}
use Rattle.std.specs.Prelude.{Option, Some, None, IfSome, MatchOption, codes, map}
use Rattle.std.specs.List.{AllZip, list_all}
use Rattle.std.proofs.lemmas.Bool.{and_parts, leb-true}
use Rattle.std.proofs.lemmas.List.Elements.{All-nil, All-cons, All-head, All-tail, All-weaker}
use Rattle.std.proofs.lemmas.Slice.Zip.{AllZip-long}
use Rattle.gw_base.specs.declared.condition.Condition.{Condition}
use Rattle.gw_base.specs.Ident.{IsIdent, IsPrintable}
use Rattle.json_text.specs.Tree.{Tree, array_of, string_of}
use Rattle.sale_values.specs.declared.header.Header.{Header}
use Rattle.sale_values.specs.declared.request.Output.{Output}
use Rattle.sale_msg.specs.Flaw.{AreMet, IsFirstAmong, IsFirstFlaw, IsFlaw, IsMet, MayBeAbsent}
use Rattle.sale_msg.specs.Form.{HasForm, IsLetter, IsOutputList}
use Rattle.sale_msg.specs.Grammar.{HasHeader, IsBodyFlaw, IsOutput, LacksHeader, listed, outputs_in, path_of}
use Rattle.sale_msg.specs.Path.{text_at, tree_at}
use Rattle.sale_msg.specs.Table.{MemberRow, display_rows, header_rows, output_rows, part_rows, rows_of}
use Rattle.sale_msg.specs.declared.category.Category.{Category}
use Rattle.sale_msg.specs.declared.category.Category.TheVariants as categories
use Rattle.sale_msg.specs.declared.table.Envelope.{Envelope}
use Rattle.sale_reply.specs.Limits.{IsHeaderWithinLimits, IsShownWithinLimits}
use Rattle.gw_owes.specs.Replies.{output_refused}
use Rattle.gw_owes.proofs.LimitLemmas.{HasIdent, ident-at}

-- ---- texts that are known

abbrev pub is_printable : ℕ → Bool
is_printable byte = leb 0x20 byte && leb byte 0x7E

abbrev pub is_ident : ℕ → List ℕ → Bool
is_ident most text = leb 1 (length text) && (leb (length text) most && list_all is_printable text)

all-printable : (text : List ℕ) → list_all is_printable text ≡ true → All IsPrintable text
all-printable [] passes = All-nil IsPrintable
all-printable (byte ∷ text) passes =
    let parts = and_parts (is_printable byte) (list_all is_printable text) passes in
    let ends = and_parts (leb 0x20 byte) (leb byte 0x7E) parts.0 in
    All-cons IsPrintable byte text (leb-true 0x20 byte ends.0, leb-true byte 0x7E ends.1) (all-printable text parts.1)

-- a text that is known is an identifier, by computing
pub known-ident : (most : ℕ) (text : List ℕ) → is_ident most text ≡ true → IsIdent most text
known-ident most text passes =
    let parts = and_parts (leb 1 (length text)) (leb (length text) most && list_all is_printable text) passes in
    let rest = and_parts (leb (length text) most) (list_all is_printable text) parts.1 in
    (leb-true 1 (length text) parts.0, leb-true (length text) most rest.0, all-printable text rest.1)

-- ---- headers

letter-printable : (byte : ℕ) → IsLetter byte → IsPrintable byte
letter-printable byte (inl capital) = (omega (arith, capital.0), omega (arith, capital.1))
letter-printable byte (inr small) = (omega (arith, small.0), omega (arith, small.1))

letters-ident : (found : Option (List ℕ)) → MatchOption found ⊥ (λ (text : List ℕ). (1 ≤ length text) × (length text ≤ 40) × All IsLetter text) → MatchOption found ⊥ (IsIdent 40)
letters-ident None letters = letters
letters-ident (Some text) letters = (letters.0, letters.1, All-weaker IsLetter IsPrintable letter-printable text letters.2)

-- the text of a member that may be absent
optional-ident : (row : MemberRow) (most : ℕ) (body : Tree) (text : Option (List ℕ)) → ((tree : Tree) → HasForm row.form tree → HasIdent most tree) → IsMet row body → text_at row.within body ≡ text → IfSome text (λ (id : List ℕ). IsIdent most id)
optional-ident row most body None form met is = tt
optional-ident row most body (Some text) form met is = ident-at row most body text form met is

-- a header that was read is within its limits
pub header-read : (envelope : Envelope) (body : Tree) (header : Header) → HasHeader envelope body header → IsHeaderWithinLimits header
header-read envelope body header has =
    let values = has.values in
    let members = has.members in
    record {
      category = ident-at _ 40 body header.category (λ tree form. letters-ident (string_of tree) form) members.1.1.1.0 values.category;
      service = optional-ident _ 10 body header.service (λ tree form. form) members.1.1.1.1.1.0 values.service;
      device = optional-ident _ 10 body header.device (λ tree form. form) members.1.1.1.1.1.1.0 values.device;
      sale = ident-at _ 40 body header.sale (λ tree form. form) members.1.1.1.1.1.1.1.0 values.sale;
      poi = ident-at _ 40 body header.poi (λ tree form. form) members.1.1.1.1.1.1.1.1.0 values.poi;
    }

-- ---- paths

abbrev is_path : MemberRow → Bool
is_path row = is_ident 100 row.path

-- whichever flaw a member has, its path is this one
flawed-path : {F : Type 0} (path : F → List ℕ) (missing wrong flaw : F) (known : List ℕ) (absent : Type 0) (other : Tree → Type 0) (found : Option Tree) → path missing ≡ known → path wrong ≡ known
    → MatchOption found (absent × (flaw ≡ missing)) (λ (value : Tree). other value × (flaw ≡ wrong)) → path flaw ≡ known
flawed-path path missing wrong flaw known absent other None m w is = ap path is.1 ∙ m
flawed-path path missing wrong flaw known absent other (Some value) m w is = ap path is.1 ∙ w

flaw-path : (row : MemberRow) (tree : Tree) (flaw : _) → IsFlaw row tree flaw → path_of flaw ≡ row.path
unfolding IsFlaw
flaw-path row tree flaw is = flawed-path path_of _ _ flaw row.path (¬ MayBeAbsent row.presence tree) (λ (value : Tree). ¬ HasForm row.form value) (tree_at row.within tree) refl refl is

-- the path of the first flaw is one of the table's
first-path : (rows : List MemberRow) (tree : Tree) (flaw : _) → list_all is_path rows ≡ true → IsFirstFlaw rows tree flaw → IsIdent 100 (path_of flaw)
first-path [] tree flaw paths first = absurd first
first-path (row ∷ rows) tree flaw paths (inl here) =
    let parts = and_parts (is_path row) (list_all is_path rows) paths in
    subst (IsIdent 100) (sym (flaw-path row tree flaw here)) (known-ident 100 row.path parts.0)
first-path (row ∷ rows) tree flaw paths (inr later) =
    let parts = and_parts (is_path row) (list_all is_path rows) paths in first-path rows tree flaw parts.1 later.1

among-path : (rows : List MemberRow) (trees : List Tree) (flaw : _) → list_all is_path rows ≡ true → IsFirstAmong rows trees flaw → IsIdent 100 (path_of flaw)
among-path rows [] flaw paths first = absurd first
among-path rows (tree ∷ trees) flaw paths (inl here) = first-path rows tree flaw paths here
among-path rows (tree ∷ trees) flaw paths (inr later) = among-path rows trees flaw paths later.1

row-paths : (category : Category) → list_all is_path (rows_of category) ≡ true
row-paths categories.Login = refl
row-paths categories.Logout = refl
row-paths categories.Payment = refl
row-paths categories.Reversal = refl
row-paths categories.Abort = refl
row-paths categories.TransactionStatus = refl
row-paths categories.Reconciliation = refl
row-paths categories.Display = refl
row-paths categories.Print = refl
row-paths categories.Diagnosis = refl

part-paths : (category : Category) → list_all is_path (part_rows category) ≡ true
part-paths categories.Login = refl
part-paths categories.Logout = refl
part-paths categories.Payment = refl
part-paths categories.Reversal = refl
part-paths categories.Abort = refl
part-paths categories.TransactionStatus = refl
part-paths categories.Reconciliation = refl
part-paths categories.Display = refl
part-paths categories.Print = refl
part-paths categories.Diagnosis = refl

header-paths : (envelope : Envelope) → list_all is_path (header_rows envelope) ≡ true
header-paths envelope = refl

-- so is that of a body's flaw
pub body-path : (category : Category) (body : Tree) (flaw : _) → IsBodyFlaw category body flaw → IsIdent 100 (path_of flaw)
body-path category body flaw (inl first) = first-path (rows_of category) body flaw (row-paths category) first
body-path category body flaw (inr among) = among-path (part_rows category) _ flaw (part-paths category) among.1

-- and that of a header's
pub headless-path : (message : Tree) (path : List ℕ) → LacksHeader message path → IsIdent 100 path
headless-path message path (inl none) = subst (IsIdent 100) (sym none.1) (known-ident 100 (codes "SaleToPOIRequest") refl)
headless-path message path (inr (envelope, body, flaw, has)) = subst (IsIdent 100) (sym has.path_is) (first-path (header_rows envelope) body flaw (header-paths envelope) has.first)

-- ---- outputs

listed-few : (tree : Tree) → IsOutputList tree → length (listed tree) ≤ 16
listed-few tree is = by-list (array_of tree) refl
  where
    by-list : (list : Option (List Tree)) → array_of tree ≡ list → length (listed tree) ≤ 16
    by-list None e = rw e (omega arith)
    by-list (Some items) e = rw e ((rw e at is).1)

few : (value : Option Tree) → MatchOption value ⊥ IsOutputList → length (outputs_in value) ≤ 16
few None is = absurd is
few (Some tree) is = listed-few tree is

-- a Display that was read has at most 16 outputs
pub few-outputs : (body : Tree) (outputs : List Output) → AreMet display_rows body → AllZip IsOutput (outputs_in (tree_at (codes "DisplayRequest.DisplayOutput") body)) outputs → length outputs ≤ 16
unfolding IsMet
few-outputs body outputs met asks =
    let long = AllZip-long IsOutput _ outputs asks in
    omega (arith, long, few (tree_at (codes "DisplayRequest.DisplayOutput") body) met.1.0)

refused-within : (condition : Condition) (output : Output) (part : Tree) → AreMet output_rows part → IsOutput part output → IsShownWithinLimits (output_refused condition output)
refused-within condition output part met is = record {
  device = ident-at _ 40 part output.device (λ tree form. form) met.0 is.device;
  qualify = ident-at _ 40 part output.qualify (λ tree form. form) met.1.0 is.qualify;
  verdict = tt;
}

-- the results with which each output is refused are within their limits
pub all-refused-within : (condition : Condition) (parts : List Tree) (outputs : List Output) → All (AreMet output_rows) parts → AllZip IsOutput parts outputs → All IsShownWithinLimits (map (output_refused condition) outputs)
all-refused-within condition [] [] met are = All-nil IsShownWithinLimits
all-refused-within condition [] (output ∷ outputs) met are = absurd are
all-refused-within condition (part ∷ parts) [] met are = absurd are
all-refused-within condition (part ∷ parts) (output ∷ outputs) met are =
    All-cons IsShownWithinLimits (output_refused condition output) (map (output_refused condition) outputs)
    (refused-within condition output part (All-head (AreMet output_rows) part parts met) are.0)
    (all-refused-within condition parts outputs (All-tail (AreMet output_rows) part parts met) are.1)
