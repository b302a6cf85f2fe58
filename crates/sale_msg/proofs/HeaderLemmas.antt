-- A request that was read is read again from the tree that is written of it.
use Rattle.std.proofs.Common.{◌≡◌, ℕ, List, Option, Some, None, refl, sym, subst, ◌∙◌, MatchOption, codes, inl, inr, ◌⊎◌}
use Rattle.std.specs.Option.{option_and_then}
use Rattle.gw_base.specs.Ident.{IsIdent}
use Rattle.json_text.specs.Tree.{Tree, string_of}
use Rattle.sale_values.specs.Names.{class_name, kind_name}
use Rattle.sale_values.specs.declared.header.Header.{Header}
use Rattle.sale_values.specs.declared.names.Class.{Class as ClassType}
use Rattle.sale_values.specs.declared.names.Kind.{Kind as KindType}
use Rattle.sale_msg.specs.Form.{TextHasForm}
use Rattle.sale_msg.specs.Flaw.{AreMet, IsMet, MayBeAbsent}
use Rattle.sale_msg.specs.Path.{text_at, tree_at}
use Rattle.sale_msg.specs.Table.{header_rows}
use Rattle.sale_msg.specs.Grammar.{HasHeader, HeaderHolds}
use Rattle.sale_msg.specs.Canonical.{body_object}
use Rattle.sale_msg.specs.declared.table.Envelope.TheVariants as envelopes
use Rattle.sale_msg.specs.declared.table.Form.{Form}
use Rattle.sale_msg.specs.declared.table.Form.TheVariants as forms
use Rattle.sale_msg.specs.declared.table.Presence.{Presence}
use Rattle.sale_msg.specs.declared.table.Presence.TheVariants.{Required, Optional, ByHeader}
use Rattle.sale_values.specs.declared.request.SaleRequest.{SaleRequest}

-- ---- what rows that are met say of texts that were read

-- a text at a member of a form of texts is of this form
pub text_fact : (form : Form) (found : Option Tree) (text : List ℕ) (P : Type 0) → MatchOption found P (λ value. MatchOption (string_of value) ⊥ (TextHasForm form))
    → option_and_then string_of found ≡ Some text → TextHasForm form text
text_fact form None text P h e = let nothing : Option (List ℕ) = None in let f : nothing ≡ Some text = e in absurd cc
text_fact form (Some value) text P h e =
    let Q : Option (List ℕ) → Type 0 = λ o. MatchOption o ⊥ (TextHasForm form) in subst Q e h

pub ident_fact : (path reported : List ℕ) (presence : Presence) (most : ℕ) (tree : Tree) (text : List ℕ)
    → IsMet (record { within = path; path = reported; presence = presence; form = forms.Ident most }) tree
    → text_at path tree ≡ Some text → IsIdent most text
unfolding IsMet
ident_fact path reported presence most tree text h e = text_fact (forms.Ident most) (tree_at path tree) text (MayBeAbsent presence tree) h e

pub letters_fact : (path reported : List ℕ) (presence : Presence) (tree : Tree) (text : List ℕ)
    → IsMet (record { within = path; path = reported; presence = presence; form = forms.Letters }) tree
    → text_at path tree ≡ Some text → TextHasForm forms.Letters text
unfolding IsMet
letters_fact path reported presence tree text h e = text_fact forms.Letters (tree_at path tree) text (MayBeAbsent presence tree) h e

-- ---- the header

-- a header without ServiceID is of class Device, or a notification's
abbrev pub MayLack : Header → Type 0
MayLack header =
    (Some (class_name header.class) ≡ Some (codes "Device")) ⊎ (Some (kind_name header.kind) ≡ Some (codes "Notification"))

-- the text that isn't there
absent_found : (found : Option Tree) (P : Type 0) → MatchOption found P (λ value. MatchOption (string_of value) ⊥ (IsIdent 10))
    → option_and_then string_of found ≡ None → P
absent_found None P h e = h
absent_found (Some value) P h e =
    let Q : Option (List ℕ) → Type 0 = λ o. MatchOption o ⊥ (IsIdent 10) in absurd (subst Q e h)

absent_fact : (body : Tree) (header : Header) → HasHeader envelopes.Request body header → header.service ≡ None → MayLack header
unfolding IsMet
absent_fact body header h e =
    by (absent_found (tree_at (codes "MessageHeader.ServiceID") body) (MayBeAbsent ByHeader body) h.members.1.1.1.1.1.0 (h.values.service ∙ e))
  where
    by : MayBeAbsent ByHeader body → MayLack header
    by (inl d) = inl (sym h.values.class ∙ d)
    by (inr n) = inr (sym h.values.message_type ∙ n)

pub kind_fact : (path reported : List ℕ) (presence : Presence) (tree : Tree) (text : List ℕ)
    → IsMet (record { within = path; path = reported; presence = presence; form = forms.RequestKind }) tree
    → text_at path tree ≡ Some text → TextHasForm forms.RequestKind text
unfolding IsMet
kind_fact path reported presence tree text h e = text_fact forms.RequestKind (tree_at path tree) text (MayBeAbsent presence tree) h e

-- what the members of a readable header are
pub record HeaderFacts (header : Header) : Type 0 where
  pub category : TextHasForm forms.Letters header.category
  pub service : (text : List ℕ) → header.service ≡ Some text → IsIdent 10 text
  pub device : (text : List ℕ) → header.device ≡ Some text → IsIdent 10 text
  pub sale : IsIdent 40 header.sale
  pub poi : IsIdent 40 header.poi
  pub message_type : TextHasForm forms.RequestKind (kind_name header.kind)
  pub absent : header.service ≡ None → MayLack header

pub header_facts : (body : Tree) (header : Header) → HasHeader envelopes.Request body header → HeaderFacts header
header_facts body header h = record {
  category = letters_fact (codes "MessageHeader.MessageCategory") _ Required body header.category h.members.1.1.1.0 h.values.category;
  service = λ text e. ident_fact (codes "MessageHeader.ServiceID") _ ByHeader 10 body text h.members.1.1.1.1.1.0 (h.values.service ∙ e);
  device = λ text e. ident_fact (codes "MessageHeader.DeviceID") _ Optional 10 body text h.members.1.1.1.1.1.1.0 (h.values.device ∙ e);
  sale = ident_fact (codes "MessageHeader.SaleID") _ Required 40 body header.sale h.members.1.1.1.1.1.1.1.0 h.values.sale;
  poi = ident_fact (codes "MessageHeader.POIID") _ Required 40 body header.poi h.members.1.1.1.1.1.1.1.1.0 h.values.poi;
  message_type = kind_fact (codes "MessageHeader.MessageType") _ Required body (kind_name header.kind) h.members.1.1.1.1.0 h.values.message_type;
  absent = absent_fact body header h;
}

-- the members of a written header, by its parts
abbrev pub parted : ClassType → List ℕ → KindType → Option (List ℕ) → Option (List ℕ) → List ℕ → List ℕ → Header
parted class category message_type service device sale poi =
    record { class = class; category = category; kind = message_type; service = service; device = device; sale = sale; poi = poi }

header_parts : (class : ClassType) (category : List ℕ) (message_type : KindType) (service device : Option (List ℕ)) (sale poi : List ℕ) (request : SaleRequest)
    → HeaderHolds (body_object (parted class category message_type service device sale poi) request) (parted class category message_type service device sale poi)
unfolding tree_at
header_parts class category message_type None None sale poi request =
    record { class = refl; category = refl; message_type = refl; service = refl; device = refl; sale = refl; poi = refl }
header_parts class category message_type None (Some d) sale poi request =
    record { class = refl; category = refl; message_type = refl; service = refl; device = refl; sale = refl; poi = refl }
header_parts class category message_type (Some s) None sale poi request =
    record { class = refl; category = refl; message_type = refl; service = refl; device = refl; sale = refl; poi = refl }
header_parts class category message_type (Some s) (Some d) sale poi request =
    record { class = refl; category = refl; message_type = refl; service = refl; device = refl; sale = refl; poi = refl }

-- the written header has the values again
pub header_holds_again : (header : Header) (request : SaleRequest) → HeaderHolds (body_object header request) header
header_holds_again header request =
    header_parts header.class header.category header.kind header.service header.device header.sale header.poi request

version_again : TextHasForm forms.Version (codes "3.0")
version_again = (codes "0", refl)

met_parts : (class : ClassType) (category : List ℕ) (message_type : KindType) (service device : Option (List ℕ)) (sale poi : List ℕ) (request : SaleRequest)
    → HeaderFacts (parted class category message_type service device sale poi)
    → AreMet (header_rows envelopes.Request) (body_object (parted class category message_type service device sale poi) request)
unfolding tree_at IsMet
met_parts class category message_type None None sale poi request f =
    (refl, (version_again, ((class, refl), (f.category, (f.message_type, (f.absent refl, (tt, (f.sale, (f.poi, tt)))))))))
met_parts class category message_type None (Some d) sale poi request f =
    (refl, (version_again, ((class, refl), (f.category, (f.message_type, (f.absent refl, (f.device d refl, (f.sale, (f.poi, tt)))))))))
met_parts class category message_type (Some s) None sale poi request f =
    (refl, (version_again, ((class, refl), (f.category, (f.message_type, (f.service s refl, (tt, (f.sale, (f.poi, tt)))))))))
met_parts class category message_type (Some s) (Some d) sale poi request f =
    (refl, (version_again, ((class, refl), (f.category, (f.message_type, (f.service s refl, (f.device d refl, (f.sale, (f.poi, tt)))))))))

pub header_again : (header : Header) (request : SaleRequest) → HeaderFacts header → HasHeader envelopes.Request (body_object header request) header
header_again header request f = record {
  members = met_parts header.class header.category header.kind header.service header.device header.sale header.poi request f;
  values = header_holds_again header request;
}
