-- The terminal after bytes on the connection.
use Rattle.std.proofs.Common.{◌≡◌, ℕ, Bool, true, false, cond, List, ◌++◌, Option, None, Some, refl, ap, ◌∙◌}
use Rattle.std.specs.Bool.{OnFalse}
use Rattle.zvt_apdu.specs.DecodeStream.{decode_apdus}
use Rattle.pt_core.specs.declared.book.BookEntry.{BookEntry}
use Rattle.pt_core.specs.declared.play.Play.{Play}
use Rattle.pt_core.specs.Serving.{AccountValue, TerminalValue, heard, next_terminal}

-- accounts of the same parts
pub same_account : {n m : ℕ} → {p q : List Play} → {b d : List BookEntry} → n ≡ m → p ≡ q → b ≡ d
    → (let a : AccountValue = record { none = n; plays = p; book = b } in a) ≡ record { none = m; plays = q; book = d }
same_account {n} {m} {p} {q} {b} {d} none plays book =
    ap (λ (k : ℕ). let a : AccountValue = record { none = k; plays = p; book = b } in a) none
    ∙ ap (λ (k : List Play). let a : AccountValue = record { none = m; plays = k; book = b } in a) plays
    ∙ ap (λ (k : List BookEntry). let a : AccountValue = record { none = m; plays = q; book = k } in a) book

connection_is : (cut : Bool) (left rest : List ℕ) → OnFalse cut (left ≡ rest) → cond cut None (Some left) ≡ cond cut None (Some rest)
connection_is true left rest same = refl
connection_is false left rest same = ap (λ (r : List ℕ). Some r) same

-- the terminal by what was heard
pub next_is : (account later : AccountValue) (waiting bytes left : List ℕ) (cut : Bool)
    → later ≡ (heard account (waiting ++ bytes)).account → cut ≡ (heard account (waiting ++ bytes)).cut
    → OnFalse cut (left ≡ (decode_apdus (waiting ++ bytes)).rest)
    → (let t : TerminalValue = record { account = later; connection = cond cut None (Some left) } in t)
    ≡ next_terminal (record { account = account; connection = Some waiting }) bytes
next_is account later waiting bytes left cut same is rest =
    let all = waiting ++ bytes in
    ap (λ (a : AccountValue). let t : TerminalValue = record { account = a; connection = cond cut None (Some left) } in t) same
    ∙ ap (λ (l : Option (List ℕ)). let t : TerminalValue = record { account = (heard account all).account; connection = l } in t) (connection_is cut left (decode_apdus all).rest rest ∙ ap (λ (c : Bool). cond c None (Some (decode_apdus all).rest)) is)
