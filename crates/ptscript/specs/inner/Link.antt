-- Inner: what is heard and sent on one link of the played terminal.
use Rattle.std.specs.Prelude.{◌≡◌, ℕ, List, ◌∷◌, ◌++◌, Option, Some, Result, Ok, Err, true}
use Rattle.gw_bytes.specs.Bytes.{IsPrefix}
use Rattle.pt_core.specs.Serving.{TerminalValue}
use Rattle.pt_core.specs.History.{Setting, Met, NewLink, Chunk, has_cut, sent_on_link, terminal_after}
use Rattle.ptscript.specs.declared.played.LinkState.{LinkState}
use Rattle.ptscript.specs.declared.played.LinkState.TheVariants as link

-- these bytes were written after those before
abbrev pub IsWritten : Option (List ℕ) → Option (List ℕ) → List ℕ → Type 0
IsWritten old new bytes = (before : List ℕ) → old ≡ Some before → new ≡ Some (before ++ bytes)

-- a part of them was
abbrev pub IsPartWritten : Option (List ℕ) → Option (List ℕ) → List ℕ → Type 0
IsPartWritten old new bytes = (before : List ℕ) → old ≡ Some before → (part : List ℕ) × IsPrefix part bytes × (new ≡ Some (before ++ part))

-- what was sent: all of them, or a part where a write failed or the program ends
abbrev pub AreSent : {E : Type 0} → Result LinkState E → Option (List ℕ) → Option (List ℕ) → List ℕ → Type 0
AreSent (Ok link.Open) old new bytes = IsWritten old new bytes
AreSent (Ok link.ClosedByGateway) old new bytes = IsWritten old new bytes
AreSent (Ok link.CutByTerminal) old new bytes = IsWritten old new bytes
AreSent (Ok link.Failed) old new bytes = IsPartWritten old new bytes
AreSent (Err fault) old new bytes = IsPartWritten old new bytes

-- the terminal cuts the link only where that is what it does
abbrev pub IsCutByTerminal : {E : Type 0} → Result LinkState E → Setting → List Met → Type 0
IsCutByTerminal (Ok link.Open) setting met = Unit {0}
IsCutByTerminal (Ok link.ClosedByGateway) setting met = Unit {0}
IsCutByTerminal (Ok link.CutByTerminal) setting met = has_cut setting met ≡ true
IsCutByTerminal (Ok link.Failed) setting met = Unit {0}
IsCutByTerminal (Err fault) setting met = Unit {0}

-- these bytes are the first of those that the gateway sends; where it closes the connection they are all of them
abbrev pub IsHeard : {E : Type 0} → Result LinkState E → Option (List ℕ) → Option (List ℕ) → List ℕ → Type 0
IsHeard (Ok link.Open) left rest heard = (all : List ℕ) → left ≡ Some all → (after : List ℕ) × (all ≡ heard ++ after) × (rest ≡ Some after)
IsHeard (Ok link.ClosedByGateway) left rest heard = (all : List ℕ) → left ≡ Some all → all ≡ heard
IsHeard (Ok link.CutByTerminal) left rest heard = (all : List ℕ) → left ≡ Some all → IsPrefix heard all
IsHeard (Ok link.Failed) left rest heard = (all : List ℕ) → left ≡ Some all → IsPrefix heard all
IsHeard (Err fault) left rest heard = (all : List ℕ) → left ≡ Some all → IsPrefix heard all

-- the terminal heard these bytes after all that it met, and what was written is what it sends for them, and nothing else
pub record Reacts {E : Type 0} (before after : Option (List ℕ)) (old new : TerminalValue) (result : Result LinkState E) (heard : List ℕ) : Type 0 where
  pub met : (setting : Setting) (met : List Met) → old ≡ terminal_after setting met → new ≡ terminal_after setting (Chunk heard ∷ met)
  pub sent : (setting : Setting) (met : List Met) → old ≡ terminal_after setting met
      → (bytes : List ℕ) × (sent_on_link setting (Chunk heard ∷ met) ≡ sent_on_link setting met ++ bytes) × AreSent result before after bytes
  pub cut : (setting : Setting) (met : List Met) → old ≡ terminal_after setting met → IsCutByTerminal result setting (Chunk heard ∷ met)

-- One link, from the bytes that the gateway sends on it and those that were written before. The terminal goes on from all that it met: it keeps its book, and
-- reacts to nothing of an earlier link. In whatever chunks the bytes come, what is written is what the terminal sends for them, and nothing else.
pub record ServesLink {E : Type 0} (left rest before after : Option (List ℕ)) (old new : TerminalValue) (result : Result LinkState E) : Type 0 where
  pub heard : List ℕ
  pub first : IsHeard result left rest heard
  pub met : (setting : Setting) (met : List Met) → old ≡ terminal_after setting met → new ≡ terminal_after setting (Chunk heard ∷ NewLink ∷ met)
  pub sent : (setting : Setting) (met : List Met) → old ≡ terminal_after setting met → AreSent result before after (sent_on_link setting (Chunk heard ∷ NewLink ∷ met))
  pub cut : (setting : Setting) (met : List Met) → old ≡ terminal_after setting met → IsCutByTerminal result setting (Chunk heard ∷ NewLink ∷ met)
