-- A message of a played terminal, as it is taken: its dialogue goes on, or all that the terminal has sent was handled.
use Rattle.std.proofs.Common.{◌≡◌, ◌≢◌, ◌∙◌, ℕ, Bool, true, false, eqb, List, [], ◌∷◌, ◌++◌, inl, inr, refl, sym, ap, subst, arith}
use Rattle.std.specs.Prelude.{◌⊎◌, pos, if◌then◌else◌, Option, Some, option_map, Result, Ok}
use Rattle.std.proofs.lemmas.Bool.{eqb-true}
use Rattle.std.proofs.lemmas.Bool.Decides.{nat_tests}
use Rattle.zvt_apdu.specs.Grammar.{ApduValue}
use Rattle.zvt_apdu.specs.DecodeStream.{decode_apdus}
use Rattle.zvt_msg.specs.declared.command.Command.{Command}
use Rattle.zvt_msg.specs.declared.command.Command.TheVariants as commands
use Rattle.zvt_msg.specs.declared.fault.PtFault.{PtFault}
use Rattle.zvt_msg.specs.Message.{MessageValue}
use Rattle.zvt_msg.specs.MessageDecode.{decode_pt_message}
use Rattle.zvt_talk.specs.Came.{Message, StopWished, is_taken, messages}
use Rattle.zvt_talk.specs.declared.dialogue_kind.DialogueKind.{DialogueKind}
use Rattle.zvt_talk.specs.declared.dialogue_kind.DialogueKind.TheVariants.{EndOfDay as EndOfDayDialogue, Display as DisplayDialogue}
use Rattle.zvt_talk.specs.Talk.{TalkFacts, meaning, talk_after}
use Rattle.zvt_talk.specs.TalkSteps.{next_talk, talk_after_stop_wished}
use Rattle.pt_core.specs.Ends.{IsTrueEnd}
use Rattle.pt_core.specs.Exchange.{heard_on_link}
use Rattle.pt_core.specs.History.{Setting, book_of, reaction_after}
use Rattle.pt_core.specs.Table.{entries_of}
use Rattle.gw_owes.specs.declared.terminal.Service.TheVariants.{Transaction, EndOfDay, Display}
use Rattle.gw_owes.specs.declared.terminal.Standing.{Standing}
use Rattle.gw_owes.specs.declared.terminal.Standing.TheVariants.{Unlinked, Registering, Enquiring, Ready, Serving, Aside}
use Rattle.gw_owes.specs.declared.terminal.Terminal.{Terminal}
use Rattle.gw_owes.specs.Handling.{meaning_at, meaning_for, taken_as, taking}
use Rattle.gw_owes.specs.Items.{RoundItem, Handle}
use Rattle.gw_books.specs.Past.{SentCommand}
use Rattle.gw_played.specs.Played.{PlacedExchange, exchanges_in}
use Rattle.gw_played.proofs.Playing.{AreMessages, IsLeft, IsPeerIn, IsQuiet, IsTalking, IsTransacting, IsServing, PeerLaws, pending}
use Rattle.gw_played.proofs.PeerTalkLemmas.{GoesOn, IsAsked, MayEnd, Spoken, StaysOpen, EndsHere, messages-wished, spoken}

-- ---- numbers

pub own-number : (n : ℕ) → eqb n n ≡ true
own-number n = grind (arith, nat_tests)

pub other-number : (n other : ℕ) → other ≢ n → eqb n other ≡ false
other-number n other apart = by-test (eqb n other) refl
  where
    by-test : (b : Bool) → eqb n other ≡ b → b ≡ false
    by-test true is = absurd (apart (sym (eqb-true n other is)))
    by-test false is = refl

pub no-true : {A : Type 0} → true ≡ false → A
no-true e = absurd cc

-- ---- what is pending

pub own-pending : (number : ℕ) (apdu : ApduValue) (rest : List RoundItem) → pending number (Handle number apdu ∷ rest) ≡ apdu ∷ pending number rest
own-pending number apdu rest = ap (λ (b : Bool). if b then apdu ∷ pending number rest else pending number rest) (own-number number)

pub other-pending : (number other : ℕ) (apdu : ApduValue) (rest : List RoundItem) → other ≢ number → pending other (Handle number apdu ∷ rest) ≡ pending other rest
other-pending number other apdu rest apart = ap (λ (b : Bool). if b then apdu ∷ pending other rest else pending other rest) (other-number number other apart)

-- ---- other items with the same of a terminal pending

module _ (setting : Setting) (placed : List PlacedExchange) (number : ℕ) (items others : List RoundItem) (same : pending number items ≡ pending number others) where
  left-stays : (left : List MessageValue) → IsLeft setting placed number items left → IsLeft setting placed number others left
  left-stays left it = record {
    unheard = it.unheard;
    stream = it.stream;
    are = subst (λ (l : List ApduValue). AreMessages (l ++ (decode_apdus ((decode_apdus (heard_on_link (exchanges_in placed))).rest ++ it.unheard)).apdus) left) same it.are;
  }

  quiet-stays : IsQuiet setting placed number items → IsQuiet setting placed number others
  quiet-stays it = record { none_left = left-stays [] it.none_left; uncut = it.uncut; waits = it.waits }

  abbrev talking-stays : (talk : Option TalkFacts) (command : Command) → IsTalking setting placed number items talk command → IsTalking setting placed number others talk command
  talking-stays talk command it = record {
    apdu = it.apdu;
    before = it.before;
    spells = it.spells;
    book_is = it.book_is;
    dialogue = it.dialogue;
    begins = it.begins;
    came = it.came;
    talk_is = it.talk_is;
    goes_on = it.goes_on;
    left = it.left;
    is_left = left-stays it.left it.is_left;
    whole = it.whole;
    uncut = it.uncut;
    waits = it.waits;
  }

  serving-stays : (talk : Option TalkFacts) (dialogue_kind : DialogueKind) → IsServing setting placed number items talk dialogue_kind → IsServing setting placed number others talk dialogue_kind
  serving-stays talk dialogue_kind it = record { command = it.command; kind_is = it.kind_is; talking = talking-stays talk it.command it.talking }

  pub peer-stays : (poi : List ℕ) (sent : List SentCommand) (talk : Option TalkFacts) (standing : Standing) → IsPeerIn setting poi placed number items sent talk standing → IsPeerIn setting poi placed number others sent talk standing
  peer-stays poi sent talk (Unlinked due) it = tt
  peer-stays poi sent talk Registering (password, config, currency, it) = (password, config, currency, talking-stays talk (commands.Register password config currency) it)
  peer-stays poi sent talk Enquiring (password, it) = (password, talking-stays talk (commands.Enquire password) it)
  peer-stays poi sent talk (Ready last) it = quiet-stays it
  peer-stays poi sent talk (Serving (Transaction slot) last) it =
      record { command = it.command; charging = it.charging; talking = talking-stays talk it.command it.talking; last = it.last }
  peer-stays poi sent talk (Serving (EndOfDay header period) last) it = serving-stays talk EndOfDayDialogue it
  peer-stays poi sent talk (Serving (Display header results) last) it = serving-stays talk DisplayDialogue it
  peer-stays poi sent talk (Aside before reported) it = quiet-stays it

-- ---- a stop that is wished

-- the dialogue is as far as it was once a stop is wished in it
module _ (laws : PeerLaws) (setting : Setting) (placed : List PlacedExchange) (number : ℕ) (items : List RoundItem) (talk : TalkFacts) where
  abbrev wished-talking : (command : Command) → IsTalking setting placed number items (Some talk) command → IsTalking setting placed number items (Some (talk_after_stop_wished talk)) command
  wished-talking command it = record {
    apdu = it.apdu;
    before = it.before;
    spells = it.spells;
    book_is = it.book_is;
    dialogue = it.dialogue;
    begins = it.begins;
    came = it.came ++ StopWished ∷ [];
    talk_is = ap (option_map talk_after_stop_wished) it.talk_is ∙ ap (λ (one : TalkFacts). Some one) (laws.stop_wished it.dialogue it.came);
    goes_on = laws.ends_nothing it.dialogue it.came ∙ it.goes_on;
    left = it.left;
    is_left = it.is_left;
    whole = ap (λ (l : List MessageValue). l ++ it.left) (messages-wished it.came) ∙ it.whole;
    uncut = it.uncut;
    waits = it.waits;
  }

  -- so is that of the payment or the reversal that is served
  pub wished-transacting : (poi : List ℕ) (sent : List SentCommand) → IsTransacting setting poi placed number items sent (Some talk) → IsTransacting setting poi placed number items sent (Some (talk_after_stop_wished talk))
  wished-transacting poi sent it = record { command = it.command; charging = it.charging; talking = wished-talking it.command it.talking; last = it.last }

  -- and that of the end of day
  pub wished-serving : (dialogue_kind : DialogueKind) → IsServing setting placed number items (Some talk) dialogue_kind → IsServing setting placed number items (Some (talk_after_stop_wished talk)) dialogue_kind
  wished-serving dialogue_kind it = record { command = it.command; kind_is = it.kind_is; talking = wished-talking it.command it.talking }

-- ---- the first message that is left

-- the item's APDU is the first message of these
pub record IsFirst (setting : Setting) (placed : List PlacedExchange) (number : ℕ) (apdu : ApduValue) (rest : List RoundItem) (left : List MessageValue) : Type 0 where
  pub message : MessageValue
  pub later : List MessageValue
  pub left_is : left ≡ message ∷ later
  pub decodes : decode_pt_message apdu ≡ Ok message
  pub is_left : IsLeft setting placed number rest later

pub first-left : (setting : Setting) (placed : List PlacedExchange) (number : ℕ) (apdu : ApduValue) (rest : List RoundItem) (left : List MessageValue) → IsLeft setting placed number (Handle number apdu ∷ rest) left
    → IsFirst setting placed number apdu rest left
first-left setting placed number apdu rest left it = by-left left (subst (λ (l : List ApduValue). AreMessages (l ++ more) left) (own-pending number apdu rest) it.are)
  where
    more : List ApduValue
    more = (decode_apdus ((decode_apdus (heard_on_link (exchanges_in placed))).rest ++ it.unheard)).apdus

    by-left : (messages : List MessageValue) → AreMessages (apdu ∷ (pending number rest ++ (decode_apdus ((decode_apdus (heard_on_link (exchanges_in placed))).rest ++ it.unheard)).apdus)) messages
        → IsFirst setting placed number apdu rest messages
    by-left [] are = absurd are
    by-left (message ∷ later) are = record { message = message; later = later; left_is = refl; decodes = are.0; is_left = record { unheard = it.unheard; stream = it.stream; are = are.1 } }

-- ---- a message in a dialogue

same-message : (apdu : ApduValue) (one other : MessageValue) → decode_pt_message apdu ≡ Ok one → decode_pt_message apdu ≡ Ok other → one ≡ other
same-message apdu one other here there = let e : (let r : Result MessageValue PtFault = Ok one in r) ≡ Ok other = sym here ∙ there in cc

module _ (laws : PeerLaws) (setting : Setting) (placed : List PlacedExchange) (number : ℕ) (apdu : ApduValue) (rest : List RoundItem) (message : MessageValue) (decodes : decode_pt_message apdu ≡ Ok message) (old : Terminal) (moment : ℕ) where
  -- the terminal has handled the command so far
  abbrev pub TalksOf : Command → Type 0
  TalksOf command = IsTalking setting placed number (Handle number apdu ∷ rest) old.talk command

  -- the dialogue goes on
  pub record Goes (command : Command) (t : TalksOf command) : Type 0 where
    pub on : GoesOn (meaning_at old message)
    pub talking : IsTalking setting placed number rest (taking old message moment).talk command
    pub before_is : t.before ≡ talking.before
    pub apdu_is : t.apdu ≡ talking.apdu

  -- the message ends it
  pub record Stops (command : Command) (t : TalksOf command) : Type 0 where
    pub ends : MayEnd t.dialogue.dialogue_kind (meaning_at old message)
    pub quiet : IsQuiet setting placed number rest
    pub true_of : IsTrueEnd (book_of setting t.before) (entries_of (reaction_after setting t.before t.apdu)) (meaning_at old message)

  -- the message is taken, and the dialogue goes on or ends
  pub record Talks (command : Command) (t : TalksOf command) : Type 0 where
    pub taken : is_taken message ≡ true
    pub follows : Goes command t ⊎ Stops command t

  pub talks : (command : Command) (t : TalksOf command) → IsAsked command → Talks command t
  talks command t asked = record { taken = said.taken_is; follows = by-then said.then }
    where
      first : IsFirst setting placed number apdu rest t.left
      first = first-left setting placed number apdu rest t.left t.is_left

      left-is : t.left ≡ message ∷ first.later
      left-is = first.left_is ∙ ap (λ (m : MessageValue). m ∷ first.later) (same-message apdu first.message message first.decodes decodes)

      said : Spoken setting t.before t.apdu t.dialogue t.came message first.later
      said = spoken laws setting t.before t.apdu command t.dialogue t.came message first.later asked t.spells t.begins t.goes_on (ap (λ (l : List MessageValue). messages t.came ++ l) (sym left-is) ∙ t.whole)

      means : meaning_at old message ≡ meaning t.dialogue t.came message
      means = ap (λ (talk : Option TalkFacts). meaning_for talk (taken_as old.awaited message)) t.talk_is ∙ ap (meaning_for (Some (talk_after t.dialogue t.came))) (said.same old.awaited) ∙ said.means

      next : (taking old message moment).talk ≡ Some (talk_after t.dialogue (t.came ++ Message message (pos moment) ∷ []))
      next =
          ap (λ (talk : Option TalkFacts). option_map (λ (one : TalkFacts). next_talk one (taken_as old.awaited message) (pos moment)) talk) t.talk_is
          ∙ ap (λ (m : MessageValue). Some (next_talk (talk_after t.dialogue t.came) m (pos moment))) (said.same old.awaited)
          ∙ ap (λ (one : TalkFacts). Some one) (said.next (pos moment))

      by-then : StaysOpen t.dialogue t.came message ⊎ EndsHere setting t.before t.apdu t.dialogue t.came message first.later → Goes command t ⊎ Stops command t
      by-then (inl stays) = inl (record {
        on = subst GoesOn (sym means) stays.on;
        talking = record {
          apdu = t.apdu;
          before = t.before;
          spells = t.spells;
          book_is = t.book_is;
          dialogue = t.dialogue;
          begins = t.begins;
          came = t.came ++ Message message (pos moment) ∷ [];
          talk_is = next;
          goes_on = stays.goes_on (pos moment);
          left = first.later;
          is_left = first.is_left;
          whole = said.whole (pos moment);
          uncut = t.uncut;
          waits = t.waits;
        };
        before_is = refl;
        apdu_is = refl;
      })
      by-then (inr ends) = inr (record {
        ends = subst (MayEnd t.dialogue.dialogue_kind) (sym means) ends.ends;
        quiet = record { none_left = subst (IsLeft setting placed number rest) ends.none_left first.is_left; uncut = t.uncut ends.uncut; waits = t.waits };
        true_of = subst (IsTrueEnd (book_of setting t.before) (entries_of (reaction_after setting t.before t.apdu))) (sym means) ends.true_of;
      })
