-- Each list of bytes has messages.
use Rattle.std.proofs.Common.{◌≡◌, ◌≢◌, refl, sym, ap, subst, ℕ, List, [], ◌∷◌, ◌++◌, Bool, true, false, All}
use Rattle.std.proofs.Math.Logic.{dite}
use Rattle.std.proofs.Math.Decide.{ℕ_discrete}
use Rattle.std.proofs.lemmas.List.Elements.{All-nil, All-cons, All-head, All-tail}
use Rattle.log_messages.specs.Messages.{IsLine, joined, Messages}
use Rattle.log_messages.proofs.StepLemmas.{Messages-after}

-- some messages fit the bytes
pub record HasMessages (bytes : List ℕ) : Type 0 where
  pub messages : List (List ℕ)
  pub ended : Bool
  pub are : Messages bytes messages ended

-- a newline in front is one more empty message
newline : (bytes : List ℕ) → HasMessages bytes → HasMessages (10 ∷ bytes)
newline bytes h = record {
  messages = [] ∷ h.messages;
  ended = h.ended;
  are = Messages-after (10 ∷ bytes) ([] ∷ []) bytes h.messages h.ended (record { lines_are = All-cons IsLine [] [] (All-nil (λ b. b ≢ 10)) (All-nil IsLine); splits = refl }) h.are;
}

-- the first message with one more byte in front
longer : (b : ℕ) (m : List ℕ) (ms : List (List ℕ)) → b ≢ 10 → All IsLine (m ∷ ms) → All IsLine ((b ∷ m) ∷ ms)
longer b m ms other all = All-cons IsLine (b ∷ m) ms (All-cons (λ c. c ≢ 10) b m other (All-head IsLine m ms all)) (All-tail IsLine m ms all)

-- another byte in front of messages that are ended
ended : (b : ℕ) (bytes : List ℕ) (ms : List (List ℕ)) → b ≢ 10 → Messages bytes ms true → HasMessages (b ∷ bytes)
ended b bytes [] other h = record {
  messages = (b ∷ []) ∷ [];
  ended = false;
  are = (longer b [] [] other (All-cons IsLine [] [] (All-nil (λ b. b ≢ 10)) (All-nil IsLine)), record { front = []; last = b ∷ []; splits = refl; some = λ e. cc; is = ap (λ r. b ∷ r) h.1 });
}
ended b bytes (m ∷ ms) other h = record { messages = (b ∷ m) ∷ ms; ended = true; are = (longer b m ms other h.0, ap (λ r. b ∷ r) h.1) }

-- and in front of messages whose last stands open
open_end : (b : ℕ) (bytes : List ℕ) (front : List (List ℕ)) (last : List ℕ) → b ≢ 10 → All IsLine (front ++ last ∷ []) → last ≢ [] → bytes ≡ joined front ++ last → HasMessages (b ∷ bytes)
open_end b bytes [] last other all some e = record {
  messages = (b ∷ last) ∷ [];
  ended = false;
  are = (longer b last [] other all, record { front = []; last = b ∷ last; splits = refl; some = λ e. cc; is = ap (λ r. b ∷ r) e });
}
open_end b bytes (f ∷ fs) last other all some e = record {
  messages = (b ∷ f) ∷ (fs ++ last ∷ []);
  ended = false;
  are = (longer b f (fs ++ last ∷ []) other all, record { front = (b ∷ f) ∷ fs; last = last; splits = refl; some = some; is = ap (λ r. b ∷ r) e });
}

byte : (b : ℕ) (bytes : List ℕ) (ms : List (List ℕ)) (end : Bool) → b ≢ 10 → Messages bytes ms end → HasMessages (b ∷ bytes)
byte b bytes ms true other h = ended b bytes ms other h
byte b bytes ms false other h = open_end b bytes h.1.front h.1.last other (subst (All IsLine) h.1.splits h.0) h.1.some h.1.is

pub messages_exist : (bytes : List ℕ) → HasMessages bytes
messages_exist [] = record { messages = []; ended = true; are = (All-nil IsLine, refl) }
messages_exist (b ∷ bytes) = let rest = messages_exist bytes in dite (ℕ_discrete b 10) (λ (e : b ≡ 10). subst (λ (x : ℕ). HasMessages (x ∷ bytes)) (sym e) (newline bytes rest)) (λ other. byte b bytes rest.messages rest.ended other rest.are)
