-- Messages taken from the front of the bytes, one after the other.
use Rattle.std.proofs.Common.{◌≡◌, ◌≢◌, refl, sym, ◌∙◌, ap, ℕ, List, [], ◌∷◌, ◌++◌, Bool, true, false, All}
use Rattle.std.proofs.lemmas.List.{append-nil, append_assoc}
use Rattle.std.proofs.lemmas.List.Elements.{All-nil, All-append, All-push}
use Rattle.log_messages.specs.Messages.{IsLine, joined, Messages}

pub joined-append : (a b : List (List ℕ)) → joined (a ++ b) ≡ joined a ++ joined b
joined-append [] b = refl
joined-append (m ∷ a) b = ap (λ r. m ++ (10 ∷ r)) (joined-append a b) ∙ sym (append_assoc m (10 ∷ joined a) (joined b))

-- bytes that begin with whole lines
pub record Begins (bytes : List ℕ) (lines : List (List ℕ)) (left : List ℕ) : Type 0 where
  pub lines_are : All IsLine lines
  pub splits : bytes ≡ joined lines ++ left

pub begins : (bytes : List ℕ) → Begins bytes [] bytes
begins bytes = record { lines_are = All-nil IsLine; splits = refl }

-- one more whole line
pub Begins-line : (bytes : List ℕ) (lines : List (List ℕ)) (left line rest : List ℕ) → Begins bytes lines left → IsLine line → left ≡ line ++ (10 ∷ rest) → Begins bytes (lines ++ line ∷ []) rest
Begins-line bytes lines left line rest b is e = record {
  lines_are = All-push IsLine lines line b.lines_are is;
  splits = b.splits ∙ (ap (λ r. joined lines ++ r) (e ∙ sym (append_assoc line (10 ∷ []) rest)) ∙ (sym (append_assoc (joined lines) (line ++ 10 ∷ []) rest) ∙ ap (λ r. r ++ rest) (sym (joined-append lines (line ∷ [])))));
}

-- nothing left: these are all the messages
pub Messages-ended : (bytes : List ℕ) (lines : List (List ℕ)) → Begins bytes lines [] → Messages bytes lines true
Messages-ended bytes lines b = (b.lines_are, b.splits ∙ append-nil (joined lines))

-- a last line without its newline
pub Messages-open : (bytes : List ℕ) (lines : List (List ℕ)) (last : List ℕ) → Begins bytes lines last → IsLine last → last ≢ [] → Messages bytes (lines ++ last ∷ []) false
Messages-open bytes lines last b is some = (All-push IsLine lines last b.lines_are is, record { front = lines; last = last; splits = refl; some = some; is = b.splits })

-- the messages of what is left after whole lines come after these
pub Messages-after : (bytes : List ℕ) (lines : List (List ℕ)) (left : List ℕ) (messages : List (List ℕ)) (ended : Bool) → Begins bytes lines left → Messages left messages ended → Messages bytes (lines ++ messages) ended
Messages-after bytes lines left messages true b m = (All-append IsLine lines messages b.lines_are m.0, b.splits ∙ (ap (λ r. joined lines ++ r) m.1 ∙ sym (joined-append lines messages)))
Messages-after bytes lines left messages false b m = (
  All-append IsLine lines messages b.lines_are m.0,
  record {
    front = lines ++ m.1.front;
    last = m.1.last;
    splits = ap (λ r. lines ++ r) m.1.splits ∙ sym (append_assoc lines m.1.front (m.1.last ∷ []));
    some = m.1.some;
    is = b.splits ∙ (ap (λ r. joined lines ++ r) m.1.is ∙ (sym (append_assoc (joined lines) (joined m.1.front) m.1.last) ∙ ap (λ r. r ++ m.1.last) (sym (joined-append lines m.1.front))));
  },
)
