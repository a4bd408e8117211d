-- Exactly one answer of messages fits the bytes, and joining it back gives them.
use Rattle.std.proofs.Common.{◌≡◌, ◌≢◌, ◌-◌, refl, sym, ◌∙◌, ap, arith, ℕ, List, [], ◌∷◌, ◌++◌, length, take, Bool, true, false, All, length-append}
use Rattle.std.proofs.Math.Seq.{take-append_seam}
use Rattle.std.proofs.lemmas.List.{append_assoc}
use Rattle.std.proofs.lemmas.List.Elements.{All-nil, All-head, All-tail, All-push}
use Rattle.log_messages.specs.Messages.{IsLine, joined, EndsOpen, Messages}
use Rattle.log_messages.specs.Laws.{file_text}
use Rattle.log_messages.proofs.StepLemmas.{joined-append, begins, Begins-line, Messages-ended, Messages-open, Messages-after}

-- no bytes have no messages, and these are ended
pub messages_empty : Messages [] [] true
messages_empty = Messages-ended [] [] (begins [])

-- a line and its newline before other bytes is one more message before theirs
pub messages_line : (line rest : List ℕ) (messages : List (List ℕ)) (ended : Bool) → IsLine line → Messages rest messages ended → Messages (line ++ 10 ∷ rest) (line ∷ messages) ended
messages_line line rest messages ended is m =
    Messages-after (line ++ 10 ∷ rest) (line ∷ []) rest messages ended (Begins-line (line ++ 10 ∷ rest) [] (line ++ 10 ∷ rest) line rest (begins (line ++ 10 ∷ rest)) is refl) m

-- bytes without a newline are one message, which is not ended
pub messages_open : (line : List ℕ) → IsLine line → line ≢ [] → Messages line (line ∷ []) false
messages_open line is some = Messages-open line [] line (begins line) is some

-- Two texts that go on with a newline after a line have the same line and the same rest.
record SameLine (a b x y : List ℕ) : Type 0 where
  line : a ≡ b
  rest : x ≡ y

same_line : (a b x y : List ℕ) → IsLine a → IsLine b → a ++ 10 ∷ x ≡ b ++ 10 ∷ y → SameLine a b x y
same_line [] [] x y p q e = record { line = refl; rest = cc }
same_line [] (c ∷ b) x y p q e = let is : c ≡ 10 = cc in absurd (All-head (λ b. b ≢ 10) c b q is)
same_line (c ∷ a) [] x y p q e = let is : c ≡ 10 = cc in absurd (All-head (λ b. b ≢ 10) c a p is)
same_line (c ∷ a) (d ∷ b) x y p q e =
    let h : c ≡ d = cc in let t : a ++ 10 ∷ x ≡ b ++ 10 ∷ y = cc in
    let s = same_line a b x y (All-tail (λ b. b ≢ 10) c a p) (All-tail (λ b. b ≢ 10) d b q) t in
    record { line = cc (h, s.line); rest = s.rest }

-- lines are told apart by their text
joined_inj : (ls ms : List (List ℕ)) → All IsLine ls → All IsLine ms → joined ls ≡ joined ms → ls ≡ ms
joined_inj [] [] p q e = refl
joined_inj [] (m ∷ ms) p q e = absurd (omega (arith, ap length e, length-append m (10 ∷ joined ms)))
joined_inj (l ∷ ls) [] p q e = absurd (omega (arith, ap length e, length-append l (10 ∷ joined ls)))
joined_inj (l ∷ ls) (m ∷ ms) p q e =
    let s = same_line l m (joined ls) (joined ms) (All-head IsLine l ls p) (All-head IsLine m ms q) e in
    let t = joined_inj ls ms (All-tail IsLine l ls p) (All-tail IsLine m ms q) s.rest in
    cc (s.line, t)

-- the last of two equal lists
last_inj : (xs ys : List (List ℕ)) (a b : List ℕ) → xs ++ a ∷ [] ≡ ys ++ b ∷ [] → a ≡ b
last_inj [] [] a b e = cc
last_inj [] (y ∷ ys) a b e = absurd (omega (arith, ap length e, length-append ys (b ∷ [])))
last_inj (x ∷ xs) [] a b e = absurd (omega (arith, ap length e, length-append xs (a ∷ [])))
last_inj (x ∷ xs) (y ∷ ys) a b e = let t : xs ++ a ∷ [] ≡ ys ++ b ∷ [] = cc in last_inj xs ys a b t

-- lines with an open last one, and a newline behind them, are the lines joined
joined-open : (front : List (List ℕ)) (last : List ℕ) → joined (front ++ last ∷ []) ≡ (joined front ++ last) ++ 10 ∷ []
joined-open front last = joined-append front (last ∷ []) ∙ sym (append_assoc (joined front) last (10 ∷ []))

-- the same for a list that is known to end so
open_joined : (bytes : List ℕ) (messages : List (List ℕ)) → EndsOpen bytes messages → joined messages ≡ bytes ++ 10 ∷ []
open_joined bytes messages o = ap joined o.splits ∙ (joined-open o.front o.last ∙ ap (λ b. b ++ 10 ∷ []) (sym o.is))

-- bytes that end with a whole line have no other answer in which the last line is open
not_both : (bytes : List ℕ) (ls ms : List (List ℕ)) → All IsLine ls → bytes ≡ joined ls → All IsLine ms → EndsOpen bytes ms → ⊥
not_both bytes ls ms p e q o =
    let same : joined (ls ++ [] ∷ []) ≡ joined ms = joined-append ls ([] ∷ []) ∙ (ap (λ b. b ++ 10 ∷ []) (sym e) ∙ sym (open_joined bytes ms o)) in
    let lists : ls ++ [] ∷ [] ≡ o.front ++ o.last ∷ [] = joined_inj (ls ++ [] ∷ []) ms (All-push IsLine ls [] p (All-nil (λ b. b ≢ 10))) q same ∙ o.splits in
    o.some (sym (last_inj ls o.front [] o.last lists))

-- only one answer fits
pub messages_agree : (bytes : List ℕ) (ls ms : List (List ℕ)) (e f : Bool) → Messages bytes ls e → Messages bytes ms f → (ls ≡ ms) × (e ≡ f)
messages_agree bytes ls ms true true m n = (joined_inj ls ms m.0 n.0 (sym m.1 ∙ n.1), refl)
messages_agree bytes ls ms true false m n = absurd (not_both bytes ls ms m.0 m.1 n.0 n.1)
messages_agree bytes ls ms false true m n = absurd (not_both bytes ms ls n.0 n.1 m.0 m.1)
messages_agree bytes ls ms false false m n = (joined_inj ls ms m.0 n.0 (open_joined bytes ls m.1 ∙ sym (open_joined bytes ms n.1)), refl)

-- a text without its last byte
take-open : (bytes : List ℕ) → take (length (bytes ++ 10 ∷ []) - 1) (bytes ++ 10 ∷ []) ≡ bytes
take-open bytes =
    let n : length (bytes ++ 10 ∷ []) - 1 ≡ length bytes = omega (arith, length-append bytes (10 ∷ [])) in
    ap (λ k. take k (bytes ++ 10 ∷ [])) n ∙ take-append_seam bytes (10 ∷ [])

-- joining the messages back gives the bytes
pub messages_join : (bytes : List ℕ) (messages : List (List ℕ)) (ended : Bool) → Messages bytes messages ended → file_text messages ended ≡ bytes
messages_join bytes messages true m = sym m.1
messages_join bytes messages false m =
    ap (λ text. take (length text - 1) text) (open_joined bytes messages m.1) ∙ take-open bytes
