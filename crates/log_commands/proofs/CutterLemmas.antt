-- How far the printing of the messages that a cutter gives is.
use Rattle.std.proofs.Common.{◌≡◌, refl, sym, ◌∙◌, ap, subst, ℕ, ◌+◌, ◌<◌, ◌≤◌, List, [], ◌∷◌, ◌++◌, length, take, arith, Bool, true, false, Option, Some, None, ◌⊎◌, inl, inr, option_map}
use Rattle.std.specs.Prelude.{IfSome}
use Rattle.std.proofs.lemmas.List.{length-append, take-append-le}
use Rattle.log_messages.specs.Messages.{IsLine}
use Rattle.line_cut.specs.Length.{bytes_left}
use Rattle.line_cut.specs.Cutting.{CutterState, Gave, CameToEnd, RefusedBy, left_of}
use Rattle.line_cut.specs.declared.cut.Cut.{Cut}
use Rattle.line_cut.specs.declared.cut.Cut.TheVariants.{ReadFault, LineTooLong, TooManyLines, OutOfMemory}
use Rattle.line_cut.specs.declared.cut.Progress.TheVariants.{Open, Ended}
use Rattle.command_answers.specs.Printing.{PrintsAll, PrintsFirst, PrintsSome, ComesTo, HasMore}
use Rattle.log_commands.specs.StepsPrinting.{refusal_of, Reaches, IsFresh, TellsNext, FailsAfter}
use Rattle.command_refusals.specs.LogLimits.{IsLong, most_bytes, most_messages}
use Rattle.command_refusals.specs.declared.outcome.LogRefusal.{LogRefusal}
use Rattle.command_refusals.specs.declared.outcome.LogRefusal.TheVariants.{SinkFault, OutOfMemory as RefusalOutOfMemory}
use Rattle.sink_pieces.specs.Output.{GrewByFront, Gathers}
use Rattle.sink_pieces.proofs.OutputLemmas.{Gathers-nothing, Gathers-more, Gathers-moves, Gathers-front, Gathers-kept}
use Rattle.log_commands.proofs.ReadingLemmas.{Reads, Reads-nothing, Reads-line, Reads-last, Reads-end, Reads-first, Reads-before, Reads-long, Reads-more, PrintsAll-some}

-- The bytes that are left, up to which lines were printed.
pub record ReadsTo (tells : ℕ → List ℕ → List ℕ → Type 0) (left : Option (List ℕ)) (given : ℕ) (text bytes : List ℕ) : Type 0 where
  pub rest : List ℕ
  pub is : left ≡ Some rest
  pub reads : Reads tells bytes rest given text

-- The cutter is is_open, and lines were printed up to what it has left; or it came to the end, and all messages were printed.
abbrev pub Stage : {S : Type 0} → (ℕ → List ℕ → List ℕ → Type 0) → (S → Option (List ℕ)) → Option (List ℕ) → CutterState S → List ℕ → Type 0
Stage tells left bytes c text =
    ((c.progress ≡ Open) × IfSome bytes (λ b. ReadsTo tells (left_of left c) c.given text b))
    ⊎ ((c.progress ≡ Ended) × IfSome bytes (λ b. PrintsAll tells b text))

-- what is said of told bytes
if_some : {A : Type 0} {P Q : A → Type 0} (o : Option A) → ((a : A) → P a → Q a) → IfSome o P → IfSome o Q
if_some None f h = tt
if_some (Some a) f h = f a h

-- the lines that were printed are those of some first messages
pub Stage-some : {S : Type 0} (tells : ℕ → List ℕ → List ℕ → Type 0) (left : S → Option (List ℕ)) (bytes : Option (List ℕ)) (c : CutterState S) (text : List ℕ) → Stage tells left bytes c text → IfSome bytes (λ b. PrintsSome tells b text)
Stage-some tells left bytes c text (inl s) = if_some bytes (λ b r. (c.given, Reads-first tells b r.rest c.given text r.reads)) s.1
Stage-some tells left bytes c text (inr s) = if_some bytes (λ b p. PrintsAll-some tells b text p) s.1

-- a fresh cutter
pub Stage-fresh : {S : Type 0} (tells : ℕ → List ℕ → List ℕ → Type 0) (left : S → Option (List ℕ)) (c : CutterState S) → IsFresh c → Stage tells left (left c.source) c []
Stage-fresh tells left c fresh = inl (fresh.progress, told (left c.source) refl)
  where
    told : (bytes : Option (List ℕ)) → bytes ≡ left c.source → IfSome bytes (λ b. ReadsTo tells (left_of left c) c.given [] b)
    told None e = tt
    told (Some b) e = record { rest = b; is = ap (λ p. bytes_left p (left c.source)) fresh.pending ∙ ap (bytes_left []) (sym e); reads = subst (λ n. Reads tells b b n []) (sym fresh.given) (Reads-nothing tells b) }

-- what was left before a line with its newline
before_line : (line before : List ℕ) (after : Option (List ℕ)) → Some before ≡ option_map (λ rest. line ++ 10 ∷ rest) after → (rest : List ℕ) × (after ≡ Some rest) × (before ≡ line ++ 10 ∷ rest)
before_line line before None e = absurd cc
before_line line before (Some rest) e = (rest, refl, cc)

before_last : (line before : List ℕ) (after : Option (List ℕ)) → Some before ≡ option_map (λ _. line) after → before ≡ line
before_last line before None e = absurd cc
before_last line before (Some rest) e = cc

-- one more message was printed
pub Stage-gave : {S : Type 0} (tells : ℕ → List ℕ → List ℕ → Type 0) (left : S → Option (List ℕ)) (bytes : Option (List ℕ)) (c d : CutterState S) (ended : Bool) (line text more : List ℕ) → c.max_line ≡ most_bytes → c.max_lines ≡ most_messages → Stage tells left bytes c text → Gave left ended line c d → tells (c.given + 1) line more → Stage tells left bytes d (text ++ more)
Stage-gave tells left bytes c d ended line text more size count (inr s) g told = absurd (differ (sym g.was_open ∙ s.0))
  where
    differ : Open ≡ Ended → ⊥
    differ e = cc
Stage-gave tells left bytes c d true line text more size count (inl s) g told = inl (g.progress, if_some bytes next s.1)
  where
    next : (b : List ℕ) → ReadsTo tells (left_of left c) c.given text b → ReadsTo tells (left_of left d) d.given (text ++ more) b
    next b r = let l = before_line line r.rest (left_of left d) (sym r.is ∙ g.parts) in record {
      rest = l.0;
      is = l.1;
      reads = subst (λ n. Reads tells b l.0 n (text ++ more)) (sym g.given) (Reads-line tells b r.rest line l.0 c.given text more r.reads g.is_line (omega (arith, g.fits, size)) (omega (arith, g.within, count)) l.2 told);
    }
Stage-gave tells left bytes c d false line text more size count (inl s) g told = inr (g.progress, if_some bytes last s.1)
  where
    last : (b : List ℕ) → ReadsTo tells (left_of left c) c.given text b → PrintsAll tells b (text ++ more)
    last b r = Reads-last tells b r.rest line c.given text more r.reads g.is_line (g.not_empty refl) (omega (arith, g.fits, size)) (omega (arith, g.within, count)) (before_last line r.rest (left_of left d) (sym r.is ∙ g.parts.0)) told

-- the end
pub Stage-end : {S : Type 0} (tells : ℕ → List ℕ → List ℕ → Type 0) (left : S → Option (List ℕ)) (bytes : Option (List ℕ)) (c d : CutterState S) (text : List ℕ) → Stage tells left bytes c text → CameToEnd left c d → IfSome bytes (λ b. PrintsAll tells b text)
Stage-end tells left bytes c d text (inr s) e = s.1
Stage-end tells left bytes c d text (inl s) e = if_some bytes (λ b r. Reads-end tells b r.rest c.given text r.reads (empty (left_of left c) r.rest r.is (e.nothing s.0))) s.1
  where
    empty : (o : Option (List ℕ)) (rest : List ℕ) → o ≡ Some rest → IfSome o (λ x. x ≡ []) → rest ≡ []
    empty None rest is none = absurd cc
    empty (Some x) rest is none = let same : x ≡ rest = cc in sym same ∙ none

-- the bytes that a cutter took are a front of what is left
pending_front : (pending rest : List ℕ) (source : Option (List ℕ)) → bytes_left pending source ≡ Some rest → (behind : List ℕ) × (rest ≡ pending ++ behind) × (source ≡ Some behind)
pending_front pending rest None e = absurd cc
pending_front pending rest (Some behind) e = (behind, cc, refl)

-- a refusal
pub Stage-refused : {S : Type 0} (tells : ℕ → List ℕ → List ℕ → Type 0) (left : S → Option (List ℕ)) (faults : S → ℕ) (bytes : Option (List ℕ)) (c d : CutterState S) (cut : Cut) (text : List ℕ) → c.max_line ≡ most_bytes → c.max_lines ≡ most_messages → c.progress ≡ Open → Stage tells left bytes c text → RefusedBy left faults c d cut → IfSome bytes (λ b. ComesTo tells (Some (refusal_of cut)) b (left d.source) text)
Stage-refused tells left faults bytes c d ReadFault text size count is_open (inl s) r =
    if_some bytes (λ b t. let front = pending_front d.pending t.rest (left d.source) (r.left_same ∙ t.is) in (front.0, front.2, Reads-before tells b t.rest d.pending front.0 c.given text t.reads (r.cause is_open).no_newline (omega (arith, (r.cause is_open).short, size)) (λ full. (r.cause is_open).at_limit (full ∙ sym count)) front.1)) s.1
Stage-refused tells left faults bytes c d ReadFault text size count is_open (inr s) r = absurd (differ (sym is_open ∙ s.0))
  where
    differ : Open ≡ Ended → ⊥
    differ e = cc
Stage-refused tells left faults bytes c d OutOfMemory text size count is_open s r = Stage-some tells left bytes c text s
Stage-refused tells left faults bytes c d (LineTooLong line) text size count is_open (inr s) r = absurd (differ (sym is_open ∙ s.0))
  where
    differ : Open ≡ Ended → ⊥
    differ e = cc
Stage-refused tells left faults bytes c d TooManyLines text size count is_open (inr s) r = absurd (differ (sym is_open ∙ s.0))
  where
    differ : Open ≡ Ended → ⊥
    differ e = cc
Stage-refused tells left faults bytes c d (LineTooLong line) text size count is_open (inl s) r = if_some bytes long s.1
  where
    long : (b : List ℕ) → ReadsTo tells (left_of left c) c.given text b → ComesTo tells (Some (refusal_of (LineTooLong line))) b (left d.source) text
    long b t =
        let cause = r.cause is_open in
        let front = pending_front d.pending t.rest (left d.source) (r.left_same ∙ t.is) in
        let more : most_bytes < length t.rest = omega (arith, cause.2.0, size, ap length front.1, length-append d.pending front.0) in
        let short : most_bytes + 1 ≤ length d.pending = omega (arith, cause.2.0, size) in
        let is : IsLine (take (most_bytes + 1) t.rest) = subst (λ x. IsLine (take (most_bytes + 1) x)) (sym front.1) (subst IsLine (sym (take-append-le (most_bytes + 1) d.pending front.0 short)) (subst (λ n. IsLine (take (n + 1) d.pending)) size cause.2.1)) in
        (omega (arith, cause.0, cause.1, count), subst (λ n. IsLong b n) (sym cause.0) (Reads-long tells b t.rest c.given text t.reads more is), subst (λ n. PrintsFirst tells b n text) (omega (arith, cause.0)) (Reads-first tells b t.rest c.given text t.reads))
Stage-refused tells left faults bytes c d TooManyLines text size count is_open (inl s) r = if_some bytes many s.1
  where
    many : (b : List ℕ) → ReadsTo tells (left_of left c) c.given text b → ComesTo tells (Some (refusal_of TooManyLines)) b (left d.source) text
    many b t =
        let cause = r.cause is_open in
        let front = pending_front d.pending t.rest (left d.source) (r.left_same ∙ t.is) in
        let some : 0 < length t.rest = omega (arith, cause.1, ap length front.1, length-append d.pending front.0) in
        let is : c.given ≡ most_messages = cause.0 ∙ count in
        (subst (λ n. HasMore b n) is (Reads-more tells b t.rest c.given text t.reads some), subst (λ n. PrintsFirst tells b n text) is (Reads-first tells b t.rest c.given text t.reads))

-- How far a loop over a cutter's lines is: the text of those that it printed is what the sink took and what is gathered.
pub record IsPrinting {S : Type 0} (tells : ℕ → List ℕ → List ℕ → Type 0) (left : S → Option (List ℕ)) (bytes start now : Option (List ℕ)) (gathered : List ℕ) (c : CutterState S) (number : ℕ) : Type 0 where
  pub text : List ℕ
  pub gathers : Gathers start now gathered text
  pub stage : Stage tells left bytes c text
  pub counted : number ≡ c.given
  pub few : c.given ≤ most_messages
  pub size : c.max_line ≡ most_bytes
  pub count : c.max_lines ≡ most_messages

pub IsPrinting-fresh : {S : Type 0} (tells : ℕ → List ℕ → List ℕ → Type 0) (left : S → Option (List ℕ)) (start : Option (List ℕ)) (gathered : List ℕ) (c : CutterState S) → IsFresh c → gathered ≡ [] → IsPrinting tells left (left c.source) start start gathered c 0
IsPrinting-fresh tells left start gathered c fresh none = record {
  text = [];
  gathers = Gathers-nothing start gathered none;
  stage = Stage-fresh tells left c fresh;
  counted = sym fresh.given;
  few = omega (arith, fresh.given);
  size = fresh.max_line;
  count = fresh.max_lines;
}

-- one more message was printed
pub IsPrinting-more : {S : Type 0} (tells : ℕ → List ℕ → List ℕ → Type 0) (left : S → Option (List ℕ)) (bytes start now new : Option (List ℕ)) (gathered rest : List ℕ) (c d : CutterState S) (number : ℕ) (ended : Bool) → IsPrinting tells left bytes start now gathered c number → Gave left ended d.line c d → d.max_line ≡ c.max_line → d.max_lines ≡ c.max_lines → TellsNext tells (number + 1) d.line now new gathered rest → IsPrinting tells left bytes start new rest d (number + 1)
IsPrinting-more tells left bytes start now new gathered rest c d number ended p g size count t = record {
  text = p.text ++ t.text;
  gathers = Gathers-moves start now new (gathered ++ t.text) rest (p.text ++ t.text) (Gathers-more start now gathered (gathered ++ t.text) p.text t.text refl p.gathers) t.moves;
  stage = Stage-gave tells left bytes c d ended d.line p.text t.text p.size p.count p.stage g (subst (λ n. tells (n + 1) d.line t.text) p.counted t.told);
  counted = omega (arith, p.counted, g.given);
  few = omega (arith, g.given, g.within, p.count);
  size = size ∙ p.size;
  count = count ∙ p.count;
}

-- the sink failed
pub IsPrinting-failed : {S : Type 0} (tells : ℕ → List ℕ → List ℕ → Type 0) (left : S → Option (List ℕ)) (bytes unread start now new : Option (List ℕ)) (gathered rest : List ℕ) (c d : CutterState S) (number : ℕ) (ended : Bool) → IsPrinting tells left bytes start now gathered c number → Gave left ended d.line c d → FailsAfter tells (number + 1) d.line now new gathered → Reaches tells (Some SinkFault) bytes unread start new rest
IsPrinting-failed tells left bytes unread start now new gathered rest c d number ended p g t = record {
  text = p.text ++ t.text;
  comes_to = Stage-some tells left bytes d (p.text ++ t.text) (Stage-gave tells left bytes c d ended d.line p.text t.text p.size p.count p.stage g (subst (λ n. tells (n + 1) d.line t.text) p.counted t.told));
  kept = λ e. absurd cc;
  front = λ _. Gathers-front start now new (gathered ++ t.text) (p.text ++ t.text) (Gathers-more start now gathered (gathered ++ t.text) p.text t.text refl p.gathers) t.grew;
}

-- there was no memory for the text of a message
pub IsPrinting-no_memory : {S : Type 0} (tells : ℕ → List ℕ → List ℕ → Type 0) (left : S → Option (List ℕ)) (bytes unread start now new : Option (List ℕ)) (gathered rest : List ℕ) (c : CutterState S) (number : ℕ) → IsPrinting tells left bytes start now gathered c number → new ≡ now → Reaches tells (Some RefusalOutOfMemory) bytes unread start new rest
IsPrinting-no_memory tells left bytes unread start now new gathered rest c number p same = record {
  text = p.text;
  comes_to = Stage-some tells left bytes c p.text p.stage;
  kept = λ e. absurd cc;
  front = λ _. subst (λ n. GrewByFront start n p.text) (sym same) (Gathers-kept start now gathered p.text p.gathers);
}

-- the cutter came to the end
pub IsPrinting-end : {S : Type 0} (tells : ℕ → List ℕ → List ℕ → Type 0) (left : S → Option (List ℕ)) (bytes unread start now : Option (List ℕ)) (gathered : List ℕ) (c d : CutterState S) (number : ℕ) → IsPrinting tells left bytes start now gathered c number → CameToEnd left c d → Reaches tells None bytes unread start now gathered
IsPrinting-end tells left bytes unread start now gathered c d number p e = record {
  text = p.text;
  comes_to = Stage-end tells left bytes c d p.text p.stage e;
  kept = λ _. p.gathers;
  front = λ f. absurd cc;
}

-- the cutter refused
pub IsPrinting-refused : {S : Type 0} (tells : ℕ → List ℕ → List ℕ → Type 0) (left : S → Option (List ℕ)) (faults : S → ℕ) (bytes start now : Option (List ℕ)) (gathered : List ℕ) (c d : CutterState S) (number : ℕ) (cut : Cut) → c.progress ≡ Open → IsPrinting tells left bytes start now gathered c number → RefusedBy left faults c d cut → Reaches tells (Some (refusal_of cut)) bytes (left d.source) start now gathered
IsPrinting-refused tells left faults bytes start now gathered c d number cut is_open p r = record {
  text = p.text;
  comes_to = Stage-refused tells left faults bytes c d cut p.text p.size p.count is_open p.stage r;
  kept = λ _. p.gathers;
  front = λ _. Gathers-kept start now gathered p.text p.gathers;
}

-- a message was not printed
pub IsPrinting-stopped : {S : Type 0} (tells : ℕ → List ℕ → List ℕ → Type 0) (left : S → Option (List ℕ)) (bytes unread start now new : Option (List ℕ)) (gathered rest message : List ℕ) (c d : CutterState S) (number : ℕ) (ended : Bool) (refusal : LogRefusal) → IsPrinting tells left bytes start now gathered c number → Gave left ended d.line c d → message ≡ d.line → (refusal ≡ SinkFault) ⊎ (refusal ≡ RefusalOutOfMemory) → (refusal ≡ SinkFault → FailsAfter tells (number + 1) message now new gathered) → (refusal ≡ RefusalOutOfMemory → new ≡ now) → Reaches tells (Some refusal) bytes unread start new rest
IsPrinting-stopped tells left bytes unread start now new gathered rest message c d number ended refusal p g is (inl e) failed memory = subst (λ r. Reaches tells (Some r) bytes unread start new rest) (sym e) (IsPrinting-failed tells left bytes unread start now new gathered rest c d number ended p g (subst (λ m. FailsAfter tells (number + 1) m now new gathered) is (failed e)))
IsPrinting-stopped tells left bytes unread start now new gathered rest message c d number ended refusal p g is (inr e) failed memory = subst (λ r. Reaches tells (Some r) bytes unread start new rest) (sym e) (IsPrinting-no_memory tells left bytes unread start now new gathered rest c number p (memory e))

-- the cutter was open where it refused
pub IsPrinting-open : {S : Type 0} (tells : ℕ → List ℕ → List ℕ → Type 0) (left : S → Option (List ℕ)) (bytes start now : Option (List ℕ)) (gathered : List ℕ) (c : CutterState S) (number : ℕ) → IsPrinting tells left bytes start now gathered c number → (c.progress ≡ Ended → ⊥) → c.progress ≡ Open
IsPrinting-open tells left bytes start now gathered c number p never = is_open p.stage
  where
    is_open : Stage tells left bytes c p.text → c.progress ≡ Open
    is_open (inl s) = s.0
    is_open (inr s) = absurd (never s.0)
