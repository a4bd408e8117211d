-- What the messages that were given are of all the bytes.
use Rattle.std.proofs.Common.{◌≡◌, ◌⊎◌, inl, inr, ℕ, ◌+◌, ◌<◌, ◌≤◌, Bool, true, false, List, [], ◌∷◌, ◌++◌, length, Option, None, Some, refl, sym, ◌∙◌, ap, subst, arith}
use Rattle.std.specs.Prelude.{IfSome}
use Rattle.std.proofs.lemmas.List.{append-nil, append_assoc, length-append}
use Rattle.log_messages.specs.Messages.{IsLine, joined}
use Rattle.log_messages.proofs.StepLemmas.{joined-append}
use Rattle.line_cut.specs.Cutting.{Parts}
use Rattle.line_cut.specs.Length.{BeginsTooLong, bytes_left}
use Rattle.line_cut.specs.declared.cut.Cut.TheVariants.{ReadFault, LineTooLong, TooManyLines, OutOfMemory}
use Rattle.line_cut.specs.declared.cutter.TheConstants.{MAX_LINE_LEN}
use Rattle.message_reader.specs.declared.reader.TheConstants.{MAX_MESSAGES}
use Rattle.line_cut.proofs.ExclusionLemmas.{stays_long}
use Rattle.message_reader.specs.Reading.{IsTornMessage, ReaderState, left_of}
use Rattle.message_reader.specs.Versions.{AreWholeLines, IsFirstOf, IsFirstOfLines, IsHead, MessagesOf, line_count}
use Rattle.message_reader.specs.Taken.{AreFirst, HasRead, IsReadShort, LastIsNoHead, ReadingBeforeRefusal, ReadingBegins, ReadingEnds, ReadingGoesOn, ReadingIsFront, ToldFirst, lines_count}
use Rattle.message_reader.proofs.VersionLawLemmas.{messages_agree, messages_exist, messages_none}

-- ---- whole lines

whole_more : (text front after : List ℕ) → AreWholeLines front after → AreWholeLines (text ++ 10 ∷ front) (text ++ 10 ∷ after)
whole_more text front after (inl none) = inr (text, after, ap (λ f. text ++ 10 ∷ f) none, refl)
whole_more text front after (inr w) =
    inr (text ++ 10 ∷ w.0, w.1, ap (λ f. text ++ 10 ∷ f) w.2 ∙ sym (append_assoc text (10 ∷ w.0) (10 ∷ [])), ap (λ f. text ++ 10 ∷ f) w.3 ∙ sym (append_assoc text (10 ∷ w.0) (10 ∷ w.1)))

joined_whole : (taken : List (List ℕ)) (rest : List ℕ) → AreWholeLines (joined taken) (joined taken ++ rest)
joined_whole [] rest = inl refl
joined_whole (text ∷ taken) rest =
    subst (AreWholeLines (text ++ 10 ∷ joined taken)) (sym (append_assoc text (10 ∷ joined taken) rest)) (whole_more text (joined taken) (joined taken ++ rest) (joined_whole taken rest))

joined_more : (taken : List (List ℕ)) (text rest : List ℕ) → joined (taken ++ text ∷ []) ++ rest ≡ joined taken ++ (text ++ 10 ∷ rest)
joined_more taken text rest =
    ap (λ j. j ++ rest) (joined-append taken (text ∷ [])) ∙ (append_assoc (joined taken) (text ++ 10 ∷ []) rest ∙ ap (λ r. joined taken ++ r) (append_assoc text (10 ∷ []) rest))

-- ---- message by message

first_none : (version : ℕ) (bytes : List ℕ) → AreFirst version bytes [] bytes
first_none version bytes = record { parts = refl; others = λ ms e m. m; of_lines = λ front ms e whole m. m }

first_more : (version : ℕ) (bytes before after text : List ℕ) (taken : List (List ℕ)) → before ≡ text ++ 10 ∷ after → IsFirstOf version true text before after → IsFirstOfLines version text after → AreFirst version bytes taken before → AreFirst version bytes (taken ++ text ∷ []) after
first_more version bytes before after text taken whole first lines t = record {
  parts = t.parts ∙ (ap (λ b. joined taken ++ b) whole ∙ sym (joined_more taken text after));
  others = λ ms e m. subst (λ l. MessagesOf version bytes l e) (sym (append_assoc taken (text ∷ []) ms)) (t.others (text ∷ ms) e (first ms e m));
  of_lines = λ front ms e w m.
      subst (λ b. MessagesOf version b ((taken ++ text ∷ []) ++ ms) e) (sym (joined_more taken text front))
      (subst (λ l. MessagesOf version (joined taken ++ (text ++ 10 ∷ front)) l e) (sym (append_assoc taken (text ∷ []) ms))
      (t.of_lines (text ++ 10 ∷ front) (text ∷ ms) e (subst (AreWholeLines (text ++ 10 ∷ front)) (sym whole) (whole_more text front after w)) (lines front ms e w m)));
}

-- of what was given, with nothing behind it
only_taken : (version : ℕ) (bytes rest : List ℕ) (taken : List (List ℕ)) → AreFirst version bytes taken rest → MessagesOf version (joined taken) taken true
only_taken version bytes rest taken t =
    subst (λ b. MessagesOf version b taken true) (append-nil (joined taken))
    (subst (λ l. MessagesOf version (joined taken ++ []) l true) (append-nil taken) (t.of_lines [] [] true (inl refl) (messages_none version)))

told_more : (version : ℕ) (bytes before after : Option (List ℕ)) (text : List ℕ) (taken : List (List ℕ)) → Parts true text before after → IfSome before (λ b. IfSome after (IsFirstOf version true text b)) → IfSome after (IsFirstOfLines version text) → ToldFirst version bytes taken before → ToldFirst version bytes (taken ++ text ∷ []) after
told_more version None before after text taken parts first lines t = tt
told_more version (Some b) None after text taken parts first lines t = absurd t
told_more version (Some b) (Some before) None text taken parts first lines t = absurd (cc (parts))
told_more version (Some b) (Some before) (Some after) text taken parts first lines t =
    let whole : before ≡ text ++ 10 ∷ after = cc (parts) in first_more version b before after text taken whole first lines t

told_last : (version : ℕ) (bytes before after : Option (List ℕ)) (text : List ℕ) (taken : List (List ℕ)) → Parts false text before after → IfSome before (λ b. IfSome after (IsFirstOf version false text b)) → ToldFirst version bytes taken before → IfSome bytes (λ b. MessagesOf version b (taken ++ text ∷ []) false)
told_last version None before after text taken parts first t = tt
told_last version (Some b) None after text taken parts first t = absurd t
told_last version (Some b) (Some before) None text taken parts first t = absurd (cc (parts.0))
told_last version (Some b) (Some before) (Some after) text taken parts first t =
    let whole : before ≡ text = cc (parts.0) in t.others (text ∷ []) false first

told_end : (version : ℕ) (bytes before : Option (List ℕ)) (taken : List (List ℕ)) → IfSome before (λ b. b ≡ []) → ToldFirst version bytes taken before → IfSome bytes (λ b. MessagesOf version b taken true)
told_end version None before taken nothing t = tt
told_end version (Some b) None taken nothing t = absurd t
told_end version (Some b) (Some before) taken nothing t =
    subst (λ l. MessagesOf version b l true) (append-nil taken) (t.others [] true (subst (λ r. MessagesOf version r [] true) (sym nothing) (messages_none version)))

told_front : (version : ℕ) (bytes before : Option (List ℕ)) (taken : List (List ℕ)) → ToldFirst version bytes taken before → IfSome bytes (λ b. (messages : List (List ℕ)) (ended : Bool) → MessagesOf version b messages ended → (more : List (List ℕ)) × (messages ≡ taken ++ more))
told_front version None before taken t = tt
told_front version (Some b) None taken t = absurd t
told_front version (Some b) (Some rest) taken t = λ messages ended m.
    let others = messages_exist version rest in
    (others.0, (messages_agree version b messages (taken ++ others.0) ended others.1 m (t.others others.0 others.1 others.2)).0)

-- ---- how many lines

count_push : (taken : List (List ℕ)) (text : List ℕ) → lines_count (taken ++ text ∷ []) ≡ lines_count taken + line_count text
count_push [] text = omega arith
count_push (t ∷ taken) text = omega (arith, count_push taken text)

-- the last of a list with one more
last_push : (front taken : List (List ℕ)) (last text : List ℕ) → taken ++ text ∷ [] ≡ front ++ last ∷ [] → text ≡ last
last_push [] [] last text e = cc (e)
last_push [] (t ∷ taken) last text e = absurd (omega (arith, ap length e, length-append taken (text ∷ [])))
last_push (f ∷ front) [] last text e = absurd (omega (arith, ap length e, length-append front (last ∷ [])))
last_push (f ∷ front) (t ∷ taken) last text e = last_push front taken last text (cc (e))

-- ---- the laws

pub reading_begins : {S : Type 0} (left : S → Option (List ℕ)) → ReadingBegins left
reading_begins left version source r is = record {
  version_is = is.version_is;
  given = is.given;
  lines = is.lines;
  told = begins (left source) r.pending (left r.source) is.pending (ap left is.source_is);
  alone = λ _ front last e. absurd (omega (arith, ap length e, length-append front (last ∷ [])));
}
  where
    begins : (bytes : Option (List ℕ)) (pending : List ℕ) (now : Option (List ℕ)) → pending ≡ [] → now ≡ bytes → ToldFirst version bytes [] (bytes_left pending now)
    begins bytes pending now none same = subst (λ p. ToldFirst version bytes [] (bytes_left p now)) (sym none) (subst (λ n. ToldFirst version bytes [] (bytes_left [] n)) (sym same) (own bytes))
      where
        own : (bytes : Option (List ℕ)) → ToldFirst version bytes [] (bytes_left [] bytes)
        own None = tt
        own (Some b) = first_none version b

pub reading_goes_on : {S : Type 0} (left name : S → Option (List ℕ)) (faults : S → ℕ) → ReadingGoesOn left name faults
reading_goes_on left name faults version bytes taken old new h stays m = record {
  version_is = stays.version ∙ h.version_is;
  given = omega (arith, m.given, h.given, length-append taken (new.message ∷ []));
  lines = omega (arith, m.lines, h.lines, count_push taken new.message);
  told = told_more version bytes (left_of left old) (left_of left new) new.message taken m.parts
      (subst (λ v. IfSome (left_of left old) (λ b. IfSome (left_of left new) (IsFirstOf v true new.message b))) h.version_is m.first)
      (subst (λ v. IfSome (left_of left new) (IsFirstOfLines v new.message)) h.version_is (m.of_lines refl)) h.told;
  alone = λ looked front last e.
      subst (λ v. ¬ IsHead v last) h.version_is (subst (λ t. ¬ IsHead old.version t) (last_push front taken last new.message e) (m.alone looked refl).1);
}

pub reading_ends : {S : Type 0} (left : S → Option (List ℕ)) → ReadingEnds left
reading_ends left version bytes taken old new h = (
  λ m. told_last version bytes (left_of left old) (left_of left new) new.message taken m.parts
      (subst (λ v. IfSome (left_of left old) (λ b. IfSome (left_of left new) (IsFirstOf v false new.message b))) h.version_is m.first) h.told,
  λ at_end is_open. told_end version bytes (left_of left old) taken (at_end.nothing is_open) h.told,
)

pub reading_is_front : {S : Type 0} (left : S → Option (List ℕ)) → ReadingIsFront left
reading_is_front left version bytes taken r h = told_front version bytes (left_of left r) taken h.told

-- ---- before a refusal

short_line : (version : ℕ) (bytes pending behind : List ℕ) (taken : List (List ℕ)) → IsLine pending → LastIsNoHead version taken → AreFirst version bytes taken (pending ++ behind) → IsReadShort version bytes taken (Some behind)
short_line version bytes pending behind taken is none t = record {
  whole = joined taken;
  part = pending;
  splits = ap (λ b. Some b) (t.parts ∙ sym (append_assoc (joined taken) pending behind));
  are_lines = joined_whole taken pending;
  no_newline = is;
  messages = inl (only_taken version bytes (pending ++ behind) taken t, none);
}

short_group : (version : ℕ) (bytes pending behind : List ℕ) (taken : List (List ℕ)) → IsTornMessage version pending → AreFirst version bytes taken (pending ++ behind) → IsReadShort version bytes taken (Some behind)
short_group version bytes pending behind taken torn t =
    let after : pending ++ behind ≡ torn.text ++ 10 ∷ (torn.part ++ behind) = ap (λ p. p ++ behind) torn.splits ∙ append_assoc torn.text (10 ∷ torn.part) behind in
    let whole = joined (taken ++ torn.text ∷ []) in
    let parts : bytes ≡ whole ++ (torn.part ++ behind) = t.parts ∙ (ap (λ a. joined taken ++ a) after ∙ sym (joined_more taken torn.text (torn.part ++ behind))) in
    let is : joined taken ++ (torn.text ++ 10 ∷ []) ≡ whole = sym (joined_more taken torn.text []) ∙ append-nil whole in
    record {
      whole = whole;
      part = torn.part;
      splits = ap (λ b. Some b) (parts ∙ sym (append_assoc whole torn.part behind));
      are_lines = joined_whole (taken ++ torn.text ∷ []) torn.part;
      no_newline = torn.no_newline;
      messages = inr (
        torn.text,
        subst (λ b. MessagesOf version b (taken ++ torn.text ∷ []) true) is
            (t.of_lines (torn.text ++ 10 ∷ []) (torn.text ∷ []) true (inr (torn.text, torn.part ++ behind, refl, after)) torn.is_message),
        torn.stamped,
      );
    }

read_short : (version : ℕ) (bytes : Option (List ℕ)) (pending : List ℕ) (behind : Option (List ℕ)) (taken : List (List ℕ)) → (IsLine pending × LastIsNoHead version taken) ⊎ IsTornMessage version pending → ToldFirst version bytes taken (bytes_left pending behind) → IfSome bytes (λ b. IsReadShort version b taken behind)
read_short version None pending behind taken torn t = tt
read_short version (Some b) pending None taken torn t = absurd t
read_short version (Some b) pending (Some behind) taken (inl line) t = short_line version b pending behind taken line.0 line.1 t
read_short version (Some b) pending (Some behind) taken (inr torn) t = short_group version b pending behind taken torn t

before_long : (version : ℕ) (bytes : Option (List ℕ)) (pending : List ℕ) (behind : Option (List ℕ)) (taken : List (List ℕ)) → BeginsTooLong MAX_LINE_LEN pending → ToldFirst version bytes taken (bytes_left pending behind)
    → IfSome bytes (λ b. MessagesOf version (joined taken) taken true × ((rest : List ℕ) × (b ≡ joined taken ++ rest) × BeginsTooLong MAX_LINE_LEN rest))
before_long version None pending behind taken long t = tt
before_long version (Some b) pending None taken long t = absurd t
before_long version (Some b) pending (Some behind) taken long t =
    (only_taken version b (pending ++ behind) taken t, (pending ++ behind, t.parts, stays_long MAX_LINE_LEN pending behind long))

torn_either : {S : Type 0} (left : S → Option (List ℕ)) (version : ℕ) (bytes : Option (List ℕ)) (taken : List (List ℕ)) (old new : ReaderState S) → HasRead left version bytes taken old
    → ((old.looked ≡ false) × IsLine new.pending × (length new.pending ≤ MAX_LINE_LEN)) ⊎ ((old.given < MAX_MESSAGES) × IsTornMessage old.version new.pending)
    → (IsLine new.pending × LastIsNoHead version taken) ⊎ IsTornMessage version new.pending
torn_either left version bytes taken old new h (inl line) = inl (line.1, h.alone line.0)
torn_either left version bytes taken old new h (inr group) = inr (subst (λ v. IsTornMessage v new.pending) h.version_is group.1)

pub reading_before_refusal : {S : Type 0} (left : S → Option (List ℕ)) (faults : S → ℕ) → ReadingBeforeRefusal left faults
reading_before_refusal left faults version bytes taken old new ReadFault h r is_open =
    let cause = r.cause is_open in
    read_short version bytes new.pending (left new.source) taken (torn_either left version bytes taken old new h cause.torn) (subst (ToldFirst version bytes taken) (sym r.left_same) h.told)
reading_before_refusal left faults version bytes taken old new (LineTooLong line) h r is_open =
    let cause = r.cause is_open in
    (omega (arith, cause.number, h.lines), before_long version bytes new.pending (left new.source) taken cause.begins (subst (ToldFirst version bytes taken) (sym r.left_same) h.told))
reading_before_refusal left faults version bytes taken old new TooManyLines h r is_open = sym h.given ∙ (r.cause is_open).at_limit
reading_before_refusal left faults version bytes taken old new OutOfMemory h r is_open = r.cause is_open
