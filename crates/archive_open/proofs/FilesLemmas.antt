-- The files of an archive with names more, and with a segment more.
use Rattle.std.proofs.Common.{◌≡◌, ◌≢◌, ℕ, zero, suc, ◌+◌, ◌<◌, ◌≤◌, List, [], ◌∷◌, ◌++◌, length, map, get_or, set, refl, sym, ◌∙◌, ap, ap₂, subst, arith, length-append}
use Rattle.std.specs.Prelude.{Bool, true, false, ◌==◌, ◌||◌, ◌&&◌, if◌then◌else◌}
use Rattle.std.proofs.lemmas.List.{append-nil}
use Rattle.std.proofs.lemmas.Bool.{eq-eqb, ne_eqb}
use Rattle.archive_meaning.specs.Held.{Piece, files_from, is_ended, is_whole, messages_of}
use Rattle.archive_meaning.proofs.SumsLemmas.{AreBelow, messages_joined, whole_joined}
use Rattle.archive_open.specs.declared.files.FileEntry.{FileEntry}
use Rattle.archive_open.specs.Shown.{counted}
use Rattle.archive_open.specs.StepsFiles.{no_file}
use Rattle.archive_open.specs.StepsNext.{new_file}

abbrev pub entries_from : ℕ → List (List ℕ) → List Piece → List FileEntry
entries_from k names ps = map counted (files_from k names ps)

abbrev entry_at : ℕ → List ℕ → List Piece → FileEntry
entry_at k name ps = record { name = name; messages = length (messages_of k ps); whole = is_whole k ps; ended = is_ended k ps }

same_entry : (name : List ℕ) (k l : ℕ) (a b c d : Bool) → k ≡ l → a ≡ b → c ≡ d
    → (let x : FileEntry = record { name = name; messages = k; whole = a; ended = c } in x) ≡ record { name = name; messages = l; whole = b; ended = d }
same_entry name k l a b c d p q r = λ i. record { name = name; messages = p i; whole = q i; ended = r i }

or_assoc : (a b c : Bool) → (a || b) || c ≡ a || (b || c)
or_assoc true b c = refl
or_assoc false b c = refl

or_false : (b : Bool) → b || false ≡ b
or_false true = refl
or_false false = refl

ended_joined : (file : ℕ) (ps qs : List Piece) → is_ended file (ps ++ qs) ≡ is_ended file ps || is_ended file qs
ended_joined file [] qs = refl
ended_joined file (p ∷ ps) qs =
    ap (λ b. (p.file == file && p.last && p.ended) || b) (ended_joined file ps qs)
    ∙ sym (or_assoc (p.file == file && p.last && p.ended) (is_ended file ps) (is_ended file qs))

-- a file without its last segment did not end
or_left : (a b c d : Bool) → (a && b) || d ≡ false → (e : Bool) → (d ≡ false → e ≡ false) → (a && b && c) || e ≡ false
or_left true true c d is e next = absurd (cc (is))
or_left true false c d is e next = next is
or_left false b c d is e next = next is

not_ended : (file : ℕ) (ps : List Piece) → is_whole file ps ≡ false → is_ended file ps ≡ false
not_ended file [] is = refl
not_ended file (p ∷ ps) is = or_left (p.file == file) p.last p.ended (is_whole file ps) is (is_ended file ps) (not_ended file ps)

and_last : (a b : Bool) → (b ≡ true → a ≡ true) → (true && a && b) || false ≡ b
and_last true true with_last = refl
and_last true false with_last = refl
and_last false true with_last = with_last refl
and_last false false with_last = refl

own_messages : (p : Piece) (file : ℕ) → p.file ≡ file → messages_of file (p ∷ []) ≡ p.messages
own_messages p file same = ap (λ b. (if b then p.messages else []) ++ []) (eq-eqb p.file file same) ∙ append-nil p.messages

own_whole : (p : Piece) (file : ℕ) → p.file ≡ file → is_whole file (p ∷ []) ≡ p.last
own_whole p file same = ap (λ b. (b && p.last) || false) (eq-eqb p.file file same) ∙ or_false p.last

own_ended : (p : Piece) (file : ℕ) → p.file ≡ file → (p.ended ≡ true → p.last ≡ true) → is_ended file (p ∷ []) ≡ p.ended
own_ended p file same with_last = ap (λ b. (b && p.last && p.ended) || false) (eq-eqb p.file file same) ∙ and_last p.last p.ended with_last

other_messages : (p : Piece) (file : ℕ) → p.file ≢ file → messages_of file (p ∷ []) ≡ []
other_messages p file apart = ap (λ b. (if b then p.messages else []) ++ []) (ne_eqb p.file file apart)

other_whole : (p : Piece) (file : ℕ) → p.file ≢ file → is_whole file (p ∷ []) ≡ false
other_whole p file apart = ap (λ b. (b && p.last) || false) (ne_eqb p.file file apart)

other_ended : (p : Piece) (file : ℕ) → p.file ≢ file → is_ended file (p ∷ []) ≡ false
other_ended p file apart = ap (λ b. (b && p.last && p.ended) || false) (ne_eqb p.file file apart)

-- a file with a segment more
abbrev pub with_piece : FileEntry → ℕ → Bool → Bool → FileEntry
with_piece f rows last ended = record f { messages = f.messages + rows; whole = last; ended = ended }

own_entry : (p : Piece) (ps : List Piece) (file rows : ℕ) (name : List ℕ) → p.file ≡ file → is_whole file ps ≡ false → (p.ended ≡ true → p.last ≡ true) → rows ≡ length p.messages
    → entry_at file name (ps ++ p ∷ []) ≡ with_piece (entry_at file name ps) rows p.last p.ended
own_entry p ps file rows name same goes_on with_last size =
    let joined : messages_of file (ps ++ p ∷ []) ≡ messages_of file ps ++ p.messages =
    messages_joined file ps (p ∷ []) ∙ ap (λ l. messages_of file ps ++ l) (own_messages p file same) in
    same_entry name _ _ _ _ _ _
    (ap length joined ∙ length-append (messages_of file ps) p.messages ∙ ap (λ n. length (messages_of file ps) + n) (sym size))
    (whole_joined file ps (p ∷ []) ∙ ap (λ b. b || is_whole file (p ∷ [])) goes_on ∙ own_whole p file same)
    (ended_joined file ps (p ∷ []) ∙ ap (λ b. b || is_ended file (p ∷ [])) (not_ended file ps goes_on) ∙ own_ended p file same with_last)

other_entry : (p : Piece) (ps : List Piece) (file : ℕ) (name : List ℕ) → p.file ≢ file → entry_at file name (ps ++ p ∷ []) ≡ entry_at file name ps
other_entry p ps file name apart =
    let joined : messages_of file (ps ++ p ∷ []) ≡ messages_of file ps =
    messages_joined file ps (p ∷ []) ∙ ap (λ l. messages_of file ps ++ l) (other_messages p file apart) ∙ append-nil (messages_of file ps) in
    same_entry name _ _ _ _ _ _
    (ap length joined)
    (whole_joined file ps (p ∷ []) ∙ ap (λ b. is_whole file ps || b) (other_whole p file apart) ∙ or_false (is_whole file ps))
    (ended_joined file ps (p ∷ []) ∙ ap (λ b. is_ended file ps || b) (other_ended p file apart) ∙ or_false (is_ended file ps))

other_entries : (k : ℕ) (names : List (List ℕ)) (ps : List Piece) (p : Piece) → p.file < k → entries_from k names (ps ++ p ∷ []) ≡ entries_from k names ps
other_entries k [] ps p below = refl
other_entries k (name ∷ names) ps p below =
    ap₂ (λ (x : FileEntry) (xs : List FileEntry). x ∷ xs) (other_entry p ps k name (λ e. omega (arith, e, below))) (other_entries (k + 1) names ps p (omega (arith, below)))

pub entries_set : (k : ℕ) (names : List (List ℕ)) (ps : List Piece) (p : Piece) (i rows : ℕ) → k + i ≡ p.file → i < length names
    → is_whole p.file ps ≡ false → (p.ended ≡ true → p.last ≡ true) → rows ≡ length p.messages
    → entries_from k names (ps ++ p ∷ []) ≡ set (entries_from k names ps) i (with_piece (get_or (entries_from k names ps) i no_file) rows p.last p.ended)
entries_set k [] ps p i rows at within goes_on with_last size = absurd (omega (arith, within))
entries_set k (name ∷ names) ps p zero rows at within goes_on with_last size =
    let same : p.file ≡ k = omega (arith, at) in
    ap₂ (λ (x : FileEntry) (xs : List FileEntry). x ∷ xs) (own_entry p ps k rows name same (subst (λ f. is_whole f ps ≡ false) same goes_on) with_last size)
    (other_entries (k + 1) names ps p (omega (arith, at)))
entries_set k (name ∷ names) ps p (suc i) rows at within goes_on with_last size =
    ap₂ (λ (x : FileEntry) (xs : List FileEntry). x ∷ xs) (other_entry p ps k name (λ e. omega (arith, e, at)))
    (entries_set (k + 1) names ps p i rows (omega (arith, at)) (omega (arith, within)) goes_on with_last size)

pub entries_get : (k : ℕ) (names : List (List ℕ)) (ps : List Piece) (i : ℕ) → i < length names
    → ((get_or (entries_from k names ps) i no_file).messages ≡ length (messages_of (k + i) ps)) × ((get_or (entries_from k names ps) i no_file).whole ≡ is_whole (k + i) ps)
entries_get k [] ps i within = absurd (omega (arith, within))
entries_get k (name ∷ names) ps zero within =
    let same : k ≡ k + 0 = omega arith in (ap (λ f. length (messages_of f ps)) same, ap (λ f. is_whole f ps) same)
entries_get k (name ∷ names) ps (suc i) within =
    let same : k + 1 + i ≡ k + suc i = omega arith in
    let back = entries_get (k + 1) names ps i (omega (arith, within)) in
    (back.0 ∙ ap (λ f. length (messages_of f ps)) same, back.1 ∙ ap (λ f. is_whole f ps) same)

pub length-entries : (k : ℕ) (names : List (List ℕ)) (ps : List Piece) → length (entries_from k names ps) ≡ length names
length-entries k [] ps = refl
length-entries k (name ∷ names) ps = ap suc (length-entries (k + 1) names ps)

-- ---- names more

entries_joined : (k : ℕ) (names more : List (List ℕ)) (ps : List Piece) → entries_from k (names ++ more) ps ≡ entries_from k names ps ++ entries_from (k + length names) more ps
entries_joined k [] more ps = let same : k ≡ k + 0 = omega arith in ap (λ l. entries_from l more ps) same
entries_joined k (name ∷ names) more ps =
    let same : k + 1 + length names ≡ k + suc (length names) = omega arith in
    ap (λ (xs : List FileEntry). entry_at k name ps ∷ xs) (entries_joined (k + 1) names more ps ∙ ap (λ l. entries_from (k + 1) names ps ++ entries_from l more ps) same)

none_here : (count file : ℕ) (ps : List Piece) → AreBelow count ps → count ≤ file → (messages_of file ps ≡ []) × (is_whole file ps ≡ false)
none_here count file [] below past = (refl, refl)
none_here count file (p ∷ ps) below past =
    let rest = none_here count file ps below.1 past in
    let test : p.file == file ≡ false = ne_eqb p.file file (λ e. omega (arith, e, below.0, past)) in (
      ap₂ (λ b l. (if b then p.messages else []) ++ l) test rest.0,
      ap₂ (λ b c. (b && p.last) || c) test rest.1,
    )

empty_entries : (count k : ℕ) (more : List (List ℕ)) (ps : List Piece) → AreBelow count ps → count ≤ k → entries_from k more ps ≡ map new_file more
empty_entries count k [] ps below past = refl
empty_entries count k (name ∷ more) ps below past =
    let none = none_here count k ps below past in
    ap₂ (λ (x : FileEntry) (xs : List FileEntry). x ∷ xs) (same_entry name _ _ _ _ _ _ (ap length none.0) none.1 (not_ended k ps none.1))
    (empty_entries count (k + 1) more ps below (omega (arith, past)))

pub entries_named : (names more : List (List ℕ)) (ps : List Piece) → AreBelow (length names) ps
    → entries_from 0 (names ++ more) ps ≡ entries_from 0 names ps ++ map new_file more
entries_named names more ps below =
    entries_joined 0 names more ps ∙ ap (λ l. entries_from 0 names ps ++ l) (empty_entries (length names) (0 + length names) more ps below (omega arith))
