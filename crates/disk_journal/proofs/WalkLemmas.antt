-- What was read at a gate says of the bytes of a disk, and how a walk along the records goes on.
use Rattle.std.proofs.Common.{◌≡◌, ◌≢◌, ◌⊎◌, inl, inr, ℕ, ◌+◌, ◌-◌, ◌^◌, ◌<◌, ◌≤◌, List, [], ◌∷◌, ◌++◌, length, take, drop, get_or, Option, Some, None, refl, sym, ◌∙◌, ap, subst, arith, length-append, length-drop, length-take, take-append-drop}
use Rattle.std.specs.Int.{w64, to_le_bytes, from_le_bytes}
use Rattle.std.proofs.lemmas.List.{append-nil, append_assoc, drop_at, drop_more, take_all, drop-drop, drop-take, get_or-take, get_or-drop, length-take-le}
use Rattle.std.proofs.lemmas.Bool.{cases_eq}
use Rattle.std.specs.Prelude.{IfSome}
use Rattle.log_seams.specs.Disk.{Gave, Only, NoMore}
use Rattle.record_format.specs.Header.{header_bytes}
use Rattle.record_format.specs.declared.header.Header.{Header}
use Rattle.disk_journal.specs.Record.{Saved, body, spelled, Stands, payload_len, records, Fits, AllFit}
use Rattle.disk_journal.specs.Place.{HasWalked, Walked, IsSettled, AtEnd, NoHeader, IsDamaged, HasClosedGate, ClosedAt, HasRecord, OpenAt, Passed}
use Rattle.disk_journal.proofs.SpellingLemmas.{length-body, spelled-push, records-spelled, fit_push}

-- fewer bytes than a header has were read, so the disk has none
pub short_header : (told : Option (List ℕ)) (n : ℕ) (old new : List ℕ) → Gave told 0 n old new → length old ≡ 32 → n < 32 → ((h : Header) → length (header_bytes h) ≡ 32) → NoHeader told
short_header None n old new gave size short long = tt
short_header (Some bytes) n old new gave size short long =
    λ h legal same. let count = gave.all in absurd (omega (arith, ap (λ (l : List ℕ). length l) same, long h, length-take 32 bytes))

-- the walk begins behind the header that was read
pub walk_begins : (told : Option (List ℕ)) (n : ℕ) (old new : List ℕ) (h : Header) → Gave told 0 n old new → length old ≡ 32 → length new ≡ 32 → 32 ≤ n → new ≡ header_bytes h → Walked (header_bytes h) 32 0 told
walk_begins None n old new h gave size long enough same = tt
walk_begins (Some bytes) n old new h gave size long enough same =
    let count = gave.all in
    let all : n ≡ 32 = omega arith in
    let front : header_bytes h ≡ take 32 bytes =
    sym same ∙ sym (take_all 32 new (omega arith)) ∙ subst (λ (k : ℕ). take k new ≡ take k (drop 0 bytes)) all gave.these in
    let size_head : length (header_bytes h) ≡ 32 = sym (ap (λ (l : List ℕ). length l) same) ∙ long in
    record {
      header = size_head;
      rest = drop 32 bytes;
      spells = sym (take-append-drop 32 bytes) ∙ ap (λ (l : List ℕ). l ++ drop 32 bytes) (sym front ∙ sym (append-nil (header_bytes h)));
      at = sym size_head ∙ ap (λ (l : List ℕ). length l) (sym (append-nil (header_bytes h)));
      counted = refl;
      fit = tt;
    }

-- the records are those that the bytes spell behind the head
pub records_of : (head : List ℕ) (ss : List Saved) (bytes rest : List ℕ) → length head ≡ 32 → bytes ≡ head ++ spelled ss ++ rest → AllFit ss → records (length ss) (drop 32 bytes) ≡ ss
records_of head ss bytes rest long is fit =
    let behind : drop 32 bytes ≡ spelled ss ++ rest = ap (λ (l : List ℕ). drop 32 l) (is ∙ append_assoc head (spelled ss) rest) ∙ drop_at head (spelled ss ++ rest) 32 long in
    ap (λ (l : List ℕ). records (length ss) l) behind ∙ records-spelled ss rest fit

-- a walk that has passed these records
pub walked_by : (head : List ℕ) (ss : List Saved) (place count : ℕ) (bytes rest : List ℕ) → length head ≡ 32 → bytes ≡ head ++ spelled ss ++ rest → place ≡ length (head ++ spelled ss) → count ≡ length ss → AllFit ss
    → HasWalked head place count bytes × (records count (drop 32 bytes) ≡ ss)
walked_by head ss place count bytes rest long is at counts fit =
    let same : records count (drop 32 bytes) ≡ ss = ap (λ (n : ℕ). records n (drop 32 bytes)) counts ∙ records_of head ss bytes rest long is fit in (
      record {
        header = long;
        rest = rest;
        spells = is ∙ ap (λ (l : List Saved). head ++ spelled l ++ rest) (sym same);
        at = at ∙ ap (λ (l : List Saved). length (head ++ spelled l)) (sym same);
        counted = ap (λ (l : List Saved). length l) same ∙ sym counts;
        fit = subst AllFit (sym same) fit;
      },
      same,
    )

-- a journal at its end that stands for these records
pub settled_by : (head : List ℕ) (ss : List Saved) (place count : ℕ) (bytes : List ℕ) (images : List ℕ → Type 0) → length head ≡ 32 → Stands head ss bytes → place ≡ length (head ++ spelled ss) → count ≡ length ss → AllFit ss
    → ((c : List ℕ) → images c → c ≡ bytes) → IsSettled head place count images bytes × (records count (drop 32 bytes) ≡ ss)
settled_by head ss place count bytes images long stands at counts fit only =
    let same : records count (drop 32 bytes) ≡ ss =
    ap (λ (n : ℕ). records n (drop 32 bytes)) counts ∙ records_of head ss bytes (stands.gate ∷ stands.rest) long stands.spells fit in (
      record {
        header = long;
        stands = subst (λ (l : List Saved). Stands head l bytes) (sym same) stands;
        at = at ∙ ap (λ (l : List Saved). length (head ++ spelled l)) (sym same);
        counted = ap (λ (l : List Saved). length l) same ∙ sym counts;
        fit = subst AllFit (sym same) fit;
        only = only;
      },
      same,
    )

body_is : (kind n : ℕ) (payload : List ℕ) → length payload ≡ n → body (record { kind = kind; payload = payload }) ≡ kind ∷ to_le_bytes w64 n ++ payload
unfolding body
body_is kind n payload long = ap (λ (k : ℕ). kind ∷ to_le_bytes w64 k ++ payload) long

-- where so many bytes were read at a place
module _ (bytes old front : List ℕ) (at n : ℕ) (gave : Gave (Some bytes) at n old front) (ten : length old ≡ 10) where
  at_zero : at + 0 ≡ at
  at_zero = omega arith

  first_byte : 0 < n → get_or bytes at 0 ≡ get_or front 0 0
  first_byte some =
      ap (λ (k : ℕ). get_or bytes k 0) (sym at_zero)
      ∙ sym (get_or-drop at bytes 0 0)
      ∙ sym (get_or-take n (drop at bytes) 0 0 some)
      ∙ ap (λ (l : List ℕ). get_or l 0 0) (sym gave.these)
      ∙ get_or-take n front 0 0 some

  there : 0 < n → at < length bytes
  there some = let count = gave.all in omega arith

  pub closed_there : 0 < n → get_or front 0 0 ≢ 1 → HasClosedGate at bytes
  closed_there some shut = record { there = there some; shut = λ one. shut (sym (first_byte some) ∙ one) }

  -- all ten were read
  whole_front : n ≡ 10 → length front ≡ 10 → front ≡ take 10 (drop at bytes)
  whole_front all size = sym (take_all 10 front (omega arith)) ∙ subst (λ (k : ℕ). take k front ≡ take k (drop at bytes)) all gave.these

  length_there : n ≡ 10 → length front ≡ 10 → payload_len (drop at bytes) ≡ from_le_bytes w64 (drop 2 front)
  length_there all size =
      ap (λ (l : List ℕ). from_le_bytes w64 l) (sym (drop-take 2 8 (drop at bytes)) ∙ ap (λ (l : List ℕ). drop 2 l) (sym (whole_front all size)))

  pub damaged_short : 0 < n → get_or front 0 0 ≡ 1 → n ≢ 10 → IsDamaged at (Some bytes)
  damaged_short some opened few = let count = gave.all in inr (first_byte some ∙ opened, omega arith)

  pub damaged_long : 0 < n → get_or front 0 0 ≡ 1 → n ≡ 10 → length front ≡ 10 → length bytes < at + (10 + from_le_bytes w64 (drop 2 front)) → IsDamaged at (Some bytes)
  damaged_long some opened all size past = inr (first_byte some ∙ opened, omega (arith, length_there all size))

  front_parts : length front ≡ 10 → get_or front 0 0 ≡ 1 → front ≡ 1 ∷ get_or front 1 0 ∷ drop 2 front
  front_parts size opened =
      drop_more front 0 0 (omega arith)
      ∙ ap (λ (g : ℕ). g ∷ drop 1 front) opened
      ∙ ap (λ (l : List ℕ). 1 ∷ l) (drop_more front 1 0 (omega arith))

  pub record_there : n ≡ 10 → length front ≡ 10 → get_or front 0 0 ≡ 1 → (len : ℕ) → to_le_bytes w64 len ≡ drop 2 front → len < 2 ^ 64
      → at + (10 + len) ≤ length bytes → HasRecord at (get_or front 1 0) len bytes
  record_there all size opened len spelled_len fits within =
      let kind = get_or front 1 0 in
      let payload = take len (drop (at + 10) bytes) in
      let tail = drop (at + 10 + len) bytes in
      let split : drop at bytes ≡ front ++ drop 10 (drop at bytes) =
      sym (take-append-drop 10 (drop at bytes)) ∙ ap (λ (l : List ℕ). l ++ drop 10 (drop at bytes)) (sym (whole_front all size)) in
      let parts : front ≡ 1 ∷ kind ∷ to_le_bytes w64 len = front_parts size opened ∙ ap (λ (l : List ℕ). 1 ∷ kind ∷ l) (sym spelled_len) in
      let tails : drop 10 (drop at bytes) ≡ payload ++ tail =
      drop-drop 10 at bytes ∙ sym (take-append-drop len (drop (at + 10) bytes)) ∙ ap (λ (l : List ℕ). payload ++ l) (drop-drop len (at + 10) bytes) in
      let long : length payload ≡ len = length-take-le len (drop (at + 10) bytes) (omega (arith, length-drop (at + 10) bytes)) in
      record {
        within = omega arith;
        fits = fits;
        spells =
            split
            ∙ ap (λ (l : List ℕ). l ++ drop 10 (drop at bytes)) parts
            ∙ ap (λ (l : List ℕ). 1 ∷ kind ∷ to_le_bytes w64 len ++ l) tails
            ∙ sym (append_assoc (1 ∷ kind ∷ to_le_bytes w64 len) payload tail)
            ∙ ap (λ (l : List ℕ). 1 ∷ l ++ tail) (sym (body_is kind len payload long));
      }

-- the same, told of a disk that may not tell its bytes
pub nothing_there : (told : Option (List ℕ)) (at len : ℕ) → IfSome told (λ bytes. len ≡ length bytes) → len ≤ at → IsDamaged at told
nothing_there None at len told_len past = tt
nothing_there (Some bytes) at len told_len past = inl (omega arith)

pub nothing_read : (told : Option (List ℕ)) (at len n : ℕ) (old front : List ℕ) → IfSome told (λ bytes. len ≡ length bytes) → at < len → Gave told at n old front → length old ≡ 10 → n ≡ 0 → IsDamaged at told
nothing_read None at len n old front told_len before gave ten none = tt
nothing_read (Some bytes) at len n old front told_len before gave ten none = let count = gave.all in absurd (omega arith)

pub closed_read : (told : Option (List ℕ)) (at n : ℕ) (old front : List ℕ) → Gave told at n old front → length old ≡ 10 → n ≢ 0 → get_or front 0 0 ≢ 1 → ClosedAt at told
closed_read None at n old front gave ten some shut = tt
closed_read (Some bytes) at n old front gave ten some shut = closed_there bytes old front at n gave ten (omega arith) shut

pub damage_read : (told : Option (List ℕ)) (at len n : ℕ) (old front : List ℕ) → IfSome told (λ bytes. len ≡ length bytes) → at < len → Gave told at n old front → length old ≡ 10 → length front ≡ 10 → n ≢ 0 → get_or front 0 0 ≡ 1
    → (n ≢ 10) ⊎ (len - at < 10 + from_le_bytes w64 (drop 2 front)) → IsDamaged at told
damage_read None at len n old front told_len before gave ten size some opened why = tt
damage_read (Some bytes) at len n old front told_len before gave ten size some opened (inl few) = damaged_short bytes old front at n gave ten (omega arith) opened few
damage_read (Some bytes) at len n old front told_len before gave ten size some opened (inr past) = elim (cases_eq n 10) [
  | inl all ↦ damaged_long bytes old front at n gave ten (omega arith) opened all size (omega arith)
  | inr few ↦ damaged_short bytes old front at n gave ten (omega arith) opened few
]

pub record_read : (told : Option (List ℕ)) (at len n : ℕ) (old front : List ℕ) → IfSome told (λ bytes. len ≡ length bytes) → at < len → Gave told at n old front → length old ≡ 10 → length front ≡ 10
    → get_or front 0 0 ≡ 1 → n ≡ 10 → (m : ℕ) → to_le_bytes w64 m ≡ drop 2 front → m < 2 ^ 64 → 10 + m ≤ len - at → OpenAt at (get_or front 1 0) m told
record_read None at len n old front told_len before gave ten size opened all m spells fits within = tt
record_read (Some bytes) at len n old front told_len before gave ten size opened all m spells fits within =
    record_there bytes old front at n gave ten all size opened m spells fits (omega arith)

-- behind what was walked stands what follows its place
walked_rest : (head : List ℕ) (place count : ℕ) (bytes : List ℕ) (w : HasWalked head place count bytes) → drop place bytes ≡ w.rest
walked_rest head place count bytes w =
    ap (λ (l : List ℕ). drop place l) w.spells ∙ drop_at (head ++ spelled (records count (drop 32 bytes))) w.rest place (sym w.at)

-- one record more
walk_on : (head : List ℕ) (place count kind len : ℕ) (bytes : List ℕ) → HasWalked head place count bytes → HasRecord place kind len bytes
    → HasWalked head (place + 10 + len) (count + 1) bytes × Passed (Some bytes) count kind (place + 10) len
walk_on head place count kind len bytes w r =
    let rs = records count (drop 32 bytes) in
    let new : Saved = record { kind = kind; payload = take len (drop (place + 10) bytes) } in
    let tail = drop (place + 10 + len) bytes in
    let within = r.within in
    let long : length new.payload ≡ len = length-take-le len (drop (place + 10) bytes) (omega (arith, length-drop (place + 10) bytes)) in
    let rest : w.rest ≡ 1 ∷ body new ++ tail = sym (walked_rest head place count bytes w) ∙ r.spells in
    let base : head ++ spelled rs ++ 1 ∷ body new ≡ head ++ spelled (rs ++ new ∷ []) =
    append_assoc head (spelled rs) (1 ∷ body new) ∙ ap (λ (l : List ℕ). head ++ l) (sym (spelled-push rs new)) in
    let spells : bytes ≡ head ++ spelled (rs ++ new ∷ []) ++ tail =
    w.spells ∙ ap (λ (l : List ℕ). head ++ spelled rs ++ l) rest ∙ sym (append_assoc (head ++ spelled rs) (1 ∷ body new) tail) ∙ ap (λ (l : List ℕ). l ++ tail) base in
    let size : length (head ++ spelled (rs ++ new ∷ [])) ≡ place + 10 + len =
    ap (λ (l : List ℕ). length l) (sym base) ∙ omega (arith, w.at, long, length-append (head ++ spelled rs) (1 ∷ body new), length-body new) in
    let fits : Fits new = subst (λ (k : ℕ). k < 2 ^ 64) (sym long) r.fits in
    let both = walked_by head (rs ++ new ∷ []) (place + 10 + len) (count + 1) bytes tail w.header spells (sym size)
    (omega (arith, w.counted, length-append rs (new ∷ []))) (fit_push rs new w.fit fits) in
    (both.0, (omega arith, both.1))

pub walked_on : (head : List ℕ) (place count kind len : ℕ) (told : Option (List ℕ)) → Walked head place count told → OpenAt place kind len told → Walked head (place + 10 + len) (count + 1) told
walked_on head place count kind len None w r = tt
walked_on head place count kind len (Some bytes) w r = (walk_on head place count kind len bytes w r).0

pub passed : (head : List ℕ) (place count kind len : ℕ) (told : Option (List ℕ)) → Walked head place count told → OpenAt place kind len told → Passed told count kind (place + 10) len
passed head place count kind len None w r = tt
passed head place count kind len (Some bytes) w r = (walk_on head place count kind len bytes w r).1

-- a walk that has come to a closed gate is at the end
pub walk_ends : (head : List ℕ) (place count : ℕ) (told : Option (List ℕ)) (images : List ℕ → Type 0) → Walked head place count told → ClosedAt place told → Only told images → AtEnd head place count told images
walk_ends head place count None images w closed only = tt
walk_ends head place count (Some bytes) images w closed only = record {
  header = w.header;
  stands = record {
    gate = get_or bytes place 0;
    rest = drop (place + 1) bytes;
    spells = w.spells ∙ ap (λ (l : List ℕ). head ++ spelled (records count (drop 32 bytes)) ++ l) (sym (walked_rest head place count bytes w) ∙ drop_more bytes place 0 closed.there);
    closed = closed.shut;
  };
  at = w.at;
  counted = w.counted;
  fit = w.fit;
  only = only;
}

-- a journal at its end stays there while the bytes stay and a crash leaves no more
pub end_stays : (head : List ℕ) (place count : ℕ) (told : Option (List ℕ)) (old new : List ℕ → Type 0) → NoMore old new → AtEnd head place count told old → AtEnd head place count told new
end_stays head place count None old new less end = tt
end_stays head place count (Some bytes) old new less end = record {
  header = end.header;
  stands = end.stands;
  at = end.at;
  counted = end.counted;
  fit = end.fit;
  only = λ c left. end.only c (less c left);
}
