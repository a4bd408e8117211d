-- How the bytes of a journal begin, go on and are read back.
use Rattle.std.proofs.Common.{◌≡◌, ◌≢◌, inl, inr, ℕ, suc, ◌+◌, ◌-◌, ◌<◌, ◌≤◌, List, [], ◌∷◌, ◌++◌, length, take, drop, get_or, refl, sym, ◌∙◌, ap, arith, length-append, take-append-drop}
use Rattle.std.specs.Int.{w64, to_le_bytes}
use Rattle.std.proofs.lemmas.List.{append-nil, append_assoc, append_cancel_left, take_at, drop_at, drop_more}
use Rattle.std.proofs.lemmas.Nat.{from_le_bytes-to_le_bytes_8}
use Rattle.std.proofs.lemmas.Bool.{cases_eq}
use Rattle.log_seams.specs.Disk.{laid, Torn}
use Rattle.disk_journal.specs.Record.{Saved, body, frame_of, spelled, Stands, WithOrWithout, payload_len, first_of, records, Fits, AllFit, saved_of, IsFrame}

pub length-body : (r : Saved) → length (body r) ≡ 9 + length r.payload
unfolding body
length-body r = length-append (r.kind ∷ to_le_bytes w64 (length r.payload)) r.payload

pub length-frame : (r : Saved) → length (frame_of r) ≡ 10 + length r.payload
length-frame r = omega (arith, length-append (body r) (0 ∷ []), length-body r)

pub spelled-push : (rs : List Saved) (r : Saved) → spelled (rs ++ r ∷ []) ≡ spelled rs ++ 1 ∷ body r
spelled-push [] r = append-nil (1 ∷ body r)
spelled-push (q ∷ rs) r =
    ap (λ (l : List ℕ). 1 ∷ body q ++ l) (spelled-push rs r) ∙ sym (append_assoc (1 ∷ body q) (spelled rs) (1 ∷ body r))

-- the record behind a gate is read back
pub payload_len-body : (r : Saved) (rest : List ℕ) → Fits r → payload_len (1 ∷ body r ++ rest) ≡ length r.payload
unfolding body
payload_len-body r rest fits = from_le_bytes-to_le_bytes_8 (length r.payload) fits

payload-body : (r : Saved) (rest : List ℕ) → drop 10 (1 ∷ body r ++ rest) ≡ r.payload ++ rest
unfolding body
payload-body r rest = refl

kind-body : (r : Saved) (rest : List ℕ) → get_or (1 ∷ body r ++ rest) 1 0 ≡ r.kind
unfolding body
kind-body r rest = refl

pub first_of-body : (r : Saved) (rest : List ℕ) → Fits r → first_of (1 ∷ body r ++ rest) ≡ r
first_of-body r rest fits =
    let long = payload_len-body r rest fits in
    let payload : take (payload_len (1 ∷ body r ++ rest)) (drop 10 (1 ∷ body r ++ rest)) ≡ r.payload =
    ap (λ (l : List ℕ). take (payload_len (1 ∷ body r ++ rest)) l) (payload-body r rest) ∙ take_at r.payload rest _ (sym long) in
    λ i. record { kind = kind-body r rest i; payload = payload i }

behind-body : (r : Saved) (rest : List ℕ) → Fits r → drop (10 + payload_len (1 ∷ body r ++ rest)) (1 ∷ body r ++ rest) ≡ rest
behind-body r rest fits = drop_at (1 ∷ body r) rest _ (omega (arith, length-body r, payload_len-body r rest fits))

pub records-spelled : (rs : List Saved) (rest : List ℕ) → AllFit rs → records (length rs) (spelled rs ++ rest) ≡ rs
records-spelled [] rest fit = refl
records-spelled (r ∷ rs) rest fit =
    let apart : spelled (r ∷ rs) ++ rest ≡ 1 ∷ body r ++ (spelled rs ++ rest) = append_assoc (1 ∷ body r) (spelled rs) rest in
    ap (λ (l : List ℕ). records (suc (length rs)) l) apart
    ∙ ap (λ (q : Saved). q ∷ records (length rs) (drop (10 + payload_len (1 ∷ body r ++ (spelled rs ++ rest))) (1 ∷ body r ++ (spelled rs ++ rest)))) (first_of-body r (spelled rs ++ rest) fit.0)
    ∙ ap (λ (l : List ℕ). r ∷ records (length rs) l) (behind-body r (spelled rs ++ rest) fit.0)
    ∙ ap (λ (l : List Saved). r ∷ l) (records-spelled rs rest fit.1)

-- where the bytes are a base and a gate, and the gate stands at a place
module _ (base bytes rest : List ℕ) (gate place : ℕ) (is : bytes ≡ base ++ gate ∷ rest) (at : place ≡ length base) where
  with_gate : bytes ≡ base ++ gate ∷ [] ++ rest
  with_gate = is ∙ sym (append_assoc base (gate ∷ []) rest)

  size : length (base ++ gate ∷ []) ≡ place + 1
  size = omega (arith, length-append base (gate ∷ []))

  pub front : take place bytes ≡ base
  front = ap (λ (l : List ℕ). take place l) is ∙ take_at base (gate ∷ rest) place (sym at)

  pub to_gate : take (place + 1) bytes ≡ base ++ gate ∷ []
  to_gate = ap (λ (l : List ℕ). take (place + 1) l) with_gate ∙ take_at (base ++ gate ∷ []) rest (place + 1) size

  pub behind : drop (place + 1) bytes ≡ rest
  behind = ap (λ (l : List ℕ). drop (place + 1) l) with_gate ∙ drop_at (base ++ gate ∷ []) rest (place + 1) size

  pub longer : place < length bytes
  longer = omega (arith, ap (λ (l : List ℕ). length l) is, length-append base (gate ∷ rest))

  pub laid_behind : (text : List ℕ) → laid (place + 1) text bytes ≡ base ++ gate ∷ (text ++ drop (place + 1 + length text) bytes)
  laid_behind text =
      ap (λ (l : List ℕ). l ++ text ++ drop (place + 1 + length text) bytes) to_gate
      ∙ append_assoc (base ++ gate ∷ []) text (drop (place + 1 + length text) bytes)
      ∙ append_assoc base (gate ∷ []) (text ++ drop (place + 1 + length text) bytes)

  pub laid_byte : (byte : ℕ) → laid place (byte ∷ []) bytes ≡ base ++ byte ∷ rest
  laid_byte byte =
      ap (λ (l : List ℕ). l ++ byte ∷ [] ++ drop (place + 1) bytes) front
      ∙ ap (λ (l : List ℕ). base ++ byte ∷ [] ++ l) behind
      ∙ append_assoc base (byte ∷ []) rest

  -- a write behind the gate that a crash cuts short leaves it
  pub torn_past : (n : ℕ) (c : List ℕ) → Torn (place + 1) n bytes c → c ≡ base ++ gate ∷ drop (place + 1) c
  torn_past n c torn =
      sym (take-append-drop (place + 1) c)
      ∙ ap (λ (l : List ℕ). l ++ drop (place + 1) c) (torn.before ∙ to_gate)
      ∙ append_assoc base (gate ∷ []) (drop (place + 1) c)

  -- a write of the gate that a crash cuts short leaves some gate
  pub torn_at : (c : List ℕ) → Torn place 1 bytes c → c ≡ base ++ get_or c place 0 ∷ rest
  torn_at c torn =
      let rest_same : drop (place + 1) c ≡ rest = torn.after ∙ behind in
      let tail : drop place c ≡ get_or c place 0 ∷ rest = drop_more c place 0 (omega (arith, torn.no_shorter, longer)) ∙ ap (λ (l : List ℕ). get_or c place 0 ∷ l) rest_same in
      sym (take-append-drop place c) ∙ ap (λ (l : List ℕ). l ++ drop place c) (torn.before ∙ front) ∙ ap (λ (l : List ℕ). base ++ l) tail

pub stands_more : (head : List ℕ) (rs : List Saved) (r : Saved) (after c : List ℕ) → c ≡ head ++ spelled rs ++ 1 ∷ (frame_of r ++ after) → Stands head (rs ++ r ∷ []) c
stands_more head rs r after c is = record {
  gate = 0;
  rest = after;
  spells = is ∙ same;
  closed = λ none. omega arith;
}
  where
    same : head ++ spelled rs ++ 1 ∷ (frame_of r ++ after) ≡ head ++ spelled (rs ++ r ∷ []) ++ 0 ∷ after
    same =
        ap (λ (l : List ℕ). head ++ spelled rs ++ 1 ∷ l) (append_assoc (body r) (0 ∷ []) after)
        ∙ sym (append_assoc (head ++ spelled rs) (1 ∷ body r) (0 ∷ after))
        ∙ ap (λ (l : List ℕ). l ++ 0 ∷ after) (append_assoc head (spelled rs) (1 ∷ body r) ∙ ap (λ (l : List ℕ). head ++ l) (sym (spelled-push rs r)))

-- the write of the record leaves the records as they were
pub torn_behind : (head : List ℕ) (rs : List Saved) (bytes c : List ℕ) (place n : ℕ) → Stands head rs bytes → place ≡ length (head ++ spelled rs) → Torn (place + 1) n bytes c → Stands head rs c
torn_behind head rs bytes c place n stands at torn = record {
  gate = stands.gate;
  rest = drop (place + 1) c;
  spells = torn_past (head ++ spelled rs) bytes stands.rest stands.gate place stands.spells at n c torn;
  closed = stands.closed;
}

-- the write of the gate leaves the records as they were, or with the new one
pub torn_gate : (head : List ℕ) (rs : List Saved) (r : Saved) (bytes after c : List ℕ) (gate place : ℕ) → bytes ≡ head ++ spelled rs ++ gate ∷ (frame_of r ++ after) → place ≡ length (head ++ spelled rs)
    → Torn place 1 bytes c → WithOrWithout head rs r c
torn_gate head rs r bytes after c gate place is at torn =
    let whole = torn_at (head ++ spelled rs) bytes (frame_of r ++ after) gate place is at c torn in
    elim (cases_eq (get_or c place 0) 1) [
      | inl opened ↦ inr (stands_more head rs r after c (whole ∙ ap (λ (g : ℕ). head ++ spelled rs ++ g ∷ (frame_of r ++ after)) opened))
      | inr shut ↦ inl record { gate = get_or c place 0; rest = frame_of r ++ after; spells = whole; closed = shut }
    ]

-- bytes stand for one list of records alone
same_records : (rs ss : List Saved) (g h : ℕ) (us vs : List ℕ) → AllFit rs → AllFit ss → g ≢ 1 → h ≢ 1 → spelled rs ++ g ∷ us ≡ spelled ss ++ h ∷ vs → rs ≡ ss
same_records [] [] g h us vs fit_rs fit_ss shut_g shut_h is = refl
same_records [] (s ∷ ss) g h us vs fit_rs fit_ss shut_g shut_h is = let opened : g ≡ 1 = cc in absurd (shut_g opened)
same_records (r ∷ rs) [] g h us vs fit_rs fit_ss shut_g shut_h is = let opened : h ≡ 1 = cc in absurd (shut_h opened)
same_records (r ∷ rs) (s ∷ ss) g h us vs fit_rs fit_ss shut_g shut_h is =
    let both : 1 ∷ body r ++ (spelled rs ++ g ∷ us) ≡ 1 ∷ body s ++ (spelled ss ++ h ∷ vs) =
    sym (append_assoc (1 ∷ body r) (spelled rs) (g ∷ us)) ∙ is ∙ append_assoc (1 ∷ body s) (spelled ss) (h ∷ vs) in
    let first : r ≡ s = sym (first_of-body r _ fit_rs.0) ∙ ap first_of both ∙ first_of-body s _ fit_ss.0 in
    let rest : spelled rs ++ g ∷ us ≡ spelled ss ++ h ∷ vs =
    sym (behind-body r _ fit_rs.0) ∙ ap (λ (l : List ℕ). drop (10 + payload_len l) l) both ∙ behind-body s _ fit_ss.0 in
    let others = same_records rs ss g h us vs fit_rs.1 fit_ss.1 shut_g shut_h rest in
    ap (λ (q : Saved). q ∷ rs) first ∙ ap (λ (l : List Saved). s ∷ l) others

pub stands_one : (head : List ℕ) (rs ss : List Saved) (bytes : List ℕ) → Stands head rs bytes → Stands head ss bytes → AllFit rs → AllFit ss → rs ≡ ss
stands_one head rs ss bytes one two fit_rs fit_ss =
    same_records rs ss one.gate two.gate one.rest two.rest fit_rs fit_ss one.closed two.closed
    (append_cancel_left head _ _ (sym (append_assoc head (spelled rs) (one.gate ∷ one.rest)) ∙ sym one.spells ∙ two.spells ∙ append_assoc head (spelled ss) (two.gate ∷ two.rest)))

-- the record of a framed text
kind-frame : (r : Saved) → get_or (frame_of r) 0 0 ≡ r.kind
unfolding body
kind-frame r = refl

tail-frame : (r : Saved) → drop 9 (frame_of r) ≡ r.payload ++ 0 ∷ []
unfolding body
tail-frame r = refl

pub saved_of-frame : (r : Saved) → saved_of (frame_of r) ≡ r
saved_of-frame r =
    let payload : take (length (frame_of r) - 10) (drop 9 (frame_of r)) ≡ r.payload =
    ap (λ (l : List ℕ). take (length (frame_of r) - 10) l) (tail-frame r) ∙ take_at r.payload (0 ∷ []) _ (omega (arith, length-frame r)) in
    λ i. record { kind = kind-frame r i; payload = payload i }

pub framed : (kind : ℕ) (payload text : List ℕ) → text ≡ kind ∷ to_le_bytes w64 (length payload) ++ payload ++ 0 ∷ [] → IsFrame text
unfolding body
framed kind payload text is =
    let r : Saved = record { kind = kind; payload = payload } in
    let whole : text ≡ frame_of r = is in
    whole ∙ ap frame_of (sym (ap saved_of whole ∙ saved_of-frame r))

pub length-framed : (text : List ℕ) → IsFrame text → 10 ≤ length text
length-framed text is = omega (arith, ap (λ (l : List ℕ). length l) is, length-frame (saved_of text))

-- appending keeps each length within its eight bytes, and adds one
pub fit_push : (rs : List Saved) (r : Saved) → AllFit rs → Fits r → AllFit (rs ++ r ∷ [])
fit_push [] r fit one = (one, tt)
fit_push (q ∷ rs) r fit one = (fit.0, fit_push rs r fit.1 one)
