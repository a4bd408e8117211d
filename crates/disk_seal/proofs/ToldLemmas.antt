-- What is told of entries, and how it goes on.
use Rattle.std.proofs.Common.{◌≡◌, ⊎_elim, ℕ, zero, suc, ◌+◌, ◌≤◌, List, [], ◌∷◌, ◌++◌, Bool, true, false, length, map, take, drop, refl, sym, ap, ◌∙◌, subst, Some, None, Option, arith, append-nil, append_assoc, length-append}
use Rattle.std.specs.Prelude.{is_some, IfSome}
use Rattle.std.proofs.lemmas.List.{length-map, map-append, take_at, take-append-drop, length-take-le}
use Rattle.record_format.specs.declared.header.Header.{Header}
use Rattle.record_format.specs.Header.{header_bytes}
use Rattle.disk_journal.specs.Record.{Saved, Stands, records, payload_len, spelled, body}
use Rattle.disk_journal.specs.Place.{entries, Added, AtEnd, BeforeOrAfter}
use Rattle.disk_journal.proofs.SpellingLemmas.{spelled-push}
use Rattle.disk_journal.proofs.WalkLemmas.{records_of as records_read}
use Rattle.archive_meaning.specs.declared.entry.JournalEntry.{JournalEntry}
use Rattle.archive_meaning.specs.Spelled.{record_of, records_from, records_of, types_in, types_of}
use Rattle.archive_meaning.proofs.UniqueLemmas.{records_joined}
use Rattle.disk_seal.specs.declared.entry.StoreEntry.TheVariants.{Entry, Blank}
use Rattle.disk_seal.specs.Told.{IfTold, entry_of, journal_in, blanks, recorded, entry_for}
use Rattle.disk_seal.specs.View.{HasFirst}

pub told_map : {P Q : Type 0} (b : Bool) → (P → Q) → IfTold b P → IfTold b Q
told_map false f p = tt
told_map true f p = f p

pub told_both : {P Q R : Type 0} (b : Bool) → (P → Q → R) → IfTold b P → IfTold b Q → IfTold b R
told_both false f p q = tt
told_both true f p q = f p q

-- ---- lengths

pub length-records : (n : ℕ) (bytes : List ℕ) → length (records n bytes) ≡ n
length-records zero bytes = refl
length-records (suc n) bytes = omega (arith, length-records n (drop (10 + payload_len bytes) bytes))

length-blanks : (n : ℕ) → length (blanks n) ≡ n
length-blanks zero = refl
length-blanks (suc n) = omega (arith, length-blanks n)

pub length-recorded : (told : Option (List ℕ)) (n : ℕ) → length (recorded told n) ≡ n
length-recorded None n = length-blanks n
length-recorded (Some bytes) n = length-map (journal_in (Some bytes) n) (λ (e : JournalEntry). Entry e) ∙ (length-map (entries (Some bytes) n) entry_of ∙ length-records n (drop 32 bytes))

pub length-records_from : (types : List (List ℕ)) (es : List JournalEntry) → length (records_from types es) ≡ length es
length-records_from types [] = refl
length-records_from types (e ∷ es) = omega (arith, length-records_from (types ++ types_in e) es)

-- ---- one entry more

pub records_more : (es : List JournalEntry) (e : JournalEntry) → records_of (es ++ e ∷ []) ≡ records_of es ++ record_of (types_of es) e ∷ []
records_more es e = records_joined [] es (e ∷ [])

-- where the record r was added behind the records told so far
module _ (r : Saved) where
  pub entries_more : (told now : Option (List ℕ)) (n m : ℕ) → Added told n (r ∷ []) now m → IfTold (is_some told) (entries now m ≡ entries told n ++ r ∷ [])
  entries_more None now n m added = tt
  entries_more (Some bytes) now n m added = added

  pub journal_more : (told now : Option (List ℕ)) (n m : ℕ) → Added told n (r ∷ []) now m → IfTold (is_some told) (journal_in now m ≡ journal_in told n ++ entry_of r ∷ [])
  journal_more told now n m added = told_map (is_some told) (λ more. ap (map entry_of) more ∙ map-append entry_of (entries told n) (r ∷ [])) (entries_more told now n m added)

  pub spelled_more : (told now : Option (List ℕ)) (n m : ℕ) → is_some now ≡ is_some told → Added told n (r ∷ []) now m → entries told n ≡ records_of (journal_in told n)
      → IfTold (is_some told) (record_of (types_of (journal_in told n)) (entry_of r) ≡ r) → entries now m ≡ records_of (journal_in now m)
  spelled_more None None n m tells added spells form = refl
  spelled_more None (Some now) n m tells added spells form = absurd (cc (tells))
  spelled_more (Some bytes) None n m tells added spells form = absurd (cc (tells))
  spelled_more (Some bytes) (Some now) n m tells added spells form =
      let J = journal_in (Some bytes) n in
      added ∙ (ap (λ l. l ++ r ∷ []) spells ∙ (ap (λ x. records_of J ++ x ∷ []) (sym form) ∙ (sym (records_more J (entry_of r)) ∙ ap records_of (sym (journal_more (Some bytes) (Some now) n m added)))))

  pub recorded_more : (told now : Option (List ℕ)) (n m : ℕ) → is_some now ≡ is_some told → Added told n (r ∷ []) now m → m ≡ n + 1
      → recorded now m ≡ recorded told n ++ entry_for (is_some told) (entry_of r) ∷ []
  recorded_more None None n m tells added one = ap blanks one ∙ blanks_more n
    where
      blanks_more : (n : ℕ) → blanks (n + 1) ≡ blanks n ++ Blank ∷ []
      blanks_more zero = refl
      blanks_more (suc n) = let step : suc n + 1 ≡ suc (n + 1) = omega arith in ap blanks step ∙ ap (λ l. Blank ∷ l) (blanks_more n)
  recorded_more None (Some now) n m tells added one = absurd (cc (tells))
  recorded_more (Some bytes) None n m tells added one = absurd (cc (tells))
  recorded_more (Some bytes) (Some now) n m tells added one =
      ap (map (λ (e : JournalEntry). Entry e)) (journal_more (Some bytes) (Some now) n m added) ∙ map-append (λ (e : JournalEntry). Entry e) (journal_in (Some bytes) n) (entry_of r ∷ [])

pub recorded_same : (told now : Option (List ℕ)) (n : ℕ) → is_some now ≡ is_some told → entries now n ≡ entries told n → recorded now n ≡ recorded told n
recorded_same None None n tells same = refl
recorded_same None (Some now) n tells same = absurd (cc (tells))
recorded_same (Some bytes) None n tells same = absurd (cc (tells))
recorded_same (Some bytes) (Some now) n tells same = ap (λ rs. map (λ (e : JournalEntry). Entry e) (map entry_of rs)) same

-- ---- images

-- bytes that stand for the first records of entries
pub first_by : (head : List ℕ) (least : ℕ) (es : List JournalEntry) (rs more : List Saved) (c : List ℕ) → records_of es ≡ rs ++ more → least ≤ length rs → Stands head rs c → HasFirst head least es c
first_by head least es rs more c joined low stands = record {
  k = length rs;
  enough = low;
  within = omega (arith, ap length joined, length-append rs more, length-records_from [] es);
  stands = subst (λ (l : List Saved). Stands head l c) (sym (ap (take (length rs)) joined ∙ take_at rs more (length rs) refl)) stands;
}

pub first_more : (head : List ℕ) (low least : ℕ) (es fs : List JournalEntry) (c : List ℕ) → low ≤ least → HasFirst head least es c → HasFirst head low (es ++ fs) c
first_more head low least es fs c le first =
    let long : length (take first.k (records_of es)) ≡ first.k = length-take-le first.k (records_of es) (omega (arith, first.within, length-records_from [] es)) in
    first_by head low (es ++ fs) (take first.k (records_of es)) (drop first.k (records_of es) ++ records_from (types_of es) fs) c
    (records_joined [] es fs ∙ (ap (λ l. l ++ records_from (types_of es) fs) (sym (take-append-drop first.k (records_of es))) ∙ append_assoc (take first.k (records_of es)) (drop first.k (records_of es)) (records_from (types_of es) fs)))
    (omega (arith, long, le, first.enough)) first.stands

-- at the end of a journal each image stands for all of it
pub end_image : (h : Header) (told : Option (List ℕ)) (place n low : ℕ) (images : List ℕ → Type 0) → AtEnd (header_bytes h) place n told images → entries told n ≡ records_of (journal_in told n) → low ≤ n
    → (c : List ℕ) → images c → IfTold (is_some told) (HasFirst (header_bytes h) low (journal_in told n ++ []) c)
end_image h None place n low images ends spells le c image = tt
end_image h (Some bytes) place n low images ends spells le c image =
    let J = journal_in (Some bytes) n in
    first_by (header_bytes h) low (J ++ []) (entries (Some bytes) n) [] c (ap records_of (append-nil J) ∙ (sym spells ∙ sym (append-nil (entries (Some bytes) n))))
    (omega (arith, le, ends.counted)) (subst (λ x. Stands (header_bytes h) (entries (Some bytes) n) x) (sym (ends.only c image)) ends.stands)

-- during an append each image stands for the journal, or for it with the entry
pub either_image : (h : Header) (told : Option (List ℕ)) (n low : ℕ) (r : Saved) (c : List ℕ) → low ≤ n → entries told n ≡ records_of (journal_in told n)
    → IfTold (is_some told) (record_of (types_of (journal_in told n)) (entry_of r) ≡ r) → BeforeOrAfter (header_bytes h) told n r c
    → IfTold (is_some told) (HasFirst (header_bytes h) low (journal_in told n ++ entry_of r ∷ []) c)
either_image h None n low r c le spells form either = tt
either_image h (Some bytes) n low r c le spells form either =
    let J = journal_in (Some bytes) n in let rs = entries (Some bytes) n in let head = header_bytes h in
    let all : records_of (J ++ entry_of r ∷ []) ≡ rs ++ r ∷ [] = records_more J (entry_of r) ∙ (ap (λ x. records_of J ++ x ∷ []) form ∙ ap (λ l. l ++ r ∷ []) (sym spells)) in
    ⊎_elim
    (λ (without : Stands head rs c). first_by head low (J ++ entry_of r ∷ []) rs (r ∷ []) c all (omega (arith, le, length-records n (drop 32 bytes))) without)
    (λ (within : Stands head (rs ++ r ∷ []) c). first_by head low (J ++ entry_of r ∷ []) (rs ++ r ∷ []) [] c (all ∙ sym (append-nil (rs ++ r ∷ []))) (omega (arith, le, length-append rs (r ∷ []), length-records n (drop 32 bytes))) within)
    either

-- ---- after a fault the bytes still begin with the records of before

open_gate : (xs : List ℕ) (x : ℕ) (ys zs : List ℕ) → (xs ++ (x ∷ ys)) ++ zs ≡ xs ++ (x ∷ (ys ++ zs))
open_gate [] x ys zs = refl
open_gate (w ∷ xs) x ys zs = ap (λ l. w ∷ l) (open_gate xs x ys zs)

stands_front : (head bytes : List ℕ) (rs : List Saved) (r : Saved) → Stands head (rs ++ r ∷ []) bytes → (rest : List ℕ) × (bytes ≡ head ++ spelled rs ++ rest)
stands_front head bytes rs r stands =
    let behind : List ℕ = stands.gate ∷ stands.rest in (
      1 ∷ (body r ++ behind),
      stands.spells
          ∙ (ap (λ l. (head ++ l) ++ behind) (spelled-push rs r)
          ∙ (ap (λ l. l ++ behind) (sym (append_assoc head (spelled rs) (1 ∷ body r)))
          ∙ open_gate (head ++ spelled rs) 1 (body r) behind)),
    )

pub entries_stay : (head : List ℕ) (place n : ℕ) (told now : Option (List ℕ)) (images new : List ℕ → Type 0) (r : Saved) → AtEnd head place n told images → is_some now ≡ is_some told → IfSome now new
    → ((c : List ℕ) → new c → BeforeOrAfter head told n r c) → entries now n ≡ entries told n
entries_stay head place n None None images new r ends tells reads leaves = refl
entries_stay head place n None (Some bytes) images new r ends tells reads leaves = absurd (cc (tells))
entries_stay head place n (Some bytes) None images new r ends tells reads leaves = absurd (cc (tells))
entries_stay head place n (Some old) (Some bytes) images new r ends tells reads leaves =
    let rs = entries (Some old) n in
    let read : (rest : List ℕ) → bytes ≡ head ++ spelled rs ++ rest → records n (drop 32 bytes) ≡ rs =
    λ rest spells. ap (λ k. records k (drop 32 bytes)) (sym ends.counted) ∙ records_read head rs bytes rest ends.header spells ends.fit in
    ⊎_elim
    (λ (without : Stands head rs bytes). read (without.gate ∷ without.rest) without.spells)
    (λ (within : Stands head (rs ++ r ∷ []) bytes). let front = stands_front head bytes rs r within in read front.0 front.1)
    (leaves bytes reads)
