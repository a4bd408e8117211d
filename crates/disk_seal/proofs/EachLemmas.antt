-- Several records, one behind the other.
use Rattle.std.proofs.Common.{◌≡◌, ℕ, suc, ◌+◌, ◌≤◌, List, [], ◌∷◌, ◌++◌, Bool, true, false, length, map, take, refl, sym, ap, ap₂, ◌∙◌, subst, None, arith, append-nil, append_assoc}
use Rattle.std.specs.Prelude.{Result, Ok, Err, OnErr, is_some}
use Rattle.std.specs.Result.{is_err}
use Rattle.log_seams.specs.Disk.{DiskState, IsLawful}
use Rattle.log_seams.proofs.MomentLemmas.{started, joined, weaker}
use Rattle.record_format.specs.Header.{header_bytes}
use Rattle.disk_journal.specs.Record.{saved_of}
use Rattle.archive_meaning.specs.declared.entry.JournalEntry.{JournalEntry}
use Rattle.disk_seal.specs.declared.entry.StoreEntry.{StoreEntry}
use Rattle.disk_seal.specs.declared.entry.StoreEntry.TheVariants.{Stopped}
use Rattle.disk_seal.specs.declared.pieces.Piece.{Piece}
use Rattle.disk_seal.specs.Told.{IfTold, entry_of, entry_for}
use Rattle.disk_seal.specs.View.{StoreView, state_by, StoreState, tells, journal_of, store_entries, HasFirst, Image, Kept}
use Rattle.disk_seal.specs.Adding.{IsNext, Front, front_of, CanAdd, HasOneMore, HasStopped, LeavesFirst, Stays}
use Rattle.disk_seal.specs.Pieces.{front_with, CanFollow, AddsAll, AddsSome}
use Rattle.disk_seal.proofs.ToldLemmas.{told_map, told_both, first_more}

-- ---- what decides over the next records

can_told : (text : List ℕ) (t w : ℕ) (f : Front) (J : List JournalEntry) → IfTold f.told (f.journal ≡ J) → CanAdd text t w f → CanAdd text t w (record f { journal = J })
can_told text t w f J same can = record {
  framed = can.framed;
  next = told_both f.told (λ is next. subst (λ es. IsNext f.header es (saved_of text)) is next) same can.next;
  room = can.room;
  of_types = can.of_types;
  of_words = can.of_words;
}

follow_told : (ps : List Piece) (f : Front) (J : List JournalEntry) → IfTold f.told (f.journal ≡ J) → CanFollow ps f → CanFollow ps (record f { journal = J })
follow_told [] f J same can = tt
follow_told (p ∷ ps) f J same can =
    let e = entry_of (saved_of p.text) in
    (can_told p.text p.types p.words f J same can.0, follow_told ps (front_with p f) (J ++ e ∷ []) (told_map f.told (ap (λ es. es ++ e ∷ [])) same) can.1)

pub follow_on : (ps : List Piece) (f g : Front) → f.told ≡ g.told → f.header ≡ g.header → f.place ≡ g.place → f.types ≡ g.types → f.words ≡ g.words → f.types_saved ≡ g.types_saved → f.words_saved ≡ g.words_saved
    → IfTold f.told (f.journal ≡ g.journal) → CanFollow ps f → CanFollow ps g
follow_on ps f g a b c d e i j same can =
    let path : record f { journal = g.journal } ≡ g = λ t. record { told = a t; header = b t; journal = g.journal; place = c t; types = d t; words = e t; types_saved = i t; words_saved = j t } in
    subst (CanFollow ps) path (follow_told ps f g.journal same can)

-- ---- by the answer

pub all_none : (s : StoreState) → s.stopped ≡ None → AddsAll 0 [] s s
all_none s runs = record {
  place = omega arith;
  stopped = runs;
  journal = told_refl (tells s);
  entries = sym (append-nil (store_entries s));
}
  where
    told_refl : (b : Bool) → IfTold b (journal_of s ≡ journal_of s ++ [])
    told_refl false = tt
    told_refl true = sym (append-nil (journal_of s))

module _ (n size t w : ℕ) (e : JournalEntry) (es : List JournalEntry) (s m u : StoreState) (one : HasOneMore n t w e s m) (same : tells m ≡ tells s) where
  more_told : (fs : List JournalEntry) → IfTold (tells m) (journal_of u ≡ journal_of m ++ fs) → IfTold (tells s) (journal_of u ≡ journal_of s ++ (e ∷ fs))
  more_told fs rest = told_both (tells s) (λ a b. b ∙ (ap (λ l. l ++ fs) a ∙ append_assoc (journal_of s) (e ∷ []) fs)) one.journal (subst (λ b. IfTold b (journal_of u ≡ journal_of m ++ fs)) same rest)

  more_entries : (fs : List JournalEntry) (end : List StoreEntry) → store_entries u ≡ store_entries m ++ (map (entry_for (tells m)) fs ++ end)
      → store_entries u ≡ store_entries s ++ (map (entry_for (tells s)) (e ∷ fs) ++ end)
  more_entries fs end rest =
      rest ∙ (ap₂ (λ b l. l ++ (map (entry_for b) fs ++ end)) same one.entries ∙ append_assoc (store_entries s) (entry_for (tells s) e ∷ []) (map (entry_for (tells s)) fs ++ end))

  pub all_more : AddsAll size es m u → AddsAll (n + size) (e ∷ es) s u
  all_more all = record {
    place = omega (arith, one.place, all.place);
    stopped = all.stopped;
    journal = more_told es all.journal;
    entries = all.entries ∙ (ap₂ (λ b l. l ++ map (entry_for b) es) same one.entries ∙ append_assoc (store_entries s) (entry_for (tells s) e ∷ []) (map (entry_for (tells s)) es));
  }

  pub some_more : AddsSome es m u → AddsSome (e ∷ es) s u
  some_more some = record {
    k = suc some.k;
    below = omega (arith, some.below);
    stopped = some.stopped;
    journal = more_told (take some.k es) some.journal;
    entries = more_entries (take some.k es) (Stopped u.disk.faults ∷ []) some.entries;
  }

pub some_first : (e : JournalEntry) (es : List JournalEntry) (s m : StoreState) → HasStopped s m → AddsSome (e ∷ es) s m
some_first e es s m halted = record {
  k = 0;
  below = omega arith;
  stopped = halted.stopped;
  journal = told_nil (tells s);
  entries = halted.entries;
}
  where
    told_nil : (b : Bool) → IfTold b (journal_of m ≡ journal_of s ++ [])
    told_nil false = tt
    told_nil true = halted.journal ∙ sym (append-nil (journal_of s))

-- ---- images

pub leaves_none : (s : StoreState) → IsLawful s.disk → Kept s → s.stopped ≡ None → LeavesFirst [] s s
leaves_none s law k runs = started s.disk (Image s s.count (journal_of s ++ [])) law (λ c image. subst (λ es. Image s s.count (journal_of s ++ es) c) (k.going runs).0 (k.now c image))

image_more : (s : StoreState) (fs gs : List JournalEntry) (c : List ℕ) → Image s s.count (journal_of s ++ fs) c → Image s s.count (journal_of s ++ (fs ++ gs)) c
image_more s fs gs c = told_map (tells s) (λ first. subst (λ es. HasFirst (header_bytes s.header) s.count es c) (append_assoc (journal_of s) fs gs) (first_more (header_bytes s.header) s.count s.count (journal_of s ++ fs) gs c (omega arith) first))

pub leaves_first : (s m : StoreState) (e : JournalEntry) (es : List JournalEntry) → LeavesFirst (e ∷ []) s m → LeavesFirst (e ∷ es) s m
leaves_first s m e es left = weaker s.disk m.disk (Image s s.count (journal_of s ++ e ∷ [])) (Image s s.count (journal_of s ++ (e ∷ es))) left (image_more s (e ∷ []) es)

pub leaves_more : (s m u : StoreState) (n t w : ℕ) (e : JournalEntry) (es : List JournalEntry) → IsLawful u.disk → HasOneMore n t w e s m → tells m ≡ tells s → m.header ≡ s.header
    → LeavesFirst (e ∷ []) s m → LeavesFirst es m u → LeavesFirst (e ∷ es) s u
leaves_more s m u n t w e es law one same header first rest =
    joined s.disk m.disk u.disk (Image s s.count (journal_of s ++ e ∷ [])) (Image m m.count (journal_of m ++ es)) (Image s s.count (journal_of s ++ (e ∷ es))) law first rest (image_more s (e ∷ []) es)
    (λ c image.
    let here : IfTold (tells s) (HasFirst (header_bytes s.header) m.count (journal_of m ++ es) c) = subst (λ h. IfTold (tells s) (HasFirst (header_bytes h) m.count (journal_of m ++ es) c)) header (subst (λ b. IfTold b (HasFirst (header_bytes m.header) m.count (journal_of m ++ es) c)) same image) in
    told_both (tells s) (λ a one_image. lower s m c (omega (arith, one.count)) (subst (λ l. HasFirst (header_bytes s.header) m.count l c) (ap (λ l. l ++ es) a ∙ append_assoc (journal_of s) (e ∷ []) es) one_image)) one.journal here)
  where
    lower : (s m : StoreState) (c : List ℕ) → s.count ≤ m.count → HasFirst (header_bytes s.header) m.count (journal_of s ++ (e ∷ es)) c → HasFirst (header_bytes s.header) s.count (journal_of s ++ (e ∷ es)) c
    lower s m c le image = record { k = image.k; enough = omega (arith, le, image.enough); within = image.within; stands = image.stands }

-- ---- answers

pub err_there : {T E P : Type 0} (r : Result T E) → is_err r ≡ true → OnErr r P → P
err_there (Ok x) is err = absurd (cc (is))
err_there (Err e) is err = err

pub err_always : {T E P : Type 0} (r : Result T E) → P → OnErr r P
err_always (Ok x) p = tt
err_always (Err e) p = p

pub nil_of : {A : Type 0} (xs : List A) → length xs ≡ 0 → xs ≡ []
nil_of [] none = refl
nil_of (x ∷ xs) none = absurd (omega (arith, none))

-- the rest may follow behind the first
pub rest_follows : {D : Type 0} (state : D → DiskState) (v w : StoreView D) (p : Piece) (ps : List Piece) → Stays v w → HasOneMore (length p.text) p.types p.words (entry_of (saved_of p.text)) (state_by state v) (state_by state w)
    → CanFollow ps (front_with p (front_of (state_by state v))) → CanFollow ps (front_of (state_by state w))
rest_follows state v w p ps st one can =
    follow_on ps (front_with p (front_of (state_by state v))) (front_of (state_by state w)) (sym (ap (λ d. is_some (state d).seen) st.opened)) (sym st.header) (sym one.place) (sym st.types) (sym st.words) (sym one.types_saved)
    (sym one.words_saved) (told_map (tells (state_by state v)) sym one.journal) can

pub same_tells : {D : Type 0} (state : D → DiskState) (v w : StoreView D) → Stays v w → tells (state_by state w) ≡ tells (state_by state v)
same_tells state v w st = ap (λ d. is_some (state d).seen) st.opened
