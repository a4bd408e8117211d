-- What a store keeps: when it is opened, and when a record is added to its journal.
use Rattle.std.proofs.Common.{◌≡◌, ℕ, ◌+◌, ◌≤◌, List, [], ◌∷◌, ◌++◌, Bool, length, map, take, drop, refl, sym, ap, ◌∙◌, subst, Some, None, Option, arith, append-nil, append_assoc, All}
use Rattle.std.specs.Prelude.{is_some}
use Rattle.std.proofs.lemmas.List.{drop-drop, length-map, take_all}
use Rattle.std.proofs.lemmas.List.Elements.{All-drop}
use Rattle.std.proofs.Math.Seq.{take-add}
use mathlib.Core.List.{IsPrefix}
use Rattle.log_seams.specs.Disk.{DiskState, IsLawful, LeavesOnly}
use Rattle.log_seams.specs.Outside.{Rose}
use Rattle.log_seams.proofs.MomentLemmas.{started, joined, weaker, rose}
use Rattle.turn_lock.specs.Words.{seen}
use Rattle.dict_lock.specs.Shared.{BookPass}
use Rattle.record_format.specs.Header.{header_bytes}
use Rattle.disk_journal.specs.Record.{Saved, Stands}
use Rattle.disk_journal.specs.Place.{entries, AtEnd, BeforeOrAfter}
use Rattle.disk_journal.specs.State.{JournalState}
use Rattle.disk_journal.specs.Calls.{GoesOn, StaysAt, HasAdded, LeavesBeforeOrAfter}
use Rattle.archive_meaning.specs.declared.entry.JournalEntry.{JournalEntry}
use Rattle.archive_meaning.specs.Spelled.{record_of, records_of, types_in, types_of}
use Rattle.archive_meaning.specs.Stands.{IsLegal, StandsFor}
use Rattle.disk_seal.specs.declared.entry.StoreEntry.TheVariants.{Stopped}
use Rattle.disk_seal.specs.Told.{IfTold, entry_of, journal_in, recorded, mark, entry_for}
use Rattle.ingest_meaning.specs.WordsIn.{words_in, words_of}
use Rattle.disk_seal.specs.View.{StoreState, journal_state, tells, journal_of, journal_before, HasFirst, Image, KnowsBook, KnowsTypes, KnowsWords, Kept}
use Rattle.disk_seal.specs.Opening.{MayOpen, MayName}
use Rattle.disk_seal.specs.Adding.{IsNext, Saves, HasOneMore, HasStopped}
use Rattle.disk_seal.proofs.ToldLemmas.{told_map, told_both, length-records, length-records_from, journal_more, spelled_more, end_image, either_image, entries_stay, first_more, recorded_more, recorded_same}

-- ---- the opening

abbrev opening : JournalState → BookPass → BookPass → ℕ → ℕ → StoreState
opening j types words types_saved words_saved = record {
  disk = j.disk;
  name = j.name;
  opened = j.disk;
  faults = j.disk.faults;
  header = j.header;
  place = j.place;
  count = j.count;
  closed = j.closed;
  first = j.count;
  types = types;
  words = words;
  types_saved = types_saved;
  words_saved = words_saved;
  stopped = None;
}

pub kept_opened : (j : JournalState) (types words : BookPass) (types_saved words_saved : ℕ) → IsLawful j.disk → MayOpen j → MayName j types words types_saved words_saved
    → Kept (opening j types words types_saved words_saved)
kept_opened j types words types_saved words_saved law may names =
    let J = journal_in j.disk.seen j.count in
    let now : (c : List ℕ) → j.disk.images c → IfTold (is_some j.disk.seen) (HasFirst (header_bytes j.header) j.count (J ++ []) c) =
    end_image j.header j.disk.seen j.place j.count j.count j.disk.images may.ends.ends may.spelled (omega arith) in
    record {
      header = may.header;
      closed = may.ends.closed;
      tells_still = refl;
      spelled = may.spelled;
      front = ([], append-nil J);
      counts = omega arith;
      under = [];
      one = omega arith;
      legal = subst (λ es. IfTold (is_some j.disk.seen) (IsLegal j.header es)) (sym (append-nil J)) may.legal;
      now = now;
      past = started j.disk (λ c. IfTold (is_some j.disk.seen) (HasFirst (header_bytes j.header) j.count (J ++ []) c)) law now;
      going = λ _. (refl, may.ends.ends);
      at_opening = refl;
      risen = omega arith;
      fault = λ n e. absurd (cc (e));
      types = names.of_types;
      words = names.of_words;
    }

pub kept_from : (j : JournalState) (opened : DiskState) (faults : ℕ) (types words : BookPass) (types_saved words_saved : ℕ) → opened ≡ j.disk → faults ≡ j.disk.faults → IsLawful j.disk → MayOpen j
    → MayName j types words types_saved words_saved → Kept (record (opening j types words types_saved words_saved) { opened = opened; faults = faults })
kept_from j opened faults types words types_saved words_saved same count law may names =
    subst (λ (d : DiskState). Kept (record (opening j types words types_saved words_saved) { opened = d; faults = faults })) (sym same)
    (subst (λ (n : ℕ). Kept (record (opening j types words types_saved words_saved) { faults = n })) (sym count) (kept_opened j types words types_saved words_saved law may names))

-- ---- the books

pub types_more : (es : List JournalEntry) (e : JournalEntry) → types_of (es ++ e ∷ []) ≡ types_of es ++ types_in e
types_more [] e = append-nil (types_in e)
types_more (x ∷ es) e = ap (λ l. types_in x ++ l) (types_more es e) ∙ sym (append_assoc (types_in x) (types_of es) (types_in e))

pub words_more : (es : List JournalEntry) (e : JournalEntry) → words_of (es ++ e ∷ []) ≡ words_of es ++ words_in e
words_more [] e = append-nil (words_in e)
words_more (x ∷ es) e = ap (λ l. words_in x ++ l) (words_more es e) ∙ sym (append_assoc (words_in x) (words_of es) (words_in e))

pub knows_more : (F : List ℕ → Type 0) (first limit : ℕ) (b : Bool) (p : BookPass) (saved more : ℕ) (texts new all : List (List ℕ)) → KnowsBook F first limit b p saved texts → Saves b p saved more new
    → IfTold b (all ≡ texts ++ new) → KnowsBook F first limit b p (saved + more) all
knows_more F first limit b p saved more texts new all k saves is = record {
  ready = k.ready;
  known = k.known;
  is = k.is;
  starts = k.starts;
  number = k.number;
  within = k.within;
  from = k.from;
  low = saves.low;
  own = k.own;
  fair = subst (λ l. All F l) (drop-drop more saved (seen p)) (All-drop F more (drop saved (seen p)) k.fair);
  front = told_both b (λ a c. a ∙ sym c) (told_both b (λ x y. take-add saved more (seen p) ∙ (ap (λ l. l ++ take more (drop saved (seen p))) x ∙ ap (λ l. texts ++ l) y)) k.front saves.these) is;
}

knows_same : (F : List ℕ → Type 0) (first limit : ℕ) (b : Bool) (p : BookPass) (saved : ℕ) (texts all : List (List ℕ)) → texts ≡ all → KnowsBook F first limit b p saved texts → KnowsBook F first limit b p saved all
knows_same F first limit b p saved texts all same k = subst (λ l. KnowsBook F first limit b p saved l) same k

-- ---- one record

module _ (s : StoreState) (k : Kept s) (runs : s.stopped ≡ None) (r : Saved) (next : IfTold (tells s) (IsNext s.header (journal_of s) r)) where
  abbrev J : List JournalEntry
  J = journal_of s

  abbrev e : JournalEntry
  e = entry_of r

  form : IfTold (is_some s.disk.seen) (record_of (types_of J) e ≡ r)
  form = subst (λ b. IfTold b (record_of (types_of J) e ≡ r)) (sym k.tells_still) (told_map (tells s) (λ (n : IsNext s.header J r). n.form) next)

  -- during the append each image stands for the journal, or for it with the entry
  pub image_at : (low : ℕ) → low ≤ s.count → (c : List ℕ) → BeforeOrAfter (header_bytes s.header) s.disk.seen s.count r c → Image s low (J ++ e ∷ []) c
  image_at low le c either = subst (λ b. IfTold b (HasFirst (header_bytes s.header) low (J ++ e ∷ []) c)) k.tells_still (either_image s.header s.disk.seen s.count low r c le k.spelled form either)

  -- and so does each image since the opening
  past_at : (j : JournalState) → IsLawful j.disk → LeavesBeforeOrAfter r (journal_state s) j → LeavesOnly s.opened j.disk (Image s s.first (J ++ e ∷ []))
  past_at j law left =
      joined s.opened s.disk j.disk (Image s s.first (J ++ k.under)) (BeforeOrAfter (header_bytes s.header) s.disk.seen s.count r) (Image s s.first (J ++ e ∷ [])) law k.past left
      (λ c. told_map (tells s) (λ first. first_more (header_bytes s.header) s.first s.first J (e ∷ []) c (omega arith) (subst (λ es. HasFirst (header_bytes s.header) s.first es c) (ap (λ l. J ++ l) (k.going runs).0 ∙ append-nil J) first)))
      (λ c either. image_at s.first k.counts c either)

  -- what a crash leaves during the append
  pub leaves_one : (j : JournalState) → LeavesBeforeOrAfter r (journal_state s) j → LeavesOnly s.disk j.disk (Image s s.count (J ++ e ∷ []))
  leaves_one j left = weaker s.disk j.disk (BeforeOrAfter (header_bytes s.header) s.disk.seen s.count r) (Image s s.count (J ++ e ∷ [])) left (image_at s.count (omega arith))

  -- Ok
  module _ (j : JournalState) (law : IsLawful j.disk) (goes : GoesOn (journal_state s) j) (left : LeavesBeforeOrAfter r (journal_state s) j)
      (size types words : ℕ) (added : HasAdded (r ∷ []) size (journal_state s) j) (no_fall : s.disk.faults ≤ j.disk.faults)
      (of_types : Saves (tells s) s.types s.types_saved types (types_in e)) (of_words : Saves (tells s) s.words s.words_saved words (words_in e)) where
    abbrev grown : StoreState
    grown = record {
      disk = j.disk;
      name = j.name;
      opened = s.opened;
      faults = s.faults;
      header = s.header;
      place = j.place;
      count = j.count;
      closed = j.closed;
      first = s.first;
      types = s.types;
      words = s.words;
      types_saved = s.types_saved + types;
      words_saved = s.words_saved + words;
      stopped = s.stopped;
    }

    same_told : is_some j.disk.seen ≡ tells s
    same_told = goes.tells ∙ k.tells_still

    pub journal_grows : IfTold (tells s) (journal_in j.disk.seen j.count ≡ J ++ e ∷ [])
    journal_grows = subst (λ b. IfTold b (journal_in j.disk.seen j.count ≡ J ++ e ∷ [])) k.tells_still (journal_more r s.disk.seen j.disk.seen s.count j.count added.added)

    respells : entries j.disk.seen j.count ≡ records_of (journal_in j.disk.seen j.count)
    respells = spelled_more r s.disk.seen j.disk.seen s.count j.count goes.tells added.added k.spelled form

    -- what is told of the grown journal, of what is told of the old one with the entry
    tell : (P : List JournalEntry → Type 0) → IfTold (tells s) (P (J ++ e ∷ [])) → IfTold (tells s) (P (journal_in j.disk.seen j.count))
    tell P all = told_both (tells s) (λ same p. subst P (sym same) p) journal_grows all

    front_grows : (b : Bool) → b ≡ tells s → IsPrefix (journal_before s) (journal_in j.disk.seen j.count)
    front_grows b same = front_by s.opened.seen s.disk.seen j.disk.seen k.tells_still same_told k.front journal_grows
      where
        front_by : (opened told now : Option (List ℕ)) → is_some told ≡ is_some opened → is_some now ≡ is_some opened → IsPrefix (journal_in opened s.first) (journal_in told s.count)
            → IfTold (is_some opened) (journal_in now j.count ≡ journal_in told s.count ++ e ∷ []) → IsPrefix (journal_in opened s.first) (journal_in now j.count)
        front_by None told now a b front more = (journal_in now j.count, refl)
        front_by (Some o) told now a b front more = (front.0 ++ e ∷ [], sym (append_assoc (journal_in (Some o) s.first) front.0 (e ∷ [])) ∙ (ap (λ l. l ++ e ∷ []) front.1 ∙ sym more))

    end_image_now : (low : ℕ) → low ≤ j.count → (c : List ℕ) → j.disk.images c → IfTold (tells s) (HasFirst (header_bytes s.header) low (journal_in j.disk.seen j.count ++ []) c)
    end_image_now low le c image = subst (λ b. IfTold b (HasFirst (header_bytes s.header) low (journal_in j.disk.seen j.count ++ []) c)) same_told
        (end_image s.header j.disk.seen j.place j.count low j.disk.images (subst (λ h. AtEnd (header_bytes h) j.place j.count j.disk.seen j.disk.images) goes.header added.ends.ends) respells le c image)

    kept_grown : Kept grown
    kept_grown = record {
      header = k.header;
      closed = goes.closed;
      tells_still = same_told;
      spelled = respells;
      front = front_grows (tells s) refl;
      counts = omega (arith, k.counts, added.count);
      under = [];
      one = omega arith;
      legal = tell (λ es. IsLegal s.header (es ++ [])) (told_map (tells s) (λ (n : IsNext s.header J r). subst (λ es. IsLegal s.header es) (sym (append-nil (J ++ e ∷ []))) n.legal) next);
      now = end_image_now j.count (omega arith);
      past = weaker s.opened j.disk (Image s s.first (J ++ e ∷ [])) (Image s s.first (journal_in j.disk.seen j.count ++ [])) (past_at j law left)
          (λ c first. tell (λ es. HasFirst (header_bytes s.header) s.first (es ++ []) c) (told_map (tells s) (λ one. subst (λ es. HasFirst (header_bytes s.header) s.first es c) (sym (append-nil (J ++ e ∷ []))) one) first));
      going = λ _. (refl, subst (λ h. AtEnd (header_bytes h) j.place j.count j.disk.seen j.disk.images) goes.header added.ends.ends);
      at_opening = k.at_opening;
      risen = omega (arith, k.risen, no_fall);
      fault = λ n is. absurd (cc (is, runs));
      types = knows_more _ _ _ (tells s) s.types s.types_saved types (types_of J) (types_in e) (types_of (journal_in j.disk.seen j.count)) k.types of_types
          (told_map (tells s) (λ same. ap types_of same ∙ types_more J e) journal_grows);
      words = knows_more _ _ _ (tells s) s.words s.words_saved words (words_of J) (words_in e) (words_of (journal_in j.disk.seen j.count)) k.words of_words
          (told_map (tells s) (λ same. ap words_of same ∙ words_more J e) journal_grows);
    }

    one_more : HasOneMore size types words e s grown
    one_more = record {
      count = added.count;
      place = added.place;
      types_saved = refl;
      words_saved = refl;
      stopped = runs;
      journal = journal_grows;
      entries =
          ap (λ o. recorded j.disk.seen j.count ++ mark o) runs ∙ append-nil (recorded j.disk.seen j.count)
          ∙ (recorded_more r s.disk.seen j.disk.seen s.count j.count goes.tells added.added added.count
          ∙ (ap (λ b. recorded s.disk.seen s.count ++ entry_for b e ∷ []) k.tells_still
          ∙ ap (λ l. l ++ entry_for (tells s) e ∷ []) (sym (append-nil (recorded s.disk.seen s.count)) ∙ ap (λ o. recorded s.disk.seen s.count ++ mark o) (sym runs))));
    }

    grown_is : (record grown { header = j.header }) ≡ grown
    grown_is = λ i. record grown { header = goes.header i }

    pub kept_added : Kept (record grown { header = j.header })
    kept_added = subst Kept (sym grown_is) kept_grown

    pub has_one_more : HasOneMore size types words e s (record grown { header = j.header })
    has_one_more = subst (HasOneMore size types words e s) (sym grown_is) one_more

  -- a fault
  module _ (j : JournalState) (law : IsLawful j.disk) (goes : GoesOn (journal_state s) j) (left : LeavesBeforeOrAfter r (journal_state s) j) (stays : StaysAt (journal_state s) j)
      (no_fall : s.disk.faults ≤ j.disk.faults) (failed : Rose s.disk.faults j.disk.faults) where
    abbrev halted : StoreState
    halted = record {
      disk = j.disk;
      name = j.name;
      opened = s.opened;
      faults = s.faults;
      header = s.header;
      place = s.place;
      count = s.count;
      closed = j.closed;
      first = s.first;
      types = s.types;
      words = s.words;
      types_saved = s.types_saved;
      words_saved = s.words_saved;
      stopped = Some j.disk.faults;
    }

    leaves_now : (c : List ℕ) → j.disk.images c → BeforeOrAfter (header_bytes s.header) s.disk.seen s.count r c
    leaves_now c image = left.each c (law.counts_now s.disk.clock c left.later image)

    same_entries : entries j.disk.seen s.count ≡ entries s.disk.seen s.count
    same_entries = entries_stay (header_bytes s.header) s.place s.count s.disk.seen j.disk.seen s.disk.images j.disk.images r (k.going runs).1 goes.tells law.reads_as leaves_now

    pub journal_stays : journal_in j.disk.seen s.count ≡ J
    journal_stays = ap (map entry_of) same_entries

    kept_halted : Kept halted
    kept_halted =
        let back : (P : List JournalEntry → Type 0) → P J → P (journal_in j.disk.seen s.count) = λ P p. subst P (sym journal_stays) p in
        record {
          header = k.header;
          closed = goes.closed;
          tells_still = goes.tells ∙ k.tells_still;
          spelled = same_entries ∙ (k.spelled ∙ ap records_of (sym journal_stays));
          front = back (λ es. IsPrefix (journal_before s) es) k.front;
          counts = k.counts;
          under = e ∷ [];
          one = omega arith;
          legal = back (λ es. IfTold (tells s) (IsLegal s.header (es ++ e ∷ []))) (told_map (tells s) (λ (n : IsNext s.header J r). n.legal) next);
          now = λ c image. back (λ es. Image s s.count (es ++ e ∷ []) c) (image_at s.count (omega arith) c (leaves_now c image));
          past = back (λ es. LeavesOnly s.opened j.disk (Image s s.first (es ++ e ∷ []))) (past_at j law left);
          going = λ is. absurd (cc (is));
          at_opening = k.at_opening;
          risen = omega (arith, k.risen, no_fall);
          fault = λ n is. let same : j.disk.faults ≡ n = cc (is) in (subst (λ m. Rose s.opened.faults m) same (rose s.opened.faults s.disk.faults j.disk.faults j.disk.faults k.risen failed (omega arith)), omega (arith, same));
          types = back (λ es. KnowsTypes (tells s) s.header s.types s.types_saved es) k.types;
          words = back (λ es. KnowsWords (tells s) s.header s.words s.words_saved es) k.words;
        }

    has_halted : HasStopped s halted
    has_halted = record {
      stopped = refl;
      journal = journal_stays;
      entries = ap (λ l. l ++ Stopped j.disk.faults ∷ []) (recorded_same s.disk.seen j.disk.seen s.count goes.tells same_entries
          ∙ (sym (append-nil (recorded s.disk.seen s.count)) ∙ ap (λ o. recorded s.disk.seen s.count ++ mark o) (sym runs)));
    }

    module _ (n : ℕ) (counted : n ≡ j.disk.faults) where
      abbrev stopped_now : StoreState
      stopped_now = record halted { header = j.header; place = j.place; count = j.count; stopped = Some n }

      stopped_is : stopped_now ≡ halted
      stopped_is = λ i. record halted { header = goes.header i; place = stays.place i; count = stays.count i; stopped = Some (counted i) }

      pub kept_stopped : Kept stopped_now
      kept_stopped = subst Kept (sym stopped_is) kept_halted

      pub has_stopped : HasStopped s stopped_now
      has_stopped = subst (HasStopped s) (sym stopped_is) has_halted

-- ---- from what a store had inside to what is seen of it

pub carry : (t s old : StoreState) (text x : List ℕ) (P : StoreState → List ℕ → StoreState → Type 0) → s ≡ old → text ≡ x → P s text t → P old x t
carry t s old text x P a b p = subst (λ (y : List ℕ). P old y t) b (subst (λ (o : StoreState). P o text t) a p)

-- ---- the images of a store that runs

journal_short : (told : Option (List ℕ)) (n : ℕ) → length (journal_in told n) ≤ n
journal_short None n = omega arith
journal_short (Some bytes) n = omega (arith, length-map (entries (Some bytes) n) entry_of, length-records n (drop 32 bytes))

pub stands_now : (s : StoreState) → Kept s → s.stopped ≡ None → (c : List ℕ) → s.disk.images c → IfTold (tells s) (StandsFor c s.header (journal_of s))
stands_now s k runs c image =
    told_both (tells s) (λ (legal : IsLegal s.header (journal_of s)) (first : HasFirst (header_bytes s.header) s.count (journal_of s) c).
    let long : length (records_of (journal_of s)) ≤ first.k = omega (arith, length-records_from [] (journal_of s), journal_short s.disk.seen s.count, first.enough) in
    record {
      header = k.header;
      legal = legal;
      stands = subst (λ rs. Stands (header_bytes s.header) rs c) (take_all first.k (records_of (journal_of s)) long) first.stands;
    })
    (subst (λ es. IfTold (tells s) (IsLegal s.header es)) alone k.legal) (subst (λ es. IfTold (tells s) (HasFirst (header_bytes s.header) s.count es c)) alone (k.now c image))
  where
    alone : journal_of s ++ k.under ≡ journal_of s
    alone = ap (λ es. journal_of s ++ es) (k.going runs).0 ∙ append-nil (journal_of s)
