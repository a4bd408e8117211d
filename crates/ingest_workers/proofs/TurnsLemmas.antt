-- How many turns a worker takes, over several calls.
use Rattle.std.proofs.Common.{◌≡◌, ⊎_elim, inl, inr, ℕ, ◌+◌, ◌<◌, ◌≤◌, List, [], ◌∷◌, ◌++◌, length, refl, sym, ap, ◌∙◌, subst, arith, append-nil, append_assoc, length-append, Option, None, Some, All, slice_index_or}
use Rattle.std.specs.Prelude.{is_some, Result, Ok, Err}
use Rattle.std.specs.List.{Contains}
use Rattle.std.proofs.lemmas.List.{length_push}
use Rattle.std.proofs.lemmas.List.Elements.{All-nil, All-append, All-push, All-weaker}
use Rattle.std.proofs.lemmas.Option.{slice_get_within, slice_get-get_or}
use Rattle.log_seams.specs.Disk.{DiskState}
use Rattle.turn_lock.specs.Words.{about, own_list}
use Rattle.ingest_fork.proofs.PlaceLemmas.{at_left, at_right}
use Rattle.plain_list.specs.Texts.{AreDistinct, IsNew}
use Rattle.dict_lock.specs.Cache.{CacheState}
use Rattle.dict_lock.specs.Cached.{cache_of}
use Rattle.dict_lock.proofs.CacheLemmas.{distinct_push}
use Rattle.archive_meaning.specs.declared.entry.SegmentEntry.{SegmentEntry}
use Rattle.row_codec.specs.declared.namer.NameRefusal.{NameRefusal}
use Rattle.row_codec.specs.declared.namer.NameRefusal.TheVariants.{Full, OutOfMemory}
use Rattle.row_codec.specs.declared.namer.Which.{Which}
use Rattle.row_codec.specs.declared.namer.Which.TheVariants.{Types}
use Rattle.row_codec.specs.Messages.{IsTypeOf, IsWordOf}
use Rattle.row_codec.specs.Naming.{GoesOnWith}
use Rattle.disk_seal.specs.declared.draft.Draft.{Draft}
use Rattle.disk_seal.specs.declared.entry.StoreEntry.{StoreEntry}
use Rattle.disk_seal.specs.declared.namer.LockNamer.{LockNamer}
use Rattle.disk_seal.specs.Fixed.{KeeperPass}
use Rattle.disk_seal.specs.Planned.{segment_of}
use Rattle.disk_seal.specs.Naming.{Named, NamesIn, Side, TookTurns, types_side, words_side}
use Rattle.ingest_workers.specs.declared.outcome.Cause.{Cause}
use Rattle.ingest_workers.specs.declared.file_end.FileEnd.{FileEnd}
use Rattle.ingest_workers.specs.declared.file_end.FileEnd.TheVariants.{Part, Lost}
use Rattle.ingest_workers.specs.Journal.{HasAdded, WhereTold, sealed_by}
use Rattle.ingest_workers.specs.Sealed.{HasNotSealed, HasSealed}
use Rattle.ingest_workers.specs.FileEnd.{stop_by}
use Rattle.ingest_workers.specs.Turns.{Ends, EndBoth, FewTurns, HasAsked, LearnBoth, Learns, MayAsk, OneTurn, TakeFew, TakesFew, TurnsBy, sealed_in, spare_of, stop_in, type_by, word_by}
use Rattle.ingest_workers.proofs.PartLemmas.{sealed_joined}
use Rattle.ingest_workers.proofs.SealLemmas.{if_told, of_told}

abbrev Texts : Type 0
Texts = List (List ℕ)

-- ---- distinct texts behind others

module _ (xs ys : Texts) (distinct : AreDistinct (xs ++ ys)) where
  distinct_behind : AreDistinct ys
  distinct_behind i j t at_i at_j =
      let same : length xs + i ≡ length xs + j = distinct (length xs + i) (length xs + j) t (at_right xs ys i ∙ at_i) (at_right xs ys j ∙ at_j) in omega (arith, same)

  none_before : All (IsNew xs) ys
  none_before k d lt i at =
      let same : i ≡ length xs + k = distinct i (length xs + k) (slice_index_or ys k d) (at_left xs ys i (slice_index_or ys k d) at) (at_right xs ys k ∙ slice_get-get_or ys k d lt) in
      let low : i < length xs = slice_get_within xs i (slice_index_or ys k d) at in absurd (omega (arith, same, low))

contains_all : (P : List ℕ → Type 0) (texts : Texts) (t : List ℕ) → All P texts → Contains texts t → P t
contains_all P texts t all c = subst P c.2 (all c.0 t c.1)

all_contained : (P : List ℕ → Type 0) (texts more : Texts) → All P texts → All (Contains texts) more → All P more
all_contained P texts more all among k d lt = contains_all P texts (slice_index_or more k d) all (among k d lt)

all_one : (P : List ℕ → Type 0) (t : List ℕ) → P t → All P (t ∷ [])
all_one P t p = All-push P [] t (All-nil P) p

-- ---- counts

module _ {D : Type 0} (state : D → DiskState) where
  few_plain : (p : KeeperPass D) (a b : Side) (texts spare : ℕ) → b.turns ≤ a.turns + texts + spare → FewTurns state p p a b texts spare
  few_plain p a b texts spare le o is = if_told (is_some (state o.fixed.opened).seen) _ (λ told. omega (arith, le))

  few_wider : (p q : KeeperPass D) (a b : Side) (x y s t : ℕ) → x + s ≤ y + t → FewTurns state p q a b x s → FewTurns state p q a b y t
  few_wider p q a b x y s t le few o is = if_told (is_some (state o.fixed.opened).seen) _ (λ told.
      let was : b.turns + sealed_in p ≤ a.turns + x + sealed_in q + s = of_told (is_some (state o.fixed.opened).seen) _ told (few o is) in omega (arith, le, was))

  few_then : (p q r : KeeperPass D) (a b c : Side) (x y s t : ℕ) → about q ≡ about p → FewTurns state p q a b x s → FewTurns state q r b c y t → FewTurns state p r a c (x + y) (s + t)
  few_then p q r a b c x y s t still one two o is = if_told (is_some (state o.fixed.opened).seen) _ (λ told.
      let first : b.turns + sealed_in p ≤ a.turns + x + sealed_in q + s = of_told (is_some (state o.fixed.opened).seen) _ told (one o is) in
      let second : c.turns + sealed_in q ≤ b.turns + y + sealed_in r + t = of_told (is_some (state o.fixed.opened).seen) _ told (two o (still ∙ is)) in
      omega (arith, first, second))

  -- ---- one book

  turns_none : (P : List ℕ → Type 0) (stop : Option FileEnd) (p q : KeeperPass D) (a b : Side) (texts : ℕ) → FewTurns state p q a b texts 0 → TurnsBy state P stop p q a b texts
  turns_none P None p q a b texts few = few
  turns_none P (Some (Part cause)) p q a b texts few = inl few
  turns_none P (Some (Lost cause)) p q a b texts few = few_wider p q a b texts texts 0 1 (omega arith) few

  turns_then : (P : List ℕ → Type 0) (stop : Option FileEnd) (p q r : KeeperPass D) (a b c : Side) (x y : ℕ) → about q ≡ about p
      → FewTurns state p q a b x 0 → TurnsBy state P stop q r b c y → TurnsBy state P stop p r a c (x + y)
  turns_then P None p q r a b c x y still one two = few_then p q r a b c x y 0 0 still one two
  turns_then P (Some (Part cause)) p q r a b c x y still one two = ⊎_elim
      (λ (few : FewTurns state q r b c y 0). inl (few_then p q r a b c x y 0 0 still one few))
      (λ (few : FewTurns state q r b c y 1 × ((t : List ℕ) × P t × IsNew c.held t)). inr (few_then p q r a b c x y 0 1 still one few.0, few.1))
      two
  turns_then P (Some (Lost cause)) p q r a b c x y still one two = few_then p q r a b c x y 0 1 still one two

  turns_wider : (P Q : List ℕ → Type 0) → ((t : List ℕ) → P t → Q t) → (stop : Option FileEnd) (p q : KeeperPass D) (a b : Side) (x : ℕ) → TurnsBy state P stop p q a b x → TurnsBy state Q stop p q a b x
  turns_wider P Q f None p q a b x few = few
  turns_wider P Q f (Some (Part cause)) p q a b x few = ⊎_elim
      (λ (n : FewTurns state p q a b x 0). inl n)
      (λ (n : FewTurns state p q a b x 1 × ((t : List ℕ) × P t × IsNew b.held t)). inr (n.0, (n.1.0, f n.1.0 n.1.1, n.1.2)))
      few
  turns_wider P Q f (Some (Lost cause)) p q a b x few = few

  learns_then : (P : List ℕ → Type 0) (stop : Option FileEnd) (p q r : KeeperPass D) (a b c : Side) → Learns state P None p q a b → Learns state P stop q r b c → Learns state P stop p r a c
  learns_then P stop p q r a b c one two = record {
    still = two.still ∙ one.still;
    more = one.more ++ two.more;
    behind = two.behind ∙ (ap (λ l. l ++ two.more) one.behind ∙ append_assoc a.held one.more two.more);
    each = All-append P one.more two.more one.each two.each;
    took = subst (λ (n : ℕ). TurnsBy state P stop p r a c n) (sym (length-append one.more two.more)) (turns_then P stop p q r a b c (length one.more) (length two.more) one.still one.took two.took);
  }

  learns_wider : (P Q : List ℕ → Type 0) → ((t : List ℕ) → P t → Q t) → (stop : Option FileEnd) (p q : KeeperPass D) (a b : Side) → Learns state P stop p q a b → Learns state Q stop p q a b
  learns_wider P Q f stop p q a b l = record {
    still = l.still;
    more = l.more;
    behind = l.behind;
    each = All-weaker P Q f l.more l.each;
    took = turns_wider P Q f stop p q a b (length l.more) l.took;
  }

  learns_none : (P : List ℕ → Type 0) (stop : Option FileEnd) (p q : KeeperPass D) (a b : Side) → about q ≡ about p → b.held ≡ a.held → FewTurns state p q a b 0 0 → Learns state P stop p q a b
  learns_none P stop p q a b still same few = record {
    still = still;
    more = [];
    behind = same ∙ sym (append-nil a.held);
    each = All-nil P;
    took = turns_none P stop p q a b 0 few;
  }

  learns_self : (P : List ℕ → Type 0) (stop : Option FileEnd) (p : KeeperPass D) (a b : Side) → b ≡ a → Learns state P stop p p a b
  learns_self P stop p a b same = learns_none P stop p p a b refl (ap (λ (s : Side). s.held) same) (few_plain p a b 0 0 (omega (arith, ap (λ (s : Side). s.turns) same)))

  -- texts of one book were named
  module _ (P : List ℕ → Type 0) (p : KeeperPass D) (texts : Texts) (are : All P texts) (a b : Side) where
    took_turns : (refusal : Option NameRefusal) (stop : Option FileEnd) (more : Texts) → ((r : NameRefusal) → refusal ≡ Some r → stop ≡ Some (stop_by r)) → TookTurns texts refusal more a b → TurnsBy state P stop p p a b (length more)
    took_turns None stop more told took = turns_none P stop p p a b (length more) (few_plain p a b (length more) 0 (omega (arith, took)))
    took_turns (Some OutOfMemory) stop more told took =
        subst (λ (s : Option FileEnd). TurnsBy state P s p p a b (length more)) (sym (told OutOfMemory refl)) (few_plain p a b (length more) 1 (omega (arith, took)))
    took_turns (Some (Full book count)) stop more told took =
        let le = took.0 in
        subst (λ (s : Option FileEnd). TurnsBy state P s p p a b (length more)) (sym (told (Full book count) refl))
        (inr (few_plain p a b (length more) 1 (omega (arith, le)), (took.1.0, contains_all P texts took.1.0 are took.1.1, took.1.2)))

    pub learns_named : (refusal : Option NameRefusal) (stop : Option FileEnd) → ((r : NameRefusal) → refusal ≡ Some r → stop ≡ Some (stop_by r)) → Named texts refusal a b → Learns state P stop p p a b
    learns_named refusal stop told named = record {
      still = refl;
      more = named.more;
      behind = named.behind;
      each = all_contained P texts named.more are named.among;
      took = took_turns refusal stop named.more told named.took;
    }

  -- ---- sealing

  module _ (p q : KeeperPass D) (a b : Side) (more : List (ℕ × StoreEntry)) (added : HasAdded p q more) where
    sealed_more : sealed_in q ≡ sealed_in p + length (sealed_by more)
    sealed_more = ap (λ l. length (sealed_by l)) added.own ∙ (ap length (sealed_joined (own_list p) more) ∙ length-append (sealed_by (own_list p)) (sealed_by more))

    pub few_sealed : (s : SegmentEntry) → WhereTold state p (λ h. sealed_by more ≡ s ∷ []) → b.turns ≤ a.turns + 1 → FewTurns state p q a b 0 0
    few_sealed s is le o there = if_told (is_some (state o.fixed.opened).seen) _ (λ told.
        let one : sealed_by more ≡ s ∷ [] = of_told (is_some (state o.fixed.opened).seen) _ told (is o there) in
        let count : length (sealed_by more) ≡ 1 = ap length one in
        omega (arith, le, sealed_more, count))

    pub few_refused : b.turns ≤ a.turns + 1 → FewTurns state p q a b 0 1
    few_refused le o there = if_told (is_some (state o.fixed.opened).seen) _ (λ told. omega (arith, le, sealed_more))

  -- ---- a whole file

  module _ (P : List ℕ → Type 0) (p q r : KeeperPass D) (a b c : Side) (distinct : AreDistinct b.held) where
    some_named : (named : Texts) → All P named → AreDistinct (a.held ++ named) → FewTurns state p r a c (length named) 1 → TakesFew state P p r a c
    some_named named each apart few = record {
      named = named;
      each = each;
      distinct = distinct_behind a.held named apart;
      not_held = none_before a.held named apart;
      few = few;
    }

    pub takes_few : (stop : Option FileEnd) → Learns state P stop p q a b → Ends state (spare_of stop) q r b c → TakesFew state P p r a c
    takes_few None l e = some_named l.more l.each (subst AreDistinct l.behind distinct)
        (few_wider p r a c (length l.more + 0) (length l.more) 1 1 (omega arith) (few_then p q r a b c (length l.more) 0 0 1 l.still l.took e.took))
    takes_few (Some (Lost cause)) l e = some_named l.more l.each (subst AreDistinct l.behind distinct)
        (few_wider p r a c (length l.more + 0) (length l.more) 1 1 (omega arith) (few_then p q r a b c (length l.more) 0 1 0 l.still l.took e.took))
    takes_few (Some (Part cause)) l e = ⊎_elim
        (λ (few : FewTurns state p q a b (length l.more) 0). some_named l.more l.each (subst AreDistinct l.behind distinct)
        (few_wider p r a c (length l.more + 0) (length l.more) 1 1 (omega arith) (few_then p q r a b c (length l.more) 0 0 1 l.still few e.took)))
        (λ (few : FewTurns state p q a b (length l.more) 1 × ((t : List ℕ) × P t × IsNew b.held t)).
        let t = few.1.0 in
        some_named (l.more ++ t ∷ []) (All-push P l.more t l.each few.1.1)
        (subst AreDistinct (ap (λ xs. xs ++ t ∷ []) l.behind ∙ append_assoc a.held l.more (t ∷ [])) (distinct_push b.held t distinct few.1.2))
        (few_wider p r a c (length l.more + 0) (length (l.more ++ t ∷ [])) 2 1 (omega (arith, length_push l.more t)) (few_then p q r a b c (length l.more) 0 1 1 l.still few.0 e.took)))
        l.took

-- ---- both books

module _ {D R A B C : Type 0} (state : D → DiskState) (P : List ℕ → Type 0) where
  -- the texts of one message
  module _ (p : KeeperPass D) (m n : LockNamer R A B C) (line : List ℕ) (line_is : P line) (stop : Option FileEnd) where
    abbrev T : List ℕ → Type 0
    T = type_by P m.version

    abbrev W : List ℕ → Type 0
    W = word_by P m.version

    one_text : (t : List ℕ) → IsTypeOf m.version line t → All T (t ∷ [])
    one_text t is = all_one T t (line, line_is, is)

    asked_types : (refusal answer : Option NameRefusal) (text : List ℕ) (middle : LockNamer R A B C) → IsTypeOf m.version line text → NamesIn Types (text ∷ []) refusal m middle
        → GoesOnWith NamesIn m.version line answer refusal middle n → ((r : NameRefusal) → answer ≡ Some r → stop ≡ Some (stop_by r))
        → Learns state T stop p p (types_side m) (types_side n)
    asked_types None answer text middle is named rest told =
        subst (λ (s : Side). Learns state T stop p p (types_side m) s) (sym rest.named.1)
        (learns_named state T p (text ∷ []) (one_text text is) (types_side m) (types_side middle) None stop (λ r e. absurd (cc (e))) named.0)
    asked_types (Some refusal) answer text middle is named rest told =
        subst (λ (o : LockNamer R A B C). Learns state T stop p p (types_side m) (types_side o)) (sym rest.0)
        (learns_named state T p (text ∷ []) (one_text text is) (types_side m) (types_side middle) (Some refusal) stop (λ r e. told r (rest.1 ∙ e)) named.0)

    asked_words : (refusal answer : Option NameRefusal) (text : List ℕ) (middle : LockNamer R A B C) → NamesIn Types (text ∷ []) refusal m middle
        → GoesOnWith NamesIn m.version line answer refusal middle n → ((r : NameRefusal) → answer ≡ Some r → stop ≡ Some (stop_by r))
        → Learns state W stop p p (words_side m) (words_side n)
    asked_words None answer text middle named rest told =
        subst (λ (s : Side). Learns state W stop p p s (words_side n)) named.1
        (learns_named state W p rest.texts (All-weaker (IsWordOf m.version line) W (λ t is. (line, line_is, is)) rest.texts rest.are) (words_side middle) (words_side n) rest.refusal stop
        (λ r e. told r (rest.told r e)) rest.named.0)
    asked_words (Some refusal) answer text middle named rest told =
        learns_self state W stop p (words_side m) (words_side n) (ap (λ (o : LockNamer R A B C). words_side o) rest.0 ∙ named.1)

    pub learn_message : MayAsk NamesIn m.version line stop m n → LearnBoth state P stop p p m n
    learn_message asked = ⊎_elim
        (λ (same : n ≡ m). record {
          types = learns_self state T stop p (types_side m) (types_side n) (ap (λ (o : LockNamer R A B C). types_side o) same);
          words = learns_self state W stop p (words_side m) (words_side n) (ap (λ (o : LockNamer R A B C). words_side o) same);
        })
        (λ (h : HasAsked NamesIn m.version line stop m n). record {
          types = asked_types h.asked.refusal h.refusal h.asked.text h.asked.middle h.asked.is_type h.asked.named h.asked.rest h.told;
          words = asked_words h.asked.refusal h.refusal h.asked.text h.asked.middle h.asked.named h.asked.rest h.told;
        })
        asked

  pub learn_then : (stop : Option FileEnd) (p q r : KeeperPass D) (m n o : LockNamer R A B C) → n.version ≡ m.version → LearnBoth state P None p q m n → LearnBoth state P stop q r n o → LearnBoth state P stop p r m o
  learn_then stop p q r m n o version one two = record {
    types = learns_then state (type_by P m.version) stop p q r (types_side m) (types_side n) (types_side o) one.types
        (subst (λ v. Learns state (type_by P v) stop q r (types_side n) (types_side o)) version two.types);
    words = learns_then state (word_by P m.version) stop p q r (words_side m) (words_side n) (words_side o) one.words
        (subst (λ v. Learns state (word_by P v) stop q r (words_side n) (words_side o)) version two.words);
  }

  pub learn_self : (stop : Option FileEnd) (p : KeeperPass D) (m : LockNamer R A B C) → LearnBoth state P stop p p m m
  learn_self stop p m = record {
    types = learns_self state (type_by P m.version) stop p (types_side m) (types_side m) refl;
    words = learns_self state (word_by P m.version) stop p (words_side m) (words_side m) refl;
  }

  pub learn_sealed : (stop : Option FileEnd) (d : Draft) (p q : KeeperPass D) (m n : LockNamer R A B C) → HasSealed state d p q → OneTurn m n → LearnBoth state P stop p q m n
  learn_sealed stop d p q m n sealed one = record {
    types = learns_none state (type_by P m.version) stop p q (types_side m) (types_side n) sealed.added.still.about_is one.types_held
        (few_sealed state p q (types_side m) (types_side n) sealed.more sealed.added (segment_of d) sealed.segments one.types);
    words = learns_none state (word_by P m.version) stop p q (words_side m) (words_side n) sealed.added.still.about_is one.words_held
        (few_sealed state p q (words_side m) (words_side n) sealed.more sealed.added (segment_of d) sealed.segments one.words);
  }

  pub learn_refused : (cause : Cause) (p q : KeeperPass D) (m n : LockNamer R A B C) → HasNotSealed state p q → OneTurn m n → LearnBoth state P (Some (Lost cause)) p q m n
  learn_refused cause p q m n refused one = record {
    types = refused_side (type_by P m.version) (types_side m) (types_side n) one.types_held one.types;
    words = refused_side (word_by P m.version) (words_side m) (words_side n) one.words_held one.words;
  }
    where
      refused_side : (T : List ℕ → Type 0) (a b : Side) → b.held ≡ a.held → b.turns ≤ a.turns + 1 → Learns state T (Some (Lost cause)) p q a b
      refused_side T a b same le = record {
        still = refused.added.still.about_is;
        more = [];
        behind = same ∙ sym (append-nil a.held);
        each = All-nil T;
        took = few_refused state p q a b refused.more refused.added le;
      }

  pub take_few : (stop : Option FileEnd) (p q r : KeeperPass D) (m n o : LockNamer R A B C) → LearnBoth state P stop p q m n → EndBoth state (spare_of stop) q r n o → TakeFew state P p r m o
  take_few stop p q r m n o l e = record {
    types = takes_few state (type_by P m.version) p q r (types_side m) (types_side n) (types_side o) n.types.distinct stop l.types e.types;
    words = takes_few state (word_by P m.version) p q r (words_side m) (words_side n) (words_side o) n.words.distinct stop l.words e.words;
  }

pub learn_wider : {D R A B C : Type 0} (state : D → DiskState) (P Q : List ℕ → Type 0) → ((x : List ℕ) → P x → Q x) → (stop : Option FileEnd) (p q : KeeperPass D) (m n : LockNamer R A B C) → LearnBoth state P stop p q m n → LearnBoth state Q stop p q m n
learn_wider state P Q f stop p q m n l = record {
  types = learns_wider state (type_by P m.version) (type_by Q m.version) (λ t is. (is.0, f is.0 is.1, is.2)) stop p q (types_side m) (types_side n) l.types;
  words = learns_wider state (word_by P m.version) (word_by Q m.version) (λ t is. (is.0, f is.0 is.1, is.2)) stop p q (words_side m) (words_side n) l.words;
}

module _ {D R A B C : Type 0} (state : D → DiskState) where
  pub end_sealed : (d : Draft) (p q : KeeperPass D) (m n : LockNamer R A B C) → HasSealed state d p q → OneTurn m n → EndBoth state 1 p q m n
  end_sealed d p q m n sealed one = record {
    types = record { same = one.types_held; took = few_wider state p q (types_side m) (types_side n) 0 0 0 1 (omega arith) (few_sealed state p q (types_side m) (types_side n) sealed.more sealed.added (segment_of d) sealed.segments one.types) };
    words = record { same = one.words_held; took = few_wider state p q (words_side m) (words_side n) 0 0 0 1 (omega arith) (few_sealed state p q (words_side m) (words_side n) sealed.more sealed.added (segment_of d) sealed.segments one.words) };
  }

  pub end_refused : (p q : KeeperPass D) (m n : LockNamer R A B C) → HasNotSealed state p q → OneTurn m n → EndBoth state 1 p q m n
  end_refused p q m n refused one = record {
    types = record { same = one.types_held; took = few_refused state p q (types_side m) (types_side n) refused.more refused.added one.types };
    words = record { same = one.words_held; took = few_refused state p q (words_side m) (words_side n) refused.more refused.added one.words };
  }

  pub end_self : (spare : ℕ) (p : KeeperPass D) (m : LockNamer R A B C) → EndBoth state spare p p m m
  end_self spare p m = record {
    types = record { same = refl; took = few_plain state p (types_side m) (types_side m) 0 spare (omega arith) };
    words = record { same = refl; took = few_plain state p (words_side m) (words_side m) 0 spare (omega arith) };
  }

-- ---- answers

pub stop_none : {T : Type 0} (r : Result T FileEnd) (x : T) → r ≡ Ok x → stop_in r ≡ None
stop_none {T} r x is = ap (λ (s : Result T FileEnd). stop_in s) is

pub stop_same : {T U : Type 0} (r : Result T FileEnd) (s : Result U FileEnd) (y : FileEnd) → r ≡ Err y → s ≡ Err y → stop_in r ≡ stop_in s
stop_same {T} {U} r s y one two = ap (λ (x : Result T FileEnd). stop_in x) one ∙ sym (ap (λ (x : Result U FileEnd). stop_in x) two)

-- ---- a namer that is lent

asks_for : {N M : Type 0} (f : M → N) (naming : Which → List (List ℕ) → Option NameRefusal → N → N → Type 0) (version : ℕ) (line : List ℕ) (answer refusal : Option NameRefusal) (old new : M)
    → GoesOnWith (λ w ts r a b. naming w ts r (f a) (f b)) version line answer refusal old new → GoesOnWith naming version line answer refusal (f old) (f new)
asks_for f naming version line answer None old new rest = record { texts = rest.texts; are = rest.are; refusal = rest.refusal; named = rest.named; told = rest.told }
asks_for f naming version line answer (Some refusal) old new rest = (ap f rest.0, rest.1)

pub may_ask : {N M : Type 0} (old new : M) (f : M → N) (naming : Which → List (List ℕ) → Option NameRefusal → N → N → Type 0) (version : ℕ) (line : List ℕ) (stop : Option FileEnd)
    → MayAsk (λ w ts r a b. naming w ts r (f a) (f b)) version line stop old new → MayAsk naming version line stop (f old) (f new)
may_ask old new f naming version line stop asked = ⊎_elim
    (λ (same : new ≡ old). inl (ap f same))
    (λ (h : HasAsked (λ w ts r a b. naming w ts r (f a) (f b)) version line stop old new). inr (record {
      refusal = h.refusal;
      asked = record {
        text = h.asked.text;
        is_type = h.asked.is_type;
        refusal = h.asked.refusal;
        middle = f h.asked.middle;
        named = h.asked.named;
        rest = asks_for f naming version line h.refusal h.asked.refusal h.asked.middle new h.asked.rest;
      };
      told = h.told;
    }))
    asked

-- ---- nothing was done

module _ {D R A B C : Type 0} (state : D → DiskState) (P : List ℕ → Type 0) (p : KeeperPass D) (m : LockNamer R A B C) where
  few_none : (T : List ℕ → Type 0) (a : Side) → TakesFew state T p p a a
  few_none T a = record {
    named = [];
    each = All-nil T;
    distinct = λ i j t at. absurd (cc (at));
    not_held = All-nil (IsNew a.held);
    few = few_plain state p a a 0 1 (omega arith);
  }

  pub take_none : TakeFew state P p p m m
  take_none = record { types = few_none (type_by P m.version) (types_side m); words = few_none (word_by P m.version) (words_side m) }

module _ {R A B C : Type 0} where
  pub one_self : (m : LockNamer R A B C) → OneTurn m m
  one_self m = record { types_held = refl; words_held = refl; types = omega arith; words = omega arith }

  pub one_turn : (m n : LockNamer R A B C) (types words : ℕ) → (cache_of n.types ≡ cache_of m.types) × (cache_of n.words ≡ cache_of m.words) → types ≡ m.turns.types → words ≡ m.turns.words
      → n.turns.types ≡ types + 1 → n.turns.words ≡ words + 1 → OneTurn m n
  one_turn m n types words caches t w t_one w_one = record {
    types_held = ap (λ (c : CacheState). c.texts) caches.0;
    words_held = ap (λ (c : CacheState). c.texts) caches.1;
    types = omega (arith, t, t_one);
    words = omega (arith, w, w_one);
  }
