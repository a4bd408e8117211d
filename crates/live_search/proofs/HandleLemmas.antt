-- What the handling of a record does, by what was read and printed.
use Rattle.std.proofs.Common.{◌≡◌, ◌≢◌, ℕ, zero, suc, ◌+◌, ◌<◌, List, [], ◌∷◌, ◌++◌, length, get_or, Option, refl, sym, ◌∙◌, ap, ap₂, subst, arith}
use Rattle.std.proofs.lemmas.List.{append-nil}
use Rattle.record_format.specs.declared.header.Header.{Header}
use Rattle.column_store.specs.declared.row.Row.{Row}
use Rattle.row_codec.specs.Means.{AreCanonical}
use Rattle.disk_journal.specs.Record.{Saved}
use Rattle.segment_format.specs.declared.head.Head.{Head}
use Rattle.wild_match.specs.declared.pattern.Item.{Item}
use Rattle.archive_meaning.specs.declared.entry.SegmentEntry.{SegmentEntry}
use Rattle.archive_meaning.specs.declared.entry.JournalEntry.{JournalEntry}
use Rattle.archive_meaning.specs.declared.entry.JournalEntry.TheVariants.{Files, Types, Words, Segment}
use Rattle.archive_meaning.specs.Held.{Held, Piece, nothing_held}
use Rattle.archive_meaning.specs.Legal.{Accepts, AreNamed, Run}
use Rattle.archive_meaning.specs.Spelled.{record_of, types_of}
use Rattle.archive_meaning.specs.Stands.{IsLegal}
use Rattle.archive_meaning.proofs.RunLemmas.{one_held}
use Rattle.archive_open.specs.declared.files.FileEntry.{FileEntry}
use Rattle.archive_open.specs.declared.grown.Grown.{Grown}
use Rattle.archive_open.specs.Grown.{GrownView, Grows, GrowsNext, IsGrown, NoneGrows, grown_of}
use Rattle.archive_open.specs.Kept.{Kept}
use Rattle.archive_open.specs.Shown.{files_of, head_in, kept_of}
use Rattle.archive_open.specs.StepsFiles.{no_file}
use Rattle.archive_open.specs.Walk.{IsNext}
use Rattle.archive_open.proofs.FilesLemmas.{entries_from}
use Rattle.archive_open.proofs.NextLemmas.{is_segment, next_form, own_follows}
use Rattle.disk_seal.specs.declared.found.Found.{Found}
use Rattle.sink_pieces.proofs.OutputLemmas.{Grew-nothing}
use Rattle.pair_sieve.specs.Sieve.{Knows, SieveView, Tells}
use Rattle.pair_sieve.proofs.SieveLemmas.{tells_longer}
use Rattle.printed_lines.specs.Lines.{Placed, numbered}
use Rattle.live_search.specs.Handled.{GoesPast, Handles, HasBegun, Meets, MeetsNone, Reached}
use Rattle.search_meaning.specs.Live.{Brings}
use Rattle.live_search.specs.Part.{HoldsNoPart, HoldsPart, IsPayloadOf}
use Rattle.printed_lines.specs.Printed.{HasPrinted, HasPrintedFront}

-- ---- what an entry adds

-- what the entry is accepted with, behind entries that hold this
record Accepted (h : Header) (es : List JournalEntry) (e : JournalEntry) (held : Held) : Type 0 where
  more : Held
  accepts : Accepts h held e more
  run : Run h nothing_held (es ++ e ∷ []) more
  named : AreNamed (length held.names) (e ∷ [])

accepted : (h : Header) (es : List JournalEntry) (e : JournalEntry) (held : Held) → IsLegal h (es ++ e ∷ []) → Run h nothing_held es held → Accepted h es e held
accepted h es e held legal run =
    let f = own_follows h es e legal in
    let same : f.held ≡ held = one_held h nothing_held f.held held es f.run run in
    record {
      more = legal.held;
      accepts = subst (λ x. Accepts h x e legal.held) same f.takes;
      run = legal.run;
      named = subst (λ (x : Held). AreNamed (length x.names) (e ∷ [])) same f.named;
    }

grows_of : (g : GrownView) (h : Header) (es : List JournalEntry) (held : Held) → Run h nothing_held es held → IsGrown g h held → Grows g h es
grows_of g h es held run grown other other_run = subst (λ x. IsGrown g h x) (one_held h nothing_held held other es run other_run) grown

grown_next : (f : Found) (r : Reached) (new : GrownView) (h : Header) (es : List JournalEntry) (e : JournalEntry) (held : Held) → GrowsNext f.place.kind f.payload r.grown new
    → (m : Meets f r h es e held) → IsGrown new h (accepted h es e held m.next.legal m.run).more
grown_next f r new h es e held grows m =
    let a = accepted h es e held m.next.legal m.run in grows r.at h es e m.next (grows_of r.grown h es held m.run m.grown) a.more a.run

-- what a sieve tells of texts that are held it tells of those that are held with the entry
tells_on : (h : Header) (held more : Held) (e : JournalEntry) (pattern : List Item) (s : SieveView) → Accepts h held e more → Tells pattern held.types held.words s → Tells pattern more.types more.words s
tells_on h held more (Files names) pattern s is tells = subst (λ (x : Held). Tells pattern x.types x.words s) (sym is) tells
tells_on h held more (Types first texts) pattern s is tells =
    subst (λ (x : Held). Tells pattern x.types x.words s) (sym is.1)
    (subst (λ (l : List (List ℕ)). Tells pattern (held.types ++ texts) l s) (append-nil held.words) (tells_longer pattern held.types held.words texts [] s tells))
tells_on h held more (Words first texts) pattern s is tells =
    subst (λ (x : Held). Tells pattern x.types x.words s) (sym is.1)
    (subst (λ (l : List (List ℕ)). Tells pattern l (held.words ++ texts) s) (append-nil held.types) (tells_longer pattern held.types held.words [] texts s tells))
tells_on h held more (Segment g) pattern s is tells = subst (λ (x : Held). Tells pattern x.types x.words s) (sym is.2) tells

pub meets_none : (f : Found) (r : Reached) → NoneGrows f.place.kind f.payload r.grown → MeetsNone f r
meets_none f r none h es e held m = none r.at h es e m.next (grows_of r.grown h es held m.run m.grown)

-- ---- an entry that is no segment

brings_nothing : (h : Header) (pattern : List Item) (held : Held) (types : List (List ℕ)) (e : JournalEntry) (kind : ℕ) (payload : List ℕ) → kind ≢ 4
    → record_of types e ≡ record { kind = kind; payload = payload } → Brings h pattern held e []
brings_nothing h pattern held types (Files names) kind payload other is = refl
brings_nothing h pattern held types (Types first texts) kind payload other is = refl
brings_nothing h pattern held types (Words first texts) kind payload other is = refl
brings_nothing h pattern held types (Segment s) kind payload other is = absurd (other (sym (ap (λ (r : Saved). r.kind) is)))

pub listed_handled : (f : Found) (old new : Reached) (w : Option (List ℕ)) → f.place.kind ≢ 4 → GoesPast f old new → GrowsNext f.place.kind f.payload old.grown new.grown → new.sieve ≡ old.sieve
    → Handles f old new w w
listed_handled f old new w other past grows same = record {
  past = past;
  done = λ h es e held m.
      let a = accepted h es e held m.next.legal m.run in
      record {
        more = a.more;
        here = [];
        accepts = a.accepts;
        brings = brings_nothing h old.pattern held (types_of es) e f.place.kind f.payload other m.next.saved;
        grown = grown_next f old new.grown h es e held grows m;
        sieved = subst (λ x. Tells old.pattern a.more.types a.more.words x) (sym same) (tells_on h held a.more e old.pattern old.sieve a.accepts m.sieved);
        printed = Grew-nothing w;
      };
}

-- ---- a segment

pub none_grows : (kind : ℕ) (payload : List ℕ) (old : GrownView) → kind ≡ 4 → HoldsNoPart payload → NoneGrows kind payload old
none_grows kind payload old four none at h es e next grows =
    let next_four : IsNext at 4 payload h es e = subst (λ k. IsNext at k payload h es e) four next in
    let is = is_segment (types_of es) e payload (next_form at 4 payload h es e next_four) next_four.saved in
    none (types_of es) is.0 (record { form = is.2; is = is.3 })

names_get : (k : ℕ) (names : List (List ℕ)) (ps : List Piece) (i : ℕ) → i < length names → (get_or (entries_from k names ps) i no_file).name ≡ get_or names i []
names_get k [] ps i within = absurd (omega (arith, within))
names_get k (name ∷ names) ps zero within = refl
names_get k (name ∷ names) ps (suc i) within = names_get (k + 1) names ps i (omega (arith, within))

-- the segment that a part is of, with its messages
record OfPart (h : Header) (e : JournalEntry) (held : Held) (head : Head) (rows : List Row) (files : List FileEntry) : Type 0 where
  s : SegmentEntry
  is : e ≡ Segment s
  messages : List (List ℕ)
  own : AreCanonical h.version s.rows held.types held.words messages
  same : AreCanonical h.version rows held.types held.words messages
  placed : numbered (get_or files head.file no_file).name (head.first + 1) messages ≡ numbered (get_or held.names s.file []) (s.first + 1) messages

of_segment : (h : Header) (held more : Held) (types : List (List ℕ)) (head : Head) (rows : List Row) (new : GrownView) (s : SegmentEntry) → head ≡ head_in types s → rows ≡ s.rows
    → Accepts h held (Segment s) more → AreNamed (length held.names) (Segment s ∷ []) → IsGrown new h more → OfPart h (Segment s) held head rows new.files
of_segment h held more types head rows new s head_is rows_are accepts named grown =
    let messages : List (List ℕ) = accepts.0 in
    let names : more.names ≡ held.names = ap (λ (x : Held). x.names) accepts.2 in
    let file : head.file ≡ s.file = ap (λ (x : Head). x.file) head_is in
    let first : head.first + 1 ≡ s.first + 1 = ap (λ (x : Head). x.first + 1) head_is in
    let within : s.file < length more.names = subst (λ (l : List (List ℕ)). s.file < length l) (sym names) named.0 in
    let name : (get_or new.files head.file no_file).name ≡ get_or held.names s.file [] =
    ap (λ (l : List FileEntry). (get_or l head.file no_file).name) grown.files ∙ ap (λ (n : ℕ). (get_or (files_of more) n no_file).name) file
    ∙ names_get 0 more.names more.pieces s.file within ∙ ap (λ (l : List (List ℕ)). get_or l s.file []) names in
    record {
      s = s;
      is = refl;
      messages = messages;
      own = accepts.1.canonical;
      same = subst (λ l. AreCanonical h.version l held.types held.words messages) (sym rows_are) accepts.1.canonical;
      placed = ap₂ (λ (n : List ℕ) (k : ℕ). numbered n k messages) name first;
    }

of_part : (f : Found) (old : Reached) (new : GrownView) (head : Head) (rows : List Row) → f.place.kind ≡ 4 → HoldsPart f.payload head rows → GrowsNext f.place.kind f.payload old.grown new
    → (h : Header) (es : List JournalEntry) (e : JournalEntry) (held : Held) → Meets f old h es e held → OfPart h e held head rows new.files
of_part f old new head rows four part grows h es e held m =
    let next_four : IsNext old.at 4 f.payload h es e = subst (λ k. IsNext old.at k f.payload h es e) four m.next in
    let is = is_segment (types_of es) e f.payload (next_form old.at 4 f.payload h es e next_four) next_four.saved in
    let s : SegmentEntry = is.0 in
    let of : IsPayloadOf (types_of es) s f.payload = record { form = is.2; is = is.3 } in
    let a = accepted h es e held m.next.legal m.run in
    subst (λ x. OfPart h x held head rows new.files) (sym is.1)
    (of_segment h held a.more (types_of es) head rows new s (part.head_is (types_of es) s of) (part.rows_are (types_of es) s of)
    (subst (λ x. Accepts h held x a.more) is.1 a.accepts) (subst (λ x. AreNamed (length held.names) (x ∷ [])) is.1 a.named) (grown_next f old new h es e held grows m))

module _ (f : Found) (old new : Reached) (kept : Kept) (head : Head) (rows : List Row) (four : f.place.kind ≡ 4) (part : HoldsPart f.payload head rows)
    (grows : GrowsNext f.place.kind f.payload old.grown new.grown) (same_kept : kept ≡ old.grown.kept)
    (looks : (pattern : List Item) → Tells pattern kept.types kept.words old.sieve → Knows pattern kept.types kept.words new.sieve) where
  -- the rows' messages, by the texts that are kept
  messages_of : (h : Header) (es : List JournalEntry) (e : JournalEntry) (held : Held) → (m : Meets f old h es e held)
      → AreCanonical h.version rows kept.types kept.words (of_part f old new.grown head rows four part grows h es e held m).messages
  messages_of h es e held m =
      let of = of_part f old new.grown head rows four part grows h es e held m in
      let is : kept ≡ kept_of h held = same_kept ∙ m.grown.kept in
      subst (λ (k : Kept). AreCanonical h.version rows k.types k.words of.messages) (sym is) of.same

  knows_of : (h : Header) (es : List JournalEntry) (e : JournalEntry) (held : Held) → (m : Meets f old h es e held) → Knows old.pattern kept.types kept.words new.sieve
  knows_of h es e held m =
      let is : kept ≡ kept_of h held = same_kept ∙ m.grown.kept in looks old.pattern (subst (λ (k : Kept). Tells old.pattern k.types k.words old.sieve) (sym is) m.sieved)

  sieved_of : (h : Header) (es : List JournalEntry) (e : JournalEntry) (held more : Held) → Accepts h held e more → (m : Meets f old h es e held) → Tells old.pattern more.types more.words new.sieve
  sieved_of h es e held more accepts m =
      let is : kept ≡ kept_of h held = same_kept ∙ m.grown.kept in
      tells_on h held more e old.pattern new.sieve accepts (subst (λ (k : Kept). Tells old.pattern k.types k.words new.sieve) is (knows_of h es e held m).tells)

  pub part_handled : (before after : Option (List ℕ)) → GoesPast f old new
      → (Knows new.pattern kept.types kept.words new.sieve → (version : ℕ) (messages : List (List ℕ)) → AreCanonical version rows kept.types kept.words messages
      → HasPrinted new.pattern (numbered (get_or new.grown.files head.file no_file).name (head.first + 1) messages) before after) → Handles f old new before after
  part_handled before after past prints = record {
    past = past;
    done = λ h es e held m.
        let a = accepted h es e held m.next.legal m.run in
        let of = of_part f old new.grown head rows four part grows h es e held m in
        let mine = prints (subst (λ (p : List Item). Knows p kept.types kept.words new.sieve) (sym past.pattern) (knows_of h es e held m)) h.version of.messages (messages_of h es e held m) in
        let has = subst (λ (l : List Placed). HasPrinted old.pattern l before after) of.placed
        (subst (λ (p : List Item). HasPrinted p (numbered (get_or new.grown.files head.file no_file).name (head.first + 1) of.messages) before after) past.pattern mine) in
        record {
          more = a.more;
          here = has.found;
          accepts = a.accepts;
          brings = subst (λ x. Brings h old.pattern held x has.found) (sym of.is) (of.messages, of.own, has.matched);
          grown = grown_next f old new.grown h es e held grows m;
          sieved = sieved_of h es e held a.more a.accepts m;
          printed = has.printed;
        };
  }

  pub part_begun : (before after : Option (List ℕ)) → GoesPast f old new
      → (Knows new.pattern kept.types kept.words new.sieve → (version : ℕ) (messages : List (List ℕ)) → AreCanonical version rows kept.types kept.words messages
      → HasPrintedFront new.pattern (numbered (get_or new.grown.files head.file no_file).name (head.first + 1) messages) before after)
      → (h : Header) (es : List JournalEntry) (e : JournalEntry) (held : Held) → Meets f old h es e held → HasBegun h held e old before after
  part_begun before after past prints h es e held m =
      let a = accepted h es e held m.next.legal m.run in
      let of = of_part f old new.grown head rows four part grows h es e held m in
      let mine = prints (subst (λ (p : List Item). Knows p kept.types kept.words new.sieve) (sym past.pattern) (knows_of h es e held m)) h.version of.messages (messages_of h es e held m) in
      let has = subst (λ (l : List Placed). HasPrintedFront old.pattern l before after) of.placed
      (subst (λ (p : List Item). HasPrintedFront p (numbered (get_or new.grown.files head.file no_file).name (head.first + 1) of.messages) before after) past.pattern mine) in
      record {
        more = a.more;
        here = has.found;
        accepts = a.accepts;
        brings = subst (λ x. Brings h old.pattern held x has.found) (sym of.is) (of.messages, of.own, has.matched);
        printed = has.printed;
      }

  pub part_none : ((version : ℕ) (messages : List (List ℕ)) → ¬ AreCanonical version rows kept.types kept.words messages) → MeetsNone f old
  part_none none h es e held m = none h.version (of_part f old new.grown head rows four part grows h es e held m).messages (messages_of h es e held m)

-- by the texts that a keeper names
pub by_names : (version : ℕ) (rows : List Row) (types words : List (List ℕ)) (kept : Kept) (messages : List (List ℕ)) → types ≡ kept.types → words ≡ kept.words
    → AreCanonical version rows kept.types kept.words messages → AreCanonical version rows types words messages
by_names version rows types words kept messages t w are =
    subst (λ l. AreCanonical version rows l words messages) (sym t) (subst (λ l. AreCanonical version rows kept.types l messages) (sym w) are)

pub knows_by : (types words : List (List ℕ)) (kept : Kept) (pattern : List Item) (s : SieveView) → types ≡ kept.types → words ≡ kept.words → Knows pattern kept.types kept.words s → Knows pattern types words s
knows_by types words kept pattern s t w knows = subst (λ l. Knows pattern l words s) (sym t) (subst (λ l. Knows pattern kept.types l s) (sym w) knows)

-- what a look at the texts that a keeper names has told of
pub looked_by : (types words : List (List ℕ)) (mid kept : Kept) (s looked new : SieveView) → types ≡ mid.types → words ≡ mid.words → kept ≡ mid → new ≡ looked
    → ((pattern : List Item) → Tells pattern types words s → Knows pattern types words looked) → (pattern : List Item) → Tells pattern kept.types kept.words s → Knows pattern kept.types kept.words new
looked_by types words mid kept s looked new t w k n knows pattern tells =
    let has = subst (λ (x : Kept). Tells pattern x.types x.words s) k tells in
    let own = subst (λ l. Tells pattern l words s) (sym t) (subst (λ l. Tells pattern mid.types l s) (sym w) has) in
    let got = subst (λ x. Knows pattern types words x) (sym n) (knows pattern own) in
    subst (λ (x : Kept). Knows pattern x.types x.words new) (sym k) (subst (λ l. Knows pattern l mid.words new) t (subst (λ l. Knows pattern types l new) w got))

-- ---- with the gate passed

module _ {B : Type 0} (keeps : B → Kept) (old mid new : Grown B) (same : new ≡ mid) where
  pub grows_to : (kind : ℕ) (payload : List ℕ) → GrowsNext kind payload (grown_of keeps old) (grown_of keeps mid) → GrowsNext kind payload (grown_of keeps old) (grown_of keeps new)
  grows_to kind payload grows = subst (λ (x : Grown B). GrowsNext kind payload (grown_of keeps old) (grown_of keeps x)) (sym same) grows

  pub names_to : keeps mid.names ≡ keeps old.names → keeps new.names ≡ keeps old.names
  names_to is = ap (λ (x : Grown B). keeps x.names) same ∙ is

  pub kept_to : keeps new.names ≡ keeps mid.names
  kept_to = ap (λ (x : Grown B). keeps x.names) same
