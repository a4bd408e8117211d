-- The command that searches an archive, from opening, searching and the line of the counts.
use Rattle.std.proofs.Common.{◌≡◌, refl, sym, ap, ap₂, subst, ◌∙◌, ℕ, Bool, true, false, List, [], ◌++◌, Option, None, Some, append_assoc, append-nil, option_map}
use Rattle.std.specs.Prelude.{if◌then◌else◌}
use Rattle.std.proofs.lemmas.List.Elements.{All-append, All-nil, All-weaker}
use Rattle.std.proofs.lemmas.List.Sorted.{IsPermutation-refl}
use Rattle.sink_pieces.specs.Output.{Grew, GrewByFront}
use Rattle.sink_pieces.proofs.OutputLemmas.{Grew-append, Grew-nothing}
use Rattle.record_format.specs.declared.header.Header.{Header}
use Rattle.archive_meaning.specs.declared.entry.JournalEntry.{JournalEntry}
use Rattle.archive_meaning.specs.Held.{Held}
use Rattle.archive_open.specs.Shown.{Misses, ReadsAside, Spares, places_of}
use Rattle.search_meaning.specs.declared.report.Report.{Report}
use Rattle.printed_lines.specs.Lines.{lines_of}
use Rattle.search_meaning.specs.Scan.{Asked}
use Rattle.search_engine.specs.Searched.{HasSearched, HasStopped}
use Rattle.search_meaning.specs.Journal.{MissesBarren, OfJournal, ReadsNoBarren}
use Rattle.search_walk.proofs.PickLemmas.{picks_once}
use Rattle.command_answers.specs.Searching.{Found, PrintsFound, PrintsText, SparesBarren, found_counts, found_text, report_of}

-- ---- what is printed

-- nothing was
text_unopened : (h : Header) (es : List JournalEntry) (held : Held) (q : Asked) (stats : Bool) (old : Option (List ℕ)) → PrintsText false h es held q stats old old
text_unopened h es held q stats old = record {
  segments = places_of es;
  are_segments = IsPermutation-refl (places_of es);
  there = λ e. absurd (cc (e));
  took = λ f. ([], found_text stats f.found (report_of f.found f.tried f.opened (places_of es)), refl, Grew-nothing old);
}

-- a front of the lines
text_stopped : (h : Header) (es : List JournalEntry) (held : Held) (q : Asked) (stats : Bool) (old new : Option (List ℕ)) (o0 o1 e0 e1 : ℕ) → HasStopped h es held q old new o0 o1 e0 e1 → PrintsText false h es held q stats old new
text_stopped h es held q stats old new o0 o1 e0 e1 stopped = record {
  segments = stopped.all;
  are_segments = stopped.are_all.are;
  there = λ e. absurd (cc (e));
  took = λ f.
      let p = stopped.printed f.found f.are_found in
      let line : List ℕ = if stats then found_counts (report_of f.found f.tried f.opened stopped.all) else [] in
      (p.0, p.1 ++ line, ap (λ t. t ++ line) p.2 ∙ append_assoc p.0 p.1 line, p.3);
}

-- a search that is done found what there is
report_is : (h : Header) (es : List JournalEntry) (held : Held) (q : Asked) (r : Report) (old new : Option (List ℕ)) (o0 o1 e0 e1 : ℕ) (s : HasSearched h es held q r old new o0 o1 e0 e1) (f : Found h held q s.all)
    → report_of f.found f.tried f.opened s.all ≡ r
report_is h es held q r old new o0 o1 e0 e1 s f =
    ap (λ x. report_of x f.tried f.opened s.all) (picks_once _ _ f.found s.found f.are_found s.are_found)
    ∙ (ap (λ x. report_of s.found x f.opened s.all) (picks_once _ _ f.tried s.tried f.are_tried s.are_tried)
    ∙ (ap (λ x. report_of s.found s.tried x s.all) (picks_once _ _ f.opened s.segments f.are_opened s.are_opened) ∙ sym s.report))

text_is : (h : Header) (es : List JournalEntry) (held : Held) (q : Asked) (stats : Bool) (r : Report) (old new : Option (List ℕ)) (o0 o1 e0 e1 : ℕ) (s : HasSearched h es held q r old new o0 o1 e0 e1) (f : Found h held q s.all)
    → found_text stats f.found (report_of f.found f.tried f.opened s.all) ≡ found_text stats s.found r
text_is h es held q stats r old new o0 o1 e0 e1 s f =
    ap₂ (λ x y. found_text stats x y) (picks_once _ _ f.found s.found f.are_found s.are_found) (report_is h es held q r old new o0 o1 e0 e1 s f)

-- the lines, and the line of the counts where it is asked for
text_done : (h : Header) (es : List JournalEntry) (held : Held) (q : Asked) (stats : Bool) (r : Report) (old mid new : Option (List ℕ)) (o0 o1 e0 e1 : ℕ) → HasSearched h es held q r old mid o0 o1 e0 e1
    → Grew mid new (if stats then found_counts r else []) → PrintsText true h es held q stats old new
text_done h es held q stats r old mid new o0 o1 e0 e1 s grew = record {
  segments = s.all;
  are_segments = s.are_all.are;
  there = λ e. record { found = s.found; tried = s.tried; opened = s.segments; are_found = s.are_found; are_tried = s.are_tried; are_opened = s.are_opened };
  took = λ f. subst (λ t. Grew old new t) (sym (text_is h es held q stats r old mid o0 o1 e0 e1 s f)) (Grew-append old mid new (lines_of s.found) (if stats then found_counts r else []) s.printed grew);
}

-- the lines, and a front of the line of the counts
text_uncounted : (h : Header) (es : List JournalEntry) (held : Held) (q : Asked) (stats : Bool) (r : Report) (old mid new : Option (List ℕ)) (o0 o1 e0 e1 : ℕ) → HasSearched h es held q r old mid o0 o1 e0 e1
    → GrewByFront mid new (if stats then found_counts r else []) → PrintsText false h es held q stats old new
text_uncounted h es held q stats r old mid new o0 o1 e0 e1 s g = record {
  segments = s.all;
  are_segments = s.are_all.are;
  there = λ e. absurd (cc (e));
  took = λ f. (
    lines_of s.found ++ g.0,
    g.1,
    text_is h es held q stats r old mid o0 o1 e0 e1 s f ∙ (ap (λ t. lines_of s.found ++ t) g.2 ∙ sym (append_assoc (lines_of s.found) g.0 g.1)),
    Grew-append old mid new (lines_of s.found) g.0 s.printed g.3,
  );
}

-- the line of the counts, where it is asked for and where it is not
pub grew_counted : (stats : Bool) (r : Report) (mid new told : Option (List ℕ)) → stats ≡ true → new ≡ told → Grew mid told (found_counts r) → Grew mid new (if stats then found_counts r else [])
grew_counted stats r mid new told is same grew = subst (λ b. Grew mid new (if b then found_counts r else [])) (sym is) (subst (λ x. Grew mid x (found_counts r)) (sym same) grew)

pub grew_bare : (stats : Bool) (r : Report) (mid new : Option (List ℕ)) → stats ≡ false → new ≡ mid → Grew mid new (if stats then found_counts r else [])
grew_bare stats r mid new is same = subst (λ b. Grew mid new (if b then found_counts r else [])) (sym is) (subst (λ x. Grew mid x []) (sym same) (Grew-nothing mid))

-- of the journal that the bytes stand for
pub found_unopened : (done : Bool) (q : Asked) (stats : Bool) (seen old : Option (List ℕ)) → done ≡ false → PrintsFound done q stats seen old old
found_unopened done q stats None old not_done = tt
found_unopened done q stats (Some bytes) old not_done = subst (λ b. PrintsFound b q stats (Some bytes) old old) (sym not_done) (λ h es stood. text_unopened h es stood.legal.held q stats old)

pub found_stopped : (done : Bool) (q : Asked) (stats : Bool) (seen later : Option (List ℕ)) (old new : Option (List ℕ)) (o0 o1 e0 e1 : ℕ) → done ≡ false → later ≡ seen
    → OfJournal later (λ h es held. HasStopped h es held q old new o0 o1 e0 e1) → PrintsFound done q stats seen old new
found_stopped done q stats None later old new o0 o1 e0 e1 not_done same stopped = tt
found_stopped done q stats (Some bytes) later old new o0 o1 e0 e1 not_done same stopped =
    let here = subst (λ x. OfJournal x (λ h es held. HasStopped h es held q old new o0 o1 e0 e1)) same stopped in
    subst (λ b. PrintsFound b q stats (Some bytes) old new) (sym not_done) (λ h es stood. text_stopped h es stood.legal.held q stats old new o0 o1 e0 e1 (here h es stood))

pub found_done : (q : Asked) (stats : Bool) (seen later : Option (List ℕ)) (r : Report) (old mid new : Option (List ℕ)) (o0 o1 e0 e1 : ℕ) → later ≡ seen
    → OfJournal later (λ h es held. HasSearched h es held q r old mid o0 o1 e0 e1) → Grew mid new (if stats then found_counts r else []) → PrintsFound true q stats seen old new
found_done q stats None later r old mid new o0 o1 e0 e1 same searched grew = tt
found_done q stats (Some bytes) later r old mid new o0 o1 e0 e1 same searched grew =
    let here = subst (λ x. OfJournal x (λ h es held. HasSearched h es held q r old mid o0 o1 e0 e1)) same searched in
    λ h es stood. text_done h es stood.legal.held q stats r old mid new o0 o1 e0 e1 (here h es stood) grew

pub found_uncounted : (done : Bool) (q : Asked) (stats : Bool) (seen later : Option (List ℕ)) (r : Report) (old mid new : Option (List ℕ)) (o0 o1 e0 e1 : ℕ) → done ≡ false → stats ≡ true → later ≡ seen
    → OfJournal later (λ h es held. HasSearched h es held q r old mid o0 o1 e0 e1) → GrewByFront mid new (found_counts r) → PrintsFound done q stats seen old new
found_uncounted done q stats None later r old mid new o0 o1 e0 e1 not_done asked same searched g = tt
found_uncounted done q stats (Some bytes) later r old mid new o0 o1 e0 e1 not_done asked same searched g =
    let here = subst (λ x. OfJournal x (λ h es held. HasSearched h es held q r old mid o0 o1 e0 e1)) same searched in
    let front : GrewByFront mid new (if stats then found_counts r else []) = subst (λ b. GrewByFront mid new (if b then found_counts r else [])) (sym asked) g in
    subst (λ b. PrintsFound b q stats (Some bytes) old new) (sym not_done) (λ h es stood. text_uncounted h es stood.legal.held q stats r old mid new o0 o1 e0 e1 (here h es stood) front)

-- ---- what is read

added_both : (old mid new : Option (List (ℕ × ℕ))) (a b : List (ℕ × ℕ)) → mid ≡ option_map (λ ranges. ranges ++ a) old → new ≡ option_map (λ ranges. ranges ++ b) mid → new ≡ option_map (λ ranges. ranges ++ (a ++ b)) old
added_both None mid new a b first second = second ∙ ap (option_map (λ ranges. ranges ++ b)) first
added_both (Some ranges) mid new a b first second = second ∙ (ap (option_map (λ rs. rs ++ b)) first ∙ ap Some (append_assoc ranges a b))

-- what misses the columns of all segments misses those of the barren ones
reads_opened : (h : Header) (es : List JournalEntry) (held : Held) (q : Asked) (old new : Option (List (ℕ × ℕ))) → ReadsAside h es old new → ReadsNoBarren h es held q old new
reads_opened h es held q old new r = record {
  more = r.more;
  added = r.added;
  each = All-weaker (λ x. Misses h es x.0 x.1) (λ x. MissesBarren h es held q x.0 x.1) (λ x misses before after s is barren. misses before after s is) r.more r.aside;
}

reads_both : (h : Header) (es : List JournalEntry) (held : Held) (q : Asked) (old mid new : Option (List (ℕ × ℕ))) → ReadsNoBarren h es held q old mid → ReadsNoBarren h es held q mid new → ReadsNoBarren h es held q old new
reads_both h es held q old mid new a b = record {
  more = a.more ++ b.more;
  added = added_both old mid new a.more b.more a.added b.added;
  each = All-append (λ x. MissesBarren h es held q x.0 x.1) a.more b.more a.each b.each;
}

added_none : (old : Option (List (ℕ × ℕ))) → old ≡ option_map (λ ranges. ranges ++ []) old
added_none None = refl
added_none (Some ranges) = ap Some (sym (append-nil ranges))

-- of the journal that the bytes stand for
pub spares_untouched : (q : Asked) (seen : Option (List ℕ)) (old : Option (List (ℕ × ℕ))) → SparesBarren q seen old old
spares_untouched q None old = tt
spares_untouched q (Some bytes) old = λ h es stood. record { more = []; added = added_none old; each = All-nil (λ x. MissesBarren h es stood.legal.held q x.0 x.1) }

pub spares_opened : (q : Asked) (seen : Option (List ℕ)) (old new : Option (List (ℕ × ℕ))) → Spares seen old new → SparesBarren q seen old new
spares_opened q None old new spares = tt
spares_opened q (Some bytes) old new spares = λ h es stood. reads_opened h es stood.legal.held q old new (spares h es stood)

pub spares_searched : (q : Asked) (seen later : Option (List ℕ)) (old mid new : Option (List (ℕ × ℕ))) → later ≡ seen → Spares seen old mid → OfJournal later (λ h es held. ReadsNoBarren h es held q mid new) → SparesBarren q seen old new
spares_searched q None later old mid new same spares reads = tt
spares_searched q (Some bytes) later old mid new same spares reads =
    let here = subst (λ x. OfJournal x (λ h es held. ReadsNoBarren h es held q mid new)) same reads in
    λ h es stood. reads_both h es stood.legal.held q old mid new (reads_opened h es stood.legal.held q old mid (spares h es stood)) (here h es stood)
