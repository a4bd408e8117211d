-- The command that counts, from opening, counting and printing.
use Rattle.std.proofs.Common.{◌≡◌, refl, sym, ap, subst, inl, inr, ◌∙◌, ℕ, Bool, true, false, List, [], ◌++◌, Option, None, Some, append_assoc, append-nil, option_map}
use Rattle.std.proofs.lemmas.List.Elements.{All-append, All-nil, All-weaker}
use Rattle.sink_pieces.specs.Output.{Grew, GrewByFront}
use Rattle.record_format.specs.declared.header.Header.{Header}
use Rattle.archive_meaning.specs.declared.entry.JournalEntry.{JournalEntry}
use Rattle.archive_meaning.specs.Held.{Held}
use Rattle.archive_open.specs.Shown.{Misses, ReadsAside, Spares}
use Rattle.search_meaning.specs.Scan.{Asked}
use Rattle.search_meaning.specs.Journal.{MissesBarren, OfJournal, ReadsNoBarren}
use Rattle.group_count.specs.Grouped.{HasGrouped}
use Rattle.search_meaning.specs.declared.groups.GroupBy.{GroupBy}
use Rattle.search_meaning.specs.declared.groups.Grouped.{Grouped}
use Rattle.command_answers.specs.Grouping.{IsCounted, PrintsGroups, TellsGroups, grouped_text}
use Rattle.command_answers.specs.Searching.{SparesBarren}

-- ---- what was counted

counted_of : (h : Header) (es : List JournalEntry) (held : Held) (q : Asked) (by : GroupBy) (g : Grouped) (o0 o1 e0 e1 : ℕ) → HasGrouped h es held q by g o0 o1 e0 e1 → IsCounted h es held q by g
counted_of h es held q by g o0 o1 e0 e1 c = record {
  found = c.found;
  expanded = c.expansions;
  opened = c.segments;
  segments = c.all;
  are_found = c.are_found;
  are_expanded = c.are_expanded;
  are_segments = c.are_all.are;
  are_opened = c.are_opened;
  groups = c.groups;
  report = c.report;
}

-- of the journal that the bytes stand for
pub counted_in : (q : Asked) (by : GroupBy) (seen later : Option (List ℕ)) (g : Grouped) (o0 o1 e0 e1 : ℕ) → later ≡ seen → OfJournal later (λ h es held. HasGrouped h es held q by g o0 o1 e0 e1)
    → OfJournal seen (λ h es held. IsCounted h es held q by g)
counted_in q by None later g o0 o1 e0 e1 same grouped = tt
counted_in q by (Some bytes) later g o0 o1 e0 e1 same grouped =
    let here = subst (λ x. OfJournal x (λ h es held. HasGrouped h es held q by g o0 o1 e0 e1)) same grouped in
    λ h es stood. counted_of h es stood.legal.held q by g o0 o1 e0 e1 (here h es stood)

-- ---- what is printed

-- nothing was
pub groups_untold : (done : Bool) (q : Asked) (by : GroupBy) (stats : Bool) (bytes old : Option (List ℕ)) → done ≡ false → PrintsGroups done q by stats bytes old old
groups_untold done q by stats bytes old not_done = subst (λ b. PrintsGroups b q by stats bytes old old) (sym not_done) (inl refl)

tells : (took : List ℕ → Type 0) (q : Asked) (by : GroupBy) (stats : Bool) (bytes : Option (List ℕ)) (g : Grouped) (text : List ℕ) → OfJournal bytes (λ h es held. IsCounted h es held q by g)
    → text ≡ grouped_text stats by g → took text → TellsGroups took q by stats bytes
tells took q by stats bytes g text counted is taken = record { grouped = g; counted = counted; text = subst took is taken }

pub groups_told : (q : Asked) (by : GroupBy) (stats : Bool) (bytes old new : Option (List ℕ)) (g : Grouped) (text : List ℕ) → OfJournal bytes (λ h es held. IsCounted h es held q by g)
    → text ≡ grouped_text stats by g → Grew old new text → PrintsGroups true q by stats bytes old new
groups_told q by stats bytes old new g text counted is grew = tells (Grew old new) q by stats bytes g text counted is grew

pub groups_half_told : (done : Bool) (q : Asked) (by : GroupBy) (stats : Bool) (bytes old new : Option (List ℕ)) (g : Grouped) (text : List ℕ) → done ≡ false
    → OfJournal bytes (λ h es held. IsCounted h es held q by g) → text ≡ grouped_text stats by g → GrewByFront old new text → PrintsGroups done q by stats bytes old new
groups_half_told done q by stats bytes old new g text not_done counted is front =
    subst (λ b. PrintsGroups b q by stats bytes old new) (sym not_done) (inr (tells (GrewByFront old new) q by stats bytes g text counted is front))

-- ---- what is read

added_both : (old mid new : Option (List (ℕ × ℕ))) (a b : List (ℕ × ℕ)) → mid ≡ option_map (λ ranges. ranges ++ a) old → new ≡ option_map (λ ranges. ranges ++ b) mid → new ≡ option_map (λ ranges. ranges ++ (a ++ b)) old
added_both None mid new a b first second = second ∙ ap (option_map (λ ranges. ranges ++ b)) first
added_both (Some ranges) mid new a b first second = second ∙ (ap (option_map (λ rs. rs ++ b)) first ∙ ap Some (append_assoc ranges a b))

-- what misses the columns of all segments misses those of the barren ones
reads_opened : (h : Header) (es : List JournalEntry) (held : Held) (q : Asked) (old new : Option (List (ℕ × ℕ))) → ReadsAside h es old new → ReadsNoBarren h es held q old new
reads_opened h es held q old new r = record {
  more = r.more;
  added = r.added;
  each = All-weaker (λ x. Misses h es x.0 x.1) (λ x. MissesBarren h es held q x.0 x.1) (λ x misses before after s is barren. misses before after s is) r.more r.aside;
}

reads_both : (h : Header) (es : List JournalEntry) (held : Held) (q : Asked) (old mid new : Option (List (ℕ × ℕ))) → ReadsNoBarren h es held q old mid → ReadsNoBarren h es held q mid new → ReadsNoBarren h es held q old new
reads_both h es held q old mid new a b = record {
  more = a.more ++ b.more;
  added = added_both old mid new a.more b.more a.added b.added;
  each = All-append (λ x. MissesBarren h es held q x.0 x.1) a.more b.more a.each b.each;
}

added_none : (old : Option (List (ℕ × ℕ))) → old ≡ option_map (λ ranges. ranges ++ []) old
added_none None = refl
added_none (Some ranges) = ap Some (sym (append-nil ranges))

-- of the journal that the bytes stand for
pub spares_untouched : (q : Asked) (seen : Option (List ℕ)) (old : Option (List (ℕ × ℕ))) → SparesBarren q seen old old
spares_untouched q None old = tt
spares_untouched q (Some bytes) old = λ h es stood. record { more = []; added = added_none old; each = All-nil (λ x. MissesBarren h es stood.legal.held q x.0 x.1) }

pub spares_opened : (q : Asked) (seen : Option (List ℕ)) (old new : Option (List (ℕ × ℕ))) → Spares seen old new → SparesBarren q seen old new
spares_opened q None old new spares = tt
spares_opened q (Some bytes) old new spares = λ h es stood. reads_opened h es stood.legal.held q old new (spares h es stood)

pub spares_counted : (q : Asked) (seen later : Option (List ℕ)) (old mid new : Option (List (ℕ × ℕ))) → later ≡ seen → Spares seen old mid → OfJournal later (λ h es held. ReadsNoBarren h es held q mid new) → SparesBarren q seen old new
spares_counted q None later old mid new same spares reads = tt
spares_counted q (Some bytes) later old mid new same spares reads =
    let here = subst (λ x. OfJournal x (λ h es held. ReadsNoBarren h es held q mid new)) same reads in
    λ h es stood. reads_both h es stood.legal.held q old mid new (reads_opened h es stood.legal.held q old mid (spares h es stood)) (here h es stood)
