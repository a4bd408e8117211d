-- What a walk holds before it goes over the segments.
use Rattle.std.proofs.Common.{◌≡◌, ⊎_elim, refl, sym, subst, ℕ, List, ◌++◌, Option, None, Some}
use Rattle.std.specs.Prelude.{slice_get}
use Rattle.std.specs.List.{Contains}
use Rattle.std.proofs.lemmas.List.Elements.{All-weaker, Contains-append_left, Contains-append_right}
use Rattle.log_seams.specs.Disk.{DiskState}
use Rattle.archive_places.specs.declared.places.Places.{Places}
use Rattle.archive_places.specs.Opened.{ArePlacesOrdered}
use Rattle.query_plan.specs.declared.pieces.Piece.{Piece}
use Rattle.query_plan.specs.Pieces.{wide_pieces}
use Rattle.subquery_filter.specs.declared.asking.AskedTypes.{AskedTypes}
use Rattle.subquery_filter.specs.declared.filter.Filter.{Filter}
use Rattle.subquery_filter.specs.Asking.{AreAsked, AreConstants, HasRejected}
use Rattle.subquery_filter.specs.Filter.{IsFilter}
use Rattle.word_places.specs.declared.place.WordsPlace.{WordsPlace}
use Rattle.word_places.specs.Held.{HeldNames, kept_of}
use Rattle.word_places.specs.Kept.{KeptTypes}
use Rattle.word_places.specs.Places.{SomeWords}
use Rattle.word_places.specs.Reads.{IsOfWords, ReadsWords}
use Rattle.word_places.proofs.ReadLemmas.{words_on}
use Rattle.search_walk.specs.declared.prepared.Prepared.{Prepared}
use Rattle.search_meaning.specs.Scan.{Asked}
use Rattle.search_walk.specs.declared.type_asking.PassedTypes.{PassedTypes}
use Rattle.search_walk.specs.Held.{IsTold, Named, named}
use Rattle.search_walk.specs.Prepared.{KeepsPlaces, ReadsTexts}
use Rattle.search_walk.specs.Ready.{Serves}
use Rattle.search_walk.specs.StepsScope.{IsFilterOf}
use Rattle.search_walk.specs.TypePass.{ArePassed}
use Rattle.search_walk.proofs.JournalLemmas.{Knows, knows}
use Rattle.search_walk.proofs.ReadyLemmas.{serves_first, words_are}

-- its names are those at the places
pub knows_kept : (seen later : Option (List ℕ)) (a : Places) (p : Prepared) → later ≡ seen → KeepsPlaces seen a p → Knows seen a (named later p.held)
knows_kept seen later a p same kept = knows seen later a p.held (named later p.held) same kept.type_places kept.version kept.records refl

-- its words are those of its names
pub serves_kept : (seen told : Option (List ℕ)) (a : Places) (p : Prepared) → ArePlacesOrdered a → KeepsPlaces seen a p → Serves (named told p.held) p.held
serves_kept seen told a p order kept = serves_first told p.held a.words kept.records order.1

-- what was read of some records was read of more
among : (some all : List WordsPlace) (old new : DiskState) → ((p : WordsPlace) → Contains some p → Contains all p) → ReadsWords some old new → ReadsWords all old new
among some all old new are reads = record {
  more = reads.more;
  added = reads.added;
  within = All-weaker (λ r. IsOfWords some r.0 r.1) (λ r. IsOfWords all r.0 r.1) (λ r of. record { place = of.place; one = are of.place of.one; low = of.low; high = of.high }) reads.more reads.within;
}

-- words alone were read
pub words_read : (a : Places) (old new : DiskState) → ReadsWords a.words old new → ReadsTexts a old new
words_read a old new reads = among a.words (a.types ++ a.words) old new (λ p is. Contains-append_right a.types a.words p is) reads

-- and then log types
pub texts_read : (a : Places) (old mid new : DiskState) → ReadsWords a.words old mid → ReadsWords a.types mid new → ReadsTexts a old new
texts_read a old mid new words types =
    words_on (a.types ++ a.words) old mid new (words_read a old mid words) (among a.types (a.types ++ a.words) mid new (λ p is. Contains-append_left a.types a.words p is) types)

-- ---- what log types that were asked tell

pub some_map : (told : Option (List ℕ)) (places : List WordsPlace) (P Q : List (List ℕ) → Type 0) → ((words : List (List ℕ)) → P words → Q words) → SomeWords told places P → SomeWords told places Q
some_map told places P Q step some = (some.0, some.1, step some.0 some.2)

-- the filter and the constants are those of the log types, and those that it does not reject are held
pub record TellsOf (ps : List Piece) (types words held : List (List ℕ)) (asked : AskedTypes) : Type 0 where
  pub is : IsFilter ps types words asked.filter
  pub kept : (t : ℕ) → ¬ HasRejected asked.filter t → slice_get held t ≡ slice_get types t
  pub constants : AreConstants ps types asked.constants.items

passed_tells : (ps : List Piece) (f : Filter) (types words : List (List ℕ)) (passed : PassedTypes) → IsFilter ps types words f → ArePassed ps f types passed → TellsOf ps types words passed.texts.texts passed.asked
passed_tells ps f types words passed is are =
    let asked : AreAsked ps f types passed.asked = are.asked_are types is.asks in
    record {
      is = asked.filter types words (λ t below. refl) is;
      kept = λ t not. ⊎_elim (λ same. same) (λ rejected. absurd (not rejected)) (are.each types is.asks t);
      constants = asked.constants;
    }

-- those of the names, where the words stand
pub named_tells : (ps : List Piece) (f : Filter) (later : Option (List ℕ)) (held : HeldNames) (passed : PassedTypes) → kept_of held ≡ passed.texts → SomeWords later held.type_places (λ types. ArePassed ps f types passed)
    → ((types : List (List ℕ)) → IsFilter ps types (named later held).words f) → IsTold (named later held) → TellsOf ps (named later held).types (named later held).words held.types passed.asked
named_tells ps f None held passed same some filters told = absurd told
named_tells ps f (Some bytes) held passed same some filters told =
    let words = (named (Some bytes) held).words in
    subst (λ (l : List (List ℕ)). TellsOf ps l words held.types passed.asked) (sym (words_are 0 held.type_places bytes some.0 some.1))
    (subst (λ (k : KeptTypes). TellsOf ps some.0 words k.texts passed.asked) (sym same) (passed_tells ps f some.0 words passed (filters some.0) some.2))

-- the filter of a query
pub tells_filter : (n : Named) (q : Asked) (ps : List Piece) (asked : AskedTypes) → ps ≡ wide_pieces q.pattern → TellsOf ps n.types n.words n.kept.texts asked → IsFilterOf n q asked.filter
tells_filter n q ps asked same tells = record { is = subst (λ (l : List Piece). IsFilter l n.types n.words asked.filter) same tells.is; kept = tells.kept }
