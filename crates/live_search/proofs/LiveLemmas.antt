-- One more entry of what is found.
use Rattle.std.proofs.Common.{◌+◌, List, [], ◌∷◌, ◌++◌, slice_index_or, refl, sym, ◌∙◌, ap, subst}
use Rattle.std.proofs.lemmas.List.{append-nil, append_assoc}
use Rattle.record_format.specs.declared.header.Header.{Header}
use Rattle.wild_match.specs.declared.pattern.Item.{Item}
use Rattle.archive_meaning.specs.declared.entry.JournalEntry.{JournalEntry}
use Rattle.archive_meaning.specs.declared.entry.JournalEntry.TheVariants.{Files, Types, Words, Segment}
use Rattle.archive_meaning.specs.Held.{Held}
use Rattle.archive_meaning.specs.Legal.{Accepts, Run}
use Rattle.printed_lines.specs.Lines.{Placed, numbered}
use Rattle.printed_lines.proofs.MatchLemmas.{some_matched}
use Rattle.search_meaning.specs.Live.{Brings, Live}

-- what is held at the end is what the entries hold
pub live_runs : (h : Header) (pattern : List Item) (held end : Held) (es : List JournalEntry) (found : List Placed) → Live h pattern held es found end → Run h held es end
live_runs h pattern held end [] found live = live.1
live_runs h pattern held end (e ∷ es) found live = (live.0, live.3, live_runs h pattern live.0 end es live.2 live.5)

pub live_more : (h : Header) (pattern : List Item) (held mid next : Held) (es : List JournalEntry) (e : JournalEntry) (found here : List Placed) → Live h pattern held es found mid → Accepts h mid e next
    → Brings h pattern mid e here → Live h pattern held (es ++ e ∷ []) (found ++ here) next
live_more h pattern held mid next [] e found here live accepts brings = (
  next,
  here,
  [],
  subst (λ x. Accepts h x e next) live.1 accepts,
  subst (λ x. Brings h pattern x e here) live.1 brings,
  (refl, refl),
  ap (λ (l : List Placed). l ++ here) live.0 ∙ sym (append-nil here),
)
live_more h pattern held mid next (f ∷ es) e found here live accepts brings = (
  live.0,
  live.1,
  live.2 ++ here,
  live.3,
  live.4,
  live_more h pattern live.0 mid next es e live.2 here live.5 accepts brings,
  ap (λ (l : List Placed). l ++ here) live.6 ∙ append_assoc live.1 live.2 here,
)

-- what more entries bring stands behind what the first brought
pub live_joined : (h : Header) (pattern : List Item) (held mid end : Held) (es more : List JournalEntry) (found rest : List Placed) → Live h pattern held es found mid → Live h pattern mid more rest end
    → Live h pattern held (es ++ more) (found ++ rest) end
live_joined h pattern held mid end [] more found rest one two =
    subst (λ (l : List Placed). Live h pattern held more (l ++ rest) end) (sym one.0) (subst (λ (x : Held). Live h pattern x more rest end) one.1 two)
live_joined h pattern held mid end (e ∷ es) more found rest one two = (
  one.0,
  one.1,
  one.2 ++ rest,
  one.3,
  one.4,
  live_joined h pattern one.0 mid end es more one.2 rest one.5 two,
  ap (λ (l : List Placed). l ++ rest) one.6 ∙ append_assoc one.1 one.2 rest,
)

-- each entry brings something, and so do the entries of a journal
brings_some : (h : Header) (pattern : List Item) (held next : Held) (e : JournalEntry) → Accepts h held e next → (here : List Placed) × Brings h pattern held e here
brings_some h pattern held next (Files names) accepts = ([], refl)
brings_some h pattern held next (Types first texts) accepts = ([], refl)
brings_some h pattern held next (Words first texts) accepts = ([], refl)
brings_some h pattern held next (Segment s) accepts =
    let some = some_matched pattern (numbered (slice_index_or held.names s.file []) (s.first + 1) accepts.0) in
    (some.0, (accepts.0, accepts.1.canonical, some.1))

pub live_exists : (h : Header) (pattern : List Item) (held end : Held) (es : List JournalEntry) → Run h held es end → (found : List Placed) × Live h pattern held es found end
live_exists h pattern held end [] run = ([], (refl, run))
live_exists h pattern held end (e ∷ es) run =
    let here = brings_some h pattern held run.0 e run.1 in
    let rest = live_exists h pattern run.0 end es run.2 in
    (here.0 ++ rest.0, (run.0, here.0, rest.0, run.1, here.1, rest.1, refl))
