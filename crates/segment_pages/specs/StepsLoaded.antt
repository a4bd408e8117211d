-- What the buffer of a page holds before it is taken as columns.
use Rattle.std.specs.Prelude.{◌≡◌, ◌<◌, ◌*◌, ◌^◌, ℕ, Bool, true, false, List, ◌++◌, length, drop, sum, Option, Some, None, All}
use Rattle.std.specs.List.{flat_map}
use Rattle.record_format.specs.Lists.{four_bytes}
use Rattle.segment_format.specs.declared.ask.PageAsk.{PageAsk}
use Rattle.segment_format.specs.Pages.{Pages, page_rows, pieces}
use Rattle.segment_format.specs.Laws.{page_bytes, piece}
use Rattle.segment_pages.specs.Paged.{Paged, ended}

-- the four pieces of a page whose length the count of rows tells
abbrev pub fixed_bytes : PageAsk → List ℕ → List ℕ
fixed_bytes ask payload =
    piece ask.patterns ask.rows payload
    ++ (piece ask.moments (8 * ask.rows) payload
    ++ (piece ask.types (4 * ask.rows) payload
    ++ piece ask.counts (4 * ask.rows) payload))

-- they stand in a buffer, where the bytes of the disk are told
abbrev pub FixedTold : Option (List ℕ) → ℕ → PageAsk → List ℕ → Type 0
FixedTold None at ask text = Unit {0}
FixedTold (Some bytes) at ask text = text ≡ fixed_bytes ask (drop at bytes)

-- the text is the page's five pieces as they stand in the bytes, the last of them as long as its counts say
pub record HasLoaded (p : Paged) (bytes text : List ℕ) : Type 0 where
  pub counts : List ℕ
  pub fit : All (λ k. k < 2 ^ 32) counts
  pub spelled : piece (pieces p.pages).counts (4 * page_rows p.pages) (drop p.at bytes) ≡ flat_map four_bytes counts
  pub pieces_are : text ≡ page_bytes p.pages (sum counts) (drop p.at bytes)

abbrev pub LoadedTold : Option (List ℕ) → Paged → List ℕ → Type 0
LoadedTold None p text = Unit {0}
LoadedTold (Some bytes) p text = HasLoaded p bytes text

-- the bytes end within a payload
abbrev pub EndsBefore : ℕ → Option (List ℕ) → Type 0
EndsBefore end None = Unit {0}
EndsBefore end (Some bytes) = length bytes < end

-- where a reader stands, that may have passed all rows
abbrev pub passing : Bool → Pages → Pages
passing false p = p
passing true p = ended p
