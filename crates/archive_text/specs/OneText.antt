-- The bytes of a disk have one text of a file.
use Rattle.std.proofs.Common.{◌≡◌, ◌<◌, ◌^◌, ℕ, List, [], ◌∷◌, ◌++◌, length, take, drop, refl, sym, ap, ap₂, subst, ◌∙◌, None, Some}
use Rattle.std.proofs.Math.Seq.{drop-append_seam, take-append_seam}
use Rattle.column_store.specs.declared.row.Row.{Row}
use Rattle.row_codec.proofs.MeansLemmas.{one_spelling}
use Rattle.segment_format.specs.declared.head.Head.{Head}
use Rattle.segment_format.specs.Layout.{fixed_of, head_length}
use Rattle.segment_format.proofs.LawsLemmas.{rows_once}
use Rattle.segment_pages.specs.Paged.{HoldsSegment, StandsAt}
use Rattle.archive_meaning.specs.Held.{text_from}
use Rattle.archive_open.specs.declared.segments.SegmentPlace.{SegmentPlace}
use Rattle.archive_text.specs.Told.{AreWritten, HoldAllWritten, HoldsWritten, IsText}
use Rattle.std.specs.Coded.{Coded-set, coded_list, coded_option, coded_ℕ}
use mathlib.Core.HLevel.{Σ_prop_path}
use mathlib.Core.Logic.{∥∥₁_elim}
use Rattle.archive_text.specs.Laws.{OneText, OneTold, OneValue}

-- what stands at a place is so many bytes from there on
pub text_there : (at size : ℕ) (text bytes : List ℕ) → StandsAt at text bytes → length text ≡ size
    → text ≡ take size (drop at bytes)
text_there at size text bytes stands sized =
    let from : drop at bytes ≡ text ++ stands.behind
    = ap (λ n. drop n bytes) (sym stands.place)
    ∙ (ap (λ l. drop (length stands.front) l) stands.spells ∙ drop-append_seam stands.front (text ++ stands.behind)) in
    sym (ap (λ n. take n (drop at bytes)) (sym sized)
    ∙ (ap (λ l. take (length text) l) from ∙ take-append_seam text stands.behind))

-- one segment stands there
pub one_segment : (at size : ℕ) (head : Head) (bytes : List ℕ) (rows others : List Row) → HoldsSegment at size head bytes rows
    → HoldsSegment at size head bytes others → rows ≡ others
one_segment at size head bytes rows others a b =
    let same : a.payload ≡ b.payload = text_there at size a.payload bytes a.stands a.sized
    ∙ sym (text_there at size b.payload bytes b.stands b.sized) in
    let few = a.is_head.fixed.variables in
    rows_once rows others a.holds.behind.fit b.holds.behind.fit (a.holds.behind.count ∙ sym b.holds.behind.count)
    (subst (λ n. n < 2 ^ 32) (sym a.holds.behind.variables) few) (subst (λ n. n < 2 ^ 32) (sym b.holds.behind.variables) few)
    (sym a.holds.behind.spelled ∙ (ap (λ l. drop (head_length (fixed_of head)) l) same ∙ b.holds.behind.spelled))

-- rows are written as one list of messages
one_list : (types words : List (List ℕ)) (rows : List Row) (messages others : List (List ℕ))
    → AreWritten types words rows messages → AreWritten types words rows others → messages ≡ others
one_list types words [] [] [] a b = refl
one_list types words [] [] (n ∷ others) a b = absurd b
one_list types words [] (m ∷ messages) others a b = absurd a
one_list types words (r ∷ rows) [] others a b = absurd a
one_list types words (r ∷ rows) (m ∷ messages) [] a b = absurd b
one_list types words (r ∷ rows) (m ∷ messages) (n ∷ others) a b = ap₂ (λ x xs. x ∷ xs)
    (one_spelling r types words m n a.0 b.0) (one_list types words rows messages others a.1 b.1)

one_held : (types words : List (List ℕ)) (place : SegmentPlace) (bytes : List ℕ) (messages others : List (List ℕ))
    → HoldsWritten types words place bytes messages → HoldsWritten types words place bytes others → messages ≡ others
one_held types words place bytes messages others a b =
    let rows = one_segment place.payload place.length place.head bytes a.rows b.rows a.holds b.holds in
    one_list types words b.rows messages others (subst (λ rs. AreWritten types words rs messages) rows a.written) b.written

-- segments one after the other hold one list of messages
pub one_all : (types words : List (List ℕ)) (places : List SegmentPlace) (bytes : List ℕ) (messages others : List (List ℕ))
    → HoldAllWritten types words places bytes messages → HoldAllWritten types words places bytes others → messages ≡ others
one_all types words [] bytes messages others a b = a ∙ sym b
one_all types words (place ∷ places) bytes messages others a b =
    let first = one_held types words place bytes a.0 b.0 a.3 b.3 in
    let rest = one_all types words places bytes a.1 b.1 a.4 b.4 in
    a.2 ∙ (ap₂ (λ x y. x ++ y) first rest ∙ sym b.2)

pub one_text : OneText
one_text f bytes text other one two = one.is
    ∙ (ap (text_from f.open_end) (one_all _ _ _ bytes one.messages two.messages one.hold two.hold) ∙ sym two.is)

-- what is told of it is one
pub one_told : OneTold
one_told f seen None None one two = refl
one_told f seen None (Some t) one two = absurd (one two.0 t two.1 two.2)
one_told f seen (Some t) None one two = absurd (two one.0 t one.1 one.2)
one_told f seen (Some t) (Some u) one two =
    let same : one.0 ≡ two.0 = cc (one.1, two.1) in
    ap (λ x. Some x) (one_text f two.0 t u (subst (λ b. IsText f b t) same one.2) two.2)

pub has_prop : OneValue
has_prop f seen = λ u v. Σ_prop_path (λ t. squash₁)
    (∥∥₁_elim u.1 (Coded-set (coded_option (coded_list coded_ℕ)) u.0 v.0)
    (λ x. ∥∥₁_elim v.1 (Coded-set (coded_option (coded_list coded_ℕ)) u.0 v.0) (λ y. one_told f seen u.0 v.0 x y)))
