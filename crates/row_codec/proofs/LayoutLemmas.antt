-- Runs of constants with slots behind them.
use Rattle.std.proofs.Common.{◌≡◌, ℕ, zero, suc, ◌-◌, ◌+◌, ◌≤◌, ◌<◌, List, [], ◌∷◌, ◌++◌, length, take, drop, map, refl, sym, ◌∙◌, ap, ap₂, subst, arith, append_assoc}
use Rattle.std.specs.Prelude.{All, OnErr, Result, Ok, Err, Some, slice_get}
use mathlib.Core.List.{IsPrefix}
use Rattle.std.proofs.lemmas.List.{append-nil, length-append, take-append-le, drop-append-le}
use Rattle.std.proofs.Math.Seq.{drop-append_seam, take-append_seam}
use Rattle.std.proofs.lemmas.List.Elements.{All-head, All-push, All-tail, All-weaker}
use Rattle.logtype_text.specs.declared.symbols.Kind.{Kind}
use Rattle.logtype_text.specs.declared.symbols.Symbol.{Symbol}
use Rattle.logtype_text.specs.declared.symbols.Symbol.TheVariants.{Byte, Slot}
use Rattle.logtype_text.specs.Parts.{symbol_of}
use Rattle.logtype_text.specs.TypeText.{IsTypeText, text_of_symbol}
use Rattle.logtype_text.proofs.TextLemmas.{rest_spelled}
use Rattle.row_codec.specs.declared.layouts.Next.{Next}
use Rattle.row_codec.specs.declared.layouts.Next.TheVariants.{Slot as NextSlot, End, Misfit}
use Rattle.row_codec.specs.declared.layouts.Piece.{Piece}
use Rattle.row_codec.specs.declared.layouts.Start.{Start}
use Rattle.row_codec.specs.Laid.{AreCut}
use Rattle.row_codec.specs.StepsBody.{HasBody, IsBody, Puts}
use Rattle.row_codec.specs.StepsLayouts.{AddsRun, AddsSymbol, IsClosed, IsCutUpTo, IsLaidOut, LaysOut, Needs, constants, laid_text, run_text, spelled}
use Rattle.row_codec.proofs.BodyLemmas.{IsPlain, plain_text, puts_byte, puts_has, puts_then, body_empty}

pub constants_append : (a b : List ℕ) → constants (a ++ b) ≡ constants a ++ constants b
constants_append [] b = refl
constants_append (x ∷ a) b = ap (λ l. text_of_symbol (Byte x) ++ l) (constants_append a b) ∙ sym (append_assoc (text_of_symbol (Byte x)) (constants a) (constants b))

pub constants_plain : (run : List ℕ) → All IsPlain run → constants run ≡ run
constants_plain [] plain = refl
constants_plain (b ∷ run) plain =
    ap₂ (λ (x y : List ℕ). x ++ y) (plain_text b (All-head IsPlain b run plain)) (constants_plain run (All-tail IsPlain b run plain))

-- a run with the same behind it
pub run_same : (run : List ℕ) (next : Next) (P : Type 0) (a b : List ℕ) → Needs run next P → (P → a ≡ b) → run_text run next a ≡ run_text run next b
run_same run (NextSlot kind) P a b needs same = ap (λ l. constants run ++ (text_of_symbol (Slot kind) ++ l)) (same needs)
run_same run End P a b needs same = refl
run_same run Misfit P a b needs same = refl

pub needs_then : (run : List ℕ) (next : Next) (P Q : Type 0) → Needs run next P → (P → Q) → Needs run next Q
needs_then run (NextSlot kind) P Q needs then = then needs
needs_then run End P Q needs then = tt
needs_then run Misfit P Q needs then = needs

-- what follows a closed front is not looked at
pub spelled_more : (bytes more : List ℕ) (pieces others : List Piece) → IsClosed bytes pieces → spelled (bytes ++ more) (pieces ++ others) ≡ spelled bytes pieces
spelled_more bytes more [] others closed = absurd closed
spelled_more bytes more (piece ∷ pieces) others closed =
    let run : take piece.len (bytes ++ more) ≡ take piece.len bytes = take-append-le piece.len bytes more closed.0 in
    let rest : drop piece.len (bytes ++ more) ≡ drop piece.len bytes ++ more = drop-append-le piece.len bytes more closed.0 in
    ap₂ (λ (r l : List ℕ). run_text r piece.next (spelled l (pieces ++ others))) run rest
    ∙ run_same (take piece.len bytes) piece.next (IsClosed (drop piece.len bytes) pieces) _ _ closed.1 (λ c. spelled_more (drop piece.len bytes) more pieces others c)

pub closed_more : (bytes more : List ℕ) (pieces others : List Piece) → IsClosed bytes pieces → IsClosed (bytes ++ more) (pieces ++ others)
closed_more bytes more [] others closed = absurd closed
closed_more bytes more (piece ∷ pieces) others closed =
    let run : take piece.len (bytes ++ more) ≡ take piece.len bytes = take-append-le piece.len bytes more closed.0 in
    let rest : drop piece.len (bytes ++ more) ≡ drop piece.len bytes ++ more = drop-append-le piece.len bytes more closed.0 in (
      omega (arith, closed.0, length-append bytes more),
      subst (λ r. Needs r piece.next (IsClosed (drop piece.len (bytes ++ more)) (pieces ++ others))) (sym run)
          (subst (λ l. Needs (take piece.len bytes) piece.next (IsClosed l (pieces ++ others))) (sym rest)
          (needs_then (take piece.len bytes) piece.next (IsClosed (drop piece.len bytes) pieces) _ closed.1 (λ c. closed_more (drop piece.len bytes) more pieces others c))),
    )

-- a log type stays as it is where more is added
pub laid_stays : (bytes more : List ℕ) (pieces others : List Piece) (start : Start) → IsLaidOut bytes pieces start → laid_text (bytes ++ more) (pieces ++ others) start ≡ laid_text bytes pieces start
laid_stays bytes more pieces others start laid =
    ap₂ (λ (l : List ℕ) (p : List Piece). spelled l p) (drop-append-le start.byte bytes more laid.byte) (drop-append-le start.piece pieces others laid.piece)
    ∙ spelled_more (drop start.byte bytes) more (drop start.piece pieces) others laid.closed

pub laid_more : (bytes more : List ℕ) (pieces others : List Piece) (start : Start) → IsLaidOut bytes pieces start → IsLaidOut (bytes ++ more) (pieces ++ others) start
laid_more bytes more pieces others start laid = record {
  byte = omega (arith, laid.byte, length-append bytes more);
  piece = omega (arith, laid.piece, length-append pieces others);
  closed =
      subst (λ l. IsClosed l (drop start.piece (pieces ++ others))) (sym (drop-append-le start.byte bytes more laid.byte))
      (subst (λ p. IsClosed (drop start.byte bytes ++ more) p) (sym (drop-append-le start.piece pieces others laid.piece))
      (closed_more (drop start.byte bytes) more (drop start.piece pieces) others laid.closed));
}

map_stays : (bytes more : List ℕ) (pieces others : List Piece) (starts : List Start) → All (IsLaidOut bytes pieces) starts → map (laid_text (bytes ++ more) (pieces ++ others)) starts ≡ map (laid_text bytes pieces) starts
map_stays bytes more pieces others [] laid = refl
map_stays bytes more pieces others (s ∷ starts) laid =
    ap₂ (λ (x : List ℕ) (xs : List (List ℕ)). x ∷ xs) (laid_stays bytes more pieces others s (All-head (IsLaidOut bytes pieces) s starts laid))
    (map_stays bytes more pieces others starts (All-tail (IsLaidOut bytes pieces) s starts laid))

-- the same for all, where fronts are kept
pub texts_stay : (old new : List ℕ) (pieces_old pieces_new : List Piece) (starts : List Start) → IsPrefix old new → IsPrefix pieces_old pieces_new → All (IsLaidOut old pieces_old) starts → map (laid_text new pieces_new) starts ≡ map (laid_text old pieces_old) starts
texts_stay old new pieces_old pieces_new starts more others laid =
    ap₂ (λ (l : List ℕ) (p : List Piece). map (laid_text l p) starts) (sym more.1) (sym others.1)
    ∙ map_stays old more.0 pieces_old others.0 starts laid

pub all_stay : (old new : List ℕ) (pieces_old pieces_new : List Piece) (starts : List Start) → IsPrefix old new → IsPrefix pieces_old pieces_new → All (IsLaidOut old pieces_old) starts → All (IsLaidOut new pieces_new) starts
all_stay old new pieces_old pieces_new starts more others laid =
    subst (λ l. All (IsLaidOut l pieces_new) starts) more.1
    (subst (λ p. All (IsLaidOut (old ++ more.0) p) starts) others.1
    (All-weaker (IsLaidOut old pieces_old) (IsLaidOut (old ++ more.0) (pieces_old ++ others.0)) (λ s one. laid_more old more.0 pieces_old others.0 s one) starts laid))

-- a text that was laid out begins at the old ends
pub laid_here : (text old new : List ℕ) (pieces_old pieces_new : List Piece) (start : Start) → start.byte ≡ length old → start.piece ≡ length pieces_old → LaysOut text old new pieces_old pieces_new → IsLaidOut new pieces_new start × (laid_text new pieces_new start ≡ text)
laid_here text old new pieces_old pieces_new start byte piece lays =
    let bytes_here : drop start.byte new ≡ lays.bytes = ap₂ (λ (n : ℕ) (l : List ℕ). drop n l) byte lays.bytes_are ∙ drop-append_seam old lays.bytes in
    let pieces_here : drop start.piece pieces_new ≡ lays.pieces = ap₂ (λ (n : ℕ) (l : List Piece). drop n l) piece lays.pieces_are ∙ drop-append_seam pieces_old lays.pieces in (
      record {
        byte = omega (arith, byte, ap length lays.bytes_are, length-append old lays.bytes);
        piece = omega (arith, piece, ap length lays.pieces_are, length-append pieces_old lays.pieces);
        closed = subst (λ l. IsClosed l (drop start.piece pieces_new)) (sym bytes_here) (subst (λ p. IsClosed lays.bytes p) (sym pieces_here) lays.closed);
      },
      ap₂ (λ (l : List ℕ) (p : List Piece). spelled l p) bytes_here pieces_here ∙ lays.spells,
    )

-- a log type more
pub texts_push : (text old new : List ℕ) (pieces_old pieces_new : List Piece) (starts : List Start) (start : Start) → start.byte ≡ length old → start.piece ≡ length pieces_old → LaysOut text old new pieces_old pieces_new → All (IsLaidOut old pieces_old) starts
    → map (laid_text new pieces_new) (starts ++ start ∷ []) ≡ map (laid_text old pieces_old) starts ++ text ∷ []
texts_push text old new pieces_old pieces_new starts start byte piece lays laid =
    let here = laid_here text old new pieces_old pieces_new start byte piece lays in
    let before = texts_stay old new pieces_old pieces_new starts (lays.bytes, sym lays.bytes_are) (lays.pieces, sym lays.pieces_are) laid in
    map_end (laid_text new pieces_new) starts start ∙ ap₂ (λ (xs : List (List ℕ)) (x : List ℕ). xs ++ x ∷ []) before here.1
  where
    map_end : (f : Start → List ℕ) (xs : List Start) (x : Start) → map f (xs ++ x ∷ []) ≡ map f xs ++ f x ∷ []
    map_end f [] x = refl
    map_end f (y ∷ xs) x = ap (λ l. f y ∷ l) (map_end f xs x)

pub all_push : (text old new : List ℕ) (pieces_old pieces_new : List Piece) (starts : List Start) (start : Start) → start.byte ≡ length old → start.piece ≡ length pieces_old → LaysOut text old new pieces_old pieces_new → All (IsLaidOut old pieces_old) starts
    → All (IsLaidOut new pieces_new) (starts ++ start ∷ [])
all_push text old new pieces_old pieces_new starts start byte piece lays laid =
    All-push (IsLaidOut new pieces_new) starts start
    (all_stay old new pieces_old pieces_new starts (lays.bytes, sym lays.bytes_are) (lays.pieces, sym lays.pieces_are) laid)
    (laid_here text old new pieces_old pieces_new start byte piece lays).0

-- a text of no log type is one run
pub lays_misfit : (text old new : List ℕ) (pieces_old pieces_new : List Piece) (piece : Piece) → ¬ IsTypeText text → piece ≡ record { len = length text; next = Misfit } → new ≡ old ++ text → pieces_new ≡ pieces_old ++ piece ∷ [] → LaysOut text old new pieces_old pieces_new
lays_misfit text old new pieces_old pieces_new piece none is bytes_are pieces_are = record {
  bytes = text;
  pieces = record { len = length text; next = Misfit } ∷ [];
  bytes_are = bytes_are;
  pieces_are = pieces_are ∙ ap (λ p. pieces_old ++ p ∷ []) is;
  spells = take_all text;
  closed = (omega arith, subst (λ (t : List ℕ). ¬ IsTypeText t) (sym (take_all text)) none);
}
  where
    take_all : (l : List ℕ) → take (length l) l ≡ l
    take_all [] = refl
    take_all (x ∷ l) = ap (λ t. x ∷ t) (take_all l)

-- the open run begins within the bytes
pub open_within : (text rest : List ℕ) (start : ℕ) (old new : List ℕ) (pieces_old pieces_new : List Piece) → IsCutUpTo text rest start old new pieces_old pieces_new → start ≤ length new
open_within text rest start old new pieces_old pieces_new so_far =
    let all : length new ≡ length (old ++ so_far.bytes) + length so_far.open_run =
    ap length (so_far.bytes_are ∙ sym (append_assoc old so_far.bytes so_far.open_run)) ∙ length-append (old ++ so_far.bytes) so_far.open_run in
    omega (arith, all, so_far.begins)

-- nothing is cut yet
pub cut_none : (text : List ℕ) (old : List ℕ) (pieces_old : List Piece) → IsTypeText text → IsCutUpTo text text (length old) old old pieces_old pieces_old
cut_none text old pieces_old good = record {
  front = [];
  bytes = [];
  pieces = [];
  open_run = [];
  bytes_are = sym (append-nil old);
  pieces_are = sym (append-nil pieces_old);
  begins = ap length (sym (append-nil old));
  cut = refl;
  good = good;
  spells = λ more others. refl;
  closes = λ more others closed. closed;
}

-- what follows constants in a text of a log type is one too
run_spelled : (run after : List ℕ) → IsTypeText (constants run ++ after) → IsTypeText after
run_spelled [] after good = good
run_spelled (b ∷ run) after good =
    run_spelled run after (rest_spelled (Byte b) ((text_of_symbol (Byte b) ++ constants run) ++ after) (constants run ++ after) (append_assoc (text_of_symbol (Byte b)) (constants run) after) good)

-- constants go to the open run
pub cut_run : (text rest after : List ℕ) (start : ℕ) (old mid new : List ℕ) (pieces_old pieces_new : List Piece) → IsCutUpTo text rest start old mid pieces_old pieces_new → AddsRun rest after mid new → IsCutUpTo text after start old new pieces_old pieces_new
cut_run text rest after start old mid new pieces_old pieces_new so_far adds = record {
  front = so_far.front;
  bytes = so_far.bytes;
  pieces = so_far.pieces;
  open_run = so_far.open_run ++ adds.run;
  bytes_are =
      adds.appended ∙ ap (λ l. l ++ adds.run) so_far.bytes_are ∙ append_assoc old (so_far.bytes ++ so_far.open_run) adds.run
      ∙ ap (λ l. old ++ l) (append_assoc so_far.bytes so_far.open_run adds.run);
  pieces_are = so_far.pieces_are;
  begins = so_far.begins;
  cut =
      so_far.cut
      ∙ ap (λ l. so_far.front ++ l)
      (ap (λ l. constants so_far.open_run ++ l) adds.cut ∙ sym (append_assoc (constants so_far.open_run) (constants adds.run) after)
      ∙ ap (λ l. l ++ after) (sym (constants_append so_far.open_run adds.run)));
  good = run_spelled adds.run after (subst IsTypeText adds.cut so_far.good);
  spells = so_far.spells;
  closes = so_far.closes;
}

pub adds_byte : (rest : List ℕ) (symbol : Symbol) (b : ℕ) (after old new : List ℕ) → symbol ≡ Byte b → rest ≡ text_of_symbol symbol ++ after → new ≡ old ++ b ∷ [] → AddsRun rest after old new
adds_byte rest symbol b after old new is cut appended = record {
  run = b ∷ [];
  appended = appended;
  cut = cut ∙ ap (λ s. text_of_symbol s ++ after) is ∙ ap (λ l. l ++ after) (sym (append-nil (text_of_symbol (Byte b))));
}

pub adds_plain : (rest run after old new : List ℕ) → rest ≡ run ++ after → All IsPlain run → new ≡ old ++ run → AddsRun rest after old new
adds_plain rest run after old new cut plain appended = record {
  run = run;
  appended = appended;
  cut = cut ∙ ap (λ l. l ++ after) (sym (constants_plain run plain));
}

-- the open run, as the pieces see it
open_len : (text rest : List ℕ) (start : ℕ) (old new : List ℕ) (pieces_old pieces_new : List Piece) → (so_far : IsCutUpTo text rest start old new pieces_old pieces_new) → length new - start ≡ length so_far.open_run
open_len text rest start old new pieces_old pieces_new so_far =
    let all : length new ≡ length (old ++ so_far.bytes) + length so_far.open_run =
    ap length (so_far.bytes_are ∙ sym (append_assoc old so_far.bytes so_far.open_run)) ∙ length-append (old ++ so_far.bytes) so_far.open_run in
    omega (arith, all, so_far.begins)

-- a slot closes the open run
pub cut_slot : (text rest : List ℕ) (symbol : Symbol) (kind : Kind) (after : List ℕ) (start end : ℕ) (old new : List ℕ) (pieces_old pieces_mid pieces_new : List Piece) (piece : Piece)
    → symbol ≡ Slot kind → rest ≡ text_of_symbol symbol ++ after → piece.len ≡ length new - start → piece.next ≡ NextSlot kind → end ≡ length new → pieces_new ≡ pieces_mid ++ piece ∷ []
    → IsCutUpTo text rest start old new pieces_old pieces_mid → IsCutUpTo text after end old new pieces_old pieces_new
cut_slot text rest symbol kind after start end old new pieces_old pieces_mid pieces_new piece is slot len next ends put so_far =
    let run = so_far.open_run in
    let size : piece.len ≡ length run = len ∙ open_len text rest start old new pieces_old pieces_mid so_far in
    let all : new ≡ old ++ (so_far.bytes ++ run) = so_far.bytes_are in
    let here : (more : List ℕ) → take piece.len (run ++ more) ≡ run = λ more. ap (λ n. take n (run ++ more)) size ∙ take-append_seam run more in
    let behind : (more : List ℕ) → drop piece.len (run ++ more) ≡ more = λ more. ap (λ n. drop n (run ++ more)) size ∙ drop-append_seam run more in
    record {
      front = so_far.front ++ (constants run ++ text_of_symbol (Slot kind));
      bytes = so_far.bytes ++ run;
      pieces = so_far.pieces ++ piece ∷ [];
      open_run = [];
      bytes_are = all ∙ ap (λ l. old ++ l) (sym (append-nil (so_far.bytes ++ run)));
      pieces_are = put ∙ ap (λ l. l ++ piece ∷ []) so_far.pieces_are ∙ append_assoc pieces_old so_far.pieces (piece ∷ []);
      begins = ends ∙ ap length all;
      cut =
          so_far.cut
          ∙ ap (λ l. so_far.front ++ l) (ap (λ l. constants run ++ l) (slot ∙ ap (λ s. text_of_symbol s ++ after) is) ∙ sym (append_assoc (constants run) (text_of_symbol (Slot kind)) after))
          ∙ sym (append_assoc so_far.front (constants run ++ text_of_symbol (Slot kind)) after);
      good = rest_spelled symbol rest after slot so_far.good;
      spells = λ more others.
          ap₂ (λ (l : List ℕ) (p : List Piece). spelled l p) (append_assoc so_far.bytes run more) (append_assoc so_far.pieces (piece ∷ []) others)
          ∙ so_far.spells (run ++ more) (piece ∷ others)
          ∙ ap (λ l. so_far.front ++ l)
          (ap₂ (λ (r l : List ℕ). run_text r piece.next (spelled l others)) (here more) (behind more)
          ∙ ap (λ n. run_text run n (spelled more others)) next
          ∙ sym (append_assoc (constants run) (text_of_symbol (Slot kind)) (spelled more others)))
          ∙ sym (append_assoc so_far.front (constants run ++ text_of_symbol (Slot kind)) (spelled more others));
      closes = λ more others closed.
          subst (λ l. IsClosed l ((so_far.pieces ++ piece ∷ []) ++ others)) (sym (append_assoc so_far.bytes run more))
          (subst (λ p. IsClosed (so_far.bytes ++ (run ++ more)) p) (sym (append_assoc so_far.pieces (piece ∷ []) others))
          (so_far.closes (run ++ more) (piece ∷ others) (
            omega (arith, size, length-append run more),
            subst (λ n. Needs (take piece.len (run ++ more)) n (IsClosed (drop piece.len (run ++ more)) others)) (sym next)
                (subst (λ l. IsClosed l others) (sym (behind more)) closed),
          )));
    }

-- a symbol by its kinds
pub symbol_byte : (symbol : Symbol) (b start : ℕ) (mid new : List ℕ) (pieces : List Piece) → symbol ≡ Byte b → new ≡ mid ++ b ∷ [] → AddsSymbol symbol start start mid new pieces pieces
symbol_byte symbol b start mid new pieces is put text rest after old pieces_old cut so_far =
    cut_run text rest after start old mid new pieces_old pieces so_far (adds_byte rest symbol b after mid new is cut put)

pub symbol_slot : (symbol : Symbol) (kind : Kind) (start end : ℕ) (new : List ℕ) (pieces_mid pieces_new : List Piece) (piece : Piece) → symbol ≡ Slot kind → end ≡ length new → piece.len ≡ length new - start → piece.next ≡ NextSlot kind → pieces_new ≡ pieces_mid ++ piece ∷ [] → AddsSymbol symbol start end new new pieces_mid pieces_new
symbol_slot symbol kind start end new pieces_mid pieces_new piece is ends len next put text rest after old pieces_old cut so_far =
    cut_slot text rest symbol kind after start end old new pieces_old pieces_mid pieces_new piece is cut len next ends put so_far

-- the end closes the open run
pub cut_end : (text : List ℕ) (start : ℕ) (old new : List ℕ) (pieces_old pieces_mid pieces_new : List Piece) (piece : Piece)
    → piece.len ≡ length new - start → piece.next ≡ End → pieces_new ≡ pieces_mid ++ piece ∷ []
    → IsCutUpTo text [] start old new pieces_old pieces_mid → LaysOut text old new pieces_old pieces_new
cut_end text start old new pieces_old pieces_mid pieces_new piece len next put so_far =
    let run = so_far.open_run in
    let size : piece.len ≡ length run = len ∙ open_len text [] start old new pieces_old pieces_mid so_far in
    let here : take piece.len run ≡ run = ap (λ (l : List ℕ). take piece.len l) (sym (append-nil run)) ∙ ap (λ n. take n (run ++ [])) size ∙ take-append_seam run [] in
    record {
      bytes = so_far.bytes ++ run;
      pieces = so_far.pieces ++ piece ∷ [];
      bytes_are = so_far.bytes_are;
      pieces_are = put ∙ ap (λ l. l ++ piece ∷ []) so_far.pieces_are ∙ append_assoc pieces_old so_far.pieces (piece ∷ []);
      spells =
          so_far.spells run (piece ∷ [])
          ∙ ap (λ l. so_far.front ++ l)
          (ap (λ n. run_text (take piece.len run) n (spelled (drop piece.len run) [])) next ∙ ap constants here ∙ sym (append-nil (constants run)))
          ∙ sym so_far.cut;
      closed =
          so_far.closes run (piece ∷ [])
          (omega (arith, size), subst (λ n. Needs (take piece.len run) n (IsClosed (drop piece.len run) [])) (sym next) tt);
    }

puts_nothing : (words : List (List ℕ)) (text row rest old new : List ℕ) → text ≡ rest → new ≡ old → Puts words text row rest row old new
puts_nothing words text row rest old new same kept = record {
  bytes = [];
  appended = kept ∙ sym (append-nil old);
  leads = λ body is. (body, subst (λ t. IsBody words t row body) same is, refl);
  fits = λ has. subst (λ t. HasBody words t row) (sym same) has;
}

-- constants were written
puts_run : (words : List (List ℕ)) (text row run rest old new : List ℕ) → text ≡ constants run ++ rest → new ≡ old ++ run → Puts words text row rest row old new
puts_run words text row [] rest old new cut appended = puts_nothing words text row rest old new cut (appended ∙ append-nil old)
puts_run words text row (b ∷ run) rest old new cut appended =
    let first = puts_byte words text row b (constants run ++ rest) old (old ++ b ∷ []) (cut ∙ append_assoc (text_of_symbol (Byte b)) (constants run) rest) refl in
    let more = puts_run words (constants run ++ rest) row run rest (old ++ b ∷ []) new refl (appended ∙ sym (append_assoc old (b ∷ []) run)) in
    puts_then words text row (constants run ++ rest) row rest row old (old ++ b ∷ []) new first more

-- a layout on the way: what of it is left, and that it has an end
pub record IsPutUpTo (words : List (List ℕ)) (text row bytes : List ℕ) (pieces : List Piece) (left old new : List ℕ) : Type 0 where
  pub puts : Puts words text row (spelled bytes pieces) left old new
  pub closed : IsClosed bytes pieces

-- nothing is written yet
pub laid_none : (words : List (List ℕ)) (row bytes : List ℕ) (pieces : List Piece) (old : List ℕ) → IsClosed bytes pieces → IsPutUpTo words (spelled bytes pieces) row bytes pieces row old old
laid_none words row bytes pieces old closed = record {
  puts = puts_nothing words (spelled bytes pieces) row (spelled bytes pieces) old old refl refl;
  closed = closed;
}

-- pieces that have an end are some
pub some_piece : (bytes : List ℕ) (pieces : List Piece) → IsClosed bytes pieces → length pieces < 1 → ⊥
some_piece bytes [] closed none = closed
some_piece bytes (piece ∷ pieces) closed none = omega arith

-- the first piece
pub first_piece : (pieces others : List Piece) (piece : Piece) (bytes : List ℕ) → pieces ≡ piece ∷ others → IsClosed bytes pieces → (spelled bytes pieces ≡ run_text (take piece.len bytes) piece.next (spelled (drop piece.len bytes) others)) × IsClosed bytes (piece ∷ others)
first_piece pieces others piece bytes is closed = (ap (λ p. spelled bytes p) is, subst (λ p. IsClosed bytes p) is closed)

-- the run of a piece with a slot behind it was written, and then the slot
pub put_on : (words : List (List ℕ)) (text row bytes : List ℕ) (pieces others : List Piece) (piece : Piece) (kind : Kind) (left more run after old mid next new : List ℕ)
    → pieces ≡ piece ∷ others → piece.next ≡ NextSlot kind → run ≡ take piece.len bytes → after ≡ drop piece.len bytes
    → next ≡ mid ++ run → ((behind : List ℕ) → Puts words (text_of_symbol (Slot kind) ++ behind) left behind more next new)
    → IsPutUpTo words text row bytes pieces left old mid → IsPutUpTo words text row after others more old new
put_on words text row bytes pieces others piece kind left more run after old mid next new is slot run_is after_is appended put so_far =
    let both = first_piece pieces others piece bytes is so_far.closed in
    let rest = spelled after others in
    let shown : spelled bytes pieces ≡ constants run ++ (text_of_symbol (Slot kind) ++ rest) =
    both.0 ∙ ap₂ (λ (r l : List ℕ). run_text r piece.next (spelled l others)) (sym run_is) (sym after_is) ∙ ap (λ n. run_text run n rest) slot in
    let one = puts_run words (spelled bytes pieces) left run (text_of_symbol (Slot kind) ++ rest) mid next shown appended in
    record {
      puts =
          puts_then words text row (spelled bytes pieces) left rest more old mid new so_far.puts
          (puts_then words (spelled bytes pieces) left (text_of_symbol (Slot kind) ++ rest) left rest more mid next new one (put rest));
      closed = subst (λ l. IsClosed l others) (sym after_is) (subst (λ n. Needs (take piece.len bytes) n (IsClosed (drop piece.len bytes) others)) slot both.1.1);
    }

-- the word of a slot is missing or does not fit, so the whole does not
pub put_stuck : (words : List (List ℕ)) (text row bytes : List ℕ) (pieces others : List Piece) (piece : Piece) (kind : Kind) (left run old mid next : List ℕ)
    → pieces ≡ piece ∷ others → piece.next ≡ NextSlot kind → run ≡ take piece.len bytes → next ≡ mid ++ run
    → ((behind : List ℕ) → ¬ HasBody words (text_of_symbol (Slot kind) ++ behind) left)
    → IsPutUpTo words text row bytes pieces left old mid → ¬ HasBody words text row
put_stuck words text row bytes pieces others piece kind left run old mid next is slot run_is appended none so_far has =
    let both = first_piece pieces others piece bytes is so_far.closed in
    let rest = spelled (drop piece.len bytes) others in
    let shown : spelled bytes pieces ≡ constants run ++ (text_of_symbol (Slot kind) ++ rest) =
    both.0 ∙ ap (λ (r : List ℕ). run_text r piece.next rest) (sym run_is) ∙ ap (λ n. run_text run n rest) slot in
    let one = puts_run words (spelled bytes pieces) left run (text_of_symbol (Slot kind) ++ rest) mid next shown appended in
    let here = puts_has words text row (spelled bytes pieces) left old mid so_far.puts has in
    none rest (puts_has words (spelled bytes pieces) left (text_of_symbol (Slot kind) ++ rest) left mid next one here)

-- the last run was written
pub put_last : (words : List (List ℕ)) (text row bytes : List ℕ) (pieces others : List Piece) (piece : Piece) (left run old mid next : List ℕ)
    → pieces ≡ piece ∷ others → piece.next ≡ End → run ≡ take piece.len bytes → next ≡ mid ++ run
    → IsPutUpTo words text row bytes pieces left old mid → Puts words text row [] left old next
put_last words text row bytes pieces others piece left run old mid next is end run_is appended so_far =
    let both = first_piece pieces others piece bytes is so_far.closed in
    let rest = spelled (drop piece.len bytes) others in
    let shown : spelled bytes pieces ≡ constants run ++ [] =
    both.0 ∙ ap (λ (r : List ℕ). run_text r piece.next rest) (sym run_is) ∙ ap (λ n. run_text run n rest) end ∙ sym (append-nil (constants run)) in
    puts_then words text row (spelled bytes pieces) left [] left old mid next so_far.puts
    (puts_run words (spelled bytes pieces) left run [] mid next shown appended)

-- a text of no log type cannot be written
pub put_none : (words : List (List ℕ)) (text row bytes : List ℕ) (pieces others : List Piece) (piece : Piece) (left old mid : List ℕ)
    → pieces ≡ piece ∷ others → piece.next ≡ Misfit → IsPutUpTo words text row bytes pieces left old mid → ¬ HasBody words text row
put_none words text row bytes pieces others piece left old mid is misfit so_far has =
    let both = first_piece pieces others piece bytes is so_far.closed in
    let rest = spelled (drop piece.len bytes) others in
    let run = take piece.len bytes in
    let shown : spelled bytes pieces ≡ run = both.0 ∙ ap (λ n. run_text run n rest) misfit in
    let none : ¬ IsTypeText run = subst (λ n. Needs run n (IsClosed (drop piece.len bytes) others)) misfit both.1.1 in
    let here = puts_has words text row (spelled bytes pieces) left old mid so_far.puts has in
    none (map symbol_of here.1.parts, sym here.1.typed ∙ shown)

-- where the whole can be written and nothing is left of the text, no word is
pub left_none : (words : List (List ℕ)) (text row left old new : List ℕ) → Puts words text row [] left old new → HasBody words text row → left ≡ []
left_none words text row left old new puts has =
    let here = puts_has words text row [] left old new puts has in
    (body_empty words left here.0 here.1).0

-- what holds after an error
pub on_err : {T E P : Type 0} (answer : Result T E) → P → OnErr answer P
on_err (Ok done) holds = tt
on_err (Err error) holds = holds

next_of : (xs rest : List (List ℕ)) (y : List ℕ) → slice_get (xs ++ rest) (length xs) ≡ Some y → (zs : List (List ℕ)) × (rest ≡ y ∷ zs)
next_of [] [] y at = absurd (cc)
next_of [] (z ∷ zs) y at = let same : z ≡ y = cc in (zs, ap (λ x. x ∷ zs) same)
next_of (x ∷ xs) rest y at = next_of xs rest y at

-- a front and what stands behind it
pub prefix_more : (xs ys : List (List ℕ)) (y : List ℕ) → IsPrefix xs ys → slice_get ys (length xs) ≡ Some y → IsPrefix (xs ++ y ∷ []) ys
prefix_more xs ys y front at =
    let next = next_of xs front.0 y (ap (λ (l : List (List ℕ)). slice_get l (length xs)) front.1 ∙ at) in
    (next.0, append_assoc xs (y ∷ []) next.0 ∙ ap (λ l. xs ++ l) (sym next.1) ∙ front.1)

-- a front as long as the whole
pub prefix_all : (xs ys : List (List ℕ)) → IsPrefix xs ys → length ys ≤ length xs → xs ≡ ys
prefix_all xs ys ([], is) long = sym (append-nil xs) ∙ is
prefix_all xs ys (z ∷ zs, is) long = absurd (omega (arith, long, ap length is, length-append xs (z ∷ zs)))

get_front : (xs ys : List (List ℕ)) (number : ℕ) (text : List ℕ) → slice_get xs number ≡ Some text → slice_get (xs ++ ys) number ≡ Some text
get_front [] ys number text at = absurd (cc)
get_front (x ∷ xs) ys zero text at = at
get_front (x ∷ xs) ys (suc number) text at = get_front xs ys number text at

-- the texts of a front are those of the log types with their numbers
pub front_cut : (cut types : List (List ℕ)) → IsPrefix cut types → AreCut cut types
front_cut cut types front number text at = subst (λ (l : List (List ℕ)). slice_get l number ≡ Some text) front.1 (get_front cut front.0 number text at)

-- and those of all log types
pub all_cut : (cut types : List (List ℕ)) → cut ≡ types → AreCut cut types
all_cut cut types same number text at = subst (λ (l : List (List ℕ)). slice_get l number ≡ Some text) same at
