-- The first bytes of what a row is written as, symbol by symbol.
use Rattle.std.proofs.Common.{◌≡◌, ℕ, ◌+◌, ◌-◌, ◌≤◌, zero, suc, List, [], ◌∷◌, ◌++◌, length, take, refl, sym, ◌∙◌, ap, subst, arith, append_assoc, length-append}
use Rattle.std.specs.Prelude.{◌≢◌}
use Rattle.std.proofs.lemmas.List.{append-nil, length-take, take-append-le, take_all}
use Rattle.std.proofs.Math.Seq.{take-append-add}
use Rattle.logtype_text.specs.declared.symbols.Kind.{Kind}
use Rattle.logtype_text.specs.declared.symbols.Symbol.{Symbol}
use Rattle.logtype_text.specs.declared.symbols.Symbol.TheVariants.{Byte, Slot}
use Rattle.logtype_text.specs.TypeText.{text_of_symbol}
use Rattle.row_codec.specs.Means.{IsWritten}
use Rattle.row_codec.specs.StepsBody.{HasBody, IsBody}
use Rattle.row_codec.specs.StepsOpening.{Fills}
use Rattle.row_codec.proofs.BodyLemmas.{puts_all, puts_has, puts_then, symbol_puts_byte, symbol_puts_slot}

take_front : (n : ℕ) (xs ys : List ℕ) → take n (take n xs ++ ys) ≡ take n (xs ++ ys)
take_front zero xs ys = refl
take_front (suc n) [] ys = refl
take_front (suc n) (x ∷ xs) ys = ap (λ l. x ∷ l) (take_front n xs ys)

-- all bytes fit, or as many as there is room for
pub fill_fits : (at : ℕ) (old bytes : List ℕ) → length old ≡ 32 → at ≤ 32 → length bytes ≤ 32 - at → take at old ++ bytes ≡ take 32 (take at old ++ bytes)
fill_fits at old bytes long low room =
    sym (take_all 32 (take at old ++ bytes) (omega (arith, length-append (take at old) bytes, length-take at old)))

pub fill_over : (at : ℕ) (old bytes : List ℕ) → length old ≡ 32 → at ≤ 32 → take at old ++ take (32 - at) bytes ≡ take 32 (take at old ++ bytes)
fill_over at old bytes long low =
    let count : length (take at old) + (32 - at) ≡ 32 = omega (arith, length-take at old) in
    sym (take-append-add (take at old) bytes (32 - at)) ∙ ap (λ n. take n (take at old ++ bytes)) count

pub fills_self : (words : List (List ℕ)) (text row old : List ℕ) → length old ≤ 32 → Fills words text row text row old old
fills_self words text row old few = record {
  whole = old;
  puts = record { bytes = []; appended = sym (append-nil old); leads = λ body is. (body, is, refl); fits = λ has. has };
  held = sym (take_all 32 old few);
}

pub fills_then : (words : List (List ℕ)) (text row rest left end last old mid new : List ℕ) → Fills words text row rest left old mid → Fills words rest left end last mid new → Fills words text row end last old new
fills_then words text row rest left end last old mid new a b =
    let more = b.puts.bytes in
    record {
      whole = a.whole ++ more;
      puts = puts_then words text row rest left end last old a.whole (a.whole ++ more) a.puts (record { bytes = more; appended = refl; leads = b.puts.leads; fits = b.puts.fits });
      held = b.held ∙ ap (λ l. take 32 l) (b.puts.appended ∙ ap (λ l. l ++ more) a.held) ∙ take_front 32 a.whole more;
    }

pub fills_byte : (words : List (List ℕ)) (row : List ℕ) (symbol : Symbol) (b : ℕ) (after old new : List ℕ) → symbol ≡ Byte b → new ≡ take 32 (old ++ b ∷ []) → Fills words (text_of_symbol symbol ++ after) row after row old new
fills_byte words row symbol b after old new is held = record {
  whole = old ++ b ∷ [];
  puts = symbol_puts_byte words row symbol b after old (old ++ b ∷ []) is refl;
  held = held;
}

pub fills_slot : (words : List (List ℕ)) (row : List ℕ) (symbol : Symbol) (kind : Kind) (after : List ℕ) (word : ℕ) (left shown old new : List ℕ) → symbol ≡ Slot kind → row ≡ word ∷ left → IsWritten words kind shown word → new ≡ take 32 (old ++ shown) → Fills words (text_of_symbol symbol ++ after) row after left old new
fills_slot words row symbol kind after word left shown old new is cut written held = record {
  whole = old ++ shown;
  puts = symbol_puts_slot words row symbol kind after word left shown old (old ++ shown) is cut written refl;
  held = held;
}

-- a loop over the symbols
pub fills_more : (words : List (List ℕ)) (text row rest left : List ℕ) (symbol : Symbol) (after others old mid new : List ℕ) → rest ≡ text_of_symbol symbol ++ after
    → Fills words text row rest left old mid → Fills words (text_of_symbol symbol ++ after) left after others mid new → Fills words text row after others old new
fills_more words text row rest left symbol after others old mid new cut so_far one =
    fills_then words text row rest left after others old mid new so_far (subst (λ t. Fills words t left after others mid new) (sym cut) one)

pub fills_has : (words : List (List ℕ)) (text row rest left old new : List ℕ) → Fills words text row rest left old new → HasBody words text row → HasBody words rest left
fills_has words text row rest left old new fills has = puts_has words text row rest left old fills.whole fills.puts has

-- all of the text was written
pub fills_all : (words : List (List ℕ)) (text row rest left old new : List ℕ) → HasBody words text row → ((symbol : Symbol) (after : List ℕ) → rest ≢ text_of_symbol symbol ++ after) → Fills words text row rest left old new → (body : List ℕ) × IsBody words text row body × (new ≡ take 32 (old ++ body))
fills_all words text row rest left old new has none fills =
    let all = puts_all words text row rest left old fills.whole has none fills.puts in
    (all.0, all.1, fills.held ∙ ap (λ l. take 32 l) all.2)

-- no more of it has room
pub fills_full : (words : List (List ℕ)) (text row rest left old new : List ℕ) → HasBody words text row → length new ≡ 32 → Fills words text row rest left old new → (body : List ℕ) × IsBody words text row body × (new ≡ take 32 (old ++ body))
fills_full words text row rest left old new (body, is) full fills =
    let more = fills.puts.leads body is in
    let tail = more.0 in
    let long : 32 ≤ length fills.whole = omega (arith, full, ap length fills.held, length-take 32 fills.whole) in
    let whole : fills.whole ++ tail ≡ old ++ body = ap (λ l. l ++ tail) fills.puts.appended ∙ append_assoc old fills.puts.bytes tail ∙ ap (λ l. old ++ l) (sym more.2) in
    (body, is, fills.held ∙ sym (take-append-le 32 fills.whole tail long) ∙ ap (λ l. take 32 l) whole)
