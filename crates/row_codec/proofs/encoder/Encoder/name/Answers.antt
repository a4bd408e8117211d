use Rattle.std.proofs.Common.{◌≡◌, ℕ, ◌-◌, ◌≤◌, false, List, [], length, get_or, map, take, drop, refl, sym, ◌∙◌, ap, ap₂, subst, arith, length-drop}
use Rattle.std.specs.Prelude.{◌∷◌, All, Err, IsErrOf, None, Ok, Option, Result, Some, slice_get}
use Rattle.std.proofs.lemmas.List.{take_rest}
use Rattle.std.proofs.lemmas.Result.{err_from_is_err_and}
use Rattle.logtype_text.specs.declared.TheConstants.{MAX_WORD_LEN}
use Rattle.logtype_text.specs.Encoded.{texts_at, word_texts}
use Rattle.logtype_text.specs.declared.spans.Span.{Span}
use Rattle.logtype_text.specs.Parts.{symbol_of}
use Rattle.logtype_text.specs.TypeText.{type_text}
use Rattle.logtype_text.specs.Fair.{IsFairType, IsFairWord}
use Rattle.logtype_text.proofs.TextLemmas.{good_is_type_text}
use Rattle.row_codec.specs.declared.namer.NameRefusal.TheVariants.{Full}
use Rattle.row_codec.specs.Encoding.{HasRead}
use Rattle.row_codec.specs.declared.encoder.Encoder.{Encoder}
use Rattle.row_codec.specs.Means.{EachWord, HasWord}
use Rattle.row_codec.specs.declared.namer.NameRefusal.{NameRefusal}
use Rattle.row_codec.specs.declared.namer.Which.TheVariants.{Types}
use Rattle.row_codec.specs.Naming.{AreNumbers, Known, refusal_of}
use Rattle.row_codec.specs.Numbers.{kinds_from, word_numbers}
use Rattle.row_codec.specs.Steps.{words_of}
use Rattle.row_codec.proofs.EncoderLemmas.{HasParts, canonical, fair_type, fair_words, lent_texts, row_numbers, type_asked, types_full, types_grown, types_stay, words_are, words_asked, words_came, words_full}
use Rattle.row_codec.proofs.encoder.Encoder.name.Goals as goal

-- the parts of the line that was read
abbrev parts_of : (e : Encoder) (version : ℕ) (line : List ℕ) (read : HasRead e version line) → HasParts version line e.front.pattern e.front.moment e.front.len read.encoded.parts
parts_of e version line read = record { stamped = read.stamped; are = read.encoded.are }

-- the body is no longer than the line
body_short : (line : List ℕ) (n : ℕ) → length line ≤ MAX_WORD_LEN → length (drop n line) ≤ MAX_WORD_LEN
body_short line n short = omega (arith, length-drop n line)

pub name_type-requires : goal.name_type-requires
name_type-requires g c =
    let e = c.args.self.now in
    let line = c.args.line.now in
    subst IsFairType (sym c.as_slice.ensures.value) (fair_type good_is_type_text (drop e.front.len line) e.text.items e.codes.items e.places.items c.requires.read.encoded (body_short line e.front.len c.requires.short))

pub returns-in_err-self-clause-types : goal.returns-in_err-self-clause-types
returns-in_err-self-clause-types g c =
    let e = c.args.self.now in
    let line = c.args.line.now in
    let read = c.requires.read in
    types_grown _ line e.front.pattern e.front.moment e.front.len read.encoded.parts c.as_slice.result.now _ _ (parts_of e _ line read) (c.as_slice.ensures.value ∙ read.encoded.typed) c.name_type.ensures.grown

pub returns-in_err-self-clause-full : goal.returns-in_err-self-clause-full
returns-in_err-self-clause-full g c = λ book count same.
    let e = c.args.self.now in
    let line = c.args.line.now in
    let read = c.requires.read in
    let p = err_from_is_err_and c.from_residual.result c.from_residual.ensures.1 in
    let was : c.name_type.result ≡ Err c.in_err-self.field-0.0 = c.in_err-self.was in
    let refused : IsErrOf c.name_type.result (Full book count) = cc (p.1, p.2, same, was) in
    let full = c.name_type.ensures.full book count refused in
    types_full _ line e.front.pattern e.front.moment e.front.len read.encoded.parts c.as_slice.result.now book count _ _ _ (parts_of e _ line read) (c.as_slice.ensures.value ∙ read.encoded.typed) full.0 full.1 c.name_type.ensures.others.1

pub name_spans-requires-clause-fair : goal.name_spans-requires-clause-fair
name_spans-requires-clause-fair g c =
    let e = c.args.self.now in
    let line = c.args.line.now in
    let all : All IsFairWord (texts_at (drop e.front.len line) e.places.items) = fair_words (drop e.front.len line) e.places.items c.requires.read.encoded.within (body_short line e.front.len c.requires.short) in
    subst (λ l. All IsFairWord (texts_at l c.as_slice-2.result.now)) (sym (take_rest line e.front.len))
    (subst (λ l. All IsFairWord (texts_at (drop e.front.len line) l)) (sym c.as_slice-2.ensures.value) all)

pub returns-in_err-name_spans-clause-types : goal.returns-in_err-name_spans-clause-types
returns-in_err-name_spans-clause-types g c =
    let e = c.args.self.now in
    let line = c.args.line.now in
    let read = c.requires.read in
    types_stay _ line e.front.pattern e.front.moment e.front.len read.encoded.parts c.as_slice.result.now _ _ _ (parts_of e _ line read) (c.as_slice.ensures.value ∙ read.encoded.typed) c.name_type.ensures.grown c.name_spans.ensures.others.1

pub returns-in_err-name_spans-clause-words : goal.returns-in_err-name_spans-clause-words
returns-in_err-name_spans-clause-words g c =
    let e = c.args.self.now in
    let line = c.args.line.now in
    let read = c.requires.read in
    let same = lent_texts line e.front.len e.places.items c.as_slice-2.result.now _ c.as_slice-2.ensures.value read.encoded.words_are in
    words_came _ line e.front.pattern e.front.moment e.front.len read.encoded.parts _ _ _ _ (parts_of e _ line read) same c.name_spans.ensures.grown c.name_type.ensures.others.1

pub returns-in_err-name_spans-clause-full : goal.returns-in_err-name_spans-clause-full
returns-in_err-name_spans-clause-full g c = λ book count same.
    let e = c.args.self.now in
    let line = c.args.line.now in
    let read = c.requires.read in
    let p = err_from_is_err_and c.from_residual-in_err-name_spans.result c.from_residual-in_err-name_spans.ensures.1 in
    let was : c.name_spans.result ≡ Err c.in_err-name_spans.field-0.0 = c.in_err-name_spans.was in
    let refused : IsErrOf c.name_spans.result (Full book count) = cc (p.1, p.2, same, was) in
    let full = c.name_spans.ensures.full book count refused in
    let named : slice_get (g.N.Namer.types c.name_type.new.self).texts c.in_ok-self.field-0 ≡ Some c.as_slice.result.now = c.in_ok-self.ensures.named in
    let kept : slice_get (g.N.Namer.types c.name_spans.new.self).texts c.in_ok-self.field-0 ≡ Some c.as_slice.result.now = ap (λ (k : Known). slice_get k.texts c.in_ok-self.field-0) c.name_spans.ensures.others.1 ∙ named in
    let texts = lent_texts line e.front.len e.places.items c.as_slice-2.result.now _ c.as_slice-2.ensures.value read.encoded.words_are in
    words_full _ line e.front.pattern e.front.moment e.front.len read.encoded.parts c.as_slice.result.now _ book count c.in_ok-self.field-0 _ _ _ (parts_of e _ line read) (c.as_slice.ensures.value ∙ read.encoded.typed) texts full.0 kept full.1

pub returns-in_err-put_words-clause-types : goal.returns-in_err-put_words-clause-types
returns-in_err-put_words-clause-types g c =
    let e = c.args.self.now in
    let line = c.args.line.now in
    let read = c.requires.read in
    types_stay _ line e.front.pattern e.front.moment e.front.len read.encoded.parts c.as_slice.result.now _ _ _ (parts_of e _ line read) (c.as_slice.ensures.value ∙ read.encoded.typed) c.name_type.ensures.grown c.name_spans.ensures.others.1

pub returns-in_err-put_words-clause-words : goal.returns-in_err-put_words-clause-words
returns-in_err-put_words-clause-words g c =
    let e = c.args.self.now in
    let line = c.args.line.now in
    let read = c.requires.read in
    let same = lent_texts line e.front.len e.places.items c.as_slice-2.result.now _ c.as_slice-2.ensures.value read.encoded.words_are in
    words_came _ line e.front.pattern e.front.moment e.front.len read.encoded.parts _ _ _ _ (parts_of e _ line read) same c.name_spans.ensures.grown c.name_type.ensures.others.1

pub returns-clause-types : goal.returns-clause-types
returns-clause-types g c =
    let e = c.args.self.now in
    let line = c.args.line.now in
    let read = c.requires.read in
    types_stay _ line e.front.pattern e.front.moment e.front.len read.encoded.parts c.as_slice.result.now _ _ _ (parts_of e _ line read) (c.as_slice.ensures.value ∙ read.encoded.typed) c.name_type.ensures.grown c.name_spans.ensures.others.1

pub returns-clause-words : goal.returns-clause-words
returns-clause-words g c =
    let e = c.args.self.now in
    let line = c.args.line.now in
    let read = c.requires.read in
    let same = lent_texts line e.front.len e.places.items c.as_slice-2.result.now _ c.as_slice-2.ensures.value read.encoded.words_are in
    words_came _ line e.front.pattern e.front.moment e.front.len read.encoded.parts _ _ _ _ (parts_of e _ line read) same c.name_spans.ensures.grown c.name_type.ensures.others.1

-- the numbers that the words of the parts were given
named_words : (known : List (List ℕ)) (line : List ℕ) (n : ℕ) (places lent : List Span) (numbers : List ℕ) (texts : List (List ℕ)) → lent ≡ places → texts_at (drop n line) places ≡ texts → AreNumbers known numbers (texts_at (take (length line - n) (drop n line)) lent) → AreNumbers known numbers texts
named_words known line n places lent numbers texts same are named = subst (λ l. AreNumbers known numbers l) (lent_texts line n places lent texts same are) named

pub returns-clause-row : goal.returns-clause-row
returns-clause-row g c =
    let e = c.args.self.now in
    let line = c.args.line.now in
    let read = c.requires.read in
    let parts = read.encoded.parts in
    let words = (g.N.Namer.words c.name_spans.new.self).texts in
    let typed : slice_get (g.N.Namer.types c.name_spans.new.self).texts c.in_ok-self.field-0 ≡ Some (type_text (map symbol_of parts)) =
    ap (λ (k : Known). slice_get k.texts c.in_ok-self.field-0) c.name_spans.ensures.others.1 ∙ c.in_ok-self.ensures.named ∙ ap (λ (t : List ℕ). Some t) (c.as_slice.ensures.value ∙ read.encoded.typed) in
    let named = named_words words line e.front.len e.places.items c.as_slice-2.result.now c.name_spans.new.numbers.items (word_texts parts) c.as_slice-2.ensures.value read.encoded.words_are c.in_ok-name_spans.ensures.named in
    let made : c.put_words.new.words.items ≡ words_of e.codes.items c.name_spans.new.numbers.items = c.in_ok-put_words.ensures ∙ ap₂ words_of c.as_slice-3.ensures.value c.as_slice-4.ensures.value in
    canonical _ line _ e.front.len parts _ words (parts_of e _ line read) typed (subst (λ l. EachWord (HasWord words) parts l) (sym made) (words_are words parts e.codes.items c.name_spans.new.numbers.items read.encoded.coded named))

pub returns-clause-used : goal.returns-clause-used
returns-clause-used g c =
    let e = c.args.self.now in
    let line = c.args.line.now in
    let read = c.requires.read in
    let parts = read.encoded.parts in
    let words = (g.N.Namer.words c.name_spans.new.self).texts in
    let types = (g.N.Namer.types c.name_spans.new.self).texts in
    let typed : slice_get types c.in_ok-self.field-0 ≡ Some (type_text (map symbol_of parts)) =
    ap (λ (k : Known). slice_get k.texts c.in_ok-self.field-0) c.name_spans.ensures.others.1 ∙ c.in_ok-self.ensures.named ∙ ap (λ (t : List ℕ). Some t) (c.as_slice.ensures.value ∙ read.encoded.typed) in
    let named = named_words words line e.front.len e.places.items c.as_slice-2.result.now c.name_spans.new.numbers.items (word_texts parts) c.as_slice-2.ensures.value read.encoded.words_are c.in_ok-name_spans.ensures.named in
    let made : c.put_words.new.words.items ≡ words_of e.codes.items c.name_spans.new.numbers.items = c.in_ok-put_words.ensures ∙ ap₂ words_of c.as_slice-3.ensures.value c.as_slice-4.ensures.value in
    ap (λ l. word_numbers (kinds_from false (get_or types c.in_ok-self.field-0 [])) l) made
    ∙ row_numbers types c.in_ok-self.field-0 parts words e.codes.items c.name_spans.new.numbers.items typed read.encoded.coded named

-- ---- what was asked

pub returns-in_err-self-clause-asked : goal.returns-in_err-self-clause-asked
returns-in_err-self-clause-asked g c =
    let e = c.args.self.now in
    let line = c.args.line.now in
    let read = c.requires.read in
    let p = err_from_is_err_and c.from_residual.result c.from_residual.ensures.1 in
    let was : c.name_type.result ≡ Err c.in_err-self.field-0.0 = c.in_err-self.was in
    let answer : c.from_residual.result ≡ Err c.in_err-self.field-0.0 = cc (p.1, p.2) in
    record {
      text = c.as_slice.result.now;
      is_type = type_asked _ line e.front.pattern e.front.moment e.front.len read.encoded.parts c.as_slice.result.now (parts_of e _ line read) (c.as_slice.ensures.value ∙ read.encoded.typed);
      refusal = Some c.in_err-self.field-0.0;
      middle = c.name_type.new.self;
      named = subst (λ (r : Option NameRefusal). g.N.Namer.naming Types (c.as_slice.result.now ∷ []) r c.args.namer.now c.name_type.new.self) (ap (λ (r : Result ℕ NameRefusal). refusal_of r) was) c.name_type.ensures.naming;
      rest = (refl, ap (λ (r : Result (Unit {0}) NameRefusal). refusal_of r) answer);
    }

pub returns-in_err-name_spans-clause-asked : goal.returns-in_err-name_spans-clause-asked
returns-in_err-name_spans-clause-asked g c =
    let e = c.args.self.now in
    let line = c.args.line.now in
    let read = c.requires.read in
    let typed : c.name_type.result ≡ Ok c.in_ok-self.field-0 = c.in_ok-self.was in
    let p = err_from_is_err_and c.from_residual-in_err-name_spans.result c.from_residual-in_err-name_spans.ensures.1 in
    let was : c.name_spans.result ≡ Err c.in_err-name_spans.field-0.0 = c.in_err-name_spans.was in
    let answer : c.from_residual-in_err-name_spans.result ≡ Err c.in_err-name_spans.field-0.0 = cc (p.1, p.2) in
    record {
      text = c.as_slice.result.now;
      is_type = type_asked _ line e.front.pattern e.front.moment e.front.len read.encoded.parts c.as_slice.result.now (parts_of e _ line read) (c.as_slice.ensures.value ∙ read.encoded.typed);
      refusal = None;
      middle = c.name_type.new.self;
      named = subst (λ (r : Option NameRefusal). g.N.Namer.naming Types (c.as_slice.result.now ∷ []) r c.args.namer.now c.name_type.new.self) (ap (λ (r : Result ℕ NameRefusal). refusal_of r) typed) c.name_type.ensures.naming;
      rest = record {
        texts = texts_at (take (length line - e.front.len) (drop e.front.len line)) c.as_slice-2.result.now;
        are = words_asked _ line e.front.pattern e.front.moment e.front.len read.encoded.parts _ (parts_of e _ line read)
            (lent_texts line e.front.len e.places.items c.as_slice-2.result.now _ c.as_slice-2.ensures.value read.encoded.words_are);
        refusal = refusal_of c.name_spans.result;
        named = c.name_spans.ensures.naming;
        told = λ r is. ap (λ (x : Result (Unit {0}) NameRefusal). refusal_of x) (answer ∙ sym was) ∙ is;
      };
    }

pub returns-in_err-put_words-clause-asked : goal.returns-in_err-put_words-clause-asked
returns-in_err-put_words-clause-asked g c =
    let e = c.args.self.now in
    let line = c.args.line.now in
    let read = c.requires.read in
    let typed : c.name_type.result ≡ Ok c.in_ok-self.field-0 = c.in_ok-self.was in
    let spans : c.name_spans.result ≡ Ok c.in_ok-name_spans.field-0 = c.in_ok-name_spans.was in
    record {
      text = c.as_slice.result.now;
      is_type = type_asked _ line e.front.pattern e.front.moment e.front.len read.encoded.parts c.as_slice.result.now (parts_of e _ line read) (c.as_slice.ensures.value ∙ read.encoded.typed);
      refusal = None;
      middle = c.name_type.new.self;
      named = subst (λ (r : Option NameRefusal). g.N.Namer.naming Types (c.as_slice.result.now ∷ []) r c.args.namer.now c.name_type.new.self) (ap (λ (r : Result ℕ NameRefusal). refusal_of r) typed) c.name_type.ensures.naming;
      rest = record {
        texts = texts_at (take (length line - e.front.len) (drop e.front.len line)) c.as_slice-2.result.now;
        are = words_asked _ line e.front.pattern e.front.moment e.front.len read.encoded.parts _ (parts_of e _ line read)
            (lent_texts line e.front.len e.places.items c.as_slice-2.result.now _ c.as_slice-2.ensures.value read.encoded.words_are);
        refusal = refusal_of c.name_spans.result;
        named = c.name_spans.ensures.naming;
        told = λ r is. let none : None ≡ Some r = sym (ap (λ (x : Result (Unit {0}) NameRefusal). refusal_of x) spans) ∙ is in absurd (cc (none));
      };
    }

pub returns-clause-asked : goal.returns-clause-asked
returns-clause-asked g c =
    let e = c.args.self.now in
    let line = c.args.line.now in
    let read = c.requires.read in
    let typed : c.name_type.result ≡ Ok c.in_ok-self.field-0 = c.in_ok-self.was in
    let spans : c.name_spans.result ≡ Ok c.in_ok-name_spans.field-0 = c.in_ok-name_spans.was in
    record {
      text = c.as_slice.result.now;
      is_type = type_asked _ line e.front.pattern e.front.moment e.front.len read.encoded.parts c.as_slice.result.now (parts_of e _ line read) (c.as_slice.ensures.value ∙ read.encoded.typed);
      refusal = None;
      middle = c.name_type.new.self;
      named = subst (λ (r : Option NameRefusal). g.N.Namer.naming Types (c.as_slice.result.now ∷ []) r c.args.namer.now c.name_type.new.self) (ap (λ (r : Result ℕ NameRefusal). refusal_of r) typed) c.name_type.ensures.naming;
      rest = record {
        texts = texts_at (take (length line - e.front.len) (drop e.front.len line)) c.as_slice-2.result.now;
        are = words_asked _ line e.front.pattern e.front.moment e.front.len read.encoded.parts _ (parts_of e _ line read)
            (lent_texts line e.front.len e.places.items c.as_slice-2.result.now _ c.as_slice-2.ensures.value read.encoded.words_are);
        refusal = refusal_of c.name_spans.result;
        named = c.name_spans.ensures.naming;
        told = λ r is. let none : None ≡ Some r = sym (ap (λ (x : Result (Unit {0}) NameRefusal). refusal_of x) spans) ∙ is in absurd (cc (none));
      };
    }
