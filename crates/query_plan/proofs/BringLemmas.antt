-- The needed words among the parts that a reading accepts.
use Rattle.std.proofs.Common.{◌≡◌, ℕ, List, [], ◌∷◌, ◌++◌, refl, sym, ap, subst, ◌∙◌, inl, inr}
use Rattle.std.proofs.lemmas.Bool.{false≢true}
use Rattle.std.proofs.lemmas.List.{append_assoc}
use Rattle.std.specs.Prelude.{Bool, true, false, if◌then◌else◌}
use Rattle.std.specs.List.{AllZip}
use Rattle.token_rules.specs.Tokens.{IsDelimiter, is_variable}
use Rattle.logtype_text.specs.Parts.{Part, Constant, Variable}
use Rattle.logtype_text.specs.Cut.{plains}
use Rattle.wild_match.specs.Matches.{Match}
use Rattle.wild_match.specs.declared.pattern.Item.{Item}
use Rattle.query_plan.specs.declared.pieces.Piece.{Piece}
use Rattle.query_plan.specs.declared.pieces.Piece.TheVariants.{Gap, Mark, Word}
use Rattle.query_plan.specs.Pieces.{Side, Free, After, Inside, bytes, IsCut, is_needed, needed_of}
use Rattle.query_plan.specs.Needs.{byte_of, needed_variables_of, Owns, Shows, Brings}
use Rattle.query_plan.specs.Readings.{Term, Star, MayBe, Place, AtWord, Goes, shut, last, wide, more, skip, word, lead, Reads, finish, star, mark, text, held, Accepts, letter, pass, eat, fill}
use Rattle.query_plan.proofs.MatchLemmas.{Steps, byte, steps}
use Rattle.query_plan.proofs.NeededLemmas.{needed_inside}
use Rattle.query_plan.proofs.BonesLemmas.{variables_inside, cut_behind}
use Rattle.query_plan.proofs.NeedsLemmas.{accepts_letters}

-- the parts are the last ones of all
pub record EndsAt (all parts : List Part) : Type 0 where
  pub front : List Part
  pub is : all ≡ front ++ parts

-- and a delimiter stands before them, where one of the pattern does
abbrev Ends : Side → List Part → List Part → Type 0
Ends Free all parts = EndsAt all parts
Ends Inside all parts = EndsAt all parts
Ends (After d) all parts = IsDelimiter d × EndsAt all (Constant d ∷ parts)

ends_next : (all : List Part) (a : Part) (parts : List Part) → EndsAt all (a ∷ parts) → EndsAt all parts
ends_next all a parts h = record { front = h.front ++ a ∷ []; is = h.is ∙ sym (append_assoc h.front (a ∷ []) parts) }

ends_plains : (all : List Part) (t : List ℕ) (parts : List Part) → EndsAt all (plains t parts) → EndsAt all parts
ends_plains all [] parts h = h
ends_plains all (b ∷ t) parts h = ends_plains all t parts (ends_next all (Constant b) (plains t parts) h)

ends_some : (e : Side) (all parts : List Part) → Ends e all parts → EndsAt all parts
ends_some Free all parts h = h
ends_some Inside all parts h = h
ends_some (After d) all parts h = ends_next all (Constant d) parts h.1

owns_behind : (t : List ℕ) (front parts : List Part) → Owns t parts → Owns t (front ++ parts)
owns_behind t [] parts o = o
owns_behind t (Constant b ∷ front) parts o = owns_behind t front parts o
owns_behind t (Variable kind w ∷ front) parts o = inr (owns_behind t front parts o)

bytes_is : (t w : List ℕ) → Steps (bytes t []) w → w ≡ t
bytes_is [] [] m = refl
bytes_is [] (b ∷ w) m = elim m [ ]
bytes_is (b ∷ t) [] m = elim m [ ]
bytes_is (b ∷ t) (c ∷ w) (byte m) = ap (λ x. b ∷ x) (bytes_is t w m)

-- a needed word that is read as constant bytes
shown : (e : Side) (t : List ℕ) (ps : List Piece) (r : List Term) (rest all parts : List Part) → is_needed e ps t ≡ true
    → MayBe false e t ps → IsCut (Word t ∷ ps) → Reads Inside ps r → Accepts r rest → parts ≡ plains t rest → Ends e all parts
    → Brings all t (is_variable (byte_of e) t)
shown Free t ps r rest all parts own may c n a is h = absurd (false≢true own)
shown Inside t ps r rest all parts own may c n a is h = absurd (false≢true own)
shown (After b) t [] r rest all parts own may c n a is h = absurd (false≢true own)
shown (After b) t (Gap ∷ ps) r rest all parts own may c n a is h = absurd (false≢true own)
shown (After b) t (Word w ∷ ps) r rest all parts own may c n a is h = absurd (false≢true own)
shown (After b) t (Mark d ∷ ps) r [] all parts own may c (mark n) a is h = elim a [ ]
shown (After b) t (Mark d ∷ ps) r (Variable kind w ∷ rest) all parts own may c (mark n) a is h = elim a [ ]
shown (After b) t (Mark d ∷ ps) r (Constant x ∷ rest) all parts own may c (mark n) (letter a) is h =
    let shows : Shows t all = record {
      front = h.1.front;
      behind = rest;
      left = b;
      right = d;
      left_ends = h.0;
      right_ends = (cut_behind (Word t) (Mark d ∷ ps) c).0;
      stands = h.1.is ∙ ap (λ x. h.1.front ++ Constant b ∷ x) is;
    } in subst (λ v. Brings all t v) (sym may) shows

-- a needed word that is read as a variable
owned : (e : Side) (t : List ℕ) (ps qs : List Piece) (x : List Item) (kind : _) (w : List ℕ) (rest all : List Part) → is_needed e ps t ≡ true
    → MayBe true e t ps → Goes AtWord ps x qs → Match (lead e (bytes t x)) w → Ends e all (Variable kind w ∷ rest)
    → Brings all t (is_variable (byte_of e) t)
owned Free t ps qs x kind w rest all own may g m h = absurd (false≢true own)
owned Inside t ps qs x kind w rest all own may g m h = absurd (false≢true own)
owned (After b) t [] qs x kind w rest all own may g m h = absurd (false≢true own)
owned (After b) t (Gap ∷ ps) qs x kind w rest all own may g m h = absurd (false≢true own)
owned (After b) t (Word u ∷ ps) qs x kind w rest all own may g m h = absurd (false≢true own)
owned (After b) t (Mark d ∷ ps) qs x kind w rest all own may shut m h =
    let here : Owns t (Constant b ∷ Variable kind w ∷ rest) = inl (bytes_is t w (steps (bytes t []) w m)) in
    let owns : Owns t all = subst (Owns t) (sym h.1.is) (owns_behind t h.1.front (Constant b ∷ Variable kind w ∷ rest) here) in
    subst (λ v. Brings all t v) (sym may) owns

-- nothing that is needed stands within a variable
goes_words : {l : Place} {ps qs : List Piece} {x : List Item} → Goes l ps x qs → needed_of Free ps ≡ needed_of Free qs
goes_words shut = refl
goes_words last = refl
goes_words wide = refl
goes_words (more g) = goes_words g
goes_words (skip g) = goes_words g
goes_words (word {ps = ps} g) = needed_inside ps ∙ goes_words g

goes_flags : {l : Place} {ps qs : List Piece} {x : List Item} → Goes l ps x qs → needed_variables_of Free ps ≡ needed_variables_of Free qs
goes_flags shut = refl
goes_flags last = refl
goes_flags wide = refl
goes_flags (more g) = goes_flags g
goes_flags (skip g) = goes_flags g
goes_flags (word {ps = ps} g) = variables_inside ps ∙ goes_flags g

goes_cut : {l : Place} {ps qs : List Piece} {x : List Item} → Goes l ps x qs → IsCut ps → IsCut qs
goes_cut shut c = c
goes_cut last c = c
goes_cut wide c = c
goes_cut (more g) c = goes_cut g c
goes_cut (skip g) c = goes_cut g c
goes_cut (word g) c = goes_cut g c.2

abbrev AllBrought : List Part → List (List ℕ) → List Bool → Type 0
AllBrought all ts vs = AllZip (λ t v. Brings all t v) ts vs

zip_if : (all : List Part) (own v : Bool) (t : List ℕ) (ts : List (List ℕ)) (vs : List Bool) → (own ≡ true → Brings all t v)
    → AllBrought all ts vs → AllBrought all (if own then t ∷ ts else ts) (if own then v ∷ vs else vs)
zip_if all true v t ts vs f z = (f refl, z)
zip_if all false v t ts vs f z = z

star_brings : (Z : Type 0) (all : List Part) (r : List Term) → ((parts : List Part) → Accepts r parts → EndsAt all parts → Z)
    → (parts : List Part) → Accepts (Star ∷ r) parts → EndsAt all parts → Z
star_brings Z all r f parts (pass a) h = f parts a h
star_brings Z all r f (b ∷ parts) (eat a) h = star_brings Z all r f parts a (ends_next all b parts h)

pub read_brings : {e : Side} {ps : List Piece} {r : List Term} (all : List Part) → Reads e ps r → IsCut ps → (parts : List Part) → Accepts r parts
    → Ends e all parts → AllBrought all (needed_of e ps) (needed_variables_of e ps)
read_brings all finish c parts a h = tt
read_brings {e = e} all (star {ps = ps} {r = r} n) c parts a h =
    star_brings (AllBrought all (needed_of Free ps) (needed_variables_of Free ps)) all r (λ u b k. read_brings all n c u b k) parts a (ends_some e all parts h)
read_brings all (mark n) c [] a h = elim a [ ]
read_brings all (mark n) c (Variable kind w ∷ parts) a h = elim a [ ]
read_brings {e = e} all (mark {d = d} n) c (Constant b ∷ parts) (letter a) h =
    read_brings all n c.1 parts a (c.0, ends_some e all (Constant d ∷ parts) h)
read_brings {e = e} all (text {t = t} {ps = ps} {r = r} may n) c parts a h =
    let k = accepts_letters t r parts a in
    zip_if all (is_needed e ps t) (is_variable (byte_of e) t) t (needed_of Inside ps) (needed_variables_of Inside ps)
    (λ own. shown e t ps r k.rest all parts own may c n k.accepts k.is h)
    (read_brings all n c.2 k.rest k.accepts (ends_plains all t k.rest (subst (EndsAt all) k.is (ends_some e all parts h))))
read_brings all (held may g n) c [] a h = elim a [ ]
read_brings all (held may g n) c (Constant b ∷ parts) a h = elim a [ ]
read_brings {e = e} all (held {t = t} {ps = ps} {qs = qs} {x = x} may g n) c (Variable kind w ∷ parts) (fill m a) h =
    let behind = read_brings all n (goes_cut g c.2) parts a (ends_next all (Variable kind w) parts (ends_some e all (Variable kind w ∷ parts) h)) in
    let words : needed_of Inside qs ≡ needed_of Inside ps = needed_inside qs ∙ sym (goes_words g) ∙ sym (needed_inside ps) in
    let flags : needed_variables_of Inside qs ≡ needed_variables_of Inside ps = variables_inside qs ∙ sym (goes_flags g) ∙ sym (variables_inside ps) in
    zip_if all (is_needed e ps t) (is_variable (byte_of e) t) t (needed_of Inside ps) (needed_variables_of Inside ps)
    (λ own. owned e t ps qs x kind w parts all own may g m h)
    (subst (λ vs. AllBrought all (needed_of Inside ps) vs) flags (subst (λ ts. AllBrought all ts (needed_variables_of Inside qs)) words behind))
