-- What the pattern matches, some reading accepts.
use Rattle.std.proofs.Common.{◌≡◌, ◌⊎◌, ℕ, List, [], ◌∷◌, ◌++◌, refl, sym, ap, subst, ◌∙◌, inl, inr, ⊎_elim, append-nil}
use Rattle.std.specs.Prelude.{Bool, true, false, IsTrue, Option, None, Some}
use Rattle.token_rules.specs.Tokens.{is_token_byte, IsDelimiter, is_variable}
use Rattle.wild_match.specs.declared.pattern.Item.{Item}
use Rattle.wild_match.specs.declared.pattern.Item.TheVariants.{Byte, Many}
use Rattle.logtype_text.specs.Parts.{Part, Constant, Variable}
use Rattle.logtype_text.specs.Cut.{plains}
use Rattle.logtype_text.specs.declared.symbols.Kind.{Kind}
use Rattle.query_plan.specs.declared.pieces.Piece.{Piece}
use Rattle.query_plan.specs.declared.pieces.Piece.TheVariants.{Gap, Mark, Word}
use Rattle.query_plan.specs.Pieces.{Side, Free, After, Inside, bytes, flat, IsInner, IsCut, IsSomeInner, EndsWord}
use Rattle.query_plan.specs.Readings.{Term, Letter, Star, Held, letters, Place, AtWord, AtGap, Goes, shut, last, wide, more, skip, word, lead, Reads, finish, star, mark, text, held, Accepts, nothing, letter, pass, eat, fill, MayBe, Breaks}
use Rattle.query_plan.proofs.MatchLemmas.{Steps, ended, byte, drops, takes, stepped, many_all, bytes_match}

-- A body and its parts, a whole token at a time, with the byte before it where that is a delimiter.
pub data Symbols : Option ℕ → List ℕ → List Part → Type 0 where
  none : {e : Option ℕ} → Symbols e [] []
  delimiter : {e : Option ℕ} {d : ℕ} {s : List ℕ} {parts : List Part} → IsDelimiter d → Symbols (Some d) s parts → Symbols e (d ∷ s) (Constant d ∷ parts)
  constant : {e : Option ℕ} {s : List ℕ} {parts : List Part} (w : List ℕ) → IsSomeInner w → Breaks s → is_variable e w ≡ false
      → Symbols None s parts → Symbols e (w ++ s) (plains w parts)
  variable : {e : Option ℕ} {s : List ℕ} {parts : List Part} (w : List ℕ) (kind : Kind) → IsSomeInner w → Breaks s → is_variable e w ≡ true
      → Symbols None s parts → Symbols e (w ++ s) (Variable kind w ∷ parts)

-- some reading of the pieces accepts the parts
pub record Found (e : Side) (ps : List Piece) (parts : List Part) : Type 0 where
  pub reading : List Term
  pub reads : Reads e ps reading
  pub accepts : Accepts reading parts

abbrev pub Agrees : Side → Option ℕ → Type 0
Agrees (After d) b = b ≡ Some d
Agrees Free b = Unit {0}
Agrees Inside b = Unit {0}

-- what is found for a body, wherever the pieces begin
abbrev Holds : Option ℕ → List ℕ → List Part → Type 0
Holds b s parts = (e : Side) (ps : List Piece) → IsCut ps → Agrees e b → Steps (flat ps) s → Found e ps parts

pub clash : (b : ℕ) → IsTrue (is_token_byte b) → IsDelimiter b → ⊥
clash b is not = cc

no_token_first : (t : List ℕ) (q : List Item) → IsSomeInner t → Steps (bytes t q) [] → ⊥
no_token_first [] q c m = c
no_token_first (b ∷ t) q c m = elim m [ ]

found_gap : (e : Side) (ps : List Piece) (parts : List Part) → Found Free ps parts → Found e (Gap ∷ ps) parts
found_gap e ps parts f = record { reading = Star ∷ f.reading; reads = star f.reads; accepts = pass f.accepts }

-- a gap takes one part more
again_in : (y : Part) (e d : Side) (ps : List Piece) (parts : List Part) (r : List Term) → Reads d (Gap ∷ ps) r → Accepts r parts → Found e (Gap ∷ ps) (y ∷ parts)
again_in y e d ps parts r (star {r = r'} n) a = record { reading = Star ∷ r'; reads = star n; accepts = eat a }

again : (y : Part) (e d : Side) (ps : List Piece) (parts : List Part) → Found d (Gap ∷ ps) parts → Found e (Gap ∷ ps) (y ∷ parts)
again y e d ps parts f = again_in y e d ps parts f.reading f.reads f.accepts

any_side_in : (d e : Side) (ps : List Piece) (parts : List Part) (r : List Term) → EndsWord ps → Reads d ps r → Accepts r parts → Found e ps parts
any_side_in d e [] parts r w finish a = record { reading = []; reads = finish; accepts = a }
any_side_in d e (Gap ∷ ps) parts r w (star {r = r'} n) a = record { reading = Star ∷ r'; reads = star n; accepts = a }
any_side_in d e (Mark c ∷ ps) parts r w (mark {r = r'} n) a = record { reading = Letter c ∷ r'; reads = mark n; accepts = a }
any_side_in d e (Word t ∷ ps) parts r w n a = absurd w

any_side : (d e : Side) (ps : List Piece) (parts : List Part) → EndsWord ps → Found d ps parts → Found e ps parts
any_side d e ps parts w f = any_side_in d e ps parts f.reading w f.reads f.accepts

at_end : (e : Side) (ps : List Piece) → IsCut ps → Steps (flat ps) [] → Found e ps []
at_end e [] c m = record { reading = []; reads = finish; accepts = nothing }
at_end e (Gap ∷ ps) c (drops m) = found_gap e ps [] (at_end Free ps c m)
at_end e (Mark d ∷ ps) c m = elim m [ ]
at_end e (Word t ∷ ps) c m = absurd (no_token_first t (flat ps) c.0 m)

at_delimiter : (d : ℕ) (s : List ℕ) (parts : List Part) → IsDelimiter d → Holds (Some d) s parts
    → (e : Side) (ps : List Piece) → IsCut ps → Steps (flat ps) (d ∷ s) → Found e ps (Constant d ∷ parts)
at_delimiter d s parts is ih e [] c m = elim m [ ]
at_delimiter d s parts is ih e (Gap ∷ ps) c (drops m) = found_gap e ps (Constant d ∷ parts) (at_delimiter d s parts is ih Free ps c m)
at_delimiter d s parts is ih e (Gap ∷ ps) c (takes m) = again (Constant d) e Free ps parts (ih Free (Gap ∷ ps) c tt m)
at_delimiter d s parts is ih e (Mark b ∷ ps) c (byte m) =
    let f = ih (After b) ps c.1 refl m in record { reading = Letter b ∷ f.reading; reads = mark f.reads; accepts = letter f.accepts }
at_delimiter d s parts is ih e (Word [] ∷ ps) c m = absurd c.0
at_delimiter d s parts is ih e (Word (b ∷ t) ∷ ps) c (byte m) = absurd (clash b c.0.0 is)

-- what is left of a token's bytes after a token of the pattern that begins in it
pub record Run (q : List Item) (t v s : List ℕ) : Type 0 where
  pub rest : List ℕ
  pub joins : v ≡ t ++ rest
  pub inner : IsInner rest
  pub fits : Steps q (rest ++ s)

-- a token of the pattern that begins in a token of the body ends in it
run : (q : List Item) (s : List ℕ) → Breaks s → (t : List ℕ) → IsInner t → (v : List ℕ) → IsInner v → Steps (bytes t q) (v ++ s) → Run q t v s
run q s breaks [] i v j m = record { rest = v; joins = refl; inner = j; fits = m }
run q [] breaks (b ∷ t) i [] j m = elim m [ ]
run q (d ∷ s) breaks (b ∷ t) i [] j (byte m) = absurd (clash b i.0 breaks)
run q s breaks (b ∷ t) i (c ∷ v) j (byte m) =
    let r = run q s breaks t i.1 v j.1 m in record { rest = r.rest; joins = ap (λ x. c ∷ x) r.joins; inner = r.inner; fits = r.fits }

inner_of : (t : List ℕ) → IsSomeInner t → IsInner t
inner_of [] c = absurd c
inner_of (b ∷ t) c = c

mark_ends : (d : ℕ) (q : List Item) (u s : List ℕ) → IsDelimiter d → IsInner u → Steps (Byte d ∷ q) (u ++ s) → u ≡ []
mark_ends d q [] s is i m = refl
mark_ends d q (x ∷ u) s is i (byte m) = absurd (clash d i.0 is)

-- a closed token is the body's token, so it is a variable exactly where that is one
may_be : (v : Bool) (b : Option ℕ) (s w : List ℕ) → is_variable b w ≡ v → (e : Side) → Agrees e b → (t u : List ℕ) → w ≡ t ++ u → IsInner u
    → (ps : List Piece) → IsCut ps → Steps (flat ps) (u ++ s) → MayBe v e t ps
may_be v b s w is (After d) a t u j i (Mark c ∷ ps) cut m =
    let none : u ≡ [] = mark_ends c (flat ps) u s cut.0 i m in
    let same : t ≡ w = sym (j ∙ ap (λ x. t ++ x) none ∙ append-nil t) in
    subst (λ x. is_variable (Some d) x ≡ v) (sym same) (subst (λ x. is_variable x w ≡ v) a is)
may_be v b s w is (After d) a t u j i [] cut m = tt
may_be v b s w is (After d) a t u j i (Gap ∷ ps) cut m = tt
may_be v b s w is (After d) a t u j i (Word x ∷ ps) cut m = tt
may_be v b s w is Free a t u j i ps cut m = tt
may_be v b s w is Inside a t u j i ps cut m = tt

plains_append : (t u : List ℕ) (parts : List Part) → plains (t ++ u) parts ≡ plains t (plains u parts)
plains_append [] u parts = refl
plains_append (b ∷ t) u parts = ap (λ x. Constant b ∷ x) (plains_append t u parts)

letters_accept : (t : List ℕ) (r : List Term) (parts : List Part) → Accepts r parts → Accepts (letters t r) (plains t parts)
letters_accept [] r parts a = a
letters_accept (b ∷ t) r parts a = letter (letters_accept t r parts a)

-- a token of the pattern as constant bytes
found_text : (e : Side) (t u v : List ℕ) (ps : List Piece) (parts : List Part) → v ≡ t ++ u → MayBe false e t ps → EndsWord ps
    → Found Free ps (plains u parts) → Found e (Word t ∷ ps) (plains v parts)
found_text e t u v ps parts j may ends f =
    let g = any_side Free Inside ps (plains u parts) ends f in
    let same : plains t (plains u parts) ≡ plains v parts = sym (ap (λ x. plains x parts) j ∙ plains_append t u parts) in
    record { reading = letters t g.reading; reads = text may g.reads; accepts = subst (Accepts (letters t g.reading)) same (letters_accept t g.reading (plains u parts) g.accepts) }

led : (e : Side) (t : List ℕ) (x : List Item) (w : List ℕ) → Steps (bytes t x) w → Steps (lead e (bytes t x)) w
led Free t x w m = drops m
led (After d) t x w m = m
led Inside t x w m = m

module _ (s : List ℕ) (parts : List Part) (breaks : Breaks s) (ih : Holds None s parts) where
  -- within a constant token
  in_gap : (ps : List Piece) → IsCut ps → ((v : List ℕ) → IsInner v → Steps (flat ps) (v ++ s) → Found Free ps (plains v parts))
      → (v : List ℕ) → IsInner v → Steps (Many ∷ flat ps) (v ++ s) → Found Free (Gap ∷ ps) (plains v parts)
  in_gap ps c f [] i m = ih Free (Gap ∷ ps) c tt m
  in_gap ps c f (x ∷ v) i (drops m) = found_gap Free ps (plains (x ∷ v) parts) (f (x ∷ v) i m)
  in_gap ps c f (x ∷ v) i (takes m) = again (Constant x) Free Free ps (plains v parts) (in_gap ps c f v i.1 m)

  pub in_text : (ps : List Piece) → IsCut ps → (v : List ℕ) → IsInner v → Steps (flat ps) (v ++ s) → Found Free ps (plains v parts)
  in_text [] c [] i m = ih Free [] c tt m
  in_text [] c (x ∷ v) i m = elim m [ ]
  in_text (Gap ∷ ps) c v i m = in_gap ps c (λ u j n. in_text ps c u j n) v i m
  in_text (Mark d ∷ ps) c [] i m = ih Free (Mark d ∷ ps) c tt m
  in_text (Mark d ∷ ps) c (x ∷ v) i (byte m) = absurd (clash d i.0 c.0)
  in_text (Word t ∷ ps) c v i m =
      let r = run (flat ps) s breaks t (inner_of t c.0) v i m in
      found_text Free t r.rest v ps parts r.joins tt c.1 (in_text ps c.2 r.rest r.inner r.fits)

  pub at_text : (b : Option ℕ) (w : List ℕ) → IsSomeInner w → is_variable b w ≡ false
      → (e : Side) (ps : List Piece) → IsCut ps → Agrees e b → Steps (flat ps) (w ++ s) → Found e ps (plains w parts)
  at_text b [] k is e ps c a m = absurd k
  at_text b (x ∷ w) k is e [] c a m = elim m [ ]
  at_text b (x ∷ w) k is e (Gap ∷ ps) c a m = any_side Free e (Gap ∷ ps) (plains (x ∷ w) parts) tt (in_text (Gap ∷ ps) c (x ∷ w) k m)
  at_text b (x ∷ w) k is e (Mark d ∷ ps) c a (byte m) = absurd (clash d k.0 c.0)
  at_text b (x ∷ w) k is e (Word t ∷ ps) c a m =
      let r = run (flat ps) s breaks t (inner_of t c.0) (x ∷ w) k m in
      let may = may_be false b s (x ∷ w) is e a t r.rest r.joins r.inner ps c.2 r.fits in
      found_text e t r.rest (x ∷ w) ps parts r.joins may c.1 (in_text ps c.2 r.rest r.inner r.fits)

  -- a variable that goes on with these items, and what is found behind it
  pub record Onto (l : Place) (ps : List Piece) (x : List Item) : Type 0 where
    pub left : List Piece
    pub reading : List Term
    pub goes : Goes l ps x left
    pub reads : Reads Inside left reading
    pub accepts : Accepts reading parts

  -- behind a gap, what is left of a variable's text is taken whole by it, or a token lies further on in it
  pub record Later (ps : List Piece) (v : List ℕ) : Type 0 where
    pub items : List Item
    pub fits : Steps (Many ∷ items) v
    pub onto : Onto AtGap ps items

  abbrev Falls : List Piece → List ℕ → Type 0
  Falls ps v = Found Free ps parts ⊎ Later ps v

  pub record Behind (ps : List Piece) (v : List ℕ) : Type 0 where
    pub items : List Item
    pub fits : Steps items v
    pub onto : Onto AtWord ps items

  later_gap : (ps : List Piece) (v : List ℕ) → Later ps v → Later (Gap ∷ ps) v
  later_gap ps v l = record { items = l.items; fits = l.fits; onto = record { left = l.onto.left; reading = l.onto.reading; goes = skip l.onto.goes; reads = l.onto.reads; accepts = l.onto.accepts } }

  gap_falls : (ps : List Piece) → IsCut ps → ((v : List ℕ) → IsInner v → Steps (flat ps) (v ++ s) → Falls ps v)
      → (v : List ℕ) → IsInner v → Steps (Many ∷ flat ps) (v ++ s) → Falls (Gap ∷ ps) v
  gap_falls ps c f [] i m = inl (ih Free (Gap ∷ ps) c tt m)
  gap_falls ps c f (x ∷ v) i (drops m) = ⊎_elim (λ found. inl (found_gap Free ps parts found)) (λ l. inr (later_gap ps (x ∷ v) l)) (f (x ∷ v) i m)
  gap_falls ps c f (x ∷ v) i (takes m) =
      ⊎_elim (λ found. inl found) (λ l. inr (record { items = l.items; fits = takes l.fits; onto = l.onto })) (gap_falls ps c f v i.1 m)

  behind_later : (ps qs : List Piece) (v : List ℕ) (x : List Item) (r : List Term) → Steps (Many ∷ x) v → Goes AtGap (Gap ∷ ps) x qs → Reads Inside qs r → Accepts r parts → Behind (Gap ∷ ps) v
  behind_later ps qs v x r n (skip g) reads a =
      record { items = Many ∷ x; fits = n; onto = record { left = qs; reading = r; goes = more g; reads = reads; accepts = a } }

  behind_gap : (ps : List Piece) (v : List ℕ) → Falls (Gap ∷ ps) v → Behind (Gap ∷ ps) v
  behind_gap ps v (inl f) =
      let g = any_side Free Inside (Gap ∷ ps) parts tt f in
      record { items = Many ∷ []; fits = many_all v; onto = record { left = Gap ∷ ps; reading = g.reading; goes = wide; reads = g.reads; accepts = g.accepts } }
  behind_gap ps v (inr l) = behind_later ps l.onto.left v l.items l.onto.reading l.fits l.onto.goes l.onto.reads l.onto.accepts

  behind_word : (ps : List Piece) → EndsWord ps → IsCut ps → ((v : List ℕ) → IsInner v → Steps (flat ps) (v ++ s) → Falls ps v)
      → (v : List ℕ) → IsInner v → Steps (flat ps) (v ++ s) → Behind ps v
  behind_word [] ends c f [] i m =
      let g = ih Inside [] c tt m in
      record { items = Many ∷ []; fits = drops ended; onto = record { left = []; reading = g.reading; goes = last; reads = g.reads; accepts = g.accepts } }
  behind_word [] ends c f (x ∷ v) i m = elim m [ ]
  behind_word (Gap ∷ ps) ends c f v i m = behind_gap ps v (f v i m)
  behind_word (Mark d ∷ ps) ends c f [] i m =
      let g = ih Inside (Mark d ∷ ps) c tt m in
      record { items = []; fits = ended; onto = record { left = Mark d ∷ ps; reading = g.reading; goes = shut; reads = g.reads; accepts = g.accepts } }
  behind_word (Mark d ∷ ps) ends c f (x ∷ v) i (byte m) = absurd (clash d i.0 c.0)
  behind_word (Word t ∷ ps) ends c f v i m = absurd ends

  -- within a variable, behind a gap
  in_variable : (ps : List Piece) → IsCut ps → (v : List ℕ) → IsInner v → Steps (flat ps) (v ++ s) → Falls ps v
  in_variable [] c [] i m = inl (ih Free [] c tt m)
  in_variable [] c (x ∷ v) i m = elim m [ ]
  in_variable (Gap ∷ ps) c v i m = gap_falls ps c (λ u j n. in_variable ps c u j n) v i m
  in_variable (Mark d ∷ ps) c [] i m = inl (ih Free (Mark d ∷ ps) c tt m)
  in_variable (Mark d ∷ ps) c (x ∷ v) i (byte m) = absurd (clash d i.0 c.0)
  in_variable (Word t ∷ ps) c v i m =
      let r = run (flat ps) s breaks t (inner_of t c.0) v i m in
      let b = behind_word ps c.1 c.2 (λ u j n. in_variable ps c.2 u j n) r.rest r.inner r.fits in
      inr (record {
        items = bytes t b.items;
        fits = drops (subst (λ y. Steps (bytes t b.items) y) (sym r.joins) (bytes_match t b.fits));
        onto = record { left = b.onto.left; reading = b.onto.reading; goes = word b.onto.goes; reads = b.onto.reads; accepts = b.onto.accepts };
      })

  -- a variable that begins further on
  held_later : {l : Place} {ps qs : List Piece} {x : List Item} → Goes l ps x qs → l ≡ AtGap → (r : List Term) → Reads Inside qs r → Accepts r parts
      → (kind : Kind) (w : List ℕ) → Steps (Many ∷ x) w → Found Free ps (Variable kind w ∷ parts)
  held_later shut is r n a kind w m = absurd (cc)
  held_later last is r n a kind w m = absurd (cc)
  held_later wide is r n a kind w m = absurd (cc)
  held_later (more g) is r n a kind w m = absurd (cc)
  held_later (skip {ps = ps} g) is r n a kind w m = found_gap Free ps (Variable kind w ∷ parts) (held_later g refl r n a kind w m)
  held_later (word {t = t} {x = x} g) is r n a kind w m =
      record { reading = Held (Many ∷ bytes t x) ∷ r; reads = held tt g n; accepts = fill (stepped m) a }

  held_here : (e : Side) (t : List ℕ) (ps : List Piece) → MayBe true e t ps → (kind : Kind) (w u : List ℕ) → w ≡ t ++ u → (b : Behind ps u)
      → Found e (Word t ∷ ps) (Variable kind w ∷ parts)
  held_here e t ps may kind w u j b =
      let inside = subst (λ y. Steps (bytes t b.items) y) (sym j) (bytes_match t b.fits) in
      record {
        reading = Held (lead e (bytes t b.items)) ∷ b.onto.reading;
        reads = held may b.onto.goes b.onto.reads;
        accepts = fill (stepped (led e t b.items w inside)) b.onto.accepts;
      }

  pub at_variable : (b : Option ℕ) (kind : Kind) (w : List ℕ) → IsSomeInner w → is_variable b w ≡ true
      → (e : Side) (ps : List Piece) → IsCut ps → Agrees e b → Steps (flat ps) (w ++ s) → Found e ps (Variable kind w ∷ parts)
  at_variable b kind [] k is e ps c a m = absurd k
  at_variable b kind (x ∷ w) k is e [] c a m = elim m [ ]
  at_variable b kind (x ∷ w) k is e (Gap ∷ ps) c a m =
      ⊎_elim
      (λ f. again (Variable kind (x ∷ w)) e Free ps parts f)
      (λ l. any_side Free e (Gap ∷ ps) (Variable kind (x ∷ w) ∷ parts) tt (held_later l.onto.goes refl l.onto.reading l.onto.reads l.onto.accepts kind (x ∷ w) l.fits))
      (in_variable (Gap ∷ ps) c (x ∷ w) k m)
  at_variable b kind (x ∷ w) k is e (Mark d ∷ ps) c a (byte m) = absurd (clash d k.0 c.0)
  at_variable b kind (x ∷ w) k is e (Word t ∷ ps) c a m =
      let r = run (flat ps) s breaks t (inner_of t c.0) (x ∷ w) k m in
      let may = may_be true b s (x ∷ w) is e a t r.rest r.joins r.inner ps c.2 r.fits in
      held_here e t ps may kind (x ∷ w) r.rest r.joins (behind_word ps c.1 c.2 (λ u j n. in_variable ps c.2 u j n) r.rest r.inner r.fits)

pub complete : {b : Option ℕ} {s : List ℕ} {parts : List Part} → Symbols b s parts → Holds b s parts
complete none e ps c a m = at_end e ps c m
complete (delimiter {d = d} {s = s} {parts = parts} is n) e ps c a m = at_delimiter d s parts is (complete n) e ps c m
complete {b = b} (constant {s = s} {parts = parts} w k breaks is n) e ps c a m = at_text s parts breaks (complete n) b w k is e ps c a m
complete {b = b} (variable {s = s} {parts = parts} w kind k breaks is n) e ps c a m = at_variable s parts breaks (complete n) b kind w k is e ps c a m
