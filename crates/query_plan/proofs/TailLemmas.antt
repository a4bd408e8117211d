-- What is left of a pattern behind a stamp keeps its needed words and its skeleton.
use Rattle.std.proofs.Common.{◌≡◌, ℕ, suc, List, [], ◌∷◌, ◌++◌, refl, sym, ap, subst, ◌∙◌, inl, inr, ⊎_elim, ◌⊎◌, arith, IsTrue}
use Rattle.std.proofs.lemmas.Bool.{false≢true, eqb-true}
use Rattle.std.specs.Prelude.{Bool, true, false, not, ◌&&◌, ◌||◌, ◌==◌, None, if◌then◌else◌}
use Rattle.std.specs.Int.{is_in_range}
use Rattle.std.specs.List.{All, AllZip, list_any}
use Rattle.token_rules.specs.Tokens.{is_token_byte, is_variable}
use Rattle.time_patterns.specs.Laws.{is_stamp_byte}
use Rattle.logtype_text.specs.Parts.{Part}
use Rattle.wild_match.specs.Matches.{Match}
use Rattle.wild_match.specs.declared.pattern.Item.{Item}
use Rattle.wild_match.specs.declared.pattern.Item.TheVariants.{Many}
use Rattle.query_plan.specs.declared.pieces.Piece.{Piece}
use Rattle.query_plan.specs.declared.pieces.Piece.TheVariants.{Gap, Mark, Word}
use Rattle.query_plan.specs.Pieces.{Side, Free, After, Inside, IsInner, IsSomeInner, IsCut, bytes, flat, is_open, is_needed, is_stamp_token_byte, needed_of, wide, wide_pieces}
use Rattle.query_plan.specs.Needs.{byte_of, needed_variables_of, is_foreign, foreign_next, is_behind, back_part, bone, token_bones, bones, skeleton_of, constants, Brings}
use Rattle.query_plan.specs.Readings.{Rest, now, same, past, stay, IsBodyBehind}
use Rattle.query_plan.specs.Laws.{IsSearched}
use Rattle.query_plan.proofs.MatchLemmas.{Steps, byte, drops, takes, steps, stepped, match_rest}
use Rattle.query_plan.proofs.WideLemmas.{searched_is_widened}
use Rattle.query_plan.proofs.CompleteLemmas.{Symbols, complete, clash}
use Rattle.query_plan.proofs.ExactLemmas.{BeginsOutside, begins_outside, begins_body}
use Rattle.query_plan.proofs.BonesLemmas.{wide_cut}
use Rattle.query_plan.proofs.NeedsLemmas.{read_bones}
use Rattle.query_plan.proofs.BringLemmas.{read_brings}

stamp_split : (r a b c d e f g h i j : Bool) → (r || a || b || c || d || e || f || g || h || i || j) ≡ true
    → ((r || a || b || c || d) ≡ true) ⊎ ((e ≡ true) ⊎ ((f ≡ true) ⊎ ((g ≡ true) ⊎ ((h ≡ true) ⊎ ((i ≡ true) ⊎ (j ≡ true))))))
stamp_split true a b c d e f g h i j t = inl refl
stamp_split false true b c d e f g h i j t = inl refl
stamp_split false false true c d e f g h i j t = inl refl
stamp_split false false false true d e f g h i j t = inl refl
stamp_split false false false false true e f g h i j t = inl refl
stamp_split false false false false false true f g h i j t = inr (inl refl)
stamp_split false false false false false false true g h i j t = inr (inr (inl refl))
stamp_split false false false false false false false true h i j t = inr (inr (inr (inl refl)))
stamp_split false false false false false false false false true i j t = inr (inr (inr (inr (inl refl))))
stamp_split false false false false false false false false false true j t = inr (inr (inr (inr (inr (inl refl)))))
stamp_split false false false false false false false false false false j t = inr (inr (inr (inr (inr (inr t)))))

-- the byte is this delimiter
no_token : (d b : ℕ) → is_token_byte d ≡ false → IsTrue (is_token_byte b) → (b == d) ≡ true → ⊥
no_token d b not_token token is = false≢true (sym not_token ∙ subst (λ x. is_token_byte x ≡ true) (eqb-true b d is) token)

-- a byte of a token and of a stamp is one of a stamp's token
stamp_token : (b : ℕ) → IsTrue (is_token_byte b) → IsTrue (is_stamp_byte b) → is_stamp_token_byte b ≡ true
unfolding is_token_byte is_stamp_token_byte
stamp_token b token stamp =
    ⊎_elim (λ h. h) (λ h. absurd (⊎_elim (λ k. no_token 58 b refl token k) (λ h. ⊎_elim (λ k. no_token 44 b refl token k)
    (λ h. ⊎_elim (λ k. no_token 47 b refl token k) (λ h. ⊎_elim (λ k. no_token 91 b refl token k)
    (λ h. ⊎_elim (λ k. no_token 93 b refl token k) (λ k. no_token 32 b refl token k) h) h) h) h) h))
    (stamp_split (is_in_range 48 57 b) (b == 45) (b == 46) (b == 84) (b == 90) (b == 58) (b == 44) (b == 47) (b == 91) (b == 93) (b == 32) stamp)

-- no other bytes than a stamp's
abbrev IsStampText : List ℕ → Type 0
IsStampText [] = Unit {0}
IsStampText (b ∷ s) = IsTrue (is_stamp_byte b) × IsStampText s

stamp_text : (s : List ℕ) → All (λ b. IsTrue (is_stamp_byte b)) s → IsStampText s
stamp_text [] h = tt
stamp_text (b ∷ s) h = (h 0 0 (omega arith), stamp_text s (λ k d lt. h (suc k) d (omega arith)))

any_first : (x y : Bool) → x ≡ true → y ≡ false → (not x || y) ≡ false
any_first true y is h = h
any_first false y is h = absurd (false≢true is)

-- a token that can lie in a stamp has no byte of its own
no_other : (t : List ℕ) → IsStampText t → is_foreign t ≡ false
no_other [] h = refl
no_other (b ∷ t) h = any_first (is_stamp_byte b) (is_foreign t) h.0 (no_other t h.1)

no_own : (t : List ℕ) → IsInner t → IsStampText t → list_any (λ b. not (is_stamp_token_byte b)) t ≡ false
no_own [] i h = refl
no_own (b ∷ t) i h = any_first (is_stamp_token_byte b) (list_any (λ b. not (is_stamp_token_byte b)) t) (stamp_token b i.0 h.0) (no_own t i.1 h.1)

and_none : (x y : Bool) → y ≡ false → (x && y) ≡ false
and_none true y h = h
and_none false y h = refl

not_needed : (e : Side) (ps : List Piece) (t : List ℕ) → IsInner t → IsStampText t → is_needed e ps t ≡ false
not_needed e ps t i h = and_none (not (is_open e ps)) (list_any (λ b. not (is_stamp_token_byte b)) t) (no_own t i h)

back_skip : (p : Piece) (ps : List Piece) → is_behind p ps ≡ false → back_part (p ∷ ps) ≡ back_part ps
back_skip p ps is = ap (λ v. if v then p ∷ ps else back_part ps) is

-- a skeleton of which a front is left out matches no less
many_bytes : (t : List ℕ) (q : List Item) (cs : List ℕ) → ((u : List ℕ) → Steps q u → Steps (Many ∷ q) u) → Steps (bytes t q) cs → Steps (Many ∷ q) cs
many_bytes [] q cs f m = f cs m
many_bytes (b ∷ t) q [] f m = elim m [ ]
many_bytes (b ∷ t) q (c ∷ cs) f (byte m) = takes (many_bytes t q cs f m)

bone_many : (v : Bool) (t : List ℕ) (q : List Item) (cs : List ℕ) → Steps (bone v t q) cs → Steps (Many ∷ q) cs
bone_many true t q cs m = drops m
bone_many false t q cs m = many_bytes t q cs (λ u k. drops k) m

token_many : (o : Bool) (before : _) (t : List ℕ) (q : List Item) (cs : List ℕ) → Steps (token_bones o before t q) cs → Steps (Many ∷ q) cs
token_many true before t q cs m = m
token_many false before t q cs m = bone_many (is_variable before t) t q cs m

many_onto : (q r : List Item) → ((u : List ℕ) → Steps q u → Steps (Many ∷ r) u) → (cs : List ℕ) → Steps (Many ∷ q) cs → Steps (Many ∷ r) cs
many_onto q r f cs (drops m) = f cs m
many_onto q r f (c ∷ cs) (takes m) = takes (many_onto q r f cs m)

pick : (v : Bool) (p : Piece) (ps : List Piece) (cs : List ℕ) → Steps (Many ∷ bones Free (p ∷ ps)) cs → Steps (skeleton_of ps) cs
    → Steps (Many ∷ bones Free (if v then p ∷ ps else back_part ps)) cs
pick true p ps cs m n = m
pick false p ps cs m n = n

back_bones : (e : Side) (ps : List Piece) (cs : List ℕ) → Steps (bones e ps) cs → Steps (skeleton_of ps) cs
back_bones e [] cs m = drops m
back_bones e (Gap ∷ ps) cs m = many_onto (bones Free ps) (bones Free (back_part ps)) (λ u k. back_bones Free ps u k) cs m
back_bones e (Mark d ∷ ps) [] m = elim m [ ]
back_bones e (Mark d ∷ ps) (c ∷ cs) (byte m) =
    pick (is_behind (Mark d) ps) (Mark d) ps (c ∷ cs) (drops (byte m)) (takes (back_bones (After d) ps cs m))
back_bones e (Word t ∷ ps) cs m =
    let many = token_many (is_open e ps) (byte_of e) t (bones Inside ps) cs m in
    pick (is_behind (Word t) ps) (Word t) ps cs (drops many)
    (many_onto (bones Inside ps) (bones Free (back_part ps)) (λ u k. back_bones Inside ps u k) cs many)

-- the pieces of what is left, with the same needs
record TailAt (e : Side) (ps : List Piece) (q : List Item) : Type 0 where
  pub tail : List Piece
  pub is : flat tail ≡ q
  pub cut : IsCut tail
  pub words : needed_of Free tail ≡ needed_of e ps
  pub flags : needed_variables_of Free tail ≡ needed_variables_of e ps
  pub bony : (cs : List ℕ) → Steps (bones Free tail) cs → Steps (skeleton_of ps) cs

-- all is left
whole : (e : Side) (ps : List Piece) → IsCut ps → BeginsOutside (flat ps) → TailAt e ps (flat ps)
whole e [] c out = record { tail = []; is = refl; cut = c; words = refl; flags = refl; bony = λ cs m. back_bones Free [] cs m }
whole e (Gap ∷ ps) c out = record { tail = Gap ∷ ps; is = refl; cut = c; words = refl; flags = refl; bony = λ cs m. back_bones Free (Gap ∷ ps) cs m }
whole e (Mark d ∷ ps) c out = record { tail = Mark d ∷ ps; is = refl; cut = c; words = refl; flags = refl; bony = λ cs m. back_bones Free (Mark d ∷ ps) cs m }
whole e (Word [] ∷ ps) c out = absurd c.0
whole e (Word (b ∷ t) ∷ ps) c out = absurd (clash b c.0.0 out)

-- a token that the stamp has
record Through (t : List ℕ) (x q : List Item) : Type 0 where
  pub rest : List ℕ
  pub is_rest : Rest x rest q
  pub stamp : IsStampText rest
  pub within : IsStampText t

through : (x q : List Item) → BeginsOutside q → (t : List ℕ) → IsInner t → (s : List ℕ) → IsStampText s → Rest (bytes t x) s q → Through t x q
through x q out [] i s h r = record { rest = s; is_rest = r; stamp = h; within = tt }
through x q out (b ∷ t) i [] h now = absurd (clash b i.0 out)
through x q out (b ∷ t) i (c ∷ s) h (same r) =
    let k = through x q out t i.1 s h.1 r in record { rest = k.rest; is_rest = k.is_rest; stamp = k.stamp; within = (h.0, k.within) }

some_inner : (t : List ℕ) → IsSomeInner t → IsInner t
some_inner [] i = absurd i
some_inner (b ∷ t) i = i

behind_gap : (e : Side) (ps : List Piece) (q : List Item) → TailAt Free ps q → TailAt e (Gap ∷ ps) q
behind_gap e ps q k = record { tail = k.tail; is = k.is; cut = k.cut; words = k.words; flags = k.flags; bony = k.bony }

behind_mark : (e : Side) (d : ℕ) (ps : List Piece) (q : List Item) → IsTrue (is_stamp_byte d) → foreign_next ps ≡ false → TailAt (After d) ps q
    → TailAt e (Mark d ∷ ps) q
behind_mark e d ps q stamp next k = record {
  tail = k.tail;
  is = k.is;
  cut = k.cut;
  words = k.words;
  flags = k.flags;
  bony = λ cs m. subst (λ x. Steps (Many ∷ bones Free x) cs) (sym (back_skip (Mark d) ps (any_first (is_stamp_byte d) (foreign_next ps) stamp next))) (k.bony cs m);
}

behind_word : (e : Side) (t : List ℕ) (ps : List Piece) (q : List Item) → IsInner t → IsStampText t → TailAt Inside ps q → TailAt e (Word t ∷ ps) q
behind_word e t ps q i stamp k = record {
  tail = k.tail;
  is = k.is;
  cut = k.cut;
  words = k.words ∙ sym (ap (λ v. if v then t ∷ needed_of Inside ps else needed_of Inside ps) (not_needed e ps t i stamp));
  flags = k.flags
      ∙ sym (ap (λ v. if v then is_variable (byte_of e) t ∷ needed_variables_of Inside ps else needed_variables_of Inside ps) (not_needed e ps t i stamp));
  bony = λ cs m. subst (λ x. Steps (Many ∷ bones Free x) cs) (sym (back_skip (Word t) ps (no_other t stamp))) (k.bony cs m);
}

in_gap : (e : Side) (ps : List Piece) (q : List Item) → IsCut ps → BeginsOutside q
    → ((s : List ℕ) → IsStampText s → Rest (flat ps) s q → TailAt Free ps q)
    → (s : List ℕ) → IsStampText s → Rest (Many ∷ flat ps) s q → TailAt e (Gap ∷ ps) q
in_gap e ps q c out f [] h now = whole e (Gap ∷ ps) c out
in_gap e ps q c out f (b ∷ s) h (past r) = behind_gap e ps q (f (b ∷ s) h r)
in_gap e ps q c out f (b ∷ s) h (stay r) = in_gap e ps q c out f s h.1 r

no_foreign : (ps : List Piece) → IsCut ps → (q : List Item) → BeginsOutside q → (s : List ℕ) → IsStampText s → Rest (flat ps) s q → foreign_next ps ≡ false
no_foreign [] c q out s h r = refl
no_foreign (Gap ∷ ps) c q out s h r = refl
no_foreign (Mark d ∷ ps) c q out s h r = refl
no_foreign (Word t ∷ ps) c q out s h r = no_other t (through (flat ps) q out t (some_inner t c.0) s h r).within

tail_of : (ps : List Piece) → IsCut ps → (e : Side) (q : List Item) → BeginsOutside q → (s : List ℕ) → IsStampText s → Rest (flat ps) s q → TailAt e ps q
tail_of [] c e q out [] h now = whole e [] c out
tail_of [] c e q out (b ∷ s) h r = elim r [ ]
tail_of (Gap ∷ ps) c e q out s h r = in_gap e ps q c out (λ u k n. tail_of ps c Free q out u k n) s h r
tail_of (Mark d ∷ ps) c e q out [] h now = whole e (Mark d ∷ ps) c out
tail_of (Mark d ∷ ps) c e q out (b ∷ s) h (same r) = behind_mark e d ps q h.0 (no_foreign ps c.1 q out s h.1 r) (tail_of ps c.1 (After d) q out s h.1 r)
tail_of (Word t ∷ ps) c e q out s h r =
    let i = some_inner t c.0 in
    let k = through (flat ps) q out t i s h r in
    behind_word e t ps q i k.within (tail_of ps c.2 Inside q out k.rest k.stamp k.is_rest)

-- what a message brings
pub record Needs (ps : List Piece) (parts : List Part) : Type 0 where
  pub words : AllZip (λ t v. Brings parts t v) (needed_of Free ps) (needed_variables_of Free ps)
  pub bony : Match (skeleton_of ps) (constants parts)

-- what a tail's pieces that match the body bring
brought : (ps : List Piece) (q : List Item) (body : List ℕ) (parts : List Part) → TailAt Free ps q → Symbols None body parts → Steps q body → Needs ps parts
brought ps q body parts k symbols m =
    let f = complete symbols Free k.tail k.cut tt (subst (λ x. Steps x body) (sym k.is) m) in
    let found = read_brings {r = f.reading} parts f.reads k.cut parts f.accepts (record { front = []; is = refl }) in
    record {
      words = subst (λ vs. AllZip (λ t v. Brings parts t v) (needed_of Free ps) vs) k.flags
          (subst (λ ts. AllZip (λ t v. Brings parts t v) ts (needed_variables_of Free k.tail)) k.words found);
      bony = stepped (k.bony (constants parts) (read_bones {r = f.reading} f.reads parts f.accepts));
    }

pub needs : (p : List Item) (s body : List ℕ) (parts : List Part) → IsSearched p → All (λ b. IsTrue (is_stamp_byte b)) s → IsBodyBehind s body
    → Symbols None body parts → Match (wide p) (s ++ body) → Needs (wide_pieces p) parts
needs p s body parts searched stamp behind symbols m =
    let w = searched_is_widened p searched in
    let l = match_rest (wide p) body s (steps (wide p) (s ++ body) m) in
    let out = begins_outside (wide p) w s l.rest l.is_rest (begins_body s body l.rest behind l.fits) in
    brought (wide_pieces p) l.rest body parts (tail_of (wide_pieces p) (wide_cut p) Free l.rest out s (stamp_text s stamp) l.is_rest) symbols l.fits
