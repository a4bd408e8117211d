-- A run of pieces between gaps stands in the stamp, over the border, or in the body.
use Rattle.std.proofs.Common.{◌≡◌, ℕ, List, [], ◌∷◌, ◌++◌, refl, sym, ◌∙◌, ap, subst, arith, inl, inr}
use Rattle.std.specs.Prelude.{◌⊎◌}
use Rattle.std.specs.List.{Contains}
use Rattle.std.proofs.lemmas.List.Elements.{Contains-append_left}
use Rattle.logtype_text.specs.Cut.{PartsAreCut}
use Rattle.wild_match.specs.declared.pattern.Item.{Item}
use Rattle.wild_match.specs.declared.pattern.Item.TheVariants.{Byte, Many}
use Rattle.query_plan.specs.declared.pieces.Piece.{Piece}
use Rattle.query_plan.specs.declared.pieces.Piece.TheVariants.{Gap, Mark, Word}
use Rattle.query_plan.specs.Laws.{Across, BeginsMark, ChunksAreBrought, IsChunk, NoGap, chunk_text}
use Rattle.query_plan.specs.Needs.{around}
use Rattle.query_plan.specs.Pieces.{IsCut, IsSomeInner, bytes, flat}
use Rattle.query_plan.specs.Readings.{Breaks, IsBodyBehind}
use Rattle.query_plan.proofs.MatchLemmas.{Steps, byte, drops, takes, steps, stepped}
use Rattle.query_plan.proofs.BonesLemmas.{cut_behind}
use Rattle.query_plan.proofs.TokenLemmas.{Run, around_alone, bytes_any, bytes_in, many_in, has_word, in_body, word_inner}

-- ---- a chunk stands in what the pattern matches

bytes_append : (t u : List ℕ) (q : List Item) → bytes t (bytes u q) ≡ bytes (t ++ u) q
bytes_append [] u q = refl
bytes_append (b ∷ t) u q = ap (λ x. Byte b ∷ x) (bytes_append t u q)

flat_chunk : (c behind : List Piece) → NoGap c → flat (c ++ behind) ≡ bytes (chunk_text c) (flat behind)
flat_chunk [] behind whole = refl
flat_chunk (Gap ∷ c) behind whole = absurd whole
flat_chunk (Mark d ∷ c) behind whole = ap (λ x. Byte d ∷ x) (flat_chunk c behind whole)
flat_chunk (Word t ∷ c) behind whole = ap (λ x. bytes t x) (flat_chunk c behind whole) ∙ bytes_append t (chunk_text c) (flat behind)

past_pieces : (w : List ℕ) (rest : List Piece) → ((u : List ℕ) → Steps (flat rest) u → Steps (around w) u)
    → (before : List Piece) (s : List ℕ) → Steps (flat (before ++ rest)) s → Steps (around w) s
past_pieces w rest f [] s m = f s m
past_pieces w rest f (Gap ∷ ps) s m = many_in w (flat (ps ++ rest)) (λ u n. past_pieces w rest f ps u n) s m
past_pieces w rest f (Mark d ∷ ps) [] m = elim m [ ]
past_pieces w rest f (Mark d ∷ ps) (c ∷ s) (byte m) = takes (past_pieces w rest f ps s m)
past_pieces w rest f (Word t ∷ ps) s m = bytes_in w (flat (ps ++ rest)) (λ u n. past_pieces w rest f ps u n) t s m

at_chunk : (c behind : List Piece) → NoGap c → (u : List ℕ) → Steps (flat (c ++ behind)) u → Steps (around (chunk_text c)) u
at_chunk c behind whole u m =
    drops (bytes_any (flat behind) (chunk_text c) u (subst (λ q. Steps q u) (flat_chunk c behind whole) m))

has_chunk : (ps c : List Piece) → IsChunk ps c → (s : List ℕ) → Steps (flat ps) s → Steps (around (chunk_text c)) s
has_chunk ps c is s m =
    past_pieces (chunk_text c) (c ++ is.behind) (at_chunk c is.behind is.whole) is.before s
    (subst (λ x. Steps (flat x) s) is.stands m)

-- ---- it stands in the stamp, over the border, or in the body

pub front_run : (w s : List ℕ) → Steps (bytes w (Many ∷ [])) s → Run w s
front_run [] s m = record { rest = s; joins = refl }
front_run (b ∷ w) [] m = elim m [ ]
front_run (b ∷ w) (c ∷ s) (byte m) = let r = front_run w s m in record { rest = r.rest; joins = ap (λ x. c ∷ x) r.joins }

-- a front of the text ends here, and the body goes on with the rest
record Over (w front body : List ℕ) : Type 0 where
  pub back : List ℕ
  pub behind : List ℕ
  pub joins : w ≡ front ++ back
  pub marks : BeginsMark back
  pub begins : body ≡ back ++ behind

over : (body : List ℕ) → Breaks body → (w s : List ℕ) → Steps (bytes w (Many ∷ [])) (s ++ body) → Run w s ⊎ Over w s body
over body breaks [] s m = inl (record { rest = s; joins = refl })
over [] breaks (b ∷ w) [] m = elim m [ ]
over (d ∷ body) breaks (b ∷ w) [] (byte m) =
    let r = front_run w body m in
    inr (record { back = b ∷ w; behind = r.rest; joins = refl; marks = breaks; begins = ap (λ x. d ∷ x) r.joins })
over body breaks (b ∷ w) (c ∷ s) (byte m) =
    elim (over body breaks w s m) [
      | inl r ↦ inl (record { rest = r.rest; joins = ap (λ x. c ∷ x) r.joins })
      | inr o ↦ inr (record { back = o.back; behind = o.behind; joins = ap (λ x. b ∷ x) o.joins; marks = o.marks; begins = o.begins })
    ]

across : (w body : List ℕ) (c : ℕ) (s : List ℕ) → Over w (c ∷ s) body → Across w (c ∷ s) body
across w body c s o = record {
  front = c ∷ s;
  back = o.back;
  before = [];
  behind = o.behind;
  joins = o.joins;
  some = omega arith;
  marks = o.marks;
  ends = refl;
  begins = o.begins;
}

later : (w body : List ℕ) (c : ℕ) (s : List ℕ) → Across w s body → Across w (c ∷ s) body
later w body c s a = record {
  front = a.front;
  back = a.back;
  before = c ∷ a.before;
  behind = a.behind;
  joins = a.joins;
  some = a.some;
  marks = a.marks;
  ends = ap (λ x. c ∷ x) a.ends;
  begins = a.begins;
}

-- in the stamp, over the border, or in the body
abbrev Stands : List ℕ → List ℕ → List ℕ → Type 0
Stands w s body = Steps (around w) s ⊎ (Across w s body ⊎ Steps (around w) body)

stands : (w body : List ℕ) → Breaks body → (s : List ℕ) → Steps (around w) (s ++ body) → Stands w s body
stands w body breaks [] m = inr (inr m)
stands w body breaks (c ∷ s) (takes m) =
    elim (stands w body breaks s m) [
      | inl here ↦ inl (takes here)
      | inr (inl a) ↦ inr (inl (later w body c s a))
      | inr (inr there) ↦ inr (inr there)
    ]
stands w body breaks (c ∷ s) (drops m) =
    elim (over body breaks w (c ∷ s) m) [
      | inl r ↦ inl (around_alone w (c ∷ s) r)
      | inr o ↦ inr (inl (across w body c s o))
    ]

stands_behind : (w s body : List ℕ) → IsBodyBehind s body → Steps (around w) (s ++ body) → Stands w s body
stands_behind w [] body behind m = inr (inr m)
stands_behind w (c ∷ s) body behind m = stands w body behind (c ∷ s) m

-- ---- its tokens

cut_from : (before rest : List Piece) → IsCut (before ++ rest) → IsCut rest
cut_from [] rest cut = cut
cut_from (p ∷ before) rest cut = cut_from before rest (cut_behind p (before ++ rest) cut)

-- a token of the chunk is one that a token may be
some_inner : (ps c : List Piece) → IsCut ps → IsChunk ps c → (t : List ℕ) → Contains c (Word t) → IsSomeInner t
some_inner ps c cut is t has =
    word_inner t (c ++ is.behind) (cut_from is.before (c ++ is.behind) (subst IsCut is.stands cut))
    (Contains-append_left c is.behind (Word t) has)

-- and stands where the chunk does
has_token : (c : List Piece) → NoGap c → (t : List ℕ) → Contains c (Word t) → (s : List ℕ) → Steps (around (chunk_text c)) s → Steps (around t) s
has_token c whole t has s m =
    let there : Contains (c ++ (Gap ∷ [])) (Word t) = Contains-append_left c (Gap ∷ []) (Word t) has in
    many_in t (bytes (chunk_text c) (Many ∷ []))
    (λ u n. has_word t (c ++ (Gap ∷ [])) there u (subst (λ q. Steps q u) (sym (flat_chunk c (Gap ∷ []) whole)) n)) s m

-- ---- the law

pub chunks_brought : PartsAreCut → ChunksAreBrought
chunks_brought law ps c s body parts cut is behind are m =
    elim (stands_behind (chunk_text c) s body behind (has_chunk ps c is (s ++ body) (steps (flat ps) (s ++ body) m))) [
      | inl here ↦ inl (stepped here)
      | inr (inl a) ↦ inr (inl a)
      | inr (inr there) ↦ inr (inr (
        stepped there,
        λ t has. in_body law t body parts (some_inner ps c cut is t has) are (has_token c is.whole t has body there),
      ))
    ]
