-- A search with pages that wait goes on, and stops.
use Rattle.std.proofs.Common.{◌≡◌, ℕ, List, [], ◌∷◌, ◌++◌, Option, refl, sym, ◌∙◌, ap, subst}
use Rattle.std.proofs.lemmas.List.{append-nil, append_assoc}
use Rattle.column_store.specs.declared.row.Row.{Row}
use Rattle.subquery_filter.specs.declared.verdicts.Verdict.{Verdict}
use Rattle.sink_pieces.specs.Output.{Grew, GrewByFront}
use Rattle.sink_pieces.proofs.OutputLemmas.{Moves-all}
use Rattle.printed_lines.specs.Lines.{Picks, Placed, numbered}
use Rattle.search_meaning.specs.Scan.{Asked, IsFound, IsTried}
use Rattle.search_engine.specs.Sofar.{Passes, Sofar, Stops, sofar}
use Rattle.search_walk.specs.Held.{AreRowsOf, Named}
use Rattle.search_engine.specs.Waiting.{Blames, Halts, Page, Pending, Reaches, Same, StandFor, State, WaitFor, page, sofar_of, state}
use Rattle.search_engine.specs.StepsSofar.{front_none, goes_moved, passes_moves, passes_none, passes_on, stops_behind, stops_here, stops_more, ticks_same}
use Rattle.printed_lines.proofs.LineLemmas.{picks_append}
use Rattle.search_walk.proofs.PickLemmas.{picks_once, picks_split}

-- ---- lists of which the same is found and expanded

pub same_all : (version : ℕ) (q : Asked) (xs : List Placed) → Same version q xs xs
same_all version q xs = record { found = λ l. (λ p. p, λ p. p); tried = λ l. (λ p. p, λ p. p) }

pub same_is : (version : ℕ) (q : Asked) (xs ys : List Placed) → xs ≡ ys → Same version q xs ys
same_is version q xs ys is = subst (Same version q xs) is (same_all version q xs)

pub same_on : (version : ℕ) (q : Asked) (xs ys zs : List Placed) → Same version q xs ys → Same version q ys zs
    → Same version q xs zs
same_on version q xs ys zs one two = record {
  found = λ l. (λ p. (two.found l).0 ((one.found l).0 p), λ p. (one.found l).1 ((two.found l).1 p));
  tried = λ l. (λ p. (two.tried l).0 ((one.tried l).0 p), λ p. (one.tried l).1 ((two.tried l).1 p));
}

picks_both : (P : Placed → Type 0) (xs ys us vs picked : List Placed) → ((l : List Placed) → Picks P xs l → Picks P us l)
    → ((l : List Placed) → Picks P ys l → Picks P vs l)
    → Picks P (xs ++ ys) picked → Picks P (us ++ vs) picked
picks_both P xs ys us vs picked one two is =
    let s = picks_split P xs ys picked is in
    subst (Picks P (us ++ vs)) (sym s.both) (picks_append P us vs s.a s.b (one s.a s.first) (two s.b s.second))

pub same_both : (version : ℕ) (q : Asked) (xs ys us vs : List Placed) → Same version q xs us → Same version q ys vs
    → Same version q (xs ++ ys) (us ++ vs)
same_both version q xs ys us vs one two = record {
  found = λ l. (
    picks_both (λ p. IsFound version q p.message) xs ys us vs l (λ k. (one.found k).0) (λ k. (two.found k).0),
    picks_both (λ p. IsFound version q p.message) us vs xs ys l (λ k. (one.found k).1) (λ k. (two.found k).1),
  );
  tried = λ l. (
    picks_both (λ p. IsTried version q p.message) xs ys us vs l (λ k. (one.tried k).0) (λ k. (two.tried k).0),
    picks_both (λ p. IsTried version q p.message) us vs xs ys l (λ k. (one.tried k).1) (λ k. (two.tried k).1),
  );
}

picks_none : (P : Placed → Type 0) (xs l : List Placed) → Picks P xs [] → Picks P xs l → Picks P [] l
picks_none P xs l none is = picks_once P xs l [] is none

none_picks : (P : Placed → Type 0) (xs l : List Placed) → Picks P xs [] → Picks P [] l → Picks P xs l
none_picks P xs l none is = subst (Picks P xs) (sym is) none

-- messages of which none is found or expanded
pub same_none : (version : ℕ) (q : Asked) (xs : List Placed) → Picks (λ p. IsFound version q p.message) xs []
    → Picks (λ p. IsTried version q p.message) xs [] → Same version q xs []
same_none version q xs found tried = record {
  found = λ l. (
    picks_none (λ p. IsFound version q p.message) xs l found,
    none_picks (λ p. IsFound version q p.message) xs l found,
  );
  tried = λ l. (
    picks_none (λ p. IsTried version q p.message) xs l tried,
    none_picks (λ p. IsTried version q p.message) xs l tried,
  );
}

pub passes_same : (version : ℕ) (q : Asked) (xs ys : List Placed) (a b : Sofar) → Same version q xs ys
    → Passes version q ys a b → Passes version q xs a b
passes_same version q xs ys a b same passes = record {
  found = passes.found;
  tried = passes.tried;
  are_found = (same.found passes.found).1 passes.are_found;
  are_tried = (same.tried passes.tried).1 passes.are_tried;
  advances = passes.advances;
}

stops_same : (version : ℕ) (q : Asked) (xs ys : List Placed) (a : Sofar) (w : Option (List ℕ)) (k : ℕ) → Same version q xs ys
    → Stops version q ys a w k → Stops version q xs a w k
stops_same version q xs ys a w k same stops = record {
  front = λ found are. stops.front found ((same.found found).0 are);
  most = λ tried are. stops.most tried ((same.tried tried).0 are);
}

-- ---- pages that wait

pub waits_both : (n : Named) (ps qs : List Page) (xs ys : List Placed) → WaitFor n ps xs → WaitFor n qs ys
    → WaitFor n (ps ++ qs) (xs ++ ys)
waits_both n [] qs xs ys one two = subst (λ l. WaitFor n qs (l ++ ys)) (sym one) two
waits_both n (p ∷ ps) qs xs ys one two = (
  one.0,
  one.1 ++ ys,
  one.2,
  waits_both n ps qs one.1 ys one.3 two,
  ap (λ (l : List Placed). l ++ ys) one.4 ∙ append_assoc (numbered p.name p.number one.0) one.1 ys,
)

pub record Waits (n : Named) (ps qs : List Page) (all : List Placed) : Type 0 where
  pub front : List Placed
  pub back : List Placed
  pub first : WaitFor n ps front
  pub second : WaitFor n qs back
  pub both : all ≡ front ++ back

pub waits_split : (n : Named) (ps qs : List Page) (all : List Placed) → WaitFor n (ps ++ qs) all → Waits n ps qs all
waits_split n [] qs all is = record { front = []; back = all; first = refl; second = is; both = refl }
waits_split n (p ∷ ps) qs all is =
    let r = waits_split n ps qs is.1 is.3 in
    record {
      front = numbered p.name p.number is.0 ++ r.front;
      back = r.back;
      first = (is.0, r.front, is.2, r.first, refl);
      second = r.second;
      both = is.4 ∙ ap (λ (l : List Placed). numbered p.name p.number is.0 ++ l) r.both
          ∙ sym (append_assoc (numbered p.name p.number is.0) r.front r.back);
    }

pub waits_one : (n : Named) (name : List ℕ) (number : ℕ) (rows : List Row) (verdicts : List Verdict)
    (messages : List (List ℕ)) → AreRowsOf n rows messages
    → WaitFor n (page name number rows verdicts ∷ []) (numbered name number messages)
waits_one n name number rows verdicts messages are = (messages, [], are, refl, sym (append-nil (numbered name number messages)))

-- ---- going on

pub reaches_none : (n : Named) (q : Asked) (a : State) → Reaches n q [] a a
reaches_none n q a = λ early waits. record {
  done = [];
  later = early;
  waits = waits;
  same = same_is n.version q (early ++ []) early (append-nil early);
  passes = passes_none n.version q (sofar_of a);
}

pub reaches_on : (n : Named) (q : Asked) (xs ys : List Placed) (a b c : State) → Reaches n q xs a b → Reaches n q ys b c
    → Reaches n q (xs ++ ys) a c
reaches_on n q xs ys a b c one two = λ early waits.
    let p = one early waits in
    let r = two p.later p.waits in
    record {
      done = p.done ++ r.done;
      later = r.later;
      waits = r.waits;
      same =
          same_on n.version q (early ++ (xs ++ ys)) ((p.done ++ p.later) ++ ys) ((p.done ++ r.done) ++ r.later)
          (subst (λ l. Same n.version q l ((p.done ++ p.later) ++ ys)) (append_assoc early xs ys)
          (same_both n.version q (early ++ xs) ys (p.done ++ p.later) ys p.same (same_all n.version q ys)))
          (subst (λ l. Same n.version q l ((p.done ++ r.done) ++ r.later)) (sym (append_assoc p.done p.later ys))
          (subst (Same n.version q (p.done ++ (p.later ++ ys))) (sym (append_assoc p.done r.done r.later))
          (same_both n.version q p.done (p.later ++ ys) p.done (r.done ++ r.later) (same_all n.version q p.done) r.same)));
      passes = passes_on n.version q p.done r.done (sofar_of a) (sofar_of b) (sofar_of c) p.passes r.passes;
    }

-- a page waits
pub reaches_page : (n : Named) (q : Asked) (a b : State) (name : List ℕ) (number : ℕ) (rows : List Row)
    (verdicts : List Verdict) (messages : List (List ℕ)) → AreRowsOf n rows messages → sofar_of b ≡ sofar_of a
    → b.pending.pages ≡ a.pending.pages ++ page name number rows verdicts ∷ [] → Reaches n q (numbered name number messages) a b
reaches_page n q a b name number rows verdicts messages are still added = λ early waits. record {
  done = [];
  later = early ++ numbered name number messages;
  waits = subst (λ l. WaitFor n l (early ++ numbered name number messages)) (sym added)
      (waits_both n a.pending.pages (page name number rows verdicts ∷ []) early (numbered name number messages) waits
      (waits_one n name number rows verdicts messages are));
  same = same_all n.version q (early ++ numbered name number messages);
  passes = subst (Passes n.version q [] (sofar_of a)) (sym still) (passes_none n.version q (sofar_of a));
}

-- messages of which none is found or expanded
pub reaches_over : (n : Named) (q : Asked) (xs : List Placed) (a : State) → Picks (λ p. IsFound n.version q p.message) xs []
    → Picks (λ p. IsTried n.version q p.message) xs [] → Reaches n q xs a a
reaches_over n q xs a found tried = λ early waits. record {
  done = [];
  later = early;
  waits = waits;
  same = subst (Same n.version q (early ++ xs)) (append-nil early)
      (same_both n.version q early xs early [] (same_all n.version q early) (same_none n.version q xs found tried));
  passes = passes_none n.version q (sofar_of a);
}

-- all pages that waited were searched
pub reaches_all : (n : Named) (q : Asked) (a b : State) → b.pending.pages ≡ []
    → ((all : List Placed) → WaitFor n a.pending.pages all → Passes n.version q all (sofar_of a) (sofar_of b))
    → Reaches n q [] a b
reaches_all n q a b none passes = λ early waits. record {
  done = early;
  later = [];
  waits = subst (λ l. WaitFor n l []) (sym none) refl;
  same = same_all n.version q (early ++ []);
  passes = passes early waits;
}

-- what was at hand went out
pub reaches_flushed : (n : Named) (q : Asked) (a b c : State) → Reaches n q [] a b → c.pending.pages ≡ b.pending.pages
    → Grew b.written c.written b.pending.gathered → c.pending.gathered ≡ [] → c.pending.counts ≡ b.pending.counts
    → c.ticks ≡ b.ticks → Reaches n q [] a c
reaches_flushed n q a b c one pages grew empty counts ticks =
    reaches_on n q [] [] a b c one
    (λ early waits. record {
      done = [];
      later = early;
      waits = subst (λ l. WaitFor n l early) (sym pages) waits;
      same = same_is n.version q (early ++ []) early (append-nil early);
      passes = passes_moves n.version q [] (sofar_of b) (sofar_of b) (sofar_of c) (passes_none n.version q (sofar_of b))
          (goes_moved (sofar_of b) (sofar_of c)
          (Moves-all b.written c.written b.pending.gathered c.pending.gathered grew empty)) counts ticks;
    })

-- where no page waited and none waits, the search has gone past the messages
pub reaches_end : (n : Named) (q : Asked) (all : List Placed) (a b : State) → a.pending.pages ≡ [] → b.pending.pages ≡ []
    → Reaches n q all a b → Passes n.version q all (sofar_of a) (sofar_of b)
reaches_end n q all a b none empty reaches =
    let p = reaches [] (subst (λ l. WaitFor n l []) (sym none) refl) in
    let later : p.later ≡ [] = subst (λ l. WaitFor n l p.later) empty p.waits in
    passes_same n.version q all p.done (sofar_of a) (sofar_of b)
    (subst (Same n.version q all) (ap (λ (l : List Placed). p.done ++ l) later ∙ append-nil p.done) p.same) p.passes

-- what was in hand stood for messages, so what is in hand does
pub stands_on : (n : Named) (q : Asked) (all : List Placed) (a b : State) → Reaches n q all a b → StandFor n a.pending.pages
    → StandFor n b.pending.pages
stands_on n q all a b reaches stands =
    let p = reaches stands.0 stands.1 in
    (p.later, p.waits)

-- ---- stopping

pub halts_more : (n : Named) (q : Asked) (xs ys : List Placed) (a : State) (w : Option (List ℕ)) (k : ℕ) → Halts n q xs a w k
    → Halts n q (xs ++ ys) a w k
halts_more n q xs ys a w k halts = λ early waits.
    subst (λ l. Stops n.version q l (sofar_of a) w k) (append_assoc early xs ys)
    (stops_more n.version q (early ++ xs) ys (sofar_of a) w k (halts early waits))

pub halts_behind : (n : Named) (q : Asked) (xs ys : List Placed) (a b : State) (w : Option (List ℕ)) (k : ℕ)
    → Reaches n q xs a b → Halts n q ys b w k → Halts n q (xs ++ ys) a w k
halts_behind n q xs ys a b w k one halts = λ early waits.
    let p = one early waits in
    stops_same n.version q (early ++ (xs ++ ys)) (p.done ++ (p.later ++ ys)) (sofar_of a) w k
    (subst (λ l. Same n.version q l (p.done ++ (p.later ++ ys))) (append_assoc early xs ys)
    (subst (Same n.version q ((early ++ xs) ++ ys)) (append_assoc p.done p.later ys)
    (same_both n.version q (early ++ xs) ys (p.done ++ p.later) ys p.same (same_all n.version q ys))))
    (stops_behind n.version q p.done (p.later ++ ys) (sofar_of a) (sofar_of b) w k p.passes (halts p.later p.waits))

-- the sink took a front of what was gathered, and nothing more was expanded
pub halts_here : (n : Named) (q : Asked) (xs : List Placed) (a : State) (w : Option (List ℕ)) (k : ℕ)
    → GrewByFront a.written w a.pending.gathered → k ≡ a.ticks → Halts n q xs a w k
halts_here n q xs a w k front ticks = λ early waits.
    stops_here n.version q (early ++ xs) (sofar_of a) w k front (ticks_same n.version q (early ++ xs) a.ticks k ticks)

-- nothing was done
pub halts_same : (n : Named) (q : Asked) (w : Option (List ℕ)) (x : Pending) (k : ℕ) → Halts n q [] (state w x k) w k
halts_same n q w x k = halts_here n q [] (state w x k) w k (front_none w w x.gathered refl) refl

pub halts_all : (n : Named) (q : Asked) (a : State) (w : Option (List ℕ)) (k : ℕ)
    → ((all : List Placed) → WaitFor n a.pending.pages all → Stops n.version q all (sofar_of a) w k) → Halts n q [] a w k
halts_all n q a w k stops = λ early waits. subst (λ l. Stops n.version q l (sofar_of a) w k) (sym (append-nil early))
    (stops early waits)

-- ---- a batch

pub round_reaches : (n : Named) (q : Asked) (w v : Option (List ℕ)) (x y z : Pending) (k j : ℕ) → y ≡ x → z.pages ≡ []
    → ((all : List Placed) → WaitFor n y.pages all
    → Passes n.version q all (sofar w y.gathered y.counts k) (sofar v z.gathered z.counts j))
    → Reaches n q [] (state w x k) (state v z j)
round_reaches n q w v x y z k j same none passes = subst (λ (e : Pending). Reaches n q [] (state w e k) (state v z j)) same
    (reaches_all n q (state w y k) (state v z j) none passes)

pub round_halts : (n : Named) (q : Asked) (w v : Option (List ℕ)) (x y : Pending) (k j : ℕ) → y ≡ x
    → ((all : List Placed) → WaitFor n y.pages all → Stops n.version q all (sofar w y.gathered y.counts k) v j)
    → Halts n q [] (state w x k) v j
round_halts n q w v x y k j same stops = subst (λ (e : Pending). Halts n q [] (state w e k) v j) same
    (halts_all n q (state w y k) v j stops)

pub round_blames : (n : Named) (x y : Pending) → y ≡ x → ((all : List Placed) → WaitFor n y.pages all → ⊥) → Blames n x.pages ⊥
round_blames n x y same none = subst (λ (e : Pending). Blames n e.pages ⊥) same none
