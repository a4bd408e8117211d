-- Laws of a worker, which its trait asks for.
use Rattle.std.proofs.Common.{◌≡◌, ℕ, ◌+◌, ◌≤◌, List, [], ◌∷◌, ◌++◌, length, sym, refl, ap, ◌∙◌, subst, Option, None, Some, IsSome, slice_get, arith, append-nil, append_assoc}
use Rattle.std.proofs.lemmas.List.Elements.{All-nil, All-append, All-weaker}
use Rattle.log_seams.specs.Disk.{DiskState}
use Rattle.turn_lock.specs.Words.{own_list, seen, IsReady}
use Rattle.turn_lock.proofs.FrontLemmas.{prefix_length, prefix_self, prefix_trans}
use Rattle.ingest_fork.specs.Works.{ArePieces}
use Rattle.ingest_fork.proofs.PlaceLemmas.{at_left, at_right}
use Rattle.dict_lock.specs.Shared.{BookPass, OwnsBehind}
use Rattle.dict_lock.specs.Cached.{pass_in}
use Rattle.row_codec.specs.Naming.{HasGrown, Known}
use Rattle.disk_seal.specs.Fixed.{KeeperPass}
use Rattle.disk_seal.specs.Known.{known_of}
use Rattle.ingest_workers.specs.declared.job.Job.{Job}
use Rattle.ingest_workers.specs.declared.worker.BookPasses.{BookPasses}
use Rattle.ingest_workers.specs.declared.worker.Plan.{Plan}
use Rattle.ingest_workers.specs.declared.worker.Worker.{Worker}
use Rattle.ingest_workers.specs.Full.{books_by}
use Rattle.ingest_workers.specs.JobDone.{IsDone}
use Rattle.ingest_workers.specs.Met.{WasMet, WasMetBy}
use Rattle.ingest_workers.specs.Naming.{AddsOnly}
use Rattle.ingest_workers.specs.Worker.{passes_in, passes_of, types_of, words_of, MayAddTexts, IsIdle, NamesOnly, DidOnly, DidJob, MayDo}

grows_self : (P : List ℕ → Type 0) (known : Known) → HasGrown P known known
grows_self P known = record {
  limit = refl;
  front = prefix_self known.texts;
  more = [];
  added = sym
      (append-nil known.added);
  allowed = All-nil P;
}

grows_then : (P : List ℕ → Type 0) (a b c : Known) → HasGrown P a b → HasGrown P b c → HasGrown P a c
grows_then P a b c one two = record {
  limit = two.limit ∙ one.limit;
  front = prefix_trans a.texts b.texts c.texts one.front two.front;
  more = one.more ++ two.more;
  added = two.added ∙ (ap (λ l. l ++ two.more) one.added ∙ append_assoc a.added one.more two.more);
  allowed = All-append P one.more two.more one.allowed two.allowed;
}

grows_wider : (P Q : List ℕ → Type 0) (a b : Known) → ((t : List ℕ) → P t → Q t) → HasGrown P a b → HasGrown Q a b
grows_wider P Q a b f one =
    record {
      limit = one.limit;
      front = one.front;
      more = one.more;
      added = one.added;
      allowed = λ i d lt. f _
          (one.allowed i d lt);
    }

owns_self : (p : BookPass) → OwnsBehind p p
owns_self p = record {
  more = [];
  is = sym (append-nil (own_list p));
  behind = All-nil
      (λ (x : ℕ × List ℕ). length (seen p) ≤ x.0);
}

owns_then : (p q r : BookPass) → length (seen p) ≤ length (seen q) → OwnsBehind p q → OwnsBehind q r → OwnsBehind p r
owns_then p q r long one two = record {
  more = one.more ++ two.more;
  is = two.is ∙ (ap (λ l. l ++ two.more) one.is ∙ append_assoc (own_list p) one.more two.more);
  behind = All-append (λ (x : ℕ × List ℕ). length (seen p) ≤ x.0) one.more two.more one.behind
      (All-weaker (λ (x : ℕ × List ℕ). length (seen q) ≤ x.0) (λ (x : ℕ × List ℕ). length (seen p) ≤ x.0)
      (λ x le. omega (arith, long, le)) two.more two.behind);
}

adds_self : (P : List ℕ → Type 0) (p : BookPass) → IsReady p → AddsOnly P p p
adds_self P p ready = record {
  goes = record { still = record { lock = refl; number = refl; about_is = refl }; ready = ready; seen_on = prefix_self (seen p) };
  grown = grows_self P (known_of p);
  own = owns_self p;
}

adds_then : (P : List ℕ → Type 0) (p q r : BookPass) → AddsOnly P p q → AddsOnly P q r → AddsOnly P p r
adds_then P p q r one two = record {
  goes = record {
    still = record {
      lock = two.goes.still.lock ∙ one.goes.still.lock;
      number = two.goes.still.number ∙ one.goes.still.number;
      about_is = two.goes.still.about_is ∙ one.goes.still.about_is;
    };
    ready = two.goes.ready;
    seen_on = prefix_trans (seen p) (seen q) (seen r) one.goes.seen_on two.goes.seen_on;
  };
  grown = grows_then P (known_of p) (known_of q) (known_of r) one.grown two.grown;
  own = owns_then p q r (prefix_length (seen p) (seen q) one.goes.seen_on) one.own two.own;
}

adds_wider : (P Q : List ℕ → Type 0) (p q : BookPass) → ((t : List ℕ) → P t → Q t) → AddsOnly P p q → AddsOnly Q p q
adds_wider P Q p q f one = record {
  goes = one.goes;
  grown = grows_wider P Q (known_of p)
      (known_of q) f one.grown;
  own = one.own;
}

pub names_wider : (version : ℕ) (P Q : List ℕ → Type 0) (b c : BookPasses) → ((m : List ℕ) → P m → Q m) → NamesOnly version P b c
    → NamesOnly version Q b c
names_wider version P Q b c f one = record {
  types = adds_wider _ _ (pass_in b.types) (pass_in c.types) (λ t has. (has.0, f has.0 has.1, has.2)) one.types;
  words = adds_wider _ _ (pass_in b.words) (pass_in c.words) (λ t has. (has.0, f has.0 has.1, has.2)) one.words;
}

pub names_then : (version : ℕ) (P : List ℕ → Type 0) (b c d : BookPasses) → NamesOnly version P b c → NamesOnly version P c d
    → NamesOnly version P b d
names_then version P b c d one two = record {
  types = adds_then _ (pass_in b.types) (pass_in c.types) (pass_in d.types) one.types two.types;
  words = adds_then _ (pass_in b.words) (pass_in c.words) (pass_in d.words) one.words two.words;
}

abbrev or_these : BookPasses → Option BookPasses → BookPasses
or_these c None = c
or_these c (Some b) = b

passes_in_is : (o : Option BookPasses) (some : IsSome o) (b : BookPasses) → o ≡ Some b → passes_in o some ≡ b
passes_in_is None none b is = absurd (cc (is))
passes_in_is (Some c) some b is = ap (or_these c) is

pub passes_is : (w : Worker) (b : BookPasses) → w.passes ≡ Some b → passes_of w ≡ b
passes_is w b is = passes_in_is w.passes w.full b is

pub idle_with : (o : Option BookPasses) (some : IsSome o) (b : BookPasses) → o ≡ Some b → MayAddTexts b
    → MayAddTexts (passes_in o some)
idle_with o some b is may = subst MayAddTexts (sym (passes_in_is o some b is)) may

-- what stands in a piece stands in the list, behind what is before the piece
pub piece_at : {X : Type 0} (all before piece behind : List X) (i : ℕ) (x : X) → all ≡ before ++ (piece ++ behind)
    → slice_get piece i ≡ Some x → slice_get all (length before + i) ≡ Some x
piece_at all before piece behind i x cut at = ap (λ l. slice_get l (length before + i)) cut ∙
    (at_right before (piece ++ behind) i ∙ at_left piece behind i x at)

module _ {S : Type 0} (left : S → Option (List ℕ)) where
  pub rests : (js js' : List (Job S)) (w : Worker) → IsIdle w → DidOnly left js js' w w
  rests js js' w idle = record {
    plan = refl;
    names = record { types = adds_self _ (types_of w) idle.types_ready; words = adds_self _ (words_of w) idle.words_ready };
  }

  -- what a worker of the same plan named
  pub names_at : (p q : Plan) (js js' : List (Job S)) (b c : BookPasses) → p ≡ q
      → NamesOnly p.version (WasMet left p.rows p.version js js') b c
      → NamesOnly q.version (WasMet left q.rows q.version js js') b c
  names_at p q js js' b c same = subst (λ (x : Plan). NamesOnly x.version (WasMet left x.rows x.version js js') b c) same

  pub goes_on : (js js' : List (Job S)) (a b c : Worker) → DidOnly left js js' a b → DidOnly left js js' b c
      → DidOnly left js js' a c
  goes_on js js' a b c one two = record {
    plan = two.plan ∙ one.plan;
    names = names_then a.plan.version (WasMet left a.plan.rows a.plan.version js js') (passes_of a) (passes_of b)
        (passes_of c) one.names
        (names_at b.plan a.plan js js' (passes_of b) (passes_of c) one.plan two.names);
  }

  -- a worker that did one job with these passes
  pub did_one : (j j' : Job S) (w v : Worker) (b c : BookPasses) → w.passes ≡ Some b → v.passes ≡ Some c → v.plan ≡ w.plan
      → NamesOnly w.plan.version (WasMetBy left w.plan.rows w.plan.version j j'.outcome) b c → DidOnly left (j ∷ []) (j' ∷ []) w v
  did_one j j' w v b c had has plan names = let first = passes_is w b had in let last = passes_is v c has in record {
    plan = plan;
    names = rw (first, last) (names_wider w.plan.version _ (WasMet left w.plan.rows w.plan.version (j ∷ []) (j' ∷ [])) b c
        (λ m met. (0, j, j', refl, refl, met)) names);
  }

  pub met_wider : (rows version : ℕ) (js js' piece piece' : List (Job S)) (m : List ℕ) → ArePieces js js' piece piece'
      → WasMet left rows version piece piece' m → WasMet left rows version js js' m
  met_wider rows version js js' piece piece' m are met = (
    length are.before + met.0,
    met.1,
    met.2,
    piece_at js are.before piece are.behind met.0 met.1 are.cut met.3,
    subst (λ n. slice_get js' (n + met.0) ≡ Some met.2) are.even
        (piece_at js' are.before' piece' are.behind' met.0 met.2 are.cut' met.4),
    met.5,
  )

  pub wider : (js js' piece piece' : List (Job S)) (a b : Worker) → ArePieces js js' piece piece' → DidOnly left piece piece' a b
      → DidOnly left js js' a b
  wider js js' piece piece' a b are one = record {
    plan = one.plan;
    names = names_wider a.plan.version _ _ (passes_of a) (passes_of b)
        (λ m met. met_wider a.plan.rows a.plan.version js js' piece piece' m are met) one.names;
  }

module _ {S D : Type 0} (state : D → DiskState) (left name : S → Option (List ℕ)) (faults : S → ℕ) where
  -- what became of that job
  pub did_job : (j j' : Job S) (k m : KeeperPass D) (w v : Worker) (b c : BookPasses) → w.passes ≡ Some b → v.passes ≡ Some c
      → NamesOnly w.plan.version (WasMetBy left w.plan.rows w.plan.version j j'.outcome) b c
      → IsDone state left name faults w.plan.rows w.plan.version (books_by (pass_in c.types) (pass_in c.words)) j k j' m
      → DidJob state left name faults w j k v j' m
  did_job j j' k m w v b c had has names done = let first = passes_is w b had in let last = passes_is v c has in record {
    done = subst (λ (x : BookPasses). IsDone state left name faults w.plan.rows w.plan.version
        (books_by (pass_in x.types) (pass_in x.words)) j k j' m) (sym last) done;
    names = rw (first, last) names;
  }

module _ {S D : Type 0} (state : D → DiskState) (left : S → Option (List ℕ)) where
  pub fits_on : (js js' : List (Job S)) (a b : Worker) (j : Job S) (k : KeeperPass D) → DidOnly left js js' a b
      → MayDo state a j k → MayDo state b j k
  fits_on js js' a b j k one may = let rows = ap (λ (p : Plan). p.rows) one.plan in let was = may.fits in record {
    least = subst (λ (n : ℕ). 1 ≤ n) (sym rows) may.least;
    most = subst (λ (n : ℕ). n ≤ 65536) (sym rows) may.most;
    version = subst (λ (n : ℕ). (1 ≤ n) × (n ≤ 3)) (sym (ap (λ (p : Plan). p.version) one.plan)) may.version;
    fits = record {
      types = λ x is. one.names.types.goes.still.lock ∙ was.types x is;
      words = λ x is. one.names.words.goes.still.lock ∙ was.words x is;
      version = λ x is. ap (λ (p : Plan). p.version) one.plan ∙ was.version x is;
    };
    new = may.new;
  }
