-- What a pass over a book keeps and adds, over several calls.
use Rattle.std.proofs.Common.{◌≡◌, ℕ, ◌≤◌, List, [], ◌++◌, append_assoc, arith, length, refl, sym, ap, ◌∙◌}
use Rattle.std.specs.Prelude.{map}
use Rattle.std.proofs.lemmas.List.{append-nil}
use Rattle.std.proofs.lemmas.List.Elements.{All-append, All-nil, All-weaker}
use Rattle.turn_lock.specs.Words.{IsReady, own_list, seen}
use Rattle.turn_lock.proofs.FrontLemmas.{prefix_length, prefix_self, prefix_trans}
use Rattle.dict_lock.specs.Shared.{BookPass, GoesOn, OwnsBehind}
use Rattle.row_codec.specs.Naming.{HasGrown}
use Rattle.row_codec.proofs.GrowthLemmas.{grows_then}
use Rattle.disk_seal.specs.Known.{known_of, limit_in}
use Rattle.row_rename.proofs.TableLemmas.{grown_weaker}
use Rattle.ingest_workers.specs.Naming.{AddsOnly}

pub goes_self : (p : BookPass) → IsReady p → GoesOn p p
goes_self p ready = record {
  still = record { lock = refl; number = refl; about_is = refl };
  ready = ready;
  seen_on = prefix_self (seen p);
}

pub goes_then : (p q r : BookPass) → GoesOn p q → GoesOn q r → GoesOn p r
goes_then p q r one two = record {
  still = record {
    lock = two.still.lock ∙ one.still.lock;
    number = two.still.number ∙ one.still.number;
    about_is = two.still.about_is ∙ one.still.about_is;
  };
  ready = two.ready;
  seen_on = prefix_trans (seen p) (seen q) (seen r) one.seen_on two.seen_on;
}

pub owns_none : (p q : BookPass) → own_list q ≡ own_list p → OwnsBehind p q
owns_none p q same = record {
  more = [];
  is = same ∙ sym (append-nil (own_list p));
  behind = All-nil (λ (x : ℕ × List ℕ). length (seen p) ≤ x.0);
}

pub owns_then : (p q r : BookPass) → length (seen p) ≤ length (seen q) → OwnsBehind p q → OwnsBehind q r → OwnsBehind p r
owns_then p q r long one two = record {
  more = one.more ++ two.more;
  is = two.is ∙ (ap (λ l. l ++ two.more) one.is ∙ append_assoc (own_list p) one.more two.more);
  behind = All-append (λ (x : ℕ × List ℕ). length (seen p) ≤ x.0) one.more two.more one.behind
      (All-weaker (λ (x : ℕ × List ℕ). length (seen q) ≤ x.0) (λ (x : ℕ × List ℕ). length (seen p) ≤ x.0)
      (λ x le. omega (arith, long, le)) two.more two.behind);
}

pub seen_more : (P : List ℕ → Type 0) (p q : BookPass) → GoesOn p q → own_list q ≡ own_list p
    → HasGrown P (known_of p) (known_of q)
seen_more P p q goes own = record {
  limit = ap limit_in goes.still.about_is;
  front = goes.seen_on;
  more = [];
  added = ap (λ (l : List (ℕ × List ℕ)). map (λ x. x.1) l) own ∙ sym (append-nil (known_of p).added);
  allowed = All-nil P;
}

-- a pass that added no text
pub adds_none : (P : List ℕ → Type 0) (p q : BookPass) → GoesOn p q → own_list q ≡ own_list p → AddsOnly P p q
adds_none P p q goes own = record { goes = goes; grown = seen_more P p q goes own; own = owns_none p q own }

pub adds_then : (P : List ℕ → Type 0) (p q r : BookPass) → AddsOnly P p q → AddsOnly P q r → AddsOnly P p r
adds_then P p q r one two = record {
  goes = goes_then p q r one.goes two.goes;
  grown = grows_then P (known_of p) (known_of q) (known_of r) one.grown two.grown;
  own = owns_then p q r (prefix_length (seen p) (seen q) one.goes.seen_on) one.own two.own;
}

-- what was added are also texts of a wider kind
pub adds_wider : (P Q : List ℕ → Type 0) → ((t : List ℕ) → P t → Q t) → (p q : BookPass) → AddsOnly P p q → AddsOnly Q p q
adds_wider P Q wider p q adds = record {
  goes = adds.goes;
  grown = grown_weaker P Q wider (known_of p) (known_of q) adds.grown;
  own = adds.own;
}
