-- What a worker's namer has named, over several calls.
use Rattle.std.proofs.Common.{◌≡◌, ⊎_elim, ℕ, ◌≤◌, List, [], ◌++◌, length, refl, sym, ap, ◌∙◌, subst, arith, append_assoc, Option, None, Some}
use Rattle.std.proofs.lemmas.List.Elements.{All-append, All-weaker, All-nil}
use Rattle.turn_lock.specs.Words.{seen, own_list, about, lock_of, number_of, IsReady}
use Rattle.turn_lock.proofs.FrontLemmas.{prefix_length, prefix_self, prefix_trans}
use Rattle.row_codec.specs.declared.namer.NameRefusal.{NameRefusal}
use Rattle.row_codec.specs.declared.namer.Which.TheVariants.{Types}
use Rattle.row_codec.specs.Messages.{IsTypeOf, IsWordOf}
use Rattle.row_codec.specs.Naming.{GoesOnWith, HasGrown, Known}
use Rattle.row_codec.proofs.GrowthLemmas.{grows_self, grows_then}
use Rattle.dict_lock.specs.Shared.{BookPass, GoesOn, OwnsBehind}
use Rattle.disk_seal.specs.declared.namer.LockNamer.{LockNamer}
use Rattle.disk_seal.specs.Known.{known_of, limit_in}
use Rattle.disk_seal.specs.Naming.{NamesIn}
use Rattle.ingest_workers.specs.declared.file_end.FileEnd.{FileEnd}
use Rattle.ingest_workers.specs.Adding.{BothStill, KnowsMore}
use Rattle.ingest_workers.specs.Full.{books_by}
use Rattle.ingest_workers.specs.Namer.{HasOnlySeen, types_pass, words_pass}
use Rattle.ingest_workers.specs.Naming.{AddsOnly, HasNamed}
use Rattle.ingest_workers.specs.Turns.{HasAsked, MayAsk, type_by, word_by}
use Rattle.std.specs.Prelude.{map}
use Rattle.std.proofs.lemmas.List.{append-nil}

-- ---- one pass

grown_wider : (P Q : List ℕ → Type 0) → ((t : List ℕ) → P t → Q t) → (a b : Known) → HasGrown P a b → HasGrown Q a b
grown_wider P Q wider a b g = record { limit = g.limit; front = g.front; more = g.more; added = g.added; allowed = All-weaker P Q wider g.more g.allowed }

goes_then : (p q r : BookPass) → GoesOn p q → GoesOn q r → GoesOn p r
goes_then p q r one two = record {
  still = record { lock = two.still.lock ∙ one.still.lock; number = two.still.number ∙ one.still.number; about_is = two.still.about_is ∙ one.still.about_is };
  ready = two.ready;
  seen_on = prefix_trans (seen p) (seen q) (seen r) one.seen_on two.seen_on;
}

-- the text's number is not one of so many
abbrev from_on : ℕ → ℕ × List ℕ → Type 0
from_on low x = low ≤ x.0

owns_none : (p q : BookPass) → own_list q ≡ own_list p → OwnsBehind p q
owns_none p q same = record { more = []; is = same ∙ sym (append-nil (own_list p)); behind = All-nil (from_on (length (seen p))) }

owns_then : (p q r : BookPass) → length (seen p) ≤ length (seen q) → OwnsBehind p q → OwnsBehind q r → OwnsBehind p r
owns_then p q r le one two = record {
  more = one.more ++ two.more;
  is = two.is ∙ (ap (λ l. l ++ two.more) one.is ∙ append_assoc (own_list p) one.more two.more);
  behind = All-append (from_on (length (seen p))) one.more two.more one.behind (All-weaker (from_on (length (seen q))) (from_on (length (seen p))) (λ x high. omega (arith, le, high)) two.more two.behind);
}

adds_self : (P : List ℕ → Type 0) (p : BookPass) → IsReady p → AddsOnly P p p
adds_self P p ready = record {
  goes = record { still = record { lock = refl; number = refl; about_is = refl }; ready = ready; seen_on = prefix_self (seen p) };
  grown = grows_self P (known_of p);
  own = owns_none p p refl;
}

adds_then : (P : List ℕ → Type 0) (p q r : BookPass) → AddsOnly P p q → AddsOnly P q r → AddsOnly P p r
adds_then P p q r one two = record {
  goes = goes_then p q r one.goes two.goes;
  grown = grows_then P (known_of p) (known_of q) (known_of r) one.grown two.grown;
  own = owns_then p q r (prefix_length (seen p) (seen q) one.goes.seen_on) one.own two.own;
}

adds_wider : (P Q : List ℕ → Type 0) → ((t : List ℕ) → P t → Q t) → (p q : BookPass) → AddsOnly P p q → AddsOnly Q p q
adds_wider P Q wider p q adds = record { goes = adds.goes; grown = grown_wider P Q wider (known_of p) (known_of q) adds.grown; own = adds.own }

adds_none : (P : List ℕ → Type 0) (p q : BookPass) → GoesOn p q → own_list q ≡ own_list p → AddsOnly P p q
adds_none P p q goes own = record {
  goes = goes;
  grown = record {
    limit = ap limit_in goes.still.about_is;
    front = goes.seen_on;
    more = [];
    added = ap (λ (l : List (ℕ × List ℕ)). map (λ x. x.1) l) own ∙ sym (append-nil (known_of p).added);
    allowed = All-nil P;
  };
  own = owns_none p q own;
}

adds_grown : (P : List ℕ → Type 0) (p q : BookPass) → lock_of q ≡ lock_of p → number_of q ≡ number_of p → about q ≡ about p → IsReady q → HasGrown P (known_of p) (known_of q) → OwnsBehind p q → AddsOnly P p q
adds_grown P p q lock number same ready grown own = record {
  goes = record { still = record { lock = lock; number = number; about_is = same }; ready = ready; seen_on = grown.front };
  grown = grown;
  own = own;
}

-- ---- both

module _ {R A B C : Type 0} where
  pub named_self : (P : List ℕ → Type 0) (n : LockNamer R A B C) → HasNamed P n n
  named_self P n = record { version = refl; types = adds_self (type_by P n.version) (types_pass n) n.types.ready; words = adds_self (word_by P n.version) (words_pass n) n.words.ready }

  pub named_only : (P : List ℕ → Type 0) (m n : LockNamer R A B C) → HasOnlySeen m n → HasNamed P m n
  named_only P m n only = record {
    version = only.version;
    types = adds_none (type_by P m.version) (types_pass m) (types_pass n) only.types only.own_types;
    words = adds_none (word_by P m.version) (words_pass m) (words_pass n) only.words only.own_words;
  }

  pub named_then : (P : List ℕ → Type 0) (m n o : LockNamer R A B C) → HasNamed P m n → HasNamed P n o → HasNamed P m o
  named_then P m n o one two = record {
    version = two.version ∙ one.version;
    types = adds_then (type_by P m.version) (types_pass m) (types_pass n) (types_pass o) one.types (subst (λ v. AddsOnly (type_by P v) (types_pass n) (types_pass o)) one.version two.types);
    words = adds_then (word_by P m.version) (words_pass m) (words_pass n) (words_pass o) one.words (subst (λ v. AddsOnly (word_by P v) (words_pass n) (words_pass o)) one.version two.words);
  }

  pub named_wider : (P Q : List ℕ → Type 0) → ((x : List ℕ) → P x → Q x) → (m n : LockNamer R A B C) → HasNamed P m n → HasNamed Q m n
  named_wider P Q wider m n named = record {
    version = named.version;
    types = adds_wider (type_by P m.version) (type_by Q m.version) (λ t is. (is.0, wider is.0 is.1, is.2)) (types_pass m) (types_pass n) named.types;
    words = adds_wider (word_by P m.version) (word_by Q m.version) (λ t is. (is.0, wider is.0 is.1, is.2)) (words_pass m) (words_pass n) named.words;
  }

  -- what a message's texts were asked for stands behind what was seen
  asked_behind : (line : List ℕ) (m middle n : LockNamer R A B C) (texts : List (List ℕ)) (refusal answer : Option NameRefusal) → NamesIn Types texts refusal m middle
      → GoesOnWith NamesIn m.version line answer refusal middle n → OwnsBehind (types_pass m) (types_pass n) × OwnsBehind (words_pass m) (words_pass n)
  asked_behind line m middle n texts None answer named rest = (
    subst (λ p. OwnsBehind (types_pass m) p) (sym rest.named.3) named.2,
    subst (λ p. OwnsBehind p (words_pass n)) named.3 rest.named.2,
  )
  asked_behind line m middle n texts (Some refusal) answer named rest = subst (λ (o : LockNamer R A B C). OwnsBehind (types_pass m) (types_pass o) × OwnsBehind (words_pass m) (words_pass o)) (sym rest.0)
      (named.2, owns_none (words_pass m) (words_pass middle) (ap own_list named.3))

  behind_seen : (line : List ℕ) (m n : LockNamer R A B C) (stop : Option FileEnd) → MayAsk NamesIn m.version line stop m n → OwnsBehind (types_pass m) (types_pass n) × OwnsBehind (words_pass m) (words_pass n)
  behind_seen line m n stop asked = ⊎_elim
      (λ (same : n ≡ m). (
        owns_none (types_pass m) (types_pass n) (ap (λ (o : LockNamer R A B C). own_list (types_pass o)) same),
        owns_none (words_pass m) (words_pass n) (ap (λ (o : LockNamer R A B C). own_list (words_pass o)) same),
      ))
      (λ (h : HasAsked NamesIn m.version line stop m n). asked_behind line m h.asked.middle n _ h.asked.refusal h.refusal h.asked.named h.asked.rest)
      asked

  -- the texts of one message
  pub named_one : (line : List ℕ) (m n : LockNamer R A B C) (stop : Option FileEnd) → n.version ≡ m.version
      → BothStill (types_pass m) (types_pass n) (words_pass m) (words_pass n)
      → KnowsMore m.version line (books_by (types_pass m) (words_pass m)) (books_by (types_pass n) (words_pass n))
      → MayAsk NamesIn m.version line stop m n → HasNamed (λ x. x ≡ line) m n
  named_one line m n stop version still known asked = record {
    version = version;
    types = adds_grown (type_by (λ x. x ≡ line) m.version) (types_pass m) (types_pass n) still.of_types.lock still.of_types.number still.of_types.about_is n.types.ready
        (grown_wider (IsTypeOf m.version line) (type_by (λ x. x ≡ line) m.version) (λ t is. (line, refl, is)) (known_of (types_pass m)) (known_of (types_pass n)) known.types)
        (behind_seen line m n stop asked).0;
    words = adds_grown (word_by (λ x. x ≡ line) m.version) (words_pass m) (words_pass n) still.of_words.lock still.of_words.number still.of_words.about_is n.words.ready
        (grown_wider (IsWordOf m.version line) (word_by (λ x. x ≡ line) m.version) (λ t is. (line, refl, is)) (known_of (words_pass m)) (known_of (words_pass n)) known.words)
        (behind_seen line m n stop asked).1;
  }
