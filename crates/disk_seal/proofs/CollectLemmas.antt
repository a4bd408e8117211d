-- What a store keeps of its passes, over a note that is learned and a turn with the book.
use Rattle.std.proofs.Common.{◌≡◌, ⊎_elim, ℕ, ◌+◌, ◌-◌, ◌<◌, ◌≤◌, List, ◌++◌, Bool, length, take, drop, refl, sym, ap, ◌∙◌, subst, Some, slice_get, get_or, arith, append_assoc, All, length-append}
use Rattle.std.proofs.lemmas.Bool.{cases_lt}
use Rattle.std.proofs.lemmas.List.{get_or-drop, get_or_append_left, get_or_default, take-append-le, length-drop}
use Rattle.std.proofs.lemmas.Option.{slice_get_read}
use mathlib.Core.List.{IsPrefix}
use Rattle.logtype_text.specs.Fair.{IsFairType, IsFairWord}
use Rattle.turn_lock.specs.declared.board.About.{About}
use Rattle.turn_lock.specs.History.{HasLearned}
use Rattle.turn_lock.specs.Words.{seen, own_list, about, IsStill, OthersMay}
use Rattle.dict_core.specs.Fair.{IsFair}
use Rattle.dict_core.specs.declared.grows.TheConstants.{WORDS_FIRST}
use Rattle.dict_lock.specs.Shared.{BookPass, GoesOn}
use Rattle.disk_seal.specs.View.{KnowsBook, KnowsTypes, KnowsWords, StoreState, tells, journal_of, Kept}
use Rattle.disk_seal.specs.Collected.{HasSeenMore}
use Rattle.disk_seal.proofs.ToldLemmas.{told_map}

abbrev Texts : Type 0
Texts = List (List ℕ)

pub prefix_on : (xs ys zs : Texts) → IsPrefix xs ys → IsPrefix ys zs → IsPrefix xs zs
prefix_on xs ys zs a b = (a.0 ++ b.0, sym (append_assoc xs a.0 b.0) ∙ (ap (λ l. l ++ b.0) a.1 ∙ b.1))

-- a note, and then a turn
module _ (p m q : BookPass) (noted : Texts) (still : IsStill p m) (learned : HasLearned (seen p) noted (seen m)) (own : own_list m ≡ own_list p) (on : GoesOn m q) (own_on : own_list q ≡ own_list m) where
  pub has_seen_more : HasSeenMore p q noted
  has_seen_more = record {
    still = record { lock = on.still.lock ∙ still.lock; number = on.still.number ∙ still.number; about_is = on.still.about_is ∙ still.about_is };
    ready = on.ready;
    seen_on = prefix_on (seen p) (seen m) (seen q) learned.mine_first on.seen_on;
    noted_on = prefix_on noted (seen m) (seen q) learned.theirs_first on.seen_on;
    own = own_on ∙ own;
  }

-- what is new since the lock's opening is fair, since others may add only such texts
abbrev AllNew : (List ℕ → Type 0) → BookPass → Texts → Type 0
AllNew F p texts = (a : About ℕ) (j : ℕ) (t : List ℕ) → about p ≡ Some a → a.start ≤ j → slice_get texts j ≡ Some t → F t

new_types : (p : BookPass) (known : About ℕ) (texts : Texts) → about p ≡ Some known → known.first ≡ 0 → OthersMay IsFair p texts → AllNew IsFairType p texts
new_types p known texts is first others a j t about_is late here =
    let o = others a j t about_is late here in
    let same : known ≡ a = cc (is, about_is) in
    let start : a.first ≡ 0 = ap (λ (x : About ℕ). x.first) (sym same) ∙ first in
    let other = o.3.other in
    o.3.type (omega (arith, o.2, start, other))

new_words : (p : BookPass) (known : About ℕ) (texts : Texts) → about p ≡ Some known → known.first ≡ WORDS_FIRST → OthersMay IsFair p texts → AllNew IsFairWord p texts
new_words p known texts is first others a j t about_is late here =
    let o = others a j t about_is late here in
    let same : known ≡ a = cc (is, about_is) in
    let start : a.first ≡ WORDS_FIRST = ap (λ (x : About ℕ). x.first) (sym same) ∙ first in
    let other = o.3.other in
    o.3.word (omega (arith, o.1, start, other))

there_at : (xs : Texts) (i : ℕ) (d : List ℕ) → i < length xs → slice_get xs i ≡ Some (get_or xs i d)
there_at xs i d inside = slice_get_read xs (length xs) i (get_or xs i d) refl inside (get_or_default xs i d (get_or xs i d) inside)

fair_more : (F : List ℕ → Type 0) (p : BookPass) (known : About ℕ) (saved : ℕ) (old new : Texts) → about p ≡ Some known → known.start ≤ length old → IsPrefix old new → All F (drop saved old) → AllNew F p new → All F (drop saved new)
fair_more F p known saved old new is from front fair others k d inside =
    let at : get_or (drop saved new) k d ≡ get_or new (saved + k) d = get_or-drop saved new k d in
    let long : length (drop saved new) ≡ length new - saved = length-drop saved new in
    subst F (sym at) (
    ⊎_elim
    (λ (early : saved + k < length old).
    let there : get_or new (saved + k) d ≡ get_or old (saved + k) d = ap (λ l. get_or l (saved + k) d) (sym front.1) ∙ get_or_append_left old front.0 d (saved + k) early in
    subst F (get_or-drop saved old k d ∙ sym there) (fair k d (omega (arith, early, length-drop saved old))))
    (λ (late : length old ≤ saved + k). others known (saved + k) (get_or new (saved + k) d) is (omega (arith, from, late)) (there_at new (saved + k) d (omega (arith, long, inside))))
    (cases_lt (saved + k) (length old))
    )

knows_more_seen : (F : List ℕ → Type 0) (first limit : ℕ) (b : Bool) (p q : BookPass) (saved : ℕ) (texts noted : Texts) → KnowsBook F first limit b p saved texts → HasSeenMore p q noted → AllNew F p (seen q)
    → KnowsBook F first limit b q saved texts
knows_more_seen F first limit b p q saved texts noted k more others =
    let longer : length (seen q) ≡ length (seen p) + length more.seen_on.0 = ap length (sym more.seen_on.1) ∙ length-append (seen p) more.seen_on.0 in
    record {
      ready = more.ready;
      known = k.known;
      is = more.still.about_is ∙ k.is;
      starts = k.starts;
      number = more.still.number ∙ k.number;
      within = k.within;
      from = omega (arith, k.from, longer);
      low = omega (arith, k.low, longer);
      own = more.own ∙ k.own;
      fair = fair_more F p k.known saved (seen p) (seen q) k.is k.from more.seen_on k.fair others;
      front = told_map b (λ same. ap (take saved) (sym more.seen_on.1) ∙ (take-append-le saved (seen p) more.seen_on.0 k.low ∙ same)) k.front;
    }

pub knows_types : (limit : ℕ) (b : Bool) (p m q : BookPass) (saved : ℕ) (texts noted : Texts) → KnowsBook IsFairType 0 limit b p saved texts → HasSeenMore p q noted → IsStill p m → OthersMay IsFair m (seen q)
    → KnowsBook IsFairType 0 limit b q saved texts
knows_types limit b p m q saved texts noted k more still others =
    knows_more_seen IsFairType 0 limit b p q saved texts noted k more
    (λ a j t is late here. new_types m k.known (seen q) (still.about_is ∙ k.is) k.starts others a j t (still.about_is ∙ is) late here)

pub knows_words : (limit : ℕ) (b : Bool) (p m q : BookPass) (saved : ℕ) (texts noted : Texts) → KnowsBook IsFairWord WORDS_FIRST limit b p saved texts → HasSeenMore p q noted → IsStill p m → OthersMay IsFair m (seen q)
    → KnowsBook IsFairWord WORDS_FIRST limit b q saved texts
knows_words limit b p m q saved texts noted k more still others =
    knows_more_seen IsFairWord WORDS_FIRST limit b p q saved texts noted k more
    (λ a j t is late here. new_words m k.known (seen q) (still.about_is ∙ k.is) k.starts others a j t (still.about_is ∙ is) late here)

-- the store with other passes
pub kept_books : (s : StoreState) → Kept s → (types words : BookPass) → KnowsTypes (tells s) s.header types s.types_saved (journal_of s) → KnowsWords (tells s) s.header words s.words_saved (journal_of s)
    → Kept (record s { types = types; words = words })
kept_books s k types words knows_t knows_w = record {
  header = k.header;
  closed = k.closed;
  tells_still = k.tells_still;
  spelled = k.spelled;
  front = k.front;
  counts = k.counts;
  under = k.under;
  one = k.one;
  legal = k.legal;
  now = k.now;
  past = k.past;
  going = k.going;
  at_opening = k.at_opening;
  risen = k.risen;
  fault = k.fault;
  types = knows_t;
  words = knows_w;
}
