-- Rows that were decided, and words that are held for them.
use Rattle.std.proofs.Common.{arith, ◌≡◌, ℕ, zero, suc, ◌+◌, ◌≤◌, List, [], ◌∷◌, ◌++◌, length, map, take, Option, Some, None, refl, sym, ◌∙◌, ap, subst}
use Rattle.std.specs.Prelude.{drop, slice_get}
use Rattle.std.specs.List.{AllZip, flat_map}
use Rattle.std.proofs.lemmas.List.Concat.{flat_map-cons}
use Rattle.std.proofs.lemmas.List.{take_all}
use Rattle.std.proofs.lemmas.List.Elements.{All-cons, All-nil}
use Rattle.column_store.specs.declared.row.Row.{Row}
use Rattle.archive_meaning.specs.Back.{list_in}
use Rattle.archive_meaning.proofs.BackLemmas.{first_back}
use Rattle.row_codec.specs.Numbers.{numbers_of_row}
use Rattle.subquery_filter.specs.declared.verdicts.Verdict.{Verdict}
use Rattle.word_places.specs.declared.place.WordsPlace.{WordsPlace}
use Rattle.word_places.specs.declared.held.HeldRecord.{HeldRecord}
use Rattle.word_places.specs.Held.{AreHeld, AreNumbered, Grow, HeldNames, IsRight, KeepsTypes, RightTold, kept_of, lends, places_of, unread}
use Rattle.word_places.specs.Kept.{KeptTypes}
use Rattle.word_places.specs.Local.{Agree}
use Rattle.word_places.specs.Places.{AreInOrder, AreWords, OfWords, payload_in}
use Rattle.word_places.proofs.OrderLemmas.{unread_numbered}
use Rattle.word_places.proofs.HeldLemmas.{all_agree, grow_all_held, grow_places}
use Rattle.search_meaning.specs.Scan.{Asked}
use Rattle.search_walk.specs.Held.{IsTold, Named, StandIn, named, words_told}
use Rattle.search_walk.specs.Ready.{AreDecided, AreHeldFor, IsDecided, IsHeldFor, IsLent, IsReady, IsReadyPage, Serves}

-- ---- the words of the bytes

-- what stands at the places is what is told
pub words_are : (from : ℕ) (places : List WordsPlace) (bytes : List ℕ) (words : List (List ℕ)) → AreWords from places bytes words → words_told (Some bytes) places ≡ words
words_are from [] bytes words are = sym are
words_are from (p ∷ places) bytes words are =
    let read : WordsPlace → List (List ℕ) = λ x. list_in (drop 4 (payload_in x bytes)) in
    let here : read p ≡ are.0 = ap (λ (l : List ℕ). list_in (drop 4 l)) are.3.spelled ∙ (first_back p.first are.0 are.3.first are.3.are).1 in
    flat_map-cons read p places ∙ ap (λ (l : List (List ℕ)). l ++ flat_map read places) here
    ∙ ap (λ (l : List (List ℕ)). are.0 ++ l) (words_are (from + p.count) places bytes are.1 are.4) ∙ sym are.5

-- where the words have P whatever they are, those that stand there have it
pub of_words : (told : Option (List ℕ)) (places : List WordsPlace) (words : List (List ℕ)) (P : List (List ℕ) → Type 0) → OfWords told places P → StandIn told places words → P words
of_words None places words P of stand = absurd stand
of_words (Some bytes) places words P of stand = of words stand

-- ---- one row

told_agree : (told : Option (List ℕ)) (places : List WordsPlace) (words : List (List ℕ)) (records : List HeldRecord) (numbers : List ℕ) → StandIn told places words → places_of records ≡ places
    → AreNumbered 0 records → RightTold told records → AreHeld records numbers → Agree numbers words (lends records)
told_agree None places words records numbers stand same numbered right held = absurd stand
told_agree (Some bytes) places words records numbers stand same numbered right held =
    all_agree bytes records words numbers numbered right (subst (λ (ps : List WordsPlace). AreWords 0 ps bytes words) (sym same) stand) held

pub lent_row : (n : Named) (q : Asked) (held : HeldNames) (row : Row) (v : Verdict) → IsTold n → Serves n held → IsReady n q held.records row v → IsLent n q held row v
lent_row n q held row v told serves ready = record {
  types = ap (λ (k : KeptTypes). k.texts) serves.kept;
  decided = ready.decided told;
  agree = λ not. told_agree n.told n.places n.words held.records (numbers_of_row n.kept.texts row) told serves.places serves.numbered serves.right (ready.held not);
}

-- what stands at the same place of both lists
pub zip_at : {A B : Type 0} (R : A → B → Type 0) (xs : List A) (ys : List B) (k : ℕ) (x : A) (y : B) → AllZip R xs ys → slice_get xs k ≡ Some x → slice_get ys k ≡ Some y → R x y
zip_at R [] ys k x y each is told = absurd (cc (is))
zip_at R (a ∷ xs) [] k x y each is told = absurd each
zip_at R (a ∷ xs) (b ∷ ys) zero x y each is told =
    let one : a ≡ x = cc (is) in
    let two : b ≡ y = cc (told) in
    subst (λ z. R z y) one (subst (λ z. R a z) two each.0)
zip_at R (a ∷ xs) (b ∷ ys) (suc k) x y each is told = zip_at R xs ys k x y each.1 is told

-- a row of a page that is ready
pub lent_at : (n : Named) (q : Asked) (held : HeldNames) (rows : List Row) (verdicts : List Verdict) (k : ℕ) (row : Row) (v : Verdict) → IsTold n → IsReadyPage n q held rows verdicts
    → slice_get rows k ≡ Some row → slice_get verdicts k ≡ Some v → IsLent n q held row v
lent_at n q held rows verdicts k row v told page is at = lent_row n q held row v told page.serves (zip_at (IsReady n q held.records) rows verdicts k row v page.each is at)

-- ---- growth

ready_grows : (n : Named) (q : Asked) (old new : List HeldRecord) (row : Row) (v : Verdict) → AreNumbered 0 old → AreNumbered 0 new → Grow old new → IsReady n q old row v → IsReady n q new row v
ready_grows n q old new row v are_old are_new grow ready = record {
  decided = ready.decided;
  held = λ not. grow_all_held old new (numbers_of_row n.kept.texts row) are_old are_new grow (ready.held not);
}

pub rows_grow : (n : Named) (q : Asked) (old new : List HeldRecord) (rows : List Row) (verdicts : List Verdict) → AreNumbered 0 old → AreNumbered 0 new → Grow old new → AllZip (IsReady n q old) rows verdicts
    → AllZip (IsReady n q new) rows verdicts
rows_grow n q old new [] [] are_old are_new grow each = tt
rows_grow n q old new [] (v ∷ verdicts) are_old are_new grow each = absurd each
rows_grow n q old new (r ∷ rows) [] are_old are_new grow each = absurd each
rows_grow n q old new (r ∷ rows) (v ∷ verdicts) are_old are_new grow each = (ready_grows n q old new r v are_old are_new grow each.0, rows_grow n q old new rows verdicts are_old are_new grow each.1)

-- a row that was decided, and whose words are held
pub row_ready : (n : Named) (q : Asked) (held : HeldNames) (row : Row) (verdict : Verdict) → kept_of held ≡ n.kept → (IsTold n → IsDecided n q row verdict) → IsHeldFor held row verdict → IsReady n q held.records row verdict
row_ready n q held row verdict same decided are =
    record { decided = decided; held = λ not. subst (λ (k : KeptTypes). AreHeld held.records (numbers_of_row k.texts row)) same (are not) }

-- the same of each row
pub rows_ready : (n : Named) (q : Asked) (held : HeldNames) (rows : List Row) (verdicts : List Verdict) → kept_of held ≡ n.kept → AreDecided n q rows verdicts → AreHeldFor held rows verdicts
    → AllZip (IsReady n q held.records) rows verdicts
rows_ready n q held [] [] same decided are = tt
rows_ready n q held [] (v ∷ verdicts) same decided are = absurd are
rows_ready n q held (r ∷ rows) [] same decided are = absurd are
rows_ready n q held (r ∷ rows) (v ∷ verdicts) same decided are = (row_ready n q held r v same decided.0 are.0, rows_ready n q held rows verdicts same decided.1 are.1)

-- words that are held stay
pub held_grow : (old new : HeldNames) (rows : List Row) (verdicts : List Verdict) → AreNumbered 0 old.records → AreNumbered 0 new.records → Grow old.records new.records → new.types ≡ old.types → AreHeldFor old rows verdicts → AreHeldFor new rows verdicts
held_grow old new [] [] are_old are_new grow same held = tt
held_grow old new [] (v ∷ verdicts) are_old are_new grow same held = absurd held
held_grow old new (r ∷ rows) [] are_old are_new grow same held = absurd held
held_grow old new (r ∷ rows) (v ∷ verdicts) are_old are_new grow same held =
    (λ not. subst (λ (ts : List (List ℕ)). AreHeld new.records (numbers_of_row ts r)) (sym same) (grow_all_held old.records new.records (numbers_of_row old.types r) are_old are_new grow (held.0 not)), held_grow old new rows verdicts are_old are_new grow same held.1)

pub zip_long : {A B : Type 0} (R : A → B → Type 0) (xs : List A) (ys : List B) → AllZip R xs ys → length ys ≡ length xs
zip_long R [] [] each = refl
zip_long R [] (b ∷ ys) each = absurd each
zip_long R (a ∷ xs) [] each = absurd each
zip_long R (a ∷ xs) (b ∷ ys) each = ap suc (zip_long R xs ys each.1)

zip_push : {A B : Type 0} (R : A → B → Type 0) (xs : List A) (ys : List B) (x : A) (y : B) → AllZip R xs ys → R x y → AllZip R (xs ++ x ∷ []) (ys ++ y ∷ [])
zip_push R [] [] x y each one = (one, tt)
zip_push R [] (b ∷ ys) x y each one = absurd each
zip_push R (a ∷ xs) [] x y each one = absurd each
zip_push R (a ∷ xs) (b ∷ ys) x y each one = (each.0, zip_push R xs ys x y each.1 one)

-- ---- the first rows of a page, one after the other

pub take_more : {A : Type 0} (xs : List A) (k : ℕ) (x : A) → slice_get xs k ≡ Some x → take (k + 1) xs ≡ take k xs ++ x ∷ []
take_more [] k x is = absurd (cc (is))
take_more (a ∷ xs) zero x is = let one : a ≡ x = cc (is) in ap (λ z. z ∷ []) one
take_more (a ∷ xs) (suc k) x is =
    let next : suc k + 1 ≡ suc (k + 1) = omega arith in
    ap (λ (n : ℕ). take n (a ∷ xs)) next ∙ ap (λ l. a ∷ l) (take_more xs k x is)

pub zip_none : {A B : Type 0} (R : A → B → Type 0) (xs : List A) (ys : List B) → ys ≡ [] → AllZip R (take 0 xs) ys
zip_none R xs ys none = subst (λ l. AllZip R [] l) (sym none) tt

pub zip_more : {A B : Type 0} (R : A → B → Type 0) (xs : List A) (ys later : List B) (k : ℕ) (x : A) (y : B) → slice_get xs k ≡ Some x → later ≡ ys ++ y ∷ [] → AllZip R (take k xs) ys → R x y → AllZip R (take (k + 1) xs) later
zip_more R xs ys later k x y is added each one =
    subst (λ l. AllZip R l later) (sym (take_more xs k x is)) (subst (λ l. AllZip R (take k xs ++ x ∷ []) l) (sym added) (zip_push R (take k xs) ys x y each one))

pub zip_all : {A B : Type 0} (R : A → B → Type 0) (xs : List A) (ys : List B) (k : ℕ) → length xs ≤ k → AllZip R (take k xs) ys → AllZip R xs ys
zip_all R xs ys k end each = subst (λ l. AllZip R l ys) (take_all k xs end) each

-- all rows of a page, of which there is a verdict each
pub zip_full : {A B : Type 0} (R : A → B → Type 0) (xs : List A) (ys : List B) (k : ℕ) → length xs ≤ k → length ys ≡ length xs → AllZip R (take k xs) (take k ys) → AllZip R xs ys
zip_full R xs ys k end long each = zip_all R xs ys k end (subst (λ l. AllZip R (take k xs) l) (take_all k ys (omega (arith, long, end))) each)

-- one more row of a page, of which the verdicts are known
pub rows_more : (n : Named) (q : Asked) (old new : List HeldRecord) (rows : List Row) (verdicts : List Verdict) (k : ℕ) (row : Row) (v : Verdict) → AreNumbered 0 old → AreNumbered 0 new → Grow old new
    → slice_get rows k ≡ Some row → slice_get verdicts k ≡ Some v → AllZip (IsReady n q old) (take k rows) (take k verdicts) → IsReady n q new row v → AllZip (IsReady n q new) (take (k + 1) rows) (take (k + 1) verdicts)
rows_more n q old new rows verdicts k row v are_old are_new grow is at each one =
    zip_more (IsReady n q new) rows (take k verdicts) (take (k + 1) verdicts) k row v is (take_more verdicts k v at) (rows_grow n q old new (take k rows) (take k verdicts) are_old are_new grow each) one

pub rows_all : (n : Named) (q : Asked) (records : List HeldRecord) (rows : List Row) (verdicts : List Verdict) (k : ℕ) → length rows ≤ k → AreDecided n q rows verdicts → AllZip (IsReady n q records) (take k rows) (take k verdicts)
    → AllZip (IsReady n q records) rows verdicts
rows_all n q records rows verdicts k end decided each =
    let long : length verdicts ≡ length rows = zip_long (λ row v. IsTold n → IsDecided n q row v) rows verdicts decided in
    zip_all (IsReady n q records) rows verdicts k end (subst (λ l. AllZip (IsReady n q records) (take k rows) l) (take_all k verdicts (omega (arith, long, end))) each)

-- the log types that are kept stayed
pub kept_same : (old new : HeldNames) → KeepsTypes old new → kept_of new ≡ kept_of old
kept_same old new same = λ i. record { texts = same.types i; left_out = same.left_out i; places = same.type_places i }

-- the records went on, and the log types are the same
pub serves_grown : (n : Named) (told : Option (List ℕ)) (old new : HeldNames) → told ≡ n.told → Serves n old → KeepsTypes old new → Grow old.records new.records → AreNumbered 0 new.records
    → (RightTold told old.records → RightTold told new.records) → Serves n new
serves_grown n told old new same serves keeps grow numbered right = record {
  kept = kept_same old new keeps ∙ serves.kept;
  places = grow_places old.records new.records grow ∙ serves.places;
  numbered = numbered;
  right = subst (λ (t : Option (List ℕ)). RightTold t new.records) same (right (subst (λ (t : Option (List ℕ)). RightTold t old.records) (sym same) serves.right));
}

-- ---- nothing was read yet

right_unread : (told : Option (List ℕ)) (places : List WordsPlace) → RightTold told (map unread places)
right_unread None places = tt
right_unread (Some bytes) [] = All-nil (IsRight bytes)
right_unread (Some bytes) (p ∷ places) = All-cons (IsRight bytes) (unread p) (map unread places) (λ words is. absurd (cc (is))) (right_unread (Some bytes) places)

pub places_unread : (ps : List WordsPlace) → places_of (map unread ps) ≡ ps
places_unread [] = refl
places_unread (p ∷ ps) = ap (λ (l : List WordsPlace). p ∷ l) (places_unread ps)

-- what holds of the words at the places holds of those of the names
pub named_words : (seen later : Option (List ℕ)) (places : List WordsPlace) (held : HeldNames) (P : List (List ℕ) → Type 0) → later ≡ seen → held.records ≡ map unread places → OfWords seen places P → IsTold (named later held)
    → P (named later held).words
named_words seen later places held P same is of told =
    let there : places_of held.records ≡ places = ap places_of is ∙ places_unread places in
    of_words later (places_of held.records) (named later held).words P
    (subst (λ t. OfWords t (places_of held.records) P) (sym same) (subst (λ (ps : List WordsPlace). OfWords seen ps P) (sym there) of)) told

pub serves_first : (told : Option (List ℕ)) (held : HeldNames) (places : List WordsPlace) → held.records ≡ map unread places → AreInOrder 0 places → Serves (named told held) held
serves_first told held places is order = record {
  kept = refl;
  places = refl;
  numbered = subst (AreNumbered 0) (sym is) (unread_numbered 0 places order);
  right = subst (RightTold told) (sym is) (right_unread told places);
}
