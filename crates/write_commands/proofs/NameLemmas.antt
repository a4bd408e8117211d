-- Which name is too long, one more at a time.
use Rattle.std.proofs.Common.{◌≡◌, ◌+◌, ◌<◌, ◌≤◌, sym, ap, subst, ◌∙◌, refl, ℕ, suc, List, [], ◌∷◌, ◌++◌, map, take, drop, get_or, length, arith}
use Rattle.std.specs.Prelude.{All, None, Some}
use Rattle.std.proofs.Math.Seq.{drop-cons}
use Rattle.std.proofs.Math.ListN.{get_or-map}
use Rattle.std.proofs.lemmas.List.{length-map, length-take, take-append-drop, take_all}
use Rattle.std.proofs.lemmas.List.Elements.{All-head, All-more, All-tail}
use Rattle.command_answers.specs.Names.{IsFirstTooLong, IsShortName, RefusesNames}
use Rattle.command_refusals.specs.declared.outcome.AddRefusal.{AddRefusal}
use Rattle.command_refusals.specs.declared.outcome.AddRefusal.TheVariants.{NameTooLong, TooManyFiles, ArchiveFull, DiskFault, Damaged, OutOfMemory}

module _ {A : Type 0} (f : A → List ℕ) where
  pub short_more : (xs : List A) (i : ℕ) (x : A) (asked : List ℕ) → i < length xs → x ≡ get_or xs i x → asked ≡ f x → length asked ≤ 4096 → All IsShortName (take i (map f xs)) → All IsShortName (take (i + 1) (map f xs))
  short_more xs i x asked within is asks short all =
      All-more IsShortName (map f xs) i (f x) (omega (arith, length-map xs f)) all (subst IsShortName (asks ∙ (ap f is ∙ sym (get_or-map f xs i x))) short)

  pub first_too_long : (xs : List A) (i : ℕ) (x : A) (asked : List ℕ) → i < length xs → x ≡ get_or xs i x → asked ≡ f x → 4096 < length asked → All IsShortName (take i (map f xs)) → IsFirstTooLong (map f xs) i
  first_too_long xs i x asked within is asks long all = record {
    before = take i (map f xs);
    name = get_or (map f xs) i (f x);
    after = drop (suc i) (map f xs);
    splits = sym (take-append-drop i (map f xs)) ∙ ap (λ ys. take i (map f xs) ++ ys) (drop-cons (map f xs) i (f x) (omega (arith, length-map xs f)));
    place = omega (arith, length-take i (map f xs), length-map xs f);
    short = all;
    long = subst (λ name. 4096 < length name) (asks ∙ (ap f is ∙ sym (get_or-map f xs i x))) long;
  }

  pub all_short : (xs : List A) (i : ℕ) → length xs ≤ i → All IsShortName (take i (map f xs)) → All IsShortName (map f xs)
  all_short xs i done all = subst (λ ys. All IsShortName ys) (take_all i (map f xs) (omega (arith, length-map xs f))) all

-- ---- one refusal

-- the first name that is too long stands at one place
same_before : (a b : List (List ℕ)) (x y : List ℕ) (xs ys : List (List ℕ)) → a ++ x ∷ xs ≡ b ++ y ∷ ys → All IsShortName a → All IsShortName b → 4096 < length x → 4096 < length y → length a ≡ length b
same_before [] [] x y xs ys is short_a short_b long_x long_y = refl
same_before [] (q ∷ b) x y xs ys is short_a short_b long_x long_y =
    let same : x ≡ q = cc (is) in
    let short : length q ≤ 4096 = All-head IsShortName q b short_b in
    absurd (omega (arith, short, long_x, ap length same))
same_before (p ∷ a) [] x y xs ys is short_a short_b long_x long_y =
    let same : p ≡ y = cc (is) in
    let short : length p ≤ 4096 = All-head IsShortName p a short_a in
    absurd (omega (arith, short, long_y, ap length same))
same_before (p ∷ a) (q ∷ b) x y xs ys is short_a short_b long_x long_y =
    ap suc (same_before a b x y xs ys (cc (is)) (All-tail IsShortName p a short_a) (All-tail IsShortName q b short_b) long_x long_y)

-- where none is too long, none is the first
none_first : (names : List (List ℕ)) (index : ℕ) → All IsShortName names → IsFirstTooLong names index → ⊥
none_first names index short first =
    let all : All IsShortName (first.before ++ first.name ∷ first.after) = subst (All IsShortName) first.splits short in
    let one : length first.name ≤ 4096 = All-head IsShortName first.name first.after (All-right first.before (first.name ∷ first.after) all) in
    omega (arith, one, first.long)
  where
    All-right : (xs ys : List (List ℕ)) → All IsShortName (xs ++ ys) → All IsShortName ys
    All-right [] ys all = all
    All-right (x ∷ xs) ys all = All-right xs ys (All-tail IsShortName x (xs ++ ys) all)

-- what is refused of names is one refusal
pub one_refusal : (names : List (List ℕ)) (r s : AddRefusal) → RefusesNames names (Some r) → RefusesNames names (Some s) → r ≡ s
one_refusal names (NameTooLong i) (NameTooLong j) first other =
    ap NameTooLong (first.place ∙ (same_before first.before other.before first.name other.name first.after other.after (sym first.splits ∙ other.splits) first.short other.short first.long other.long ∙ sym other.place))
one_refusal names (NameTooLong i) (TooManyFiles held more) first many = absurd (none_first names i many.0.short first)
one_refusal names (TooManyFiles held more) (NameTooLong j) many first = absurd (none_first names j many.0.short first)
one_refusal names (TooManyFiles held more) (TooManyFiles other count) many also =
    ap (λ n. TooManyFiles n more) (many.1 ∙ sym also.1) ∙ ap (λ n. TooManyFiles other n) (many.0.count_is ∙ sym also.0.count_is)
one_refusal names DiskFault s is also = absurd is
one_refusal names (Damaged at) s is also = absurd is
one_refusal names OutOfMemory s is also = absurd is
one_refusal names (ArchiveFull end need) s is also = absurd is
one_refusal names (NameTooLong i) DiskFault is also = absurd also
one_refusal names (NameTooLong i) (Damaged at) is also = absurd also
one_refusal names (NameTooLong i) OutOfMemory is also = absurd also
one_refusal names (NameTooLong i) (ArchiveFull end need) is also = absurd also
one_refusal names (TooManyFiles held more) DiskFault is also = absurd also
one_refusal names (TooManyFiles held more) (Damaged at) is also = absurd also
one_refusal names (TooManyFiles held more) OutOfMemory is also = absurd also
one_refusal names (TooManyFiles held more) (ArchiveFull end need) is also = absurd also

-- and where nothing is refused, no refusal is
pub none_refused : (names : List (List ℕ)) (r : AddRefusal) → RefusesNames names None → RefusesNames names (Some r) → ⊥
none_refused names (NameTooLong i) spared first = none_first names i spared.0 first
none_refused names (TooManyFiles held more) spared many = omega (arith, spared.1, many.0.count_is, many.2)
none_refused names DiskFault spared is = is
none_refused names (Damaged at) spared is = is
none_refused names OutOfMemory spared is = is
none_refused names (ArchiveFull end need) spared is = is
