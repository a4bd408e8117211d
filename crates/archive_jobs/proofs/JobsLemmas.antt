-- Jobs that are made one by one, each in its place.
use Rattle.std.proofs.Common.{◌≡◌, ◌<◌, refl, sym, ap, subst, ◌∙◌, ℕ, zero, suc, Bool, List, [], ◌∷◌, ◌++◌, length, get_or, Some, slice_get, arith}
use Rattle.std.proofs.lemmas.Option.{slice_get_read}
use Rattle.archive_open.specs.declared.files.FileEntry.{FileEntry}

-- what holds of each element holds of one more
pub each_next : {A : Type 0} (P : ℕ → A → Type 0) (done done' : List A) (a : A) → done' ≡ done ++ a ∷ [] → P (length done) a → ((i : ℕ) (x : A) → slice_get done i ≡ Some x → P i x) → (i : ℕ) (x : A) → slice_get done' i ≡ Some x → P i x
each_next P done done' a pushed one each = subst (λ l. (i : ℕ) (x : _) → slice_get l i ≡ Some x → P i x) (sym pushed) (go P done one each)
  where
    go : {A : Type 0} (P : ℕ → A → Type 0) (done : List A) {a : A} → P (length done) a → ((i : ℕ) (x : A) → slice_get done i ≡ Some x → P i x) → (i : ℕ) (x : A) → slice_get (done ++ a ∷ []) i ≡ Some x → P i x
    go P [] {a} one each zero x at = subst (P 0) (cc (at)) one
    go P [] one each (suc i) x at = absurd (cc (at))
    go P (d ∷ done) one each zero x at = each 0 x at
    go P (d ∷ done) one each (suc i) x at = go (λ n. P (suc n)) done one (λ n y here. each (suc n) y here) i x at

-- where there are as many, each has one in its place
pub beside_each : {A B : Type 0} (R : ℕ → A → B → Type 0) (xs : List A) (ys : List B) → length ys ≡ length xs → ((i : ℕ) (y : B) → slice_get ys i ≡ Some y → (x : A) → slice_get xs i ≡ Some x → R i x y)
    → (i : ℕ) (x : A) → slice_get xs i ≡ Some x → (y : B) × (slice_get ys i ≡ Some y) × R i x y
beside_each R [] ys same each i x at = absurd (cc (at))
beside_each R (a ∷ xs) [] same each i x at = absurd (omega (arith, same))
beside_each R (a ∷ xs) (b ∷ ys) same each zero x at = (b, refl, each 0 b refl x at)
beside_each R (a ∷ xs) (b ∷ ys) same each (suc i) x at = beside_each (λ n. R (suc n)) xs ys (omega (arith, same)) (λ n y here z there. each (suc n) y here z there) i x at

-- each job is that of the file in its place
abbrev pub EachIs : {J : Type 0} → (ℕ → Bool → J → Type 0) → List FileEntry → List J → Type 0
EachIs {J} P files jobs = (i : ℕ) (j : J) → slice_get jobs i ≡ Some j → (f : FileEntry) → slice_get files i ≡ Some f → P i f.whole j

pub job_next : {J : Type 0} (P : ℕ → Bool → J → Type 0) (files : List FileEntry) (done done' : List J) (index number : ℕ) (file : FileEntry) (job : J) → done' ≡ done ++ job ∷ [] → number ≡ length done → index ≡ length done → index < length files
    → file ≡ get_or files index file → P number file.whole job → EachIs P files done → EachIs P files done'
job_next P files done done' index number file job pushed is place within read one before =
    each_next (λ i j. (f : FileEntry) → slice_get files i ≡ Some f → P i f.whole j) done done' job pushed
    (λ f at.
    let here : slice_get files index ≡ Some file = slice_get_read files (length files) index file refl within read in
    let same : file ≡ f = some_is file f (sym here ∙ (ap (λ n. slice_get files n) place ∙ at)) in
    subst (λ n. P n f.whole job) is (subst (λ (x : FileEntry). P number x.whole job) same one))
    before
  where
    some_is : (x y : FileEntry) → Some x ≡ Some y → x ≡ y
    some_is x y e = cc (e)
