-- One byte further in the text of a pattern.
use Rattle.std.proofs.Common.{◌≡◌, ℕ, ◌-◌, ◌≤◌, List, [], ◌∷◌, ◌++◌, Bool, true, false, refl, sym, ap, subst, ◌∙◌, inl, append_assoc, length, take, length-append, arith}
use Rattle.std.proofs.lemmas.List.{append-nil, take_all}
use Rattle.wild_match.specs.declared.pattern.Item.{Item}
use Rattle.wild_match.specs.declared.pattern.Item.TheVariants.{Byte, Many}
use Rattle.wild_match.specs.Reading.{Spells, IsSearchPattern, IsLoneBackslash}
use Rattle.wild_match.proofs.Spelling.{Spells-append}

-- a `\` whose byte is not read yet
abbrev pub pending : Bool → List ℕ
pending true = 92 ∷ []
pending false = []

-- the bytes so far spell the items so far, behind Many, but for a `\` whose byte is not read yet
pub record IsRead (bytes : List ℕ) (escaped : Bool) (read : List Item) : Type 0 where
  pub front : List ℕ
  pub items : List Item
  pub spelled : Spells front items
  pub bytes_are : bytes ≡ front ++ pending escaped
  pub read_are : read ≡ Many ∷ items

pub read_none : (bytes : List ℕ) → bytes ≡ [] → IsRead bytes false (Many ∷ [])
read_none bytes e = record { front = []; items = []; spelled = refl; bytes_are = e; read_are = refl }

-- the byte behind a `\`
pub read_escaped : (bytes : List ℕ) (read : List Item) (b : ℕ) → IsRead bytes true read → IsRead (bytes ++ b ∷ []) false (read ++ Byte b ∷ [])
read_escaped bytes read b h = record {
  front = h.front ++ 92 ∷ b ∷ [];
  items = h.items ++ Byte b ∷ [];
  spelled = Spells-append h.front (92 ∷ b ∷ []) h.items (Byte b ∷ []) h.spelled ([], inl refl, refl);
  bytes_are = ap (λ r. r ++ b ∷ []) h.bytes_are ∙ (append_assoc h.front (92 ∷ []) (b ∷ []) ∙ sym (append-nil (h.front ++ 92 ∷ b ∷ [])));
  read_are = ap (λ r. r ++ Byte b ∷ []) h.read_are;
}

-- a `\`
pub read_backslash : (bytes : List ℕ) (read : List Item) (b : ℕ) → b ≡ 92 → IsRead bytes false read → IsRead (bytes ++ b ∷ []) true read
read_backslash bytes read b e h = record {
  front = h.front;
  items = h.items;
  spelled = h.spelled;
  bytes_are = ap (λ r. r ++ b ∷ []) (h.bytes_are ∙ append-nil h.front) ∙ ap (λ n. h.front ++ n ∷ []) e;
  read_are = h.read_are;
}

-- another byte
pub read_plain : (bytes : List ℕ) (read : List Item) (b : ℕ) (item : Item) → Spells (b ∷ []) (item ∷ []) → IsRead bytes false read → IsRead (bytes ++ b ∷ []) false (read ++ item ∷ [])
read_plain bytes read b item one h = record {
  front = h.front ++ b ∷ [];
  items = h.items ++ item ∷ [];
  spelled = Spells-append h.front (b ∷ []) h.items (item ∷ []) h.spelled one;
  bytes_are = ap (λ r. r ++ b ∷ []) (h.bytes_are ∙ append-nil h.front) ∙ sym (append-nil (h.front ++ b ∷ []));
  read_are = ap (λ r. r ++ item ∷ []) h.read_are;
}

-- at the end of the text all of it is read
pub read_all : (text : List ℕ) (i : ℕ) (escaped : Bool) (read : List Item) → length text ≤ i → IsRead (take i text) escaped read → IsRead text escaped read
read_all text i escaped read le h = subst (λ bytes. IsRead bytes escaped read) (take_all i text le) h

pub read_pattern_of : (text : List ℕ) (read : List Item) → IsRead text false read → IsSearchPattern text (read ++ Many ∷ [])
read_pattern_of text read h =
    let e : text ≡ h.front = h.bytes_are ∙ append-nil h.front in
    (h.items, subst (λ t. Spells t h.items) (sym e) h.spelled, ap (λ r. r ++ Many ∷ []) h.read_are)

pub read_lone : (text : List ℕ) (read : List Item) → IsRead text true read → IsLoneBackslash text (length text - 1)
read_lone text read h =
    let last = ap length h.bytes_are in
    (h.front, h.items, h.spelled, h.bytes_are, omega (arith, length-append h.front (92 ∷ [])))
