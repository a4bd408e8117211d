-- How a walk along the records of each journal that the bytes begin with goes on, and how it ends.
use Rattle.std.proofs.Common.{◌≡◌, inl, inr, ℕ, zero, suc, ◌+◌, ◌<◌, ◌≤◌, List, [], ◌∷◌, ◌++◌, length, take, drop, get_or, Option, Some, None, refl, sym, ◌∙◌, ap, subst, arith, length-append}
use Rattle.std.proofs.lemmas.List.{append-nil, append_assoc, drop_at, take_at, take_all, get_or-drop, length-drop, length-take-le}
use Rattle.std.proofs.lemmas.Bool.{cases_lt}
use Rattle.disk_journal.specs.Record.{Saved, Fits, body, payload_len, spelled}
use Rattle.disk_journal.specs.Place.{HasClosedGate, HasRecord, HasWalked, IsDamaged, NoHeader}
use Rattle.disk_journal.proofs.SpellingLemmas.{length-body, payload_len-body}
use Rattle.disk_journal.specs.declared.walk.RecordPlace.{RecordPlace}
use Rattle.record_format.specs.declared.header.Header.{Header}
use Rattle.record_format.specs.Header.{IsHeader, header_bytes}
use Rattle.record_format.proofs.HeaderLemmas.{length-header_bytes, one_header}
use Rattle.archive_meaning.specs.declared.entry.JournalEntry.{JournalEntry}
use Rattle.archive_meaning.specs.Spelled.{end_of, front_of, record_of, records_from, records_of, types_in, types_of}
use Rattle.archive_meaning.specs.Stands.{Begins, IsFirstDamage, IsLegal, StandsFor}
use Rattle.archive_meaning.specs.StepsForms.{HaveForms}
use Rattle.archive_meaning.proofs.JudgeLemmas.{end_more}
use Rattle.archive_meaning.proofs.SpellingLemmas.{one_body}
use Rattle.archive_meaning.proofs.UniqueLemmas.{front_joined, legal_forms, legal_front, stands_begins}
use Rattle.archive_open.specs.Shown.{IsLastGate, RefusedAt}
use Rattle.archive_open.specs.StepsNext.{IsOpening}
use Rattle.archive_open.specs.Walk.{IsNext, IsWhole, Keeping, KeepsNext, NoneNext, payload_in}

-- the bytes stand for no journal, and their first damage is not behind this place
abbrev pub Refuses : ℕ → List ℕ → Type 0
Refuses at bytes = ((h : Header) (es : List JournalEntry) → StandsFor bytes h es → ⊥) × ((first : ℕ) → IsFirstDamage bytes first → first ≤ at)

-- the entry behind the first n
pub record HasEntry (es : List JournalEntry) (n : ℕ) : Type 0 where
  pub e : JournalEntry
  pub rest : List JournalEntry
  pub all : es ≡ take n es ++ e ∷ rest
  pub next : take (suc n) es ≡ take n es ++ e ∷ []

pub entry_at : (es : List JournalEntry) (n : ℕ) → n < length es → HasEntry es n
entry_at [] n below = absurd (omega (arith, below))
entry_at (f ∷ es) zero below = record { e = f; rest = es; all = refl; next = refl }
entry_at (f ∷ es) (suc n) below =
    let back = entry_at es n (omega (arith, below)) in record {
      e = back.e;
      rest = back.rest;
      all = ap (λ l. f ∷ l) back.all;
      next = ap (λ l. f ∷ l) back.next;
    }

last_fits : (types : List (List ℕ)) (es : List JournalEntry) (e : JournalEntry) → HaveForms types (es ++ e ∷ []) → Fits (record_of (types ++ types_of es) e)
last_fits types [] e forms = subst (λ t. Fits (record_of t e)) (sym (append-nil types)) forms.1
last_fits types (f ∷ es) e forms = subst (λ t. Fits (record_of t e)) (append_assoc types (types_in f) (types_of es)) (last_fits (types ++ types_in f) es e forms.2)

-- what stands at the gate of an entry of a journal that the bytes begin with
pub record StandsNext (bytes : List ℕ) (h : Header) (es : List JournalEntry) (n place : ℕ) (has : HasEntry es n) : Type 0 where
  pub legal : IsLegal h (take n es ++ has.e ∷ [])
  pub fits : Fits (record_of (types_of (take n es)) has.e)
  pub behind : List ℕ
  pub spells : drop place bytes ≡ 1 ∷ body (record_of (types_of (take n es)) has.e) ++ behind

pub stands_next : (bytes : List ℕ) (h : Header) (es : List JournalEntry) (n place : ℕ) → Begins bytes h es → (has : HasEntry es n) → place ≡ length (front_of h (take n es))
    → StandsNext bytes h es n place has
stands_next bytes h es n place begins has at =
    let done : List JournalEntry = take n es in
    let r : Saved = record_of (types_of done) has.e in
    let more : List ℕ = spelled (records_from (types_of done ++ types_in has.e) has.rest) in
    let whole : IsLegal h (done ++ has.e ∷ has.rest) = subst (λ l. IsLegal h l) has.all begins.legal in
    let legal : IsLegal h (done ++ has.e ∷ []) =
    legal_front h (done ++ has.e ∷ []) has.rest (subst (λ l. IsLegal h l) (sym (append_assoc done (has.e ∷ []) has.rest)) whole) in
    let spells : bytes ≡ front_of h done ++ ((1 ∷ body r ++ more) ++ begins.rest) =
    begins.spells ∙ ap (λ l. front_of h l ++ begins.rest) has.all ∙ ap (λ (l : List ℕ). l ++ begins.rest) (front_joined h done (has.e ∷ has.rest))
    ∙ append_assoc (front_of h done) (1 ∷ body r ++ more) begins.rest in
    record {
      legal = legal;
      fits = last_fits [] done has.e (legal_forms h (done ++ has.e ∷ []) begins.header legal);
      behind = more ++ begins.rest;
      spells = ap (λ l. drop place l) spells ∙ drop_at (front_of h done) ((1 ∷ body r ++ more) ++ begins.rest) place (sym at) ∙ append_assoc (1 ∷ body r) more begins.rest;
    }

-- a record there is that entry's
pub is_next : (bytes : List ℕ) (h : Header) (es : List JournalEntry) (n place : ℕ) (p : RecordPlace) → Begins bytes h es → (has : HasEntry es n) → place ≡ length (front_of h (take n es))
    → p.at ≡ place → p.payload ≡ p.at + 10 → HasRecord p.at p.kind p.length bytes → IsNext p.at p.kind (payload_in p bytes) h (take n es) has.e
is_next bytes h es n place p begins has at here payload found =
    let s = stands_next bytes h es n p.at begins has (here ∙ at) in
    let r : Saved = record_of (types_of (take n es)) has.e in
    let q : Saved = record { kind = p.kind; payload = take p.length (drop (p.at + 10) bytes) } in
    let long : length (take p.length (drop (p.at + 10) bytes)) ≡ p.length =
    length-take-le p.length (drop (p.at + 10) bytes) (omega (arith, found.within, length-drop (p.at + 10) bytes)) in
    let same : body r ++ s.behind ≡ body q ++ drop (p.at + 10 + p.length) bytes = ap (λ (l : List ℕ). drop 1 l) (sym s.spells ∙ found.spells) in
    let one : r ≡ q = (one_body r q s.behind (drop (p.at + 10 + p.length) bytes) s.fits (omega (arith, long, found.fits)) same).0 in
    record {
      header = begins.header;
      legal = s.legal;
      gate = here ∙ at;
      saved = one ∙ ap (λ k. record { kind = p.kind; payload = take p.length (drop k bytes) }) (sym payload);
    }

-- the gate behind the entries of a journal that the bytes stand for
pub gate_is : (bytes : List ℕ) (h : Header) (es : List JournalEntry) (place : ℕ) → (stood : StandsFor bytes h es) → place ≡ length (front_of h es)
    → drop place bytes ≡ stood.stands.gate ∷ stood.stands.rest
gate_is bytes h es place stood at =
    let spells : bytes ≡ front_of h es ++ stood.stands.gate ∷ stood.stands.rest = stood.stands.spells in
    ap (λ (l : List ℕ). drop place l) spells ∙ drop_at (front_of h es) (stood.stands.gate ∷ stood.stands.rest) place (sym at)

gate_at : (bytes : List ℕ) (place gate : ℕ) (rest : List ℕ) → drop place bytes ≡ gate ∷ rest → (place < length bytes) × (get_or bytes place 0 ≡ gate)
gate_at bytes place gate rest is =
    let at : place + 0 ≡ place = omega arith in
    let long : length (drop place bytes) ≡ suc (length rest) = ap length is in (
      omega (arith, long, length-drop place bytes),
      ap (λ k. get_or bytes k 0) (sym at) ∙ sym (get_or-drop place bytes 0 0) ∙ ap (λ (l : List ℕ). get_or l 0 0) is,
    )

-- a whole journal has no record behind
pub no_record : (bytes : List ℕ) (h : Header) (es : List JournalEntry) (at kind len : ℕ) → StandsFor bytes h es → at ≡ length (front_of h es) → HasRecord at kind len bytes → ⊥
no_record bytes h es at kind len stood here found =
    let gate = gate_is bytes h es at stood here in
    stood.stands.closed (sym (gate_at bytes at stood.stands.gate stood.stands.rest gate).1 ∙ (gate_at bytes at 1 _ found.spells).1)

module _ (b : Keeping) (header : Header) (place count : ℕ) (bytes : List ℕ) (o : IsOpening b header place count bytes) where
  -- of a journal with as many entries they are all
  at_end : (h : Header) (es : List JournalEntry) → Begins bytes h es → count ≡ length es → place ≡ length (front_of h es)
  at_end h es begins all =
      o.stood h es begins (omega (arith, all)) ∙ ap (λ l. length (front_of h l)) (take_all count es (omega (arith, all)))

  -- no journal has a further entry
  abbrev NoneFurther : Type 0
  NoneFurther = (h : Header) (es : List JournalEntry) → Begins bytes h es → count < length es → ⊥

  -- then the first damage is not behind
  not_behind : NoneFurther → (first : ℕ) → IsFirstDamage bytes first → first ≤ place
  not_behind past first damage = elim damage as (λ x. first ≤ place) [
    | inl none ↦ omega (arith, none.0)
    | inr bad ↦ elim (cases_lt count (length bad.es)) as (λ x. first ≤ place) [
      | inl less ↦ absurd (past bad.h bad.es bad.begins less)
      | inr few ↦ omega (arith, bad.gate, o.behind bad.h bad.es bad.begins (omega (arith, few)))
    ]
  ]

  -- and where none ends here, there is damage
  refused : NoneFurther → ((h : Header) (es : List JournalEntry) → StandsFor bytes h es → count ≡ length es → ⊥) → Refuses place bytes
  refused past ends = (
    λ h es stood. elim (cases_lt count (length es)) as (λ x. ⊥) [
      | inl less ↦ past h es (stands_begins bytes h es stood) less
      | inr few ↦ ends h es stood (omega (arith, few, o.far h es stood))
    ],
    not_behind past,
  )

  pub damaged_here : IsDamaged place (Some bytes) → Refuses place bytes
  damaged_here damage = refused past ends where
    past : NoneFurther
    past h es begins less =
        let has = entry_at es count less in
        let s = stands_next bytes h es count place begins has (o.stood h es begins (omega (arith, less))) in
        let r : Saved = record_of (types_of (take count es)) has.e in
        let long : length (drop place bytes) ≡ 10 + length r.payload + length s.behind =
        ap length s.spells ∙ omega (arith, length-append (body r) s.behind, length-body r) in
        let said : payload_len (drop place bytes) ≡ length r.payload = ap payload_len s.spells ∙ payload_len-body r s.behind s.fits in
        elim damage as (λ x. ⊥) [
          | inl short ↦ omega (arith, short, long, length-drop place bytes)
          | inr cut ↦ omega (arith, cut.1, long, said, length-drop place bytes)
        ]

    ends : (h : Header) (es : List JournalEntry) → StandsFor bytes h es → count ≡ length es → ⊥
    ends h es stood all =
        let gate = gate_at bytes place stood.stands.gate stood.stands.rest (gate_is bytes h es place stood (at_end h es (stands_begins bytes h es stood) all)) in
        elim damage as (λ x. ⊥) [
          | inl short ↦ omega (arith, short, gate.0)
          | inr cut ↦ stood.stands.closed (sym gate.1 ∙ cut.0)
        ]

  -- a closed gate is behind the last entry
  none_further : HasClosedGate place bytes → NoneFurther
  none_further shut h es begins less =
      let has = entry_at es count less in
      let s = stands_next bytes h es count place begins has (o.stood h es begins (omega (arith, less))) in
      shut.shut (gate_at bytes place 1 _ s.spells).1

  pub last_here : IsHeader header → HasWalked (header_bytes header) place count bytes → HasClosedGate place bytes → IsLastGate place bytes
  last_here is walked shut = record {
    gate = (header, (is, (count, walked)));
    closed = shut;
    behind = not_behind (none_further shut);
  }

  pub whole_here : HasClosedGate place bytes → (h : Header) (es : List JournalEntry) → StandsFor bytes h es → IsWhole b header place count h es
  whole_here shut h es stood =
      let begins = stands_begins bytes h es stood in
      let all : count ≡ length es = elim (cases_lt count (length es)) as (λ x. count ≡ length es) [
        | inl less ↦ absurd (none_further shut h es begins less)
        | inr few ↦ omega (arith, few, o.far h es stood)
      ] in record {
        one = o.one h es begins;
        all = all;
        gate = at_end h es begins all;
        kept = subst (λ l. b h l) (take_all count es (omega (arith, all))) (o.kept h es begins (omega (arith, all)));
      }

  -- ---- a record at the place

  module _ (p : RecordPlace) (here : p.at ≡ place) (payload : p.payload ≡ p.at + 10) (found : HasRecord p.at p.kind p.length bytes) where
    pub next_here : (h : Header) (es : List JournalEntry) → Begins bytes h es → (less : count < length es)
        → IsNext p.at p.kind (payload_in p bytes) h (take count es) (entry_at es count less).e
    next_here h es begins less =
        is_next bytes h es count place p begins (entry_at es count less) (o.stood h es begins (omega (arith, less))) here payload found

    pub goes_on : (h : Header) (es : List JournalEntry) → StandsFor bytes h es → count < length es
    goes_on h es stood = elim (cases_lt count (length es)) as (λ x. count < length es) [
      | inl less ↦ less
      | inr few ↦
          let all : count ≡ length es = omega (arith, few, o.far h es stood) in
          absurd (no_record bytes h es p.at p.kind p.length stood (here ∙ at_end h es (stands_begins bytes h es stood) all) found)
    ]

    pub refused_here : NoneNext p.at p.kind (payload_in p bytes) b → Refuses place bytes
    refused_here none = refused
        (λ h es begins less. none h (take count es) (entry_at es count less).e (next_here h es begins less) (o.kept h es begins (omega (arith, less))))
        (λ h es stood all. let less = goes_on h es stood in omega (arith, all, less))

    -- the place behind the entry
    place_on : (h : Header) (es : List JournalEntry) → Begins bytes h es → count < length es → p.payload + p.length ≡ length (front_of h (take (suc count) es))
    place_on h es begins less =
        let has = entry_at es count less in
        let next = next_here h es begins less in
        let done : List JournalEntry = take count es in
        let long : length (record_of (types_of done) has.e).payload ≡ length (payload_in p bytes) = ap (λ (r : Saved). length r.payload) next.saved in
        let all : length (payload_in p bytes) ≡ p.length =
        length-take-le p.length (drop p.payload bytes) (omega (arith, found.within, payload, length-drop p.payload bytes)) in
        let size : end_of h (done ++ has.e ∷ []) ≡ end_of h done + 10 + length (record_of (types_of done) has.e).payload = end_more h done has.e in
        let gate : p.at ≡ length (front_of h done) = next.gate in
        let last : p.payload + p.length ≡ length (front_of h (done ++ has.e ∷ [])) = omega (arith, gate, payload, long, all, size) in
        last ∙ ap (λ l. length (front_of h l)) (sym has.next)

    pub opening_on : (new : Keeping) → KeepsNext p.at p.kind (payload_in p bytes) b new → IsOpening new header (p.payload + p.length) (suc count) bytes
    opening_on new keeps = record {
      one = o.one;
      past = omega (arith, o.past, here, payload);
      stood = λ h es begins few. place_on h es begins (omega (arith, few));
      kept = λ h es begins few.
          let less : count < length es = omega (arith, few) in
          subst (λ l. new h l) (sym (entry_at es count less).next)
          (keeps h (take count es) (entry_at es count less).e (next_here h es begins less) (o.kept h es begins (omega (arith, few))));
      behind = λ h es begins few. elim (cases_lt count (length es)) as (λ x. length (front_of h es) ≤ p.payload + p.length) [
        | inl less ↦
            let on = place_on h es begins less in
            let same : length (front_of h (take (suc count) es)) ≡ length (front_of h es) = ap (λ l. length (front_of h l)) (take_all (suc count) es few) in
            omega (arith, on, same)
        | inr least ↦ omega (arith, o.behind h es begins (omega (arith, least)), here, payload)
      ];
      far = λ h es stood. let less = goes_on h es stood in omega (arith, less);
    }

-- ---- the beginning

same_header : (bytes : List ℕ) (g h : Header) (x : List ℕ) (es : List JournalEntry) → IsHeader g → bytes ≡ header_bytes g ++ x → Begins bytes h es → h ≡ g
same_header bytes g h x es header spells begins =
    one_header h g begins.header header (
    sym (take_at (header_bytes h) (spelled (records_of es) ++ begins.rest) 32 (length-header_bytes h))
    ∙ ap (λ (l : List ℕ). take 32 l) (sym (begins.spells ∙ append_assoc (header_bytes h) (spelled (records_of es)) begins.rest) ∙ spells)
    ∙ take_at (header_bytes g) x 32 (length-header_bytes g)
    )

front_none : (h : Header) → length (front_of h []) ≡ 32
front_none h = ap length (append-nil (header_bytes h)) ∙ length-header_bytes h

pub opening_starts : (b : Keeping) (header : Header) (bytes x : List ℕ) → IsHeader header → bytes ≡ header_bytes header ++ x → b header [] → IsOpening b header 32 0 bytes
opening_starts b header bytes x is spells kept = record {
  one = λ h es begins. same_header bytes header h x es is spells begins;
  past = omega arith;
  stood = λ h es begins few. sym (front_none h);
  kept = λ h es begins few. subst (λ g. b g []) (sym (same_header bytes header h x es is spells begins)) kept;
  behind = λ h es begins few. elim es as (λ l. length l ≤ 0 → length (front_of h l) ≤ 32) [
    | [] ↦ λ none. omega (arith, front_none h)
    | f ∷ l ↦ λ none. absurd (omega (arith, none))
  ] few;
  far = λ h es stood. omega arith;
}

has_header : (bytes : List ℕ) (h : Header) (es : List JournalEntry) → Begins bytes h es → take 32 bytes ≡ header_bytes h
has_header bytes h es begins =
    ap (λ (l : List ℕ). take 32 l) (begins.spells ∙ append_assoc (header_bytes h) (spelled (records_of es)) begins.rest)
    ∙ take_at (header_bytes h) (spelled (records_of es) ++ begins.rest) 32 (length-header_bytes h)

pub no_header : (at : ℕ) (seen : Option (List ℕ)) → NoHeader seen → at ≡ 0 → RefusedAt at seen
no_header at None none is = tt
no_header at (Some bytes) none is = record {
  none = λ h es stood. none h stood.header (has_header bytes h es (stands_begins bytes h es stood));
  behind = λ first damage. elim damage as (λ x. first ≤ at) [
    | inl header ↦ omega (arith, header.0)
    | inr bad ↦ absurd (none bad.h bad.begins.header (has_header bytes bad.h bad.es bad.begins))
  ];
  gate = inl (is, λ has. none has.h has.header has.spells);
}
