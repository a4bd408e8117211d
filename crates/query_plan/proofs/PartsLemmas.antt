-- The parts of a body, a whole token at a time.
use Rattle.std.proofs.Common.{◌≡◌, ◌<◌, ℕ, suc, List, [], ◌∷◌, refl, sym, subst, arith, length, slice_index}
use Rattle.std.specs.Prelude.{Bool, true, false, IsTrue, Option, None}
use Rattle.token_rules.specs.Tokens.{is_token_byte, IsDelimiter, is_variable, IsVariable}
use Rattle.logtype_text.specs.Parts.{Part, Constant, Variable, joined, AreParts}
use Rattle.logtype_text.specs.Cut.{IsTokenText, Breaks as EndsToken, plains, Cut, ended, delimiter as cut_delimiter, plain, held, PartsAreCut}
use Rattle.query_plan.specs.Pieces.{IsInner, IsSomeInner}
use Rattle.query_plan.specs.Readings.{Breaks}
use Rattle.query_plan.proofs.CompleteLemmas.{Symbols, none, delimiter, constant, variable}
use Rattle.query_plan.proofs.ExactLemmas.{joined_plains}

token_byte : (v : Bool) (b : ℕ) → is_token_byte b ≡ v → ¬ IsDelimiter b → IsTrue (is_token_byte b)
token_byte true b is no_mark = is
token_byte false b is no_mark = absurd (no_mark is)

inner : (t : List ℕ) → ((k : ℕ) → k < length t → ¬ IsDelimiter (slice_index t k)) → IsInner t
inner [] all = tt
inner (b ∷ t) all = (token_byte (is_token_byte b) b refl (all 0 (omega arith)), inner t (λ k small. all (suc k) (omega (arith, small))))

some_inner : (t : List ℕ) → IsTokenText t → IsSomeInner t
some_inner [] is = absurd (omega (arith, is.some))
some_inner (b ∷ t) is = inner (b ∷ t) is.unbroken

breaks : (parts : List Part) → EndsToken parts → Breaks (joined parts)
breaks [] e = tt
breaks (Constant b ∷ parts) e = e
breaks (Variable kind text ∷ parts) e = absurd e

no_variable : (v : Bool) (e : Option ℕ) (w : List ℕ) → is_variable e w ≡ v → ¬ IsVariable e w → is_variable e w ≡ false
no_variable true e w is no_one = absurd (no_one is)
no_variable false e w is no_one = is

cut_symbols : {e : Option ℕ} {parts : List Part} → Cut e parts → Symbols e (joined parts) parts
cut_symbols ended = none
cut_symbols (cut_delimiter b is c) = delimiter is (cut_symbols c)
cut_symbols {e = e} (plain {parts = parts} w is ends no_one c) =
    subst (λ s. Symbols e s (plains w parts)) (sym (joined_plains w parts))
    (constant w (some_inner w is) (breaks parts ends) (no_variable (is_variable e w) e w refl no_one) (cut_symbols c))
cut_symbols (held {parts = parts} kind w is ends one coded c) = variable w kind (some_inner w is) (breaks parts ends) one (cut_symbols c)

pub symbols_of : PartsAreCut → (body : List ℕ) (parts : List Part) → AreParts body parts → Symbols None body parts
symbols_of law body parts are =
    let c = (law body parts).0 are in
    subst (λ s. Symbols None s parts) c.0 (cut_symbols c.1)
