-- Where a text may stand by one of its delimiters, which the text of a log type holds as it is.
use Rattle.std.specs.Prelude.{◌≡◌, ◌≢◌, ◌⊎◌, ℕ, zero, suc, ◌<◌, List, length, drop, IsTrue, IsFalse, slice_index}
use Rattle.token_rules.specs.Tokens.{IsDelimiter}
use Rattle.logtype_text.specs.declared.symbols.Symbol.{Symbol}
use Rattle.logtype_text.specs.TypeText.{is_escaped, type_text}
use Rattle.query_plan.specs.Slots.{MayBegin}

-- a delimiter that log types store as it is
abbrev pub IsPlainDelimiter : ℕ → Type 0
IsPlainDelimiter b = IsDelimiter b × IsFalse (is_escaped b)

-- the byte stands in the list at this place
abbrev pub StandsAt : ℕ → List ℕ → ℕ → Type 0
StandsAt b list at = (at < length list) × (slice_index list at ≡ b)

-- the text may begin with the symbols from this place of a log type on
abbrev pub BeginsAt : List ℕ → List ℕ → ℕ → Type 0
BeginsAt text log_type at = (symbols : List Symbol) → drop at log_type ≡ type_text symbols → MayBegin text symbols

-- it may not
abbrev pub IsRefused : List ℕ → List ℕ → ℕ → Type 0
IsRefused text log_type at = (symbols : List Symbol) → drop at log_type ≡ type_text symbols → ¬ MayBegin text symbols

-- it may not, if the byte stands there
abbrev pub IsMissed : ℕ → List ℕ → List ℕ → ℕ → Type 0
IsMissed b text log_type at = StandsAt b log_type at → IsRefused text log_type at

-- Before this place stands a byte that may end a symbol of that byte: the byte itself. Or one that may be a
-- placeholder.
abbrev pub IsReached : ℕ → List ℕ → ℕ → Type 0
IsReached before log_type zero = ⊥
IsReached before log_type (suc at) = (slice_index log_type at ≡ before) ⊎ IsTrue (is_escaped (slice_index log_type at))

-- it may not, if the byte stands there and a symbol of the byte before it may stand before that
abbrev pub IsMissedBehind : ℕ → ℕ → List ℕ → List ℕ → ℕ → Type 0
IsMissedBehind before b text log_type at = StandsAt b log_type at → IsReached before log_type at → IsRefused text log_type at

-- so many bytes at the front stand for themselves and are another one
abbrev pub IsPassed : ℕ → List ℕ → ℕ → Type 0
IsPassed b list count = (k : ℕ) → k < count → IsFalse (is_escaped (slice_index list k)) × (slice_index list k ≢ b)
