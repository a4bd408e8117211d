-- What a refusal says.
use Rattle.std.proofs.Common.{◌≡◌, ◌∙◌, Bool, true, false, [], ◌∷◌, inl, inr, ap, sym, refl}
use Rattle.clap.specs.Values.{kind_of}
use Rattle.clap.specs.Kinds.{HasKind, Kinds}
use Rattle.clap.specs.declared.error.Error.{Error}
use Rattle.clap.specs.declared.error.kind.ErrorKind.TheVariants as kind
use Rattle.std.specs.Prelude.{Result, Ok, Err, IfErr}
use Rattle.command_words.specs.declared.command.Command.{Command}
use Rattle.command_words.specs.Asked.{Asked, IsAnswer, refusal_by}
use Rattle.command_words.specs.declared.command.WordsRefusal.{WordsRefusal}
use Rattle.command_words.specs.declared.command.WordsRefusal.TheVariants.{Usage, OutOfMemory}

memory_is_no_usage : (e : Error) (r : WordsRefusal) → kind_of e ≡ kind.OutOfMemory → r ≡ refusal_by (kind_of e) → r ≡ Usage → ⊥
memory_is_no_usage e r is by usage = let same : Usage ≡ OutOfMemory = sym usage ∙ (by ∙ ap refusal_by is) in cc (same)

-- words that are refused have a fault
pub has_fault : (ks : Kinds) (e : Error) (r : WordsRefusal) → HasKind ks e → r ≡ refusal_by (kind_of e) → r ≡ Usage → ks ≡ [] → ⊥
has_fault [] e r (inl is) by usage none = memory_is_no_usage e r is by usage
has_fault [] e r (inr among) by usage none = among
has_fault (k ∷ ks) e r has by usage none = cc (none)

-- and are not taken
pub not_taken : (taken : Bool) (e : Error) (r : WordsRefusal) → (taken ≡ true → kind_of e ≡ kind.OutOfMemory) → r ≡ refusal_by (kind_of e) → r ≡ Usage → taken ≡ false
not_taken true e r passes by usage = absurd (memory_is_no_usage e r (passes refl) by usage)
not_taken false e r passes by usage = refl

-- words that ask for something are refused only for want of memory
pub answer_is_memory : (asked : Asked) (r : Result Command WordsRefusal) → IsAnswer asked r → IfErr r (λ e. e ≡ OutOfMemory)
answer_is_memory asked (Ok command) is = tt
answer_is_memory asked (Err Usage) is = absurd is
answer_is_memory asked (Err OutOfMemory) is = refl
