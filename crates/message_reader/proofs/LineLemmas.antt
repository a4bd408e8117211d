-- A line as a message of version 1.
use Rattle.std.proofs.Common.{◌≡◌, ◌≢◌, inl, inr, ℕ, Bool, true, false, List, [], ◌∷◌, ◌++◌, All, Option, None, Some, refl, sym, subst, arith}
use Rattle.std.specs.Prelude.{IfSome}
use Rattle.std.proofs.lemmas.List.{append-nil}
use Rattle.std.proofs.lemmas.List.Elements.{All-nil, All-cons}
use Rattle.log_messages.specs.Messages.{IsLine}
use Rattle.log_messages.specs.Groups.{Group, lines_of, IsFollowed}
use Rattle.log_messages.proofs.GroupLemmas.{IsGroup-alone}
use Rattle.log_messages.proofs.GroupLawLemmas.{group_messages_first, group_messages_open}
use Rattle.line_cut.specs.Cutting.{Parts}
use Rattle.line_cut.specs.declared.cutter.TheConstants.{MAX_LINE_LEN}
use Rattle.message_reader.specs.Versions.{IsFirstOf, IsFirstOfLines, IsHead, MessagesOf}
use Rattle.message_reader.proofs.GroupLemmas.{first_of_lines}

pub never : (line : List ℕ) → ¬ IsHead 1 line
never line head = omega (arith, head.0)

abbrev alone : List ℕ → Group
alone line = record { first = line; later = [] }

all_lines : (line : List ℕ) → IsLine line → All IsLine (lines_of (alone line))
all_lines line is = All-cons IsLine line [] is (All-nil IsLine)

follows : (line after : List ℕ) → IsFollowed (IsHead 1) MAX_LINE_LEN (alone line) after
follows line after = λ next first. inr (inl (never line))

pub line_of_lines : (line : List ℕ) (after : Option (List ℕ)) → IsLine line → IfSome after (IsFirstOfLines 1 line)
line_of_lines line None is = tt
line_of_lines line (Some after) is = first_of_lines 1 (alone line) line after (append-nil line) (all_lines line is) (IsGroup-alone (IsHead 1) MAX_LINE_LEN line) (follows line after)

pub line_first : (line : List ℕ) (ended : Bool) (before after : Option (List ℕ)) → IsLine line → (ended ≡ false → line ≢ []) → Parts ended line before after → IfSome before (λ b. IfSome after (IsFirstOf 1 ended line b))
line_first line ended None after is some parts = tt
line_first line ended (Some b) None is some parts = tt
line_first line true (Some b) (Some a) is some parts =
    let whole : b ≡ line ++ 10 ∷ a = cc (parts) in
    λ ms e m. subst (λ t. MessagesOf 1 t (line ∷ ms) e) (sym whole)
    (subst (λ t. MessagesOf 1 (t ++ 10 ∷ a) (t ∷ ms) e) (append-nil line) (group_messages_first (IsHead 1) MAX_LINE_LEN (alone line) a ms e (all_lines line is) (IsGroup-alone (IsHead 1) MAX_LINE_LEN line) (follows line a) m))
line_first line false (Some b) (Some a) is some parts =
    let whole : b ≡ line = cc (parts.0) in
    subst (λ t. MessagesOf 1 t (line ∷ []) false) (sym whole)
    (subst (λ t. MessagesOf 1 t (t ∷ []) false) (append-nil line) (group_messages_open (IsHead 1) MAX_LINE_LEN (alone line) (all_lines line is) (IsGroup-alone (IsHead 1) MAX_LINE_LEN line) (some refl)))
