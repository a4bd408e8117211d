-- The laws of the messages of a version.
use Rattle.std.proofs.Common.{◌≡◌, inl, inr, ℕ, Bool, List, [], ◌∷◌, ◌++◌, All, map, refl, sym, ◌∙◌, ap, subst}
use Rattle.std.specs.List.{flat_map}
use Rattle.std.proofs.lemmas.List.{append-nil}
use Rattle.std.proofs.lemmas.List.Elements.{All-nil, All-cons}
use Rattle.log_messages.specs.Messages.{Messages}
use Rattle.log_messages.specs.Groups.{Group, IsGroup, lines_of, text_of}
use Rattle.log_messages.proofs.GroupLemmas.{IsGroup-alone}
use Rattle.log_messages.proofs.GroupLawLemmas.{group_messages_agree, group_messages_empty, group_messages_exist, group_messages_join}
use Rattle.line_cut.specs.declared.cutter.TheConstants.{MAX_LINE_LEN}
use Rattle.message_reader.specs.Versions.{IsHead, MessagesOf}
use Rattle.message_reader.specs.VersionLaws.{LinesInVersionOne, MessagesOfAgree, MessagesOfExist, MessagesOfJoinBack, NothingHasNone}
use Rattle.message_reader.proofs.LineLemmas.{never}
use Rattle.message_reader.proofs.StampedLemmas.{head_or_not}

pub messages_exist : MessagesOfExist
messages_exist version bytes = group_messages_exist (IsHead version) MAX_LINE_LEN (head_or_not version) bytes

pub messages_agree : MessagesOfAgree
messages_agree version = group_messages_agree (IsHead version) MAX_LINE_LEN

pub messages_join : MessagesOfJoinBack
messages_join version = group_messages_join (IsHead version) MAX_LINE_LEN

pub messages_none : NothingHasNone
messages_none version = group_messages_empty (IsHead version) MAX_LINE_LEN

-- ---- in version 1 each line is a group

abbrev alone : List ℕ → Group
alone line = record { first = line; later = [] }

cut : (lines : List (List ℕ)) → lines ≡ flat_map lines_of (map alone lines)
cut [] = refl
cut (line ∷ lines) = ap (λ ls. line ∷ ls) (cut lines)

texts : (lines : List (List ℕ)) → lines ≡ map text_of (map alone lines)
texts [] = refl
texts (line ∷ lines) = ap (λ l. l ∷ lines) (sym (append-nil line)) ∙ ap (λ ls. (line ++ []) ∷ ls) (texts lines)

within : (lines : List (List ℕ)) → All (IsGroup (IsHead 1) MAX_LINE_LEN) (map alone lines)
within [] = All-nil (IsGroup (IsHead 1) MAX_LINE_LEN)
within (line ∷ lines) = All-cons (IsGroup (IsHead 1) MAX_LINE_LEN) (alone line) (map alone lines) (IsGroup-alone (IsHead 1) MAX_LINE_LEN line) (within lines)

as_groups : (bytes : List ℕ) (lines : List (List ℕ)) (ended : Bool) → Messages bytes lines ended → MessagesOf 1 bytes lines ended
as_groups bytes lines ended are = record {
  lines = lines;
  are_lines = are;
  groups = map alone lines;
  are_groups = record { cut = cut lines; within = within lines; apart = λ before group next behind e. inr (inl (never group.first)) };
  are = texts lines;
}

pub lines_in_version_one : LinesInVersionOne
lines_in_version_one bytes messages ended = (
  λ groups.
      let same = messages_agree 1 bytes groups.lines messages ended ended (as_groups bytes groups.lines ended groups.are_lines) groups in
      subst (λ ls. Messages bytes ls ended) same.0 groups.are_lines,
  as_groups bytes messages ended,
)
