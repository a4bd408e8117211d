-- How a file goes on with a segment.
use Rattle.std.specs.Prelude.{◌≡◌, ◌≤◌, ◌+◌, [], false}
use Rattle.segment_format.specs.declared.head.Head.{Head}
use Rattle.archive_meaning.specs.declared.TheConstants.{MAX_MESSAGES}
use Rattle.archive_open.specs.declared.files.FileEntry.{FileEntry}

abbrev pub no_file : FileEntry
no_file = record { name = []; messages = 0; whole = false; ended = false }

-- the segment's first message is the next, the file has no last segment, and its messages do not become too many
pub record GoesOn (file : FileEntry) (head : Head) : Type 0 where
  pub whole : file.whole ≡ false
  pub first : head.first ≡ file.messages
  pub most : head.first + head.rows ≤ MAX_MESSAGES

abbrev pub file_with : FileEntry → Head → FileEntry
file_with file head = record file { messages = file.messages + head.rows; whole = head.last; ended = head.ended }
