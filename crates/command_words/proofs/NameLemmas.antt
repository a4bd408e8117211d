-- The command of a name.
use Rattle.std.proofs.Common.{◌≡◌, ℕ, ℤ, Bool, List, Option, sym, refl, codes}
use Rattle.std.specs.Prelude.{IfSome, IsSomeAnd}
use Rattle.std.specs.Cmp.Lexicographic.{other_text}
use Rattle.clap.specs.Walk.{Row, Text}
use Rattle.record_format.specs.declared.header.Header.{Header}
use Rattle.command_words.specs.declared.command.Command.{Command}
use Rattle.command_words.specs.declared.command.CountKey.{CountKey}
use Rattle.command_words.specs.Asked.{Asked, Gives, IsFor, IsReading, asked_by, name_of, to_bench, to_check, to_count, to_create, to_decode, to_ingest, to_list, to_merge, to_scan, to_search, to_show, to_upgrade}

-- what is asked under the name `show`
pub only_show : (P : Asked → Type 0) → ((file : Text) → P (to_show file)) → (asked : Asked) → name_of asked ≡ codes "show" → P asked
only_show P p (to_show file) e = p file
only_show P p (to_scan pattern file) e = absurd (other_text (codes "scan") (codes "show") refl e)
only_show P p (to_create header) e = absurd (other_text (codes "create") (codes "show") refl e)
only_show P p (to_ingest workers segment watch files) e = absurd (other_text (codes "ingest") (codes "show") refl e)
only_show P p to_list e = absurd (other_text (codes "files") (codes "show") refl e)
only_show P p to_check e = absurd (other_text (codes "check") (codes "show") refl e)
only_show P p (to_decode number) e = absurd (other_text (codes "decode") (codes "show") refl e)
only_show P p (to_search from to stats workers pattern) e = absurd (other_text (codes "search") (codes "show") refl e)
only_show P p (to_count by from to stats workers pattern) e = absurd (other_text (codes "count") (codes "show") refl e)
only_show P p to_merge e = absurd (other_text (codes "merge") (codes "show") refl e)
only_show P p to_upgrade e = absurd (other_text (codes "upgrade") (codes "show") refl e)
only_show P p (to_bench number lines workers) e = absurd (other_text (codes "bench") (codes "show") refl e)

pub reads_show : (rows : List Row) (read : Option Command) → IfSome read (λ command. IsFor (codes "show") rows (asked_by command))
    → ((file : Text) → Gives rows (to_show file) → IsSomeAnd read (λ command. asked_by command ≡ to_show file))
    → IsReading (codes "show") rows read
reads_show rows read some all =
    record { some = some; all = λ asked is. only_show (λ a. Gives rows a → IsSomeAnd read (λ command. asked_by command ≡ a)) all asked is.0 is.1 }

-- what is asked under the name `scan`
pub only_scan : (P : Asked → Type 0) → ((pattern file : Text) → P (to_scan pattern file)) → (asked : Asked) → name_of asked ≡ codes "scan" → P asked
only_scan P p (to_show file) e = absurd (other_text (codes "show") (codes "scan") refl e)
only_scan P p (to_scan pattern file) e = p pattern file
only_scan P p (to_create header) e = absurd (other_text (codes "create") (codes "scan") refl e)
only_scan P p (to_ingest workers segment watch files) e = absurd (other_text (codes "ingest") (codes "scan") refl e)
only_scan P p to_list e = absurd (other_text (codes "files") (codes "scan") refl e)
only_scan P p to_check e = absurd (other_text (codes "check") (codes "scan") refl e)
only_scan P p (to_decode number) e = absurd (other_text (codes "decode") (codes "scan") refl e)
only_scan P p (to_search from to stats workers pattern) e = absurd (other_text (codes "search") (codes "scan") refl e)
only_scan P p (to_count by from to stats workers pattern) e = absurd (other_text (codes "count") (codes "scan") refl e)
only_scan P p to_merge e = absurd (other_text (codes "merge") (codes "scan") refl e)
only_scan P p to_upgrade e = absurd (other_text (codes "upgrade") (codes "scan") refl e)
only_scan P p (to_bench number lines workers) e = absurd (other_text (codes "bench") (codes "scan") refl e)

pub reads_scan : (rows : List Row) (read : Option Command) → IfSome read (λ command. IsFor (codes "scan") rows (asked_by command))
    → ((pattern file : Text) → Gives rows (to_scan pattern file) → IsSomeAnd read (λ command. asked_by command ≡ to_scan pattern file))
    → IsReading (codes "scan") rows read
reads_scan rows read some all =
    record { some = some; all = λ asked is. only_scan (λ a. Gives rows a → IsSomeAnd read (λ command. asked_by command ≡ a)) all asked is.0 is.1 }

-- what is asked under the name `create`
pub only_create : (P : Asked → Type 0) → ((header : Header) → P (to_create header)) → (asked : Asked) → name_of asked ≡ codes "create" → P asked
only_create P p (to_show file) e = absurd (other_text (codes "show") (codes "create") refl e)
only_create P p (to_scan pattern file) e = absurd (other_text (codes "scan") (codes "create") refl e)
only_create P p (to_create header) e = p header
only_create P p (to_ingest workers segment watch files) e = absurd (other_text (codes "ingest") (codes "create") refl e)
only_create P p to_list e = absurd (other_text (codes "files") (codes "create") refl e)
only_create P p to_check e = absurd (other_text (codes "check") (codes "create") refl e)
only_create P p (to_decode number) e = absurd (other_text (codes "decode") (codes "create") refl e)
only_create P p (to_search from to stats workers pattern) e = absurd (other_text (codes "search") (codes "create") refl e)
only_create P p (to_count by from to stats workers pattern) e = absurd (other_text (codes "count") (codes "create") refl e)
only_create P p to_merge e = absurd (other_text (codes "merge") (codes "create") refl e)
only_create P p to_upgrade e = absurd (other_text (codes "upgrade") (codes "create") refl e)
only_create P p (to_bench number lines workers) e = absurd (other_text (codes "bench") (codes "create") refl e)

pub reads_create : (rows : List Row) (read : Option Command) → IfSome read (λ command. IsFor (codes "create") rows (asked_by command))
    → ((header : Header) → Gives rows (to_create header) → IsSomeAnd read (λ command. asked_by command ≡ to_create header))
    → IsReading (codes "create") rows read
reads_create rows read some all =
    record { some = some; all = λ asked is. only_create (λ a. Gives rows a → IsSomeAnd read (λ command. asked_by command ≡ a)) all asked is.0 is.1 }

-- what is asked under the name `ingest`
pub only_ingest : (P : Asked → Type 0) → ((workers segment : ℕ) (watch : Option Text) (files : List Text) → P (to_ingest workers segment watch files)) → (asked : Asked) → name_of asked ≡ codes "ingest" → P asked
only_ingest P p (to_show file) e = absurd (other_text (codes "show") (codes "ingest") refl e)
only_ingest P p (to_scan pattern file) e = absurd (other_text (codes "scan") (codes "ingest") refl e)
only_ingest P p (to_create header) e = absurd (other_text (codes "create") (codes "ingest") refl e)
only_ingest P p (to_ingest workers segment watch files) e = p workers segment watch files
only_ingest P p to_list e = absurd (other_text (codes "files") (codes "ingest") refl e)
only_ingest P p to_check e = absurd (other_text (codes "check") (codes "ingest") refl e)
only_ingest P p (to_decode number) e = absurd (other_text (codes "decode") (codes "ingest") refl e)
only_ingest P p (to_search from to stats workers pattern) e = absurd (other_text (codes "search") (codes "ingest") refl e)
only_ingest P p (to_count by from to stats workers pattern) e = absurd (other_text (codes "count") (codes "ingest") refl e)
only_ingest P p to_merge e = absurd (other_text (codes "merge") (codes "ingest") refl e)
only_ingest P p to_upgrade e = absurd (other_text (codes "upgrade") (codes "ingest") refl e)
only_ingest P p (to_bench number lines workers) e = absurd (other_text (codes "bench") (codes "ingest") refl e)

pub reads_ingest : (rows : List Row) (read : Option Command) → IfSome read (λ command. IsFor (codes "ingest") rows (asked_by command))
    → ((workers segment : ℕ) (watch : Option Text) (files : List Text) → Gives rows (to_ingest workers segment watch files) → IsSomeAnd read (λ command. asked_by command ≡ to_ingest workers segment watch files))
    → IsReading (codes "ingest") rows read
reads_ingest rows read some all =
    record { some = some; all = λ asked is. only_ingest (λ a. Gives rows a → IsSomeAnd read (λ command. asked_by command ≡ a)) all asked is.0 is.1 }

-- what is asked under the name `files`
pub only_files : (P : Asked → Type 0) → (P to_list) → (asked : Asked) → name_of asked ≡ codes "files" → P asked
only_files P p (to_show file) e = absurd (other_text (codes "show") (codes "files") refl e)
only_files P p (to_scan pattern file) e = absurd (other_text (codes "scan") (codes "files") refl e)
only_files P p (to_create header) e = absurd (other_text (codes "create") (codes "files") refl e)
only_files P p (to_ingest workers segment watch files) e = absurd (other_text (codes "ingest") (codes "files") refl e)
only_files P p to_list e = p
only_files P p to_check e = absurd (other_text (codes "check") (codes "files") refl e)
only_files P p (to_decode number) e = absurd (other_text (codes "decode") (codes "files") refl e)
only_files P p (to_search from to stats workers pattern) e = absurd (other_text (codes "search") (codes "files") refl e)
only_files P p (to_count by from to stats workers pattern) e = absurd (other_text (codes "count") (codes "files") refl e)
only_files P p to_merge e = absurd (other_text (codes "merge") (codes "files") refl e)
only_files P p to_upgrade e = absurd (other_text (codes "upgrade") (codes "files") refl e)
only_files P p (to_bench number lines workers) e = absurd (other_text (codes "bench") (codes "files") refl e)

pub reads_files : (rows : List Row) (read : Option Command) → IfSome read (λ command. IsFor (codes "files") rows (asked_by command))
    → (Gives rows to_list → IsSomeAnd read (λ command. asked_by command ≡ to_list))
    → IsReading (codes "files") rows read
reads_files rows read some all =
    record { some = some; all = λ asked is. only_files (λ a. Gives rows a → IsSomeAnd read (λ command. asked_by command ≡ a)) all asked is.0 is.1 }

-- what is asked under the name `check`
pub only_check : (P : Asked → Type 0) → (P to_check) → (asked : Asked) → name_of asked ≡ codes "check" → P asked
only_check P p (to_show file) e = absurd (other_text (codes "show") (codes "check") refl e)
only_check P p (to_scan pattern file) e = absurd (other_text (codes "scan") (codes "check") refl e)
only_check P p (to_create header) e = absurd (other_text (codes "create") (codes "check") refl e)
only_check P p (to_ingest workers segment watch files) e = absurd (other_text (codes "ingest") (codes "check") refl e)
only_check P p to_list e = absurd (other_text (codes "files") (codes "check") refl e)
only_check P p to_check e = p
only_check P p (to_decode number) e = absurd (other_text (codes "decode") (codes "check") refl e)
only_check P p (to_search from to stats workers pattern) e = absurd (other_text (codes "search") (codes "check") refl e)
only_check P p (to_count by from to stats workers pattern) e = absurd (other_text (codes "count") (codes "check") refl e)
only_check P p to_merge e = absurd (other_text (codes "merge") (codes "check") refl e)
only_check P p to_upgrade e = absurd (other_text (codes "upgrade") (codes "check") refl e)
only_check P p (to_bench number lines workers) e = absurd (other_text (codes "bench") (codes "check") refl e)

pub reads_check : (rows : List Row) (read : Option Command) → IfSome read (λ command. IsFor (codes "check") rows (asked_by command))
    → (Gives rows to_check → IsSomeAnd read (λ command. asked_by command ≡ to_check))
    → IsReading (codes "check") rows read
reads_check rows read some all =
    record { some = some; all = λ asked is. only_check (λ a. Gives rows a → IsSomeAnd read (λ command. asked_by command ≡ a)) all asked is.0 is.1 }

-- what is asked under the name `decode`
pub only_decode : (P : Asked → Type 0) → ((number : ℕ) → P (to_decode number)) → (asked : Asked) → name_of asked ≡ codes "decode" → P asked
only_decode P p (to_show file) e = absurd (other_text (codes "show") (codes "decode") refl e)
only_decode P p (to_scan pattern file) e = absurd (other_text (codes "scan") (codes "decode") refl e)
only_decode P p (to_create header) e = absurd (other_text (codes "create") (codes "decode") refl e)
only_decode P p (to_ingest workers segment watch files) e = absurd (other_text (codes "ingest") (codes "decode") refl e)
only_decode P p to_list e = absurd (other_text (codes "files") (codes "decode") refl e)
only_decode P p to_check e = absurd (other_text (codes "check") (codes "decode") refl e)
only_decode P p (to_decode number) e = p number
only_decode P p (to_search from to stats workers pattern) e = absurd (other_text (codes "search") (codes "decode") refl e)
only_decode P p (to_count by from to stats workers pattern) e = absurd (other_text (codes "count") (codes "decode") refl e)
only_decode P p to_merge e = absurd (other_text (codes "merge") (codes "decode") refl e)
only_decode P p to_upgrade e = absurd (other_text (codes "upgrade") (codes "decode") refl e)
only_decode P p (to_bench number lines workers) e = absurd (other_text (codes "bench") (codes "decode") refl e)

pub reads_decode : (rows : List Row) (read : Option Command) → IfSome read (λ command. IsFor (codes "decode") rows (asked_by command))
    → ((number : ℕ) → Gives rows (to_decode number) → IsSomeAnd read (λ command. asked_by command ≡ to_decode number))
    → IsReading (codes "decode") rows read
reads_decode rows read some all =
    record { some = some; all = λ asked is. only_decode (λ a. Gives rows a → IsSomeAnd read (λ command. asked_by command ≡ a)) all asked is.0 is.1 }

-- what is asked under the name `search`
pub only_search : (P : Asked → Type 0) → ((from to : Option ℤ) (stats : Bool) (workers : ℕ) (pattern : Text) → P (to_search from to stats workers pattern)) → (asked : Asked) → name_of asked ≡ codes "search" → P asked
only_search P p (to_show file) e = absurd (other_text (codes "show") (codes "search") refl e)
only_search P p (to_scan pattern file) e = absurd (other_text (codes "scan") (codes "search") refl e)
only_search P p (to_create header) e = absurd (other_text (codes "create") (codes "search") refl e)
only_search P p (to_ingest workers segment watch files) e = absurd (other_text (codes "ingest") (codes "search") refl e)
only_search P p to_list e = absurd (other_text (codes "files") (codes "search") refl e)
only_search P p to_check e = absurd (other_text (codes "check") (codes "search") refl e)
only_search P p (to_decode number) e = absurd (other_text (codes "decode") (codes "search") refl e)
only_search P p (to_search from to stats workers pattern) e = p from to stats workers pattern
only_search P p (to_count by from to stats workers pattern) e = absurd (other_text (codes "count") (codes "search") refl e)
only_search P p to_merge e = absurd (other_text (codes "merge") (codes "search") refl e)
only_search P p to_upgrade e = absurd (other_text (codes "upgrade") (codes "search") refl e)
only_search P p (to_bench number lines workers) e = absurd (other_text (codes "bench") (codes "search") refl e)

pub reads_search : (rows : List Row) (read : Option Command) → IfSome read (λ command. IsFor (codes "search") rows (asked_by command))
    → ((from to : Option ℤ) (stats : Bool) (workers : ℕ) (pattern : Text) → Gives rows (to_search from to stats workers pattern) → IsSomeAnd read (λ command. asked_by command ≡ to_search from to stats workers pattern))
    → IsReading (codes "search") rows read
reads_search rows read some all =
    record { some = some; all = λ asked is. only_search (λ a. Gives rows a → IsSomeAnd read (λ command. asked_by command ≡ a)) all asked is.0 is.1 }

-- what is asked under the name `count`
pub only_count : (P : Asked → Type 0) → ((by : CountKey) (from to : Option ℤ) (stats : Bool) (workers : ℕ) (pattern : Text) → P (to_count by from to stats workers pattern)) → (asked : Asked) → name_of asked ≡ codes "count" → P asked
only_count P p (to_show file) e = absurd (other_text (codes "show") (codes "count") refl e)
only_count P p (to_scan pattern file) e = absurd (other_text (codes "scan") (codes "count") refl e)
only_count P p (to_create header) e = absurd (other_text (codes "create") (codes "count") refl e)
only_count P p (to_ingest workers segment watch files) e = absurd (other_text (codes "ingest") (codes "count") refl e)
only_count P p to_list e = absurd (other_text (codes "files") (codes "count") refl e)
only_count P p to_check e = absurd (other_text (codes "check") (codes "count") refl e)
only_count P p (to_decode number) e = absurd (other_text (codes "decode") (codes "count") refl e)
only_count P p (to_search from to stats workers pattern) e = absurd (other_text (codes "search") (codes "count") refl e)
only_count P p (to_count by from to stats workers pattern) e = p by from to stats workers pattern
only_count P p to_merge e = absurd (other_text (codes "merge") (codes "count") refl e)
only_count P p to_upgrade e = absurd (other_text (codes "upgrade") (codes "count") refl e)
only_count P p (to_bench number lines workers) e = absurd (other_text (codes "bench") (codes "count") refl e)

pub reads_count : (rows : List Row) (read : Option Command) → IfSome read (λ command. IsFor (codes "count") rows (asked_by command))
    → ((by : CountKey) (from to : Option ℤ) (stats : Bool) (workers : ℕ) (pattern : Text) → Gives rows (to_count by from to stats workers pattern) → IsSomeAnd read (λ command. asked_by command ≡ to_count by from to stats workers pattern))
    → IsReading (codes "count") rows read
reads_count rows read some all =
    record { some = some; all = λ asked is. only_count (λ a. Gives rows a → IsSomeAnd read (λ command. asked_by command ≡ a)) all asked is.0 is.1 }

-- what is asked under the name `merge`
pub only_merge : (P : Asked → Type 0) → (P to_merge) → (asked : Asked) → name_of asked ≡ codes "merge" → P asked
only_merge P p (to_show file) e = absurd (other_text (codes "show") (codes "merge") refl e)
only_merge P p (to_scan pattern file) e = absurd (other_text (codes "scan") (codes "merge") refl e)
only_merge P p (to_create header) e = absurd (other_text (codes "create") (codes "merge") refl e)
only_merge P p (to_ingest workers segment watch files) e = absurd (other_text (codes "ingest") (codes "merge") refl e)
only_merge P p to_list e = absurd (other_text (codes "files") (codes "merge") refl e)
only_merge P p to_check e = absurd (other_text (codes "check") (codes "merge") refl e)
only_merge P p (to_decode number) e = absurd (other_text (codes "decode") (codes "merge") refl e)
only_merge P p (to_search from to stats workers pattern) e = absurd (other_text (codes "search") (codes "merge") refl e)
only_merge P p (to_count by from to stats workers pattern) e = absurd (other_text (codes "count") (codes "merge") refl e)
only_merge P p to_merge e = p
only_merge P p to_upgrade e = absurd (other_text (codes "upgrade") (codes "merge") refl e)
only_merge P p (to_bench number lines workers) e = absurd (other_text (codes "bench") (codes "merge") refl e)

pub reads_merge : (rows : List Row) (read : Option Command) → IfSome read (λ command. IsFor (codes "merge") rows (asked_by command))
    → (Gives rows to_merge → IsSomeAnd read (λ command. asked_by command ≡ to_merge))
    → IsReading (codes "merge") rows read
reads_merge rows read some all =
    record { some = some; all = λ asked is. only_merge (λ a. Gives rows a → IsSomeAnd read (λ command. asked_by command ≡ a)) all asked is.0 is.1 }

-- what is asked under the name `upgrade`
pub only_upgrade : (P : Asked → Type 0) → (P to_upgrade) → (asked : Asked) → name_of asked ≡ codes "upgrade" → P asked
only_upgrade P p (to_show file) e = absurd (other_text (codes "show") (codes "upgrade") refl e)
only_upgrade P p (to_scan pattern file) e = absurd (other_text (codes "scan") (codes "upgrade") refl e)
only_upgrade P p (to_create header) e = absurd (other_text (codes "create") (codes "upgrade") refl e)
only_upgrade P p (to_ingest workers segment watch files) e = absurd (other_text (codes "ingest") (codes "upgrade") refl e)
only_upgrade P p to_list e = absurd (other_text (codes "files") (codes "upgrade") refl e)
only_upgrade P p to_check e = absurd (other_text (codes "check") (codes "upgrade") refl e)
only_upgrade P p (to_decode number) e = absurd (other_text (codes "decode") (codes "upgrade") refl e)
only_upgrade P p (to_search from to stats workers pattern) e = absurd (other_text (codes "search") (codes "upgrade") refl e)
only_upgrade P p (to_count by from to stats workers pattern) e = absurd (other_text (codes "count") (codes "upgrade") refl e)
only_upgrade P p to_merge e = absurd (other_text (codes "merge") (codes "upgrade") refl e)
only_upgrade P p to_upgrade e = p
only_upgrade P p (to_bench number lines workers) e = absurd (other_text (codes "bench") (codes "upgrade") refl e)

pub reads_upgrade : (rows : List Row) (read : Option Command) → IfSome read (λ command. IsFor (codes "upgrade") rows (asked_by command))
    → (Gives rows to_upgrade → IsSomeAnd read (λ command. asked_by command ≡ to_upgrade))
    → IsReading (codes "upgrade") rows read
reads_upgrade rows read some all =
    record { some = some; all = λ asked is. only_upgrade (λ a. Gives rows a → IsSomeAnd read (λ command. asked_by command ≡ a)) all asked is.0 is.1 }

-- what is asked under the name `bench`
pub only_bench : (P : Asked → Type 0) → ((number lines workers : ℕ) → P (to_bench number lines workers)) → (asked : Asked) → name_of asked ≡ codes "bench" → P asked
only_bench P p (to_show file) e = absurd (other_text (codes "show") (codes "bench") refl e)
only_bench P p (to_scan pattern file) e = absurd (other_text (codes "scan") (codes "bench") refl e)
only_bench P p (to_create header) e = absurd (other_text (codes "create") (codes "bench") refl e)
only_bench P p (to_ingest workers segment watch files) e = absurd (other_text (codes "ingest") (codes "bench") refl e)
only_bench P p to_list e = absurd (other_text (codes "files") (codes "bench") refl e)
only_bench P p to_check e = absurd (other_text (codes "check") (codes "bench") refl e)
only_bench P p (to_decode number) e = absurd (other_text (codes "decode") (codes "bench") refl e)
only_bench P p (to_search from to stats workers pattern) e = absurd (other_text (codes "search") (codes "bench") refl e)
only_bench P p (to_count by from to stats workers pattern) e = absurd (other_text (codes "count") (codes "bench") refl e)
only_bench P p to_merge e = absurd (other_text (codes "merge") (codes "bench") refl e)
only_bench P p to_upgrade e = absurd (other_text (codes "upgrade") (codes "bench") refl e)
only_bench P p (to_bench number lines workers) e = p number lines workers

pub reads_bench : (rows : List Row) (read : Option Command) → IfSome read (λ command. IsFor (codes "bench") rows (asked_by command))
    → ((number lines workers : ℕ) → Gives rows (to_bench number lines workers) → IsSomeAnd read (λ command. asked_by command ≡ to_bench number lines workers))
    → IsReading (codes "bench") rows read
reads_bench rows read some all =
    record { some = some; all = λ asked is. only_bench (λ a. Gives rows a → IsSomeAnd read (λ command. asked_by command ≡ a)) all asked is.0 is.1 }

-- a name that is none of them
pub no_name : (name : Text) → (name ≡ codes "show" → ⊥) → (name ≡ codes "scan" → ⊥) → (name ≡ codes "create" → ⊥) → (name ≡ codes "ingest" → ⊥) → (name ≡ codes "files" → ⊥) → (name ≡ codes "check" → ⊥) → (name ≡ codes "decode" → ⊥) → (name ≡ codes "search" → ⊥) → (name ≡ codes "count" → ⊥) → (name ≡ codes "merge" → ⊥) → (name ≡ codes "upgrade" → ⊥) → (name ≡ codes "bench" → ⊥) → (asked : Asked) → name_of asked ≡ name → ⊥
no_name name n0 n1 n2 n3 n4 n5 n6 n7 n8 n9 n10 n11 (to_show file) e = n0 (sym e)
no_name name n0 n1 n2 n3 n4 n5 n6 n7 n8 n9 n10 n11 (to_scan pattern file) e = n1 (sym e)
no_name name n0 n1 n2 n3 n4 n5 n6 n7 n8 n9 n10 n11 (to_create header) e = n2 (sym e)
no_name name n0 n1 n2 n3 n4 n5 n6 n7 n8 n9 n10 n11 (to_ingest workers segment watch files) e = n3 (sym e)
no_name name n0 n1 n2 n3 n4 n5 n6 n7 n8 n9 n10 n11 to_list e = n4 (sym e)
no_name name n0 n1 n2 n3 n4 n5 n6 n7 n8 n9 n10 n11 to_check e = n5 (sym e)
no_name name n0 n1 n2 n3 n4 n5 n6 n7 n8 n9 n10 n11 (to_decode number) e = n6 (sym e)
no_name name n0 n1 n2 n3 n4 n5 n6 n7 n8 n9 n10 n11 (to_search from to stats workers pattern) e = n7 (sym e)
no_name name n0 n1 n2 n3 n4 n5 n6 n7 n8 n9 n10 n11 (to_count by from to stats workers pattern) e = n8 (sym e)
no_name name n0 n1 n2 n3 n4 n5 n6 n7 n8 n9 n10 n11 to_merge e = n9 (sym e)
no_name name n0 n1 n2 n3 n4 n5 n6 n7 n8 n9 n10 n11 to_upgrade e = n10 (sym e)
no_name name n0 n1 n2 n3 n4 n5 n6 n7 n8 n9 n10 n11 (to_bench number lines workers) e = n11 (sym e)
