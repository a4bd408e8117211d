-- The names of files behind a journal.
pub use Rattle.name_records.specs.Named.{AreNamed, AreNamesOf, HasNames, HasNamesCause, IsShort, names_of}
