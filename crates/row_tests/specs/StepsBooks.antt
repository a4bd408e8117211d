-- Two books as the dictionaries of an archive, in tests: the namer added all their texts itself.
use Rattle.dict_core.specs.Books.{BookState}
use Rattle.row_codec.specs.Naming.{Known}

abbrev pub known_of : BookState → Known
known_of book = record { texts = book.texts; added = book.texts; limit = book.limit }
