pub mod BooksLemmas
