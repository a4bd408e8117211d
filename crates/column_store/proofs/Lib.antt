pub mod RowsLemmas
