mod NameLemmas
mod NumberLemmas
mod FormLemmas
mod ErrorLemmas
mod RowLemmas
mod GivenLemmas
mod SpellingLemmas
