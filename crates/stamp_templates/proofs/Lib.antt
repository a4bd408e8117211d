mod BetweenLemmas
mod FitLemmas
mod PlaceLemmas
mod TableLemmas
mod RiseLemmas
mod SearchLemmas
