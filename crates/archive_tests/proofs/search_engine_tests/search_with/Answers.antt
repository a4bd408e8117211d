use Rattle.search_walk.proofs.JournalLemmas.{opens_later}
use Rattle.archive_tests.proofs.search_engine_tests.search_with.Goals as goal

pub search-answer-requires-clause-searched : goal.search-answer-requires-clause-searched
search-answer-requires-clause-searched g c κs within = c.wide_is_wider.ensures.searched _ _ c.in-Ok.ensures.items

pub search-answer-requires-clause-opens : goal.search-answer-requires-clause-opens
search-answer-requires-clause-opens g c κs within = opens_later _ _ _ c.open_places-opening.ensures.keeps.seen c.in-Ok-opening.ensures.opened
