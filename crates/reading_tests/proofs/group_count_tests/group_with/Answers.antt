use Rattle.reading_tests.proofs.OpenLemmas.{places_after}
use Rattle.reading_tests.proofs.group_count_tests.group_with.Goals as goal

pub group-requires-clause-searched : goal.group-requires-clause-searched
group-requires-clause-searched g c κs within = c.wide_is_wider.ensures.searched _ _ c.in-Ok.ensures.items

pub group-requires-clause-opens : goal.group-requires-clause-opens
group-requires-clause-opens g c κs within = places_after _ _ _ c.open_places.ensures.keeps.seen c.in-Ok-open_places.ensures.opened
