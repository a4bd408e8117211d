use Rattle.std.proofs.Common.{subst}
use Rattle.plain_list.specs.Texts.{AreDistinct}
use Rattle.archive_merge.specs.Ended.{OpensTypes, OpensWords}
use Rattle.archive_merge.proofs.EndedLemmas.{has_merged}
use Rattle.archive_merge.proofs.behind.move_behind.Goals as goal

pub returns-in-Ok-with_passes-clause-merged : goal.returns-in-Ok-with_passes-clause-merged
returns-in-Ok-with_passes-clause-merged g c =
    let of_types : OpensTypes c.len.result c.args.journal c.in-Ok.types = record { book = c.args.types; opening = c.in-Ok.ensures.maker; has = record { counted = c.len.ensures.count; are = c.requires.books.types_are } } in
    let of_words : OpensWords c.len-2.result c.args.journal c.in-Ok-new.words = record { book = c.args.words; opening = c.in-Ok-new.ensures.maker; has = record { counted = c.len-2.ensures.count; are = c.requires.books.words_are } } in
    let types_apart = subst AreDistinct c.close-types.ensures.entries c.len-in-Ok-with_passes.ensures.distinct in
    let words_apart = subst AreDistinct c.close-words.ensures.entries c.len-in-Ok-with_passes-2.ensures.distinct in
    has_merged _ _ _ _ _ c.args.journal _ _ _ _ _ _ _ of_types of_words c.len.ensures.limit c.len-2.ensures.limit c.in-Ok-with_passes.ensures.moved c.close-types.ensures.owned c.close-words.ensures.owned types_apart words_apart
