use Rattle.std.proofs.Common.{ap}
use Rattle.disk_seal.specs.Known.{known_of}
use Rattle.disk_seal.proofs.namer.LockNamerNamer.TheImpl.Goals as goal

pub name_type-tells : goal.name_type-tells
name_type-tells g c = record { others = (c.ensures.others.0, ap known_of c.ensures.others.1); grown = c.ensures.grown; named = c.ensures.named; full = c.ensures.full; naming = c.ensures.naming }

pub name_words-tells : goal.name_words-tells
name_words-tells g c = record { others = (c.ensures.others.0, ap known_of c.ensures.others.1); grown = c.ensures.grown; named = c.ensures.named; full = c.ensures.full; naming = c.ensures.naming }

pub name_spans-tells : goal.name_spans-tells
name_spans-tells g c = record { others = (c.ensures.others.0, ap known_of c.ensures.others.1); grown = c.ensures.grown; named = c.ensures.named; full = c.ensures.full; naming = c.ensures.naming }
