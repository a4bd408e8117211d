use Rattle.std.proofs.Common.{rules, refl}
use Rattle.std.specs.Prelude.{IsOk}
use Rattle.dict_lock.specs.Cached.{pass_in, cache_of}
use Rattle.disk_seal.proofs.NamerLemmas.{grown, met, named_all, named_some, owns_behind, unheld}
use Rattle.std.specs.List.{Contains}
use Rattle.disk_seal.proofs.namer.LockNamerNamer.name_words.Goals as goal

pub returns-in-Ok-clause-grown : goal.returns-in-Ok-clause-grown
returns-in-Ok-clause-grown g c = grown (Contains c.args.texts.now) c.args.texts.now (pass_in c.args.self.now.words) (pass_in c.name_all.new.self) (λ t among. among) c.name_all.ensures.pass

pub returns-in-Err-clause-grown : goal.returns-in-Err-clause-grown
returns-in-Err-clause-grown g c = grown (Contains c.args.texts.now) c.args.texts.now (pass_in c.args.self.now.words) (pass_in c.name_all.new.self) (λ t among. among) c.name_all.ensures.pass

pub returns-in-Err-clause-full : goal.returns-in-Err-clause-full
returns-in-Err-clause-full g c = λ book count is.
    let told = c.refused.ensures book count (cc (is)) in
    (told.0, met (pass_in c.name_all.new.self) (cache_of c.name_all.new.self) c.args.texts.now count c.name_all.new.self.remembered (c.name_all.ensures.full count (cc (told.1))))

pub returns-in-Ok-clause-naming : goal.returns-in-Ok-clause-naming
returns-in-Ok-clause-naming g c =
    let there : IsOk c.name_all.result = search rules in
    (named_all (cache_of c.args.self.now.words) (cache_of c.name_all.new.self) c.args.texts.now c.args.self.now.turns.words c.name_all.new.turns (IsOk c.name_all.result) there c.name_all.ensures.learned, refl, owns_behind c.args.texts.now (pass_in c.args.self.now.words) (pass_in c.name_all.new.self) c.name_all.ensures.pass, refl, c.name_all.ensures.pass.goes_on)

pub returns-in-Err-clause-naming : goal.returns-in-Err-clause-naming
returns-in-Err-clause-naming g c = (
  named_some (cache_of c.args.self.now.words) (cache_of c.name_all.new.self) c.args.texts.now c.args.self.now.turns.words c.name_all.new.turns (IsOk c.name_all.result) c.refused.result c.name_all.ensures.turns.once
      (λ book count is. let told = c.refused.ensures book count is in
      unheld (pass_in c.name_all.new.self) (cache_of c.name_all.new.self) c.args.texts.now count c.name_all.new.self.even c.name_all.new.self.remembered (c.name_all.ensures.full count (cc (told.1))))
      c.name_all.ensures.learned,
  refl,
  owns_behind c.args.texts.now (pass_in c.args.self.now.words) (pass_in c.name_all.new.self) c.name_all.ensures.pass,
  refl,
  c.name_all.ensures.pass.goes_on,
)
