use Rattle.std.proofs.Common.{rules, [], ◌∷◌, refl}
use Rattle.std.specs.Prelude.{IsOk}
use Rattle.dict_lock.specs.Cached.{pass_in, cache_of}
use Rattle.disk_seal.proofs.NamerLemmas.{grown_one, met, named_all, named_some, none_added, owns_behind, unheld}
use Rattle.disk_seal.proofs.namer.LockNamerNamer.name_type.Goals as goal

pub returns-in-Ok-clause-grown : goal.returns-in-Ok-clause-grown
returns-in-Ok-clause-grown g c = grown_one c.args.text.now (pass_in c.args.self.now.types) (pass_in c.name.new.self) c.name.ensures.pass

pub returns-in-Err-clause-grown : goal.returns-in-Err-clause-grown
returns-in-Err-clause-grown g c = grown_one c.args.text.now (pass_in c.args.self.now.types) (pass_in c.name.new.self) c.name.ensures.pass

pub returns-in-Err-clause-full : goal.returns-in-Err-clause-full
returns-in-Err-clause-full g c = λ book count is.
    let told = c.refused.ensures book count (cc (is)) in
    let limit = c.name.ensures.full count (cc (told.1)) in
    let pass = pass_in c.name.new.self in (
      told.0,
      met pass (cache_of c.name.new.self) (c.args.text.now ∷ []) count c.name.new.self.remembered limit,
      none_added c.args.text.now (pass_in c.args.self.now.types) pass (cache_of c.name.new.self) count c.name.ensures.pass limit,
    )

pub returns-in-Ok-clause-naming : goal.returns-in-Ok-clause-naming
returns-in-Ok-clause-naming g c =
    let there : IsOk c.name.result = search rules in
    (named_all (cache_of c.args.self.now.types) (cache_of c.name.new.self) (c.args.text.now ∷ []) c.args.self.now.turns.types c.name.new.turns (IsOk c.name.result) there c.name.ensures.learned, refl, owns_behind (c.args.text.now ∷ []) (pass_in c.args.self.now.types) (pass_in c.name.new.self) c.name.ensures.pass, refl, c.name.ensures.pass.goes_on)

pub returns-in-Err-clause-naming : goal.returns-in-Err-clause-naming
returns-in-Err-clause-naming g c = (
  named_some (cache_of c.args.self.now.types) (cache_of c.name.new.self) (c.args.text.now ∷ []) c.args.self.now.turns.types c.name.new.turns (IsOk c.name.result) c.refused.result c.name.ensures.turns.once
      (λ book count is. let told = c.refused.ensures book count is in
      unheld (pass_in c.name.new.self) (cache_of c.name.new.self) (c.args.text.now ∷ []) count c.name.new.self.even c.name.new.self.remembered (c.name.ensures.full count (cc (told.1))))
      c.name.ensures.learned,
  refl,
  owns_behind (c.args.text.now ∷ []) (pass_in c.args.self.now.types) (pass_in c.name.new.self) c.name.ensures.pass,
  refl,
  c.name.ensures.pass.goes_on,
)
