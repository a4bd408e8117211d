use Rattle.std.proofs.Common.{rules, ℕ, List, None, Some, ap₂, refl, subst}
use Rattle.std.specs.Prelude.{IsOk}
use Rattle.std.specs.List.{Contains}
use Rattle.logtype_text.specs.Encoded.{texts_at}
use Rattle.dict_lock.specs.Cached.{pass_in, cache_of}
use Rattle.row_codec.specs.Naming.{HasGrown, MetLimit}
use Rattle.disk_seal.specs.Known.{known_of}
use Rattle.disk_seal.specs.Naming.{Named, Side}
use Rattle.disk_seal.proofs.NamerLemmas.{grown, met, named_all, named_some, owns_behind, unheld}
use Rattle.disk_seal.proofs.namer.LockNamerNamer.name_spans.Goals as goal

pub returns-in-Ok-clause-grown : goal.returns-in-Ok-clause-grown
returns-in-Ok-clause-grown g c =
    let old = pass_in c.args.self.now.words in let new = pass_in c.name_into.new.self in
    let these = texts_at c.new-texts.result.line.now c.new-texts.result.spans.now in
    subst (λ (ts : List (List ℕ)). HasGrown (Contains ts) (known_of old) (known_of new)) (ap₂ texts_at c.new-texts.ensures.line c.new-texts.ensures.spans) (grown (Contains these) these old new (λ t among. among) c.name_into.ensures.pass)

pub returns-in-Err-clause-grown : goal.returns-in-Err-clause-grown
returns-in-Err-clause-grown g c =
    let old = pass_in c.args.self.now.words in let new = pass_in c.name_into.new.self in
    let these = texts_at c.new-texts.result.line.now c.new-texts.result.spans.now in
    subst (λ (ts : List (List ℕ)). HasGrown (Contains ts) (known_of old) (known_of new)) (ap₂ texts_at c.new-texts.ensures.line c.new-texts.ensures.spans) (grown (Contains these) these old new (λ t among. among) c.name_into.ensures.pass)

pub returns-in-Err-clause-full : goal.returns-in-Err-clause-full
returns-in-Err-clause-full g c = λ book count is.
    let told = c.refused.ensures book count (cc (is)) in
    let new = pass_in c.name_into.new.self in
    let these = texts_at c.new-texts.result.line.now c.new-texts.result.spans.now in (
      told.0,
      subst (λ (ts : List (List ℕ)). MetLimit (known_of new) ts count) (ap₂ texts_at c.new-texts.ensures.line c.new-texts.ensures.spans)
          (met new (cache_of c.name_into.new.self) these count c.name_into.new.self.remembered (c.name_into.ensures.full count (cc (told.1)))),
    )

pub returns-in-Ok-clause-naming : goal.returns-in-Ok-clause-naming
returns-in-Ok-clause-naming g c =
    let there : IsOk c.name_into.result = search rules in
    let old = cache_of c.args.self.now.words in let new = cache_of c.name_into.new.self in
    let a : Side = record { held = old.texts; turns = c.args.self.now.turns.words } in let b : Side = record { held = new.texts; turns = c.name_into.new.turns } in
    let these = texts_at c.new-texts.result.line.now c.new-texts.result.spans.now in (
      subst (λ (ts : List (List ℕ)). Named ts None a b) (ap₂ texts_at c.new-texts.ensures.line c.new-texts.ensures.spans)
          (named_all old new these c.args.self.now.turns.words c.name_into.new.turns (IsOk c.name_into.result) there c.name_into.ensures.learned),
      refl,
      owns_behind these (pass_in c.args.self.now.words) (pass_in c.name_into.new.self) c.name_into.ensures.pass,
      refl,
      c.name_into.ensures.pass.goes_on,
    )

pub returns-in-Err-clause-naming : goal.returns-in-Err-clause-naming
returns-in-Err-clause-naming g c =
    let old = cache_of c.args.self.now.words in let new = cache_of c.name_into.new.self in
    let a : Side = record { held = old.texts; turns = c.args.self.now.turns.words } in let b : Side = record { held = new.texts; turns = c.name_into.new.turns } in
    let these = texts_at c.new-texts.result.line.now c.new-texts.result.spans.now in (
      subst (λ (ts : List (List ℕ)). Named ts (Some c.refused.result) a b) (ap₂ texts_at c.new-texts.ensures.line c.new-texts.ensures.spans)
          (named_some old new these c.args.self.now.turns.words c.name_into.new.turns (IsOk c.name_into.result) c.refused.result c.name_into.ensures.turns.once
          (λ book count is. let told = c.refused.ensures book count is in
          unheld (pass_in c.name_into.new.self) new these count c.name_into.new.self.even c.name_into.new.self.remembered (c.name_into.ensures.full count (cc (told.1))))
          c.name_into.ensures.learned),
      refl,
      owns_behind these (pass_in c.args.self.now.words) (pass_in c.name_into.new.self) c.name_into.ensures.pass,
      refl,
      c.name_into.ensures.pass.goes_on,
    )
