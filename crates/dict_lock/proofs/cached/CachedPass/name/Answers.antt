use Rattle.std.proofs.Common.{refl, arith, ap, ◌∙◌, ℕ, List, length, slice_get, slice_index}
use Rattle.dict_core.specs.Fair.{IsFair}
use Rattle.turn_lock.specs.Words.{number_of, seen}
use Rattle.dict_lock.proofs.NamingLemmas.{names_nothing, learns_nothing, holds_one, one_number, all_one}
use Rattle.dict_lock.proofs.cached.CachedPass.name.Goals as goal

pub returns-in-Some-clause-pass : goal.returns-in-Some-clause-pass
returns-in-Some-clause-pass g c = names_nothing c.args.self.now.pass _ c.args.self.now.ready

pub returns-in-Some-clause-held : goal.returns-in-Some-clause-held
returns-in-Some-clause-held g c = holds_one c.args.self.now.cache c.args.text.now c.in-Some.number c.in-Some.ensures.some

pub returns-in-Some-clause-turns : goal.returns-in-Some-clause-turns
returns-in-Some-clause-turns g c = record {
  none = λ _. refl;
  once = omega arith;
  one = λ _ unknown. absurd (unknown (holds_one c.args.self.now.cache c.args.text.now c.in-Some.number c.in-Some.ensures.some));
}

pub name_all-requires : goal.name_all-requires
name_all-requires g c = all_one (IsFair (number_of c.args.self.now.pass)) c.args.text.now c.requires

pub bounds-as_slice-0 : goal.bounds-as_slice-0
bounds-as_slice-0 g c = let one = one_number (seen c.name_all.new.self.pass) c.in-Ok.numbers c.args.text.now c.in-Ok.ensures.named in omega (arith, one.0, ap (λ (l : List ℕ). length l) c.as_slice.ensures)

pub returns-in-Ok-clause-named : goal.returns-in-Ok-clause-named
returns-in-Ok-clause-named g c = let one = one_number (seen c.name_all.new.self.pass) c.in-Ok.numbers c.args.text.now c.in-Ok.ensures.named in
    ap (λ (l : List ℕ). slice_get (seen c.name_all.new.self.pass) (slice_index l 0)) c.as_slice.ensures ∙ one.1

pub returns-in-Some-clause-learned : goal.returns-in-Some-clause-learned
returns-in-Some-clause-learned g c = learns_nothing _ _ _ _
