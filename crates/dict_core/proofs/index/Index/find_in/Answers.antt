use Rattle.std.proofs.Common.{◌≡◌, ◌∙◌, ℕ, zero, suc, unwrap_or, ap, arith}
use Rattle.dict_core.specs.Chains.{hash_by, place_at, InChain}
use Rattle.dict_core.proofs.ChainLemmas.{chain_starts}
use Rattle.dict_core.proofs.BookLemmas.{chained_long, chained_back, chained_newest, chained_new}
use Rattle.dict_core.proofs.index.Index.find_in.Goals as goal

pub find-requires-clause-back : goal.find-requires-clause-back
find-requires-clause-back g c =
    let hash = hash_by g.H.Hasher.write g.H.Hasher.finish c.args.self.now.hasher in
    rw c.as_slice.ensures.value (chained_back hash c.args.known.now c.requires.chained)

pub find-requires-clause-within : goal.find-requires-clause-within
find-requires-clause-within g c =
    let hash = hash_by g.H.Hasher.write g.H.Hasher.finish c.args.self.now.hasher in
    let is : c.in-Some.newest.now ≡ place_at c.args.self.now.newest c.args.hash = ap (λ found. unwrap_or found 0) c.in-Some.ensures.value in
    rw (c.as_slice.ensures.value, is) (chained_newest hash c.args.known.now c.requires.chained c.args.hash)

pub find-requires-clause-linked : goal.find-requires-clause-linked
find-requires-clause-linked g c =
    let hash = hash_by g.H.Hasher.write g.H.Hasher.finish c.args.self.now.hasher in
    let long = chained_long hash c.args.known.now c.requires.chained in
    rw c.as_slice.ensures.value (omega (arith, long))

pub returns-in-None-clause-none : goal.returns-in-None-clause-none
returns-in-None-clause-none g c =
    let hash = hash_by g.H.Hasher.write g.H.Hasher.finish c.args.self.now.hasher in
    let newest = place_at c.args.self.now.newest in
    let is : c.in-Some.newest.now ≡ newest c.args.hash = ap (λ found. unwrap_or found 0) c.in-Some.ensures.value in
    let absent = rw c.as_slice.ensures.value at c.in-None.ensures.none in
    chained_new hash c.args.known.now c.requires.chained c.args.text.now c.in-Some.newest.now (is ∙ ap newest c.requires.hashed) absent

pub returns-in_default-clause-none : goal.returns-in_default-clause-none
returns-in_default-clause-none g c =
    let hash = hash_by g.H.Hasher.write g.H.Hasher.finish c.args.self.now.hasher in
    let newest = place_at c.args.self.now.newest in
    let is : zero ≡ newest c.args.hash = ap (λ found. unwrap_or found 0) c.in_default.ensures.value in
    let absent : (k : ℕ) → InChain c.args.self.now.befores.items zero (suc k) → _ = λ k chain. absurd (let starts = chain_starts c.args.self.now.befores.items zero (suc k) chain (omega arith) in omega (arith, starts)) in
    chained_new hash c.args.known.now c.requires.chained c.args.text.now zero (is ∙ ap newest c.requires.hashed) absent
