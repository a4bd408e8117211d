use Rattle.std.proofs.Common.{◌<◌, ◌∙◌, inr, refl, List, length, sym, subst, rules}
use Rattle.std.proofs.lemmas.Result.{err_from_is_err_and}
use Rattle.std.proofs.lemmas.Option.{slice_get_within}
use Rattle.word_places.specs.declared.held.HeldRecord.{HeldRecord}
use Rattle.word_places.specs.Held.{places_of}
use Rattle.word_places.proofs.HeldLemmas.{contained, grow_same, none_at, place_listed, put_place}
use Rattle.word_places.proofs.holding.hold_in.Goals as goal

pub returns-in_default-clause-grow : goal.returns-in_default-clause-grow
returns-in_default-clause-grow g c = grow_same c.args.records.now.items

pub returns-in_default-clause-held : goal.returns-in_default-clause-held
returns-in_default-clause-held g c = rw c.as_slice.ensures.value at (c.in_default.ensures.none refl)

pub place_at-place-requires : goal.place_at-place-requires
place_at-place-requires g c =
    let r = c.in-Some.ensures.some in
    subst (λ (l : List HeldRecord). c.in-Some.at < length l) (c.as_slice.ensures.value ∙ sym c.as_slice-2.ensures.value) (slice_get_within _ c.in-Some.at r.0 r.1)

pub returns-in_err-words-clause-reads : goal.returns-in_err-words-clause-reads
returns-in_err-words-clause-reads g c =
    let s = rw c.as_slice-2.ensures.value at c.place_at-place.ensures in
    let places = places_of c.args.records.now.items in
    inr (c.place_at-place.result, contained places c.in-Some.at c.place_at-place.result (place_listed c.args.records.now.items c.in-Some.at c.place_at-place.result s), c.read_record.ensures.reads)

pub returns-in_err-words-clause-grow : goal.returns-in_err-words-clause-grow
returns-in_err-words-clause-grow g c = grow_same c.args.records.now.items

pub returns-in_err-words-clause-damaged : goal.returns-in_err-words-clause-damaged
returns-in_err-words-clause-damaged g c = λ is.
    let p = err_from_is_err_and c.from_residual.result c.from_residual.ensures.1 in
    let s = rw c.as_slice-2.ensures.value at c.place_at-place.ensures in
    none_at _ (places_of c.args.records.now.items) c.in-Some.at c.place_at-place.result (place_listed c.args.records.now.items c.in-Some.at c.place_at-place.result s)
    (c.in_err-words.ensures.damaged (search (rules, is, p.1, p.2)))

pub put-requires : goal.put-requires
put-requires g c =
    let r = rw c.as_slice.ensures.value at c.in-Some.ensures.some in
    slice_get_within c.args.records.now.items c.in-Some.at r.0 r.1

pub returns-clause-reads : goal.returns-clause-reads
returns-clause-reads g c =
    let s = rw c.as_slice-2.ensures.value at c.place_at-place.ensures in
    let places = places_of c.args.records.now.items in
    inr (c.place_at-place.result, contained places c.in-Some.at c.place_at-place.result (place_listed c.args.records.now.items c.in-Some.at c.place_at-place.result s), c.read_record.ensures.reads)

pub returns-clause-numbered : goal.returns-clause-numbered
returns-clause-numbered g c =
    let r = rw c.as_slice.ensures.value at c.in-Some.ensures.some in
    let s = rw c.as_slice-2.ensures.value at c.place_at-place.ensures in
    (put_place (g.D.Disk.state c.args.disk.now).seen c.args.records.now.items c.put.new.records.items c.in-Some.at c.args.number c.place_at-place.result c.in_ok-words.words
    c.requires r s c.in_ok-words.ensures.count c.in_ok-words.ensures.read c.put.ensures).numbered

pub returns-clause-grow : goal.returns-clause-grow
returns-clause-grow g c =
    let r = rw c.as_slice.ensures.value at c.in-Some.ensures.some in
    let s = rw c.as_slice-2.ensures.value at c.place_at-place.ensures in
    (put_place (g.D.Disk.state c.args.disk.now).seen c.args.records.now.items c.put.new.records.items c.in-Some.at c.args.number c.place_at-place.result c.in_ok-words.words
    c.requires r s c.in_ok-words.ensures.count c.in_ok-words.ensures.read c.put.ensures).grow

pub returns-clause-right : goal.returns-clause-right
returns-clause-right g c =
    let r = rw c.as_slice.ensures.value at c.in-Some.ensures.some in
    let s = rw c.as_slice-2.ensures.value at c.place_at-place.ensures in
    (put_place (g.D.Disk.state c.args.disk.now).seen c.args.records.now.items c.put.new.records.items c.in-Some.at c.args.number c.place_at-place.result c.in_ok-words.words
    c.requires r s c.in_ok-words.ensures.count c.in_ok-words.ensures.read c.put.ensures).right

pub returns-clause-held : goal.returns-clause-held
returns-clause-held g c = λ within.
    let r = rw c.as_slice.ensures.value at c.in-Some.ensures.some in
    let s = rw c.as_slice-2.ensures.value at c.place_at-place.ensures in
    (put_place (g.D.Disk.state c.args.disk.now).seen c.args.records.now.items c.put.new.records.items c.in-Some.at c.args.number c.place_at-place.result c.in_ok-words.words
    c.requires r s c.in_ok-words.ensures.count c.in_ok-words.ensures.read c.put.ensures).held
