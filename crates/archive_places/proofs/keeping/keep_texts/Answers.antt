use Rattle.std.proofs.Common.{ap, length, rules, arith, refl, subst, sym}
use Rattle.std.proofs.lemmas.Result.{err_from_is_err_and}
use Rattle.archive_open.proofs.ReadLemmas.{load_damaged}
use Rattle.archive_open.specs.Walk.{KeepsTold}
use Rattle.archive_places.specs.StepsPlaced.{Placing, PlacesOf, placing_of}
use Rattle.archive_places.proofs.PlacedLemmas.{IsTextsAt, eight_reads, no_texts_told, texts_placed_told, texts_short}
use Rattle.archive_places.proofs.keeping.keep_texts.Goals as goal

pub returns-then-place-lt-TEXTS_FRONT-clause-refused : goal.returns-then-place-lt-TEXTS_FRONT-clause-refused
returns-then-place-lt-TEXTS_FRONT-clause-refused g c = λ no. texts_short c.args.kind c.args.place _ (placing_of c.args.opening.now) c.requires.whole c.requires.kind (search rules)

pub returns-in_err-bytes-clause-ranges : goal.returns-in_err-bytes-clause-ranges
returns-in_err-bytes-clause-ranges g c = eight_reads c.args.kind c.args.place _ (g.D.Disk.state c.args.journal.now.disk.now) (g.D.Disk.state c.load.new.self.disk.now) c.requires.whole c.requires.kind (search rules) c.load.ensures.reads.ranges

pub returns-in_err-bytes-clause-damaged : goal.returns-in_err-bytes-clause-damaged
returns-in_err-bytes-clause-damaged g c = λ at is.
    let p = err_from_is_err_and c.from_residual.result c.from_residual.ensures.1 in
    (c.in_err-bytes.ensures.damaged at (search (rules, is, p.1, p.2, load_damaged))).untold

pub unreachable-requires : goal.unreachable-requires
unreachable-requires g c = omega (arith, c.in_default.ensures.none refl, c.in_ok-bytes.ensures.loaded.size, ap length c.as_slice.ensures)

pub returns-in_err-add_texts-clause-ranges : goal.returns-in_err-add_texts-clause-ranges
returns-in_err-add_texts-clause-ranges g c = eight_reads c.args.kind c.args.place _ (g.D.Disk.state c.args.journal.now.disk.now) (g.D.Disk.state c.load.new.self.disk.now) c.requires.whole c.requires.kind (search rules) c.load.ensures.reads.ranges

pub returns-clause-ranges : goal.returns-clause-ranges
returns-clause-ranges g c = eight_reads c.args.kind c.args.place _ (g.D.Disk.state c.args.journal.now.disk.now) (g.D.Disk.state c.load.new.self.disk.now) c.requires.whole c.requires.kind (search rules) c.load.ensures.reads.ranges

pub returns-clause-kept : goal.returns-clause-kept
returns-clause-kept g c = λ yes.
    let front = c.in-Some.front in
    let seen = (g.D.Disk.state c.args.journal.now.disk.now).seen in
    let old : Placing = placing_of c.args.opening.now in
    let at : IsTextsAt c.args.kind c.args.place seen front.first front.count = record {
      whole = c.requires.whole;
      kind_is = c.requires.kind;
      long = search rules;
      text = c.as_slice.result.now;
      rest = front.rest.now;
      these = search rules;
      first_fits = c.in-Some.ensures.first;
      count_fits = c.in-Some.ensures.count;
      parts = c.in-Some.ensures.some;
    } in
    subst (λ (new : Placing). KeepsTold c.args.place seen (PlacesOf old) (PlacesOf new)) (sym (c.in_ok-add_texts.ensures.added yes)) (texts_placed_told c.args.kind c.args.place seen front.first front.count old at)

pub returns-clause-refused : goal.returns-clause-refused
returns-clause-refused g c = λ no.
    let front = c.in-Some.front in
    let seen = (g.D.Disk.state c.args.journal.now.disk.now).seen in
    let at : IsTextsAt c.args.kind c.args.place seen front.first front.count = record {
      whole = c.requires.whole;
      kind_is = c.requires.kind;
      long = search rules;
      text = c.as_slice.result.now;
      rest = front.rest.now;
      these = search rules;
      first_fits = c.in-Some.ensures.first;
      count_fits = c.in-Some.ensures.count;
      parts = c.in-Some.ensures.some;
    } in
    no_texts_told c.args.kind c.args.place seen front.first front.count (placing_of c.args.opening.now) at (c.in_ok-add_texts.ensures.refused no)
