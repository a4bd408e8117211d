use Rattle.std.proofs.Common.{◌≡◌, length, take, sym, ◌∙◌, arith}
use Rattle.std.specs.Int.{w64}
use Rattle.std.proofs.lemmas.Int.{to_z-of_z}
use Rattle.std.proofs.lemmas.List.{length-take-le}
use Rattle.row_codec.proofs.CanonicalLemmas.{opening_tells}
use Rattle.row_codec.proofs.canonical.stamp_is.Goals as goal

pub returns : goal.returns
returns g c = λ stamp body stamped is.
    let version = g.N.Names.version c.args.names.now in
    let words = g.N.Names.words c.args.names.now in
    let front = c.read_front-front.result in
    let len = c.open_with_stamp-len.result in
    let opened = take len c.open_with_stamp-len.new.out in
    let shown = take c.fill_body-end.result c.fill_body-end.new.out in
    let filled = c.fill_body-end.ensures.filled in
    let long : length opened ≡ len = length-take-le len c.open_with_stamp-len.new.out (omega (arith, c.open_with_stamp-len.array_long, c.open_with_stamp-len.ensures.within)) in
    let mine = rw (to_z-of_z w64 c.args.moment c.ranges.moment) at c.open_with_stamp-len.ensures.stamp in
    let same = rw (to_z-of_z w64 c.args.moment c.ranges.moment) at c.is_front.ensures in
    let tells = opening_tells version words c.args.text.now c.args.words.now c.args.pattern c.args.moment opened stamp body filled.0 shown front.pattern front.moment front.len mine stamped filled.1 is filled.2
    (c.read_front-front.ensures.stamp version c.micro.ensures) in (
      λ yes. let e = same.0 yes in tells.0 (e.0, e.1, e.2 ∙ sym long),
      λ other. let e = tells.1 other in same.1 (e.0, e.1, e.2 ∙ long),
    )
