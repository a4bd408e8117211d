use Rattle.std.proofs.Common.{◌∙◌, ap, length, arith}
use Rattle.std.proofs.lemmas.List.{length_push}
use Rattle.dict_core.specs.Lookups.{IsNumberOf}
use Rattle.dict_core.proofs.LookupLemmas.{fits_push}
use Rattle.dict_core.proofs.book.Book.numbers_of.Goals as goal

pub loop-next-preserved : goal.loop-next-preserved
loop-next-preserved g c =
    let texts = g.T.TextSlice.texts c.args.texts.now in let now = c.loop-next in let number = c.number_or_none.result in record {
      long = ap length c.push_reserved.ensures.items ∙ omega (arith, length_push now.numbers.items number, now.invariant.long);
      room = omega (arith, c.push_reserved.ensures.capacity, now.invariant.room);
      at = rw c.push_reserved.ensures.items (fits_push (IsNumberOf c.args.self.now.texts) now.numbers.items texts number now.next c.at.result.now c.at.ensures now.invariant.long c.number_or_none.ensures now.invariant.at);
    }
