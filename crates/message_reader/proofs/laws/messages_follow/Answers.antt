use Rattle.message_reader.proofs.TakenLemmas.{reading_before_refusal, reading_begins, reading_ends, reading_goes_on, reading_is_front}
use Rattle.message_reader.proofs.laws.messages_follow.Goals as goal

pub returns : goal.returns
returns g c = record {
  begins = reading_begins g.S.Source.left;
  goes_on = reading_goes_on g.S.Source.left g.S.Source.name g.S.Source.faults;
  ends = reading_ends g.S.Source.left;
  front = reading_is_front g.S.Source.left;
  refused = reading_before_refusal g.S.Source.left g.S.Source.faults;
}
