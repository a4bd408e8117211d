use Rattle.word_places.proofs.record.RecordWords.text_of.Goals as goal

pub text_in-requires-clause-starts : goal.text_in-requires-clause-starts
text_in-requires-clause-starts c = rw (c.as_slice.ensures.value, c.as_slice-2.ensures.value) c.self.invariant.0

pub text_in-requires-clause-beside : goal.text_in-requires-clause-beside
text_in-requires-clause-beside c = rw (c.as_slice.ensures.value, c.as_slice-2.ensures.value) c.self.invariant.1
