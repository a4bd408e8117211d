use Rattle.word_places.proofs.record.RecordWords.place_of.Goals as goal

pub place_in-requires-clause-starts : goal.place_in-requires-clause-starts
place_in-requires-clause-starts c = rw (c.as_slice.ensures.value, c.as_slice-2.ensures.value) c.self.invariant.0

pub place_in-requires-clause-beside : goal.place_in-requires-clause-beside
place_in-requires-clause-beside c = rw (c.as_slice.ensures.value, c.as_slice-2.ensures.value) c.self.invariant.1
