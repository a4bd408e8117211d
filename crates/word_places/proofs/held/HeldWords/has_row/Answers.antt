use Rattle.std.proofs.Common.{[], rules, subst}
use Rattle.std.specs.Prelude.{false, slice_index_or}
use Rattle.std.proofs.lemmas.List.Elements.{All-contains}
use Rattle.row_codec.specs.Numbers.{kinds_from}
use Rattle.word_places.specs.Held.{AreHeld, HeldNames}
use Rattle.word_places.specs.StepsHeld.{HasHeld}
use Rattle.word_places.proofs.HeldLemmas.{held_numbers}
use Rattle.word_places.proofs.held.HeldWords.has_row.Goals as goal

pub returns-then-are_held : goal.returns-then-are_held
returns-then-are_held c = record {
  held = λ _.
      let words = c.args.row.words.now in
      let held = subst (λ (n : HeldNames). AreHeld n.records words) c.self.view_is (λ number at. All-contains (HasHeld c.self.inside.records.items) words number (rw c.as_slice-records.ensures.value at (c.are_held.ensures (search rules))) at) in
      held_numbers c.args.self.now.records (kinds_from false (slice_index_or c.args.self.now.types c.args.row.log_type [])) words held;
}
