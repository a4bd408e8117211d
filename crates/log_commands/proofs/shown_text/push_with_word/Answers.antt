use Rattle.std.proofs.lemmas.List.{append_assoc}
use Rattle.log_commands.proofs.shown_text.push_with_word.Goals as goal

pub returns : goal.returns
returns c = rw (c.in_ok-extend_from_slice-3.ensures.items, c.in_ok-extend_from_slice-2.ensures.items, c.in_ok-extend_from_slice.ensures.items, c.word_end.ensures) (simp append_assoc)
