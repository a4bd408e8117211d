use Rattle.std.proofs.Common.{ap, sym, ◌∙◌}
use Rattle.std.specs.Prelude.{not}
use Rattle.archive_jobs.proofs.file_jobs.job_of.Goals as goal

pub returns-then-whole : goal.returns-then-whole
returns-then-whole g c = record {
  file = c.new.ensures.file;
  opened = c.new.ensures.opened;
  part = c.new.ensures.part ∙ sym (ap not c.if-whole.true);
  outcome = c.new.ensures.outcome;
  text = c.new-file.result;
  source = c.new.ensures.source;
  text_is = record { tells = c.new-file.ensures.tells; given = c.new-file.ensures.given; faults = c.new-file.ensures.faults };
}

pub returns-else-whole : goal.returns-else-whole
returns-else-whole g c = record {
  file = c.part_of.ensures.file;
  opened = c.part_of.ensures.opened;
  part = c.part_of.ensures.part ∙ sym (ap not c.if-whole.false);
  outcome = c.part_of.ensures.outcome;
  text = c.new-file.result;
  source = c.part_of.ensures.source;
  text_is = record { tells = c.new-file.ensures.tells; given = c.new-file.ensures.given; faults = c.new-file.ensures.faults };
}
