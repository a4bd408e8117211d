use Rattle.std.proofs.lemmas.Str.{is_utf8-from_IsUtf8}
use Rattle.log_sources.proofs.logs.open_one.Goals as goal

pub returns-in-Ok-clause-came : goal.returns-in-Ok-clause-came
returns-in-Ok-clause-came g c = record {
  text = is_utf8-from_IsUtf8 c.args.name.now c.utf8.name;
  left_is = c.in-Ok.ensures.left;
  named = c.in-Ok.ensures.named;
  fresh = c.in-Ok.ensures.fresh;
}
