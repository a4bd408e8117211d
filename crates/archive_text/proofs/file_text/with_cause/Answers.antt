use Rattle.std.proofs.Common.{◌≡◌, ap, arith, subst, sym, ◌∙◌}
use Rattle.std.specs.Prelude.{IfSome}
use Rattle.log_seams.specs.Disk.{Rests}
use Rattle.archive_open.specs.Shown.{StandsForNone}
use Rattle.log_seams.proofs.ReadsLemmas.{rests_same}
use Rattle.archive_text.specs.Caused.{CountsBy}
use Rattle.archive_text.specs.State.{StoredState}
use Rattle.archive_text.specs.Told.{file_parts}
use Rattle.archive_text.proofs.CauseLemmas.{counts_first}
use Rattle.archive_text.proofs.DecideText.{told_is}
use Rattle.archive_text.proofs.StartLemmas.{IsStart, start_text}
use Rattle.archive_text.proofs.file_text.with_cause.Goals as goal

pub invariant_of-result : goal.invariant_of-result
invariant_of-result g c =
    let state = g.D.Disk.state in
    let told = c.text.inside.told in
    let walk = c.new-walk.result in
    let f = file_parts (g.N.Names.types told.names.now) (g.N.Names.words told.names.now) told.places.now told.open_end in
    let view = c.text.view_is in
    let now : c.of-opened.result.value ≡ c.args.disk.now = c.of-opened.ensures in
    let asked = (state told.disk.value).seen in
    let same : (state c.of-opened.result.value).seen ≡ asked =
    ap (λ d. (state d).seen) now ∙ (c.requires.seen ∙ ap (λ (v : StoredState _). (state v.disk).seen) (sym view)) in
    record {
      layouts = c.requires.layouts ∙ ap (λ (v : StoredState _). v.types) (sym view);
      same = same;
      rests = subst (λ d. Rests (state d) (state c.args.disk.now)) (sym now) (rests_same (state c.args.disk.now));
      counts = subst (λ d. CountsBy (state d).faults (state c.args.disk.now).faults c.args.cause) (sym now) (counts_first (state c.args.disk.now).faults c.args.cause c.requires.fault);
      untold = λ none. subst (λ s. IfSome s StandsForNone) (sym same) (c.text.invariant none);
      damaged = λ e. absurd (c.requires.damaged e);
      going = λ none.
          let unread = c.requires.none none in
          let start : IsStart f walk = record {
            rows = c.new-walk.ensures.rows;
            pages = c.new-walk.ensures.pages;
            places = c.new-walk.ensures.places;
            nothing = c.new-walk.ensures.nothing;
            sent = c.new-walk.ensures.sent;
            given = c.new-walk.ensures.given ∙ (ap (λ (v : StoredState _). v.given) view ∙ unread.0);
            begun = c.new-walk.ensures.begun;
            ended = c.new-walk.ensures.ended;
          } in
          record {
            within = omega (arith, c.new-walk.ensures.sent);
            quiet = ap (λ (v : StoredState _). v.faults) view ∙ unread.1;
            text = λ text was. let t = start_text f walk asked told.has.0 start (told_is f asked told.has) text was in (t.0, same ∙ t.1, t.2);
          };
    }
