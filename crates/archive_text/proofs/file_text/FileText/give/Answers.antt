use Rattle.std.proofs.Common.{◌≡◌, ap, drop, rules, subst, sym, ◌∙◌}
use Rattle.std.specs.Prelude.{option_map}
use Rattle.log_seams.specs.Outside.{Takes}
use Rattle.log_seams.proofs.MomentLemmas.{rests_on}
use Rattle.row_codec.proofs.LayoutLemmas.{all_cut}
use Rattle.archive_text.specs.declared.cause.TextCause.{TextCause}
use Rattle.archive_text.specs.Caused.{CountsBy}
use Rattle.archive_text.specs.State.{TextState}
use Rattle.archive_text.proofs.CauseLemmas.{counts_page, damage_is, damaged_told, no_cause}
use Rattle.archive_text.proofs.WayLemmas.{takes_text}
use Rattle.archive_text.proofs.file_text.FileText.give.Goals as goal

pub give_next-requires-clause-types : goal.give_next-requires-clause-types
give_next-requires-clause-types g c = all_cut _ _ c.self.invariant.layouts

pub invariant_of-self-in-Err : goal.invariant_of-self-in-Err
invariant_of-self-in-Err g c =
    let inside = c.self.inside in
    let running = no_cause inside.cause (sym c.is_some.ensures ∙ c.if-is_some.false) in
    let before = (g.D.Disk.state inside.opened.value).faults in
    let mid = (g.D.Disk.state inside.disk.now).faults in
    record {
      layouts = c.self.invariant.layouts;
      same = c.self.invariant.same;
      rests = rests_on _ _ _ c.self.invariant.rests c.in-Err.ensures.rests;
      counts = counts_page before mid (g.D.Disk.state c.give_next.new.disk).faults c.in-Err.refusal c.from.result c.from.ensures (subst (λ o. CountsBy before mid o) running c.self.invariant.counts)
          c.in-Err.ensures.disk.later (λ fault. c.in-Err.ensures.disk.failed (search (rules, fault))) (λ other. c.in-Err.ensures.disk.spared c.in-Err.refusal (search rules) other);
      untold = c.self.invariant.untold;
      damaged = λ e.
          let fault : c.from.result ≡ TextCause.Damaged = cc e in
          let why = damage_is c.in-Err.refusal c.from.result c.from.ensures fault in
          damaged_told inside.told.has.0 (g.D.Disk.state inside.opened.value).seen c.self.invariant.untold
          (λ text was.
          let t = (c.self.invariant.going running).text text was in
          c.in-Err.ensures.damaged (search (rules, why)) t.0 text (c.self.invariant.rests.seen ∙ t.1) t.2);
      going = λ e. absurd (cc e);
    }

pub returns-in-Ok-clause-taken : goal.returns-in-Ok-clause-taken
returns-in-Ok-clause-taken g c =
    let inside = c.self.inside in
    let running = no_cause inside.cause (sym c.is_some.ensures ∙ c.if-is_some.false) in
    let next = c.give_next.new.walk.lines.given in
    let left = ap (λ (v : TextState _). v.left) c.self.view_is in
    subst (λ l. Takes c.in-Ok.count c.give_next.new.buf l (option_map (drop next) inside.told.has.0)) left
    (takes_text c.in-Ok.count inside.walk.lines.given next c.give_next.new.buf inside.told.has.0 c.in-Ok.ensures.given
    (λ text was. let t = (c.self.invariant.going running).text text was in c.in-Ok.ensures.these t.0 text (c.self.invariant.rests.seen ∙ t.1) t.2))
