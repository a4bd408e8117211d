use Rattle.std.proofs.Common.{◌<◌, ap, rules, tests}
use Rattle.line_cut.proofs.MessageLemmas.{gave_message, was_joining}
use Rattle.line_cut.proofs.joiner.Joiner.advance.Goals as goal

pub returns-in-Message-clause-message : goal.returns-in-Message-clause-message
returns-in-Message-clause-message g c =
    let old = c.args.self.now in let mid = c.look_ahead.new.self in let new = c.come_to.new.self in
    let opened = was_joining old.cutter.progress c.look_ahead.result (λ e. (c.look_ahead.ensures.after_end e).0) (λ e h. (c.look_ahead.ensures.after_refusal e h).0) (λ n. cc (c.in-Message.is, n)) (λ e n. cc (c.in-Message.is, n)) in
    let found = c.in-Message.ensures.finds opened in
    let room : old.cutter.given < old.cutter.max_lines = search (rules, tests) in
    gave_message g.S.Source.left g.T.Heads.starts new.cutter.line c.in-Message.joined old mid new room found.1
    (record {
      was_open = opened;
      left_same = c.look_ahead.ensures.left;
      given_same = c.look_ahead.ensures.given;
      lines_same = c.look_ahead.ensures.lines;
      is = ap (λ s. s.cutter.line) c.come_to.ensures;
      at = c.come_to.ensures;
    })
