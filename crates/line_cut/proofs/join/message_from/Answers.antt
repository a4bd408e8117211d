use Rattle.line_cut.proofs.JoiningLemmas.{growing_first, in_front_alone, judged, judged_none}
use Rattle.line_cut.proofs.join.message_from.Goals as goal

pub join_lines-requires-clause-first : goal.join_lines-requires-clause-first
join_lines-requires-clause-first g c =
    let stamped = g.T.Heads.starts c.args.heads.now in let held = c.args.window.now.held in
    let stamp = judged stamped held c.held.result.now c.args.len c.begins.result c.held.ensures c.begins.ensures c.if-begins.true in
    growing_first stamped c.args.max_line held c.args.len c.requires.line stamp (rw c.if-ended.true at c.requires.ends) c.requires.fits

pub returns-else-begins-clause-joined : goal.returns-else-begins-clause-joined
returns-else-begins-clause-joined g c =
    let stamped = g.T.Heads.starts c.args.heads.now in let held = c.args.window.now.held in
    let other = judged_none stamped held c.held.result.now c.args.len c.begins.result c.held.ensures c.begins.ensures c.if-begins.false in
    in_front_alone stamped c.args.max_line held (g.S.Source.left c.args.source.now) c.args.len c.args.ended c.requires.line c.requires.fits c.requires.ends (λ _. other)

pub returns-else-ended-clause-joined : goal.returns-else-ended-clause-joined
returns-else-ended-clause-joined g c =
    in_front_alone (g.T.Heads.starts c.args.heads.now) c.args.max_line c.args.window.now.held (g.S.Source.left c.args.source.now) c.args.len c.args.ended c.requires.line c.requires.fits c.requires.ends (λ e. absurd (cc (e, c.if-ended.false)))
