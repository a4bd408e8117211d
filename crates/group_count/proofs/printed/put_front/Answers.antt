use Rattle.std.proofs.Common.{◌≡◌, ◌++◌, take, drop, rules, sym, ap, ◌∙◌}
use Rattle.std.proofs.Common.{take-append-drop}
use Rattle.search_meaning.specs.GroupLines.{shape_of}
use Rattle.group_count.proofs.ShapeLemmas.{run_written}
use Rattle.group_count.proofs.printed.put_front.Goals as goal

pub returns-clause-put : goal.returns-clause-put
returns-clause-put c =
    let text = c.args.text.now in
    let plain = c.plain_front-plain.result in
    let cut : text ≡ take plain text ++ drop plain text = sym (take-append-drop plain text) in
    let written : c.extend_from_slice.new.self.items ≡ c.args.out.now.items ++ take plain text = search rules in
    let rest : c.split_at.result.1.now ≡ drop plain text = search rules in
    ap (λ s. s ++ shape_of c.split_at.result.1.now) written ∙ ap (λ s. (c.args.out.now.items ++ take plain text) ++ shape_of s) rest
    ∙ run_written c.args.out.now.items text (take plain text) (drop plain text) cut c.plain_front-plain.ensures.plain
