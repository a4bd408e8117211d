use Rattle.std.proofs.Common.{◌+◌, ap, subst}
use Rattle.std.specs.Prelude.{Some, None}
use Rattle.std.proofs.lemmas.List.{take_rest}
use Rattle.memchr.specs.Find.{FindsNeedle}
use Rattle.wild_match.proofs.Occurring.{finds_later}
use Rattle.wild_match.proofs.matcher.Matcher.next_needle.Goals as goal

pub returns-in_err-at : goal.returns-in_err-at
returns-in_err-at c =
    let h = rw (take_rest c.args.bytes.now c.args.from) at c.in_err-at.ensures in
    let found = finds_later c.args.bytes.now c.self.inside.finder c.args.from None c.requires h in
    rw c.from_residual.ensures (subst (λ needle. FindsNeedle c.args.bytes.now needle c.args.from None) (ap (λ v. v.needle) c.self.view_is) found)

pub returns : goal.returns
returns c =
    let h = rw (take_rest c.args.bytes.now c.args.from) at c.in_ok-at.ensures in
    let found = finds_later c.args.bytes.now c.self.inside.finder c.args.from (Some c.in_ok-at.at) c.requires h in
    subst (λ needle. FindsNeedle c.args.bytes.now needle c.args.from (Some (c.args.from + c.in_ok-at.at))) (ap (λ v. v.needle) c.self.view_is) found
