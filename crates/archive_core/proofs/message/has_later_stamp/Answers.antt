use Rattle.std.proofs.Common.{◌≡◌, rules, subst, sym, List, ℕ}
use Rattle.std.specs.Prelude.{◌↔◌}
use Rattle.row_codec.specs.Messages.{HasLaterStamp}
use Rattle.archive_core.proofs.SplitLemmas.{AnyStamped, after_first, none_stamped, past_plain, stamped_here}
use Rattle.archive_core.proofs.message.has_later_stamp.Goals as goal

pub loop-line-init : goal.loop-line-init
loop-line-init c =
    let rest : c.into_iter-line-iterator.result ≡ c.next-first.new.self = search rules in
    record {
      same = λ version tells. subst (λ (ls : List (List ℕ)). HasLaterStamp version c.args.message.now ↔ AnyStamped version ls) (sym rest)
          (after_first version c.args.message.now c.split_str-lines.result c.next-first.new.self c.next-first.result c.split_str-lines.ensures.value c.next-first.ensures.steps);
    }

pub returns-then-has_stamp : goal.returns-then-has_stamp
returns-then-has_stamp c = λ version tells.
    let here = stamped_here version c.loop-line.line-iterator c.next.new.self c.in-Some.line.now c.in-Some.ensures.steps ((c.has_stamp.ensures version tells).0 c.if-has_stamp.true) in
    (λ is. (c.loop-line.invariant.same version tells).1 here, λ later. search rules)

pub loop-line-preserved : goal.loop-line-preserved
loop-line-preserved c = record {
  same = λ version tells.
      let step = past_plain version c.loop-line.line-iterator c.next.new.self c.in-Some.line.now c.in-Some.ensures.steps (λ stamped. absurd (cc ((c.has_stamp.ensures version tells).1 stamped, c.if-has_stamp.false))) in
      let before = c.loop-line.invariant.same version tells in
      (λ later. step.0 (before.0 later), λ any. before.1 (step.1 any));
}

pub returns : goal.returns
returns c = λ version tells. (
  λ is. absurd (cc (is)),
  λ later. absurd (none_stamped version c.loop-line.line-iterator (search rules) ((c.loop-line.invariant.same version tells).0 later)),
)
