use Rattle.std.proofs.Common.{rules}
use Rattle.archive_core.proofs.MessageLemmas.{from_three, not_both, not_true}
use Rattle.archive_core.proofs.message.is_group.Goals as goal

pub returns-then-not-has_stamp : goal.returns-then-not-has_stamp
returns-then-not-has_stamp c = (
  λ yes. absurd (cc (yes)),
  λ is. absurd (cc ((c.has_stamp.ensures c.args.version (from_three c.args.version)).1 is.1.stamped, c.if-not-has_stamp.true)),
)

pub returns : goal.returns
returns c =
    let stamped = c.has_stamp.ensures c.args.version (from_three c.args.version) in
    let later = c.has_later_stamp.ensures c.args.version (from_three c.args.version) in (
      λ yes. (
        search rules,
        record {
          stamped = stamped.0 (search rules);
          alone = λ is. absurd (not_both c.has_later_stamp.result (later.1 is) yes);
        },
      ),
      λ is. not_true c.has_later_stamp.result (λ yes. is.1.alone (later.0 yes)),
    )
