use Rattle.std.proofs.Common.{◌≡◌, IsErrOf, rules, subst}
use Rattle.group_count.specs.Tables.{AreCounts}
use Rattle.group_count.specs.declared.refusal.TableRefusal.TheVariants.{Damaged}
use Rattle.group_count.proofs.TypeLemmas.{are_counts, are_none_beyond, type_groups, unmarked_numbered}
use Rattle.group_count.proofs.types.TypeTable.groups.Goals as goal

pub returns-clause-groups : goal.returns-clause-groups
returns-clause-groups c = λ numbers are numbered.
    let same : c.args.self.now.counts ≡ c.as_slice.result.now = search rules in
    type_groups c.args.types.now.texts numbers c.tally_texts.new.tally c.in_ok-groups_of.field-0
    (c.in_ok-tally_texts.ensures.tally numbers (subst (λ counts. AreCounts counts numbers) same (are_counts c.args.types.now.texts c.args.self.now numbers are numbered)) numbered) c.groups_of.ensures.ordered c.in_ok-groups_of.ensures.groups

pub returns-then-self-clause-damaged : goal.returns-then-self-clause-damaged
returns-then-self-clause-damaged c = λ is numbers are numbered. are_none_beyond c.args.types.now.texts c.args.self.now numbers are numbered (search rules)

pub returns-in_err-tally_texts-clause-damaged : goal.returns-in_err-tally_texts-clause-damaged
returns-in_err-tally_texts-clause-damaged c = λ is numbers are numbered.
    let same : c.args.self.now.counts ≡ c.as_slice.result.now = search rules in
    let damaged : IsErrOf c.tally_texts.result Damaged = search rules in
    c.tally_texts.ensures.damaged damaged numbers (subst (λ counts. AreCounts counts numbers) same (are_counts c.args.types.now.texts c.args.self.now numbers are numbered)) numbered

pub returns-clause-numbered : goal.returns-clause-numbered
returns-clause-numbered c = λ numbers are.
    unmarked_numbered c.args.types.now.texts c.args.self.now numbers (search rules) are
