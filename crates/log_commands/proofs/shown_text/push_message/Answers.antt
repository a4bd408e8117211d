use Rattle.std.proofs.Common.{ap, sym, get_or, rules, arith, length}
use Rattle.std.proofs.lemmas.Slice.Zip.{AllZip-long}
use Rattle.log_commands.proofs.ShownLemmas.{code_in, next_of, ShownTo-next, Shown-all}
use Rattle.log_commands.proofs.shown_text.push_message.Goals as goal

pub push_next-requires-clause-order : goal.push_next-requires-clause-order
push_next-requires-clause-order c = (next_of _ _ _ _ _ _ _ (record { start = 0; end = 0 }) _ c.loop-i.invariant (search rules) (ap (λ s. get_or s c.loop-i.i (record { start = 0; end = 0 })) (sym c.as_slice-span-items.ensures))).order

pub push_next-requires-clause-forward : goal.push_next-requires-clause-forward
push_next-requires-clause-forward c = (next_of _ _ _ _ _ _ _ (record { start = 0; end = 0 }) _ c.loop-i.invariant (search rules) (ap (λ s. get_or s c.loop-i.i (record { start = 0; end = 0 })) (sym c.as_slice-span-items.ensures))).forward

pub push_next-requires-clause-within : goal.push_next-requires-clause-within
push_next-requires-clause-within c = (next_of _ _ _ _ _ _ _ (record { start = 0; end = 0 }) _ c.loop-i.invariant (search rules) (ap (λ s. get_or s c.loop-i.i (record { start = 0; end = 0 })) (sym c.as_slice-span-items.ensures))).within

pub loop-i-preserved : goal.loop-i-preserved
loop-i-preserved c = ShownTo-next _ _ _ _ _ _ _ _ (record { start = 0; end = 0 }) _ c.loop-i.invariant (search rules) (ap (λ s. get_or s c.loop-i.i (record { start = 0; end = 0 })) (sym c.as_slice-span-items.ensures)) (_, code_in _ _ _ _ _ _ _ _ c.as_slice-span-items.ensures c.as_slice-codes.ensures c.requires.codes (search rules), c.in_ok-push_next.ensures)

pub returns : goal.returns
returns c = Shown-all _ _ _ _ _ _ _ _ _ c.requires.parts.parts c.loop-i.invariant (search rules) c.in_ok-extend_from_slice.ensures.items c.in_ok-push.ensures.items

pub bounds-codes-i : goal.bounds-codes-i
bounds-codes-i c = omega (arith, AllZip-long _ _ _ c.requires.codes, ap length c.as_slice-codes.ensures, ap length c.as_slice-span-items.ensures, c.loop-i-test.true)

pub push_next-requires-clause-code : goal.push_next-requires-clause-code
push_next-requires-clause-code c = code_in _ _ _ _ _ _ _ _ c.as_slice-span-items.ensures c.as_slice-codes.ensures c.requires.codes (search rules)
