use Rattle.std.proofs.Common.{◌<◌, ◌-◌, [], Ok, length, take, get_or, refl, sym, ap, subst, ◌∙◌, inl}
use Rattle.wild_match.specs.Reading.{IsSearchPattern}
use Rattle.std.proofs.lemmas.List.{take_more}
use Rattle.wild_match.proofs.Reading.{IsRead, read_none, read_escaped, read_backslash, read_plain, read_all, read_pattern_of, read_lone}
use Rattle.wild_match.proofs.Spelling.{IsSearchPattern-unique, IsSearchPattern-not_lone}
use Rattle.wild_match.proofs.read.read_pattern.Goals as goal
use Rattle.wild_match.proofs.read.read_pattern.Goals.{then-escaped+in_ok-push, else-escaped+then-byte-eq92, else-escaped+else-byte-eq92+in_ok-push-2}

pub loop-byte-init : goal.loop-byte-init
loop-byte-init c = rw c.in_ok-items.ensures.items (read_none [] refl)

pub loop-byte-preserved : goal.loop-byte-preserved
loop-byte-preserved c =
    let text = c.args.text.now in
    let i = c.loop-byte.byte-index in
    let b = get_or text i 0 in
    let items = c.loop-byte.items.items in
    let here : i < length text = c.loop-byte-test.true in
    rw (take_more text i 0 here)
    (elim c.if-escaped.branch [
      | then-escaped+in_ok-push w ↦ (
          let h = subst (λ e. IsRead (take i text) e items) w.if-escaped.true c.loop-byte.invariant in
          rw (w.items-is, w.escaped-is, w.in_ok-push.ensures.items) (read_escaped (take i text) items b h)
          )
      | else-escaped+then-byte-eq92 w ↦ (
          let h = subst (λ e. IsRead (take i text) e items) w.if-escaped.false c.loop-byte.invariant in
          rw (w.items-is, w.escaped-is) (read_backslash (take i text) items b w.if-byte-eq92.true h)
          )
      | else-escaped+else-byte-eq92+in_ok-push-2 w ↦ (
          let h = subst (λ e. IsRead (take i text) e items) w.if-escaped.false c.loop-byte.invariant in
          rw (w.items-is, w.escaped-is, w.if-escaped.false, w.in_ok-push-2.ensures.items) (read_plain (take i text) items b w.item_of.result w.item_of.ensures h)
          )
    ])

pub returns-then-escaped-2-clause-good : goal.returns-then-escaped-2-clause-good
returns-then-escaped-2-clause-good c pattern is =
    let text = c.args.text.now in
    let items = c.loop-byte.items.items in
    let all = read_all text c.loop-byte.byte-index c.loop-byte.escaped items c.loop-byte-test.false c.loop-byte.invariant in
    let lone = read_lone text items (subst (λ e. IsRead text e items) c.if-escaped-2.true all) in
    absurd (IsSearchPattern-not_lone text pattern (length text - 1) is lone)

-- the items that were read
found : (c : goal.After-new) → IsSearchPattern c.args.text.now c.new.result
found c =
    let text = c.args.text.now in
    let items = c.loop-byte.items.items in
    let all = read_all text c.loop-byte.byte-index c.loop-byte.escaped items c.loop-byte-test.false c.loop-byte.invariant in
    let read = read_pattern_of text items (subst (λ e. IsRead text e items) c.if-escaped-2.false all) in
    subst (IsSearchPattern text) (sym (c.new.ensures ∙ c.in_ok-push-3.ensures.items)) read

pub returns-clause-items : goal.returns-clause-items
returns-clause-items c = found c

pub returns-clause-good : goal.returns-clause-good
returns-clause-good c pattern is = inl (ap (λ p. Ok p) (IsSearchPattern-unique c.args.text.now c.new.result pattern (found c) is))

pub returns-clause-lone : goal.returns-clause-lone
returns-clause-lone c at lone = absurd (IsSearchPattern-not_lone c.args.text.now c.new.result at (found c) lone)
