use Rattle.std.proofs.Common.{◌≡◌, List, ℕ, Option, length, get_or, rules, refl, sym, subst}
use Rattle.std.specs.Prelude.{IfSome}
use Rattle.log_seams.proofs.MomentLemmas.{rests_on}
use Rattle.disk_journal.specs.Place.{OpenAt}
use Rattle.disk_journal.proofs.WalkLemmas.{record_read}
use Rattle.disk_journal.proofs.walk.look.Goals as goal

pub returns-clause-opened : goal.returns-clause-opened
returns-clause-opened g c =
    let front = c.read.new.buf in
    let told_len = subst (λ (t : Option (List ℕ)). IfSome t (λ bytes. c.in_ok-len.len ≡ length bytes)) (sym c.len.ensures.rests.seen) c.in_ok-len.ensures.told in
    let whole = c.is_whole.ensures.yes (search rules) in
    let size : length front ≡ 10 = search rules in
    let opened : get_or front 0 0 ≡ 1 = search rules in
    let there = record_read (g.D.Disk.state c.len.new.self).seen c.args.at c.in_ok-len.len c.in_ok-count.count _ front told_len c.if-len-at.false c.in_ok-count.ensures.gave refl size opened whole.0 c.length_in-length.result
    c.length_in-length.ensures.spells c.length_in-length.ensures.fits whole.1 in
    subst (λ (t : Option (List ℕ)). OpenAt c.args.at (get_or front 1 0) c.length_in-length.result t) c.len.ensures.rests.seen there

pub returns-clause-rests : goal.returns-clause-rests
returns-clause-rests g c = rests_on _ _ _ c.len.ensures.rests c.read.ensures.rests

pub returns-then-not-is_whole-clause-rests : goal.returns-then-not-is_whole-clause-rests
returns-then-not-is_whole-clause-rests g c = rests_on _ _ _ c.len.ensures.rests c.read.ensures.rests
