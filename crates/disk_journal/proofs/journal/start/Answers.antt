use Rattle.std.proofs.Common.{List, ℕ, Option, rules, refl, sym, subst}
use Rattle.log_seams.proofs.MomentLemmas.{rests_synced}
use Rattle.record_format.specs.Header.{header_bytes}
use Rattle.record_format.proofs.HeaderLemmas.{length-header_bytes}
use Rattle.disk_journal.specs.Place.{Walked, NoHeader}
use Rattle.disk_journal.proofs.WalkLemmas.{short_header, walk_begins}
use Rattle.disk_journal.proofs.journal.start.Goals as goal

pub returns-then-count-lt-HEADER_LEN-clause-damaged : goal.returns-then-count-lt-HEADER_LEN-clause-damaged
returns-then-count-lt-HEADER_LEN-clause-damaged g c = λ at is.
    let none : NoHeader (g.D.Disk.state c.sync.new.self).seen = short_header _ _ _ _ c.in_ok-count.ensures.gave refl c.if-count-lt-HEADER_LEN.true length-header_bytes in
    record { first = cc; damaged = subst NoHeader c.sync.ensures.keeps.seen none }

pub returns-in-Some-clause-begins : goal.returns-in-Some-clause-begins
returns-in-Some-clause-begins g c =
    let begins : Walked (header_bytes c.in-Some.header) 32 0 (g.D.Disk.state c.sync.new.self).seen =
    walk_begins _ _ _ c.read.new.buf c.in-Some.header c.in_ok-count.ensures.gave refl (search rules) c.if-count-lt-HEADER_LEN.false c.in-Some.ensures.spelled in
    record {
      legal = search rules;
      walked = subst (λ (t : Option (List ℕ)). Walked (header_bytes c.in-Some.header) 32 0 t) (sym c.read.ensures.rests.seen) begins;
      synced = rests_synced _ _ c.read.ensures.rests (search rules);
    }
