use Rattle.std.proofs.Common.{◌<◌, refl, subst, rules, ℕ, List, Option}
use Rattle.command_answers.specs.Printing.{OneFailed}
use Rattle.read_commands.proofs.CompleteLemmas.{check_answers, decode_answers, files_answers}
use Rattle.clp_commands.proofs.CommandLemmas.{scanned_log, shown_log}
use Rattle.clp_commands.proofs.without_turns.carry_out.Goals as goal

pub returns-in-Show-clause-answers : goal.returns-in-Show-clause-answers
returns-in-Show-clause-answers g c = λ known second.
    rw (c.in-Show.is) c.show.ensures.answers

pub returns-in-Scan-clause-answers : goal.returns-in-Scan-clause-answers
returns-in-Scan-clause-answers g c = λ known second.
    rw (c.in-Scan.is) (record { lone_backslash = c.scan.ensures.lone; good = c.scan.ensures.good })

pub returns-in-Create-clause-answers : goal.returns-in-Create-clause-answers
returns-in-Create-clause-answers g c = λ known second.
    rw (c.in-Create.is) (record { answer = c.create-outcome.result; ends = rw (← c.refusal_of_create.ensures) (record { status_is = c.answer.ensures.status; said = c.answer.ensures.said }); leaves = c.create-outcome.ensures.leaves; nothing = refl; sink = refl })

pub create-outcome-requires : goal.create-outcome-requires
create-outcome-requires g c = rw (c.in-Create.is) at c.requires

pub returns-in-Create-clause-keeps : goal.returns-in-Create-clause-keeps
returns-in-Create-clause-keeps g c = λ none. absurd (none (rw (c.in-Create.is) tt))

pub returns-in-Create-clause-untouched : goal.returns-in-Create-clause-untouched
returns-in-Create-clause-untouched g c = λ none. absurd (none (rw (c.in-Create.is) tt))

pub returns-in-Files-clause-answers : goal.returns-in-Files-clause-answers
returns-in-Files-clause-answers g c = λ known second.
    let done = c.files-outcome.ensures in
    rw (c.in-Files.is) (files_answers _ _ _ _ c.files-outcome.result (rw (← c.refusal_of_read.ensures) (record { status_is = c.answer-in-Files.ensures.status; said = c.answer-in-Files.ensures.said })) done.keeps done.disk done.sink done.prints (λ at is. done.damaged at (search (rules, is))))

pub returns-in-Files-clause-untouched : goal.returns-in-Files-clause-untouched
returns-in-Files-clause-untouched g c = λ none. absurd (none (rw (c.in-Files.is) tt))

pub returns-in-Check-clause-answers : goal.returns-in-Check-clause-answers
returns-in-Check-clause-answers g c = λ known second.
    let done = c.check-outcome.ensures in
    rw (c.in-Check.is) (check_answers _ _ _ _ c.check-outcome.result (rw (← c.refusal_of_read-in-Check.ensures) (record { status_is = c.answer-in-Check.ensures.status; said = c.answer-in-Check.ensures.said })) done.keeps done.disk done.sink done.prints (λ at is. done.damaged at (search (rules, is))))

pub returns-in-Check-clause-untouched : goal.returns-in-Check-clause-untouched
returns-in-Check-clause-untouched g c = λ none. absurd (none (rw (c.in-Check.is) tt))

pub returns-in-Decode-clause-answers : goal.returns-in-Decode-clause-answers
returns-in-Decode-clause-answers g c = λ known second.
    let done = c.decode_file-outcome.ensures in
    rw (c.in-Decode.is) (decode_answers c.in-Decode.number _ _ _ _ c.decode_file-outcome.result (rw (← c.refusal_of_file.ensures) (record { status_is = c.answer-in-Decode.ensures.status; said = c.answer-in-Decode.ensures.said })) done.keeps done.disk done.sink done.prints
    (λ at is. done.damaged at (search (rules, is))) (λ told count is. done.lacks told count (search (rules, is))) done.there)

pub returns-in-Decode-clause-untouched : goal.returns-in-Decode-clause-untouched
returns-in-Decode-clause-untouched g c = λ none. absurd (none (rw (c.in-Decode.is) tt))

pub returns-in-Search-clause-answers : goal.returns-in-Search-clause-answers
returns-in-Search-clause-answers g c = λ known second.
    rw (c.in-Search.is) (c.search_messages.ensures.answers (g.H.Shelf.content c.args.shelf.now) (g.H.Shelf.unread c.args.shelf.now) (g.H.Shelf.open_faults c.args.shelf.now) (g.H.Shelf.read_faults c.args.shelf.now))

pub returns-in-Search-clause-untouched : goal.returns-in-Search-clause-untouched
returns-in-Search-clause-untouched g c = λ none. absurd (none (rw (c.in-Search.is) tt))

pub returns-in-Count-clause-answers : goal.returns-in-Count-clause-answers
returns-in-Count-clause-answers g c = λ known second.
    rw (c.in-Count.is) (c.count_messages.ensures.answers (g.H.Shelf.content c.args.shelf.now) (g.H.Shelf.unread c.args.shelf.now) (g.H.Shelf.open_faults c.args.shelf.now) (g.H.Shelf.read_faults c.args.shelf.now))

pub returns-in-Count-clause-untouched : goal.returns-in-Count-clause-untouched
returns-in-Count-clause-untouched g c = λ none. absurd (none (rw (c.in-Count.is) tt))

-- the log that was closed last
abbrev Failed : {S : Type 0} → (S → Option (List ℕ)) → (S → ℕ) → (List ℕ → Option (List ℕ)) → (List ℕ → ℕ) → (List ℕ → ℕ) → List ℕ → Type 0
Failed left faults unread before after name = before name < after name → OneFailed left faults (unread name) (before name) (after name)

pub returns-in-Show-clause-one_failed : goal.returns-in-Show-clause-one_failed
returns-in-Show-clause-one_failed g c = λ pattern file asks.
    let old = c.args.shelf.now in
    let new = c.show.new.shelf in
    subst (Failed g.H.Src.Source.left g.H.Src.Source.faults (g.H.Shelf.unread new) (g.H.Shelf.read_faults old) (g.H.Shelf.read_faults new)) (shown_log c.in-Show.file.now pattern file (rw (c.in-Show.is) at asks)) c.show.ensures.one_failed

pub returns-in-Scan-clause-one_failed : goal.returns-in-Scan-clause-one_failed
returns-in-Scan-clause-one_failed g c = λ pattern file asks.
    let old = c.args.shelf.now in
    let new = c.scan.new.shelf in
    subst (Failed g.H.Src.Source.left g.H.Src.Source.faults (g.H.Shelf.unread new) (g.H.Shelf.read_faults old) (g.H.Shelf.read_faults new)) (scanned_log c.in-Scan.pattern.now c.in-Scan.file.now pattern file (rw (c.in-Scan.is) at asks)) c.scan.ensures.one_failed
