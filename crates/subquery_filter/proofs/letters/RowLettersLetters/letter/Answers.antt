use Rattle.std.proofs.Common.{rules, ◌≡◌, ◌∷◌, length}
use Rattle.subquery_filter.specs.StepsLetters.{left_of}
use Rattle.subquery_filter.proofs.LetterLemmas.{left_slot, left_stuck, nothing_there}
use Rattle.subquery_filter.proofs.letters.RowLettersLetters.letter.Goals as goal

pub returns-in_err-symbol-clause-none : goal.returns-in_err-symbol-clause-none
returns-in_err-symbol-clause-none g c =
    let l = c.loop-byte.self in
    let no_word : length l.word.now ≡ 0 = search rules in
    rw c.from_residual.ensures
    (left_stuck l.printed l.at l.end l.word.now (g.N.Names.words l.names.now) l.text.now l.words.now _ c.loop-byte.invariant c.in_default.ensures.none (nothing_there l.word.now no_word)
    c.in_err-symbol.ensures.none)

pub loop-byte-preserved : goal.loop-byte-preserved
loop-byte-preserved g c =
    let l = c.loop-byte.self in
    let s = c.show.new.self in
    let a = c.args.self.now in
    let words = g.N.Names.words l.names.now in
    let all = left_of a.printed a.at a.end a.word.now (g.N.Names.words a.names.now) a.text.now a.words.now in
    let no_word : length l.word.now ≡ 0 = search rules in
    let row_is : l.words.now ≡ c.in_ok-word-in-Slot.word.now ∷ c.in_ok-word-in-Slot.left.now = search rules in
    let step : left_of s.printed s.at s.end s.word.now words c.in_ok-symbol.after.now c.in_ok-word-in-Slot.left.now ≡ all =
    left_slot l.printed l.at l.end l.word.now words l.text.now l.words.now all c.in_ok-symbol.symbol c.in-Slot.kind c.in_ok-symbol.after.now c.in_ok-word-in-Slot.word.now c.in_ok-word-in-Slot.left.now
    s.printed s.at s.end s.word.now c.loop-byte.invariant c.in_default.ensures.none (nothing_there l.word.now no_word) c.in_ok-symbol.ensures.some c.in-Slot.is row_is c.show.ensures.shown in
    let now : left_of s.printed s.at s.end s.word.now (g.N.Names.words s.names.now) s.text.now s.words.now ≡ all =
    rw (c.show.ensures.text, c.show.ensures.words, c.show.ensures.names) step in
    now
