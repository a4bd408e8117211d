use Rattle.std.proofs.Common.{◌∙◌, map, string_bytes}
use Rattle.std.proofs.lemmas.Result.{IfOk-weaker}
use Rattle.command_words.specs.Asked.{IsInRange, asked_by}
use Rattle.command_words.proofs.ErrorLemmas.{answer_is_memory}
use Rattle.command_words.proofs.GivenLemmas.{asked_in_range, asks_found, something_asked}
use Rattle.command_words.proofs.read.read_words.Goals as goal

pub returns-clause-all : goal.returns-clause-all
returns-clause-all c = λ asked asks. c.read_found.ensures.all asked (asks.rows, c.in_ok-matches.ensures.found ∙ asks.found, asks.given)

pub returns-clause-taken : goal.returns-clause-taken
returns-clause-taken c = λ taken good.
    let some = something_asked (map string_bytes c.args.words.now) c.in_ok-matches.ensures.good good in
    answer_is_memory some.asked c.read_found.result
    (c.read_found.ensures.all some.asked (some.asks.rows, c.in_ok-matches.ensures.found ∙ some.asks.found, some.asks.given))

pub returns-clause-asked : goal.returns-clause-asked
returns-clause-asked c =
    IfOk-weaker c.read_found.result _ _ (λ command found. asks_found (map string_bytes c.args.words.now) (asked_by command) _ c.in_ok-matches.ensures.good c.in_ok-matches.ensures.found found)
    c.read_found.ensures.asked

pub returns-clause-range : goal.returns-clause-range
returns-clause-range c =
    IfOk-weaker c.read_found.result _ (λ command. IsInRange (asked_by command))
    (λ command found. asked_in_range (map string_bytes c.args.words.now) (asked_by command)
    (asks_found (map string_bytes c.args.words.now) (asked_by command) _ c.in_ok-matches.ensures.good c.in_ok-matches.ensures.found found))
    c.read_found.ensures.asked
