use Rattle.std.proofs.Common.{◌∙◌, ap, sym, map, string_bytes}
use Rattle.clap.specs.Words.{fault_of, is_simple, is_simple_and_free, subcommand_of, takes}
use Rattle.command_words.specs.Forms.{clpa}
use Rattle.command_words.proofs.ErrorLemmas.{has_fault, not_taken}
use Rattle.command_words.proofs.FormLemmas.{is_simple_and_free_here, is_simple_here}
use Rattle.command_words.proofs.read.parse.Goals as goal

pub returns-in-Ok-clause-good : goal.returns-in-Ok-clause-good
returns-in-Ok-clause-good c =
    let is = c.in_ok-program.ensures.app_is in
    ap (λ a. fault_of a (map string_bytes c.args.words.now)) (sym is) ∙ c.in-Ok.ensures.kinds (ap is_simple_and_free is ∙ is_simple_and_free_here)

pub returns-in-Ok-clause-found : goal.returns-in-Ok-clause-found
returns-in-Ok-clause-found c =
    let is = c.in_ok-program.ensures.app_is in
    (c.in-Ok.ensures.matches (ap is_simple is ∙ is_simple_here)).1 ∙ ap (λ a. subcommand_of a (map string_bytes c.args.words.now)) is

pub returns-in-Err-clause-usage : goal.returns-in-Err-clause-usage
returns-in-Err-clause-usage c = λ usage none.
    let is = c.in_ok-program.ensures.app_is in
    has_fault _ c.in-Err.error c.refusal_of.result (c.in-Err.ensures.kinds (ap is_simple_and_free is ∙ is_simple_and_free_here)) c.refusal_of.ensures usage
    (ap (λ a. fault_of a (map string_bytes c.args.words.now)) is ∙ none)

pub returns-in-Err-clause-taken : goal.returns-in-Err-clause-taken
returns-in-Err-clause-taken c = λ usage.
    let is = c.in_ok-program.ensures.app_is in
    not_taken (takes clpa (map string_bytes c.args.words.now)) c.in-Err.error c.refusal_of.result
    (λ taken. c.in-Err.ensures.passes (ap (λ a. takes a (map string_bytes c.args.words.now)) is ∙ taken)) c.refusal_of.ensures usage
