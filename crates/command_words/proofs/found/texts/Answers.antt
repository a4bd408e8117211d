use Rattle.std.proofs.Common.{rules, ◌≡◌, ◌∙◌, ℕ, List, Some, Bor, ap, map}
use Rattle.clap.specs.Matches.{found_of}
use Rattle.clap.proofs.WalkLemmas.{raw_values-rows}
use Rattle.command_words.proofs.found.texts.Goals as goal

pub returns-in_ok-to_vec-in-Some : goal.returns-in_ok-to_vec-in-Some
returns-in_ok-to_vec-in-Some c =
    let same : c.in_ok-to_vec-in-Some.field-0.items ≡ c.in-Some.texts.now = c.in_ok-to_vec-in-Some.ensures.items_if_clones_equal (search rules) in
    ap (λ (ts : List (Bor (List ℕ))). Some (map (λ s. s.now) ts)) same ∙ (c.in-Some.ensures ∙ raw_values-rows (found_of c.args.found.now) c.args.name.now)

pub returns-in-None : goal.returns-in-None
returns-in-None c = c.in-None.ensures ∙ raw_values-rows (found_of c.args.found.now) c.args.name.now
