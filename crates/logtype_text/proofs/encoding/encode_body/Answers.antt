use Rattle.std.proofs.Common.{length, refl, ◌∙◌, subst, arith}
use Rattle.logtype_text.specs.Parts.{IsFree, IsVariableToken}
use Rattle.logtype_text.proofs.EncodedLemmas.{constants_stored, variable_stored, stored_whole}
use Rattle.logtype_text.proofs.encoding.encode_body.Goals as goal

-- the bytes before a variable, and the variable
pub loop-span-preserved : goal.loop-span-preserved
loop-span-preserved c =
    let so_far = c.loop-span.invariant in
    let found = c.in-Some.ensures in
    let body = c.args.body.now in
    let span = c.in-Some.span in
    let at = c.loop-span.at in
    let variable : IsVariableToken body span.start span.end = subst (λ b. IsVariableToken b span.start span.end) so_far.same found.token in
    let free : IsFree body at span.start = subst (λ b. IsFree b at span.start) so_far.same found.first.1 in
    let token = variable.token in
    let in_range = token.in_range in
    let not_empty = token.not_empty in
    let bytes = constants_stored body c.loop-span.at span.start c.loop-span.text.items c.push_constants.new.text.items c.loop-span.codes.items c.loop-span.words.items found.first.0 (omega arith) so_far.stored free c.in_ok-push_constants.ensures in
    record {
      same = found.body ∙ so_far.same;
      in_range = in_range;
      outside = λ _ inside _. token.right inside;
      stored = variable_stored body span c.push_constants.new.text.items c.push_variable.new.text.items c.loop-span.codes.items c.push_variable.new.codes.items c.loop-span.words.items c.push_variable.new.words.items c.encode.result bytes variable c.encode.ensures c.in_ok-push_variable.ensures.text c.in_ok-push_variable.ensures.codes c.in_ok-push_variable.ensures.words;
    }

-- the bytes after the last variable
pub returns : goal.returns
returns c =
    let so_far = c.loop-span.invariant in
    let body = c.args.body.now in
    let at = c.loop-span.at in
    let free : IsFree body at (length body) = subst (λ b. IsFree b at (length b)) so_far.same (c.in_default.ensures.none refl) in
    let bytes = constants_stored body c.loop-span.at (length body) c.loop-span.text.items c.push_constants-2.new.text.items c.loop-span.codes.items c.loop-span.words.items so_far.in_range (omega arith) so_far.stored free c.in_ok-push_constants-2.ensures in
    stored_whole body (length body) c.push_constants-2.new.text.items c.loop-span.codes.items c.loop-span.words.items (omega arith) bytes
