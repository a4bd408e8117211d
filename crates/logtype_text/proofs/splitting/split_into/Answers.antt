use Rattle.std.proofs.Common.{◌<◌, ◌≤◌, ◌∷◌, [], ◌++◌, length, refl, sym, ◌∙◌, ap, subst, arith}
use Rattle.std.specs.Prelude.{All}
use Rattle.std.proofs.lemmas.List.Elements.{All-push}
use Rattle.token_rules.proofs.ClassLemmas.{length-slice_range}
use Rattle.logtype_text.specs.declared.symbols.Symbol.TheVariants.{Slot}
use Rattle.logtype_text.specs.Parts.{HasKind, IsFree, IsSplit, IsVariableToken}
use Rattle.logtype_text.proofs.PartsLemmas.{before_constants, before_variable, before_same, codes_more, codes_same, split_at_end, split_count}
use Rattle.logtype_text.proofs.splitting.split_into.Goals as goal

-- the bytes before a variable, and the variable
pub loop-span-preserved : goal.loop-span-preserved
loop-span-preserved c =
    let so_far = c.loop-span.invariant in
    let found = c.in-Some.ensures in
    let body = c.args.body.now in
    let span = c.in-Some.span in
    let start = span.start in
    let end = span.end in
    let variable : IsVariableToken body start end = subst (λ b. IsVariableToken b start end) so_far.same found.token in
    let free : IsFree body c.loop-span.at start = subst (λ b. IsFree b c.loop-span.at start) so_far.same found.first.1 in
    let token = variable.token in
    let kind = c.kind_of.result in
    let in_range = token.in_range in
    let not_empty = token.not_empty in
    let counted = length-slice_range body c.loop-span.at start (omega arith) in
    let bytes = before_constants body c.loop-span.at start c.loop-span.symbols.items c.loop-span.spans.items found.first.0 (omega arith) so_far.before free in
    let kind_is : HasKind _ kind = (c.encode-coded.result, c.encode-coded.ensures, sym c.kind_of.ensures) in
    let all = before_variable body start end _ _ kind bytes variable kind_is in
    let symbols_are = c.push_reserved.ensures.items ∙ ap (λ l. l ++ Slot kind ∷ []) c.push_bytes.ensures.items in
    record {
      same = found.body ∙ so_far.same;
      in_range = in_range;
      outside = λ _ inside _. token.right inside;
      room = omega (arith, counted, c.push_bytes.ensures.len, c.push_reserved.ensures.len, so_far.room);
      reserved = omega (arith, c.push_bytes.ensures.capacity, c.push_reserved.ensures.capacity, so_far.reserved);
      before = before_same symbols_are c.in_ok-push.ensures.items all;
      ranges = subst (λ l. All (λ p. (p.start < p.end) × (p.end ≤ length body)) l) (sym c.in_ok-push.ensures.items) (All-push (λ p. (p.start < p.end) × (p.end ≤ length body)) c.loop-span.spans.items span so_far.ranges (not_empty, in_range));
      codes = codes_same body c.in_ok-push.ensures.items c.in_ok-push-2.ensures.items (codes_more body c.loop-span.spans.items c.loop-span.codes.items span c.encode-coded.result so_far.codes c.encode-coded.ensures);
    }

-- the bytes after the last variable
whole : (c : goal.After-new-3) → IsSplit c.args.body.now c.new.result c.new-2.result
whole c =
    let so_far = c.loop-span.invariant in
    let body = c.args.body.now in
    let free : IsFree body c.loop-span.at (length body) = subst (λ b. IsFree b c.loop-span.at (length b)) so_far.same (c.in_default.ensures.none refl) in
    let bytes = before_constants body c.loop-span.at (length body) c.loop-span.symbols.items c.loop-span.spans.items so_far.in_range (omega arith) so_far.before free in
    split_at_end body (length body) _ _ (omega arith) (before_same (c.new.ensures ∙ c.push_bytes-2.ensures.items) c.new-2.ensures bytes)

pub returns-clause-parts : goal.returns-clause-parts
returns-clause-parts c = whole c

pub returns-clause-count : goal.returns-clause-count
returns-clause-count c = split_count c.args.body.now c.new.result c.new-2.result (whole c)
