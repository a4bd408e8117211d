use Rattle.std.proofs.Common.{◌≡◌, ◌∙◌, ◌++◌, length, sym, ap, subst, arith, append_assoc}
use Rattle.std.specs.Prelude.{Err}
use Rattle.std.proofs.lemmas.List.{append-nil}
use Rattle.std.proofs.lemmas.Result.{err_from_is_err_and}
use Rattle.logtype_text.specs.declared.text.TextRefusal.TheVariants.{BadText}
use Rattle.logtype_text.specs.TypeText.{IsLoneAt, text_of_symbol, type_text}
use Rattle.logtype_text.proofs.TextLemmas.{type_text_is_good, one_lone, one_text, rest_spelled, nothing_left, symbol_longer, type_text_push}
use Rattle.logtype_text.proofs.text.from_text.Goals as goal

pub returns-in-Some-clause-bad : goal.returns-in-Some-clause-bad
returns-in-Some-clause-bad c = λ at. (
  λ same. let place : c.in-Some.at ≡ at = cc in subst (IsLoneAt c.args.text.now) place c.in-Some.ensures,
  λ lone. ap (λ n. Err (BadText n)) (one_lone c.args.text.now c.in-Some.at at c.in-Some.ensures lone),
)

-- want of memory is no bad text, and the text is good
pub returns-in_err-symbols-clause-bad : goal.returns-in_err-symbols-clause-bad
returns-in_err-symbols-clause-bad c = λ at. (
  λ same. let p = err_from_is_err_and c.from_residual.result c.from_residual.ensures.1 in absurd (cc (p.1, p.2, same)),
  λ lone. absurd (type_text_is_good c.args.text.now c.in_default.ensures at lone),
)

pub loop-symbol-preserved : goal.loop-symbol-preserved
loop-symbol-preserved c =
    let so_far = c.loop-symbol.invariant in
    let front = c.in-Some-first_symbol.ensures.some in
    let symbol = c.in-Some-first_symbol.symbol in
    let rest = c.in-Some-first_symbol.after.now in
    let symbols = c.loop-symbol.symbols.items in
    record {
      spelled = rest_spelled symbol c.loop-symbol.rest.now rest front so_far.spelled;
      read = ap (λ l. type_text l ++ rest) c.push_reserved.ensures.items
          ∙ ap (λ l. l ++ rest) (type_text_push symbols symbol)
          ∙ append_assoc (type_text symbols) (text_of_symbol symbol) rest
          ∙ ap (λ l. type_text symbols ++ l) (sym front) ∙ so_far.read;
      room = let longer = symbol_longer symbol rest in omega (arith, ap length front, c.push_reserved.ensures.len, c.push_reserved.ensures.capacity, so_far.room);
    }

-- the symbols that were read have the text
whole : (c : goal.After-new) → type_text c.loop-symbol.symbols.items ≡ c.args.text.now
whole c =
    let left = nothing_left c.loop-symbol.rest.now c.in_default-first_symbol.ensures.none c.loop-symbol.invariant.spelled in
    sym (append-nil (type_text c.loop-symbol.symbols.items)) ∙ ap (λ l. type_text c.loop-symbol.symbols.items ++ l) (sym left) ∙ c.loop-symbol.invariant.read

pub returns-clause-ok : goal.returns-clause-ok
returns-clause-ok c = ap type_text c.new.ensures ∙ whole c

pub returns-clause-back : goal.returns-clause-back
returns-clause-back c = λ symbols spells. c.new.ensures ∙ one_text c.loop-symbol.symbols.items symbols (whole c ∙ sym spells)

pub returns-clause-bad : goal.returns-clause-bad
returns-clause-bad c = λ at. (
  λ same. absurd (cc),
  λ lone. absurd (type_text_is_good c.args.text.now c.in_default.ensures at lone),
)
