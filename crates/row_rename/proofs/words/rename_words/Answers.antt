use Rattle.std.proofs.Common.{◌≡◌, ℕ, List, ◌++◌, [], ◌∷◌, rules, arith, drop, get_or, ◌+◌, length-drop, ◌∙◌, ap, sym, length, append_assoc}
use Rattle.std.specs.Prelude.{Err, IsErrOf}
use Rattle.std.proofs.lemmas.List.{drop_more}
use Rattle.std.proofs.lemmas.Result.{err_from_is_err_and}
use Rattle.logtype_text.specs.declared.symbols.Kind.TheVariants.{Whole}
use Rattle.row_rename.specs.declared.refusal.RenameRefusal.TheVariants.{Full}
use Rattle.row_rename.specs.Renamed.{IsTextAmong}
use Rattle.row_rename.specs.StepsPut.{HasPut}
use Rattle.row_codec.specs.Numbers.{word_numbers}
use Rattle.row_rename.proofs.PathLemmas.{path_then}
use Rattle.row_rename.proofs.RenameLemmas.{none_left, numbers_all, put_all, put_at, put_more, text_within}
use Rattle.row_rename.proofs.TableLemmas.{named_then, named_weaker}
use Rattle.row_rename.proofs.words.rename_words.Goals as goal

pub returns-in_default-clause-damaged : goal.returns-in_default-clause-damaged
returns-in_default-clause-damaged g c = λ is may.
    let now = c.loop-kind in
    none_left (g.M.Names.words c.args.names.now) (drop now.kind-index c.args.kinds.now) now.left.now (omega (arith, length-drop now.kind-index c.args.kinds.now)) c.in_default.ensures.cases (now.invariant.put.may may)

pub returns-in_err-put_slot-clause-words : goal.returns-in_err-put_slot-clause-words
returns-in_err-put_slot-clause-words g c =
    let now = c.loop-kind in
    let old = g.M.Names.words c.args.names.now in
    let kinds = c.args.kinds.now in
    let words = c.args.words.now in
    let rest = drop (now.kind-index + 1) kinds in
    let kind = get_or kinds now.kind-index Whole in
    let word = c.in-Some.word.now in
    let behind = c.in-Some.behind.now in
    let at : drop now.kind-index kinds ≡ kind ∷ rest = drop_more kinds now.kind-index Whole (omega arith) in
    let first : now.left.now ≡ word ∷ behind = search rules in
    named_then _ _ _ _ _ _ _ now.invariant.named
    (named_weaker (IsTextAmong old (word_numbers (kind ∷ []) (word ∷ []))) (IsTextAmong old (word_numbers kinds words))
    (text_within old (g.N.Namer.words now.namer).texts kinds rest kind words behind word now.renamed.words.items now.invariant.done
    (put_at _ _ _ _ _ _ _ _ _ _ at first now.invariant.put))
    old (g.N.Namer.words now.namer) (g.N.Namer.words c.put_slot.new.namer) c.put_slot.new.table.numbers.items c.put_slot.ensures.words)

pub returns-in_err-put_slot-clause-path : goal.returns-in_err-put_slot-clause-path
returns-in_err-put_slot-clause-path g c = path_then g.N.Namer.naming _ _ _ c.loop-kind.invariant.path c.put_slot.ensures.path

pub returns-in_err-put_slot-clause-full : goal.returns-in_err-put_slot-clause-full
returns-in_err-put_slot-clause-full g c = λ book count same.
    let refusal = c.in_err-put_slot.field-0.0 in
    let p = err_from_is_err_and c.from_residual.result c.from_residual.ensures.1 in
    let was : c.put_slot.result ≡ Err refusal = c.in_err-put_slot.was in
    let refused : IsErrOf c.put_slot.result (Full book count) = cc (p.1, p.2, same, was) in
    c.put_slot.ensures.full book count refused

pub loop-kind-preserved : goal.loop-kind-preserved
loop-kind-preserved g c =
    let now = c.loop-kind in
    let old = g.M.Names.words c.args.names.now in
    let known = (g.N.Namer.words now.namer).texts in
    let more = (g.N.Namer.words c.put_slot.new.namer).texts in
    let kinds = c.args.kinds.now in
    let words = c.args.words.now in
    let rest = drop (now.kind-index + 1) kinds in
    let kind = get_or kinds now.kind-index Whole in
    let word = c.in-Some.word.now in
    let behind = c.in-Some.behind.now in
    let put = c.in_ok-put_slot.ensures.put in
    let out = now.renamed.words.items in
    let done = now.invariant.done in
    let numbers = word_numbers (kind ∷ []) (put.renamed ∷ []) in
    let at : drop now.kind-index kinds ≡ kind ∷ rest = drop_more kinds now.kind-index Whole (omega arith) in
    let first : now.left.now ≡ word ∷ behind = search rules in
    let has : HasPut old known kinds (kind ∷ rest) words (word ∷ behind) out done = put_at _ _ _ _ _ _ _ _ _ _ at first now.invariant.put in
    record {
      version = c.put_slot.ensures.others.0 ∙ now.invariant.version;
      types = c.put_slot.ensures.others.1 ∙ now.invariant.types;
      named = named_then _ _ _ _ _ _ _ now.invariant.named
          (named_weaker (IsTextAmong old (word_numbers (kind ∷ []) (word ∷ []))) (IsTextAmong old (word_numbers kinds words))
          (text_within old known kinds rest kind words behind word out done has) old (g.N.Namer.words now.namer) (g.N.Namer.words c.put_slot.new.namer) c.put_slot.new.table.numbers.items c.put_slot.ensures.words);
      path = path_then g.N.Namer.naming _ _ _ now.invariant.path c.put_slot.ensures.path;
      done = done ++ numbers;
      used = put.numbered ∙ ap (λ (l : List ℕ). l ++ numbers) now.invariant.used ∙ append_assoc c.args.renamed.now.used.items done numbers;
      put = put_more old known more kinds rest kind words behind word out c.put_slot.new.renamed.words.items done now.renamed.used.items c.put_slot.new.renamed.used.items has c.put_slot.ensures.words.grown.front put;
    }

pub returns-clause-renamed : goal.returns-clause-renamed
returns-clause-renamed g c =
    let now = c.loop-kind in
    let none : length now.left.now ≡ 0 = search rules in
    put_all (g.M.Names.words c.args.names.now) (g.N.Namer.words now.namer).texts c.args.kinds.now (drop now.kind-index c.args.kinds.now) c.args.words.now now.left.now now.renamed.words.items now.invariant.done (omega (arith, length-drop now.kind-index c.args.kinds.now)) none now.invariant.put

pub returns-clause-used : goal.returns-clause-used
returns-clause-used g c =
    let now = c.loop-kind in
    let all = numbers_all (g.M.Names.words c.args.names.now) (g.N.Namer.words now.namer).texts c.args.kinds.now (drop now.kind-index c.args.kinds.now) c.args.words.now now.left.now now.renamed.words.items now.invariant.done (omega (arith, length-drop now.kind-index c.args.kinds.now)) now.invariant.put in
    now.invariant.used ∙ ap (λ (l : List ℕ). c.args.renamed.now.used.items ++ l) (sym all)
