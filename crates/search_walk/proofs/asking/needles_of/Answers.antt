use Rattle.std.proofs.Common.{◌∙◌, ◌++◌, ◌∷◌, [], map, take, ap, append_assoc, rules, sym}
use Rattle.std.proofs.lemmas.List.{append-nil, take_all}
use Rattle.search_walk.specs.Told.{whole_needle, within_needle}
use Rattle.search_walk.proofs.AskLemmas.{needles_more}
use Rattle.search_walk.proofs.asking.needles_of.Goals as goal

pub loop-text-preserved : goal.loop-text-preserved
loop-text-preserved c =
    c.in_ok-push.ensures.items ∙ ap (λ l. l ++ c.part_needle.result ∷ []) c.loop-text.invariant ∙ ap (λ x. map within_needle (take c.loop-text.text-index c.args.within.now) ++ x ∷ []) c.part_needle.ensures
    ∙ sym (needles_more within_needle c.args.within.now c.loop-text.text-index _ (search rules) c.text-item.is)

pub loop-word-init : goal.loop-word-init
loop-word-init c = c.loop-text.invariant ∙ ap (map within_needle) (take_all c.loop-text.text-index c.args.within.now (search rules)) ∙ sym (append-nil (map within_needle c.args.within.now))

pub loop-word-preserved : goal.loop-word-preserved
loop-word-preserved c =
    c.in_ok-push-2.ensures.items ∙ ap (λ l. l ++ c.word_needle.result ∷ []) c.loop-word.invariant
    ∙ append_assoc (map within_needle c.args.within.now) (map whole_needle (take c.loop-word.word-index c.args.whole.now)) (c.word_needle.result ∷ [])
    ∙ ap (λ x. map within_needle c.args.within.now ++ (map whole_needle (take c.loop-word.word-index c.args.whole.now) ++ x ∷ [])) c.word_needle.ensures
    ∙ ap (λ l. map within_needle c.args.within.now ++ l) (sym (needles_more whole_needle c.args.whole.now c.loop-word.word-index _ (search rules) c.word-item.is))

pub returns : goal.returns
returns c = c.loop-word.invariant ∙ ap (λ l. map within_needle c.args.within.now ++ map whole_needle l) (take_all c.loop-word.word-index c.args.whole.now (search rules))
