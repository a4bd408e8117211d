use Rattle.std.proofs.Common.{◌≡◌, ◌∙◌, ap, sym, subst}
use Rattle.std.proofs.lemmas.Result.{IfOk-weaker}
use Rattle.row_codec.specs.declared.namer.Which.{Which}
use Rattle.archive_places.specs.StepsPlaced.{IsOver, Placing, listing, place_by, placing_of, with_texts}
use Rattle.archive_places.proofs.keeping.add_texts.Goals as goal

pub returns-in-Types-clause-added : goal.returns-in-Types-clause-added
returns-in-Types-clause-added c =
    let old : Placing = placing_of c.args.opening.now in
    IfOk-weaker c.add.result _ _ (λ yes r is. (λ i. record old { types = r is i }) ∙ ap (λ (k : Which). with_texts k (place_by c.args.place c.args.first c.args.count) old) (sym c.in-Types.is)) c.add.ensures.added

pub returns-in-Types-clause-sound : goal.returns-in-Types-clause-sound
returns-in-Types-clause-sound c = IfOk-weaker c.add.result _ _ (λ yes r is run. (r is run.0, run.1)) c.add.ensures.sound

pub returns-in-Types-clause-refused : goal.returns-in-Types-clause-refused
returns-in-Types-clause-refused c =
    let old : Placing = placing_of c.args.opening.now in
    IfOk-weaker c.add.result _ _ (λ no r is. subst (λ (k : Which). c.args.first ≡ (listing k old).count → IsOver (listing k old) c.args.count) (sym c.in-Types.is) (r is)) c.add.ensures.refused

pub returns-in-Words-clause-added : goal.returns-in-Words-clause-added
returns-in-Words-clause-added c =
    let old : Placing = placing_of c.args.opening.now in
    IfOk-weaker c.add-in-Words.result _ _ (λ yes r is. (λ i. record old { words = r is i }) ∙ ap (λ (k : Which). with_texts k (place_by c.args.place c.args.first c.args.count) old) (sym c.in-Words.is)) c.add-in-Words.ensures.added

pub returns-in-Words-clause-sound : goal.returns-in-Words-clause-sound
returns-in-Words-clause-sound c = IfOk-weaker c.add-in-Words.result _ _ (λ yes r is run. (run.0, r is run.1)) c.add-in-Words.ensures.sound

pub returns-in-Words-clause-refused : goal.returns-in-Words-clause-refused
returns-in-Words-clause-refused c =
    let old : Placing = placing_of c.args.opening.now in
    IfOk-weaker c.add-in-Words.result _ _ (λ no r is. subst (λ (k : Which). c.args.first ≡ (listing k old).count → IsOver (listing k old) c.args.count) (sym c.in-Words.is) (r is)) c.add-in-Words.ensures.refused
