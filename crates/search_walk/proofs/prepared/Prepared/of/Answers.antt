use Rattle.std.proofs.Common.{◌≡◌, ◌∙◌, List, ap, inl, inr, map, refl, rules, subst, sym}
use Rattle.log_seams.proofs.MomentLemmas.{rests_on}
use Rattle.query_plan.specs.declared.pieces.Piece.{Piece}
use Rattle.query_plan.specs.Needs.{needed_variables_of}
use Rattle.query_plan.specs.Pieces.{Free, needed_of, wide_pieces}
use Rattle.subquery_filter.specs.Asking.{AreConstants}
use Rattle.subquery_filter.specs.Filter.{AsksTypes, IsFilter}
use Rattle.subquery_filter.specs.Found.{AreNumbers}
use Rattle.word_places.specs.declared.place.WordsPlace.{WordsPlace}
use Rattle.word_places.specs.Held.{kept_of, unread}
use Rattle.word_places.specs.Kept.{AreKeptOf, KeptTypes}
use Rattle.word_places.specs.Places.{AreInOrder, OfWords, SomeWords}
use Rattle.word_places.specs.Reads.{ReadsWords}
use Rattle.word_places.proofs.ReadLemmas.{words_none}
use Rattle.search_walk.specs.Held.{IsTold, named}
use Rattle.search_walk.specs.TypePass.{ArePassed}
use Rattle.search_walk.proofs.PreparedLemmas.{TellsOf, named_tells, some_map, tells_filter, texts_read, words_read}
use Rattle.search_walk.proofs.ReadyLemmas.{named_words}
use Rattle.search_walk.proofs.prepared.Prepared.of.Goals as goal

pub ask_words-requires : goal.ask_words-requires
ask_words-requires g c = subst (AreInOrder 0) (sym c.as_slice-records.ensures) c.requires.order.1

pub ask_types-requires : goal.ask_types-requires
ask_types-requires g c = subst (AreInOrder 0) (sym c.as_slice.ensures) c.requires.order.0

pub new-requires : goal.new-requires
new-requires g c = subst (AreInOrder 0) (sym c.as_slice-records.ensures) c.requires.order.1

-- what is read

pub returns-in_err-filter-clause-reads : goal.returns-in_err-filter-clause-reads
returns-in_err-filter-clause-reads g c = words_read c.args.places _ _ (words_none c.args.places.words _ _ refl)

pub returns-in_err-told-clause-reads : goal.returns-in_err-told-clause-reads
returns-in_err-told-clause-reads g c =
    words_read c.args.places _ _ (subst (λ (l : List WordsPlace). ReadsWords l (g.D.Disk.state c.args.disk.now) (g.D.Disk.state c.ask_words.new.disk)) c.as_slice-records.ensures c.ask_words.ensures.reads)

pub returns-in_err-passed-clause-reads : goal.returns-in_err-passed-clause-reads
returns-in_err-passed-clause-reads g c =
    texts_read c.args.places _ _ _ (subst (λ (l : List WordsPlace). ReadsWords l (g.D.Disk.state c.args.disk.now) (g.D.Disk.state c.ask_words.new.disk)) c.as_slice-records.ensures c.ask_words.ensures.reads)
    (subst (λ (l : List WordsPlace). ReadsWords l (g.D.Disk.state c.ask_words.new.disk) (g.D.Disk.state c.ask_types.new.disk)) c.as_slice.ensures c.ask_types.ensures.reads)

pub returns-in_err-held-clause-reads : goal.returns-in_err-held-clause-reads
returns-in_err-held-clause-reads g c =
    texts_read c.args.places _ _ _ (subst (λ (l : List WordsPlace). ReadsWords l (g.D.Disk.state c.args.disk.now) (g.D.Disk.state c.ask_words.new.disk)) c.as_slice-records.ensures c.ask_words.ensures.reads)
    (subst (λ (l : List WordsPlace). ReadsWords l (g.D.Disk.state c.ask_words.new.disk) (g.D.Disk.state c.ask_types.new.disk)) c.as_slice.ensures c.ask_types.ensures.reads)

pub returns-in_err-layouts-clause-reads : goal.returns-in_err-layouts-clause-reads
returns-in_err-layouts-clause-reads g c =
    texts_read c.args.places _ _ _ (subst (λ (l : List WordsPlace). ReadsWords l (g.D.Disk.state c.args.disk.now) (g.D.Disk.state c.ask_words.new.disk)) c.as_slice-records.ensures c.ask_words.ensures.reads)
    (subst (λ (l : List WordsPlace). ReadsWords l (g.D.Disk.state c.ask_words.new.disk) (g.D.Disk.state c.ask_types.new.disk)) c.as_slice.ensures c.ask_types.ensures.reads)

pub returns-clause-reads : goal.returns-clause-reads
returns-clause-reads g c =
    texts_read c.args.places _ _ _ (subst (λ (l : List WordsPlace). ReadsWords l (g.D.Disk.state c.args.disk.now) (g.D.Disk.state c.ask_words.new.disk)) c.as_slice-records.ensures c.ask_words.ensures.reads)
    (subst (λ (l : List WordsPlace). ReadsWords l (g.D.Disk.state c.ask_words.new.disk) (g.D.Disk.state c.ask_types.new.disk)) c.as_slice.ensures c.ask_types.ensures.reads)

-- what stays

pub returns-in_err-passed-clause-rests : goal.returns-in_err-passed-clause-rests
returns-in_err-passed-clause-rests g c = rests_on _ (g.D.Disk.state c.ask_words.new.disk) _ c.ask_words.ensures.rests c.ask_types.ensures.rests

pub returns-in_err-held-clause-rests : goal.returns-in_err-held-clause-rests
returns-in_err-held-clause-rests g c = rests_on _ (g.D.Disk.state c.ask_words.new.disk) _ c.ask_words.ensures.rests c.ask_types.ensures.rests

pub returns-in_err-layouts-clause-rests : goal.returns-in_err-layouts-clause-rests
returns-in_err-layouts-clause-rests g c = rests_on _ (g.D.Disk.state c.ask_words.new.disk) _ c.ask_words.ensures.rests c.ask_types.ensures.rests

pub returns-clause-rests : goal.returns-clause-rests
returns-clause-rests g c = rests_on _ (g.D.Disk.state c.ask_words.new.disk) _ c.ask_words.ensures.rests c.ask_types.ensures.rests

-- causes

pub returns-in_err-told-clause-damaged : goal.returns-in_err-told-clause-damaged
returns-in_err-told-clause-damaged g c = λ is.
    inr (subst (λ (l : List WordsPlace). OfWords (g.D.Disk.state c.args.disk.now).seen l (λ _. ⊥)) c.as_slice-records.ensures (c.in_err-told.ensures.damaged (search rules)))

pub returns-in_err-passed-clause-damaged : goal.returns-in_err-passed-clause-damaged
returns-in_err-passed-clause-damaged g c = λ is.
    inl (subst (λ s. OfWords s c.args.places.types (λ _. ⊥)) c.ask_words.ensures.rests.seen
    (subst (λ (l : List WordsPlace). OfWords (g.D.Disk.state c.ask_words.new.disk).seen l (λ _. ⊥)) c.as_slice.ensures (c.in_err-passed.ensures.damaged (search rules))))

-- by the answer

pub returns-clause-kept : goal.returns-clause-kept
returns-clause-kept g c =
    let d0 = g.D.Disk.state c.args.disk.now in
    let d1 = g.D.Disk.state c.ask_words.new.disk in
    let held = c.in_ok-held.held in
    let passed = c.in_ok-passed.passed in
    let kept : kept_of held ≡ passed.texts = c.in_ok-held.ensures.types in
    record {
      types = some_map d0.seen c.args.places.types _ (λ texts. AreKeptOf texts (kept_of held)) (λ texts are. subst (λ (k : KeptTypes). AreKeptOf texts k) (sym kept) are.kept)
          (subst (λ s. SomeWords s c.args.places.types (λ types. ArePassed c.plan-plan.result.now c.in_ok-told.told.filter types passed)) c.ask_words.ensures.rests.seen
          (subst (λ (l : List WordsPlace). SomeWords d1.seen l (λ types. ArePassed c.plan-plan.result.now c.in_ok-told.told.filter types passed)) c.as_slice.ensures c.in_ok-passed.ensures.passed));
      type_places = ap (λ (k : KeptTypes). k.places) kept ∙ c.in_ok-passed.ensures.places ∙ c.as_slice.ensures;
      version = c.in_ok-held.ensures.version;
      records = c.in_ok-held.ensures.records ∙ ap (map unread) c.as_slice-records.ensures;
      files = refl;
      segments = refl;
    }

pub returns-clause-ready : goal.returns-clause-ready
returns-clause-ready g c =
    let q = c.args.query.now in
    let d0 = g.D.Disk.state c.args.disk.now in
    let d1 = g.D.Disk.state c.ask_words.new.disk in
    let d2 = g.D.Disk.state c.ask_types.new.disk in
    let ps : List Piece = c.plan-plan.result.now in
    let records = c.as_slice-records.result.now in
    let held = c.in_ok-held.held in
    let n = named d2.seen held in
    let passed = c.in_ok-passed.passed in
    let filter = c.in_ok-told.told.filter in
    let kept : kept_of held ≡ passed.texts = c.in_ok-held.ensures.types in
    let there : held.type_places ≡ c.as_slice.result.now = ap (λ (k : KeptTypes). k.places) kept ∙ c.in_ok-passed.ensures.places in
    let rest : d2.seen ≡ d0.seen = c.ask_types.ensures.rests.seen ∙ c.ask_words.ensures.rests.seen in
    let some : SomeWords d2.seen held.type_places (λ types. ArePassed ps filter types passed) =
    subst (λ s. SomeWords s held.type_places (λ types. ArePassed ps filter types passed)) (sym c.ask_types.ensures.rests.seen)
    (subst (λ (l : List WordsPlace). SomeWords d1.seen l (λ types. ArePassed ps filter types passed)) (sym there) c.in_ok-passed.ensures.passed) in
    let tells : IsTold n → TellsOf ps n.types n.words held.types passed.asked = λ told.
    named_tells ps filter d2.seen held passed kept some (λ types.
    subst (λ (l : List Piece). IsFilter l types n.words filter) (sym c.plan-plan.ensures)
    (named_words d0.seen d2.seen records held _ rest c.in_ok-held.ensures.records c.in_ok-told.ensures.filter told types
    (subst (λ (l : List Piece). AsksTypes l types c.in_ok-filter.filter) c.plan-plan.ensures (c.in_ok-filter.ensures types)))) told in
    record {
      searched = c.requires.searched;
      layouts_are = c.in_ok-layouts.ensures;
      count = c.in_ok-told.ensures.count;
      filtered = λ told. tells_filter n q ps passed.asked c.plan-plan.ensures (tells told);
      constants_are = λ told. subst (λ (l : List Piece). AreConstants l n.types passed.asked.constants.items) c.plan-plan.ensures (tells told).constants;
      numbered = named_words d0.seen d2.seen records held (λ words. AreNumbers words (needed_of Free (wide_pieces q.pattern)) (needed_variables_of Free (wide_pieces q.pattern)) c.in_ok-told.told.found.items)
          rest c.in_ok-held.ensures.records c.in_ok-told.ensures.found;
    }
