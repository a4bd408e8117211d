use Rattle.std.proofs.Common.{refl, sym, subst}
use Rattle.std.proofs.lemmas.Result.{IfOk-weaker}
use Rattle.row_codec.specs.declared.namer.Which.TheVariants.{Types, Words}
use Rattle.archive_open.specs.Grown.{GrownView, GrowsNext, NoneGrows, grown_of}
use Rattle.archive_open.specs.StepsNext.{Builds}
use Rattle.archive_open.proofs.GrownLemmas.{grows_next, none_grows, with_segments}
use Rattle.archive_open.proofs.NextLemmas.{names_built, no_names, no_texts, texts_built}
use Rattle.archive_open.proofs.grown.add_listed.Goals as goal

pub returns-in-1-clause-added : goal.returns-in-1-clause-added
returns-in-1-clause-added g c =
    let payload = c.args.payload.now in
    let old : GrownView = grown_of g.K.KeepsTexts.kept c.args.grown.now in
    let new : GrownView = grown_of g.K.KeepsTexts.kept (record { names = c.args.grown.now.names; files = c.add_names.new.files }) in
    IfOk-weaker c.add_names.result _ _ (λ yes r is. subst (λ k. GrowsNext k payload old new) (sym c.in-1.is)
    (grows_next 1 payload old new (λ segments at. names_built at payload (r is).0 (with_segments old segments) (with_segments new segments) (r is).1 (r is).2 (r is).3 refl refl))) c.add_names.ensures.added

pub returns-in-1-clause-refused : goal.returns-in-1-clause-refused
returns-in-1-clause-refused g c =
    let payload = c.args.payload.now in
    let old : GrownView = grown_of g.K.KeepsTexts.kept c.args.grown.now in
    IfOk-weaker c.add_names.result _ _ (λ yes r is. subst (λ k. NoneGrows k payload old) (sym c.in-1.is)
    (none_grows 1 payload old (λ segments at. no_names at payload (Builds (with_segments old segments)) (r is)))) c.add_names.ensures.refused

pub returns-in-2-clause-added : goal.returns-in-2-clause-added
returns-in-2-clause-added g c =
    let payload = c.args.payload.now in
    let old : GrownView = grown_of g.K.KeepsTexts.kept c.args.grown.now in
    let new : GrownView = grown_of g.K.KeepsTexts.kept (record { names = c.keep_texts.new.names; files = c.args.grown.now.files }) in
    IfOk-weaker c.keep_texts.result _ _ (λ yes r is. subst (λ k. GrowsNext k payload old new) (sym c.in-2.is)
    (grows_next 2 payload old new (λ segments at.
    texts_built Types at payload (r is).0 (r is).1.0 (with_segments old segments) (with_segments new segments) (r is).1.1 (r is).1.2 (r is).1.3 (r is).1.4 refl refl))) c.keep_texts.ensures.kept

pub returns-in-2-clause-refused : goal.returns-in-2-clause-refused
returns-in-2-clause-refused g c =
    let payload = c.args.payload.now in
    let old : GrownView = grown_of g.K.KeepsTexts.kept c.args.grown.now in
    IfOk-weaker c.keep_texts.result _ _ (λ yes r is. subst (λ k. NoneGrows k payload old) (sym c.in-2.is)
    (none_grows 2 payload old (λ segments at. no_texts Types at payload (with_segments old segments) (r is)))) c.keep_texts.ensures.refused

pub returns-in-3-clause-added : goal.returns-in-3-clause-added
returns-in-3-clause-added g c =
    let payload = c.args.payload.now in
    let old : GrownView = grown_of g.K.KeepsTexts.kept c.args.grown.now in
    let new : GrownView = grown_of g.K.KeepsTexts.kept (record { names = c.keep_texts-in-3.new.names; files = c.args.grown.now.files }) in
    IfOk-weaker c.keep_texts-in-3.result _ _ (λ yes r is. subst (λ k. GrowsNext k payload old new) (sym c.in-3.is)
    (grows_next 3 payload old new (λ segments at.
    texts_built Words at payload (r is).0 (r is).1.0 (with_segments old segments) (with_segments new segments) (r is).1.1 (r is).1.2 (r is).1.3 (r is).1.4 refl refl))) c.keep_texts-in-3.ensures.kept

pub returns-in-3-clause-refused : goal.returns-in-3-clause-refused
returns-in-3-clause-refused g c =
    let payload = c.args.payload.now in
    let old : GrownView = grown_of g.K.KeepsTexts.kept c.args.grown.now in
    IfOk-weaker c.keep_texts-in-3.result _ _ (λ yes r is. subst (λ k. NoneGrows k payload old) (sym c.in-3.is)
    (none_grows 3 payload old (λ segments at. no_texts Words at payload (with_segments old segments) (r is)))) c.keep_texts-in-3.ensures.refused
