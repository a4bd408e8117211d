use Rattle.std.proofs.Common.{ℕ, List, length, sym, ap, ◌∙◌, subst}
use Rattle.std.proofs.lemmas.Result.{IfOk-weaker}
use Rattle.archive_meaning.specs.declared.entry.JournalEntry.TheVariants.{Types, Words}
use Rattle.disk_seal.specs.declared.pieces.Piece.{Piece}
use Rattle.disk_seal.specs.View.{StoreView, state_by}
use Rattle.disk_seal.specs.Framed.{IsFramedOrNone}
use Rattle.disk_seal.specs.Planned.{ArePlanned, HasRoom}
use Rattle.disk_seal.proofs.PlanLemmas.{planned, all_size}
use Rattle.disk_seal.specs.Pieces.{size_of}
use Rattle.disk_seal.proofs.store.Store.frame_all.Goals as goal

pub returns-clause-planned : goal.returns-clause-planned
returns-clause-planned g c =
    let s = state_by g.D.Disk.state c.args.self.now in let d = c.args.draft.now in let u = c.args.unsaved.now in
    let t = c.in_ok-types.types in let w = c.in_ok-words.words in
    let framed_t = subst (λ (ts : List (List ℕ)). IsFramedOrNone (Types c.args.self.now.types_saved ts) (length ts) (length ts) 0 t) c.requires.types
    (subst (λ (n : ℕ). IsFramedOrNone (Types n u.types) (length u.types) (length u.types) 0 t) (ap (λ (v : StoreView _). v.types_saved) c.self.view_is) c.in_ok-types.ensures) in
    let framed_w = subst (λ (ts : List (List ℕ)). IsFramedOrNone (Words c.args.self.now.words_saved ts) (length ts) 0 (length ts) w) c.requires.words
    (subst (λ (n : ℕ). IsFramedOrNone (Words n u.words) (length u.words) 0 (length u.words) w) (ap (λ (v : StoreView _). v.words_saved) c.self.view_is) c.in_ok-words.ensures) in
    IfOk-weaker c.gathered.result _ _ (λ ps is room. subst (λ (l : List Piece). ArePlanned d l s) (sym is)
    (planned s c.facts.ensures c.requires.runs c.requires.books.0 c.requires.books.1 d c.requires.next t w c.in_ok-segment.segment framed_t framed_w c.in_ok-segment.ensures
    (subst (λ (l : List Piece). HasRoom l s) is room))) c.gathered.ensures

pub returns-clause-size : goal.returns-clause-size
returns-clause-size g c =
    let s = state_by g.D.Disk.state c.args.self.now in let d = c.args.draft.now in let u = c.args.unsaved.now in
    let t = c.in_ok-types.types in let w = c.in_ok-words.words in
    let framed_t = subst (λ (ts : List (List ℕ)). IsFramedOrNone (Types c.args.self.now.types_saved ts) (length ts) (length ts) 0 t) c.requires.types
    (subst (λ (n : ℕ). IsFramedOrNone (Types n u.types) (length u.types) (length u.types) 0 t) (ap (λ (v : StoreView _). v.types_saved) c.self.view_is) c.in_ok-types.ensures) in
    let framed_w = subst (λ (ts : List (List ℕ)). IsFramedOrNone (Words c.args.self.now.words_saved ts) (length ts) 0 (length ts) w) c.requires.words
    (subst (λ (n : ℕ). IsFramedOrNone (Words n u.words) (length u.words) 0 (length u.words) w) (ap (λ (v : StoreView _). v.words_saved) c.self.view_is) c.in_ok-words.ensures) in
    IfOk-weaker c.gathered.result _ _ (λ ps is. ap size_of is ∙ all_size s d t w c.in_ok-segment.segment framed_t framed_w c.in_ok-segment.ensures) c.gathered.ensures
