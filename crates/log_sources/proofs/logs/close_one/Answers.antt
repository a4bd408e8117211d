use Rattle.std.proofs.Common.{◌∷◌, [], subst, sym}
use Rattle.log_sources.specs.Sources.{IsUnread}
use Rattle.log_sources.proofs.CloseLemmas.{unread_one}
use Rattle.log_sources.proofs.logs.close_one.Goals as goal

pub returns-in-Opened-clause-unread : goal.returns-in-Opened-clause-unread
returns-in-Opened-clause-unread g c = λ n.
    subst (λ s. IsUnread g.H.Src.Source.left g.H.Src.Source.name n (g.H.Shelf.unread c.args.shelf.now n) (g.H.Shelf.unread c.close_log.new.self n) (s ∷ [])) (sym c.in-Opened.is)
    (unread_one g.H.Src.Source.left g.H.Src.Source.name n (g.H.Shelf.unread c.args.shelf.now n) (g.H.Shelf.unread c.close_log.new.self n) c.in-Opened.source (c.close_log.ensures.unread n) (λ m is other. c.close_log.ensures.others m n is other))
