-- Runs over entries one behind the other.
use Rattle.std.proofs.Common.{◌≡◌, ℕ, List, [], ◌∷◌, ◌++◌, refl, sym, ◌∙◌, ap, ap₂, subst}
use Rattle.record_format.specs.declared.header.Header.{Header}
use Rattle.column_store.specs.declared.row.Row.{Row}
use Rattle.row_codec.specs.Means.{AreCanonical}
use Rattle.row_codec.proofs.MeansLemmas.{one_meaning}
use Rattle.archive_meaning.specs.declared.entry.JournalEntry.{JournalEntry}
use Rattle.archive_meaning.specs.declared.entry.JournalEntry.TheVariants.{Files, Types, Words, Segment}
use Rattle.archive_meaning.specs.Held.{Held}
use Rattle.archive_meaning.specs.Legal.{Accepts, Run, piece_of}
use Rattle.archive_meaning.specs.Laws.{OneHeld, RunsGoOn, RunsSplit}

pub runs_go_on : RunsGoOn
runs_go_on h old mid more [] fs front back = subst (λ held. Run h held fs more) front back
runs_go_on h old mid more (e ∷ es) fs front back = (front.0, front.1, runs_go_on h front.0 mid more es fs front.2 back)

pub runs_split : RunsSplit
runs_split h old more [] fs run = (old, refl, run)
runs_split h old more (e ∷ es) fs run =
    let rest : (mid : Held) × Run h run.0 es mid × Run h mid fs more = runs_split h run.0 more es fs run.2
    in (rest.0, (run.0, run.1, rest.1), rest.2)

pub one_messages : (version : ℕ) (rows : List Row) (types words ms ns : List (List ℕ)) → AreCanonical version rows types words ms → AreCanonical version rows types words ns → ms ≡ ns
one_messages version [] types words [] [] a b = refl
one_messages version [] types words [] (n ∷ ns) a b = absurd b
one_messages version [] types words (m ∷ ms) ns a b = absurd a
one_messages version (r ∷ rows) types words [] ns a b = absurd a
one_messages version (r ∷ rows) types words (m ∷ ms) [] a b = absurd b
one_messages version (r ∷ rows) types words (m ∷ ms) (n ∷ ns) a b =
    ap₂ (λ x xs. x ∷ xs) (one_meaning r types words m n a.0.means b.0.means) (one_messages version rows types words ms ns a.1 b.1)

one_more : (h : Header) (held a b : Held) (e : JournalEntry) → Accepts h held e a → Accepts h held e b → a ≡ b
one_more h held a b (Files names) x y = x ∙ sym y
one_more h held a b (Types first texts) x y = x.1 ∙ sym y.1
one_more h held a b (Words first texts) x y = x.1 ∙ sym y.1
one_more h held a b (Segment s) x y =
    x.2 ∙ (ap (λ ms. record held { pieces = held.pieces ++ piece_of s ms ∷ [] }) (one_messages h.version s.rows held.types held.words x.0 y.0 x.1.canonical y.1.canonical) ∙ sym y.2)

pub one_held : OneHeld
one_held h old a b [] x y = x ∙ sym y
one_held h old a b (e ∷ es) x y =
    one_held h x.0 a b es x.2 (subst (λ held. Run h held es b) (one_more h old y.0 x.0 e y.1 x.1) y.2)
